-- What is spelled is read again.
use Rattle.std.proofs.Common.{◌≡◌, ℕ, List, [], ◌∷◌, ◌++◌, length, Result, Ok, refl, ap, ◌∙◌, arith}
use Rattle.std.specs.List.{All}
use Rattle.std.proofs.lemmas.Bool.{le-ltb}
use Rattle.std.proofs.lemmas.List.Elements.{All-head, All-tail}
use Rattle.std.proofs.lemmas.List.Concat.{flat_map-cons}
use Rattle.byteorder.specs.Endian.{big_bytes}
use Rattle.byteorder.specs.Numbers.{big_number-reads_back}
use Rattle.of10_model.specs.Results.{◌>>=◌}
use Rattle.of10_action.specs.declared.action.Action.{Action}
use Rattle.of10_action.specs.declared.action.Action.TheVariants.{Output, SetVlanVid, SetVlanPcp, StripVlan, SetDlSrc, SetDlDst, SetNwSrc, SetNwDst, SetNwTos, SetTpSrc, SetTpDst, Enqueue}
use Rattle.of10_action.specs.declared.fault.WireFault.{WireFault}
use Rattle.of10_action.specs.Actions.{IsAction, padding, spell, spelling}
use Rattle.of10_action.specs.Reading.{head_at, action_of, action_at, actions_at, read_all}
use Rattle.of10_action.proofs.Loop.{reads_on}

pub action_again : (a : Action) (rest : List ℕ) → IsAction a → action_at (spell a ++ rest) ≡ Ok (a, rest)
unfolding action_at action_of head_at
action_again (Output port max_len) rest h =
    let bytes = spell (Output port max_len) ++ rest in
    rw (le-ltb (length bytes) 4 (omega arith), le-ltb (length bytes) 8 (omega arith), big_number-reads_back 2 port (big_bytes 2 max_len ++ rest) h.0, big_number-reads_back 2 max_len (rest) h.1) refl
action_again (SetVlanVid vlan) rest h =
    let bytes = spell (SetVlanVid vlan) ++ rest in
    rw (le-ltb (length bytes) 4 (omega arith), le-ltb (length bytes) 8 (omega arith), big_number-reads_back 2 vlan (padding 2 ++ rest) h) refl
action_again (SetVlanPcp priority) rest h =
    let bytes = spell (SetVlanPcp priority) ++ rest in
    rw (le-ltb (length bytes) 4 (omega arith), le-ltb (length bytes) 8 (omega arith)) refl
action_again StripVlan rest h =
    let bytes = spell StripVlan ++ rest in
    rw (le-ltb (length bytes) 4 (omega arith), le-ltb (length bytes) 8 (omega arith)) refl
action_again (SetDlSrc address) rest h =
    let bytes = spell (SetDlSrc address) ++ rest in
    rw (le-ltb (length bytes) 4 (omega arith), le-ltb (length bytes) 8 (omega arith), le-ltb (length bytes) 16 (omega arith), big_number-reads_back 6 address (padding 6 ++ rest) h) refl
action_again (SetDlDst address) rest h =
    let bytes = spell (SetDlDst address) ++ rest in
    rw (le-ltb (length bytes) 4 (omega arith), le-ltb (length bytes) 8 (omega arith), le-ltb (length bytes) 16 (omega arith), big_number-reads_back 6 address (padding 6 ++ rest) h) refl
action_again (SetNwSrc address) rest h =
    let bytes = spell (SetNwSrc address) ++ rest in
    rw (le-ltb (length bytes) 4 (omega arith), le-ltb (length bytes) 8 (omega arith), big_number-reads_back 4 address (rest) h) refl
action_again (SetNwDst address) rest h =
    let bytes = spell (SetNwDst address) ++ rest in
    rw (le-ltb (length bytes) 4 (omega arith), le-ltb (length bytes) 8 (omega arith), big_number-reads_back 4 address (rest) h) refl
action_again (SetNwTos service) rest h =
    let bytes = spell (SetNwTos service) ++ rest in
    rw (le-ltb (length bytes) 4 (omega arith), le-ltb (length bytes) 8 (omega arith)) refl
action_again (SetTpSrc port) rest h =
    let bytes = spell (SetTpSrc port) ++ rest in
    rw (le-ltb (length bytes) 4 (omega arith), le-ltb (length bytes) 8 (omega arith), big_number-reads_back 2 port (padding 2 ++ rest) h) refl
action_again (SetTpDst port) rest h =
    let bytes = spell (SetTpDst port) ++ rest in
    rw (le-ltb (length bytes) 4 (omega arith), le-ltb (length bytes) 8 (omega arith), big_number-reads_back 2 port (padding 2 ++ rest) h) refl
action_again (Enqueue port queue) rest h =
    let bytes = spell (Enqueue port queue) ++ rest in
    rw (le-ltb (length bytes) 4 (omega arith), le-ltb (length bytes) 8 (omega arith), le-ltb (length bytes) 16 (omega arith), big_number-reads_back 2 port (padding 6 ++ (big_bytes 4 queue ++ rest)) h.0, big_number-reads_back 4 queue (rest) h.1) refl

pub actions_again : (actions : List Action) → All IsAction actions → read_all (spelling actions) ≡ Ok actions
unfolding actions_at
actions_again [] h = refl
actions_again (a ∷ actions) h =
    let first : action_at (spelling (a ∷ actions)) ≡ Ok (a, spelling actions) = ap action_at (flat_map-cons spell a actions) ∙ action_again a (spelling actions) (All-head IsAction a actions h) in
    reads_on (spelling (a ∷ actions)) (a, spelling actions) first ∙ ap (λ (r : Result (List Action) WireFault). r >>= λ others. Ok (a ∷ others)) (actions_again actions (All-tail IsAction a actions h))
