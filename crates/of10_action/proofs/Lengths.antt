-- What is read has the length of its spelling.
use Rattle.std.proofs.Common.{◌≡◌, ℕ, zero, suc, ◌+◌, ◌≤◌, List, [], ◌∷◌, length, Ok, refl, sym, ap, subst, ◌∙◌, arith}
use Rattle.std.proofs.lemmas.List.{length-append, length-drop}
use Rattle.std.proofs.lemmas.List.Concat.{flat_map-cons}
use Rattle.of10_model.specs.Results.{◌>>=◌}
use Rattle.of10_model.proofs.Results.{bind_ok}
use Rattle.of10_action.specs.declared.action.Action.{Action}
use Rattle.of10_action.specs.declared.action.Action.TheVariants.{Output, SetVlanVid, SetVlanPcp, StripVlan, SetDlSrc, SetDlDst, SetNwSrc, SetNwDst, SetNwTos, SetTpSrc, SetTpDst, Enqueue}
use Rattle.of10_action.specs.Actions.{kind_of, size_of, spell, spelling}
use Rattle.of10_action.specs.Reading.{action_of, action_at, actions_at, read_all}
use Rattle.of10_action.proofs.Loop.{first_is, shorter, same_count}

length-spell : (a : Action) → length (spell a) ≡ size_of (kind_of a)
length-spell (Output port max_len) = refl
length-spell (SetVlanVid vlan) = refl
length-spell (SetVlanPcp priority) = refl
length-spell StripVlan = refl
length-spell (SetDlSrc address) = refl
length-spell (SetDlDst address) = refl
length-spell (SetNwSrc address) = refl
length-spell (SetNwDst address) = refl
length-spell (SetNwTos service) = refl
length-spell (SetTpSrc port) = refl
length-spell (SetTpDst port) = refl
length-spell (Enqueue port queue) = refl

kind_of-action_of : (kind : ℕ) (bytes : List ℕ) → kind ≤ 11 → kind_of (action_of kind bytes) ≡ kind
unfolding action_of
kind_of-action_of zero bytes le = refl
kind_of-action_of (suc zero) bytes le = refl
kind_of-action_of (suc (suc zero)) bytes le = refl
kind_of-action_of (suc (suc (suc zero))) bytes le = refl
kind_of-action_of (suc (suc (suc (suc zero)))) bytes le = refl
kind_of-action_of (suc (suc (suc (suc (suc zero))))) bytes le = refl
kind_of-action_of (suc (suc (suc (suc (suc (suc zero)))))) bytes le = refl
kind_of-action_of (suc (suc (suc (suc (suc (suc (suc zero))))))) bytes le = refl
kind_of-action_of (suc (suc (suc (suc (suc (suc (suc (suc zero)))))))) bytes le = refl
kind_of-action_of (suc (suc (suc (suc (suc (suc (suc (suc (suc zero))))))))) bytes le = refl
kind_of-action_of (suc (suc (suc (suc (suc (suc (suc (suc (suc (suc zero)))))))))) bytes le = refl
kind_of-action_of (suc (suc (suc (suc (suc (suc (suc (suc (suc (suc (suc zero))))))))))) bytes le = refl
kind_of-action_of (suc (suc (suc (suc (suc (suc (suc (suc (suc (suc (suc (suc n)))))))))))) bytes le = absurd (omega arith)

-- the first action takes the length of its spelling
first_length : (bytes : List ℕ) (x : Action × List ℕ) → action_at bytes ≡ Ok x → length (spell x.0) + length x.1 ≡ length bytes
first_length bytes x e =
    let (head, is, made) = first_is bytes x e in
    let P : Action × List ℕ → Type 0 = λ y. length (spell y.0) + length y.1 ≡ length bytes in
    let front : length (spell (action_of head.0 bytes)) ≡ head.1 = length-spell (action_of head.0 bytes) ∙ ap size_of (kind_of-action_of head.0 bytes is.known) ∙ sym is.of_kind in
    subst P made (rw front (omega (arith, length-drop head.1 bytes, is.whole)))

all_lengths : (n : ℕ) (bytes : List ℕ) (actions : List Action) → length bytes ≤ n → actions_at n bytes ≡ Ok actions → length (spelling actions) ≡ length bytes
unfolding actions_at
all_lengths n [] actions le e =
    let is : [] ≡ actions = cc in
    rw (← is) refl
all_lengths zero (b ∷ bytes) actions le e = absurd (omega arith)
all_lengths (suc n) (b ∷ bytes) actions le e =
    let first = bind_ok (action_at (b ∷ bytes)) (λ x. actions_at n x.1 >>= λ others. Ok (x.0 ∷ others)) actions e in
    let others = bind_ok (actions_at n first.0.1) (λ others. Ok (first.0.0 ∷ others)) actions first.2 in
    let is : first.0.0 ∷ others.0 ≡ actions = let h = others.2 in cc in
    let one = first_length (b ∷ bytes) first.0 first.1 in
    let s = shorter (b ∷ bytes) first.0 first.1 in
    let more = all_lengths n first.0.1 others.0 (omega arith) others.1 in
    let P : List Action → Type 0 = λ l. length (spelling l) ≡ length (b ∷ bytes) in
    subst P is (ap length (flat_map-cons spell first.0.0 others.0) ∙ omega (arith, length-append (spell first.0.0) (spelling others.0)))

pub spelled_length : (bytes : List ℕ) (actions : List Action) → read_all bytes ≡ Ok actions → length (spelling actions) ≡ length bytes
spelled_length bytes actions e = all_lengths (length bytes) bytes actions (omega arith) e

pub any_count : (bytes : List ℕ) (n : ℕ) → length bytes ≤ n → actions_at n bytes ≡ read_all bytes
any_count bytes n le = same_count n (length bytes) bytes le (omega arith)
