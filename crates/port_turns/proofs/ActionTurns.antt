-- Actions whose ports are exchanged where they stand are read as the actions with their ports exchanged.
use Rattle.std.proofs.Common.{◌≡◌, ℕ, zero, suc, ◌≤◌, ◌<◌, ◌^◌, List, [], ◌∷◌, ◌++◌, map, length, take, drop, refl, sym, ap, ◌∙◌, inl, inr, Result, Ok, Err, arith}
use Rattle.std.proofs.lemmas.Bool.{cases_Bool}
use Rattle.std.proofs.lemmas.List.{length-append, length-take-le, length-drop, take-append-drop, drop_at, nil_from_length}
use Rattle.of10_model.specs.Normal.{number_at}
use Rattle.of10_model.specs.Padding.{AlikeBut}
use Rattle.of10_model.specs.Results.{◌>>=◌}
use Rattle.of10_model.proofs.Padding.{number_before, number_behind}
use Rattle.of10_model.proofs.Results.{ok_is, bind_ok}
use Rattle.of10_action.specs.declared.action.Action.{Action}
use Rattle.of10_action.specs.declared.fault.WireFault.{WireFault}
use Rattle.of10_action.specs.Actions.{size_of}
use Rattle.of10_action.specs.Reading.{head_at, action_of, action_at, actions_at, read_all}
use Rattle.of10_action.proofs.Loop.{IsHead, head_is, shorter, reads_on}
use Rattle.flowspace.specs.Swaps.{Pairs}
use Rattle.port_turns.specs.Turned.{turned_action}
use Rattle.port_turns.specs.Turns.{written, turn_port, names_port, turn_action, turn_first, behind_first, turn_actions}
use Rattle.of10_action.proofs.Refused.{number_front, action_front, head_from}
use Rattle.of10_ctl.proofs.Patched.{with_length, with_alike, with_read}
use Rattle.port_turns.proofs.Patched.{written_small, number_take}

-- ---- one action is turned

-- the bytes stay as they are but for a port at 4
record IsTurned (pairs : Pairs) (kind : ℕ) (own turned : List ℕ) : Type 0 where
  size : length turned ≡ length own
  kind_too : number_at turned 0 2 ≡ number_at own 0 2
  size_too : number_at turned 2 2 ≡ number_at own 2 2
  action : action_of kind turned ≡ turned_action (written pairs) (action_of kind own)

-- a kind that names a port
port_turned : (pairs : Pairs) (own : List ℕ) → 8 ≤ length own
    → (length (turn_port pairs 4 own) ≡ length own) × AlikeBut 4 6 own (turn_port pairs 4 own) × (number_at (turn_port pairs 4 own) 4 2 ≡ written pairs (number_at own 4 2))
port_turned pairs own eight =
    let port = written pairs (number_at own 4 2) in
    let lt : port < 2 ^ 16 = written_small pairs (number_at own 4 2) in
    (with_length 4 port own (omega (arith, eight)), with_alike 4 port own (omega (arith, eight)), with_read 4 port own (omega (arith, eight)) lt)

same_turned : (pairs : Pairs) (kind : ℕ) (own : List ℕ) → action_of kind own ≡ turned_action (written pairs) (action_of kind own) → IsTurned pairs kind own own
same_turned pairs kind own is = record { size = refl; kind_too = refl; size_too = refl; action = is }

one_turned : (pairs : Pairs) (kind : ℕ) (own : List ℕ) → kind ≤ 11 → 8 ≤ length own → IsTurned pairs kind own (turn_action pairs kind own)
unfolding action_of
one_turned pairs zero own le eight =
    let t = port_turned pairs own eight in
    record {
      size = t.0;
      kind_too = sym (number_before 4 6 own (turn_port pairs 4 own) t.1 0 2 (omega arith));
      size_too = sym (number_before 4 6 own (turn_port pairs 4 own) t.1 2 2 (omega arith));
      action = rw (t.2, sym (number_behind 4 6 own (turn_port pairs 4 own) t.1 0 2)) refl;
    }
one_turned pairs (suc zero) own le eight = same_turned pairs 1 own refl
one_turned pairs (suc (suc zero)) own le eight = same_turned pairs 2 own refl
one_turned pairs (suc (suc (suc zero))) own le eight = same_turned pairs 3 own refl
one_turned pairs (suc (suc (suc (suc zero)))) own le eight = same_turned pairs 4 own refl
one_turned pairs (suc (suc (suc (suc (suc zero))))) own le eight = same_turned pairs 5 own refl
one_turned pairs (suc (suc (suc (suc (suc (suc zero)))))) own le eight = same_turned pairs 6 own refl
one_turned pairs (suc (suc (suc (suc (suc (suc (suc zero))))))) own le eight = same_turned pairs 7 own refl
one_turned pairs (suc (suc (suc (suc (suc (suc (suc (suc zero)))))))) own le eight = same_turned pairs 8 own refl
one_turned pairs (suc (suc (suc (suc (suc (suc (suc (suc (suc zero))))))))) own le eight = same_turned pairs 9 own refl
one_turned pairs (suc (suc (suc (suc (suc (suc (suc (suc (suc (suc zero)))))))))) own le eight = same_turned pairs 10 own refl
one_turned pairs (suc (suc (suc (suc (suc (suc (suc (suc (suc (suc (suc zero))))))))))) own le eight =
    let t = port_turned pairs own eight in
    record {
      size = t.0;
      kind_too = sym (number_before 4 6 own (turn_port pairs 4 own) t.1 0 2 (omega arith));
      size_too = sym (number_before 4 6 own (turn_port pairs 4 own) t.1 2 2 (omega arith));
      action = rw (t.2, sym (number_behind 4 6 own (turn_port pairs 4 own) t.1 6 4)) refl;
    }
one_turned pairs (suc (suc (suc (suc (suc (suc (suc (suc (suc (suc (suc (suc n)))))))))))) own le eight = absurd (omega arith)

-- the first action of bytes, turned, is read in front of whatever stands behind it
first_turned : (pairs : Pairs) (bytes : List ℕ) (head : ℕ × ℕ) (more : List ℕ) → IsHead bytes head
    → action_at (turn_action pairs head.0 (take head.1 bytes) ++ more) ≡ Ok (turned_action (written pairs) (action_of head.0 bytes), more)
unfolding action_at
first_turned pairs bytes head more is =
    let kind = head.0 in
    let size = head.1 in
    let own = take size bytes in
    let rest = drop size bytes in
    let long : length own ≡ size = length-take-le size bytes is.whole in
    let t = one_turned pairs kind own is.known (omega (arith, long, is.eight)) in
    let turned = turn_action pairs kind own in
    let turned_long : length turned ≡ size = t.size ∙ long in
    let within : size_of kind ≤ length own = rw (← is.of_kind) (omega (arith, long)) in
    let turned_within : size_of kind ≤ length turned = rw (← is.of_kind) (omega (arith, turned_long)) in
    let is_kind : number_at (turned ++ more) 0 2 ≡ kind = number_front turned more 0 2 (omega (arith, turned_long, is.eight)) ∙ t.kind_too ∙ number_take size bytes 0 2 (omega (arith, is.eight)) ∙ is.kind in
    let is_size : number_at (turned ++ more) 2 2 ≡ size = number_front turned more 2 2 (omega (arith, turned_long, is.eight)) ∙ t.size_too ∙ number_take size bytes 2 2 (omega (arith, is.eight)) ∙ is.size in
    let read : head_at (turned ++ more) ≡ Ok (kind, size) = head_from (turned ++ more) kind size is_kind is_size is.eight (omega (arith, turned_long, length-append turned more)) is.known is.of_kind in
    let whole : own ++ rest ≡ bytes = take-append-drop size bytes in
    let action : action_of kind (turned ++ more) ≡ turned_action (written pairs) (action_of kind bytes) =
    action_front kind turned more is.known turned_within ∙ t.action ∙ ap (turned_action (written pairs)) (sym (action_front kind own rest is.known within) ∙ ap (action_of kind) whole) in
    let behind : drop size (turned ++ more) ≡ more = drop_at turned more size turned_long in
    rw (read, action, behind) refl

-- ---- a list of actions

pub first_length : (pairs : Pairs) (kind : ℕ) (own : List ℕ) → 8 ≤ length own → length (turn_action pairs kind own) ≡ length own
first_length pairs kind own eight = elim (cases_Bool (names_port kind)) [
  | inl names ↦ rw names (with_length 4 (written pairs (number_at own 4 2)) own (omega (arith, eight)))
  | inr other ↦ rw other refl
]

-- the first action, turned, and what is behind it are as long as all bytes
by_head : (pairs : Pairs) (n : ℕ) (bytes : List ℕ) → ((l : List ℕ) → length (turn_actions pairs n l) ≡ length l) → (found : Result (ℕ × ℕ) WireFault) → head_at bytes ≡ found
    → length (turn_first pairs found bytes ++ turn_actions pairs n (behind_first found bytes)) ≡ length bytes
by_head pairs n bytes later (Err fault) is = length-append bytes (turn_actions pairs n []) ∙ (let none = later [] in omega (arith, none))
by_head pairs n bytes later (Ok head) is =
    let s = head_is bytes head is in
    let whole = s.whole in
    let long = length-take-le head.1 bytes s.whole in
    let front = first_length pairs head.0 (take head.1 bytes) (omega (arith, long, s.eight)) in
    let others = later (drop head.1 bytes) in
    let rest = length-drop head.1 bytes in
    length-append (turn_action pairs head.0 (take head.1 bytes)) (turn_actions pairs n (drop head.1 bytes)) ∙ omega (arith, front, others, rest, long, whole)

pub turn_actions_length : (pairs : Pairs) (n : ℕ) (bytes : List ℕ) → length (turn_actions pairs n bytes) ≡ length bytes
unfolding turn_actions
turn_actions_length pairs zero bytes = refl
turn_actions_length pairs (suc n) bytes = by_head pairs n bytes (turn_actions_length pairs n) (head_at bytes) refl

pub none_there : (pairs : Pairs) (n : ℕ) → turn_actions pairs n [] ≡ []
none_there pairs n = nil_from_length (turn_actions pairs n []) (turn_actions_length pairs n [])

none_read : (n : ℕ) (actions : List Action) → actions_at n [] ≡ Ok actions → [] ≡ actions
unfolding actions_at
none_read zero actions e = ok_is [] actions e
none_read (suc n) actions e = ok_is [] actions e

-- what the reading of one action says of its head
pub headed : (l : List ℕ) (x : Action × List ℕ) → action_at l ≡ Ok x → (head : ℕ × ℕ) × (head_at l ≡ Ok head) × (action_of head.0 l ≡ x.0) × (drop head.1 l ≡ x.1)
unfolding action_at
headed l x e =
    let head = bind_ok (head_at l) (λ h. Ok (action_of h.0 l, drop h.1 l)) x e in
    let made = ok_is (action_of head.0.0 l, drop head.0.1 l) x head.2 in
    (head.0, head.1, ap (λ (y : Action × List ℕ). y.0) made, ap (λ (y : Action × List ℕ). y.1) made)

pub actions_turned : (pairs : Pairs) (n : ℕ) (bytes : List ℕ) (actions : List Action) → length bytes ≤ n → actions_at n bytes ≡ Ok actions
    → read_all (turn_actions pairs n bytes) ≡ Ok (map (turned_action (written pairs)) actions)
unfolding turn_actions actions_at
actions_turned pairs n [] actions le e = ap read_all (none_there pairs n) ∙ ap (λ (l : List Action). Ok (map (turned_action (written pairs)) l)) (none_read n actions e)
actions_turned pairs zero (b ∷ bytes) actions le e = absurd (omega arith)
actions_turned pairs (suc n) (b ∷ bytes) actions le e =
    let all_bytes = b ∷ bytes in
    let first = bind_ok (action_at all_bytes) (λ x. actions_at n x.1 >>= λ others. Ok (x.0 ∷ others)) actions e in
    let others = bind_ok (actions_at n first.0.1) (λ others. Ok (first.0.0 ∷ others)) actions first.2 in
    let s = shorter all_bytes first.0 first.1 in
    let h = headed all_bytes first.0 first.1 in
    let later = actions_turned pairs n first.0.1 others.0 (omega (arith, le, s)) others.1 in
    let more = turn_actions pairs n first.0.1 in
    let one : action_at (turn_action pairs h.0.0 (take h.0.1 all_bytes) ++ more) ≡ Ok (turned_action (written pairs) first.0.0, more) =
    first_turned pairs all_bytes h.0 more (head_is all_bytes h.0 h.1) ∙ ap (λ (a : Action). Ok (turned_action (written pairs) a, more)) h.2 in
    let same : turn_first pairs (head_at all_bytes) all_bytes ++ turn_actions pairs n (behind_first (head_at all_bytes) all_bytes) ≡ turn_action pairs h.0.0 (take h.0.1 all_bytes) ++ more =
    ap (λ (r : Result (ℕ × ℕ) WireFault). turn_first pairs r all_bytes ++ turn_actions pairs n (behind_first r all_bytes)) h.1
    ∙ ap (λ (l : List ℕ). turn_action pairs h.0.0 (take h.0.1 all_bytes) ++ turn_actions pairs n l) h.3 in
    ap read_all same
    ∙ reads_on (turn_action pairs h.0.0 (take h.0.1 all_bytes) ++ more) (turned_action (written pairs) first.0.0, more) one
    ∙ ap (λ (r : Result (List Action) WireFault). r >>= λ rest. Ok (turned_action (written pairs) first.0.0 ∷ rest)) later
    ∙ ap (λ (l : List Action). Ok (map (turned_action (written pairs)) l)) (ok_is (first.0.0 ∷ others.0) actions others.2)
