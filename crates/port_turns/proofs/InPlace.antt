-- The ports of actions exchanged one after another, where they stand.
use Rattle.std.proofs.Common.{◌≡◌, ℕ, zero, suc, ◌+◌, ◌≤◌, ◌<◌, true, if◌then◌else◌, List, [], ◌∷◌, ◌++◌, length, take, drop, refl, sym, ap, subst, ◌∙◌, inl, inr, true≢false, append_assoc, arith, Result, Ok, Err}
use Rattle.std.specs.Prelude.{is_ok}
use Rattle.std.proofs.lemmas.Bool.{cases_Bool}
use Rattle.std.proofs.lemmas.List.{length-take-le, length-drop, take-append-drop, nil_from_length}
use Rattle.of10_model.specs.Normal.{number_at}
use Rattle.of10_model.specs.Results.{◌>>=◌}
use Rattle.of10_model.proofs.Results.{bind_ok}
use Rattle.of10_action.specs.declared.fault.WireFault.{WireFault}
use Rattle.of10_action.specs.Reading.{head_at, action_at, actions_at, read_all}
use Rattle.of10_action.proofs.Loop.{IsHead, head_is, shorter, same_count}
use Rattle.of10_action.proofs.Refused.{number_front}
use Rattle.flowspace.specs.Swaps.{Pairs}
use Rattle.port_turns.specs.Turns.{turn_port, names_port, turn_action, turn_first, behind_first, turn_actions, turn_list}
use Rattle.port_turns.proofs.ActionTurns.{headed, none_there, first_length}
use Rattle.port_turns.proofs.Parts.{Turning, turning_goes_on, turning_ends, number_after, port_within}

-- ---- one count or another

count_by : (pairs : Pairs) (n m : ℕ) (bytes : List ℕ) → length bytes ≤ n + 1 → length bytes ≤ m + 1 → ((l : List ℕ) → length l ≤ n → length l ≤ m → turn_actions pairs n l ≡ turn_actions pairs m l)
    → (found : Result (ℕ × ℕ) WireFault) → head_at bytes ≡ found
    → turn_first pairs found bytes ++ turn_actions pairs n (behind_first found bytes) ≡ turn_first pairs found bytes ++ turn_actions pairs m (behind_first found bytes)
count_by pairs n m bytes le1 le2 later (Err fault) is = ap (λ (l : List ℕ). bytes ++ l) (none_there pairs n ∙ sym (none_there pairs m))
count_by pairs n m bytes le1 le2 later (Ok head) is =
    let s = head_is bytes head is in
    let eight = s.eight in
    let rest = length-drop head.1 bytes in
    ap (λ (l : List ℕ). turn_action pairs head.0 (take head.1 bytes) ++ l) (later (drop head.1 bytes) (omega (arith, eight, rest, le1)) (omega (arith, eight, rest, le2)))

turn_count : (pairs : Pairs) (n m : ℕ) (bytes : List ℕ) → length bytes ≤ n → length bytes ≤ m → turn_actions pairs n bytes ≡ turn_actions pairs m bytes
unfolding turn_actions
turn_count pairs n m [] le1 le2 = none_there pairs n ∙ sym (none_there pairs m)
turn_count pairs zero m (b ∷ bytes) le1 le2 = absurd (omega arith)
turn_count pairs (suc n) zero (b ∷ bytes) le1 le2 = absurd (omega arith)
turn_count pairs (suc n) (suc m) (b ∷ bytes) le1 le2 = count_by pairs n m (b ∷ bytes) (omega (arith, le1)) (omega (arith, le2)) (turn_count pairs n m) (head_at (b ∷ bytes)) refl

-- ---- the first of a list that is right

abbrev pub IsRight : List ℕ → Type 0
IsRight list = is_ok (read_all list) ≡ true

ok_of : {A E : Type 0} (r : Result A E) → is_ok r ≡ true → (a : A) × (r ≡ Ok a)
ok_of (Ok a) is = (a, refl)
ok_of (Err e) is = absurd (true≢false (sym is))

record HasFirst (list : List ℕ) : Type 0 where
  head : ℕ × ℕ
  is : head_at list ≡ Ok head
  later : IsRight (drop head.1 list)

first_of : (list : List ℕ) → 0 < length list → IsRight list → HasFirst list
unfolding actions_at
first_of [] some right = absurd (omega arith)
first_of (b ∷ l) some right =
    let list = b ∷ l in
    let all = ok_of (read_all list) right in
    let first = bind_ok (action_at list) (λ x. actions_at (length l) x.1 >>= λ others. Ok (x.0 ∷ others)) all.0 all.1 in
    let others = bind_ok (actions_at (length l) first.0.1) (λ others. Ok (first.0.0 ∷ others)) all.0 first.2 in
    let s = shorter list first.0 first.1 in
    let h = headed list first.0 first.1 in
    let read : read_all first.0.1 ≡ Ok others.0 = same_count (length first.0.1) (length l) first.0.1 (omega arith) (omega (arith, s)) ∙ others.1 in
    record { head = h.0; is = h.1; later = ap (λ (rest : List ℕ). is_ok (read_all rest)) h.3 ∙ ap is_ok read }

list_steps : (pairs : Pairs) (list : List ℕ) (head : ℕ × ℕ) → 0 < length list → head_at list ≡ Ok head
    → turn_list pairs list ≡ turn_action pairs head.0 (take head.1 list) ++ turn_list pairs (drop head.1 list)
unfolding turn_actions
list_steps pairs [] head some is = absurd (omega arith)
list_steps pairs (b ∷ l) head some is =
    let list = b ∷ l in
    let s = head_is list head is in
    let eight = s.eight in
    let rest = length-drop head.1 list in
    ap (λ (r : Result (ℕ × ℕ) WireFault). turn_first pairs r list ++ turn_actions pairs (length l) (behind_first r list)) is
    ∙ ap (λ (k : List ℕ). turn_action pairs head.0 (take head.1 list) ++ k) (turn_count pairs (length l) (length (drop head.1 list)) (drop head.1 list) (omega (arith, eight, rest)) (omega arith))

-- ---- a step of the loop

module _ (pairs : Pairs) (bytes : List ℕ) (place end : ℕ) (whole : List ℕ) (t : Turning (turn_list pairs) IsRight bytes place end whole) (lt : place < end) where
  some : 0 < length t.left
  some = let there = t.there in omega (arith, there, lt)

  first : HasFirst t.left
  first = first_of t.left some t.form

  is : IsHead t.left first.head
  is = head_is t.left first.head first.is

  number_here : (k : ℕ) → k + 2 ≤ length t.left → number_at bytes (place + k) 2 ≡ number_at t.left k 2
  number_here k le =
      ap (λ (l : List ℕ). number_at l (place + k) 2) t.parts
      ∙ ap (λ n. number_at (t.done ++ (t.left ++ t.rest)) (n + k) 2) (sym t.here)
      ∙ number_after t.done (t.left ++ t.rest) k 2
      ∙ number_front t.left t.rest k 2 le

  kind_here : number_at bytes place 2 ≡ first.head.0
  kind_here = let eight = is.eight in let fits = is.whole in ap (λ n. number_at bytes n 2) (omega arith) ∙ number_here 0 (omega (arith, eight, fits)) ∙ is.kind

  size_here : number_at bytes (place + 2) 2 ≡ first.head.1
  size_here = let eight = is.eight in let fits = is.whole in number_here 2 (omega (arith, eight, fits)) ∙ is.size

  pub action_room : place + 8 ≤ end
  action_room = let eight = is.eight in let fits = is.whole in let there = t.there in omega (arith, eight, fits, there)

  pub action_size : (0 < number_at bytes (place + 2) 2) × (place + number_at bytes (place + 2) 2 ≤ end)
  action_size = let eight = is.eight in let fits = is.whole in let there = t.there in let size = size_here in (omega (arith, eight, size), omega (arith, size, fits, there))

  abbrev own : List ℕ
  own = take first.head.1 t.left

  abbrev more : List ℕ
  more = drop first.head.1 t.left

  long : length own ≡ first.head.1
  long = length-take-le first.head.1 t.left is.whole

  split : t.left ≡ own ++ more
  split = sym (take-append-drop first.head.1 t.left)

  all : bytes ≡ t.done ++ (own ++ (more ++ t.rest))
  all = t.parts ∙ ap (λ (l : List ℕ). t.done ++ (l ++ t.rest)) split ∙ ap (λ (l : List ℕ). t.done ++ l) (append_assoc own more t.rest)

  turned_here : turn_port pairs (place + 4) bytes ≡ t.done ++ (turn_port pairs 4 own ++ (more ++ t.rest))
  turned_here =
      let eight = is.eight in
      let l = long in
      ap (turn_port pairs (place + 4)) all
      ∙ ap (λ n. turn_port pairs (n + 4) (t.done ++ (own ++ (more ++ t.rest)))) (sym t.here)
      ∙ port_within pairs t.done own (more ++ t.rest) 4 (omega (arith, eight, l))

  next_is : (if names_port first.head.0 then turn_port pairs (place + 4) bytes else bytes) ≡ t.done ++ (turn_action pairs first.head.0 own ++ (more ++ t.rest))
  next_is = elim (cases_Bool (names_port first.head.0)) [
    | inl names ↦ rw names turned_here
    | inr other ↦ rw other all
  ]

  pub action_step : (next : List ℕ) → next ≡ (if names_port (number_at bytes place 2) then turn_port pairs (place + 4) bytes else bytes)
      → Turning (turn_list pairs) IsRight next (place + number_at bytes (place + 2) 2) end whole
  action_step next made =
      let eight = is.eight in
      let l = long in
      let as_parts : next ≡ t.done ++ (turn_action pairs first.head.0 own ++ (more ++ t.rest)) =
      made ∙ ap (λ k. if names_port k then turn_port pairs (place + 4) bytes else bytes) kind_here ∙ next_is in
      let step = turning_goes_on (turn_list pairs) IsRight bytes next place end first.head.1 whole t own (turn_action pairs first.head.0 own) more split long
      (first_length pairs first.head.0 own (omega (arith, eight, l)) ∙ long) (list_steps pairs t.left first.head some first.is) first.later as_parts in
      subst (λ n. Turning (turn_list pairs) IsRight next (place + n) end whole) (sym size_here) step

-- ---- the end of the loop

pub list_ends : (pairs : Pairs) (bytes : List ℕ) (place end : ℕ) (whole : List ℕ) → Turning (turn_list pairs) IsRight bytes place end whole → end ≤ place → bytes ≡ whole
list_ends pairs bytes place end whole t le =
    let there = t.there in
    let none : t.left ≡ [] = nil_from_length t.left (omega (arith, there, le)) in
    turning_ends (turn_list pairs) IsRight bytes place end whole t (ap (turn_list pairs) none ∙ none_there pairs 0 ∙ sym none)
