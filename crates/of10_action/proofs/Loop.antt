-- Reading actions one after the other, as a loop does.
use Rattle.std.proofs.Common.{◌≡◌, ◌⊎◌, inl, inr, ℕ, zero, suc, ◌≤◌, ◌<◌, ◌%◌, true, not, ltb, eqb, ◌||◌, List, [], ◌∷◌, ◌++◌, length, drop, Result, Ok, Err, refl, sym, ap, subst, ◌∙◌, arith}
use Rattle.std.specs.Prelude.{is_ok}
use Rattle.std.proofs.lemmas.Bool.{ltb-false, eqb-true, or_parts}
use Rattle.std.proofs.lemmas.List.{append-nil, length-drop}
use Rattle.of10_model.specs.Normal.{number_at}
use Rattle.of10_model.specs.Results.{◌>>=◌}
use Rattle.of10_model.proofs.Results.{ok_is, passed, met, bind_ok, same_bind, with_front, regroup}
use Rattle.of10_action.specs.declared.action.Action.{Action}
use Rattle.of10_action.specs.declared.fault.WireFault.{WireFault}
use Rattle.of10_action.specs.declared.fault.WireFault.TheVariants.{ActionKind, ActionLength, ActionVendor}
use Rattle.of10_action.specs.Actions.{size_of}
use Rattle.of10_action.specs.Reading.{head_at, action_of, action_at, actions_at, read_all}

-- a head that is read is the two numbers that begin the bytes: a known kind and its length, which is 8 and more and no more than the bytes
pub record IsHead (bytes : List ℕ) (head : ℕ × ℕ) : Type 0 where
  pub kind : number_at bytes 0 2 ≡ head.0
  pub size : number_at bytes 2 2 ≡ head.1
  pub eight : 8 ≤ head.1
  pub whole : head.1 ≤ length bytes
  pub known : head.0 ≤ 11
  pub of_kind : head.1 ≡ size_of head.0

pub head_is : (bytes : List ℕ) (head : ℕ × ℕ) → head_at bytes ≡ Ok head → IsHead bytes head
unfolding head_at
head_is bytes head e =
    let kind = number_at bytes 0 2 in
    let size = number_at bytes 2 2 in
    let a = passed (ltb (length bytes) 4) (ActionLength 0) _ head e in
    let b = passed (ltb (length bytes) 8 || ltb size 8 || not (eqb (size % 8) 0) || ltb (length bytes) size) (ActionLength size) _ head a.1 in
    let c = passed (eqb kind 0xffff) ActionVendor _ head b.1 in
    let d = passed (ltb 11 kind) (ActionKind kind) _ head c.1 in
    let f = met (eqb size (size_of kind)) (ActionLength size) (Ok (kind, size)) head d.1 in
    let last = or_parts (ltb (length bytes) 8 || ltb size 8 || not (eqb (size % 8) 0)) (ltb (length bytes) size) b.0 in
    let before = or_parts (ltb (length bytes) 8 || ltb size 8) (not (eqb (size % 8) 0)) last.0 in
    let first = or_parts (ltb (length bytes) 8) (ltb size 8) before.0 in
    subst (IsHead bytes) (ok_is (kind, size) head f.1) (record { kind = refl; size = refl; eight = ltb-false _ _ first.1; whole = ltb-false _ _ last.1; known = ltb-false _ _ d.0; of_kind = eqb-true size (size_of kind) f.0 })

-- an action that is read follows its head, and what is left stands behind the length that the head says
pub first_is : (bytes : List ℕ) (x : Action × List ℕ) → action_at bytes ≡ Ok x → (head : ℕ × ℕ) × IsHead bytes head × ((action_of head.0 bytes, drop head.1 bytes) ≡ x)
unfolding action_at
first_is bytes x e =
    let head = bind_ok (head_at bytes) (λ h. Ok (action_of h.0 bytes, drop h.1 bytes)) x e in
    (head.0, head_is bytes head.0 head.1, ok_is (action_of head.0.0 bytes, drop head.0.1 bytes) x head.2)

pub shorter : (bytes : List ℕ) (x : Action × List ℕ) → action_at bytes ≡ Ok x → length x.1 < length bytes
shorter bytes x e =
    let (head, is, made) = first_is bytes x e in
    let P : Action × List ℕ → Type 0 = λ y. length y.1 < length bytes in
    subst P made (omega (arith, length-drop head.1 bytes, is.eight, is.whole))

-- the count doesn't matter once it reaches the number of bytes
pub same_count : (n m : ℕ) (bytes : List ℕ) → length bytes ≤ n → length bytes ≤ m → actions_at n bytes ≡ actions_at m bytes
unfolding actions_at
same_count n m [] le1 le2 = refl
same_count zero m (b ∷ bytes) le1 le2 = absurd (omega arith)
same_count (suc n) zero (b ∷ bytes) le1 le2 = absurd (omega arith)
same_count (suc n) (suc m) (b ∷ bytes) le1 le2 =
    same_bind (action_at (b ∷ bytes)) (λ first. actions_at n first.1 >>= λ others. Ok (first.0 ∷ others)) (λ first. actions_at m first.1 >>= λ others. Ok (first.0 ∷ others))
    (λ x e. let s = shorter (b ∷ bytes) x e in ap (λ (r : Result (List Action) WireFault). r >>= λ others. Ok (x.0 ∷ others)) (same_count n m x.1 (omega arith) (omega arith)))

nothing : (x : Action × List ℕ) → action_at [] ≡ Ok x → ⊥
unfolding action_at head_at
nothing x e = cc

-- the first action and then the others
pub reads_on : (bytes : List ℕ) (x : Action × List ℕ) → action_at bytes ≡ Ok x → read_all bytes ≡ (read_all x.1 >>= λ others. Ok (x.0 ∷ others))
unfolding actions_at
reads_on [] x e = absurd (nothing x e)
reads_on (b ∷ bytes) x e =
    let s = shorter (b ∷ bytes) x e in
    let same = same_count (length bytes) (length x.1) x.1 (omega arith) (omega arith) in
    rw e (ap (λ (r : Result (List Action) WireFault). r >>= λ others. Ok (x.0 ∷ others)) same)

pub goes_on : (front : List Action) (bytes : List ℕ) (a : Action) (after : List ℕ) (total : Result (List Action) WireFault) → action_at bytes ≡ Ok (a, after)
    → with_front front (read_all bytes) ≡ total → with_front (front ++ a ∷ []) (read_all after) ≡ total
goes_on front bytes a after total e so_far =
    sym (ap (with_front front) (reads_on bytes (a, after) e) ∙ regroup front a (read_all after)) ∙ so_far

pub ends : (front : List Action) (bytes : List ℕ) (fault : WireFault) (total : Result (List Action) WireFault) → 0 < length bytes → action_at bytes ≡ Err fault
    → with_front front (read_all bytes) ≡ total → total ≡ Err fault
unfolding actions_at
ends front [] fault total lt e so_far = absurd (omega arith)
ends front (b ∷ bytes) fault total lt e so_far = sym so_far ∙ rw e refl

-- once an action is read, the first is right
pub is_begun : (bytes rest : List ℕ) (x : Action × List ℕ) → action_at rest ≡ Ok x → (rest ≡ bytes) ⊎ (is_ok (action_at bytes) ≡ true) → is_ok (action_at bytes) ≡ true
is_begun bytes rest x e (inl same) = subst (λ front. is_ok (action_at front) ≡ true) same (ap is_ok e)
is_begun bytes rest x e (inr right) = right

pub is_done : (front : List Action) (bytes : List ℕ) (total : Result (List Action) WireFault) → length bytes ≡ 0 → with_front front (read_all bytes) ≡ total → total ≡ Ok front
unfolding actions_at
is_done front [] total none so_far = sym so_far ∙ ap (λ (whole : List Action). Ok whole) (append-nil front)
is_done front (b ∷ bytes) total none so_far = absurd (omega arith)
