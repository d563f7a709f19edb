-- A match whose number isn't marked is none of those found.
use Rattle.std.proofs.Common.{◌≡◌, ℕ, ◌<◌, Bool, true, false, List, length, get_or, slice_set, refl, sym, ◌∙◌, subst, inl, inr}
use Rattle.std.proofs.lemmas.Bool.{true≢false, cases_eq}
use Rattle.std.proofs.lemmas.List.{get_or-set_same, get_or-set_other}
use Rattle.std.proofs.lemmas.List.Folds.{list_any_none}
use Rattle.of10_model.specs.declared.pattern.Pattern.{Pattern}
use Rattle.of10_model.specs.Same.{is_same}
use Rattle.flowmod_expand.specs.Marks.{mark_of, AreMarked}
use Rattle.of10_model.proofs.Same.{one-is_same}
use Rattle.flowmod_expand.proofs.Repeats.{is_among}

other_unmarked : (marks : List Bool) (m earlier : Pattern) → get_or marks (mark_of earlier) false ≡ true → get_or marks (mark_of m) false ≡ false → (b : Bool) → is_same earlier m ≡ b → b ≡ false
other_unmarked marks m earlier marked unmarked true same =
    let clash : get_or marks (mark_of m) false ≡ true = subst (λ p. get_or marks (mark_of p) false ≡ true) (one-is_same earlier m same) marked in
    absurd (true≢false (sym clash ∙ unmarked))
other_unmarked marks m earlier marked unmarked false same = refl

pub unmarked_new : (marks : List Bool) (found : List Pattern) (m : Pattern) → AreMarked marks found → get_or marks (mark_of m) false ≡ false → is_among found m ≡ false
unmarked_new marks found m marked unmarked =
    list_any_none (λ earlier. is_same earlier m) found (λ k d lt. other_unmarked marks m (get_or found k d) (marked k d lt) unmarked (is_same (get_or found k d) m) refl)

still_marked : (marks : List Bool) (i j : ℕ) → i < length marks → get_or marks j false ≡ true → get_or (slice_set marks i true) j false ≡ true
still_marked marks i j lt marked =
    elim (cases_eq i j) [
      | inl same ↦ subst (λ n. get_or (slice_set marks i true) n false ≡ true) same (get_or-set_same marks i true false lt)
      | inr other ↦ get_or-set_other marks i j true false (λ e. other (sym e)) ∙ marked
    ]
