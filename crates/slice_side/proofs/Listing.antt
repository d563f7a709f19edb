-- The action lists of the pieces, one more at a time.
use Rattle.std.proofs.Common.{◌≡◌, ℕ, ◌||◌, Bool, true, false, ◌+◌, ◌<◌, List, [], ◌∷◌, ◌++◌, length, get_or, take, drop, append_assoc, map, refl, sym, ap, ◌∙◌, Some, None, is_some, true≢false, Result, Ok, Err}
use Rattle.std.proofs.Math.Bool.{or-true, or-false}
use Rattle.std.proofs.lemmas.List.{map-append, take_more, take-append-drop}
use Rattle.std.proofs.lemmas.List.Folds.{list_any-append}
use Rattle.std.specs.List.{list_any}
use Rattle.of10_model.specs.declared.pattern.Pattern.{Pattern}
use Rattle.of10_action.specs.declared.action.Action.{Action}
use Rattle.of10_action.specs.Reading.{list_given}
use Rattle.slice_words.specs.FlowMods.{first_refusal, is_too_long}
use Rattle.slice_side.specs.Checking.{AreListed}

-- ---- lists behind others

refusal_behind : {A : Type 0} (xs ys : List (Result A ℕ)) → first_refusal xs ≡ None → first_refusal (xs ++ ys) ≡ first_refusal ys
refusal_behind [] ys none = refl
refusal_behind (Ok x ∷ xs) ys none = refusal_behind xs ys none
refusal_behind (Err code ∷ xs) ys none = absurd (true≢false (ap is_some none))

pub refused_before : {A : Type 0} (xs ys : List (Result A ℕ)) (code : ℕ) → first_refusal xs ≡ Some code → first_refusal (xs ++ ys) ≡ Some code
refused_before [] ys code e = absurd (true≢false (sym (ap is_some e)))
refused_before (Ok x ∷ xs) ys code e = refused_before xs ys code e
refused_before (Err found ∷ xs) ys code e = e

module _ (permitted : Pattern → Result (List Action) ℕ) where
  abbrev given : Pattern → List Action
  given piece = list_given (permitted piece)

  pub none_listed : AreListed permitted [] [] false
  none_listed = record { allowed = refl; some_long = refl; given = λ e. refl }

  -- the code of the next piece is the first
  pub next_forbidden : (before later : List Pattern) (piece : Pattern) (lists : List (List Action)) (long : Bool) (code : ℕ) → AreListed permitted before lists long → permitted piece ≡ Err code
      → first_refusal (map permitted (before ++ piece ∷ later)) ≡ Some code
  next_forbidden before later piece lists long code so is =
      ap first_refusal (map-append permitted before (piece ∷ later)) ∙ refusal_behind (map permitted before) (map permitted (piece ∷ later)) so.allowed ∙ rw is refl

  allowed_next : (before : List Pattern) (piece : Pattern) (list : List Action) → first_refusal (map permitted before) ≡ None → permitted piece ≡ Ok list
      → first_refusal (map permitted (before ++ piece ∷ [])) ≡ None
  allowed_next before piece list none is =
      ap first_refusal (map-append permitted before (piece ∷ [])) ∙ refusal_behind (map permitted before) (map permitted (piece ∷ [])) none ∙ rw is refl

  long_next : (before : List Pattern) (piece : Pattern) (list : List Action) → permitted piece ≡ Ok list
      → list_any is_too_long (map given (before ++ piece ∷ [])) ≡ (list_any is_too_long (map given before) || (is_too_long list || false))
  long_next before piece list is =
      ap (list_any is_too_long) (map-append given before (piece ∷ [])) ∙ list_any-append is_too_long (map given before) (map given (piece ∷ [])) ∙ rw is refl

  -- the next piece has a list
  pub next_given : (before : List Pattern) (piece : Pattern) (lists : List (List Action)) (long : Bool) (list : List Action) → AreListed permitted before lists long
      → permitted piece ≡ Ok list → is_too_long list ≡ false → AreListed permitted (before ++ piece ∷ []) (lists ++ list ∷ []) long
  next_given before piece lists long list so is short = record {
    allowed = allowed_next before piece list so.allowed is;
    some_long = long_next before piece list is ∙ rw (short, so.some_long) (or-false long);
    given = λ e. ap (λ (ls : List (List Action)). ls ++ list ∷ []) (so.given e) ∙ sym (map-append given before (piece ∷ []) ∙ rw is refl);
  }

  -- the next piece's list is too long
  pub next_long : (before : List Pattern) (piece : Pattern) (lists : List (List Action)) (long : Bool) (list : List Action) → AreListed permitted before lists long
      → permitted piece ≡ Ok list → is_too_long list ≡ true → AreListed permitted (before ++ piece ∷ []) lists true
  next_long before piece lists long list so is too = record {
    allowed = allowed_next before piece list so.allowed is;
    some_long = long_next before piece list is ∙ rw (too, so.some_long) (or-true long);
    given = λ e. absurd (true≢false e);
  }

-- one more of the pieces is looked at
pub one_more : (pieces : List Pattern) (i : ℕ) (piece : Pattern) → i < length pieces → piece ≡ get_or pieces i piece → take (i + 1) pieces ≡ take i pieces ++ piece ∷ []
one_more pieces i piece within is = take_more pieces i piece within ∙ ap (λ (p : Pattern). take i pieces ++ p ∷ []) (sym is)

-- the code for one of the pieces is that of all
pub forbidden_there : (permitted : Pattern → Result (List Action) ℕ) (pieces : List Pattern) (i : ℕ) (piece : Pattern) (lists : List (List Action)) (long : Bool) (code : ℕ) → i < length pieces → piece ≡ get_or pieces i piece
    → AreListed permitted (take i pieces) lists long → permitted piece ≡ Err code → first_refusal (map permitted pieces) ≡ Some code
forbidden_there permitted pieces i piece lists long code within is so refused =
    ap (λ (all : List Pattern). first_refusal (map permitted all)) (sym (take-append-drop (i + 1) pieces) ∙ ap (λ (front : List Pattern). front ++ drop (i + 1) pieces) (one_more pieces i piece within is) ∙ append_assoc (take i pieces) (piece ∷ []) (drop (i + 1) pieces))
    ∙ next_forbidden permitted (take i pieces) (drop (i + 1) pieces) piece lists long code so refused

-- with one more that has a list, and with one more whose list is too long
pub grown : (permitted : Pattern → Result (List Action) ℕ) (pieces : List Pattern) (i : ℕ) (piece : Pattern) (lists now : List (List Action)) (long : Bool) (list : List Action) → i < length pieces → piece ≡ get_or pieces i piece
    → AreListed permitted (take i pieces) lists long → (permitted piece ≡ Ok list) × (is_too_long list ≡ false) → now ≡ lists ++ list ∷ [] → AreListed permitted (take (i + 1) pieces) now long
grown permitted pieces i piece lists now long list within is so checked pushed =
    rw (one_more pieces i piece within is, pushed) (next_given permitted (take i pieces) piece lists long list so checked.0 checked.1)

pub grown_long : (permitted : Pattern → Result (List Action) ℕ) (pieces : List Pattern) (i : ℕ) (piece : Pattern) (lists : List (List Action)) (long : Bool) → i < length pieces → piece ≡ get_or pieces i piece
    → AreListed permitted (take i pieces) lists long → (list : List Action) × (permitted piece ≡ Ok list) × (is_too_long list ≡ true) → AreListed permitted (take (i + 1) pieces) lists true
grown_long permitted pieces i piece lists long within is so checked =
    rw (one_more pieces i piece within is) (next_long permitted (take i pieces) piece lists long checked.0 so checked.1 checked.2)
