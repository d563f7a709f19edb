-- The least place that groups have, and the least of the patterns that were put.
use Rattle.std.proofs.Common.{◌≡◌, ℕ, zero, suc, ◌<◌, inl, inr, Bool, true, false, if◌then◌else◌, List, [], ◌∷◌, ◌++◌, length, get_or, set, fold, min, Option, Some, None, refl, sym, ap, ◌∙◌, arith}
use Rattle.std.proofs.Math.Nat.{min_comm}
use Rattle.of10_model.specs.declared.pattern.Pattern.{Pattern}
use Rattle.of10_model.specs.Inclusion.{includes_of}
use Rattle.pattern_index.specs.declared.group.Group.{Group}
use Rattle.pattern_index.specs.declared.index.PatternIndex.{PatternIndex}
use Rattle.pattern_index.specs.Groups.{finds, lesser_place, least_of, HasAsBefore, HavePut, HaveAsBefore}
use Rattle.pattern_index.specs.Places.{PlacedPattern, least_place, StandsFor}

-- ---- the lesser of two places

min_assoc : (x y z : ℕ) → min x (min y z) ≡ min (min x y) z
min_assoc x y z = omega arith

lesser_comm : (a b : Option ℕ) → lesser_place a b ≡ lesser_place b a
lesser_comm None None = refl
lesser_comm None (Some y) = refl
lesser_comm (Some x) None = refl
lesser_comm (Some x) (Some y) = ap Some (min_comm x y)

lesser_assoc : (a b c : Option ℕ) → lesser_place a (lesser_place b c) ≡ lesser_place (lesser_place a b) c
lesser_assoc None b c = refl
lesser_assoc (Some x) None c = refl
lesser_assoc (Some x) (Some y) None = refl
lesser_assoc (Some x) (Some y) (Some z) = ap Some (min_assoc x y z)

-- a place with one more, where that counts
abbrev pub with : Bool → ℕ → Option ℕ → Option ℕ
with b place o = if b then lesser_place (Some place) o else o

with_right : (b : Bool) (place : ℕ) (a o : Option ℕ) → lesser_place a (with b place o) ≡ with b place (lesser_place a o)
with_right false place a o = refl
with_right true place a o = lesser_assoc a (Some place) o ∙ ap (λ x. lesser_place x o) (lesser_comm a (Some place)) ∙ sym (lesser_assoc (Some place) a o)

-- ---- the least of groups

abbrev from : Pattern → Option ℕ → List Group → Option ℕ
from m least groups = fold (λ least group. lesser_place least (finds group m)) least groups

fold_with : (m : Pattern) (b : Bool) (place : ℕ) (acc : Option ℕ) (groups : List Group) → from m (with b place acc) groups ≡ with b place (from m acc groups)
fold_with m b place acc [] = refl
fold_with m b place acc (g ∷ groups) =
    ap (λ a. from m a groups) (lesser_comm (with b place acc) (finds g m) ∙ with_right b place (finds g m) acc ∙ ap (with b place) (lesser_comm (finds g m) acc))
    ∙ fold_with m b place (lesser_place acc (finds g m)) groups

fold_set : (m : Pattern) (b : Bool) (place : ℕ) (acc : Option ℕ) (groups : List Group) (k : ℕ) (g after : Group) → k < length groups → get_or groups k g ≡ g → finds after m ≡ with b place (finds g m)
    → from m acc (set groups k after) ≡ with b place (from m acc groups)
fold_set m b place acc [] k g after lt at put = absurd (omega arith)
fold_set m b place acc (first ∷ groups) zero g after lt at put =
    ap (λ o. from m (lesser_place acc o) groups) (put ∙ ap (λ x. with b place (finds x m)) (sym at))
    ∙ ap (λ a. from m a groups) (with_right b place acc (finds first m))
    ∙ fold_with m b place (lesser_place acc (finds first m)) groups
fold_set m b place acc (first ∷ groups) (suc k) g after lt at put = fold_set m b place (lesser_place acc (finds first m)) groups k g after (omega arith) at put

fold_push : (m : Pattern) (b : Bool) (place : ℕ) (acc : Option ℕ) (groups : List Group) (after : Group) → finds after m ≡ with b place None → from m acc (groups ++ after ∷ []) ≡ with b place (from m acc groups)
fold_push m b place acc [] after put = ap (lesser_place acc) put ∙ with_right b place acc None ∙ ap (with b place) (lesser_comm acc None)
fold_push m b place acc (g ∷ groups) after put = fold_push m b place (lesser_place acc (finds g m)) groups after put

least_put : (r : Pattern) (place : ℕ) (old new : List Group) → HavePut r place old new → (m : Pattern) → least_of new m ≡ with (includes_of r m) place (least_of old m)
least_put r place old new (inl into) m =
    ap (λ groups. least_of groups m) into.6 ∙ fold_set m (includes_of r m) place None old into.0 into.1 into.2 into.3 into.4 (into.5 m)
least_put r place old new (inr pushed) m =
    ap (λ groups. least_of groups m) pushed.2 ∙ fold_push m (includes_of r m) place None old pushed.0 (pushed.1 m)

-- one of the groups has what it had, and the others are as they were
pub least_kept : (old : List Group) (at : ℕ) (group after : Group) → at < length old → get_or old at group ≡ group → HasAsBefore group after → HaveAsBefore old (set old at after)
least_kept old at group after lt here kept m = fold_set m false zero None old at group after lt here (kept m)

-- ---- what an index stands for

pub one_more : (r m : Pattern) (place : ℕ) (kept : List PlacedPattern) (b : Bool) → includes_of r m ≡ b → with b place (least_place kept m) ≡ least_place (record { pattern = r; place = place } ∷ kept) m
one_more r m place kept true e = rw e refl
one_more r m place kept false e = rw e refl

pub stands_more : (r : Pattern) (place : ℕ) (old new : PatternIndex) → HavePut r place old.groups.items new.groups.items → (kept : List PlacedPattern) → StandsFor kept old → StandsFor (record { pattern = r; place = place } ∷ kept) new
stands_more r place old new put kept stands m =
    least_put r place old.groups.items new.groups.items put m
    ∙ ap (with (includes_of r m) place) (stands m)
    ∙ one_more r m place kept (includes_of r m) refl

-- an index whose groups have what they had stands for the same
pub stands_still : (old new : PatternIndex) → HaveAsBefore old.groups.items new.groups.items → (kept : List PlacedPattern) → StandsFor kept old → StandsFor kept new
stands_still old new same kept stands m = same m ∙ stands m
