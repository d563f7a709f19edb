-- The owner of a match is the slice of which one write rule has all of the match.
use Rattle.std.proofs.Common.{◌≡◌, ℕ, ◌&&◌, ◌||◌, Bool, true, false, if◌then◌else◌, List, [], ◌∷◌, map, filter, refl, ap, sym, ◌∙◌, true≢false}
use Rattle.std.specs.List.{list_any}
use Rattle.std.proofs.lemmas.Bool.{and_parts, and_from}
use Rattle.std.proofs.lemmas.List.Folds.{Any-from_list_any, list_any-from_Any}
use Rattle.of10_model.specs.declared.pattern.Pattern.{Pattern}
use Rattle.of10_model.specs.Normal.{is_value, IsNormal}
use Rattle.of10_model.specs.Inclusion.{includes_of}
use Rattle.flowspace.specs.declared.slices.Slice.{Slice}
use Rattle.flowspace.specs.declared.rules.Rule.{Rule}
use Rattle.flowspace.specs.Rules.{is_written_by}
use Rattle.flowspace.specs.Policies.{IsSwitchPolicy}
use Rattle.flowspace.specs.Owners.{owner_of_match, IsOwner}
use Rattle.flowspace.proofs.Refusing.{is_value-Some, Some-is_value}
use Rattle.flowspace.proofs.Owning.{owner_of_match-iff}
use Rattle.flowmod_expand.specs.Pieces.{writes_of}

-- ---- tests of the matches of written rules

abbrev written : ℕ → (Pattern → Bool) → Rule → Bool
written slot test rule = is_written_by slot rule && test rule.pattern

any_by : (slot : ℕ) (test : Pattern → Bool) (rule : Rule) (others : List Rule) (mine : Bool) → is_written_by slot rule ≡ mine
    → list_any test (writes_of others slot) ≡ list_any (written slot test) others
    → list_any test (map (λ rule. rule.pattern) (if mine then rule ∷ filter (is_written_by slot) others else filter (is_written_by slot) others)) ≡ (mine && test rule.pattern || list_any (written slot test) others)
any_by slot test rule others true is rest = ap (λ (any : Bool). test rule.pattern || any) rest
any_by slot test rule others false is rest = rest

any_written : (slot : ℕ) (test : Pattern → Bool) (rules : List Rule) → list_any test (writes_of rules slot) ≡ list_any (written slot test) rules
any_written slot test [] = refl
any_written slot test (rule ∷ others) = any_by slot test rule others (is_written_by slot rule) refl (any_written slot test others)

-- ---- owners

same_test : (a b : Bool) → (a ≡ true → b ≡ true) → (b ≡ true → a ≡ true) → a ≡ b
same_test true b to from = sym (to refl)
same_test false true to from = absurd (true≢false (sym (from refl)))
same_test false false to from = refl

module _ (slot : ℕ) (m : Pattern) where
  owner-any : (rules : List Rule) → list_any (written slot (λ pattern. includes_of pattern m)) rules ≡ true → IsOwner rules slot m
  owner-any rules any =
      let some = Any-from_list_any (written slot (λ pattern. includes_of pattern m)) rules any in
      let both = and_parts (is_written_by slot some.1) (includes_of some.1.pattern m) some.4 in
      (some.0, some.1, some.2, some.3, (is_value-Some slot some.1.writer both.0, both.1))

  any-owner : (rules : List Rule) → IsOwner rules slot m → list_any (written slot (λ pattern. includes_of pattern m)) rules ≡ true
  any-owner rules some =
      list_any-from_Any (written slot (λ pattern. includes_of pattern m)) rules
      (some.0, some.1, some.2, some.3, and_from (is_written_by slot some.1) (includes_of some.1.pattern m) (Some-is_value slot some.1.writer some.4.0) some.4.1)

  pub is_owner : (slices : List Slice) (rules : List Rule) → IsSwitchPolicy slices rules → IsNormal m
      → list_any (λ pattern. includes_of pattern m) (writes_of rules slot) ≡ is_value slot (owner_of_match rules m)
  is_owner slices rules policy normal =
      let iff = owner_of_match-iff slices rules policy slot m normal in
      any_written slot (λ pattern. includes_of pattern m) rules
      ∙ same_test (list_any (written slot (λ pattern. includes_of pattern m)) rules) (is_value slot (owner_of_match rules m))
      (λ any. Some-is_value slot (owner_of_match rules m) (iff.1 (owner-any rules any)))
      (λ is. any-owner rules (iff.0 (is_value-Some slot (owner_of_match rules m) is)))
