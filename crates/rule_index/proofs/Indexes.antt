-- The indexes of a switch's rules, and what is looked up in them.
use Rattle.std.proofs.Common.{◌≡◌, ℕ, ◌+◌, ◌<◌, ◌&&◌, true, false, is_some, List, [], ◌∷◌, length, get_or, slice_get, take, Option, option_and_then, sym, ap, ◌∙◌}
use Rattle.of10_model.specs.declared.pattern.Pattern.{Pattern}
use Rattle.of10_model.specs.Header.{Header}
use Rattle.of10_model.specs.Pattern.{has}
use Rattle.of10_model.specs.Normal.{IsNormal}
use Rattle.of10_model.specs.Inclusion.{includes_of}
use Rattle.of10_model.specs.Exact.{exact_of}
use Rattle.pattern_index.specs.declared.index.PatternIndex.{PatternIndex}
use Rattle.pattern_index.specs.Places.{PlacedPattern, least_place, StandsFor}
use Rattle.pattern_index.proofs.Keys.{includes_exact}
use Rattle.pattern_index.proofs.Firsts.{finds_none, finds_put, finds_same, place_of_find}
use Rattle.flowspace.specs.declared.rules.Rule.{Rule}
use Rattle.flowspace.specs.Order.{first_of}
use Rattle.flowspace.specs.Owners.{is_owned_by, owner_of_match}
use Rattle.rule_index.specs.Indexes.{IsIndex}

-- one more pattern stands in an index
abbrev pub GetsOne : Pattern → ℕ → PatternIndex → PatternIndex → Type 0
GetsOne m place old new = (kept : List PlacedPattern) → StandsFor kept old → StandsFor (record { pattern = m; place = place } ∷ kept) new

pub index_none : (all written : PatternIndex) → StandsFor [] all → StandsFor [] written → IsIndex [] all written
index_none all written stands stands_too = record {
  in_all = finds_none exact_of (λ (rule : Rule) h. has rule.pattern h) all stands;
  in_written = finds_none (λ (m : Pattern). m) (λ rule m. is_owned_by m rule) written stands_too;
}

-- a rule that is written is put behind those before it
pub index_more : (rules : List Rule) (i : ℕ) (r : Rule) (all all_new written written_new : PatternIndex) → i < length rules → get_or rules i r ≡ r → IsNormal r.pattern → is_some r.writer ≡ true
    → GetsOne r.pattern i all all_new → GetsOne r.pattern i written written_new → IsIndex (take i rules) all written → IsIndex (take (i + 1) rules) all_new written_new
index_more rules i r all all_new written written_new lt at normal is_in put put_too index = record {
  in_all =
      finds_put exact_of (λ (rule : Rule) h. has rule.pattern h) rules i r r.pattern all all_new lt (sym at) (λ h. includes_exact r.pattern h normal.0) put index.in_all;
  in_written =
      finds_put (λ (m : Pattern). m) (λ rule m. is_owned_by m rule) rules i r r.pattern written written_new lt (sym at) (λ m. ap (λ b. b && includes_of r.pattern m) (sym is_in)) put_too index.in_written;
}

-- and one that isn't
pub index_same : (rules : List Rule) (i : ℕ) (r : Rule) (all all_new written : PatternIndex) → i < length rules → get_or rules i r ≡ r → IsNormal r.pattern → is_some r.writer ≡ false
    → GetsOne r.pattern i all all_new → IsIndex (take i rules) all written → IsIndex (take (i + 1) rules) all_new written
index_same rules i r all all_new written lt at normal is_out put index = record {
  in_all =
      finds_put exact_of (λ (rule : Rule) h. has rule.pattern h) rules i r r.pattern all all_new lt (sym at) (λ h. includes_exact r.pattern h normal.0) put index.in_all;
  in_written =
      finds_same (λ (m : Pattern). m) (λ rule m. is_owned_by m rule) rules i r written lt (sym at) (λ m. ap (λ b. b && includes_of r.pattern m) is_out) index.in_written;
}

-- ---- look-ups

pub index_first : (rules : List Rule) (all written : PatternIndex) (h : Header) (r : Option ℕ) → IsIndex rules all written
    → ((kept : List PlacedPattern) → StandsFor kept all → r ≡ least_place kept (exact_of h)) → r ≡ first_of rules h
index_first rules all written h r index least = least index.in_all.kept index.in_all.stands ∙ index.in_all.firsts h

-- the writer of the rule at the place, if there is one, is the owner
pub index_owner : (rules : List Rule) (all written : PatternIndex) (m q : Pattern) (r place : Option ℕ) → IsIndex rules all written → q ≡ m
    → ((kept : List PlacedPattern) → StandsFor kept written → r ≡ least_place kept q) → r ≡ place
    → option_and_then (λ (rule : Rule). rule.writer) (option_and_then (slice_get rules) place) ≡ owner_of_match rules m
index_owner rules all written m q r place index is least e =
    ap (λ (o : Option ℕ). option_and_then (λ (rule : Rule). rule.writer) (option_and_then (slice_get rules) o))
    (sym e ∙ least index.in_written.kept index.in_written.stands ∙ ap (least_place index.in_written.kept) is ∙ index.in_written.firsts m)
    ∙ ap (option_and_then (λ (rule : Rule). rule.writer)) (place_of_find (is_owned_by m) rules)
