-- Which entries are a slice's.
use Rattle.std.proofs.Common.{inl, inr, ◌≡◌, ℕ, ◌+◌, ◌<◌, ◌≤◌, ◌&&◌, ◌||◌, Bool, true, false, List, [], ◌∷◌, length, get_or, take, drop, filter, Some, refl, sym, ap, ap₂, ◌∙◌, arith}
use Rattle.std.specs.List.{list_any}
use Rattle.std.proofs.lemmas.List.{take_more, take_all, get_or_default, get_or_past}
use Rattle.std.specs.Prelude.{All, IsTrue, ◌↔◌, slice_index}
use Rattle.std.proofs.lemmas.Bool.{and_parts, and_from, cases_lt}
use Rattle.std.proofs.lemmas.List.Elements.{All-take, All-drop}
use Rattle.std.proofs.lemmas.List.Folds.{list_any-append, list_any-from_Any, Any-from_list_any}
use Rattle.std.proofs.lemmas.Option.{get_or_from_slice_get}
use Rattle.of10_model.specs.declared.pattern.Pattern.{Pattern}
use Rattle.of10_model.specs.Inclusion.{includes_of}
use Rattle.of10_model.specs.Normal.{IsNormal}
use Rattle.of10_model.proofs.Applied.{IsNormal-Norm}
use Rattle.of10_model.proofs.Including.{Has-includes, includes-Includes}
use Rattle.of10_stats.specs.declared.protocol.TheConstants.{DESC, FLOW, PORT, QUEUE}
use Rattle.of10_stats.specs.Replies.{flow_of, entry_port}
use Rattle.flowspace.specs.declared.slices.Slice.{Slice}
use Rattle.flowspace.specs.declared.rules.Rule.{Rule}
use Rattle.flowspace.specs.Rules.{is_written_by}
use Rattle.flowspace.specs.Places.{AreWritePlaces}
use Rattle.flowspace.specs.Policies.{IsSwitchPolicy, AreNormal}
use Rattle.flowspace.specs.Owners.{owner_of_match, IsOwner, Owns, HasPort}
use Rattle.flowspace.proofs.Refusing.{is_value-Some, Some-is_value}
use Rattle.flowspace.proofs.Owning.{owner_of_match-iff, has_port-iff}
use Rattle.flowspace.proofs.Placing.{places_length, rule_at_place}
use Rattle.stats_filter.specs.Keeping.{lies_within, is_own_entry}

-- the rules that a slice writes
abbrev pub own_rules : List Rule → ℕ → List Rule
own_rules rules slot = filter (is_written_by slot) rules

-- some of the first so many of them has the whole match
abbrev pub lies_within_first : List Rule → ℕ → Pattern → ℕ → Bool
lies_within_first rules slot m i = list_any (λ rule. includes_of rule.pattern m) (take i (own_rules rules slot))

any_first : {A : Type 0} (p q : A → Bool) (x : A) (xs : List A) (b : Bool) → p x ≡ b → list_any q (filter p (x ∷ xs)) ≡ ((b && q x) || list_any q (filter p xs))
any_first p q x xs true e = rw e refl
any_first p q x xs false e = rw e refl

any_filtered : {A : Type 0} (p q : A → Bool) (xs : List A) → list_any q (filter p xs) ≡ list_any (λ x. p x && q x) xs
any_filtered p q [] = refl
any_filtered p q (x ∷ xs) = any_first p q x xs (p x) refl ∙ ap (λ b. (p x && q x) || b) (any_filtered p q xs)

-- what the rules at the places of a slice say of a match: one at which a walk over the places stands
pub record StandsAt (rules : List Rule) (slot : ℕ) (places : List ℕ) (i : ℕ) (rule : Rule) : Type 0 where
  pub place : ℕ
  pub at_places : AreWritePlaces rules slot places
  pub within : i < length places
  pub here : place ≡ get_or places i 0
  pub is : rule ≡ get_or rules place rule

-- the rule at a place is the one in its turn
own_at : (rules : List Rule) (slot : ℕ) (places : List ℕ) (i : ℕ) (rule : Rule) → StandsAt rules slot places i rule → (i < length (own_rules rules slot)) × (rule ≡ get_or (own_rules rules slot) i rule)
own_at rules slot places i rule at =
    let same = places_length rules slot places at.at_places in
    let lt : i < length places = at.within in (
      omega arith,
      at.is
          ∙ get_or_from_slice_get rules at.place (get_or (own_rules rules slot) i rule) rule (rule_at_place rules slot places i at.place rule at.at_places lt (at.here ∙ get_or_default places i 0 at.place lt)),
    )

-- one that has the match is found
pub found_at : (rules : List Rule) (slot : ℕ) (places : List ℕ) (i : ℕ) (rule : Rule) (m : Pattern) → StandsAt rules slot places i rule → includes_of rule.pattern m ≡ true → lies_within rules slot m ≡ true
found_at rules slot places i rule m at has =
    let own = own_at rules slot places i rule at in
    sym (any_filtered (is_written_by slot) (λ r. includes_of r.pattern m) rules)
    ∙ list_any-from_Any (λ r. includes_of r.pattern m) (own_rules rules slot) (i, rule, own.0, sym own.1, has)

-- one that doesn't have it isn't
pub none_more : (rules : List Rule) (slot : ℕ) (places : List ℕ) (i : ℕ) (rule : Rule) (m : Pattern) → StandsAt rules slot places i rule → includes_of rule.pattern m ≡ false
    → lies_within_first rules slot m i ≡ false → lies_within_first rules slot m (i + 1) ≡ false
none_more rules slot places i rule m at has_not none =
    let own = own_at rules slot places i rule at in
    let q : Rule → Bool = λ r. includes_of r.pattern m in
    ap (list_any q) (take_more (own_rules rules slot) i rule own.0)
    ∙ list_any-append q (take i (own_rules rules slot)) (get_or (own_rules rules slot) i rule ∷ [])
    ∙ ap (λ r. lies_within_first rules slot m i || (q r || false)) (sym own.1)
    ∙ ap₂ (λ a b. a || (b || false)) none has_not

-- behind the last place there are no more
pub none_left : (rules : List Rule) (slot : ℕ) (places : List ℕ) (i : ℕ) (m : Pattern) → AreWritePlaces rules slot places → length places ≤ i → lies_within_first rules slot m i ≡ false → lies_within rules slot m ≡ false
none_left rules slot places i m at_places past none =
    let same = places_length rules slot places at_places in
    sym (any_filtered (is_written_by slot) (λ r. includes_of r.pattern m) rules)
    ∙ ap (list_any (λ r. includes_of r.pattern m)) (sym (take_all i (own_rules rules slot) (omega arith)))
    ∙ none

-- ---- in words of headers

-- a match lies in a rule of the slice exactly where the test of owners finds the slice
pub lies_within-IsOwner : (rules : List Rule) (slot : ℕ) (m : Pattern) → (lies_within rules slot m ≡ true) ↔ IsOwner rules slot m
lies_within-IsOwner rules slot m = (
  λ t.
      let some = Any-from_list_any (λ rule. is_written_by slot rule && includes_of rule.pattern m) rules t in
      let rule = and_parts (is_written_by slot some.1) (includes_of some.1.pattern m) some.4 in
      (some.0, some.1, some.2, some.3, (is_value-Some slot some.1.writer rule.0, rule.1)),
  λ some.
      list_any-from_Any (λ rule. is_written_by slot rule && includes_of rule.pattern m) rules
      (some.0, some.1, some.2, some.3, and_from (is_written_by slot some.1) (includes_of some.1.pattern m) (Some-is_value slot some.1.writer some.4.0) some.4.1),
)

-- and so where a rule of the slice has all headers of the match
pub lies_within-Owns : (rules : List Rule) → AreNormal rules → (slot : ℕ) (m : Pattern) → IsNormal m → (lies_within rules slot m ≡ true) ↔ Owns rules slot m
lies_within-Owns rules normal slot m normal_m =
    let own = lies_within-IsOwner rules slot m in (
      λ t. let some = own.0 t in (some.0, some.1, some.2, some.3, (some.4.0, λ h range in_m. Has-includes some.1.pattern m some.4.1 h in_m)),
      λ some.
          let in_range : IsNormal some.1.pattern = rw some.3 at (normal some.0 some.1 some.2) in
          own.1 (some.0, some.1, some.2, some.3, (some.4.0, includes-Includes some.1.pattern m in_range.0 normal_m.0 some.4.1)),
    )

-- and on a switch where the slice is the match's owner
pub lies_within-owner_of_match : (slices : List Slice) (rules : List Rule) → IsSwitchPolicy slices rules → (slot : ℕ) (m : Pattern) → IsNormal m → (lies_within rules slot m ≡ true) ↔ (owner_of_match rules m ≡ Some slot)
lies_within-owner_of_match slices rules policy slot m normal =
    let own = lies_within-IsOwner rules slot m in
    let owner = owner_of_match-iff slices rules policy slot m normal in
    (λ t. owner.1 (own.0 t), λ e. own.1 (owner.0 e))

-- ---- entries

byte_below : (bytes : List ℕ) → All (λ byte. byte < 256) bytes → (k : ℕ) → slice_index bytes k < 256
byte_below bytes all k =
    elim (cases_lt k (length bytes)) [
      | inl lt ↦ all k 0 lt
      | inr le ↦ let past = get_or_past bytes k 0 le in omega (arith, past)
    ]

-- the match in a flow's entry is normal
pub flow_normal : (entry : List ℕ) → All (λ byte. byte < 256) entry → IsNormal (flow_of entry).0
flow_normal entry all = IsNormal-Norm (take 40 (drop 4 entry)) (byte_below (take 40 (drop 4 entry)) (All-take (λ b. b < 256) 40 (drop 4 entry) (All-drop (λ b. b < 256) 4 entry all)))

pub own_flow : (rules : List Rule) → AreNormal rules → (slot : ℕ) (entry : List ℕ) → All (λ byte. byte < 256) entry
    → IsTrue (is_own_entry rules slot FLOW entry) ↔ Owns rules slot (flow_of entry).0
unfolding is_own_entry
own_flow rules normal slot entry all = lies_within-Owns rules normal slot (flow_of entry).0 (flow_normal entry all)

pub own_port : (rules : List Rule) (slot : ℕ) (entry : List ℕ) → IsTrue (is_own_entry rules slot PORT entry) ↔ HasPort rules slot (entry_port entry)
unfolding is_own_entry
own_port rules slot entry = has_port-iff rules slot (entry_port entry)

pub own_queue : (rules : List Rule) (slot : ℕ) (entry : List ℕ) → IsTrue (is_own_entry rules slot QUEUE entry) ↔ HasPort rules slot (entry_port entry)
unfolding is_own_entry
own_queue rules slot entry = has_port-iff rules slot (entry_port entry)

pub own_description : (rules : List Rule) (slot : ℕ) (entry : List ℕ) → IsTrue (is_own_entry rules slot DESC entry)
unfolding is_own_entry
own_description rules slot entry = refl
