-- The key that is named is the least unknown one.
use Rattle.std.proofs.Common.{◌≡◌, ◌↔◌, ◌⊎◌, inl, inr, Bool, true, false, true≢false, ℕ, List, Option, Some, None, Result, Ok, Err, Ordering, Less, Equal, Greater, nat_cmp, is_lt, refl, sym, ap, ◌∙◌, subst}
use Rattle.std.specs.Cmp.{IsStrictWeakOrder}
use Rattle.std.specs.Cmp.Lexicographic.{slice_cmp}
use Rattle.std.specs.Ordering.{is_eq, ordering_reverse}
use Rattle.std.proofs.lemmas.Bool.{cases_Bool}
use Rattle.std.proofs.lemmas.Cmp.{nat_list_cmp_total, tied_itself}
use Rattle.std.proofs.lemmas.List.MinMax.{ranks_by}
use Rattle.std.proofs.lemmas.Map.Text.{is_eq-slice_cmp}
use Rattle.std.proofs.lemmas.Slice.Eq.{bytes_eq-Decides}
use Rattle.toml.specs.Data.{Data, Members, no_members, member}
use Rattle.policy_text.specs.declared.known_keys.Keys.{Keys}
use Rattle.policy_text.specs.declared.fault.Place.{Place}
use Rattle.policy_text.specs.declared.fault.ReadFault.{ReadFault}
use Rattle.policy_text.specs.declared.fault.ReadFault.TheVariants.{UnknownKey}
use Rattle.policy_text.specs.Keys.{IsKey, AreKnown, IsLeastUnknown}
use Rattle.policy_text.specs.Reading.{SectionView, key_place, is_known_key, unknown_keys, lesser_text, least_text, no_unknown, known_keys}

abbrev below : List ℕ → List ℕ → Bool
below a b = is_lt (slice_cmp nat_cmp a b)

ranks : IsStrictWeakOrder below
ranks = ranks_by nat_list_cmp_total (λ key. key)

not_itself : (key : List ℕ) → below key key ≡ false
not_itself key = ap is_lt (tied_itself nat_list_cmp_total key)

same_of : (a b : List ℕ) (ab ba : Ordering) → slice_cmp nat_cmp a b ≡ ab → ba ≡ ordering_reverse ab → is_lt ab ≡ false → is_lt ba ≡ false → a ≡ b
same_of a b Less ba e r not_ab not_ba = absurd (true≢false not_ab)
same_of a b Equal ba e r not_ab not_ba = (bytes_eq-Decides a b).0 (sym (is_eq-slice_cmp a b) ∙ ap is_eq e)
same_of a b Greater ba e r not_ab not_ba = absurd (true≢false (sym (ap is_lt r) ∙ not_ba))

same : (a b : List ℕ) → below a b ≡ false → below b a ≡ false → a ≡ b
same a b h k = same_of a b (slice_cmp nat_cmp a b) (slice_cmp nat_cmp b a) refl (nat_list_cmp_total.antisymm b a) h k

-- what is named where there is a key
abbrev pub IsNamed : Keys → Members → Option (List ℕ) → Type 0
IsNamed kind ms None = AreKnown kind ms
IsNamed kind ms (Some key) = IsLeastUnknown kind ms key

known_in_front : (kind : Keys) (key : List ℕ) (rest : Members) → is_known_key kind key ≡ true → AreKnown kind rest → (other : List ℕ) → (key ≡ other) ⊎ IsKey rest other → is_known_key kind other ≡ true
known_in_front kind key rest known more other (inl e) = ap (is_known_key kind) (sym e) ∙ known
known_in_front kind key rest known more other (inr there) = more other there

named_known : (kind : Keys) (key : List ℕ) (d : Data) (rest : Members) (o : Option (List ℕ)) → is_known_key kind key ≡ true → IsNamed kind rest o → IsNamed kind (member key d rest) o
named_known kind key d rest None known n = λ other there. known_in_front kind key rest known n other there
named_known kind key d rest (Some least_key) known n = record {
  is_there = inr n.is_there;
  unknown = n.unknown;
  least = λ other there unknown. elim there [
    | inl e ↦ absurd (true≢false (sym known ∙ ap (is_known_key kind) e ∙ unknown))
    | inr more ↦ n.least other more unknown
  ];
}

in_front : (kind : Keys) (key : List ℕ) (d : Data) (rest : Members) → is_known_key kind key ≡ false → ((other : List ℕ) → IsKey rest other → is_known_key kind other ≡ false → below other key ≡ false) → IsLeastUnknown kind (member key d rest) key
in_front kind key d rest unknown h = record {
  is_there = inl refl;
  unknown = unknown;
  least = λ other there other_unknown. elim there [
    | inl e ↦ ap (λ k. below k key) (sym e) ∙ not_itself key
    | inr more ↦ h other more other_unknown
  ];
}

further_on : (kind : Keys) (key : List ℕ) (d : Data) (rest : Members) (least_key : List ℕ) → IsLeastUnknown kind rest least_key → below least_key key ≡ true → IsLeastUnknown kind (member key d rest) least_key
further_on kind key d rest least_key n less = record {
  is_there = inr n.is_there;
  unknown = n.unknown;
  least = λ other there unknown. elim there [
    | inl e ↦ ap (λ k. below k least_key) (sym e) ∙ ranks.one_way least_key key less
    | inr more ↦ n.least other more unknown
  ];
}

named_unknown : (kind : Keys) (key : List ℕ) (d : Data) (rest : Members) (o : Option (List ℕ)) → is_known_key kind key ≡ false → IsNamed kind rest o → IsLeastUnknown kind (member key d rest) (lesser_text key o)
named_unknown kind key d rest None unknown n =
    in_front kind key d rest unknown (λ other there other_unknown. absurd (true≢false (sym (n other there) ∙ other_unknown)))
named_unknown kind key d rest (Some least_key) unknown n =
    elim (cases_Bool (below least_key key)) [
      | inl less ↦ rw less (further_on kind key d rest least_key n less)
      | inr not_less ↦ rw not_less (in_front kind key d rest unknown (λ other there other_unknown. ranks.chain other least_key key (n.least other there other_unknown) not_less))
    ]

pub named : (kind : Keys) (ms : Members) → IsNamed kind ms (least_text (unknown_keys kind ms))
named kind no_members = λ key there. absurd there
named kind (member key d rest) =
    elim (cases_Bool (is_known_key kind key)) [
      | inl known ↦ rw known (named_known kind key d rest (least_text (unknown_keys kind rest)) known (named kind rest))
      | inr unknown ↦ rw unknown (named_unknown kind key d rest (least_text (unknown_keys kind rest)) unknown (named kind rest))
    ]

abbrev at_fault : SectionView → List ℕ → Result (Unit {0}) ReadFault
at_fault this key = Err (UnknownKey (key_place this key))

abbrev unknown_key : Place → Result (Unit {0}) ReadFault
unknown_key at = Err (UnknownKey at)

same_place : (a b : Place) → unknown_key a ≡ unknown_key b → a ≡ b
same_place a b e = cc

same_key : (this : SectionView) (a b : List ℕ) → at_fault this a ≡ at_fault this b → a ≡ b
same_key this a b e = ap (λ (at : Place). at.key) (same_place (key_place this a) (key_place this b) e)

known_at : (kind : Keys) (this : SectionView) (o : Option (List ℕ)) → IsNamed kind this.members o → (no_unknown this o ≡ Ok tt) ↔ AreKnown kind this.members
known_at kind this None n = (λ e. n, λ h. refl)
known_at kind this (Some key) n = (λ e. absurd cc, λ h. absurd (true≢false (sym (h key n.is_there) ∙ n.unknown)))

unknown_at : (kind : Keys) (this : SectionView) (o : Option (List ℕ)) (key : List ℕ) → IsNamed kind this.members o → (no_unknown this o ≡ at_fault this key) ↔ IsLeastUnknown kind this.members key
unknown_at kind this None key n = (λ e. absurd cc, λ h. absurd (true≢false (sym (n key h.is_there) ∙ h.unknown)))
unknown_at kind this (Some other) key n = (
  λ e. subst (λ k. IsLeastUnknown kind this.members k) (same_key this other key e) n,
  λ h. ap (at_fault this) (same other key (h.least other n.is_there n.unknown) (n.least key h.is_there h.unknown)),
)

pub all_known : (kind : Keys) (this : SectionView) → (known_keys kind this ≡ Ok tt) ↔ AreKnown kind this.members
all_known kind this = known_at kind this (least_text (unknown_keys kind this.members)) (named kind this.members)

pub least_is_named : (kind : Keys) (this : SectionView) (key : List ℕ) → (known_keys kind this ≡ Err (UnknownKey (key_place this key))) ↔ IsLeastUnknown kind this.members key
least_is_named kind this key = unknown_at kind this (least_text (unknown_keys kind this.members)) key (named kind this.members)
