-- The tests of the definitions, in words of headers, and a modification that touches nothing.
use Rattle.std.proofs.Common.{IsTrue, ◌≡◌, ◌↔◌, ◌⊎◌, ◌==◌, ◌||◌, leb, not, Bool, true, false, List, [], ◌∷◌, ◌++◌, Option, Some, None, refl, inl, inr, arith}
use Rattle.std.specs.List.{list_any}
use Rattle.std.proofs.lemmas.Bool.{cases_Bool, false_from_ne_true, both_ways, and_parts, and_from, eqb-true, eq-eqb, not-true, not_from_false, or_parts, eqb-false, leb-false}
use Rattle.of10_model.specs.declared.pattern.Pattern.{Pattern}
use Rattle.of10_model.specs.Same.{is_same}
use Rattle.of10_model.specs.Normal.{IsNormal}
use Rattle.of10_model.specs.Meet.{is_disjoint, meet_of}
use Rattle.of10_model.specs.Inclusion.{Includes}
use Rattle.of10_model.proofs.Same.{is_same_iff}
use Rattle.of10_model.proofs.Including.{includes_iff, includes-Includes}
use Rattle.of10_model.proofs.Disjointness.{is_disjoint_iff, shared}
use Rattle.of10_flow.specs.declared.flow_mod.FlowMod.{FlowMod}
use Rattle.of10_flow.specs.declared.protocol.TheConstants.{ADD, MODIFY, MODIFY_STRICT, DELETE}
use Rattle.of10_flow.specs.declared.flow_entry.FlowEntry.{FlowEntry}
use Rattle.of10_flow.specs.Tables.{names_entry, describes, touches, overlaps, entry_of, Apply}
use Rattle.of10_flow.specs.TableLaws.{SharesHeader}

-- a flow-mod names the entries of its match and priority
pub names_iff : (m : FlowMod) (e : FlowEntry) → IsTrue (names_entry m e) ↔ ((e.pattern ≡ m.pattern) × (e.priority ≡ m.priority))
names_iff m e = (
  λ is. (let both = and_parts (e.priority == m.priority) (is_same e.pattern m.pattern) is in ((is_same_iff e.pattern m.pattern).0 both.1, eqb-true e.priority m.priority both.0)),
  λ both. and_from (e.priority == m.priority) (is_same e.pattern m.pattern) (eq-eqb e.priority m.priority both.1) ((is_same_iff e.pattern m.pattern).1 both.0),
)

-- it describes those whose headers its match has
pub describes_iff : (m : FlowMod) (e : FlowEntry) → IsNormal m.pattern → IsNormal e.pattern → IsTrue (describes m e) ↔ Includes m.pattern e.pattern
describes_iff m e i j = includes_iff m.pattern e.pattern i.0 j.0

some_meet_is : (a b : Pattern) → IsNormal a → IsNormal b → is_disjoint a b ≡ false → SharesHeader a b
some_meet_is a b i j apart = go (meet_of a b) refl apart
  where
    go : (o : Option Pattern) → meet_of a b ≡ o → elim o [ None ↦ true | Some r ↦ false ] ≡ false → SharesHeader a b
    go None e isnt = absurd (let clash : true ≡ false = isnt in cc)
    go (Some r) e isnt = shared a b r i.0 j.0 e

-- an entry overlaps it that has its priority and shares a header with it
pub overlaps_iff : (m : FlowMod) (e : FlowEntry) → IsNormal m.pattern → IsNormal e.pattern → IsTrue (overlaps m e) ↔ ((e.priority ≡ m.priority) × SharesHeader e.pattern m.pattern)
overlaps_iff m e i j = (
  λ is. (let both = and_parts (e.priority == m.priority) (not (is_disjoint e.pattern m.pattern)) is in
      (eqb-true e.priority m.priority both.0, some_meet_is e.pattern m.pattern j i (not-true (is_disjoint e.pattern m.pattern) both.1))),
  λ both. and_from (e.priority == m.priority) (not (is_disjoint e.pattern m.pattern)) (eq-eqb e.priority m.priority both.0)
      (not_from_false (is_disjoint e.pattern m.pattern) (false_from_ne_true (is_disjoint e.pattern m.pattern) (λ apart.
      (let h = both.1 in (is_disjoint_iff e.pattern m.pattern j.0 i.0).0 apart h.0 h.1 h.2 h.3)))),
)

-- ---- a modification that touches nothing

-- a match describes what it names
names-describes : (m : FlowMod) (e : FlowEntry) → IsNormal m.pattern → names_entry m e ≡ true → describes m e ≡ true
names-describes m e i is =
    let same = ((names_iff m e).0 is).0 in
    rw same (includes-Includes m.pattern m.pattern i.0 i.0 (λ h r k. k))

pub none_weaker : {A : Type 0} (p q : A → Bool) → ((x : A) → p x ≡ true → q x ≡ true) → (xs : List A) → list_any q xs ≡ false → list_any p xs ≡ false
none_weaker p q weaker [] none = refl
none_weaker p q weaker (x ∷ xs) none = elim (cases_Bool (q x)) [
  | inl is ↦ absurd (let clash : true ≡ false = rw is at none in cc)
  | inr isnt ↦ (let p_isnt : p x ≡ false = false_from_ne_true (p x) (λ is. both_ways (q x) isnt (weaker x is)) in rw (p_isnt, none_weaker p q weaker xs (rw isnt at none)) refl)
]

-- what is named is touched, but by a delete
pub names-touches : (m : FlowMod) (e : FlowEntry) → IsNormal m.pattern → leb DELETE m.command ≡ false → names_entry m e ≡ true → touches m e ≡ true
names-touches m e i not_delete is = elim (cases_Bool (m.command == ADD || m.command == MODIFY_STRICT)) [
  | inl names_one ↦ rw names_one is
  | inr not_one ↦ elim (cases_Bool (m.command == MODIFY)) [
    | inl modify ↦ rw (not_one, modify) (names-describes m e i is)
    | inr not_modify ↦
        let others = or_parts (m.command == ADD) (m.command == MODIFY_STRICT) not_one in
        let not_0 = eqb-false m.command 0 others.0 in
        let not_2 = eqb-false m.command 2 others.1 in
        let not_1 = eqb-false m.command 1 not_modify in
        let low = leb-false 3 m.command not_delete in
        absurd (omega (arith, not_0, not_1, not_2, low))
  ]
]

-- the same flow-mod as an ADD without flags
abbrev pub as_add : FlowMod → FlowMod
as_add m = record m { command = ADD; flags = 0 }

adds : (table : List FlowEntry) (m : FlowMod) → list_any (names_entry m) table ≡ false → Apply table (as_add m) ≡ table ++ (entry_of m ∷ [])
adds table m none = rw none refl

pub modify_as_add : (table : List FlowEntry) (m : FlowMod) → IsNormal m.pattern → (m.command ≡ MODIFY) ⊎ (m.command ≡ MODIFY_STRICT) → list_any (touches m) table ≡ false → Apply table m ≡ Apply table (as_add m)
modify_as_add table m i (inl modify) none =
    let none_described : list_any (describes m) table ≡ false = rw modify at none in
    let none_named = none_weaker (names_entry m) (describes m) (λ e is. names-describes m e i is) table none_described in
    rw (adds table m none_named, modify, none_described) refl
modify_as_add table m i (inr modify) none =
    let none_named : list_any (names_entry m) table ≡ false = rw modify at none in
    rw (adds table m none_named, modify, none_named) refl
