-- Which rules are refused for the names in them.
use Rattle.std.proofs.Common.{◌≡◌, ◌≢◌, ◌↔◌, ◌⊎◌, inl, inr, ℕ, zero, suc, ◌<◌, ◌&&◌, not, Bool, true, false, cond, true≢false, ◌%◌, nat_eq, eqb-true, List, [], ◌∷◌, map, length, slice_index, slice_index_or, Option, Some, None, Ok, Err, refl, sym, ap, ◌∙◌, arith}
use Rattle.std.specs.List.{list_any}
use Rattle.std.proofs.lemmas.Bool.{cases_Bool}
use Rattle.std.proofs.lemmas.List.{get_or-map, get_or_read_under, length-map}
use Rattle.std.proofs.lemmas.List.Folds.{Any-from_list_any, list_any_at}
use Rattle.std.proofs.lemmas.Option.{same_Some}
use Rattle.of10_model.specs.declared.pattern.Pattern.{Pattern}
use Rattle.of10_model.specs.Results.{◌>>=◌}
use Rattle.of10_model.proofs.Results.{bind_fails, bind_is, bind_ok, ok_is}
use Rattle.flowspace.specs.declared.fault.PolicyFault.TheVariants.{UnknownSlice}
use Rattle.flowspace.specs.declared.slices.Slice.{Slice}
use Rattle.flowspace.specs.declared.fault.Field.{Field}
use Rattle.flowspace.specs.declared.fault.Field.TheVariants.{DlVlanPcp, NwTos, NwProto, NwSrc, NwDst, TpSrc, TpDst, Read}
use Rattle.flowspace.specs.Rules.{first_improper}
use Rattle.policy_text.specs.declared.fault.ReadFault.{ReadFault}
use Rattle.policy_text.specs.declared.fault.ReadFault.TheVariants.{Improper, Refused}
use Rattle.policy_text.specs.Rules.{known_slot, writer_slot, slots_of, are_different, no_improper, proper, RuleText, rule_from}
use Rattle.flowspace.specs.Slices.{slot_named}
use Rattle.policy_text.proofs.Sound.{rule_with}
use Rattle.policy_laws.proofs.Readers.{named_is, is_itself, later}
use Rattle.policy_laws.specs.Readers.{with_writer, names_of_rule, NamesNoSlice, NamesSlices, NamesTwice}

-- ---- names and slots

abbrev Slots : List Slice → List (List ℕ) → List ℕ → Type 0
Slots slices names slots = map (slot_named slices) names ≡ map Some slots

slots_back : (slices : List Slice) (index : ℕ) (names : List (List ℕ)) (slots : List ℕ) → slots_of slices index names ≡ Ok slots → Slots slices names slots
slots_back slices index [] slots e = ap (map Some) (ok_is [] slots e)
slots_back slices index (name ∷ names) slots e =
    let a = bind_ok (known_slot index (slot_named slices name)) _ slots e in
    let b = bind_ok (slots_of slices index names) _ slots a.2 in
    let made = ok_is (a.0 ∷ b.0) slots b.2 in
    rw (named_is index (slot_named slices name) a.0 a.1, slots_back slices index names b.0 b.1) (ap (map Some) made)

slots_there : (slices : List Slice) (index : ℕ) (names : List (List ℕ)) (slots : List ℕ) → Slots slices names slots → slots_of slices index names ≡ Ok slots
slots_there slices index [] [] e = refl
slots_there slices index [] (slot ∷ slots) e = absurd cc
slots_there slices index (name ∷ names) [] e = absurd cc
slots_there slices index (name ∷ names) (slot ∷ slots) e =
    let first : slot_named slices name ≡ Some slot = cc in
    let others : Slots slices names slots = cc in
    bind_is (known_slot index (slot_named slices name)) _ slot _ (ap (known_slot index) first) (bind_is (slots_of slices index names) _ slots _ (slots_there slices index names slots others) refl)

pub slots_are : (slices : List Slice) (index : ℕ) (names : List (List ℕ)) (slots : List ℕ) → (slots_of slices index names ≡ Ok slots) ↔ Slots slices names slots
slots_are slices index names slots = (slots_back slices index names slots, slots_there slices index names slots)

-- ---- a name of no slice

abbrev unknown : ℕ → ReadFault
unknown index = Refused (UnknownSlice index)

-- a name is a slice's, or it is refused
abbrev NameIs : ℕ → Option ℕ → Type 0
NameIs index o = ((o ≡ None) × (known_slot index o ≡ Err (unknown index))) ⊎ ((slot : ℕ) × (o ≢ None) × (known_slot index o ≡ Ok slot))

name_is : (index : ℕ) (o : Option ℕ) → NameIs index o
name_is index None = inl (refl, refl)
name_is index (Some slot) = inr (slot, λ none. cc, refl)

-- a name is of no slice
abbrev IsNoSlice : List Slice → List ℕ → Type 0
IsNoSlice slices name = slot_named slices name ≡ None

one_more : (slices : List Slice) (name : List ℕ) (names : List (List ℕ)) → slot_named slices name ≢ None → NamesSlices slices names → NamesSlices slices (name ∷ names)
one_more slices name names here others zero d lt = here
one_more slices name names here others (suc k) d lt = others k d (omega (arith, lt))

apart : (slices : List Slice) (names : List (List ℕ)) → NamesSlices slices names → NamesNoSlice slices names → ⊥
apart slices names known h = known h.0 h.1 h.2 (ap (slot_named slices) h.3 ∙ h.4)

-- the names under `read`: one is of no slice, or all are slices' and have their slots
abbrev ReadersAre : List Slice → ℕ → List (List ℕ) → Type 0
ReadersAre slices index names = (NamesNoSlice slices names × (slots_of slices index names ≡ Err (unknown index))) ⊎ ((slots : List ℕ) × NamesSlices slices names × (slots_of slices index names ≡ Ok slots))

readers_are : (slices : List Slice) (index : ℕ) (names : List (List ℕ)) → ReadersAre slices index names
readers_are slices index [] = inr ([], λ k d lt. absurd (omega (arith, lt)), refl)
readers_are slices index (name ∷ names) =
    elim (name_is index (slot_named slices name)) [
      | inl here ↦ inl ((0, name, omega arith, refl, here.0), bind_fails (known_slot index (slot_named slices name)) _ (unknown index) here.1)
      | inr known ↦ elim (readers_are slices index names) [
        | inl there ↦ inl (
          later (IsNoSlice slices) name names there.0,
          bind_is (known_slot index (slot_named slices name)) _ known.0 _ known.2 (bind_fails (slots_of slices index names) _ (unknown index) there.1),
        )
        | inr all ↦ inr (
          known.0 ∷ all.0,
          one_more slices name names known.1 all.1,
          bind_is (known_slot index (slot_named slices name)) _ known.0 _ known.2 (bind_is (slots_of slices index names) _ all.0 _ all.2 refl),
        )
      ]
    ]

abbrev WriterIs : List Slice → ℕ → Option (List ℕ) → List (List ℕ) → Type 0
WriterIs slices index write names = (NamesNoSlice slices (with_writer write names) × (writer_slot slices index write ≡ Err (unknown index)))
    ⊎ ((writer : Option ℕ) × (writer_slot slices index write ≡ Ok writer) × (NamesSlices slices names → NamesSlices slices (with_writer write names)) × (NamesNoSlice slices names → NamesNoSlice slices (with_writer write names)))

writer_is : (slices : List Slice) (index : ℕ) (write : Option (List ℕ)) (names : List (List ℕ)) → WriterIs slices index write names
writer_is slices index None names = inr (None, refl, λ h. h, λ h. h)
writer_is slices index (Some name) names =
    elim (name_is index (slot_named slices name)) [
      | inl here ↦ inl ((0, name, omega arith, refl, here.0), bind_fails (known_slot index (slot_named slices name)) _ (unknown index) here.1)
      | inr known ↦ inr (Some (known.0 % 256), bind_is (known_slot index (slot_named slices name)) _ known.0 _ known.2 refl, one_more slices name names known.1, later (IsNoSlice slices) name names)
    ]

-- a rule: one of its names is of no slice, or all are slices' and the rule is what its slots make of it
abbrev RuleIs : List Slice → ℕ → RuleText → Type 0
RuleIs slices index said = (NamesNoSlice slices (names_of_rule said) × (rule_from slices index said ≡ Err (unknown index)))
    ⊎ ((writer : Option ℕ) × (slots : List ℕ) × NamesSlices slices (names_of_rule said) × (slots_of slices index said.read ≡ Ok slots) × (rule_from slices index said ≡ (proper index slots said.pattern >>= λ fits. Ok (rule_with said writer slots))))

rule_is : (slices : List Slice) (index : ℕ) (said : RuleText) → RuleIs slices index said
unfolding rule_from
rule_is slices index said =
    elim (writer_is slices index said.write said.read) [
      | inl missing ↦ inl (missing.0, bind_fails (writer_slot slices index said.write) _ (unknown index) missing.1)
      | inr writer ↦ elim (readers_are slices index said.read) [
        | inl missing ↦ inl (
          writer.3 missing.0,
          bind_is (writer_slot slices index said.write) _ writer.0 _ writer.1 (bind_fails (slots_of slices index said.read) _ (unknown index) missing.1),
        )
        | inr readers ↦ inr (
          writer.0,
          readers.0,
          writer.2 readers.1,
          readers.2,
          bind_is (writer_slot slices index said.write) _ writer.0 _ writer.1 (bind_is (slots_of slices index said.read) _ readers.0 _ readers.2 refl),
        )
      ]
    ]

fault_is_improper : {A : Type 0} (index : ℕ) (o : Option Field) (x : A) (fault : ReadFault) → (no_improper index o >>= λ fits. Ok x) ≡ Err fault → (field : Field) × (o ≡ Some field) × (fault ≡ Improper index field)
fault_is_improper index None x fault e = absurd cc
fault_is_improper index (Some field) x fault e = (field, refl, cc)

pub missing_name : (slices : List Slice) (index : ℕ) (said : RuleText) → (rule_from slices index said ≡ Err (unknown index)) ↔ NamesNoSlice slices (names_of_rule said)
missing_name slices index said =
    elim (rule_is slices index said) [
      | inl missing ↦ (λ e. missing.0, λ h. missing.1)
      | inr known ↦ (
        λ e. absurd (let f = fault_is_improper index _ (rule_with said known.0 known.1) (unknown index) (sym known.4 ∙ e) in let same = f.2 in cc),
        λ h. absurd (apart slices (names_of_rule said) known.2 h),
      )
    ]

-- ---- a name that is there twice

abbrev SlotTwice : List ℕ → Type 0
SlotTwice slots = (i j : ℕ) × (i < j) × (j < length slots) × (slice_index slots i ≡ slice_index slots j)

others_differ : (b c : Bool) → b ≡ false → (not b && c) ≡ false → c ≡ false
others_differ true c none e = absurd cc
others_differ false c none e = e

twice_there : (slots : List ℕ) → are_different slots ≡ false → SlotTwice slots
twice_there [] e = absurd (true≢false e)
twice_there (slot ∷ slots) e =
    elim (cases_Bool (list_any (nat_eq slot) slots)) [
      | inl there ↦
          let a = Any-from_list_any (nat_eq slot) slots there in
          let at : a.1 ≡ slice_index slots a.0 = get_or_read_under slots a.0 (length slots) a.1 0 (sym a.3) a.2 refl in
          (0, suc a.0, omega arith, omega (arith, a.2), eqb-true slot a.1 a.4 ∙ at)
      | inr none ↦
          let h = twice_there slots (others_differ (list_any (nat_eq slot) slots) (are_different slots) none e) in
          (suc h.0, suc h.1, omega (arith, h.2), omega (arith, h.3), h.4)
    ]

not_both : (b c : Bool) → (b ≡ true) ⊎ (c ≡ false) → (not b && c) ≡ false
not_both true c h = refl
not_both false c (inl e) = absurd cc
not_both false c (inr e) = e

twice_differs : (slots : List ℕ) (i j : ℕ) → i < j → j < length slots → slice_index slots i ≡ slice_index slots j → are_different slots ≡ false
twice_differs [] i j lt within e = absurd (omega (arith, within))
twice_differs (slot ∷ slots) i zero lt within e = absurd (omega (arith, lt))
twice_differs (slot ∷ slots) zero (suc j) lt within e =
    not_both (list_any (nat_eq slot) slots) (are_different slots) (inl (list_any_at (nat_eq slot) slots j 0 (omega (arith, within)) (is_itself slot (slice_index slots j) (sym e))))
twice_differs (slot ∷ slots) (suc i) (suc j) lt within e =
    not_both (list_any (nat_eq slot) slots) (are_different slots) (inr (twice_differs slots i j (omega (arith, lt)) (omega (arith, within)) e))

slot_at : (slices : List Slice) (names : List (List ℕ)) (slots : List ℕ) (k : ℕ) → Slots slices names slots → k < length names → k < length slots → slot_named slices (slice_index_or names k []) ≡ Some (slice_index slots k)
slot_at slices names slots k e lt within = sym (get_or-map (slot_named slices) names k [] None lt) ∙ ap (λ os. slice_index_or os k None) e ∙ get_or-map Some slots k 0 None within

as_long : (slices : List Slice) (names : List (List ℕ)) (slots : List ℕ) → Slots slices names slots → length names ≡ length slots
as_long slices names slots e = sym (length-map names (slot_named slices)) ∙ ap length e ∙ length-map slots Some

names_twice : (slices : List Slice) (names : List (List ℕ)) (slots : List ℕ) → Slots slices names slots → SlotTwice slots → NamesTwice slices names
names_twice slices names slots e h =
    let long = as_long slices names slots e in
    let first = slot_at slices names slots h.0 e (omega (arith, long, h.2, h.3)) (omega (arith, h.2, h.3)) in
    let other = slot_at slices names slots h.1 e (omega (arith, long, h.3)) h.3 in
    (h.0, h.1, h.2, omega (arith, long, h.3), first ∙ ap Some h.4 ∙ sym other)

slots_twice : (slices : List Slice) (names : List (List ℕ)) (slots : List ℕ) → Slots slices names slots → NamesTwice slices names → are_different slots ≡ false
slots_twice slices names slots e h =
    let long = as_long slices names slots e in
    let first = slot_at slices names slots h.0 e (omega (arith, h.2, h.3)) (omega (arith, long, h.2, h.3)) in
    let other = slot_at slices names slots h.1 e h.3 (omega (arith, long, h.3)) in
    twice_differs slots h.0 h.1 h.2 (omega (arith, long, h.3)) (same_Some (slice_index slots h.0) (slice_index slots h.1) (sym first ∙ h.4 ∙ other))

-- no field of a match is `read`
not_here : (b : Bool) (field : Field) (o : Option Field) → field ≢ Read → o ≢ Some Read → cond b (Some field) o ≢ Some Read
not_here true field o other none e = other (same_Some field Read e)
not_here false field o other none e = none e

none_is_not : ◌≢◌ {A = Option Field} None (Some Read)
none_is_not e = cc

never_read : (m : Pattern) → first_improper m ≢ Some Read
unfolding first_improper
never_read m =
    not_here _ DlVlanPcp _ (λ e. cc) (not_here _ NwTos _ (λ e. cc) (not_here _ NwProto _ (λ e. cc) (not_here _ NwSrc _ (λ e. cc) (not_here _ NwDst _ (λ e. cc) (not_here _ TpSrc _ (λ e. cc) (not_here _ TpDst _ (λ e. cc) none_is_not))))))

read_is_twice : (b : Bool) (o : Option Field) → o ≢ Some Read → cond b o (Some Read) ≡ Some Read → b ≡ false
read_is_twice true o other e = absurd (other e)
read_is_twice false o other e = refl

pub repeated_name : (slices : List Slice) (index : ℕ) (said : RuleText) → (rule_from slices index said ≡ Err (Improper index Read)) ↔ (NamesSlices slices (names_of_rule said) × NamesTwice slices said.read)
repeated_name slices index said =
    elim (rule_is slices index said) [
      | inl missing ↦ (λ e. absurd (let same = sym missing.1 ∙ e in cc), λ h. absurd (apart slices (names_of_rule said) h.0 missing.0))
      | inr known ↦
          let slots = slots_back slices index said.read known.1 known.3 in (
            λ e.
                let f = fault_is_improper index _ (rule_with said known.0 known.1) (Improper index Read) (sym known.4 ∙ e) in
                let field : f.0 ≡ Read = let same = f.2 in cc in
                let differ = read_is_twice (are_different known.1) (first_improper said.pattern) (never_read said.pattern) (f.1 ∙ ap Some field) in
                (known.2, names_twice slices said.read known.1 slots (twice_there known.1 differ)),
            λ h.
                let differ = slots_twice slices said.read known.1 slots h.1 in
                known.4 ∙ rw differ refl,
          )
    ]
