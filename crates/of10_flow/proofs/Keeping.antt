-- What a flow-mod does to the entries that have a header outside its match: nothing.
use Rattle.std.proofs.Common.{◌≡◌, ◌==◌, ◌&&◌, ◌||◌, leb, not, Bool, true, false, List, [], ◌∷◌, map, filter, refl, ap, subst, ◌∙◌, inl, inr, append-nil}
use Rattle.std.specs.List.{list_any}
use Rattle.std.proofs.lemmas.Bool.{cases_Bool, false_from_ne_true, and_parts}
use Rattle.std.proofs.lemmas.List.Elements.{filter-append}
use Rattle.of10_model.specs.Header.{Header}
use Rattle.of10_model.specs.Pattern.{Has, has}
use Rattle.of10_model.specs.Same.{is_same}
use Rattle.of10_model.proofs.Membership.{has_iff_Has}
use Rattle.of10_model.proofs.Same.{is_same_iff}
use Rattle.of10_model.proofs.Including.{Has-includes}
use Rattle.of10_flow.specs.declared.flow_mod.FlowMod.{FlowMod}
use Rattle.of10_flow.specs.declared.protocol.TheConstants.{ADD, MODIFY, MODIFY_STRICT, DELETE, DELETE_STRICT}
use Rattle.of10_flow.specs.declared.flow_entry.FlowEntry.{FlowEntry}
use Rattle.of10_flow.specs.Tables.{describes, names_entry, outputs_as_asked, touches, refuses, entry_of, with_actions_of, Apply, having, foremost, Treatment}

-- ---- what is touched lies in the match

-- a flow-mod's match has the headers of an entry that it names
named_has : (m : FlowMod) (e : FlowEntry) → names_entry m e ≡ true → (h : Header) → Has e.pattern h → Has m.pattern h
named_has m e is h k = subst (λ p. Has p h) ((is_same_iff e.pattern m.pattern).0 (and_parts (e.priority == m.priority) (is_same e.pattern m.pattern) is).1) k

-- and of one that it describes
described_has : (m : FlowMod) (e : FlowEntry) → describes m e ≡ true → (h : Header) → Has e.pattern h → Has m.pattern h
described_has m e is h k = Has-includes m.pattern e.pattern is h k

first_of_both : (x y : Bool) → (x && y) ≡ true → x ≡ true
first_of_both x y is = (and_parts x y is).0

-- so of one that it touches
pub touched_has : (m : FlowMod) (e : FlowEntry) → touches m e ≡ true → (h : Header) → Has e.pattern h → Has m.pattern h
touched_has m e is h k =
    elim (cases_Bool (m.command == ADD || m.command == MODIFY_STRICT)) [
      | inl one ↦ named_has m e (rw one at is) h k
      | inr not_one ↦ elim (cases_Bool (m.command == MODIFY)) [
        | inl two ↦ described_has m e (rw (not_one, two) at is) h k
        | inr not_two ↦ elim (cases_Bool (m.command == DELETE)) [
          | inl three ↦ described_has m e (first_of_both (describes m e) (outputs_as_asked m e) (rw (not_one, not_two, three) at is)) h k
          | inr not_three ↦ elim (cases_Bool (m.command == DELETE_STRICT)) [
            | inl four ↦ named_has m e (first_of_both (names_entry m e) (outputs_as_asked m e) (rw (not_one, not_two, not_three, four) at is)) h k
            | inr not_four ↦ absurd (let no : false ≡ true = rw (not_one, not_two, not_three, not_four) at is in cc)
          ]
        ]
      ]
    ]

-- ---- a header outside the match

-- an entry that has it isn't touched
untouched : (m : FlowMod) (h : Header) → (Has m.pattern h → ⊥) → (e : FlowEntry) → has e.pattern h ≡ true → touches m e ≡ false
untouched m h outside e in_e = false_from_ne_true (touches m e) (λ is. outside (touched_has m e is h ((has_iff_Has e.pattern h).0 in_e)))

-- nor is it in the entry of the flow-mod
not_in_new : (m : FlowMod) (h : Header) → (Has m.pattern h → ⊥) → has m.pattern h ≡ false
not_in_new m h outside = false_from_ne_true (has m.pattern h) (λ is. outside ((has_iff_Has m.pattern h).0 is))

-- a changed entry keeps its match and priority
pub same_pattern : (m : FlowMod) (e : FlowEntry) → (with_actions_of m e).pattern ≡ e.pattern
same_pattern m e = elim (cases_Bool (touches m e)) [ inl is ↦ rw is refl | inr isnt ↦ rw isnt refl ]

pub same_priority : (m : FlowMod) (e : FlowEntry) → (with_actions_of m e).priority ≡ e.priority
same_priority m e = elim (cases_Bool (touches m e)) [ inl is ↦ rw is refl | inr isnt ↦ rw isnt refl ]

module _ {A : Type 0} where
  -- a filter after another that leaves out nothing of what it keeps
  filter-filter : (p q : A → Bool) → ((x : A) → p x ≡ true → q x ≡ true) → (xs : List A) → filter p (filter q xs) ≡ filter p xs
  filter-filter p q within [] = refl
  filter-filter p q within (x ∷ xs) = elim (cases_Bool (p x)) [
    | inl is ↦ rw (within x is, is, filter-filter p q within xs) refl
    | inr not ↦ elim (cases_Bool (q x)) [
      | inl is ↦ rw (is, not, filter-filter p q within xs) refl
      | inr isnt ↦ rw (isnt, not, filter-filter p q within xs) refl
    ]
  ]

  -- a filter of what a function made that changes nothing of what it keeps
  filter-map : (p : A → Bool) (f : A → A) → ((x : A) → p (f x) ≡ p x) → ((x : A) → p x ≡ true → f x ≡ x) → (xs : List A) → filter p (map f xs) ≡ filter p xs
  filter-map p f same stays [] = refl
  filter-map p f same stays (x ∷ xs) = elim (cases_Bool (p x)) [
    | inl is ↦ rw (same x, is, stays x is, filter-map p f same stays xs) refl
    | inr not ↦ rw (same x, not, filter-map p f same stays xs) refl
  ]

-- the entries that have it stay, in their order
pub having-Apply : (table : List FlowEntry) (m : FlowMod) (h : Header) → (Has m.pattern h → ⊥) → having h (Apply table m) ≡ having h table
having-Apply table m h outside =
    let p = λ (e : FlowEntry). has e.pattern h in
    let stays : (e : FlowEntry) → p e ≡ true → touches m e ≡ false = untouched m h outside in
    elim (cases_Bool (refuses table m)) [
      | inl refused ↦ rw refused refl
      | inr taken ↦ elim (cases_Bool (leb DELETE m.command)) [
        | inl deletes ↦ rw (taken, deletes) (filter-filter p (λ e. not (touches m e)) (λ e in_e. rw (stays e in_e) refl) table)
        | inr not_delete ↦ elim (cases_Bool (list_any (touches m) table)) [
          | inl some ↦ rw (taken, not_delete, some) (filter-map p (with_actions_of m) (λ e. ap (λ p. has p h) (same_pattern m e)) (λ e in_e. rw (stays e in_e) refl) table)
          | inr none ↦ rw (taken, not_delete, none) (filter-append p table (entry_of m ∷ []) ∙ rw (not_in_new m h outside) (append-nil (filter p table)))
        ]
      ]
    ]

-- so it is treated as before
pub Treatment-Apply : (table : List FlowEntry) (m : FlowMod) (h : Header) → (Has m.pattern h → ⊥) → Treatment (Apply table m) h ≡ Treatment table h
Treatment-Apply table m h outside = ap (λ entries. map (λ (e : FlowEntry). e.actions) (foremost entries)) (having-Apply table m h outside)
