-- What flow-mods one after another make of a table, where all of them delete, where each touches an entry, and where none does.
use Rattle.std.proofs.Common.{◌≡◌, ◌↔◌, ◌==◌, ◌&&◌, ◌||◌, not, Bool, true, false, List, [], ◌∷◌, ◌++◌, get_or, map, filter, append-nil, append_assoc, if◌then◌else◌, refl, sym, ap, subst, ◌∙◌, inl, inr, arith}
use Rattle.std.specs.Prelude.{All, AllPairs}
use Rattle.std.specs.List.{list_any}
use Rattle.std.proofs.lemmas.Bool.{cases_Bool, eqb-true, leb-true, leb-false, not-true, not_from_false}
use Rattle.std.proofs.lemmas.List.Elements.{All-nil, All-cons, All-head, All-tail}
use Rattle.std.proofs.lemmas.List.Folds.{list_any-append}
use Rattle.of10_flow.specs.declared.flow_mod.FlowMod.{FlowMod}
use Rattle.of10_flow.specs.declared.protocol.TheConstants.{ADD, MODIFY, MODIFY_STRICT, DELETE, DELETE_STRICT}
use Rattle.of10_action.specs.declared.action.Action.{Action}
use Rattle.of10_flow.specs.declared.flow_entry.FlowEntry.{FlowEntry}
use Rattle.of10_flow.specs.Tables.{touches, overlaps, refuses, entry_of, with_actions_of, Apply, ApplyAll}
use Rattle.of10_flow.specs.TableLaws.{Deletes, Puts}
use Rattle.of10_model.proofs.Pairs.{AllPairs-head, AllPairs-tail}
use Rattle.of10_flow.proofs.Choosing.{Among, among_filter, filter_among}

-- ---- deletes

never_refused : (table : List FlowEntry) (m : FlowMod) → Deletes m → refuses table m ≡ false
never_refused table m deletes = elim (cases_Bool (m.command == ADD)) [
  | inl add ↦ absurd (let zero_is = eqb-true m.command 0 add in let high = leb-true 3 m.command deletes in omega (arith, zero_is, high))
  | inr other ↦ rw other refl
]

pub Apply-delete : (table : List FlowEntry) (m : FlowMod) → Deletes m → Apply table m ≡ filter (λ e. not (touches m e)) table
Apply-delete table m deletes = rw (never_refused table m deletes, deletes) refl

-- what is left of a table is what none of them touches
pub deletes_leave : (ms : List FlowMod) (table : List FlowEntry) → All Deletes ms → (x : FlowEntry) → Among x (ApplyAll table ms) ↔ (Among x table × All (λ m. touches m x ≡ false) ms)
deletes_leave [] table all x = (λ there. (there, All-nil (λ m. touches m x ≡ false)), λ both. both.0)
deletes_leave (m ∷ ms) table all x =
    let here = Apply-delete table m (All-head Deletes m ms all) in
    let rest = deletes_leave ms (Apply table m) (All-tail Deletes m ms all) x in (
      λ there.
          let later = rest.0 there in
          let kept = among_filter (λ e. not (touches m e)) table x (subst (Among x) here later.0) in
          (kept.0, All-cons (λ m. touches m x ≡ false) m ms (not-true (touches m x) kept.1) later.1),
      λ both.
          let first = All-head (λ m. touches m x ≡ false) m ms both.1 in
          rest.1 (subst (Among x) (sym here) (filter_among (λ e. not (touches m e)) table x both.0 (not_from_false (touches m x) first)), All-tail (λ m. touches m x ≡ false) m ms both.1),
    )

-- ---- flow-mods that change

pub taken : (table : List FlowEntry) (m : FlowMod) (actions : List Action) → Puts actions m → refuses table m ≡ false
taken table m actions p = rw p.unchecked (both_false (m.command == ADD) (list_any (overlaps m) table))
  where
    both_false : (x y : Bool) → (x && false && y) ≡ false
    both_false true y = refl
    both_false false y = refl

-- such a one touches an entry by its match and priority alone
touches_alike : (m : FlowMod) (actions : List Action) → Puts actions m → (e : FlowEntry) (other : List Action) → touches m (record e { actions = other }) ≡ touches m e
touches_alike m actions p e other = elim (cases_Bool (m.command == ADD || m.command == MODIFY_STRICT)) [
  | inl one ↦ rw one refl
  | inr not_one ↦ elim (cases_Bool (m.command == MODIFY)) [
    | inl two ↦ rw (not_one, two) refl
    | inr not_two ↦ elim (cases_Bool (m.command == DELETE)) [
      | inl three ↦ absurd (let at = eqb-true m.command 3 three in let low = leb-false 3 m.command p.puts in omega (arith, at, low))
      | inr not_three ↦ elim (cases_Bool (m.command == DELETE_STRICT)) [
        | inl four ↦ absurd (let at = eqb-true m.command 4 four in let low = leb-false 3 m.command p.puts in omega (arith, at, low))
        | inr not_four ↦ rw (not_one, not_two, not_three, not_four) refl
      ]
    ]
  ]
]

-- an entry after those of them that touch it
abbrev pub put_on : List FlowMod → List Action → FlowEntry → FlowEntry
put_on ms actions e = if list_any (λ m. touches m e) ms then record e { actions = actions } else e

module _ (actions : List Action) where
  touches_after : (m other : FlowMod) → Puts actions m → Puts actions other → (e : FlowEntry) → touches other (with_actions_of m e) ≡ touches other e
  touches_after m other p q e = elim (cases_Bool (touches m e)) [
    | inl is ↦ rw is (touches_alike other actions q e m.actions)
    | inr isnt ↦ rw isnt refl
  ]

  any_after : (m other : FlowMod) → Puts actions m → Puts actions other → (table : List FlowEntry) → list_any (touches other) (map (with_actions_of m) table) ≡ list_any (touches other) table
  any_after m other p q [] = refl
  any_after m other p q (e ∷ rest) = rw (touches_after m other p q e, any_after m other p q rest) refl

  -- where each touches an entry of the table, the entries that some of them touches have the actions
  pub touching_change : (ms : List FlowMod) → All (Puts actions) ms → (table : List FlowEntry) → All (λ m. list_any (touches m) table ≡ true) ms → ApplyAll table ms ≡ map (put_on ms actions) table
  touching_change [] puts table some = same table
    where
      same : (table : List FlowEntry) → table ≡ map (λ e. e) table
      same [] = refl
      same (e ∷ rest) = ap (λ l. e ∷ l) (same rest)
  touching_change (m ∷ ms) puts table some =
      let first = All-head (Puts actions) m ms puts in
      let others = All-tail (Puts actions) m ms puts in
      let here : Apply table m ≡ map (with_actions_of m) table = rw (taken table m actions first, first.puts, All-head (λ x. list_any (touches x) table ≡ true) m ms some) refl in
      let later = touching_after m ms first others table (All-tail (λ x. list_any (touches x) table ≡ true) m ms some) in
      rw here (touching_change ms others (map (with_actions_of m) table) later ∙ both_maps m ms first others table)
    where
      touching_after : (m : FlowMod) (ms : List FlowMod) → Puts actions m → All (Puts actions) ms → (table : List FlowEntry) → All (λ x. list_any (touches x) table ≡ true) ms → All (λ x. list_any (touches x) (map (with_actions_of m) table) ≡ true) ms
      touching_after m [] first others table some = All-nil (λ x. list_any (touches x) (map (with_actions_of m) table) ≡ true)
      touching_after m (n ∷ ms) first others table some =
          All-cons (λ x. list_any (touches x) (map (with_actions_of m) table) ≡ true) n ms
          (any_after m n first (All-head (Puts actions) n ms others) table ∙ All-head (λ x. list_any (touches x) table ≡ true) n ms some)
          (touching_after m ms first (All-tail (Puts actions) n ms others) table (All-tail (λ x. list_any (touches x) table ≡ true) n ms some))

      by_some : (m : FlowMod) (ms : List FlowMod) → Puts actions m → All (Puts actions) ms → (e : FlowEntry) → list_any (λ x. touches x (with_actions_of m e)) ms ≡ list_any (λ x. touches x e) ms
      by_some m [] first others e = refl
      by_some m (n ∷ ms) first others e = rw (touches_after m n first (All-head (Puts actions) n ms others) e, by_some m ms first (All-tail (Puts actions) n ms others) e) refl

      both_puts : (m : FlowMod) (ms : List FlowMod) → Puts actions m → All (Puts actions) ms → (e : FlowEntry) → put_on ms actions (with_actions_of m e) ≡ put_on (m ∷ ms) actions e
      both_puts m ms first others e =
          let any = by_some m ms first others e in
          elim (cases_Bool (touches m e)) [
            | inl is ↦ elim (cases_Bool (list_any (λ x. touches x e) ms)) [
              | inl again ↦ rw (any, again, is) refl
              | inr once ↦ rw (any, once, is) (ap (λ a. record e { actions = a }) first.of_actions)
            ]
            | inr isnt ↦ elim (cases_Bool (list_any (λ x. touches x e) ms)) [
              | inl again ↦ rw (any, again, isnt) refl
              | inr never ↦ rw (any, never, isnt) refl
            ]
          ]

      both_maps : (m : FlowMod) (ms : List FlowMod) → Puts actions m → All (Puts actions) ms → (table : List FlowEntry) → map (put_on ms actions) (map (with_actions_of m) table) ≡ map (put_on (m ∷ ms) actions) table
      both_maps m ms first others [] = refl
      both_maps m ms first others (e ∷ rest) = rw (both_puts m ms first others e, both_maps m ms first others rest) refl

  -- where none touches an entry of the table or of those before it, each adds its entry
  pub touching_none : (ms : List FlowMod) → All (Puts actions) ms → (table : List FlowEntry) → All (λ m. list_any (touches m) table ≡ false) ms → AllPairs (λ m later. touches later (entry_of m) ≡ false) ms → ApplyAll table ms ≡ table ++ map entry_of ms
  touching_none [] puts table none apart = sym (append-nil table)
  touching_none (m ∷ ms) puts table none apart =
      let first = All-head (Puts actions) m ms puts in
      let others = All-tail (Puts actions) m ms puts in
      let here : Apply table m ≡ table ++ (entry_of m ∷ []) = rw (taken table m actions first, first.puts, All-head (λ x. list_any (touches x) table ≡ false) m ms none) refl in
      rw here (
      touching_none ms others (table ++ (entry_of m ∷ [])) (still_none m ms table (All-tail (λ x. list_any (touches x) table ≡ false) m ms none) (AllPairs-head (λ m later. touches later (entry_of m) ≡ false) m ms apart)) (AllPairs-tail (λ m later. touches later (entry_of m) ≡ false) m ms apart)
      ∙ append_assoc table (entry_of m ∷ []) (map entry_of ms))
    where
      still_none : (m : FlowMod) (ms : List FlowMod) (table : List FlowEntry) → All (λ x. list_any (touches x) table ≡ false) ms → All (λ x. touches x (entry_of m) ≡ false) ms → All (λ x. list_any (touches x) (table ++ (entry_of m ∷ [])) ≡ false) ms
      still_none m ms table none apart k d lt =
          let x = get_or ms k d in
          list_any-append (touches x) table (entry_of m ∷ []) ∙ rw (none k d lt, apart k d lt) refl
