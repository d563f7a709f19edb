-- One fact is kept: the entries of a second table are the pieces of the first one's.
use Rattle.std.proofs.Common.{◌≡◌, ◌↔◌, not, Bool, true, false, List, [], ◌∷◌, ◌++◌, map, filter, refl, sym, ap, subst, ◌∙◌, inl, inr}
use Rattle.std.specs.Prelude.{All, AllPairs, Contains}
use Rattle.std.specs.List.{list_any}
use Rattle.std.proofs.lemmas.Bool.{cases_Bool, not-true, not_from_false}
use Rattle.std.proofs.lemmas.List.Folds.{list_any_none}
use Rattle.std.proofs.lemmas.List.Elements.{All-nil, All-cons, Contains-append_left, Contains-append_right, Contains-append_cases, Contains-push, Contains-push_cases}
use Rattle.of10_model.specs.declared.pattern.Pattern.{Pattern}
use Rattle.of10_flow.specs.declared.flow_mod.FlowMod.{FlowMod}
use Rattle.of10_flow.specs.declared.flow_entry.FlowEntry.{FlowEntry}
use Rattle.of10_flow.specs.Tables.{touches, entry_of, with_actions_of, Apply, ApplyAll}
use Rattle.of10_flow.specs.TableLaws.{Deletes, Puts, piece_entry, IsSplitTable, TouchAlike, FollowsByPieces, Delete, Change, Add}
use Rattle.of10_flow.proofs.Choosing.{Among, Contains-iff, among_filter, filter_among, among_map, map_among}
use Rattle.of10_flow.proofs.Keeping.{same_pattern}
use Rattle.of10_flow.proofs.Turns.{Apply-delete, deletes_leave, put_on, taken, touching_change, touching_none}

-- a test that holds of no element fails at each
pub any_none : {A : Type 0} (p : A → Bool) (xs : List A) → list_any p xs ≡ false → All (λ x. p x ≡ false) xs
any_none p [] none = All-nil (λ x. p x ≡ false)
any_none p (x ∷ xs) none = elim (cases_Bool (p x)) [
  | inl is ↦ absurd (let clash : true ≡ false = rw is at none in cc)
  | inr isnt ↦ All-cons (λ x. p x ≡ false) x xs isnt (any_none p xs (rw isnt at none))
]

module _ (pieces : Pattern → List Pattern) (whole split : List FlowEntry) (are : IsSplitTable pieces whole split) (m : FlowMod) (ms : List FlowMod) (alike : TouchAlike pieces whole m ms) where
  -- deletes
  after_deletes : Deletes m → All Deletes ms → IsSplitTable pieces (Apply whole m) (ApplyAll split ms)
  after_deletes deletes all x = (
    λ there.
        let left = (deletes_leave ms split all x).0 ((Contains-iff (ApplyAll split ms) x).0 there) in
        let one = (are x).0 ((Contains-iff split x).1 left.0) in
        let none : list_any (λ sent. touches sent x) ms ≡ false = list_any_none (λ sent. touches sent x) ms left.1 in
        let untouched : touches m one.0 ≡ false = alike one.0 one.1 one.2 one.3 ∙ subst (λ y. list_any (λ sent. touches sent y) ms ≡ false) one.4 none in
        let kept : Among one.0 (Apply whole m) = rw (Apply-delete whole m deletes) (filter_among (λ e. not (touches m e)) whole one.0 ((Contains-iff whole one.0).0 one.2) (not_from_false (touches m one.0) untouched)) in
        (one.0, one.1, (Contains-iff (Apply whole m) one.0).1 kept, one.3, one.4),
    λ one.
        let kept : Among one.0 (filter (λ e. not (touches m e)) whole) = subst (Among one.0) (Apply-delete whole m deletes) ((Contains-iff (Apply whole m) one.0).0 one.2) in
        let both = among_filter (λ e. not (touches m e)) whole one.0 kept in
        let was = (Contains-iff whole one.0).1 both.0 in
        let none : list_any (λ sent. touches sent (piece_entry one.0 one.1)) ms ≡ false = sym (alike one.0 one.1 was one.3) ∙ not-true (touches m one.0) both.1 in
        (Contains-iff (ApplyAll split ms) x).1 ((deletes_leave ms split all x).1 (
          (Contains-iff split x).0 ((are x).1 (one.0, one.1, was, one.3, one.4)),
          any_none (λ sent. touches sent x) ms (subst (λ y. list_any (λ sent. touches sent y) ms ≡ false) (sym one.4) none),
        )),
  )

  -- a changed piece is a piece of the changed entry
  changed_piece : (e : FlowEntry) (piece : Pattern) → Contains whole e → Contains (pieces e.pattern) piece → put_on ms m.actions (piece_entry e piece) ≡ piece_entry (with_actions_of m e) piece
  changed_piece e piece there of_e =
      let same = alike e piece there of_e in
      elim (cases_Bool (touches m e)) [
        | inl is ↦ rw (sym same ∙ is, is) refl
        | inr isnt ↦ rw (sym same ∙ isnt, isnt) refl
      ]

  after_changes : Puts m.actions m → All (Puts m.actions) ms → list_any (touches m) whole ≡ true → All (λ sent. list_any (touches sent) split ≡ true) ms → IsSplitTable pieces (Apply whole m) (ApplyAll split ms)
  after_changes puts all some each x =
      let here : Apply whole m ≡ map (with_actions_of m) whole = rw (taken whole m m.actions puts, puts.puts, some) refl in
      let there : ApplyAll split ms ≡ map (put_on ms m.actions) split = touching_change m.actions ms all split each in (
        λ in_split.
            let was = among_map (put_on ms m.actions) split x (subst (Among x) there ((Contains-iff (ApplyAll split ms) x).0 in_split)) in
            let one = (are was.0).0 ((Contains-iff split was.0).1 was.1) in
            let now = map_among (with_actions_of m) whole one.0 ((Contains-iff whole one.0).0 one.2) in (
              with_actions_of m one.0,
              one.1,
              (Contains-iff (Apply whole m) (with_actions_of m one.0)).1 (subst (Among (with_actions_of m one.0)) (sym here) now),
              subst (λ p. Contains (pieces p) one.1) (sym (same_pattern m one.0)) one.3,
              sym was.2 ∙ ap (put_on ms m.actions) one.4 ∙ changed_piece one.0 one.1 one.2 one.3,
            ),
        λ one.
            let was = among_map (with_actions_of m) whole one.0 (subst (Among one.0) here ((Contains-iff (Apply whole m) one.0).0 one.2)) in
            let e_there = (Contains-iff whole was.0).1 was.1 in
            let of_e : Contains (pieces was.0.pattern) one.1 = subst (λ p. Contains (pieces p) one.1) (ap (λ (y : FlowEntry). y.pattern) (sym was.2) ∙ same_pattern m was.0) one.3 in
            let y = piece_entry was.0 one.1 in
            let in_split = (Contains-iff split y).0 ((are y).1 (was.0, one.1, e_there, of_e, refl)) in
            let now = map_among (put_on ms m.actions) split y in_split in
            let is : put_on ms m.actions y ≡ x = changed_piece was.0 one.1 e_there of_e ∙ ap (λ z. piece_entry z one.1) was.2 ∙ sym one.4 in
            (Contains-iff (ApplyAll split ms) x).1 (subst (Among x) (sym there) (subst (λ z. Among z (map (put_on ms m.actions) split)) is now)),
      )

  after_adds : Puts m.actions m → All (Puts m.actions) ms → list_any (touches m) whole ≡ false → All (λ sent. list_any (touches sent) split ≡ false) ms → AllPairs (λ sent later. touches later (entry_of sent) ≡ false) ms
      → ((x : FlowEntry) → Contains (map entry_of ms) x ↔ ((piece : Pattern) × Contains (pieces m.pattern) piece × (x ≡ piece_entry (entry_of m) piece))) → IsSplitTable pieces (Apply whole m) (ApplyAll split ms)
  after_adds puts all none each apart new x =
      let here : Apply whole m ≡ whole ++ (entry_of m ∷ []) = rw (taken whole m m.actions puts, puts.puts, none) refl in
      let there : ApplyAll split ms ≡ split ++ map entry_of ms = touching_none m.actions ms all split each apart in (
        λ in_split.
            elim (Contains-append_cases split (map entry_of ms) x (subst (λ l. Contains l x) there in_split)) [
              | inl old ↦ (let one = (are x).0 old in (one.0, one.1, subst (λ l. Contains l one.0) (sym here) (Contains-append_left whole (entry_of m ∷ []) one.0 one.2), one.3, one.4))
              | inr added ↦ (let one = (new x).0 added in (entry_of m, one.0, subst (λ l. Contains l (entry_of m)) (sym here) (Contains-push whole (entry_of m)), one.1, one.2))
            ],
        λ one.
            subst (λ l. Contains l x) (sym there) (elim (Contains-push_cases whole (entry_of m) one.0 (subst (λ l. Contains l one.0) here one.2)) [
              | inl old ↦ Contains-append_left split (map entry_of ms) x ((are x).1 (one.0, one.1, old, one.3, one.4))
              | inr is ↦ Contains-append_right split (map entry_of ms) x ((new x).1 (one.1, subst (λ (y : FlowEntry). Contains (pieces y.pattern) one.1) (sym is) one.3, one.4 ∙ ap (λ y. piece_entry y one.1) (sym is)))
            ]),
      )

  pub stay_pieces : FollowsByPieces pieces whole split m ms → IsSplitTable pieces (Apply whole m) (ApplyAll split ms)
  stay_pieces (Delete deletes all) = after_deletes deletes all
  stay_pieces (Change puts all some each) = after_changes puts all some each
  stay_pieces (Add puts all none each apart new) = after_adds puts all none each apart new
