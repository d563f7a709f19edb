-- A table whose entries are split into pieces treats a header as the whole entries do.
use Rattle.std.proofs.Common.{◌≡◌, List, get_or, refl, sym, ap, subst, ◌∙◌, inl, inr, arith}
use Rattle.std.proofs.lemmas.List.Elements.{All-contains, Contains-get_or}
use Rattle.of10_model.specs.declared.pattern.Pattern.{Pattern}
use Rattle.of10_model.specs.Header.{Header}
use Rattle.of10_model.specs.Pattern.{Has}
use Rattle.of10_model.specs.Normal.{is_exact}
use Rattle.of10_flow.specs.declared.flow_entry.FlowEntry.{FlowEntry}
use Rattle.of10_flow.specs.TableLaws.{IsNoLower, MayBeChosen, HaveSameLists, piece_entry, IsSplit}
use Rattle.of10_flow.proofs.Choosing.{Treatment-iff}

-- two entries stand as two others that are all-exact alike and have the same priorities
stand_alike : (a b c d : FlowEntry) → is_exact a.pattern ≡ is_exact c.pattern → is_exact b.pattern ≡ is_exact d.pattern → a.priority ≡ c.priority → b.priority ≡ d.priority → IsNoLower a b → IsNoLower c d
stand_alike a b c d exact_a exact_b priority_a priority_b (inl exact) = inl (sym exact_a ∙ exact)
stand_alike a b c d exact_a exact_b priority_a priority_b (inr lower) = inr (λ exact. lower.0 (exact_b ∙ exact), (let le = lower.1 in omega (arith, le, priority_a, priority_b)))

module _ (whole : List FlowEntry) (pieces : FlowEntry → List Pattern) (split : List FlowEntry) (h : Header) (is : IsSplit whole pieces split h) where
  -- what is chosen of the whole entries has a piece that is chosen of the pieces
  whole_split : (e : FlowEntry) → MayBeChosen whole h e → (x : FlowEntry) × MayBeChosen split h x × (x.actions ≡ e.actions)
  whole_split e c =
      let p = (is.covered e c.is_there).0 c.has_header in
      let x = piece_entry e p.0 in (
        x,
        record {
          is_there = (is.entries x).1 (e, p.0, c.is_there, p.1, refl);
          has_header = p.2;
          is_first = λ k d lt has_it.
              let o = get_or split k d in
              let q = (is.entries o).0 (Contains-get_or split k d lt) in
              let in_piece : Has q.1 h = subst (λ y. Has y.pattern h) q.4 has_it in
              let in_whole = (is.covered q.0 q.2).1 (q.1, q.3, in_piece) in
              let first = All-contains (λ other. Has other.pattern h → IsNoLower e other) whole q.0 c.is_first q.2 in_whole in
              subst (IsNoLower x) (sym q.4) (stand_alike e q.0 x (piece_entry q.0 q.1) (sym (is.exact e p.0 c.is_there p.1 p.2)) (sym (is.exact q.0 q.1 q.2 q.3 in_piece)) refl refl first);
        },
        refl,
      )

  -- and what is chosen of the pieces is a piece of an entry that is chosen of the whole ones
  split_whole : (x : FlowEntry) → MayBeChosen split h x → (e : FlowEntry) × MayBeChosen whole h e × (e.actions ≡ x.actions)
  split_whole x c =
      let p = (is.entries x).0 c.is_there in
      let in_piece : Has p.1 h = subst (λ y. Has y.pattern h) p.4 c.has_header in (
        p.0,
        record {
          is_there = p.2;
          has_header = (is.covered p.0 p.2).1 (p.1, p.3, in_piece);
          is_first = λ k d lt has_it.
              let e = get_or whole k d in
              let there = Contains-get_or whole k d lt in
              let q = (is.covered e there).0 has_it in
              let o = piece_entry e q.0 in
              let first = All-contains (λ other. Has other.pattern h → IsNoLower x other) split o c.is_first ((is.entries o).1 (e, q.0, there, q.1, refl)) q.2 in
              stand_alike (piece_entry p.0 p.1) o p.0 e (is.exact p.0 p.1 p.2 p.3 in_piece) (is.exact e q.0 there q.1 q.2) refl refl (subst (λ y. IsNoLower y o) p.4 first);
        },
        ap (λ (y : FlowEntry). y.actions) (sym p.4),
      )

  pub same_lists : HaveSameLists whole split h
  same_lists actions = (
    λ some. (let one = (Treatment-iff whole h actions).0 some in
        let other = whole_split one.0 one.1 in
        (Treatment-iff split h actions).1 (other.0, other.1, other.2 ∙ one.2)),
    λ some. (let one = (Treatment-iff split h actions).0 some in
        let other = split_whole one.0 one.1 in
        (Treatment-iff whole h actions).1 (other.0, other.1, other.2 ∙ one.2)),
  )
