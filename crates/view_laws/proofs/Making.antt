-- Calls that the items of a view make, at most one each.
use Rattle.std.proofs.Common.{◌≡◌, ◌⊎◌, List, [], ◌∷◌, ◌++◌, refl, sym, ap, subst, ◌∙◌, append_assoc, inl, inr}
use Rattle.xid_map.specs.Laws.{NoneOf}
use Rattle.slice_words.specs.Items.{Item}

-- what an item makes, after the items before it, and what a view makes, newest first
pub record Making (C : Type 0) (gives : List Item → Item → List C) (all : List Item → List C) : Type 0 where
  pub none : all [] ≡ []
  pub more : (item : Item) (view : List Item) → all (item ∷ view) ≡ gives view item ++ all view
  pub single : (view : List Item) (item : Item) → (gives view item ≡ []) ⊎ ((c : C) × (gives view item ≡ c ∷ []))

module _ (C : Type 0) (gives : List Item → Item → List C) (all : List Item → List C) (making : Making C gives all) where
  -- what later items make over a view
  abbrev pub made_over : List Item → List Item → List C
  made_over [] base = []
  made_over (item ∷ later) base = gives (later ++ base) item ++ made_over later base

  pub all-append : (later base : List Item) → all (later ++ base) ≡ made_over later base ++ all base
  all-append [] base = refl
  all-append (item ∷ later) base =
      making.more item (later ++ base)
      ∙ ap (λ (rest : List C). gives (later ++ base) item ++ rest) (all-append later base)
      ∙ sym (append_assoc (gives (later ++ base) item) (made_over later base) (all base))

  -- an item that makes a call comes after the calls of the items before it
  pub all-one : (item : Item) (view : List Item) (c : C) → gives view item ≡ c ∷ [] → all (item ∷ view) ≡ c ∷ all view
  all-one item view c is = making.more item view ∙ ap (λ (these : List C). these ++ all view) is

  -- ---- the item that makes a call

  -- a call, with the later and earlier ones, is what an item of the view makes, with later and earlier items
  pub record MadeBy (view : List Item) (late : List C) (c : C) (early : List C) : Type 0 where
    pub later : List Item
    pub item : Item
    pub earlier : List Item
    pub split : view ≡ later ++ (item ∷ earlier)
    pub makes : gives earlier item ≡ c ∷ []
    pub before : early ≡ all earlier
    pub after : late ≡ made_over later (item ∷ earlier)

  made_before : (item : Item) (view : List Item) (late all_late : List C) (c : C) (early : List C) → all_late ≡ gives view item ++ late → MadeBy view late c early → MadeBy (item ∷ view) all_late c early
  made_before item view late all_late c early is h = record {
    later = item ∷ h.later;
    item = h.item;
    earlier = h.earlier;
    split = ap (λ (rest : List Item). item ∷ rest) h.split;
    makes = h.makes;
    before = h.before;
    after = is ∙ (λ i. gives (h.split i) item ++ h.after i);
  }

  here_or_before : (item : Item) (view : List Item) (d : C) (late : List C) (c : C) (early : List C) → gives view item ≡ d ∷ [] → d ∷ all view ≡ late ++ (c ∷ early)
      → ((l : List C) → all view ≡ l ++ (c ∷ early) → MadeBy view l c early) → MadeBy (item ∷ view) late c early
  here_or_before item view d [] c early is e rest =
      let same : d ≡ c = cc in
      let tail : all view ≡ early = cc in
      record {
        later = [];
        item = item;
        earlier = view;
        split = refl;
        makes = is ∙ ap (λ (x : C). x ∷ []) same;
        before = sym tail;
        after = refl;
      }
  here_or_before item view d (x ∷ late) c early is e rest =
      let same : d ≡ x = cc in
      let tail : all view ≡ late ++ (c ∷ early) = cc in
      made_before item view late (x ∷ late) c early (sym (ap (λ (these : List C). these ++ late) is ∙ ap (λ (y : C). y ∷ late) same)) (rest late tail)

  no_call : (late : List C) (c : C) (early : List C) → [] ≡ late ++ (c ∷ early) → ⊥
  no_call [] c early e = cc
  no_call (x ∷ late) c early e = cc

  pub made_by : (view : List Item) (late : List C) (c : C) (early : List C) → all view ≡ late ++ (c ∷ early) → MadeBy view late c early
  made_by [] late c early e = absurd (no_call late c early (sym making.none ∙ e))
  made_by (item ∷ view) late c early e = elim (making.single view item) [
    | inl nothing ↦
        made_before item view late late c early (sym (ap (λ (these : List C). these ++ late) nothing))
        (made_by view late c early (sym (making.more item view ∙ ap (λ (these : List C). these ++ all view) nothing) ∙ e))
    | inr one ↦ here_or_before item view one.0 late c early one.1 (sym (all-one item view one.0 one.1) ∙ e) (λ l rest. made_by view l c early rest)
  ]

  -- ---- what no call does, no item does

  none_more : (Does : C → List C → Type 0) (Acts : Item → List Item → Type 0) (item : Item) (later base : List Item) (these : List C)
      → (these ≡ []) ⊎ ((c : C) × (these ≡ c ∷ [])) → (Acts item (later ++ base) → (c : C) × (these ≡ c ∷ []) × Does c (all (later ++ base)))
      → NoneOf Does (these ++ made_over later base) (all base) → (NoneOf Does (made_over later base) (all base) → NoneOf Acts later base) → NoneOf Acts (item ∷ later) base
  none_more Does Acts item later base [] single acts h rest = (λ a. (let call = acts a in cc), rest h)
  none_more Does Acts item later base (c ∷ []) single acts h rest = (
    λ a. (let call = acts a in
        let same : call.0 ≡ c = cc in
        h.0 (subst (λ l. Does c l) (all-append later base) (subst (λ d. Does d (all (later ++ base))) same call.2))),
    rest h.1,
  )
  none_more Does Acts item later base (c ∷ (d ∷ others)) (inl nothing) acts h rest = cc
  none_more Does Acts item later base (c ∷ (d ∷ others)) (inr one) acts h rest = (let is = one.1 in cc)

  pub none_acts : (Does : C → List C → Type 0) (Acts : Item → List Item → Type 0)
      → ((item : Item) (view : List Item) → Acts item view → (c : C) × (gives view item ≡ c ∷ []) × Does c (all view))
      → (later base : List Item) → NoneOf Does (made_over later base) (all base) → NoneOf Acts later base
  none_acts Does Acts acts [] base h = tt
  none_acts Does Acts acts (item ∷ later) base h =
      none_more Does Acts item later base (gives (later ++ base) item) (making.single (later ++ base) item) (acts item (later ++ base)) h
      (none_acts Does Acts acts later base)

  -- ---- what no item does, no call does

  none_made_more : (Does : C → List C → Type 0) (Acts : Item → List Item → Type 0) (item : Item) (later base : List Item) (these : List C)
      → (these ≡ []) ⊎ ((c : C) × (these ≡ c ∷ [])) → ((c : C) → these ≡ c ∷ [] → Does c (all (later ++ base)) → Acts item (later ++ base))
      → (Acts item (later ++ base) → ⊥) → NoneOf Does (made_over later base) (all base) → NoneOf Does (these ++ made_over later base) (all base)
  none_made_more Does Acts item later base [] single does out rest = rest
  none_made_more Does Acts item later base (c ∷ []) single does out rest =
      (λ d. out (does c refl (subst (λ l. Does c l) (sym (all-append later base)) d)), rest)
  none_made_more Does Acts item later base (c ∷ (d ∷ others)) (inl nothing) does out rest = cc
  none_made_more Does Acts item later base (c ∷ (d ∷ others)) (inr one) does out rest = (let is = one.1 in cc)

  pub none_does : (Does : C → List C → Type 0) (Acts : Item → List Item → Type 0)
      → ((item : Item) (view : List Item) (c : C) → gives view item ≡ c ∷ [] → Does c (all view) → Acts item view)
      → (later base : List Item) → NoneOf Acts later base → NoneOf Does (made_over later base) (all base)
  none_does Does Acts does [] base h = tt
  none_does Does Acts does (item ∷ later) base h =
      none_made_more Does Acts item later base (gives (later ++ base) item) (making.single (later ++ base) item) (does item (later ++ base)) h.0
      (none_does Does Acts does later base h.1)
