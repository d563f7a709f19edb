-- A table of who is up that takes note of a record.
use Rattle.std.proofs.Common.{◌≡◌, ◌≢◌, ℕ, ◌<◌, Bool, true, false, cond, eqb, List, [], ◌∷◌, length, get_or, set, replicate, ◌⊎◌, inl, inr, refl, sym, ap, ◌∙◌}
use Rattle.std.proofs.lemmas.Bool.Decides.{eqb_tells}
use Rattle.std.proofs.lemmas.List.{get_or-set_same, get_or-set_other, get_or-replicate, length-set, length-replicate}
use Rattle.recording.specs.declared.item.Item.{Item}
use Rattle.recording.specs.Recordings.{is_switch_open, is_slice_open}
use Rattle.recording.specs.Standing.{TableStands}

-- ---- a place of a list after one of its places is written

chosen : {X : Type 0} (xs : List X) (k s : ℕ) (x d : X) → k < length xs → ((eqb k s ≡ true) × (k ≡ s)) ⊎ ((eqb k s ≡ false) × (k ≢ s)) → get_or (set xs k x) s d ≡ cond (eqb k s) x (get_or xs s d)
chosen xs k s x d h (inl e) = rw e.0 (rw (← e.1) (get_or-set_same xs k x d h))
chosen xs k s x d h (inr e) = rw e.0 (get_or-set_other xs k s x d (λ f. e.1 (sym f)))

written : {X : Type 0} (xs : List X) (k s : ℕ) (x d : X) → k < length xs → get_or (set xs k x) s d ≡ cond (eqb k s) x (get_or xs s d)
written xs k s x d h = chosen xs k s x d h (eqb_tells k s)

cond_length : (b : Bool) (n : ℕ) (row other : List Bool) → length row ≡ n → length other ≡ n → length (cond b row other) ≡ n
cond_length true n row other h g = h
cond_length false n row other h g = g

-- the rows keep their length
rows_keep : (rows : List (List Bool)) (k s n : ℕ) (row : List Bool) → k < length rows → length row ≡ n → length (get_or rows s []) ≡ n → length (get_or (set rows k row) s []) ≡ n
rows_keep rows k s n row h l was = ap length (written rows k s row [] h) ∙ cond_length (eqb k s) n row (get_or rows s []) l was

-- ---- what a record says of a switch and of a slice

switch_stays : (r : Item) (before : List Item) (s : ℕ) (b : Bool) → r.kind ≡ 3 → eqb r.switch s ≡ b → is_switch_open s before ≡ is_switch_open s (r ∷ before)
switch_stays r before s true k e = rw (k, e) refl
switch_stays r before s false k e = rw (k, e) refl

-- a slice after its SLICE_UP, where the row of its switch was `row` and a row is now `other`
slice_went_up : (r : Item) (before : List Item) (s t : ℕ) (was : Bool) (b c : Bool) → r.kind ≡ 3 → eqb r.switch s ≡ b → eqb r.slot t ≡ c
    → was ≡ is_slice_open s t before → cond b (cond c true was) was ≡ is_slice_open s t (r ∷ before)
slice_went_up r before s t was true true k e f h = rw (k, e, f) refl
slice_went_up r before s t was true false k e f h = rw (k, e, f) h
slice_went_up r before s t was false c k e f h = rw e h

-- the row of the switch, and the row that is looked at
through : (rows : List (List Bool)) (k s t u : ℕ) → t < length (get_or rows k []) → ((eqb k s ≡ true) × (k ≡ s)) ⊎ ((eqb k s ≡ false) × (k ≢ s))
    → get_or (cond (eqb k s) (set (get_or rows k []) t true) (get_or rows s [])) u false ≡ cond (eqb k s) (cond (eqb t u) true (get_or (get_or rows s []) u false)) (get_or (get_or rows s []) u false)
through rows k s t u h (inl e) = rw e.0 (rw (← e.1) (written (get_or rows k []) t u true false h))
through rows k s t u h (inr e) = rw e.0 refl

-- a SLICE_UP
pub slice_goes_up : (switches : List Bool) (slices : List (List Bool)) (before : List Item) (r : Item) → TableStands switches slices before → r.kind ≡ 3 → r.switch < 16 → r.slot < 256
    → TableStands switches (set slices r.switch (set (get_or slices r.switch []) r.slot true)) (r ∷ before)
slice_goes_up switches slices before r st k hs ht =
    let row : List Bool = set (get_or slices r.switch []) r.slot true in
    let inside : r.switch < length slices = rw st.slices_are hs in
    let slot_inside : r.slot < length (get_or slices r.switch []) = rw (st.slots_are r.switch hs) ht in
    record {
      switches_are = st.switches_are;
      slices_are = length-set slices r.switch row ∙ st.slices_are;
      slots_are = λ s h. rows_keep slices r.switch s 256 row inside (length-set (get_or slices r.switch []) r.slot true ∙ st.slots_are r.switch hs) (st.slots_are s h);
      of_switch = λ s h. st.of_switch s h ∙ switch_stays r before s (eqb r.switch s) k refl;
      of_slice = λ s t h g.
          ap (λ (l : List Bool). get_or l t false) (written slices r.switch s row [] inside)
          ∙ through slices r.switch s r.slot t slot_inside (eqb_tells r.switch s)
          ∙ slice_went_up r before s t (get_or (get_or slices s []) t false) (eqb r.switch s) (eqb r.slot t) k refl refl (st.of_slice s t h g);
    }

-- ---- a switch disconnects

switch_went_down : (r : Item) (before : List Item) (s : ℕ) (was : Bool) (b : Bool) → r.kind ≡ 2 → eqb r.switch s ≡ b → was ≡ is_switch_open s before → cond b false was ≡ is_switch_open s (r ∷ before)
switch_went_down r before s was true k e h = rw (k, e) refl
switch_went_down r before s was false k e h = rw e h

slices_went_down : (r : Item) (before : List Item) (s t : ℕ) (row : List Bool) (b : Bool) → r.kind ≡ 2 → t < 256 → eqb r.switch s ≡ b
    → get_or row t false ≡ is_slice_open s t before → get_or (cond b (replicate 256 false) row) t false ≡ is_slice_open s t (r ∷ before)
slices_went_down r before s t row true k g e h = rw (k, e) (get_or-replicate 256 t false false g)
slices_went_down r before s t row false k g e h = rw e h

-- a SWITCH_DOWN
pub switch_goes_down : (switches : List Bool) (slices : List (List Bool)) (before : List Item) (r : Item) → TableStands switches slices before → r.kind ≡ 2 → r.switch < 16
    → TableStands (set switches r.switch false) (set slices r.switch (replicate 256 false)) (r ∷ before)
switch_goes_down switches slices before r st k hs =
    let inside : r.switch < length slices = rw st.slices_are hs in
    record {
      switches_are = length-set switches r.switch false ∙ st.switches_are;
      slices_are = length-set slices r.switch (replicate 256 false) ∙ st.slices_are;
      slots_are = λ s h. rows_keep slices r.switch s 256 (replicate 256 false) inside (length-replicate 256 false) (st.slots_are s h);
      of_switch = λ s h.
          written switches r.switch s false false (rw st.switches_are hs)
          ∙ switch_went_down r before s (get_or switches s false) (eqb r.switch s) k refl (st.of_switch s h);
      of_slice = λ s t h g.
          ap (λ (l : List Bool). get_or l t false) (written slices r.switch s (replicate 256 false) [] inside)
          ∙ slices_went_down r before s t (get_or slices s []) (eqb r.switch s) k g refl (st.of_slice s t h g);
    }

-- ---- nobody is up

pub nobody_is_up : (row : List Bool) → row ≡ replicate 256 false → TableStands (replicate 16 false) (replicate 16 row) []
nobody_is_up row e = record {
  switches_are = refl;
  slices_are = refl;
  slots_are = λ s h. ap length (get_or-replicate 16 s row [] h ∙ e) ∙ length-replicate 256 false;
  of_switch = λ s h. get_or-replicate 16 s false false h;
  of_slice = λ s t h g. ap (λ (l : List Bool). get_or l t false) (get_or-replicate 16 s row [] h ∙ e) ∙ get_or-replicate 256 t false false g;
}
