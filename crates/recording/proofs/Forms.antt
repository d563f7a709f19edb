-- What the form of a head says of it.
use Rattle.std.proofs.Common.{◌≡◌, ℕ, ◌+◌, ◌<◌, ◌≤◌, ◌==◌, ◌&&◌, Bool, true, false, cond, ltb, leb, if◌then◌else◌, List, length, subst}
use Rattle.std.proofs.lemmas.Bool.{and_parts, leb-true, ltb-true, eqb-true, lt-ltb, le-ltb}
use Rattle.recording.specs.declared.item.Item.{Item}
use Rattle.recording.specs.declared.layout.Layout.{Layout}
use Rattle.recording.specs.declared.layout.Layout.TheVariants.{Recording}
use Rattle.recording.specs.Recordings.{IsItem, IsRead, byte_limit, has_kind, has_form, is_whole}

-- a choice whose test is known
pub ended : {A : Type 0} (b : Bool) (x y z : A) → b ≡ true → cond b x y ≡ z → x ≡ z
ended true x y z h e = e
ended false x y z h e = absurd cc

pub past : {A : Type 0} (b : Bool) (x y z : A) → b ≡ false → cond b x y ≡ z → y ≡ z
past true x y z h e = absurd cc
past false x y z h e = e

-- what a head of the form has
record HeadParts (layout : Layout) (slices reserved : ℕ) (r : Item) : Type 0 where
  kind : has_kind layout r.kind ≡ true
  switch : ltb r.switch 16 ≡ true
  slot : (if ltb r.kind 3 then r.slot == 0 else ltb r.slot slices) ≡ true
  none : reserved ≡ 0
  size : r.size ≤ byte_limit r.kind

parts_of : (layout : Layout) (slices reserved : ℕ) (r : Item) → has_form layout slices reserved r ≡ true → HeadParts layout slices reserved r
parts_of layout slices reserved r e =
    let kind : Bool = has_kind layout r.kind in
    let slot : Bool = if ltb r.kind 3 then r.slot == 0 else ltb r.slot slices in
    let a = and_parts (kind && ltb r.switch 16 && slot && (reserved == 0)) (leb r.size (byte_limit r.kind)) e in
    let b = and_parts (kind && ltb r.switch 16 && slot) (reserved == 0) a.0 in
    let c = and_parts (kind && ltb r.switch 16) slot b.0 in
    let d = and_parts kind (ltb r.switch 16) c.0 in
    record { kind = d.0; switch = d.1; slot = c.1; none = eqb-true _ _ b.1; size = leb-true _ _ a.1 }

-- a record of the form whose bytes lie in the file
pub formed_item : (slices reserved : ℕ) (bytes : List ℕ) (r : Item) → has_form Recording slices reserved r ≡ true → r.from + r.size ≤ length bytes → IsItem slices bytes r
formed_item slices reserved bytes r e whole =
    let parts = parts_of Recording slices reserved r e in
    record {
      known = leb-true _ _ parts.kind;
      switch = ltb-true _ _ parts.switch;
      of_switch = λ h. eqb-true _ _ (ended (ltb r.kind 3) (r.slot == 0) (ltb r.slot slices) true (lt-ltb _ _ h) parts.slot);
      of_slice = λ h. ltb-true _ _ (past (ltb r.kind 3) (r.slot == 0) (ltb r.slot slices) true (le-ltb _ _ h) parts.slot);
      size = parts.size;
      within = whole;
    }

-- a record of the form whose bytes are there
pub is_read : (layout : Layout) (slices reserved : ℕ) (bytes : List ℕ) (r : Item) → has_form layout slices reserved r ≡ true → is_whole layout bytes r ≡ true → r.from + r.size ≤ length bytes → IsRead layout slices bytes r
is_read layout slices reserved bytes r form whole within = record {
  form = subst (λ n. has_form layout slices n r ≡ true) (parts_of layout slices reserved r form).none form;
  whole = whole;
  within = within;
}

-- a head of the form names one of 16 switches
pub one_of_16 : (layout : Layout) (slices reserved : ℕ) (r : Item) → has_form layout slices reserved r ≡ true → r.switch < 16
one_of_16 layout slices reserved r e = ltb-true r.switch 16 (parts_of layout slices reserved r e).switch

-- what is read of a recording is an item
pub read_item : (slices : ℕ) (bytes : List ℕ) (r : Item) → IsRead Recording slices bytes r → IsItem slices bytes r
read_item slices bytes r h = formed_item slices 0 bytes r h.form h.within
