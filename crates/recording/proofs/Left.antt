-- The records of a file that is read whole, one after the other.
use Rattle.std.proofs.Common.{◌≡◌, ◌+◌, ◌-◌, ◌<◌, ◌≤◌, ℕ, zero, not, ltb, List, [], ◌∷◌, take, length, bytes_eq, Ok, sym, ap, ◌∙◌, subst, arith}
use Rattle.std.proofs.lemmas.Bool.{ltb-false, not-false}
use Rattle.of10_model.specs.Normal.{number_at}
use Rattle.of10_model.proofs.Results.{ok_is, passed, met, bind_ok}
use Rattle.recording.specs.declared.item.Item.{Item}
use Rattle.recording.specs.declared.fault.RecordingFault.TheVariants.{Torn, Bad, NotOpen}
use Rattle.recording.specs.declared.layout.Layout.{Layout}
use Rattle.recording.specs.Recordings.{IsRead, item_at, has_form, is_whole, may_follow, record_in, items_in, read_in, magic_of}
use Rattle.recording.proofs.Forms.{is_read}
use Rattle.recording.proofs.Walk.{reads_on, same_count}

-- these records are left of a file from a place on
pub record AreLeft (layout : Layout) (slices : ℕ) (file : List ℕ) (at : ℕ) (left : List Item) : Type 0 where
  pub front : List Item
  pub read : items_in layout (length file) slices file front at ≡ Ok left

-- the first of them stands at the place
pub record IsNext (layout : Layout) (slices : ℕ) (file : List ℕ) (at : ℕ) (left : List Item) : Type 0 where
  pub others : List Item
  pub is : left ≡ item_at file at ∷ others
  pub long : at + 16 ≤ length file
  pub item : IsRead layout slices file (item_at file at)
  pub later : AreLeft layout slices file ((item_at file at).from + (item_at file at).size) others

pub left_first : (layout : Layout) (slices : ℕ) (file : List ℕ) (items : List Item) → read_in layout slices file ≡ Ok items → AreLeft layout slices file 8 items
unfolding read_in
left_first layout slices file items read =
    let long = passed (ltb (length file) 8) (Torn 0) _ items read in
    let begun = met (bytes_eq (take 8 file) (magic_of layout)) (Bad 0) _ items long.1 in
    record { front = []; read = begun.1 }

-- a record that is read is what the head at its place says
record IsHead (layout : Layout) (slices : ℕ) (file : List ℕ) (at : ℕ) (r : Item) : Type 0 where
  is : item_at file at ≡ r
  long : at + 16 ≤ length file
  item : IsRead layout slices file (item_at file at)

is_head : (layout : Layout) (slices : ℕ) (file : List ℕ) (front : List Item) (at : ℕ) (r : Item) → record_in layout slices file front at ≡ Ok r → IsHead layout slices file at r
unfolding record_in item_at
is_head layout slices file front at r read =
    let left = length file - at in
    let q = item_at file at in
    let reserved = number_at file (at + 3) 1 in
    let a = passed (ltb left 16) (Torn at) _ r read in
    let b = passed (not (has_form layout slices reserved q)) (Bad at) _ r a.1 in
    let c = passed (ltb (left - 16) q.size) (Torn at) _ r b.1 in
    let w = passed (not (is_whole layout file q)) (Bad at) _ r c.1 in
    let d = passed (not (may_follow layout front q)) (NotOpen at) _ r w.1 in
    let long : 16 ≤ left = ltb-false _ _ a.0 in
    let whole : q.size ≤ left - 16 = ltb-false _ _ c.0 in
    record {
      is = ok_is q r d.1;
      long = omega (arith, long);
      item = is_read layout slices reserved file q (not-false _ b.0) (not-false _ w.0) (omega (arith, long, whole));
    }

pub next_of : (layout : Layout) (slices : ℕ) (file : List ℕ) (at : ℕ) (left : List Item) → at < length file → AreLeft layout slices file at left → IsNext layout slices file at left
next_of layout slices file at left more so_far =
    let front = so_far.front in
    let first = bind_ok (record_in layout slices file front at) _ left (sym (reads_on layout slices file front at more) ∙ so_far.read) in
    let r = first.0 in
    let later = bind_ok (items_in layout (length file) slices file (r ∷ front) (r.from + r.size)) _ left first.2 in
    let others = later.0 in
    let read = is_head layout slices file front at r first.1 in
    let is : r ∷ others ≡ left = ok_is (r ∷ others) left later.2 in
    record {
      others = others;
      is = sym is ∙ ap (λ (item : Item). item ∷ others) (sym read.is);
      long = read.long;
      item = read.item;
      later = subst (λ (item : Item). AreLeft layout slices file (item.from + item.size) others) (sym read.is) (record { front = r ∷ front; read = later.1 });
    }

-- none is left at the end
pub none_left : (layout : Layout) (slices : ℕ) (file : List ℕ) (at : ℕ) (left : List Item) → length file ≤ at → AreLeft layout slices file at left → left ≡ []
unfolding items_in
none_left layout slices file at left end so_far =
    ok_is left [] (sym so_far.read ∙ same_count layout (length file) zero slices file so_far.front at (omega arith) (omega arith))

-- a file that is read has the bytes that begin it
pub begun_long : (layout : Layout) (slices : ℕ) (file : List ℕ) (items : List Item) → read_in layout slices file ≡ Ok items → 8 ≤ length file
unfolding read_in
begun_long layout slices file items read = ltb-false _ _ (passed (ltb (length file) 8) (Torn 0) _ items read).0
