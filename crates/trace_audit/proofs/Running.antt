-- A trace that is judged, record by record.
use Rattle.std.proofs.Common.{◌≡◌, ◌+◌, ◌-◌, ◌<◌, ◌≤◌, ◌==◌, ℕ, if◌then◌else◌, List, [], ◌∷◌, length, Option, Some, None, option_map, Result, Ok, Err, refl, sym, ap, ◌∙◌, subst, arith, inl, inr}
use Rattle.std.specs.Option.{option_or}
use Rattle.std.proofs.lemmas.Bool.{cases_Bool}
use Rattle.flowspace.specs.Policies.{PolicyView}
use Rattle.recording.specs.declared.item.Item.{Item}
use Rattle.recording.specs.declared.layout.Layout.TheVariants.{Trace}
use Rattle.recording.specs.Recordings.{Told, IsRead, item_at, read_trace, sent_bytes}
use Rattle.desk_words.specs.Recorded.{told_by, bytes_carried}
use Rattle.trace_audit.specs.declared.why.Why.{Why}
use Rattle.trace_audit.specs.declared.switch.Switch.{Switch}
use Rattle.trace_audit.specs.declared.fault.AuditFault.{AuditFault}
use Rattle.trace_audit.specs.declared.fault.AuditFault.TheVariants.{No}
use Rattle.trace_audit.specs.Auditing.{record_why, first_wrong, sent_count, answer_of}
use Rattle.trace_audit.specs.Standing.{AreFresh, SwitchesStand, TakesAmong}
use Rattle.recording.proofs.Left.{AreLeft, left_first, next_of, none_left, begun_long}

-- what is left of the records, and what is known of those before them: nothing is wrong with them
pub record Auditing (p : PolicyView) (file : List ℕ) (all : List Item) (at count : ℕ) (switches : List Switch) : Type 0 where
  pub left : List Item
  pub rest : AreLeft Trace (length p.slices) file at left
  pub before : List Told
  pub stand : SwitchesStand p.rules file before switches
  pub none : first_wrong p file [] all ≡ first_wrong p file before left
  pub counted : sent_count all ≡ count + sent_count left

pub auditing_first : (p : PolicyView) (file : List ℕ) (all : List Item) (switches : List Switch) → read_trace (length p.slices) file ≡ Ok all → AreFresh switches → Auditing p file all 8 0 switches
auditing_first p file all switches read fresh = record {
  left = all;
  rest = left_first Trace (length p.slices) file all read;
  before = [];
  stand = record { count = fresh.0; each = λ number s there. fresh.1 number s there p.rules file number };
  none = refl;
  counted = omega arith;
}

-- the record that comes next
pub auditing_next : (p : PolicyView) (file : List ℕ) (all : List Item) (at count : ℕ) (switches : List Switch) → at < length file → Auditing p file all at count switches
    → (at + 16 ≤ length file) × ((item : Item) → item ≡ item_at file at → IsRead Trace (length p.slices) file item)
auditing_next p file all at count switches more s =
    let next = next_of Trace (length p.slices) file at s.left more s.rest in
    (next.long, λ item is. subst (IsRead Trace (length p.slices) file) (sym is) next.item)

abbrev told_of : List ℕ → Item → Told
told_of file item = told_by item (bytes_carried file item)

-- what the first of some records says first
first_is : (p : PolicyView) (file : List ℕ) (before : List Told) (item : Item) (others : List Item) (w : Option Why) → w ≡ record_why p before (told_of file item)
    → first_wrong p file before (item ∷ others) ≡ option_or (option_map (λ (x : Why). (item.from - 16, x)) w) (first_wrong p file (told_of file item ∷ before) others)
first_is p file before item others w is = ap (λ (o : Option Why). option_or (option_map (λ (x : Why). (item.from - 16, x)) o) (first_wrong p file (told_of file item ∷ before) others)) (sym is)

-- one record more is counted if it was sent for a slice
abbrev counted_with : Item → ℕ → ℕ
counted_with item count = if item.kind == sent_bytes then count + 1 else count

one_more : (item : Item) (others : List Item) (count total : ℕ) → total ≡ count + sent_count (item ∷ others) → total ≡ counted_with item count + sent_count others
one_more item others count total e = elim (cases_Bool (item.kind == sent_bytes)) [
  | inl is ↦ rw is (omega (arith, (rw is at e)))
  | inr isnt ↦ rw isnt (rw isnt at e)
]

pub auditing_more : (p : PolicyView) (file : List ℕ) (all : List Item) (at count after : ℕ) (item : Item) (old new : List Switch) → at < length file → item ≡ item_at file at → after ≡ counted_with item count
    → Auditing p file all at count old → ((before : List Told) → SwitchesStand p.rules file before old → TakesAmong p file (told_of file item) before (Ok None) new) → Auditing p file all (item.from + item.size) after new
auditing_more p file all at count after item old new more is after_is s takes =
    let next = next_of Trace (length p.slices) file at s.left more s.rest in
    let own : s.left ≡ item ∷ next.others = next.is ∙ ap (λ (r : Item). r ∷ next.others) (sym is) in
    let taken = takes s.before s.stand in
    record {
      left = next.others;
      rest = subst (λ (r : Item). AreLeft Trace (length p.slices) file (r.from + r.size) next.others) (sym is) next.later;
      before = told_of file item ∷ s.before;
      stand = taken.1;
      none = s.none ∙ ap (first_wrong p file s.before) own ∙ first_is p file s.before item next.others None taken.0;
      counted = one_more item next.others count (sent_count all) (s.counted ∙ ap (λ (l : List Item). count + sent_count l) own) ∙ ap (λ (n : ℕ). n + sent_count next.others) (sym after_is);
    }

-- the answer where that is found
abbrev answer_with : List Item → Option (ℕ × Why) → Result ℕ AuditFault
answer_with items found = elim found [ None ↦ Ok (sent_count items) | Some own ↦ Err (No own.0 own.1) ]

abbrev wrong_at : Why → ℕ → Result ℕ AuditFault
wrong_at w at = Err (No at w)

-- the answer where something is wrong with the next record
pub auditing_wrong : (p : PolicyView) (file : List ℕ) (all : List Item) (at count : ℕ) (item : Item) (w : Why) (old new : List Switch) → at < length file → item ≡ item_at file at → item.from ≡ at + 16
    → Auditing p file all at count old → ((before : List Told) → SwitchesStand p.rules file before old → TakesAmong p file (told_of file item) before (Ok (Some w)) new) → answer_of p file all ≡ Err (No at w)
auditing_wrong p file all at count item w old new more is from s takes =
    let next = next_of Trace (length p.slices) file at s.left more s.rest in
    let own : s.left ≡ item ∷ next.others = next.is ∙ ap (λ (r : Item). r ∷ next.others) (sym is) in
    let taken = takes s.before s.stand in
    let place : item.from - 16 ≡ at = omega (arith, from) in
    let found : first_wrong p file [] all ≡ Some (item.from - 16, w) = s.none ∙ ap (first_wrong p file s.before) own ∙ first_is p file s.before item next.others (Some w) taken.0 in
    ap (answer_with all) found ∙ ap (wrong_at w) place

-- the answer at the end
pub auditing_last : (p : PolicyView) (file : List ℕ) (all : List Item) (at count : ℕ) (switches : List Switch) → length file ≤ at → Auditing p file all at count switches → answer_of p file all ≡ Ok count
auditing_last p file all at count switches end s =
    let none : s.left ≡ [] = none_left Trace (length p.slices) file at s.left end s.rest in
    let found : first_wrong p file [] all ≡ None = s.none ∙ ap (first_wrong p file s.before) none in
    let total : sent_count all ≡ count = s.counted ∙ ap (λ (l : List Item). count + sent_count l) none ∙ omega arith in
    ap (answer_with all) found ∙ ap Ok total

-- a file that is read has the bytes that begin it
pub auditing_long : (slices : ℕ) (file : List ℕ) (items : List Item) → read_trace slices file ≡ Ok items → 8 ≤ length file
auditing_long slices file items read = begun_long Trace slices file items read
