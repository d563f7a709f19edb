-- Reading records one after the other, as a loop does.
use Rattle.std.proofs.Common.{◌≡◌, ℕ, zero, suc, ◌+◌, ◌-◌, ◌≤◌, ◌<◌, not, ltb, leb, List, [], ◌∷◌, ◌++◌, length, reverse, ◌⊎◌, inl, inr, Result, Ok, Err, refl, sym, ap, subst, ◌∙◌, arith}
use Rattle.std.proofs.lemmas.Bool.{ltb-false, le-leb, lt-leb}
use Rattle.std.proofs.lemmas.List.{append-nil, reverse-append}
use Rattle.of10_model.specs.Normal.{number_at}
use Rattle.of10_model.specs.Results.{◌>>=◌}
use Rattle.of10_model.proofs.Results.{ok_is, passed, same_bind, unless, with_front, regroup}
use Rattle.recording.specs.declared.item.Item.{Item}
use Rattle.recording.specs.declared.fault.RecordingFault.{RecordingFault}
use Rattle.recording.specs.declared.fault.RecordingFault.TheVariants.{Torn, Bad, NotOpen, Memory}
use Rattle.recording.specs.declared.layout.Layout.{Layout}
use Rattle.recording.specs.Recordings.{FailsAsRecording, HasFirstIn, item_at, has_form, is_whole, may_follow, record_in, items_in}
use Rattle.recording.proofs.Forms.{ended}

-- what a record that is read has: its bytes begin behind its head and lie in the file
pub behind : (layout : Layout) (slices : ℕ) (bytes : List ℕ) (before : List Item) (at : ℕ) (r : Item) → record_in layout slices bytes before at ≡ Ok r → (r.from ≡ at + 16) × (r.from + r.size ≤ length bytes)
unfolding record_in item_at
behind layout slices bytes before at r e =
    let left = length bytes - at in
    let q = item_at bytes at in
    let a = passed (ltb left 16) (Torn at) _ r e in
    let b = passed (not (has_form layout slices (number_at bytes (at + 3) 1) q)) (Bad at) _ r a.1 in
    let c = passed (ltb (left - 16) q.size) (Torn at) _ r b.1 in
    let w = passed (not (is_whole layout bytes q)) (Bad at) _ r c.1 in
    let d = passed (not (may_follow layout before q)) (NotOpen at) _ r w.1 in
    let is : q ≡ r = ok_is q r d.1 in
    let P : Item → Type 0 = λ i. (i.from ≡ at + 16) × (i.from + i.size ≤ length bytes) in
    let long : 16 ≤ left = ltb-false _ _ a.0 in
    let whole : q.size ≤ left - 16 = ltb-false _ _ c.0 in
    subst P is (refl, omega arith)

-- the count doesn't matter once it reaches the number of bytes that are left
pub same_count : (layout : Layout) (n m slices : ℕ) (bytes : List ℕ) (before : List Item) (at : ℕ) → length bytes ≤ at + n → length bytes ≤ at + m → items_in layout n slices bytes before at ≡ items_in layout m slices bytes before at
unfolding items_in
same_count layout zero zero slices bytes before at hn hm = refl
same_count layout zero (suc m) slices bytes before at hn hm = ended (leb (length bytes) at) (Ok []) _ _ (le-leb _ _ (omega arith)) refl
same_count layout (suc n) zero slices bytes before at hn hm = sym (ended (leb (length bytes) at) (Ok []) _ _ (le-leb _ _ (omega arith)) refl)
same_count layout (suc n) (suc m) slices bytes before at hn hm =
    unless (leb (length bytes) at) (Ok []) _ _ (λ more.
    same_bind (record_in layout slices bytes before at) (λ r. items_in layout n slices bytes (r ∷ before) (r.from + r.size) >>= λ others. Ok (r ∷ others)) (λ r. items_in layout m slices bytes (r ∷ before) (r.from + r.size) >>= λ others. Ok (r ∷ others))
    (λ r e. let b = behind layout slices bytes before at r e in
    ap (λ (x : Result (List Item) RecordingFault). x >>= λ others. Ok (r ∷ others)) (same_count layout n m slices bytes (r ∷ before) (r.from + r.size) (omega (arith, b.0)) (omega (arith, b.0)))))

-- the step of a reading that isn't at the end
pub reads_on : (layout : Layout) (slices : ℕ) (bytes : List ℕ) (before : List Item) (at : ℕ) → at < length bytes → items_in layout (length bytes) slices bytes before at
    ≡ (record_in layout slices bytes before at >>= λ r. items_in layout (length bytes) slices bytes (r ∷ before) (r.from + r.size) >>= λ others. Ok (r ∷ others))
unfolding items_in
reads_on layout slices bytes before at h =
    same_count layout (length bytes) (suc (length bytes)) slices bytes before at (omega arith) (omega arith) ∙ rw (lt-leb _ _ h) refl

pub goes_on : (layout : Layout) (slices : ℕ) (bytes : List ℕ) (front : List Item) (at : ℕ) (r : Item) (total : Result (List Item) RecordingFault) → at < length bytes → record_in layout slices bytes (reverse front) at ≡ Ok r
    → with_front front (items_in layout (length bytes) slices bytes (reverse front) at) ≡ total
    → with_front (front ++ r ∷ []) (items_in layout (length bytes) slices bytes (reverse (front ++ r ∷ [])) (r.from + r.size)) ≡ total
goes_on layout slices bytes front at r total h e so_far =
    let newest : reverse (front ++ r ∷ []) ≡ r ∷ reverse front = reverse-append front (r ∷ []) in
    rw newest (
    sym (regroup front r (items_in layout (length bytes) slices bytes (r ∷ reverse front) (r.from + r.size)))
    ∙ ap (with_front front) (ap (λ (x : Result Item RecordingFault). x >>= λ q. items_in layout (length bytes) slices bytes (q ∷ reverse front) (q.from + q.size) >>= λ others. Ok (q ∷ others)) (sym e) ∙ sym (reads_on layout slices bytes (reverse front) at h))
    ∙ so_far)

-- the fault of the next record is that of all
pub ends_so : (layout : Layout) (slices : ℕ) (bytes : List ℕ) (front : List Item) (at : ℕ) (fault : RecordingFault) (total : Result (List Item) RecordingFault) → at < length bytes → record_in layout slices bytes (reverse front) at ≡ Err fault
    → with_front front (items_in layout (length bytes) slices bytes (reverse front) at) ≡ total → total ≡ Err fault
ends_so layout slices bytes front at fault total h e so_far =
    sym so_far ∙ ap (with_front front) (reads_on layout slices bytes (reverse front) at h ∙ ap (λ (x : Result Item RecordingFault). x >>= λ q. items_in layout (length bytes) slices bytes (q ∷ reverse front) (q.from + q.size) >>= λ others. Ok (q ∷ others)) e)

fails : {A : Type 0} (fault : RecordingFault) (read : Result A RecordingFault) → read ≡ Err fault → FailsAsRecording fault read
fails (Torn at) read e = e
fails (Bad at) read e = e
fails (NotOpen at) read e = e
fails Memory read e = tt

pub ends : (layout : Layout) (slices : ℕ) (bytes : List ℕ) (front : List Item) (at : ℕ) (fault : RecordingFault) (total : Result (List Item) RecordingFault) → at < length bytes → record_in layout slices bytes (reverse front) at ≡ Err fault
    → with_front front (items_in layout (length bytes) slices bytes (reverse front) at) ≡ total → FailsAsRecording fault total
ends layout slices bytes front at fault total h e so_far =
    fails fault total (ends_so layout slices bytes front at fault total h e so_far)

pub is_done : (layout : Layout) (slices : ℕ) (bytes : List ℕ) (front : List Item) (at : ℕ) (total : Result (List Item) RecordingFault) → length bytes ≤ at
    → with_front front (items_in layout (length bytes) slices bytes (reverse front) at) ≡ total → total ≡ Ok front
unfolding items_in
is_done layout slices bytes front at total h so_far =
    sym so_far ∙ ap (with_front front) (same_count layout (length bytes) zero slices bytes (reverse front) at (omega arith) (omega arith)) ∙ ap (λ (whole : List Item). Ok whole) (append-nil front)

-- where a record is read behind none or behind the first one, the first one is read
pub first_read : (layout : Layout) (slices : ℕ) (bytes : List ℕ) (before : List Item) (at : ℕ) (r : Item) → ((before ≡ []) × (at ≡ 8)) ⊎ HasFirstIn layout slices bytes
    → record_in layout slices bytes (reverse before) at ≡ Ok r → HasFirstIn layout slices bytes
first_read layout slices bytes before at r (inl start) e = (r, subst (λ n. record_in layout slices bytes [] n ≡ Ok r) start.1 (subst (λ l. record_in layout slices bytes (reverse l) at ≡ Ok r) start.0 e))
first_read layout slices bytes before at r (inr first) e = first
