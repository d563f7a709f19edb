-- The fault that is answered at a place is what is wrong there.
use Rattle.std.proofs.Common.{◌≡◌, ℕ, ◌+◌, ◌-◌, ◌≤◌, ◌<◌, ◌^◌, Bool, true, false, cond, not, ltb, List, [], ◌++◌, length, take, drop, replicate, inl, inr, Result, Err, refl, sym, ap, subst, ◌∙◌, append_assoc, arith}
use Rattle.std.proofs.lemmas.Bool.{cases_lt, ltb-true, ltb-false, lt-ltb, le-ltb, false_from_ne_true, not-true, not-false}
use Rattle.std.proofs.lemmas.List.{append-nil, length-append, length-drop, length-take-le, take-append-le, length-replicate, drop-take}
use Rattle.byteorder.specs.Endian.{big_number}
use Rattle.byteorder.specs.Numbers.{big_from-take}
use Rattle.of10_model.specs.Normal.{number_at}
use Rattle.of10_model.proofs.Ranges.{number_at-lt}
use Rattle.recording.specs.declared.item.Item.{Item}
use Rattle.recording.specs.declared.fault.RecordingFault.{RecordingFault}
use Rattle.recording.specs.declared.fault.RecordingFault.TheVariants.{Torn, Bad, NotOpen, Memory}
use Rattle.recording.specs.declared.layout.Layout.TheVariants.{Recording}
use Rattle.recording.specs.Recordings.{Told, placed_record, record_bytes, head_spelling, item_at, has_form, fits, record_at, record_in}
use Rattle.recording.specs.Faults.{HasForm, HasNoForm, IsCutOff, IsUnfit, IsFaultAt}
use Rattle.recording.proofs.Told.{number_first, number_behind, spell_length, kind_again, switch_again, slot_again, zero_again, size_again, small, head_again, with_rest}
use Rattle.recording.proofs.Untold.{AreBytes, head_spelled, zero_formed, size_at, told_spelled}

-- ---- heads

number_take : (xs : List ℕ) (k n m : ℕ) → n ≤ m → number_at (take (k + m) xs) k n ≡ number_at xs k n
number_take xs k n m le = ap (big_number n) (drop-take k m xs) ∙ big_from-take 0 n m (drop k xs) (omega arith)

head_same : (xs ys : List ℕ) → take 16 xs ≡ take 16 ys → (k n m : ℕ) → k + m ≡ 16 → n ≤ m → number_at xs k n ≡ number_at ys k n
head_same xs ys e k n m is le =
    sym (number_take xs k n m le) ∙ ap (λ l. number_at l k n) (ap (λ s. take s xs) is ∙ e ∙ ap (λ s. take s ys) (sym is)) ∙ number_take ys k n m le

-- bytes that begin as a record of the form say its head
head_told : (slices : ℕ) (front rest : List ℕ) (t : Told) → has_form Recording slices 0 (placed_record (length front) t) ≡ true → take 16 rest ≡ take 16 (record_bytes t)
    → (has_form Recording slices (number_at (front ++ rest) (length front + 3) 1) (item_at (front ++ rest) (length front)) ≡ true) × ((item_at (front ++ rest) (length front)).size ≡ length t.bytes)
unfolding item_at
head_told slices front rest t formed e =
    let few : length t.bytes < 2 ^ 32 = small slices 0 (placed_record (length front) t) formed in
    let same : take 16 rest ≡ take 16 (record_bytes t ++ []) = e ∙ ap (take 16) (sym (append-nil (record_bytes t))) in
    let kind : number_at rest 0 1 ≡ t.kind = head_same rest (record_bytes t ++ []) same 0 1 16 refl (omega arith) ∙ kind_again t [] in
    let switch : number_at rest 1 1 ≡ t.switch = head_same rest (record_bytes t ++ []) same 1 1 15 refl (omega arith) ∙ switch_again t [] in
    let slot : number_at rest 2 1 ≡ t.slot = head_same rest (record_bytes t ++ []) same 2 1 14 refl (omega arith) ∙ slot_again t [] in
    let none : number_at rest 3 1 ≡ 0 = head_same rest (record_bytes t ++ []) same 3 1 13 refl (omega arith) ∙ zero_again [] [] t in
    let size : number_at rest 4 4 ≡ length t.bytes = head_same rest (record_bytes t ++ []) same 4 4 12 refl (omega arith) ∙ size_again t [] few in (
      rw (number_first front rest 1, number_behind front rest 1 1, number_behind front rest 2 1, number_behind front rest 3 1, number_behind front rest 4 4, kind, switch, slot, none, size) formed,
      number_behind front rest 4 4 ∙ size,
    )

-- the record with this body whose head the bytes say
abbrev told_with : List ℕ → List ℕ → Told
told_with xs body = record { kind = number_at xs 0 1; switch = number_at xs 1 1; slot = number_at xs 2 1; moment = number_at xs 8 8; bytes = body }

abbrev head_of : List ℕ → List ℕ
head_of xs = head_spelling (number_at xs 0 1) (number_at xs 1 1) (number_at xs 2 1) (number_at xs 4 4) (number_at xs 8 8)

spell_with : (xs body : List ℕ) → length body ≡ number_at xs 4 4 → record_bytes (told_with xs body) ≡ head_of xs ++ body
spell_with xs body is = rw is refl

length-head_of : (xs : List ℕ) → length (head_of xs) ≡ 16
unfolding head_spelling
length-head_of xs = refl

item_with : (front rest body : List ℕ) → length body ≡ number_at rest 4 4 → item_at (front ++ rest) (length front) ≡ placed_record (length front) (told_with rest body)
unfolding item_at
item_with front rest body is = rw (number_first front rest 1, number_behind front rest 1 1, number_behind front rest 2 1, number_behind front rest 8 8, number_behind front rest 4 4, is) refl

-- a head of the form is that of a record of the form, with any body of its size
form_with : (slices : ℕ) (front rest body : List ℕ) → AreBytes rest → length body ≡ number_at rest 4 4 → has_form Recording slices (number_at (front ++ rest) (length front + 3) 1) (item_at (front ++ rest) (length front)) ≡ true
    → (number_at rest 3 1 ≡ 0) × HasForm slices (length front) (told_with rest body)
form_with slices front rest body bytes is formed =
    let zero_and = zero_formed slices (number_at (front ++ rest) (length front + 3) 1) (item_at (front ++ rest) (length front)) formed in
    let none : number_at rest 3 1 ≡ 0 = rw (number_behind front rest 3 1) at zero_and.0 in
    let head : has_form Recording slices 0 (placed_record (length front) (told_with rest body)) ≡ true = rw (item_with front rest body is) at zero_and.1 in
    (none, (head, number_at-lt rest 8 8 bytes))

-- ---- what is wrong

no_form : (slices : ℕ) (front rest : List ℕ) → 16 ≤ length rest → has_form Recording slices (number_at (front ++ rest) (length front + 3) 1) (item_at (front ++ rest) (length front)) ≡ false → HasNoForm slices (length front) rest
no_form slices front rest long bad = (long, λ t form e. absurd (let h = (head_told slices front rest t form.0 e).0 in cc))

cut_off : (slices : ℕ) (front rest : List ℕ) → AreBytes rest → 16 ≤ length rest → has_form Recording slices (number_at (front ++ rest) (length front + 3) 1) (item_at (front ++ rest) (length front)) ≡ true
    → length rest < 16 + number_at rest 4 4 → IsCutOff slices (length front) rest
cut_off slices front rest bytes long formed short =
    let size : ℕ = number_at rest 4 4 in
    let left : length (drop 16 rest) ≡ length rest - 16 = length-drop 16 rest in
    let lack : ℕ = 16 + size - length rest in
    let missing : List ℕ = replicate lack 0 in
    let filled : length missing ≡ lack = length-replicate lack 0 in
    let body : List ℕ = drop 16 rest ++ missing in
    let is : length body ≡ size = omega (arith, length-append (drop 16 rest) missing, left, filled) in
    let form = form_with slices front rest body bytes is formed in
    record {
      told = told_with rest body;
      formed = form.1;
      missing = missing;
      some = omega (arith, filled);
      begun = spell_with rest body is ∙ sym (append_assoc (head_of rest) (drop 16 rest) missing) ∙ ap (λ l. l ++ missing) (head_spelled rest bytes long form.0);
    }

unfit : (slices : ℕ) (front rest : List ℕ) (before : List Item) → AreBytes rest → has_form Recording slices (number_at (front ++ rest) (length front + 3) 1) (item_at (front ++ rest) (length front)) ≡ true
    → number_at rest 4 4 + 16 ≤ length rest → fits before (item_at (front ++ rest) (length front)) ≡ false → IsUnfit slices before (length front) rest
unfit slices front rest before bytes formed whole shut =
    let size : ℕ = number_at rest 4 4 in
    let body : List ℕ = take size (drop 16 rest) in
    let is : length body ≡ size = length-take-le size (drop 16 rest) (omega (arith, length-drop 16 rest)) in
    let form = form_with slices front rest body bytes is formed in
    record {
      told = told_with rest body;
      formed = form.1;
      later = drop size (drop 16 rest);
      begun = told_spelled rest size bytes refl whole form.0;
      unfit = rw (item_with front rest body is) at shut;
    }

pub or_else : {A : Type 0} (P : RecordingFault → Type 0) (b : Bool) (f fault : RecordingFault) (r : Result A RecordingFault) → cond b (Err f) r ≡ Err fault → (b ≡ true → P f) → (b ≡ false → r ≡ Err fault → P fault) → P fault
or_else P true f fault r e stops goes = let is : f ≡ fault = cc in subst P is (stops refl)
or_else P false f fault r e stops goes = goes refl e

pub fault_found : (slices : ℕ) (front rest : List ℕ) (before : List Item) (fault : RecordingFault) → AreBytes rest → record_at slices (front ++ rest) before (length front) ≡ Err fault → IsFaultAt slices before (length front) rest fault
unfolding record_in
fault_found slices front rest before fault bytes e =
    let all : List ℕ = front ++ rest in
    let place : ℕ = length front in
    let left : ℕ = length all - place in
    let q : Item = item_at all place in
    let long = length-append front rest in
    let sized = size_at front rest in
    let P : RecordingFault → Type 0 = IsFaultAt slices before place rest in
    or_else P (ltb left 16) (Torn place) fault _ e
    (λ a. (refl, inl (let lt = ltb-true _ _ a in omega (arith, lt, long))))
    (λ a e1. let some = ltb-false _ _ a in or_else P (not (has_form Recording slices (number_at all (place + 3) 1) q)) (Bad place) fault _ e1
    (λ b. (refl, no_form slices front rest (omega (arith, some, long)) (not-true _ b)))
    (λ b e2. or_else P (ltb (left - 16) q.size) (Torn place) fault _ e2
    (λ c. (refl, inr (let lt = ltb-true _ _ c in cut_off slices front rest bytes (omega (arith, some, long)) (not-false _ b) (omega (arith, lt, long, some, sized)))))
    (λ c e3. or_else P (not (fits before q)) (NotOpen place) fault _ e3
    (λ d. (refl, (let le = ltb-false _ _ c in unfit slices front rest before bytes (not-false _ b) (omega (arith, le, long, some, sized)) (not-true _ d))))
    (λ d e4. absurd (let h = e4 in cc)))))

-- ---- and what is wrong is answered

short_torn : (slices : ℕ) (front rest : List ℕ) (before : List Item) → length rest < 16 → record_at slices (front ++ rest) before (length front) ≡ Err (Torn (length front))
unfolding record_in
short_torn slices front rest before lt = rw (lt-ltb (length (front ++ rest) - length front) 16 (omega (arith, lt, length-append front rest))) refl

cut_torn : (slices : ℕ) (front rest : List ℕ) (before : List Item) → 16 ≤ length rest → IsCutOff slices (length front) rest → record_at slices (front ++ rest) before (length front) ≡ Err (Torn (length front))
unfolding record_in
cut_torn slices front rest before long c =
    let left : ℕ = length (front ++ rest) - length front in
    let count = length-append front rest in
    let same : take 16 rest ≡ take 16 (record_bytes c.told) = sym (ap (take 16) c.begun ∙ take-append-le 16 rest c.missing long) in
    let head = head_told slices front rest c.told c.formed.0 same in
    let whole = ap length c.begun in
    let lack : left - 16 < length c.told.bytes = omega (arith, count, long, whole, length-append rest c.missing, spell_length c.told, c.some) in
    rw (le-ltb left 16 (omega (arith, count, long)), head.0, head.1, lt-ltb (left - 16) (length c.told.bytes) lack) refl

form_bad : (slices : ℕ) (front rest : List ℕ) (before : List Item) → AreBytes rest → HasNoForm slices (length front) rest → record_at slices (front ++ rest) before (length front) ≡ Err (Bad (length front))
unfolding record_in
form_bad slices front rest before bytes none =
    let left : ℕ = length (front ++ rest) - length front in
    let size : ℕ = number_at rest 4 4 in
    let body : List ℕ = replicate size 0 in
    let is : length body ≡ size = length-replicate size 0 in
    let bad : has_form Recording slices (number_at (front ++ rest) (length front + 3) 1) (item_at (front ++ rest) (length front)) ≡ false = false_from_ne_true _ (λ formed.
    let form = form_with slices front rest body bytes is formed in
    let begun : take 16 rest ≡ take 16 (record_bytes (told_with rest body)) =
    ap (take 16) (sym (head_spelled rest bytes none.0 form.0)) ∙ take-append-le 16 (head_of rest) (drop 16 rest) (omega (arith, length-head_of rest))
    ∙ sym (ap (take 16) (spell_with rest body is) ∙ take-append-le 16 (head_of rest) body (omega (arith, length-head_of rest))) in
    none.1 (told_with rest body) form.1 begun) in
    rw (le-ltb left 16 (omega (arith, length-append front rest, none.0)), bad) refl

shut : (slices : ℕ) (front later : List ℕ) (before : List Item) (t : Told) → HasForm slices (length front) t → fits before (placed_record (length front) t) ≡ false
    → record_at slices (front ++ (record_bytes t ++ later)) before (length front) ≡ Err (NotOpen (length front))
unfolding record_in
shut slices front later before t form closed =
    let bytes : List ℕ = front ++ (record_bytes t ++ later) in
    let long = with_rest front later t in
    rw (head_again front later t (small slices 0 (placed_record (length front) t) form.0) form.1, zero_again front later t, form.0, closed, le-ltb (length bytes - length front) 16 (omega (arith, long)), le-ltb (length bytes - length front - 16) (length t.bytes) (omega (arith, long))) refl

unfit_shut : (slices : ℕ) (front rest : List ℕ) (before : List Item) → IsUnfit slices before (length front) rest → record_at slices (front ++ rest) before (length front) ≡ Err (NotOpen (length front))
unfit_shut slices front rest before u =
    subst (λ l. record_at slices (front ++ l) before (length front) ≡ Err (NotOpen (length front))) (sym u.begun) (shut slices front u.later before u.told u.formed u.unfit)

pub fault_answered : (slices : ℕ) (front rest : List ℕ) (before : List Item) (fault : RecordingFault) → AreBytes rest → IsFaultAt slices before (length front) rest fault → record_at slices (front ++ rest) before (length front) ≡ Err fault
fault_answered slices front rest before (Torn place) bytes (is, inl short) = rw is (short_torn slices front rest before short)
fault_answered slices front rest before (Torn place) bytes (is, inr cut) = rw is (elim (cases_lt (length rest) 16) [
  | inl short ↦ short_torn slices front rest before short
  | inr long ↦ cut_torn slices front rest before long cut
])
fault_answered slices front rest before (Bad place) bytes (is, none) = rw is (form_bad slices front rest before bytes none)
fault_answered slices front rest before (NotOpen place) bytes (is, u) = rw is (unfit_shut slices front rest before u)
fault_answered slices front rest before Memory bytes none = absurd none
