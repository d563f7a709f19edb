-- A file is refused exactly for its magic or for its first fault.
use Rattle.std.proofs.Common.{◌≡◌, ◌↔◌, ℕ, zero, suc, ◌+◌, ◌≤◌, ◌<◌, ◌&&◌, Bool, true, false, cond, ltb, List, [], ◌∷◌, ◌++◌, length, take, drop, reverse, bytes_eq, inl, inr, Result, Ok, Err, refl, sym, ap, subst, ◌∙◌, append_assoc, arith}
use Rattle.std.specs.List.{All, flat_map}
use Rattle.std.proofs.lemmas.Slice.Eq.{bytes_eq-Decides}
use Rattle.std.proofs.lemmas.Bool.{and_parts, ltb-true, ltb-false, lt-ltb, le-ltb, lt-leb, le-leb, false_from_ne_true}
use Rattle.std.proofs.lemmas.List.{append-nil, length-append, length-drop, reverse-append, take-append-drop}
use Rattle.std.proofs.lemmas.List.Elements.{All-head, All-tail, All-cons}
use Rattle.std.proofs.lemmas.List.Concat.{flat_map-cons}
use Rattle.of10_model.specs.Results.{◌>>=◌}
use Rattle.of10_model.proofs.Ranges.{bytes-drop}
use Rattle.of10_model.proofs.Results.{bind_err, others_wrong}
use Rattle.recording.specs.declared.item.Item.{Item}
use Rattle.recording.specs.declared.fault.RecordingFault.{RecordingFault}
use Rattle.recording.specs.declared.fault.RecordingFault.TheVariants.{Torn, Bad}
use Rattle.recording.specs.declared.layout.Layout.TheVariants.{Recording}
use Rattle.recording.specs.Recordings.{Told, HasMoment, placed_record, all_told, may_be_told, recording, record_bytes, magic, has_form, fits, record_at, items_from, read_items, items_in, read_in}
use Rattle.recording.specs.Faults.{IsFaultAt, IsFirstRecordingFault, IsRefused}
use Rattle.recording.proofs.Told.{spell_length, record_again, with_rest}
use Rattle.recording.proofs.Untold.{AreBytes, bytes_of, bytes-behind, Begins, begins, length-begins}
use Rattle.recording.proofs.Faulty.{or_else, fault_found, fault_answered}

-- a reading that isn't at the end
reads_more : (n slices : ℕ) (bytes : List ℕ) (before : List Item) (at : ℕ) → at < length bytes
    → items_from (suc n) slices bytes before at ≡ (record_at slices bytes before at >>= λ r. items_from n slices bytes (r ∷ before) (r.from + r.size) >>= λ others. Ok (r ∷ others))
unfolding items_in
reads_more n slices bytes before at h = rw (lt-leb _ _ h) refl

no_more : (slices : ℕ) (bytes : List ℕ) (before : List Item) (at : ℕ) (fault : RecordingFault) → items_from zero slices bytes before at ≡ Err fault → ⊥
unfolding items_in
no_more slices bytes before at fault e = cc

at_end : (n slices : ℕ) (bytes : List ℕ) (before : List Item) (at : ℕ) (fault : RecordingFault) → length bytes ≤ at → items_from (suc n) slices bytes before at ≡ Err fault → ⊥
unfolding items_in
at_end n slices bytes before at fault le e = let h = rw (le-leb (length bytes) at le) at e in cc

begun_or : (P : RecordingFault → Type 0) (b : Bool) (r : Result (List Item) RecordingFault) (f fault : RecordingFault) → cond b r (Err f) ≡ Err fault → (b ≡ false → P f) → (b ≡ true → r ≡ Err fault → P fault) → P fault
begun_or P true r f fault e stops goes = goes refl e
begun_or P false r f fault e stops goes = let is : f ≡ fault = cc in subst P is (stops refl)

pub newest_first : {A : Type 0} (r : A) (items before : List A) → reverse (r ∷ items) ++ before ≡ reverse items ++ (r ∷ before)
newest_first r items before = ap (λ l. l ++ before) (reverse-append (r ∷ []) items) ∙ append_assoc (reverse items) (r ∷ []) before

behind_one : (front : List ℕ) (t : Told) (told : List Told) → front ++ flat_map record_bytes (t ∷ told) ≡ (front ++ record_bytes t) ++ flat_map record_bytes told
behind_one front t told = ap (λ l. front ++ l) (flat_map-cons record_bytes t told) ∙ sym (append_assoc front (record_bytes t) (flat_map record_bytes told))

next_place : (front : List ℕ) (t : Told) → length (front ++ record_bytes t) ≡ length front + 16 + length t.bytes
next_place front t = omega (arith, length-append front (record_bytes t), spell_length t)

-- records that are spelled, and then something wrong
record Stops (slices : ℕ) (front more : List ℕ) (before : List Item) (fault : RecordingFault) : Type 0 where
  told : List Told
  moments : All HasMoment told
  right : may_be_told slices before (all_told (length front) told) ≡ true
  rest : List ℕ
  splits : more ≡ flat_map record_bytes told ++ rest
  some : 1 ≤ length rest
  wrong : IsFaultAt slices (reverse (all_told (length front) told) ++ before) (length (front ++ flat_map record_bytes told)) rest fault

-- ---- what stops a reading

stops_here : (slices : ℕ) (front more : List ℕ) (before : List Item) (fault : RecordingFault) → 1 ≤ length more → IsFaultAt slices before (length front) more fault → Stops slices front more before fault
unfolding all_told may_be_told
stops_here slices front more before fault some wrong = record {
  told = [];
  moments = λ k d lt. absurd (omega arith);
  right = refl;
  rest = more;
  splits = refl;
  some = some;
  wrong = rw (append-nil front) wrong;
}

stops_later : (slices : ℕ) (front more : List ℕ) (before : List Item) (r : Item) (fault : RecordingFault) (b : Begins slices front more before r) → Stops slices (front ++ record_bytes b.told) b.rest (r ∷ before) fault → Stops slices front more before fault
unfolding all_told may_be_told
stops_later slices front more before r fault b s =
    let t : Told = b.told in
    let at : ℕ = length front in
    let next : ℕ = at + 16 + length t.bytes in
    let later : List Item = all_told next s.told in
    let place : length (front ++ record_bytes t) ≡ next = next_place front t in
    let P : ℕ → Item → Type 0 = λ p i. may_be_told slices (i ∷ before) (all_told p s.told) ≡ true in
    let right : P next (placed_record at t) = subst (λ i. P next i) b.is_told (subst (λ p. P p r) place s.right) in
    let W : ℕ → Item → List ℕ → Type 0 = λ p i l. IsFaultAt slices (reverse (all_told p s.told) ++ (i ∷ before)) (length l) s.rest fault in
    let wrong : W next (placed_record at t) (front ++ flat_map record_bytes (t ∷ s.told)) =
    subst (λ l. W next (placed_record at t) l) (sym (behind_one front t s.told)) (subst (λ i. W next i ((front ++ record_bytes t) ++ flat_map record_bytes s.told)) b.is_told (subst (λ p. W p r ((front ++ record_bytes t) ++ flat_map record_bytes s.told)) place s.wrong)) in
    let formed : has_form Recording slices 0 (placed_record at t) ≡ true = rw b.is_told at b.formed in
    let fit : fits before (placed_record at t) ≡ true = rw b.is_told at b.fit in
    record {
      told = t ∷ s.told;
      moments = All-cons HasMoment t s.told b.moment s.moments;
      right = rw (formed, fit) right;
      rest = s.rest;
      splits = b.spelled ∙ ap (λ l. record_bytes t ++ l) s.splits ∙ sym (ap (λ l. l ++ s.rest) (flat_map-cons record_bytes t s.told) ∙ append_assoc (record_bytes t) (flat_map record_bytes s.told) s.rest);
      some = s.some;
      wrong = subst (λ items. IsFaultAt slices items (length (front ++ flat_map record_bytes (t ∷ s.told))) s.rest fault) (sym (newest_first (placed_record at t) later before)) wrong;
    }

walk_stops : (n slices : ℕ) (front more : List ℕ) (before : List Item) (fault : RecordingFault) → AreBytes more → length more ≤ n → items_from n slices (front ++ more) before (length front) ≡ Err fault → Stops slices front more before fault
walk_stops zero slices front more before fault bytes h e = absurd (no_more slices (front ++ more) before (length front) fault e)
walk_stops (suc n) slices front [] before fault bytes h e = absurd (at_end n slices (front ++ []) before (length front) fault (let long = length-append front [] in omega (arith, long)) e)
walk_stops (suc n) slices front (m ∷ ms) before fault bytes h e =
    let more : List ℕ = m ∷ ms in
    let all : List ℕ = front ++ more in
    let place : ℕ = length front in
    let long = length-append front more in
    let go = sym (reads_more n slices all before place (omega (arith, long))) ∙ e in
    let later : (r : Item) → record_at slices all before place ≡ Ok r → (items_from n slices all (r ∷ before) (r.from + r.size) >>= λ others. Ok (r ∷ others)) ≡ Err fault → Stops slices front more before fault = λ r read on.
    let b = begins slices front more before r bytes read in
    let front' : List ℕ = front ++ record_bytes b.told in
    let grouped : front' ++ b.rest ≡ all = append_assoc front (record_bytes b.told) b.rest ∙ ap (λ l. front ++ l) (sym b.spelled) in
    let behind : length front' ≡ r.from + r.size = length-begins slices front more before r b in
    let few : length b.rest ≤ n = omega (arith, ap length b.spelled, length-append (record_bytes b.told) b.rest, spell_length b.told, h) in
    let inner : items_from n slices all (r ∷ before) (r.from + r.size) ≡ Err fault = others_wrong (items_from n slices all (r ∷ before) (r.from + r.size)) r fault on in
    stops_later slices front more before r fault b (walk_stops n slices front' b.rest (r ∷ before) fault (bytes-behind more (record_bytes b.told) b.rest bytes b.spelled) few (rw (grouped, behind) inner)) in
    elim (bind_err (record_at slices all before place) (λ r. items_from n slices all (r ∷ before) (r.from + r.size) >>= λ others. Ok (r ∷ others)) fault go) [
      | inl wrong ↦ stops_here slices front more before fault (omega arith) (fault_found slices front more before fault bytes wrong)
      | inr right ↦ later right.0 right.1 right.2
    ]

-- ---- and what stops it is answered

walk_refused : (told : List Told) (n slices : ℕ) (front rest : List ℕ) (before : List Item) (fault : RecordingFault) → AreBytes rest → 1 ≤ length rest → length (flat_map record_bytes told ++ rest) ≤ n → All HasMoment told
    → may_be_told slices before (all_told (length front) told) ≡ true → IsFaultAt slices (reverse (all_told (length front) told) ++ before) (length (front ++ flat_map record_bytes told)) rest fault
    → items_from n slices (front ++ (flat_map record_bytes told ++ rest)) before (length front) ≡ Err fault
unfolding all_told may_be_told
walk_refused told zero slices front rest before fault bytes some h m right wrong = absurd (omega (arith, length-append (flat_map record_bytes told) rest, some, h))
walk_refused [] (suc n) slices front rest before fault bytes some h m right wrong =
    let at_front : IsFaultAt slices before (length front) rest fault = rw (append-nil front) at wrong in
    reads_more n slices (front ++ rest) before (length front) (let long = length-append front rest in omega (arith, long, some))
    ∙ ap (λ (x : Result Item RecordingFault). x >>= λ r. items_from n slices (front ++ rest) (r ∷ before) (r.from + r.size) >>= λ others. Ok (r ∷ others)) (fault_answered slices front rest before fault bytes at_front)
walk_refused (t ∷ told) (suc n) slices front rest before fault bytes some h m right wrong =
    let body : List ℕ = flat_map record_bytes told in
    let place : ℕ = length front in
    let r : Item = placed_record place t in
    let next : ℕ = place + 16 + length t.bytes in
    let front' : List ℕ = front ++ record_bytes t in
    let here : length front' ≡ next = next_place front t in
    let parts = and_parts (has_form Recording slices 0 r && fits before r) (may_be_told slices (r ∷ before) (all_told next told)) right in
    let head = and_parts (has_form Recording slices 0 r) (fits before r) parts.0 in
    let split : flat_map record_bytes (t ∷ told) ++ rest ≡ record_bytes t ++ (body ++ rest) = ap (λ l. l ++ rest) (flat_map-cons record_bytes t told) ∙ append_assoc (record_bytes t) body rest in
    let all : List ℕ = front ++ (record_bytes t ++ (body ++ rest)) in
    let grouped : front' ++ (body ++ rest) ≡ all = append_assoc front (record_bytes t) (body ++ rest) in
    let few : length (body ++ rest) ≤ n = omega (arith, ap length split, length-append (record_bytes t) (body ++ rest), spell_length t, h) in
    let W : List Item → List ℕ → Type 0 = λ items l. IsFaultAt slices items (length l) rest fault in
    let later : W (reverse (all_told next told) ++ (r ∷ before)) (front' ++ body) =
    subst (λ items. W items (front' ++ body)) (newest_first r (all_told next told) before) (subst (λ l. W (reverse (r ∷ all_told next told) ++ before) l) (behind_one front t told) wrong) in
    let inner : items_from n slices (front' ++ (body ++ rest)) (r ∷ before) (length front') ≡ Err fault =
    walk_refused told n slices front' rest (r ∷ before) fault bytes some few (All-tail HasMoment t told m)
    (subst (λ p. may_be_told slices (r ∷ before) (all_told p told) ≡ true) (sym here) parts.1)
    (subst (λ p. W (reverse (all_told p told) ++ (r ∷ before)) (front' ++ body)) (sym here) later) in
    let on : items_from n slices all (r ∷ before) (r.from + r.size) ≡ Err fault = subst (λ p. items_from n slices all (r ∷ before) p ≡ Err fault) here (subst (λ l. items_from n slices l (r ∷ before) (length front') ≡ Err fault) grouped inner) in
    let long : length all ≡ place + (16 + length t.bytes + length (body ++ rest)) = with_rest front (body ++ rest) t in
    ap (λ l. items_from (suc n) slices (front ++ l) before place) split
    ∙ reads_more n slices all before place (omega (arith, long))
    ∙ ap (λ (x : Result Item RecordingFault). x >>= λ q. items_from n slices all (q ∷ before) (q.from + q.size) >>= λ others. Ok (q ∷ others)) (record_again slices front (body ++ rest) before t (All-head HasMoment t told m) head.0 head.1)
    ∙ ap (λ (x : Result (List Item) RecordingFault). x >>= λ others. Ok (r ∷ others)) on

-- ---- the file

read_fault : (slices : ℕ) (bytes : List ℕ) (fault : RecordingFault) → All (λ b. b < 256) bytes → read_items slices bytes ≡ Err fault → IsRefused slices bytes fault
unfolding read_in
read_fault slices bytes fault range e =
    let more : List ℕ = drop 8 bytes in
    let all_bytes : AreBytes bytes = bytes_of bytes range in
    let behind_magic : take 8 bytes ≡ magic → items_from (length bytes) slices bytes [] 8 ≡ Err fault → IsFirstRecordingFault slices bytes fault = λ front on.
    let whole : magic ++ more ≡ bytes = rw front at (take-append-drop 8 bytes) in
    let s = walk_stops (length bytes) slices magic more [] fault (bytes-drop bytes 8 all_bytes) (omega (arith, length-drop 8 bytes)) (rw whole on) in
    record {
      told = s.told;
      moments = s.moments;
      right = s.right;
      rest = s.rest;
      splits = sym whole ∙ ap (λ l. magic ++ l) s.splits ∙ sym (append_assoc magic (flat_map record_bytes s.told) s.rest);
      more = s.some;
      wrong = subst (λ items. IsFaultAt slices items (length (recording s.told)) s.rest fault) (append-nil (reverse (all_told 8 s.told))) s.wrong;
    } in
    or_else (IsRefused slices bytes) (ltb (length bytes) 8) (Torn 0) fault _ e
    (λ a. inl (ltb-true _ _ a, refl))
    (λ a e1. begun_or (IsRefused slices bytes) (bytes_eq (take 8 bytes) magic) (items_from (length bytes) slices bytes [] 8) (Bad 0) fault e1
    (λ b. inr (inl (ltb-false _ _ a, (λ same. absurd (let h = (bytes_eq-Decides (take 8 bytes) magic).1 same in cc)), refl)))
    (λ b e2. inr (inr (behind_magic ((bytes_eq-Decides (take 8 bytes) magic).0 b) e2))))

refused_first : (slices : ℕ) (bytes : List ℕ) (fault : RecordingFault) → AreBytes bytes → IsFirstRecordingFault slices bytes fault → read_items slices bytes ≡ Err fault
unfolding read_in
refused_first slices bytes fault range f =
    let more : List ℕ = flat_map record_bytes f.told ++ f.rest in
    let split : bytes ≡ magic ++ more = f.splits ∙ append_assoc magic (flat_map record_bytes f.told) f.rest in
    let wrong : IsFaultAt slices (reverse (all_told 8 f.told) ++ []) (length (magic ++ flat_map record_bytes f.told)) f.rest fault = rw (append-nil (reverse (all_told 8 f.told))) f.wrong in
    let rest_bytes : AreBytes f.rest = bytes-behind bytes (recording f.told) f.rest range f.splits in
    let walked : items_from (length (magic ++ more)) slices (magic ++ more) [] 8 ≡ Err fault =
    walk_refused f.told (length (magic ++ more)) slices magic f.rest [] fault rest_bytes f.more (omega (arith, length-append magic more)) f.moments f.right wrong in
    rw (split, le-ltb (length (magic ++ more)) 8 (omega arith)) walked

fault_read : (slices : ℕ) (bytes : List ℕ) (fault : RecordingFault) → AreBytes bytes → IsRefused slices bytes fault → read_items slices bytes ≡ Err fault
unfolding read_in
fault_read slices bytes fault range (inl torn) = rw (lt-ltb (length bytes) 8 torn.0, torn.1) refl
fault_read slices bytes fault range (inr (inl other)) =
    let another : bytes_eq (take 8 bytes) magic ≡ false = false_from_ne_true _ (λ same. other.1 ((bytes_eq-Decides (take 8 bytes) magic).0 same)) in
    rw (le-ltb (length bytes) 8 other.0, another, other.2) refl
fault_read slices bytes fault range (inr (inr first)) = refused_first slices bytes fault range first

pub refused_iff : (slices : ℕ) (bytes : List ℕ) (fault : RecordingFault) → All (λ b. b < 256) bytes → (read_items slices bytes ≡ Err fault) ↔ IsRefused slices bytes fault
refused_iff slices bytes fault range = (read_fault slices bytes fault range, fault_read slices bytes fault (bytes_of bytes range))
