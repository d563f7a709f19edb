-- What is read is what the file says.
use Rattle.std.proofs.Common.{◌≡◌, ℕ, zero, suc, ◌+◌, ◌-◌, ◌*◌, ◌/◌, ◌%◌, ◌<◌, ◌≤◌, ◌==◌, true, not, ltb, leb, eqb-true, List, [], ◌∷◌, ◌++◌, length, take, drop, bytes_eq, inl, inr, slice_index, Ok, refl, sym, ap, ◌∙◌, append_assoc, arith}
use Rattle.std.specs.List.{All, flat_map}
use Rattle.std.proofs.Math.Seq.{drop-append_seam}
use Rattle.std.proofs.lemmas.Slice.Eq.{bytes_eq-Decides}
use Rattle.std.proofs.lemmas.Bool.{cases_lt, and_parts, ltb-false, le-leb, lt-leb, not-false}
use Rattle.std.proofs.lemmas.List.{length-append, length-drop, get_or_past, take-append-drop, length-take-le}
use Rattle.std.proofs.lemmas.List.Elements.{All-cons}
use Rattle.std.proofs.lemmas.List.Concat.{flat_map-cons}
use Rattle.byteorder.specs.Endian.{big_number, big_bytes}
use Rattle.of10_model.specs.Normal.{number_at}
use Rattle.of10_model.specs.Results.{◌>>=◌}
use Rattle.of10_model.proofs.Ranges.{bytes-drop, number_at-lt}
use Rattle.of10_model.proofs.Results.{ok_is, passed, met, bind_ok}
use Rattle.recording.specs.declared.item.Item.{Item}
use Rattle.recording.specs.declared.fault.RecordingFault.TheVariants.{Torn, Bad, NotOpen}
use Rattle.recording.specs.declared.layout.Layout.TheVariants.{Recording}
use Rattle.recording.specs.Recordings.{Told, HasMoment, placed_record, all_told, may_be_told, recording, record_bytes, magic, head_spelling, item_at, byte_limit, has_form, fits, record_at, items_from, read_items, record_in, items_in, read_in}
use Rattle.recording.proofs.Forms.{ended, past}
use Rattle.recording.proofs.Told.{number_first, number_behind, spell_length}

-- each element is a byte, and so is the 0 that is read past the end
abbrev pub AreBytes : List ℕ → Type 0
AreBytes xs = (k : ℕ) → slice_index xs k < 256

-- ---- bytes

pub bytes_of : (xs : List ℕ) → All (λ b. b < 256) xs → AreBytes xs
bytes_of xs all k = elim (cases_lt k (length xs)) [ inl lt ↦ all k 0 lt | inr le ↦ rw (get_or_past xs k 0 le) (omega arith) ]

pub bytes-behind : (xs front rest : List ℕ) → AreBytes xs → xs ≡ front ++ rest → AreBytes rest
bytes-behind xs front rest bytes is = let later = bytes-drop xs (length front) bytes in rw (is, drop-append_seam front rest) at later

pub size_at : (front more : List ℕ) → (item_at (front ++ more) (length front)).size ≡ number_at more 4 4
unfolding item_at
size_at front more = number_behind front more 4 4

-- ---- the head

four : (a b c d : ℕ) → a < 256 → b < 256 → c < 256 → d < 256 → big_bytes 4 (big_number 4 (a ∷ b ∷ c ∷ d ∷ [])) ≡ a ∷ b ∷ c ∷ d ∷ []
four a b c d ha hb hc hd =
    let x : ℕ = a * 16777216 + (b * 65536 + (c * 256 + d)) in
    let is : big_number 4 (a ∷ b ∷ c ∷ d ∷ []) ≡ x = omega arith in
    let first : x / 16777216 % 256 ≡ a = omega arith in
    let second : x / 65536 % 256 ≡ b = omega arith in
    let third : x / 256 % 256 ≡ c = omega arith in
    let fourth : x % 256 ≡ d = omega arith in
    rw (is, first, second, third, fourth) refl

eight : (a b c d e f g h : ℕ) → a < 256 → b < 256 → c < 256 → d < 256 → e < 256 → f < 256 → g < 256 → h < 256
    → big_bytes 8 (big_number 8 (a ∷ b ∷ c ∷ d ∷ e ∷ f ∷ g ∷ h ∷ [])) ≡ a ∷ b ∷ c ∷ d ∷ e ∷ f ∷ g ∷ h ∷ []
eight a b c d e f g h ha hb hc hd he hf hg hh =
    let x : ℕ = a * 72057594037927936 + (b * 281474976710656 + (c * 1099511627776 + (d * 4294967296 + (e * 16777216 + (f * 65536 + (g * 256 + h)))))) in
    let is : big_number 8 (a ∷ b ∷ c ∷ d ∷ e ∷ f ∷ g ∷ h ∷ []) ≡ x = omega arith in
    let at_7 : x / 72057594037927936 % 256 ≡ a = omega arith in
    let at_6 : x / 281474976710656 % 256 ≡ b = omega arith in
    let at_5 : x / 1099511627776 % 256 ≡ c = omega arith in
    let at_4 : x / 4294967296 % 256 ≡ d = omega arith in
    let at_3 : x / 16777216 % 256 ≡ e = omega arith in
    let at_2 : x / 65536 % 256 ≡ f = omega arith in
    let at_1 : x / 256 % 256 ≡ g = omega arith in
    let at_0 : x % 256 ≡ h = omega arith in
    rw (is, at_7, at_6, at_5, at_4, at_3, at_2, at_1, at_0) refl

same_head : (a a' b b' c c' d d' : ℕ) (four four' eight eight' rest : List ℕ) → a ≡ a' → b ≡ b' → c ≡ c' → d ≡ d' → four ≡ four' → eight ≡ eight'
    → ((a ∷ b ∷ c ∷ d ∷ []) ++ four ++ eight) ++ rest ≡ ((a' ∷ b' ∷ c' ∷ d' ∷ []) ++ four' ++ eight') ++ rest
same_head a a' b b' c c' d d' four four' eight eight' rest ha hb hc hd hf he = rw (ha, hb, hc, hd, hf, he) refl

-- a head that is all there, with a zero byte, is the spelling of what it says
pub head_spelled : (xs : List ℕ) → AreBytes xs → 16 ≤ length xs → number_at xs 3 1 ≡ 0
    → head_spelling (number_at xs 0 1) (number_at xs 1 1) (number_at xs 2 1) (number_at xs 4 4) (number_at xs 8 8) ++ drop 16 xs ≡ xs
unfolding head_spelling
head_spelled [] bytes long none = absurd (omega arith)
head_spelled (x0 ∷ []) bytes long none = absurd (omega arith)
head_spelled (x0 ∷ x1 ∷ []) bytes long none = absurd (omega arith)
head_spelled (x0 ∷ x1 ∷ x2 ∷ []) bytes long none = absurd (omega arith)
head_spelled (x0 ∷ x1 ∷ x2 ∷ x3 ∷ []) bytes long none = absurd (omega arith)
head_spelled (x0 ∷ x1 ∷ x2 ∷ x3 ∷ x4 ∷ []) bytes long none = absurd (omega arith)
head_spelled (x0 ∷ x1 ∷ x2 ∷ x3 ∷ x4 ∷ x5 ∷ []) bytes long none = absurd (omega arith)
head_spelled (x0 ∷ x1 ∷ x2 ∷ x3 ∷ x4 ∷ x5 ∷ x6 ∷ []) bytes long none = absurd (omega arith)
head_spelled (x0 ∷ x1 ∷ x2 ∷ x3 ∷ x4 ∷ x5 ∷ x6 ∷ x7 ∷ []) bytes long none = absurd (omega arith)
head_spelled (x0 ∷ x1 ∷ x2 ∷ x3 ∷ x4 ∷ x5 ∷ x6 ∷ x7 ∷ x8 ∷ []) bytes long none = absurd (omega arith)
head_spelled (x0 ∷ x1 ∷ x2 ∷ x3 ∷ x4 ∷ x5 ∷ x6 ∷ x7 ∷ x8 ∷ x9 ∷ []) bytes long none = absurd (omega arith)
head_spelled (x0 ∷ x1 ∷ x2 ∷ x3 ∷ x4 ∷ x5 ∷ x6 ∷ x7 ∷ x8 ∷ x9 ∷ x10 ∷ []) bytes long none = absurd (omega arith)
head_spelled (x0 ∷ x1 ∷ x2 ∷ x3 ∷ x4 ∷ x5 ∷ x6 ∷ x7 ∷ x8 ∷ x9 ∷ x10 ∷ x11 ∷ []) bytes long none = absurd (omega arith)
head_spelled (x0 ∷ x1 ∷ x2 ∷ x3 ∷ x4 ∷ x5 ∷ x6 ∷ x7 ∷ x8 ∷ x9 ∷ x10 ∷ x11 ∷ x12 ∷ []) bytes long none = absurd (omega arith)
head_spelled (x0 ∷ x1 ∷ x2 ∷ x3 ∷ x4 ∷ x5 ∷ x6 ∷ x7 ∷ x8 ∷ x9 ∷ x10 ∷ x11 ∷ x12 ∷ x13 ∷ []) bytes long none = absurd (omega arith)
head_spelled (x0 ∷ x1 ∷ x2 ∷ x3 ∷ x4 ∷ x5 ∷ x6 ∷ x7 ∷ x8 ∷ x9 ∷ x10 ∷ x11 ∷ x12 ∷ x13 ∷ x14 ∷ []) bytes long none = absurd (omega arith)
head_spelled (x0 ∷ x1 ∷ x2 ∷ x3 ∷ x4 ∷ x5 ∷ x6 ∷ x7 ∷ x8 ∷ x9 ∷ x10 ∷ x11 ∷ x12 ∷ x13 ∷ x14 ∷ x15 ∷ rest) bytes long none =
    let first : number_at (x0 ∷ x1 ∷ x2 ∷ x3 ∷ x4 ∷ x5 ∷ x6 ∷ x7 ∷ x8 ∷ x9 ∷ x10 ∷ x11 ∷ x12 ∷ x13 ∷ x14 ∷ x15 ∷ rest) 0 1 ≡ x0 = omega arith in
    let second : number_at (x0 ∷ x1 ∷ x2 ∷ x3 ∷ x4 ∷ x5 ∷ x6 ∷ x7 ∷ x8 ∷ x9 ∷ x10 ∷ x11 ∷ x12 ∷ x13 ∷ x14 ∷ x15 ∷ rest) 1 1 ≡ x1 = omega arith in
    let third : number_at (x0 ∷ x1 ∷ x2 ∷ x3 ∷ x4 ∷ x5 ∷ x6 ∷ x7 ∷ x8 ∷ x9 ∷ x10 ∷ x11 ∷ x12 ∷ x13 ∷ x14 ∷ x15 ∷ rest) 2 1 ≡ x2 = omega arith in
    let fourth : x3 ≡ 0 = omega (arith, none) in
    same_head (number_at (x0 ∷ x1 ∷ x2 ∷ x3 ∷ x4 ∷ x5 ∷ x6 ∷ x7 ∷ x8 ∷ x9 ∷ x10 ∷ x11 ∷ x12 ∷ x13 ∷ x14 ∷ x15 ∷ rest) 0 1) x0 (number_at (x0 ∷ x1 ∷ x2 ∷ x3 ∷ x4 ∷ x5 ∷ x6 ∷ x7 ∷ x8 ∷ x9 ∷ x10 ∷ x11 ∷ x12 ∷ x13 ∷ x14 ∷ x15 ∷ rest) 1 1) x1 (number_at (x0 ∷ x1 ∷ x2 ∷ x3 ∷ x4 ∷ x5 ∷ x6 ∷ x7 ∷ x8 ∷ x9 ∷ x10 ∷ x11 ∷ x12 ∷ x13 ∷ x14 ∷ x15 ∷ rest) 2 1) x2 0 x3
    (big_bytes 4 (number_at (x0 ∷ x1 ∷ x2 ∷ x3 ∷ x4 ∷ x5 ∷ x6 ∷ x7 ∷ x8 ∷ x9 ∷ x10 ∷ x11 ∷ x12 ∷ x13 ∷ x14 ∷ x15 ∷ rest) 4 4)) (x4 ∷ x5 ∷ x6 ∷ x7 ∷ [])
    (big_bytes 8 (number_at (x0 ∷ x1 ∷ x2 ∷ x3 ∷ x4 ∷ x5 ∷ x6 ∷ x7 ∷ x8 ∷ x9 ∷ x10 ∷ x11 ∷ x12 ∷ x13 ∷ x14 ∷ x15 ∷ rest) 8 8)) (x8 ∷ x9 ∷ x10 ∷ x11 ∷ x12 ∷ x13 ∷ x14 ∷ x15 ∷ []) rest
    first second third (sym fourth)
    (four x4 x5 x6 x7 (bytes 4) (bytes 5) (bytes 6) (bytes 7))
    (eight x8 x9 x10 x11 x12 x13 x14 x15 (bytes 8) (bytes 9) (bytes 10) (bytes 11) (bytes 12) (bytes 13) (bytes 14) (bytes 15))

-- ---- one record

-- what the record that these bytes begin with says
abbrev pub told_of : List ℕ → ℕ → Told
told_of xs size = record { kind = number_at xs 0 1; switch = number_at xs 1 1; slot = number_at xs 2 1; moment = number_at xs 8 8; bytes = take size (drop 16 xs) }

-- the bytes spell the record, and what is left
pub record Begins (slices : ℕ) (front more : List ℕ) (before : List Item) (r : Item) : Type 0 where
  pub told : Told
  pub rest : List ℕ
  pub spelled : more ≡ record_bytes told ++ rest
  pub is_told : r ≡ placed_record (length front) told
  pub moment : HasMoment told
  pub formed : has_form Recording slices 0 r ≡ true
  pub fit : fits before r ≡ true

item_told : (front more : List ℕ) (size : ℕ) → number_at more 4 4 ≡ size → size + 16 ≤ length more → item_at (front ++ more) (length front) ≡ placed_record (length front) (told_of more size)
unfolding item_at
item_told front more size is long =
    let left : length (drop 16 more) ≡ length more - 16 = length-drop 16 more in
    let taken : length (take size (drop 16 more)) ≡ size = length-take-le size (drop 16 more) (omega arith) in
    rw (number_first front more 1, number_behind front more 1 1, number_behind front more 2 1, number_behind front more 8 8, number_behind front more 4 4, taken, is) refl

pub zero_formed : (slices reserved : ℕ) (r : Item) → has_form Recording slices reserved r ≡ true → (reserved ≡ 0) × (has_form Recording slices 0 r ≡ true)
zero_formed slices reserved r e =
    let whole = and_parts _ (leb r.size (byte_limit r.kind)) e in
    let none : reserved ≡ 0 = eqb-true reserved 0 (and_parts _ (reserved == 0) whole.0).1 in
    (none, rw none at e)

pub told_spelled : (more : List ℕ) (size : ℕ) → AreBytes more → number_at more 4 4 ≡ size → size + 16 ≤ length more → number_at more 3 1 ≡ 0 → more ≡ record_bytes (told_of more size) ++ drop size (drop 16 more)
told_spelled more size bytes is long none =
    let left : length (drop 16 more) ≡ length more - 16 = length-drop 16 more in
    let taken : length (take size (drop 16 more)) ≡ size = length-take-le size (drop 16 more) (omega arith) in
    let head : List ℕ = head_spelling (number_at more 0 1) (number_at more 1 1) (number_at more 2 1) size (number_at more 8 8) in
    let begins : head ++ drop 16 more ≡ more = rw is at (head_spelled more bytes (omega arith) none) in
    sym (rw taken (append_assoc head (take size (drop 16 more)) (drop size (drop 16 more)) ∙ ap (λ l. head ++ l) (take-append-drop size (drop 16 more)) ∙ begins))

pub begins : (slices : ℕ) (front more : List ℕ) (before : List Item) (r : Item) → AreBytes more → record_at slices (front ++ more) before (length front) ≡ Ok r → Begins slices front more before r
unfolding record_in
begins slices front more before r bytes e =
    let all : List ℕ = front ++ more in
    let left = length all - length front in
    let q = item_at all (length front) in
    let a = passed (ltb left 16) (Torn (length front)) _ r e in
    let b = passed (not (has_form Recording slices (number_at all (length front + 3) 1) q)) (Bad (length front)) _ r a.1 in
    let c = passed (ltb (left - 16) q.size) (Torn (length front)) _ r b.1 in
    let d = passed (not (fits before q)) (NotOpen (length front)) _ r c.1 in
    let is : q ≡ r = ok_is q r d.1 in
    let long : 16 ≤ left = ltb-false _ _ a.0 in
    let whole : q.size ≤ left - 16 = ltb-false _ _ c.0 in
    let count = length-append front more in
    let size : ℕ = number_at more 4 4 in
    let sized : q.size ≡ size = size_at front more in
    let formed = zero_formed slices (number_at all (length front + 3) 1) q (not-false _ b.0) in
    let none : number_at more 3 1 ≡ 0 = rw (number_behind front more 3 1) at formed.0 in
    let fits_in : size + 16 ≤ length more = omega (arith, long, whole, count, sized) in
    record {
      told = told_of more size;
      rest = drop size (drop 16 more);
      spelled = told_spelled more size bytes refl fits_in none;
      is_told = sym is ∙ item_told front more size refl fits_in;
      moment = number_at-lt more 8 8 bytes;
      formed = rw is at formed.1;
      fit = rw is at (not-false _ d.0);
    }

pub length-begins : (slices : ℕ) (front more : List ℕ) (before : List Item) (r : Item) (b : Begins slices front more before r) → length (front ++ record_bytes b.told) ≡ r.from + r.size
length-begins slices front more before r b =
    let from_is : r.from ≡ length front + 16 = ap (λ i. i.from) b.is_told in
    let size_is : r.size ≡ length b.told.bytes = ap (λ i. i.size) b.is_told in
    omega (arith, length-append front (record_bytes b.told), spell_length b.told, from_is, size_is)

-- ---- all records

-- the bytes spell what the records say
record AreTold (slices : ℕ) (front more : List ℕ) (before items : List Item) : Type 0 where
  told : List Told
  spelled : more ≡ flat_map record_bytes told
  are_told : items ≡ all_told (length front) told
  moments : All HasMoment told
  fit : may_be_told slices before items ≡ true

none_told : (slices : ℕ) (front : List ℕ) (before items : List Item) → items ≡ [] → AreTold slices front [] before items
unfolding all_told may_be_told
none_told slices front before items e = record {
  told = [];
  spelled = refl;
  are_told = e;
  moments = λ k d lt. absurd (omega arith);
  fit = rw e refl;
}

one_more : (slices : ℕ) (front more : List ℕ) (before : List Item) (r : Item) (others : List Item) (b : Begins slices front more before r) → AreTold slices (front ++ record_bytes b.told) b.rest (r ∷ before) others → AreTold slices front more before (r ∷ others)
unfolding all_told may_be_told
one_more slices front more before r others b a =
    let behind : length (front ++ record_bytes b.told) ≡ length front + 16 + length b.told.bytes = omega (arith, length-append front (record_bytes b.told), spell_length b.told) in
    record {
      told = b.told ∷ a.told;
      spelled = b.spelled ∙ ap (λ l. record_bytes b.told ++ l) a.spelled ∙ sym (flat_map-cons record_bytes b.told a.told);
      are_told = rw (← b.is_told, ← behind, ← a.are_told) refl;
      moments = All-cons HasMoment b.told a.told b.moment a.moments;
      fit = rw (b.formed, b.fit) a.fit;
    }

step_back : (n slices : ℕ) (bytes : List ℕ) (before : List Item) (at : ℕ) (items : List Item) → at < length bytes → items_from (suc n) slices bytes before at ≡ Ok items
    → (r : Item) × (others : List Item) × (record_at slices bytes before at ≡ Ok r) × (items_from n slices bytes (r ∷ before) (r.from + r.size) ≡ Ok others) × (r ∷ others ≡ items)
unfolding items_in
step_back n slices bytes before at items lt e =
    let go = past (leb (length bytes) at) (Ok []) _ (Ok items) (lt-leb _ _ lt) e in
    let one = bind_ok (record_at slices bytes before at) (λ r. items_from n slices bytes (r ∷ before) (r.from + r.size) >>= λ others. Ok (r ∷ others)) items go in
    let two = bind_ok (items_from n slices bytes (one.0 ∷ before) (one.0.from + one.0.size)) (λ others. Ok (one.0 ∷ others)) items one.2 in
    (one.0, two.0, one.1, two.1, ok_is (one.0 ∷ two.0) items two.2)

walk_back : (n slices : ℕ) (front more : List ℕ) (before items : List Item) → AreBytes more → length more ≤ n → items_from n slices (front ++ more) before (length front) ≡ Ok items → AreTold slices front more before items
unfolding items_in
walk_back zero slices front [] before items bytes h e = none_told slices front before items (sym (ok_is [] items e))
walk_back (suc n) slices front [] before items bytes h e =
    let long = length-append front [] in
    none_told slices front before items (sym (ok_is [] items (ended (leb (length (front ++ [])) (length front)) (Ok []) _ (Ok items) (le-leb _ _ (omega (arith, long))) e)))
walk_back zero slices front (m ∷ ms) before items bytes h e = absurd (omega arith)
walk_back (suc n) slices front (m ∷ ms) before items bytes h e =
    let more : List ℕ = m ∷ ms in
    let long = length-append front more in
    let s = step_back n slices (front ++ more) before (length front) items (omega (arith, long)) e in
    let r = s.0 in
    let b = begins slices front more before r bytes s.2 in
    let front' : List ℕ = front ++ record_bytes b.told in
    let grouped : front' ++ b.rest ≡ front ++ more = append_assoc front (record_bytes b.told) b.rest ∙ ap (λ l. front ++ l) (sym b.spelled) in
    let behind : length front' ≡ r.from + r.size = length-begins slices front more before r b in
    let few : length b.rest ≤ n = omega (arith, ap length b.spelled, length-append (record_bytes b.told) b.rest, spell_length b.told, h) in
    let rest_bytes : AreBytes b.rest = bytes-behind more (record_bytes b.told) b.rest bytes b.spelled in
    let P : List ℕ → ℕ → Type 0 = λ all at. items_from n slices all (r ∷ before) at ≡ Ok s.1 in
    let later = walk_back n slices front' b.rest (r ∷ before) s.1 rest_bytes few (rw (grouped, behind) s.3) in
    rw (← s.4) (one_more slices front more before r s.1 b later)

pub read_is_told : (slices : ℕ) (bytes : List ℕ) (items : List Item) → All (λ b. b < 256) bytes → read_items slices bytes ≡ Ok items
    → (told : List Told) × (bytes ≡ recording told) × (items ≡ all_told 8 told) × All HasMoment told × (may_be_told slices [] items ≡ true)
unfolding read_in
read_is_told slices bytes items range e =
    let long = passed (ltb (length bytes) 8) (Torn 0) _ items e in
    let begun = met (bytes_eq (take 8 bytes) magic) (Bad 0) (items_from (length bytes) slices bytes [] 8) items long.1 in
    let front : take 8 bytes ≡ magic = (bytes_eq-Decides (take 8 bytes) magic).0 begun.0 in
    let more : List ℕ = drop 8 bytes in
    let whole : magic ++ more ≡ bytes = rw front at (take-append-drop 8 bytes) in
    let all_bytes : AreBytes bytes = bytes_of bytes range in
    let told = walk_back (length bytes) slices magic more [] items (bytes-drop bytes 8 all_bytes) (omega (arith, length-drop 8 bytes)) (rw whole begun.1) in
    (told.told, sym whole ∙ ap (λ l. magic ++ l) told.spelled, told.are_told, told.moments, told.fit)
