-- What a recording says is read again.
use Rattle.std.proofs.Common.{◌≡◌, ℕ, zero, suc, ◌+◌, ◌-◌, ◌<◌, ◌≤◌, ◌^◌, ◌&&◌, Bool, true, false, cond, leb, List, [], ◌∷◌, ◌++◌, length, Ok, refl, sym, ap, subst, append_assoc, arith}
use Rattle.std.specs.List.{All, flat_map}
use Rattle.std.proofs.Math.Seq.{drop-append_seam, drop-append-add}
use Rattle.std.proofs.lemmas.Bool.{and_parts, leb-true, le-ltb, lt-leb, le-leb}
use Rattle.std.proofs.lemmas.List.{append-nil, length-append}
use Rattle.std.proofs.lemmas.List.Elements.{All-head, All-tail}
use Rattle.std.proofs.lemmas.List.Concat.{flat_map-cons}
use Rattle.byteorder.specs.Endian.{big_number, big_bytes}
use Rattle.byteorder.specs.Numbers.{big_number-reads_back}
use Rattle.of10_model.specs.Normal.{number_at}
use Rattle.recording.specs.declared.item.Item.{Item}
use Rattle.recording.specs.declared.item.TheConstants.{BYTE_LIMIT}
use Rattle.recording.specs.declared.layout.Layout.TheVariants.{Recording}
use Rattle.recording.specs.Recordings.{Told, HasMoment, placed_record, all_told, may_be_told, recording, record_bytes, magic, head_spelling, item_at, byte_limit, has_form, fits, record_at, items_from, read_items, record_in, items_in, read_in}

-- a number behind other bytes
pub number_behind : (front more : List ℕ) (k n : ℕ) → number_at (front ++ more) (length front + k) n ≡ number_at more k n
number_behind front more k n = ap (big_number n) (drop-append-add front more k)

pub number_first : (front more : List ℕ) (n : ℕ) → number_at (front ++ more) (length front) n ≡ number_at more 0 n
number_first front more n = ap (big_number n) (drop-append_seam front more)

-- the numbers of a head, read from its start
pub size_again : (t : Told) (rest : List ℕ) → length t.bytes < 2 ^ 32 → number_at (record_bytes t ++ rest) 4 4 ≡ length t.bytes
unfolding head_spelling
size_again t rest h = big_number-reads_back 4 (length t.bytes) (big_bytes 8 t.moment ++ t.bytes ++ rest) h

moment_again : (t : Told) (rest : List ℕ) → t.moment < 2 ^ 64 → number_at (record_bytes t ++ rest) 8 8 ≡ t.moment
unfolding head_spelling
moment_again t rest h = big_number-reads_back 8 t.moment (t.bytes ++ rest) h

pub kind_again : (t : Told) (rest : List ℕ) → number_at (record_bytes t ++ rest) 0 1 ≡ t.kind
unfolding head_spelling
kind_again t rest = omega arith

pub switch_again : (t : Told) (rest : List ℕ) → number_at (record_bytes t ++ rest) 1 1 ≡ t.switch
unfolding head_spelling
switch_again t rest = omega arith

pub slot_again : (t : Told) (rest : List ℕ) → number_at (record_bytes t ++ rest) 2 1 ≡ t.slot
unfolding head_spelling
slot_again t rest = omega arith

pub head_again : (front rest : List ℕ) (t : Told) → length t.bytes < 2 ^ 32 → t.moment < 2 ^ 64 → item_at (front ++ (record_bytes t ++ rest)) (length front) ≡ placed_record (length front) t
unfolding item_at
head_again front rest t small early =
    let more : List ℕ = record_bytes t ++ rest in
    rw (
      number_first front more 1,
      number_behind front more 1 1,
      number_behind front more 2 1,
      number_behind front more 8 8,
      number_behind front more 4 4,
      kind_again t rest,
      switch_again t rest,
      slot_again t rest,
      size_again t rest small,
      moment_again t rest early,
    ) refl

pub zero_again : (front rest : List ℕ) (t : Told) → number_at (front ++ (record_bytes t ++ rest)) (length front + 3) 1 ≡ 0
unfolding head_spelling
zero_again front rest t = number_behind front (record_bytes t ++ rest) 3 1

pub spell_length : (t : Told) → length (record_bytes t) ≡ 16 + length t.bytes
unfolding head_spelling
spell_length t = omega arith

pub with_rest : (front rest : List ℕ) (t : Told) → length (front ++ (record_bytes t ++ rest)) ≡ length front + (16 + length t.bytes + length rest)
with_rest front rest t =
    let a = length-append front (record_bytes t ++ rest) in
    let b = length-append (record_bytes t) rest in
    let c = spell_length t in
    omega (arith, a, b, c)

limit_small : (b : Bool) → cond b BYTE_LIMIT 0 ≤ BYTE_LIMIT
limit_small true = omega arith
limit_small false = omega arith

pub small : (slices reserved : ℕ) (r : Item) → has_form Recording slices reserved r ≡ true → r.size < 2 ^ 32
small slices reserved r e =
    let fits_limit = leb-true _ _ (and_parts _ (leb r.size (byte_limit r.kind)) e).1 in
    let limit : byte_limit r.kind ≤ BYTE_LIMIT = limit_small _ in
    omega (arith, fits_limit, limit)

pub record_again : (slices : ℕ) (front rest : List ℕ) (before : List Item) (t : Told) → t.moment < 2 ^ 64 → has_form Recording slices 0 (placed_record (length front) t) ≡ true → fits before (placed_record (length front) t) ≡ true
    → record_at slices (front ++ (record_bytes t ++ rest)) before (length front) ≡ Ok (placed_record (length front) t)
unfolding record_in
record_again slices front rest before t early formed fit =
    let bytes : List ℕ = front ++ (record_bytes t ++ rest) in
    let long = with_rest front rest t in
    rw (head_again front rest t (small slices 0 (placed_record (length front) t) formed) early, zero_again front rest t, formed, fit, le-ltb (length bytes - length front) 16 (omega (arith, long)), le-ltb (length bytes - length front - 16) (length t.bytes) (omega (arith, long))) refl

step : (n slices : ℕ) (bytes : List ℕ) (before : List Item) (at : ℕ) (r : Item) (others : List Item) → at < length bytes → record_at slices bytes before at ≡ Ok r
    → items_from n slices bytes (r ∷ before) (r.from + r.size) ≡ Ok others → items_from (suc n) slices bytes before at ≡ Ok (r ∷ others)
unfolding items_in
step n slices bytes before at r others h e f = rw (lt-leb _ _ h, e, f) refl

walk : (told : List Told) (n slices : ℕ) (front : List ℕ) (before : List Item) → length (flat_map record_bytes told) ≤ n → All HasMoment told → may_be_told slices before (all_told (length front) told) ≡ true
    → items_from n slices (front ++ flat_map record_bytes told) before (length front) ≡ Ok (all_told (length front) told)
unfolding items_in all_told may_be_told
walk [] zero slices front before h m e = refl
walk [] (suc n) slices front before h m e = rw (append-nil front, le-leb (length front) (length front) (omega arith)) refl
walk (t ∷ told) zero slices front before h m e = absurd (
    let a = ap length (flat_map-cons record_bytes t told) in
    let b = length-append (record_bytes t) (flat_map record_bytes told) in
    let c = spell_length t in
    omega (arith, a, b, c, h))
walk (t ∷ told) (suc n) slices front before h m e =
    let rest : List ℕ = flat_map record_bytes told in
    let r : Item = placed_record (length front) t in
    let next : ℕ = length front + 16 + length t.bytes in
    let a : length (flat_map record_bytes (t ∷ told)) ≡ length (record_bytes t ++ rest) = ap length (flat_map-cons record_bytes t told) in
    let b = length-append (record_bytes t) rest in
    let c = spell_length t in
    let d : length (front ++ record_bytes t) ≡ next = omega (arith, length-append front (record_bytes t), c) in
    let parts = and_parts (has_form Recording slices 0 r && fits before r) (may_be_told slices (r ∷ before) (all_told next told)) e in
    let head = and_parts (has_form Recording slices 0 r) (fits before r) parts.0 in
    let P : ℕ → Type 0 = λ at. may_be_told slices (r ∷ before) (all_told at told) ≡ true in
    let Q : ℕ → Type 0 = λ at. items_from n slices ((front ++ record_bytes t) ++ rest) (r ∷ before) at ≡ Ok (all_told at told) in
    let later : Q next = subst Q d (walk told n slices (front ++ record_bytes t) (r ∷ before) (omega (arith, a, b, c, h)) (All-tail HasMoment t told m) (subst P (sym d) parts.1)) in
    let grouped : (front ++ record_bytes t) ++ rest ≡ front ++ (record_bytes t ++ rest) = append_assoc front (record_bytes t) rest in
    rw (flat_map-cons record_bytes t told)
    (step n slices (front ++ (record_bytes t ++ rest)) before (length front) r (all_told next told) (let long = with_rest front rest t in omega (arith, long))
    (record_again slices front rest before t (All-head HasMoment t told m) head.0 head.1)
    (rw (← grouped) later))

pub told_again : (slices : ℕ) (told : List Told) → All HasMoment told → may_be_told slices [] (all_told 8 told) ≡ true → read_items slices (recording told) ≡ Ok (all_told 8 told)
unfolding read_in
told_again slices told m e =
    let rest : List ℕ = flat_map record_bytes told in
    rw (le-ltb (length (magic ++ rest)) 8 (omega arith))
    (walk told (length (magic ++ rest)) slices magic [] (omega (arith, length-append magic rest)) m e)
