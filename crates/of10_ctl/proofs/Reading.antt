-- What is read of a message that was made.
use Rattle.std.proofs.Common.{◌≡◌, ℕ, ◌+◌, ◌≤◌, false, List, ◌++◌, length, take, refl, sym, ap, ◌∙◌, arith}
use Rattle.std.proofs.lemmas.Bool.{le-ltb}
use Rattle.byteorder.specs.Endian.{big_bytes}
use Rattle.byteorder.specs.Numbers.{big_number-reads_back}
use Rattle.of10_ctl.specs.Heads.{length_field, head_bytes}
use Rattle.of10_ctl.specs.Frames.{IsFrame, is_bad, message_of, error_of}
use Rattle.of10_ctl.specs.Kinds.{IsOf}

pub length-message : (kind xid : ℕ) (body : List ℕ) → length (message_of kind xid body) ≡ 8 + length body
length-message kind xid body = omega arith

pub length_field-message : (kind xid : ℕ) (body : List ℕ) → length body ≤ 65527 → length_field (message_of kind xid body) ≡ 8 + length body
length_field-message kind xid body small =
    big_number-reads_back 2 (8 + length body) (big_bytes 4 xid ++ body) (omega arith)

is_bad-message : (kind xid : ℕ) (body : List ℕ) → length body ≤ 65527 → is_bad (message_of kind xid body) ≡ false
is_bad-message kind xid body small = rw (length_field-message kind xid body small) (le-ltb (8 + length body) 8 (omega arith))

pub IsFrame-message : (kind xid : ℕ) (body : List ℕ) → length body ≤ 65527 → IsFrame (message_of kind xid body)
IsFrame-message kind xid body small = record {
  header = omega arith;
  small = omega arith;
  sized = rw (is_bad-message kind xid body small) (length-message kind xid body ∙ sym (length_field-message kind xid body small));
}

pub IsOf-message : (kind xid : ℕ) (body : List ℕ) → length body ≤ 65527 → IsOf kind (message_of kind xid body)
IsOf-message kind xid body small = (IsFrame-message kind xid body small, refl, refl, is_bad-message kind xid body small)

-- the bytes of an error message, put after its header one field after the other
pub error_written : (xid class code : ℕ) (cause : List ℕ) → head_bytes 1 (8 + (4 + length (take 64 cause))) xid ++ (big_bytes 2 class ++ (big_bytes 2 code ++ take 64 cause)) ≡ error_of xid class code cause
error_written xid class code cause =
    let same : 8 + (4 + length (take 64 cause)) ≡ 8 + length (big_bytes 2 class ++ (big_bytes 2 code ++ take 64 cause)) = omega arith in
    ap (λ (n : ℕ). head_bytes 1 n xid ++ (big_bytes 2 class ++ (big_bytes 2 code ++ take 64 cause))) same
