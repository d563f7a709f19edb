-- Bytes with a number of two bytes at a place: what is read there, and elsewhere; and a frame stays one.
use Rattle.std.proofs.Common.{◌≡◌, ℕ, ◌+◌, ◌≤◌, ◌<◌, ◌^◌, List, ◌++◌, length, take, drop, refl, sym, ap, subst, ◌∙◌, append_assoc, arith}
use Rattle.std.proofs.lemmas.List.{length-append, length-take-le, length-drop, take-append-drop, take_at, drop_at, drop-drop}
use Rattle.byteorder.specs.Endian.{big_number, big_bytes}
use Rattle.byteorder.specs.Numbers.{big_number-reads_back}
use Rattle.of10_model.specs.Normal.{number_at}
use Rattle.of10_model.specs.Padding.{AlikeBut}
use Rattle.of10_model.proofs.Padding.{number_before}
use Rattle.of10_ctl.specs.Heads.{length_field}
use Rattle.of10_ctl.specs.Frames.{IsFrame}
use Rattle.of10_ctl.specs.Numbers.{with_number}

pub with_length : (at n : ℕ) (bytes : List ℕ) → at + 2 ≤ length bytes → length (with_number at n bytes) ≡ length bytes
with_length at n bytes le =
    let front = length-take-le at bytes (omega (arith, le)) in
    let rest = length-drop (at + 2) bytes in
    let all = length-append (take at bytes) (big_bytes 2 n ++ drop (at + 2) bytes) in
    all ∙ omega (arith, front, rest, le)

pub with_front : (at n : ℕ) (bytes : List ℕ) → at + 2 ≤ length bytes → take at (with_number at n bytes) ≡ take at bytes
with_front at n bytes le = take_at (take at bytes) (big_bytes 2 n ++ drop (at + 2) bytes) at (length-take-le at bytes (omega (arith, le)))

pub with_behind : (at n : ℕ) (bytes : List ℕ) → at + 2 ≤ length bytes → drop at (with_number at n bytes) ≡ big_bytes 2 n ++ drop (at + 2) bytes
with_behind at n bytes le = drop_at (take at bytes) (big_bytes 2 n ++ drop (at + 2) bytes) at (length-take-le at bytes (omega (arith, le)))

pub with_alike : (at n : ℕ) (bytes : List ℕ) → at + 2 ≤ length bytes → AlikeBut at (at + 2) bytes (with_number at n bytes)
with_alike at n bytes le = record {
  size = sym (with_length at n bytes le);
  front = sym (with_front at n bytes le);
  rest = sym (sym (drop-drop 2 at (with_number at n bytes)) ∙ ap (drop 2) (with_behind at n bytes le));
}

pub with_read : (at n : ℕ) (bytes : List ℕ) → at + 2 ≤ length bytes → n < 2 ^ 16 → number_at (with_number at n bytes) at 2 ≡ n
with_read at n bytes le small = ap (big_number 2) (with_behind at n bytes le) ∙ big_number-reads_back 2 n (drop (at + 2) bytes) small

-- bytes that agree in front of the number's end and behind it
pub with_pieces : (at n : ℕ) (bytes other : List ℕ) → take (at + 2) other ≡ take at bytes ++ big_bytes 2 n → drop (at + 2) other ≡ drop (at + 2) bytes → other ≡ with_number at n bytes
with_pieces at n bytes other front behind =
    sym (take-append-drop (at + 2) other)
    ∙ ap (λ (l : List ℕ). l ++ drop (at + 2) other) front
    ∙ ap (λ (l : List ℕ). (take at bytes ++ big_bytes 2 n) ++ l) behind
    ∙ append_assoc (take at bytes) (big_bytes 2 n) (drop (at + 2) bytes)

-- behind its head no number says how long a frame is
pub with_frame : (at n : ℕ) (bytes : List ℕ) → 8 ≤ at → at + 2 ≤ length bytes → IsFrame bytes → IsFrame (with_number at n bytes)
with_frame at n bytes far le frame =
    let size = with_length at n bytes le in
    let field : length_field bytes ≡ length_field (with_number at n bytes) = number_before at (at + 2) bytes (with_number at n bytes) (with_alike at n bytes le) 2 2 (omega (arith, far)) in
    record {
      header = subst (λ k. 8 ≤ k) (sym size) frame.header;
      small = subst (λ k. k ≤ 65535) (sym size) frame.small;
      sized = size ∙ frame.sized ∙ rw field refl;
    }

-- a part of a vector that was lent and written stands in it again
pub written_back : (at n size : ℕ) (bytes part out : List ℕ) → part ≡ bytes → length part ≡ size → length out ≡ length part
    → take (at + 2) out ≡ take at part ++ big_bytes 2 n → drop (at + 2) out ≡ drop (at + 2) part
    → take size (out ++ drop (length out) bytes) ≡ with_number at n bytes
written_back at n size bytes part out same whole kept front behind =
    take_at out (drop (length out) bytes) size (kept ∙ whole) ∙ with_pieces at n part out front behind ∙ ap (with_number at n) same
