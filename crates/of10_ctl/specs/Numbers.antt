-- Bytes in which one number is another (OpenFlow 1.0.0, section 5: numbers are big endian).
use Rattle.std.specs.Prelude.{ℕ, ◌+◌, List, ◌++◌, take, drop}
use Rattle.byteorder.specs.Endian.{big_bytes}

-- these bytes with a number of two bytes at a place
abbrev pub with_number : ℕ → ℕ → List ℕ → List ℕ
with_number at n bytes = take at bytes ++ (big_bytes 2 n ++ drop (at + 2) bytes)
