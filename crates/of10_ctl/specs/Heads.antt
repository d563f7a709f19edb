-- The header that begins every message (OpenFlow 1.0.0, section 5.1).
use Rattle.std.specs.Prelude.{ℕ, List, [], ◌∷◌, ◌++◌, slice_index}
use Rattle.byteorder.specs.Endian.{big_bytes}
use Rattle.of10_model.specs.Normal.{number_at}
use Rattle.of10_ctl.specs.declared.head.Head.{Head}

-- the length that a message gives itself, in bytes and with the header (section 5.1)
abbrev pub length_field : List ℕ → ℕ
length_field bytes = number_at bytes 2 2

-- the four fields of the header that begins the bytes (section 5.1)
abbrev pub head_of : List ℕ → Head
head_of bytes = record { version = slice_index bytes 0; kind = slice_index bytes 1; length = length_field bytes; xid = number_at bytes 4 4 }

-- the header of a message of version 1 (section 5.1)
abbrev pub head_bytes : ℕ → ℕ → ℕ → List ℕ
head_bytes kind length xid = (1 ∷ kind ∷ []) ++ (big_bytes 2 length ++ big_bytes 4 xid)
