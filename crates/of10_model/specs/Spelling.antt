-- The one spelling of a normal match as 40 bytes.
use Rattle.std.specs.Prelude.{ℕ, ◌+◌, ◌-◌, ◌*◌, List, ◌++◌, Option, Some, None}
use Rattle.byteorder.specs.Endian.{big_bytes}
use Rattle.of10_model.specs.declared.pattern.Prefix.{Prefix}
use Rattle.of10_model.specs.declared.pattern.Pattern.{Pattern}

-- a field's wildcard bit: set where the field is free
abbrev pub freed : {A : Type 0} → Option A → ℕ
freed None = 1
freed (Some v) = 0

-- how many low bits of an address are ignored: all 32 where it is free
abbrev pub ignored : Option Prefix → ℕ
ignored None = 32
ignored (Some p) = 32 - p.bits

-- a field's number, zero where the field is free
abbrev pub number_or_zero : Option ℕ → ℕ
number_or_zero None = 0
number_or_zero (Some v) = v

-- an address, zero where it is free
abbrev pub address_or_zero : Option Prefix → ℕ
address_or_zero None = 0
address_or_zero (Some p) = p.value

-- the wildcard word: a bit for each field and a count for each address (OpenFlow 1.0.0, section 5.2.3)
abbrev pub wildcards : Pattern → ℕ
wildcards m =
    freed m.in_port + 0x2 * freed m.dl_vlan + 0x4 * freed m.dl_src + 0x8 * freed m.dl_dst + 0x10 * freed m.dl_type
    + 0x20 * freed m.nw_proto + 0x40 * freed m.tp_src + 0x80 * freed m.tp_dst + 0x100 * ignored m.nw_src
    + 0x4000 * ignored m.nw_dst + 0x100000 * freed m.dl_vlan_pcp + 0x200000 * freed m.nw_tos

-- the 40 bytes: the wildcard word, then the fields with zero padding (OpenFlow 1.0.0, section 5.2.3)
unfoldable pub Spell : Pattern → List ℕ
Spell m =
    big_bytes 4 (wildcards m) ++ big_bytes 2 (number_or_zero m.in_port)
    ++ big_bytes 6 (number_or_zero m.dl_src) ++ big_bytes 6 (number_or_zero m.dl_dst)
    ++ big_bytes 2 (number_or_zero m.dl_vlan) ++ big_bytes 1 (number_or_zero m.dl_vlan_pcp) ++ big_bytes 1 0
    ++ big_bytes 2 (number_or_zero m.dl_type) ++ big_bytes 1 (number_or_zero m.nw_tos)
    ++ big_bytes 1 (number_or_zero m.nw_proto) ++ big_bytes 2 0
    ++ big_bytes 4 (address_or_zero m.nw_src) ++ big_bytes 4 (address_or_zero m.nw_dst)
    ++ big_bytes 2 (number_or_zero m.tp_src) ++ big_bytes 2 (number_or_zero m.tp_dst)
