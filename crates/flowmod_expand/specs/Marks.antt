-- A number that at once distinguishes most matches that differ. All of this is the proxy's own rule.
use Rattle.std.specs.Prelude.{ℕ, ◌≡◌, ◌+◌, ◌*◌, ◌/◌, ◌%◌, ◌^◌, Bool, true, false, List, slice_index_or, All, Option, Some, None}
use Rattle.of10_model.specs.declared.pattern.Prefix.{Prefix}
use Rattle.of10_model.specs.declared.pattern.Pattern.{Pattern}

-- a field's number: zero where the field is free, else one more than its value
abbrev pub field_mark : Option ℕ → ℕ
field_mark None = 0
field_mark (Some v) = v + 1

-- an address's number: zero where it is free, else its value and behind it how many of its bits count
abbrev pub prefix_key : Option Prefix → ℕ
prefix_key None = 0
prefix_key (Some p) = p.value * 256 + p.bits

-- the numbers of the twelve fields, each by an odd factor of its own, added up
unfoldable pub weighed : Pattern → ℕ
weighed m =
    prefix_key m.nw_dst * 0xaa5c0dcd6b125a97 + prefix_key m.nw_src * 0x86498aff40cc9389 + field_mark m.tp_dst * 0xc0257e403811c379
    + field_mark m.tp_src * 0xf41cad5364f02a79 + field_mark m.dl_dst * 0xb446e1900f163969 + field_mark m.dl_src * 0xd8c0fde9ff1170c9
    + field_mark m.in_port * 0xfbc42e82782acb93 + field_mark m.dl_vlan * 0x87b341d690d7a28b + field_mark m.dl_vlan_pcp * 0xd949950498afa09f
    + field_mark m.dl_type * 0xaac3b94b66a96617 + field_mark m.nw_proto * 0xd62287549a027b0b + field_mark m.nw_tos * 0xa427f0e6cd04c29f

-- the number of a match, below 1,024, which matches that are one share: the ten highest of the sum's 64 bits
abbrev pub mark_of : Pattern → ℕ
mark_of m = weighed m % 2 ^ 64 / 2 ^ 54

-- the numbers of the matches are marked
abbrev pub AreMarked : List Bool → List Pattern → Type 0
AreMarked marks found = All (λ m. slice_index_or marks (mark_of m) false ≡ true) found
