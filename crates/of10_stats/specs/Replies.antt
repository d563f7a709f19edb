-- STATS_REPLY (OpenFlow 1.0.0, section 5.3.5).
use Rattle.std.specs.Prelude.{◌≡◌, ◌⊎◌, ℕ, ◌%◌, ◌==◌, leb, nat_lt, if◌then◌else◌, List, length, drop, Option, Some, None, Result, Ok, Err}
use Rattle.of10_model.specs.declared.pattern.Pattern.{Pattern}
use Rattle.of10_model.specs.Normal.{number_at, match_at}
use Rattle.of10_action.specs.declared.fault.WireFault.{WireFault}
use Rattle.of10_action.specs.declared.fault.WireFault.TheVariants.{Length}
use Rattle.of10_stats.specs.declared.reply.StatsPart.{StatsPart}
use Rattle.of10_stats.specs.declared.protocol.TheConstants.{PORT, QUEUE}

-- where the entries of a reply begin, behind its flags (section 5.3.5)
abbrev pub entries_begin : ℕ
entries_begin = 12

-- the entries of a reply as they lie in it (section 5.3.5)
abbrev pub entries_behind : List ℕ → List ℕ
entries_behind reply = drop entries_begin reply

-- the type of statistics, whether more parts follow, and where the entries begin (section 5.3.5)
unfoldable pub part_of : List ℕ → Result StatsPart WireFault
part_of bytes =
    if nat_lt (length bytes) entries_begin then Err (Length (length bytes))
    else Ok (record { kind = number_at bytes 8 2; more = number_at bytes 10 2 % 2 == 1; from = entries_begin })

-- ---- entries

-- a flow entry gives its own length, of 88 bytes and its actions (section 5.3.5)
abbrev pub flow_length : List ℕ → Option ℕ
flow_length bytes = let size = number_at bytes 0 2 in if leb 88 size then Some size else None

-- the length of every entry of a type: the switch's description, a sum of flows, a table, a port, a queue (section 5.3.5)
abbrev pub fixed_length : ℕ → Option ℕ
fixed_length kind =
    if kind == 0 then Some 1056
    else if kind == 2 then Some 24
    else if kind == 3 then Some 64
    else if kind == 4 then Some 104
    else if kind == 5 then Some 32
    else None

-- the length of the entry of a type that begins the bytes; none for types that have no entries (section 5.3.5)
unfoldable pub length_of : ℕ → List ℕ → Option ℕ
length_of kind bytes = if kind == 1 then flow_length bytes else fixed_length kind

-- a well-formed entry has that length (section 5.3.5)
abbrev pub IsEntry : ℕ → List ℕ → Type 0
IsEntry kind entry = length_of kind entry ≡ Some (length entry)

-- a size, where there is room for it (this proxy's own rule)
abbrev pub within_room : ℕ → Option ℕ → Option ℕ
within_room room None = None
within_room room (Some size) = if leb size room then Some size else None

-- the size of the well-formed entry that begins the bytes, where it is whole (section 5.3.5)
abbrev pub entry_size_of : ℕ → List ℕ → Option ℕ
entry_size_of kind rest = within_room (length rest) (length_of kind rest)

-- what this proxy reads of a flow entry: its match, and how many packets and bytes it had (section 5.3.5)
abbrev pub flow_of : List ℕ → Pattern × ℕ × ℕ
flow_of entry = (match_at entry 4, number_at entry 72 8, number_at entry 80 8)

-- an entry of a port or of a queue, which begins with the port's number (section 5.3.5)
abbrev pub IsPortEntry : List ℕ → Type 0
IsPortEntry entry = IsEntry PORT entry ⊎ IsEntry QUEUE entry

-- the port that such an entry is about (section 5.3.5)
abbrev pub entry_port : List ℕ → ℕ
entry_port entry = number_at entry 0 2
