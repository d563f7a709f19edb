-- The link layer of a packet: its addresses, its VLAN tag, its type and what is behind them (OpenFlow 1.0.0, section 3.4).
use Rattle.std.specs.Prelude.{ℕ, ◌==◌, ◌&&◌, not, ◌+◌, ◌/◌, ◌%◌, leb, Bool, if◌then◌else◌, List, [], length, drop}
use Rattle.of10_model.specs.Normal.{number_at}

-- the n bytes from a place as a number, 0 where they aren't all there (this proxy's own rule)
abbrev pub field_at : List ℕ → ℕ → ℕ → ℕ
field_at bytes place n = if leb (place + n) (length bytes) then number_at bytes place n else 0

-- which protocol a packet's payload is of, and the payload
pub record Typed : Type 0 where
  pub kind : ℕ
  pub payload : List ℕ

-- a payload that isn't read, of a given type
abbrev pub unread : ℕ → Typed
unread kind = record { kind = kind; payload = [] }

-- a SNAP header: `aa aa 03 00 00 00` and a type
abbrev pub is_snap : List ℕ → Bool
is_snap rest = leb 8 (length rest) && number_at rest 0 6 == 0xaaaa03000000

-- The two bytes before a payload are its type from 0x0600 on (Ethernet II). A smaller number is a length (IEEE 802.3):
-- the type then stands in a SNAP header, and is 0x05ff where there is none (OpenFlow 1.0.0, section 3.4).
unfoldable pub typed : ℕ → List ℕ → Typed
typed word rest =
    if leb 0x0600 word then record { kind = word; payload = rest }
    else if is_snap rest then record { kind = number_at rest 6 2; payload = drop 8 rest }
    else unread 0x05ff

-- a packet's VLAN id with its priority, its type and its payload
pub record LinkHeader : Type 0 where
  pub vlan : ℕ
  pub pcp : ℕ
  pub kind : ℕ
  pub payload : List ℕ

-- without a VLAN tag the id is 0xffff (OpenFlow 1.0.0, section 5.2.3)
abbrev pub untagged : Typed → LinkHeader
untagged t = record { vlan = 0xffff; pcp = 0; kind = t.kind; payload = t.payload }

-- an IEEE 802.1Q tag has the priority in its high 3 bits and the id in its low 12
abbrev pub tagged : ℕ → Typed → LinkHeader
tagged tag t = record { vlan = tag % 0x1000; pcp = tag / 0x2000; kind = t.kind; payload = t.payload }

-- what is behind type 0x8100: the tag and the type of what it tags; a tag that is cut off is none (this proxy's own rule)
unfoldable pub tagged_link : List ℕ → LinkHeader
tagged_link rest =
    if leb 4 (length rest) then tagged (number_at rest 0 2) (typed (number_at rest 2 2) (drop 4 rest))
    else untagged (unread 0)

-- the link layer behind the two addresses: at most one tag is read; a packet without a type has type 0 (this proxy's own rule)
unfoldable pub link_of : List ℕ → LinkHeader
link_of bytes =
    if not (leb 14 (length bytes)) then untagged (unread 0)
    else if number_at bytes 12 2 == 0x8100 then tagged_link (drop 14 bytes)
    else untagged (typed (number_at bytes 12 2) (drop 14 bytes))
