-- The normal form of a match: what each spelling of 40 bytes means, and which of the matches with the same headers is kept.
use Rattle.std.specs.Prelude.{ℕ, ◌≡◌, ◌==◌, ◌||◌, ◌&&◌, not, ◌<◌, ◌≤◌, ◌-◌, ◌*◌, ◌/◌, ◌%◌, ◌^◌, leb, Bool, true, false, if◌then◌else◌, List, take, drop, Option, Some, None}
use Rattle.byteorder.specs.Endian.{big_number}
use Rattle.of10_model.specs.declared.pattern.Prefix.{Prefix}
use Rattle.of10_model.specs.declared.pattern.Pattern.{Pattern}
use Rattle.of10_model.specs.Pattern.{leading_bits}

-- ---- what 40 bytes spell (OpenFlow 1.0.0, section 5.2.3)

-- the bit of the wildcard word at a place, counted from the lowest
abbrev pub bit : ℕ → ℕ → Bool
bit word place = word / 2 ^ place % 2 == 1

-- a field whose wildcard bit is set is free
abbrev pub unless_freed : ℕ → ℕ → ℕ → Option ℕ
unless_freed word place value = if bit word place then None else Some value

-- six bits of the word from a place count the low bits of an address that are ignored; 32 and more free it
abbrev pub leading : ℕ → ℕ → ℕ → Option Prefix
leading word place address =
    let count = word / 2 ^ place % 64 in
    if leb 32 count then None else Some (leading_bits address (32 - count))

-- the n bytes from a place, as a number
abbrev pub number_at : List ℕ → ℕ → ℕ → ℕ
number_at bytes place n = big_number n (drop place bytes)

-- the twelve constraints as the bytes spell them, fields cut to their bits
unfoldable pub spelled : List ℕ → Pattern
spelled bytes =
    let word = number_at bytes 0 4 in
    record {
      in_port = unless_freed word 0 (number_at bytes 4 2);
      dl_src = unless_freed word 2 (number_at bytes 6 6);
      dl_dst = unless_freed word 3 (number_at bytes 12 6);
      dl_vlan = unless_freed word 1 (number_at bytes 18 2);
      dl_vlan_pcp = unless_freed word 20 (number_at bytes 20 1 % 8);
      dl_type = unless_freed word 4 (number_at bytes 22 2);
      nw_tos = unless_freed word 21 (number_at bytes 24 1 / 4 * 4);
      nw_proto = unless_freed word 5 (number_at bytes 25 1);
      nw_src = leading word 8 (number_at bytes 28 4);
      nw_dst = leading word 14 (number_at bytes 32 4);
      tp_src = unless_freed word 6 (number_at bytes 36 2);
      tp_dst = unless_freed word 7 (number_at bytes 38 2);
    }

-- ---- which constraints mean anything (this proxy's own rule, after OpenFlow 1.0.0, section 3.4)

-- a constraint is equal to a value
abbrev pub is_value : ℕ → Option ℕ → Bool
is_value v None = false
is_value v (Some x) = x == v

-- an address is given whole
abbrev pub is_whole : Option Prefix → Bool
is_whole None = false
is_whole (Some p) = p.bits == 32

-- a constraint is no free one
abbrev pub is_given : Option ℕ → Bool
is_given None = false
is_given (Some x) = true

-- a match is all-exact where no field is free and both addresses are given whole
abbrev pub is_exact : Pattern → Bool
is_exact m =
    is_given m.in_port && is_given m.dl_src && is_given m.dl_dst && is_given m.dl_vlan && is_given m.dl_vlan_pcp && is_given m.dl_type
    && is_given m.nw_tos && is_given m.nw_proto && is_whole m.nw_src && is_whole m.nw_dst && is_given m.tp_src && is_given m.tp_dst

-- a VLAN priority needs a VLAN: a tag other than the number for untagged packets
abbrev pub has_vlan : Option ℕ → Bool
has_vlan None = false
has_vlan (Some v) = not (v == 0xffff)

-- the network protocol and addresses need IPv4 or ARP
abbrev pub has_network : Option ℕ → Bool
has_network kind = is_value 0x0800 kind || is_value 0x0806 kind

-- the type of service needs IPv4
abbrev pub has_service : Option ℕ → Bool
has_service kind = is_value 0x0800 kind

-- the transport ports need IPv4 with ICMP, TCP or UDP
abbrev pub has_ports : Option ℕ → Option ℕ → Bool
has_ports kind proto = is_value 0x0800 kind && (is_value 1 proto || is_value 6 proto || is_value 17 proto)

-- a field that means nothing is zero in an all-exact match, and free in any other
abbrev pub meaningless : Bool → Option ℕ
meaningless exact = if exact then Some 0 else None

abbrev pub meaningless_prefix : Bool → Option Prefix
meaningless_prefix exact = if exact then Some (record { bits = 32; value = 0 }) else None

abbrev pub kept : Bool → Bool → Option ℕ → Option ℕ
kept exact needed c = if needed then c else meaningless exact

abbrev pub kept_prefix : Bool → Bool → Option Prefix → Option Prefix
kept_prefix exact needed c = if needed then c else meaningless_prefix exact

-- the match with each field without its prerequisite made meaningless, in the order VLAN, type, protocol
unfoldable pub applied : Pattern → Pattern
applied m =
    let exact = is_exact m in
    let proto = kept exact (has_network m.dl_type) m.nw_proto in
    record {
      in_port = m.in_port;
      dl_src = m.dl_src;
      dl_dst = m.dl_dst;
      dl_vlan = m.dl_vlan;
      dl_vlan_pcp = kept exact (has_vlan m.dl_vlan) m.dl_vlan_pcp;
      dl_type = m.dl_type;
      nw_tos = kept exact (has_service m.dl_type) m.nw_tos;
      nw_proto = proto;
      nw_src = kept_prefix exact (has_network m.dl_type) m.nw_src;
      nw_dst = kept_prefix exact (has_network m.dl_type) m.nw_dst;
      tp_src = kept exact (has_ports m.dl_type proto) m.tp_src;
      tp_dst = kept exact (has_ports m.dl_type proto) m.tp_dst;
    }

-- the normal form of what 40 bytes spell
abbrev pub Norm : List ℕ → Pattern
Norm bytes = applied (spelled bytes)

-- the match that the 40 bytes from a place spell, in normal form
abbrev pub match_at : List ℕ → ℕ → Pattern
match_at bytes place = Norm (take 40 (drop place bytes))

-- ---- normal matches

-- a constraint, where it isn't free, is below a limit
abbrev pub IsBelow : ℕ → Option ℕ → Type 0
IsBelow limit None = Unit {0}
IsBelow limit (Some x) = x < limit

-- a type of service has no low bits
abbrev pub IsService : Option ℕ → Type 0
IsService None = Unit {0}
IsService (Some x) = (x < 256) × (x % 4 ≡ 0)

-- a prefix has 1 to 32 bits, and the bits behind them are zero
abbrev pub IsPrefix : Option Prefix → Type 0
IsPrefix None = Unit {0}
IsPrefix (Some p) = (1 ≤ p.bits) × (p.bits ≤ 32) × (p.value < 2 ^ 32) × (p.value % 2 ^ (32 - p.bits) ≡ 0)

-- each constraint lies in the range of its field
pub record IsInRange (m : Pattern) : Type 0 where
  pub in_port : IsBelow (2 ^ 16) m.in_port
  pub dl_src : IsBelow (2 ^ 48) m.dl_src
  pub dl_dst : IsBelow (2 ^ 48) m.dl_dst
  pub dl_vlan : IsBelow (2 ^ 16) m.dl_vlan
  pub dl_vlan_pcp : IsBelow 8 m.dl_vlan_pcp
  pub dl_type : IsBelow (2 ^ 16) m.dl_type
  pub nw_tos : IsService m.nw_tos
  pub nw_proto : IsBelow 256 m.nw_proto
  pub nw_src : IsPrefix m.nw_src
  pub nw_dst : IsPrefix m.nw_dst
  pub tp_src : IsBelow (2 ^ 16) m.tp_src
  pub tp_dst : IsBelow (2 ^ 16) m.tp_dst

-- a match is normal where it is in range and each field that it constrains means something
abbrev pub IsNormal : Pattern → Type 0
IsNormal m = IsInRange m × (applied m ≡ m)
