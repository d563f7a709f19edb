-- The headers in both of two matches, as a match.
use Rattle.std.specs.Prelude.{ℕ, ◌==◌, leb, Bool, true, false, if◌then◌else◌, Option, Some, None}
use Rattle.of10_model.specs.declared.pattern.Prefix.{Prefix}
use Rattle.of10_model.specs.declared.pattern.Pattern.{Pattern}
use Rattle.of10_model.specs.Header.{Header, IsHeader}
use Rattle.of10_model.specs.Pattern.{Has, begins_as}

-- what two constraints allow together: none where no value meets both
abbrev pub both : Option ℕ → Option ℕ → Option (Option ℕ)
both None d = Some d
both (Some v) None = Some (Some v)
both (Some v) (Some w) = if v == w then Some (Some v) else None

-- what two prefixes allow together: the longer one, where it begins as the shorter
abbrev pub both_prefix : Option Prefix → Option Prefix → Option (Option Prefix)
both_prefix None q = Some q
both_prefix (Some p) None = Some (Some p)
both_prefix (Some p) (Some q) =
    if leb p.bits q.bits
    then (if begins_as p q.value then Some (Some q) else None)
    else (if begins_as q p.value then Some (Some p) else None)

infixl 10 ◌>>=◌
abbrev pub ◌>>=◌ : {A B : Type 0} → Option A → (A → Option B) → Option B
(Some x) >>= f = f x
None >>= f = None

-- the match of the headers in both: each field's constraints together, none where a field has no value left
unfoldable pub meet_of : Pattern → Pattern → Option Pattern
meet_of a b = do
  in_port ← both a.in_port b.in_port
  dl_src ← both a.dl_src b.dl_src
  dl_dst ← both a.dl_dst b.dl_dst
  dl_vlan ← both a.dl_vlan b.dl_vlan
  dl_vlan_pcp ← both a.dl_vlan_pcp b.dl_vlan_pcp
  dl_type ← both a.dl_type b.dl_type
  nw_tos ← both a.nw_tos b.nw_tos
  nw_proto ← both a.nw_proto b.nw_proto
  nw_src ← both_prefix a.nw_src b.nw_src
  nw_dst ← both_prefix a.nw_dst b.nw_dst
  tp_src ← both a.tp_src b.tp_src
  tp_dst ← both a.tp_dst b.tp_dst
  Some (record {
    in_port = in_port;
    dl_src = dl_src;
    dl_dst = dl_dst;
    dl_vlan = dl_vlan;
    dl_vlan_pcp = dl_vlan_pcp;
    dl_type = dl_type;
    nw_tos = nw_tos;
    nw_proto = nw_proto;
    nw_src = nw_src;
    nw_dst = nw_dst;
    tp_src = tp_src;
    tp_dst = tp_dst;
  })

-- no header is in both
abbrev pub Disjoint : Pattern → Pattern → Type 0
Disjoint a b = (h : Header) → IsHeader h → Has a h → Has b h → ⊥

-- the same as a test that computes: there is no meet
abbrev pub is_disjoint : Pattern → Pattern → Bool
is_disjoint a b = elim (meet_of a b) [ None ↦ true | Some r ↦ false ]
