-- Matches that take any in_port.
use Rattle.std.proofs.Common.{◌≡◌, ℕ, eq-eqb, Option, Some, None, refl}
use Rattle.of10_model.specs.declared.pattern.Pattern.{Pattern}
use Rattle.of10_model.specs.Header.{Header}
use Rattle.of10_model.specs.Pattern.{Meets, Has, has}
use Rattle.of10_model.specs.Inclusion.{any_in_port}

-- at the in_port that the match names it is the same test
pub has-aside : (m : Pattern) (h : Header) (in_port : ℕ) → m.in_port ≡ Some in_port → has m (record h { in_port = in_port }) ≡ has (any_in_port m) h
unfolding has
has-aside m h in_port e = rw (e, eq-eqb in_port in_port refl) refl

-- ---- the in_port at which a match has a header that it has but for that

abbrev pub entry_for : Option ℕ → ℕ → ℕ
entry_for None x = x
entry_for (Some v) x = v

meets_entry : (c : Option ℕ) (x : ℕ) → Meets c (entry_for c x)
meets_entry None x = tt
meets_entry (Some v) x = refl

pub Has-entry : (m : Pattern) (h : Header) → Has (any_in_port m) h → Has m (record h { in_port = entry_for m.in_port h.in_port })
Has-entry m h has = record {
  in_port = meets_entry m.in_port h.in_port;
  dl_src = has.dl_src;
  dl_dst = has.dl_dst;
  dl_vlan = has.dl_vlan;
  dl_vlan_pcp = has.dl_vlan_pcp;
  dl_type = has.dl_type;
  nw_tos = has.nw_tos;
  nw_proto = has.nw_proto;
  nw_src = has.nw_src;
  nw_dst = has.nw_dst;
  tp_src = has.tp_src;
  tp_dst = has.tp_dst;
}
