-- A header that is rewritten stays in range.
use Rattle.std.proofs.Common.{ℕ, ◌*◌, ◌/◌, ◌%◌, ◌^◌, ◌<◌, Bool, true, false, if◌then◌else◌, arith, rules}
use Rattle.of10_model.specs.Header.{Header, IsHeader}
use Rattle.of10_action.specs.declared.action.Action.{Action}
use Rattle.of10_action.specs.declared.action.Action.TheVariants.{Output, SetVlanVid, SetVlanPcp, StripVlan, SetDlSrc, SetDlDst, SetNwSrc, SetNwDst, SetNwTos, SetTpSrc, SetTpDst, Enqueue}
use Rattle.of10_action.specs.Actions.{IsAction}
use Rattle.match_meet.specs.Rewriting.{is_untagged, is_ipv4, is_tcp_or_udp, rewritten}

-- where either of two headers is taken, it is in range if both are
one_of : (t : Bool) (h k : Header) → IsHeader h → IsHeader k → IsHeader (if t then k else h)
one_of true h k r s = s
one_of false h k r s = r

zero_or : (t : Bool) (limit x : ℕ) → 0 < limit → x < limit → (if t then 0 else x) < limit
zero_or true limit x h k = h
zero_or false limit x h k = k

pub IsHeader-rewritten : (h : Header) (action : Action) → IsAction action → IsHeader h → IsHeader (rewritten h action)
IsHeader-rewritten h (Output port max_len) a r = r
IsHeader-rewritten h (SetVlanVid vlan) a r =
    let priority = zero_or (is_untagged h) 8 h.dl_vlan_pcp (omega arith) r.dl_vlan_pcp in
    let vlan-lt : vlan % 4096 < 2 ^ 16 = omega arith in
    search rules
IsHeader-rewritten h (SetVlanPcp priority) a r =
    let vlan = zero_or (is_untagged h) (2 ^ 16) h.dl_vlan (omega arith) r.dl_vlan in
    let priority-lt : priority % 8 < 8 = omega arith in
    search rules
IsHeader-rewritten h StripVlan a r = search rules
IsHeader-rewritten h (SetDlSrc address) a r = search rules
IsHeader-rewritten h (SetDlDst address) a r = search rules
IsHeader-rewritten h (SetNwSrc address) a r = one_of (is_ipv4 h) h (record h { nw_src = address }) r (search rules)
IsHeader-rewritten h (SetNwDst address) a r = one_of (is_ipv4 h) h (record h { nw_dst = address }) r (search rules)
IsHeader-rewritten h (SetNwTos service) a r = one_of (is_ipv4 h) h (record h { nw_tos = service / 4 * 4 }) r (search rules)
IsHeader-rewritten h (SetTpSrc port) a r = one_of (is_tcp_or_udp h) h (record h { tp_src = port }) r (search rules)
IsHeader-rewritten h (SetTpDst port) a r = one_of (is_tcp_or_udp h) h (record h { tp_dst = port }) r (search rules)
IsHeader-rewritten h (Enqueue port queue) a r = r
