-- Each packet that a permitted list sends is one that the slice writes.
use Rattle.std.proofs.Common.{◌≡◌, ℕ, ◌<◌, ◌^◌, ◌==◌, ◌&&◌, ◌⊎◌, inl, inr, IsTrue, eq-eqb, Bool, true, List, [], ◌∷◌, ◌++◌, length, get_or, Option, Some, None, IfSome, refl, sym, ap, ◌∙◌, arith}
use Rattle.std.specs.List.{All}
use Rattle.std.proofs.lemmas.Bool.{cases_Bool, and_parts, or_left, or_right, true≢false}
use Rattle.std.proofs.lemmas.List.Concat.{flat_map-cons}
use Rattle.std.proofs.lemmas.List.Elements.{All-head, All-tail}
use Rattle.std.proofs.lemmas.List.Folds.{Any-from_list_any}
use Rattle.of10_model.specs.Header.{Header, IsHeader}
use Rattle.of10_model.specs.Pattern.{Has, has}
use Rattle.of10_model.specs.Normal.{applied}
use Rattle.of10_model.specs.Inclusion.{includes_of, any_in_port}
use Rattle.of10_model.proofs.Membership.{Has-has}
use Rattle.of10_model.proofs.Including.{Has-includes}
use Rattle.of10_action.specs.declared.action.Action.{Action}
use Rattle.of10_action.specs.declared.action.Action.TheVariants.{Output, SetVlanVid, SetVlanPcp, StripVlan, SetDlSrc, SetDlDst, SetNwSrc, SetNwDst, SetNwTos, SetTpSrc, SetTpDst, Enqueue}
use Rattle.of10_action.specs.Actions.{IsAction}
use Rattle.match_meet.specs.Rewriting.{rewritten}
use Rattle.match_meet.proofs.CoverHas.{Has-cover_of}
use Rattle.match_meet.proofs.CoverNormal.{applied-cover_of}
use Rattle.match_meet.proofs.Ranges.{IsHeader-rewritten}
use Rattle.of10_port.specs.declared.protocol.TheConstants.{TABLE, CONTROLLER}
use Rattle.flowspace.specs.declared.slices.Slice.{Slice}
use Rattle.flowspace.specs.declared.rules.Rule.{Rule}
use Rattle.flowspace.specs.Rules.{IsInPort, IsPlainRule, is_written_by}
use Rattle.flowspace.specs.Policies.{IsSwitchPolicy}
use Rattle.flowspace.specs.Owners.{Writes, HasPort}
use Rattle.flowspace.proofs.Along.{option_or-None}
use Rattle.flowspace.proofs.Owning.{Writes-iff}
use Rattle.flowspace.proofs.Refusing.{is_value-Some}
use Rattle.action_check.specs.declared.origin.Origin.{Origin}
use Rattle.action_check.specs.declared.origin.Origin.TheVariants.{Piece, Packet, Probe}
use Rattle.action_check.specs.Origins.{image_after}
use Rattle.action_check.specs.ActionRules.{port_sent_to, sees_in_port, counted_at, may_go, code_of}
use Rattle.action_check.specs.Permitted.{first_code, outputs, ports_for, spread, expanded}
use Rattle.action_check.specs.Soundness.{IsFrom, Rewrite, MaySend}
use Rattle.action_check.proofs.Aside.{entry_for, Has-entry}
use Rattle.action_check.proofs.Allowing.{allowed}
use Rattle.action_check.proofs.Sizes.{All-ports_for}

-- ---- one image at one port

entry_range : (c : Option ℕ) (x : ℕ) → IfSome c IsInPort → x < 2 ^ 16 → entry_for c x < 2 ^ 16
entry_range None x known lt = lt
entry_range (Some v) x (inl le) lt = omega arith
entry_range (Some v) x (inr is) lt = omega arith

with_entry : (h : Header) (entry : ℕ) → IsHeader h → entry < 2 ^ 16 → IsHeader (record h { in_port = entry })
with_entry h entry r lt = record {
  in_port = lt;
  dl_src = r.dl_src;
  dl_dst = r.dl_dst;
  dl_vlan = r.dl_vlan;
  dl_vlan_pcp = r.dl_vlan_pcp;
  dl_type = r.dl_type;
  nw_tos = r.nw_tos;
  tos_low = r.tos_low;
  nw_proto = r.nw_proto;
  nw_src = r.nw_src;
  nw_dst = r.nw_dst;
  tp_src = r.tp_src;
  tp_dst = r.tp_dst;
}

pub sees : (port : ℕ) → (port ≡ CONTROLLER) ⊎ (port ≡ TABLE) → sees_in_port port ≡ true
sees port (inl e) = or_left (port == CONTROLLER) (port == TABLE) (eq-eqb port CONTROLLER e)
sees port (inr e) = or_right (port == CONTROLLER) (port == TABLE) (eq-eqb port TABLE e)

-- a write rule that has the header, as it counts at the port
by_rule : (ss : List Slice) (rs : List Rule) → IsSwitchPolicy ss rs → (slot : ℕ) (h : Header) → IsHeader h → (port k : ℕ) (rule : Rule) → k < length rs → get_or rs k rule ≡ rule
    → is_written_by slot rule ≡ true → Has (counted_at port rule.pattern) h → MaySend rs slot port h
by_rule ss rs policy slot h range port k rule lt at written has_counted =
    let writer : rule.writer ≡ Some slot = is_value-Some slot rule.writer written in
    elim (cases_Bool (sees_in_port port)) [
      | inl e ↦
          let has_own : Has rule.pattern h = rw e at has_counted in
          let own : Writes rs slot h = (Writes-iff ss rs policy slot h range).1 (k, rule, lt, at, (writer, has_own)) in
          record { entry = h.in_port; in_range = range.in_port; from_some = own; from_own = λ s. own }
      | inr e ↦
          let has_other : Has (any_in_port rule.pattern) h = rw e at has_counted in
          let plain : IsPlainRule rule = rw at at (policy.proper.plain_rules k rule lt) in
          let entry = entry_for rule.pattern.in_port h.in_port in
          let lt_entry = entry_range rule.pattern.in_port h.in_port plain.in_port range.in_port in
          let moved : Header = record h { in_port = entry } in
          record {
            entry = entry;
            in_range = lt_entry;
            from_some = (Writes-iff ss rs policy slot moved (with_entry h entry range lt_entry)).1 (k, rule, lt, at, (writer, Has-entry rule.pattern h has_other));
            from_own = λ s. absurd (true≢false (sym (sees port s) ∙ e));
          }
    ]

-- covers are as they are of normal matches
abbrev pub IsFit : Origin → Type 0
IsFit (Piece m) = applied m ≡ m
IsFit (Packet h) = Unit {0}
IsFit (Probe in_port) = Unit {0}

may_send : (ss : List Slice) (rs : List Rule) → IsSwitchPolicy ss rs → (slot : ℕ) (image : Origin) (h : Header) → IsHeader h → IsFrom image h → (port : ℕ) → IsTrue (may_go rs slot image port) → MaySend rs slot port h
may_send ss rs policy slot (Piece cover) h range from port t =
    let some = Any-from_list_any (λ (rule : Rule). is_written_by slot rule && includes_of (counted_at port rule.pattern) cover) rs t in
    let parts = and_parts (is_written_by slot some.1) (includes_of (counted_at port some.1.pattern) cover) some.4 in
    by_rule ss rs policy slot h range port some.0 some.1 some.2 some.3 parts.0 (Has-includes (counted_at port some.1.pattern) cover parts.1 h from)
may_send ss rs policy slot (Packet own) h range from port t =
    let some = Any-from_list_any (λ (rule : Rule). is_written_by slot rule && has (counted_at port rule.pattern) own) rs t in
    let parts = and_parts (is_written_by slot some.1) (has (counted_at port some.1.pattern) own) some.4 in
    by_rule ss rs policy slot h range port some.0 some.1 some.2 some.3 parts.0 (rw from (Has-has (counted_at port some.1.pattern) own parts.1))
may_send ss rs policy slot (Probe in_port) h range from port t = absurd from

covered : (o : Option ℕ) (f : ℕ → Bool) (port : ℕ) → IsTrue (elim o [ None ↦ true | Some p ↦ f p ]) → o ≡ Some port → IsTrue (f port)
covered None f port t e = absurd (cc)
covered (Some p) f port t e = let same : p ≡ port = cc in rw same at t

at_action : (ss : List Slice) (rs : List Rule) → IsSwitchPolicy ss rs → (slot : ℕ) (image : Origin) (h : Header) → IsHeader h → IsFrom image h → (action : Action) → code_of rs slot image action ≡ None
    → (port : ℕ) → port_sent_to action ≡ Some port → MaySend rs slot port h
at_action ss rs policy slot image h range from action e port sends =
    may_send ss rs policy slot image h range from port (covered (port_sent_to action) (may_go rs slot image) port (allowed rs slot image action e).covered sends)

-- ---- the image of a list

fit_after : (image : Origin) (action : Action) → IsFit image → IsFit (image_after image action)
fit_after (Piece m) action e = applied-cover_of m action e
fit_after (Packet h) action e = tt
fit_after (Probe in_port) action e = tt

from_after : (image : Origin) (action : Action) (h : Header) → IsFit image → IsFrom image h → IsFrom (image_after image action) (rewritten h action)
from_after (Piece m) action h e from = Has-cover_of m h action e from
from_after (Packet own) action h e from = ap (λ x. rewritten x action) from
from_after (Probe in_port) action h e from = absurd from

-- at each OUTPUT and ENQUEUE of a list the header may be sent, as the actions before it rewrite it
abbrev pub AllSent : List Rule → ℕ → Header → List Action → Type 0
AllSent rs slot h [] = Unit {0}
AllSent rs slot h (action ∷ others) = ((port : ℕ) → port_sent_to action ≡ Some port → MaySend rs slot port h) × AllSent rs slot (rewritten h action) others

pub sent_behind : (rs : List Rule) (slot : ℕ) (h : Header) (before later : List Action) (action : Action) (port : ℕ) → AllSent rs slot h (before ++ (action ∷ later)) → port_sent_to action ≡ Some port → MaySend rs slot port (Rewrite h before)
sent_behind rs slot h [] later action port sent e = sent.0 port e
sent_behind rs slot h (first ∷ before) later action port sent e = sent_behind rs slot (rewritten h first) before later action port sent.1 e

no_port : (n : ℕ) → IsInPort n → (n ≡ CONTROLLER) ⊎ (n ≡ TABLE) → ⊥
no_port n (inl le) (inl e) = omega arith
no_port n (inl le) (inr e) = omega arith
no_port n (inr is) (inl e) = omega arith
no_port n (inr is) (inr e) = omega arith

-- a header that may be sent to one port may be sent to each port of the slice
elsewhere : (rs : List Rule) (slot port other : ℕ) (h : Header) → MaySend rs slot port h → HasPort rs slot other → MaySend rs slot other h
elsewhere rs slot port other h may own = record {
  entry = may.entry;
  in_range = may.in_range;
  from_some = may.from_some;
  from_own = λ s. absurd (no_port other own.0 s);
}

sent_outputs : (rs : List Rule) (slot port : ℕ) (h : Header) → MaySend rs slot port h → (max_len : ℕ) (ports : List ℕ) (others : List Action) → All (HasPort rs slot) ports → AllSent rs slot h others
    → AllSent rs slot h (outputs max_len ports ++ others)
sent_outputs rs slot port h may max_len [] others own sent = sent
sent_outputs rs slot port h may max_len (first ∷ ports) others own sent = (
  λ p e. let same : first ≡ p = cc in rw same at (elsewhere rs slot port first h may (All-head (HasPort rs slot) first ports own)),
  sent_outputs rs slot port h may max_len ports others (All-tail (HasPort rs slot) first ports own) sent,
)

sent_output : (rs : List Rule) (slot port max_len : ℕ) (h : Header) → MaySend rs slot port h → (o : Option (List ℕ)) → ((ports : List ℕ) → o ≡ Some ports → All (HasPort rs slot) ports) → (others : List Action) → AllSent rs slot h others
    → AllSent rs slot h (elim o [ None ↦ Output port max_len ∷ [] | Some ports ↦ outputs max_len ports ] ++ others)
sent_output rs slot port max_len h may None own others sent = (λ p e. let same : port ≡ p = cc in rw same at may, sent)
sent_output rs slot port max_len h may (Some ports) own others sent = sent_outputs rs slot port h may max_len ports others (own ports refl) sent

sent_spread : (rs : List Rule) (slot : ℕ) (h : Header) (flood all : List ℕ) → All (HasPort rs slot) flood → All (HasPort rs slot) all → (action : Action) → ((port : ℕ) → port_sent_to action ≡ Some port → MaySend rs slot port h)
    → (others : List Action) → AllSent rs slot (rewritten h action) others → AllSent rs slot h (spread flood all action ++ others)
sent_spread rs slot h flood all on_flood on_all (Output port max_len) may others sent =
    sent_output rs slot port max_len h (may port refl) (ports_for port flood all) (λ ports e. All-ports_for (HasPort rs slot) port flood all ports on_flood on_all e) others sent
sent_spread rs slot h flood all on_flood on_all (SetVlanVid vlan) may others sent = (may, sent)
sent_spread rs slot h flood all on_flood on_all (SetVlanPcp priority) may others sent = (may, sent)
sent_spread rs slot h flood all on_flood on_all StripVlan may others sent = (may, sent)
sent_spread rs slot h flood all on_flood on_all (SetDlSrc address) may others sent = (may, sent)
sent_spread rs slot h flood all on_flood on_all (SetDlDst address) may others sent = (may, sent)
sent_spread rs slot h flood all on_flood on_all (SetNwSrc address) may others sent = (may, sent)
sent_spread rs slot h flood all on_flood on_all (SetNwDst address) may others sent = (may, sent)
sent_spread rs slot h flood all on_flood on_all (SetNwTos service) may others sent = (may, sent)
sent_spread rs slot h flood all on_flood on_all (SetTpSrc port) may others sent = (may, sent)
sent_spread rs slot h flood all on_flood on_all (SetTpDst port) may others sent = (may, sent)
sent_spread rs slot h flood all on_flood on_all (Enqueue port queue) may others sent = (may, sent)

pub sent_list : (ss : List Slice) (rs : List Rule) → IsSwitchPolicy ss rs → (slot : ℕ) (flood all : List ℕ) → All (HasPort rs slot) flood → All (HasPort rs slot) all
    → (image : Origin) (h : Header) (actions : List Action) → first_code rs slot image actions ≡ None → IsFit image → All IsAction actions → IsHeader h → IsFrom image h
    → AllSent rs slot h (expanded flood all actions)
sent_list ss rs policy slot flood all on_flood on_all image h [] e fit each range from = tt
sent_list ss rs policy slot flood all on_flood on_all image h (action ∷ others) e fit each range from =
    let none = option_or-None (code_of rs slot image action) (first_code rs slot (image_after image action) others) e in
    let rest =
    sent_list ss rs policy slot flood all on_flood on_all (image_after image action) (rewritten h action) others none.1 (fit_after image action fit) (All-tail IsAction action others each)
    (IsHeader-rewritten h action (All-head IsAction action others each) range) (from_after image action h fit from) in
    rw (flat_map-cons (spread flood all) action others)
    (sent_spread rs slot h flood all on_flood on_all action (at_action ss rs policy slot image h range from action none.0) (expanded flood all others) rest)
