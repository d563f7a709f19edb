-- A permitted list sends only where it may, and is sound.
use Rattle.std.proofs.Common.{◌≡◌, ℕ, ◌==◌, ◌&&◌, ◌||◌, ◌*◌, ◌/◌, ◌⊎◌, inl, inr, IsTrue, eqb-true, Bool, true, false, if◌then◌else◌, List, [], ◌∷◌, ◌++◌, Option, Some, None, Ok, refl, sym, ◌∙◌}
use Rattle.std.specs.List.{All}
use Rattle.std.proofs.lemmas.Bool.{and_parts, or_cases, true≢false}
use Rattle.std.proofs.lemmas.List.Concat.{flat_map-cons}
use Rattle.std.proofs.lemmas.List.Elements.{All-nil, All-cons, All-append, All-map, All-weaker}
use Rattle.of10_model.specs.Header.{Header}
use Rattle.of10_action.specs.declared.action.Action.{Action}
use Rattle.of10_action.specs.declared.action.Action.TheVariants.{Output, SetVlanVid, SetVlanPcp, StripVlan, SetDlSrc, SetDlDst, SetNwSrc, SetNwDst, SetNwTos, SetTpSrc, SetTpDst, Enqueue}
use Rattle.of10_action.specs.Actions.{IsAction}
use Rattle.match_meet.specs.Rewriting.{is_ipv4, is_tcp_or_udp, rewritten}
use Rattle.of10_port.specs.declared.protocol.TheConstants.{IN_PORT, TABLE, FLOOD, ALL, CONTROLLER}
use Rattle.flowspace.specs.declared.slices.Slice.{Slice}
use Rattle.flowspace.specs.declared.rules.Rule.{Rule}
use Rattle.flowspace.specs.Policies.{IsSwitchPolicy}
use Rattle.flowspace.specs.Owners.{HasPort, has_port}
use Rattle.flowspace.proofs.Along.{option_or-None}
use Rattle.flowspace.proofs.Owning.{has_port-iff}
use Rattle.action_check.specs.declared.fault.TheConstants.{BAD_OUT_PORT}
use Rattle.action_check.specs.declared.origin.Origin.{Origin}
use Rattle.action_check.specs.declared.origin.Origin.TheVariants.{Piece, Packet, Probe}
use Rattle.action_check.specs.Origins.{is_packet_out, image_after}
use Rattle.action_check.specs.ActionRules.{has_way_back, is_own_way, is_other_way, sees_in_port, probe_code, code_of}
use Rattle.action_check.specs.Permitted.{first_code, outputs, ports_for, spread, expanded, permitted}
use Rattle.action_check.specs.Soundness.{IsOrigin, HasWayBack, IsOwnWay, HasWay, IsSound}
use Rattle.action_check.proofs.Answering.{said}
use Rattle.action_check.proofs.Allowing.{allowed}
use Rattle.action_check.proofs.Sizes.{All-ports_for}
use Rattle.action_check.proofs.Sending.{sees, IsFit, sent_behind, sent_list}

-- ---- one action

way_back : (rs : List Rule) (slot : ℕ) (image : Origin) → IsTrue (has_way_back rs slot image) → HasWayBack rs slot image
way_back rs slot (Piece m) t = tt
way_back rs slot (Packet h) t = (has_port-iff rs slot h.in_port).0 t
way_back rs slot (Probe in_port) t = (has_port-iff rs slot in_port).0 t

own_way : (rs : List Rule) (slot : ℕ) (image : Origin) (port : ℕ) → IsTrue (is_own_way rs slot image port) → IsOwnWay rs slot image port
own_way rs slot image port t =
    elim (or_cases (has_port rs slot port) (port == IN_PORT && has_way_back rs slot image) t) [
      | inl own ↦ inl ((has_port-iff rs slot port).0 own)
      | inr back ↦ let parts = and_parts (port == IN_PORT) (has_way_back rs slot image) back in inr (eqb-true port IN_PORT parts.0, way_back rs slot image parts.1)
    ]

at_either : (b : Bool) (h k : Header) → h.in_port ≡ k.in_port → (if b then h else k).in_port ≡ k.in_port
at_either true h k e = e
at_either false h k e = refl

-- CONTROLLER, FLOOD, ALL, or TABLE in a packet-out
data IsOther (image : Origin) (port : ℕ) : Type 0 where
  To_controller : port ≡ CONTROLLER → IsOther image port
  To_ports : (port ≡ FLOOD) ⊎ (port ≡ ALL) → IsOther image port
  To_table : port ≡ TABLE → IsTrue (is_packet_out image) → IsOther image port

other_way : (image : Origin) (port : ℕ) → IsTrue (is_other_way image port) → IsOther image port
other_way image port t =
    elim (or_cases (port == CONTROLLER || port == FLOOD || port == ALL) (port == TABLE && is_packet_out image) t) [
      | inl u ↦ elim (or_cases (port == CONTROLLER || port == FLOOD) (port == ALL) u) [
        | inl v ↦ elim (or_cases (port == CONTROLLER) (port == FLOOD) v) [
          | inl e ↦ To_controller (eqb-true port CONTROLLER e)
          | inr e ↦ To_ports (inl (eqb-true port FLOOD e))
        ]
        | inr e ↦ To_ports (inr (eqb-true port ALL e))
      ]
      | inr w ↦ let parts = and_parts (port == TABLE) (is_packet_out image) w in To_table (eqb-true port TABLE parts.0) parts.1
    ]

-- a probe that goes to CONTROLLER or TABLE has a code
seen : (b : Bool) (o : Option ℕ) → b ≡ true → (if b then o else None) ≡ None → o ≡ None
seen true o t e = e
seen false o t e = absurd (true≢false (sym t))

stays : (rs : List Rule) (slot : ℕ) (image : Origin) (port : ℕ) (max_len : ℕ) → IsOther image port → probe_code image (Output port max_len) ≡ None
    → HasWay rs slot image (Output port max_len) ⊎ ((port ≡ FLOOD) ⊎ (port ≡ ALL))
stays rs slot image port max_len (To_ports e) n = inr e
stays rs slot (Piece m) port max_len (To_controller e) n = inl (inr e)
stays rs slot (Packet h) port max_len (To_controller e) n = inl (inr (inl e))
stays rs slot (Probe in_port) port max_len (To_controller e) n = let clash = seen (sees_in_port port) (Some BAD_OUT_PORT) (sees port (inl e)) n in absurd (cc)
stays rs slot (Piece m) port max_len (To_table e t) n = absurd (true≢false (sym t))
stays rs slot (Packet h) port max_len (To_table e t) n = inl (inr (inr e))
stays rs slot (Probe in_port) port max_len (To_table e t) n = let clash = seen (sees_in_port port) (Some BAD_OUT_PORT) (sees port (inr e)) n in absurd (cc)

-- an output that is allowed goes by its own way, by one that stays in the list, or to FLOOD or ALL
allowed_output : (rs : List Rule) (slot : ℕ) (image : Origin) (port max_len : ℕ) → code_of rs slot image (Output port max_len) ≡ None
    → HasWay rs slot image (Output port max_len) ⊎ ((port ≡ FLOOD) ⊎ (port ≡ ALL))
allowed_output rs slot image port max_len e =
    let a = allowed rs slot image (Output port max_len) e in
    elim (or_cases (is_own_way rs slot image port) (is_other_way image port) a.way) [
      | inl own ↦ inl (inl (own_way rs slot image port own))
      | inr other ↦ stays rs slot image port max_len (other_way image port other) a.no_code
    ]

-- ---- one action, expanded

expanded_to : (port : ℕ) (flood all : List ℕ) → (port ≡ FLOOD) ⊎ (port ≡ ALL) → (ports : List ℕ) × (ports_for port flood all ≡ Some ports)
expanded_to port flood all (inl e) = (flood, rw e refl)
expanded_to port flood all (inr e) = (all, rw e refl)

way_outputs : (rs : List Rule) (slot : ℕ) (image : Origin) (max_len : ℕ) (ports : List ℕ) → All (HasPort rs slot) ports → All (HasWay rs slot image) (outputs max_len ports)
way_outputs rs slot image max_len ports own =
    All-map (HasWay rs slot image) (λ port. Output port max_len) ports
    (All-weaker (HasPort rs slot) (λ port. HasWay rs slot image (Output port max_len)) (λ port has. inl (inl has)) ports own)

way_output : (rs : List Rule) (slot : ℕ) (image : Origin) (port max_len : ℕ) (o : Option (List ℕ)) → ((ports : List ℕ) → o ≡ Some ports → All (HasPort rs slot) ports)
    → (o ≡ None → HasWay rs slot image (Output port max_len))
    → All (HasWay rs slot image) (elim o [ None ↦ Output port max_len ∷ [] | Some ports ↦ outputs max_len ports ])
way_output rs slot image port max_len None own way = All-cons (HasWay rs slot image) (Output port max_len) [] (way refl) (All-nil (HasWay rs slot image))
way_output rs slot image port max_len (Some ports) own way = way_outputs rs slot image max_len ports (own ports refl)

way_itself : (rs : List Rule) (slot : ℕ) (image : Origin) (port max_len : ℕ) (flood all : List ℕ) → HasWay rs slot image (Output port max_len) ⊎ ((port ≡ FLOOD) ⊎ (port ≡ ALL))
    → ports_for port flood all ≡ None → HasWay rs slot image (Output port max_len)
way_itself rs slot image port max_len flood all (inl way) e = way
way_itself rs slot image port max_len flood all (inr to) e =
    let some = expanded_to port flood all to in
    let clash : None ≡ Some some.0 = sym e ∙ some.1 in
    absurd (cc)

single : (rs : List Rule) (slot : ℕ) (image : Origin) (action : Action) → HasWay rs slot image action → All (HasWay rs slot image) (action ∷ [])
single rs slot image action way = All-cons (HasWay rs slot image) action [] way (All-nil (HasWay rs slot image))

way_spread : (rs : List Rule) (slot : ℕ) (image : Origin) (flood all : List ℕ) → All (HasPort rs slot) flood → All (HasPort rs slot) all → (action : Action) → code_of rs slot image action ≡ None
    → All (HasWay rs slot image) (spread flood all action)
way_spread rs slot image flood all on_flood on_all (Output port max_len) e =
    way_output rs slot image port max_len (ports_for port flood all) (λ ports f. All-ports_for (HasPort rs slot) port flood all ports on_flood on_all f)
    (λ f. way_itself rs slot image port max_len flood all (allowed_output rs slot image port max_len e) f)
way_spread rs slot image flood all on_flood on_all (SetVlanVid vlan) e = single rs slot image (SetVlanVid vlan) tt
way_spread rs slot image flood all on_flood on_all (SetVlanPcp priority) e = single rs slot image (SetVlanPcp priority) tt
way_spread rs slot image flood all on_flood on_all StripVlan e = single rs slot image StripVlan tt
way_spread rs slot image flood all on_flood on_all (SetDlSrc address) e = single rs slot image (SetDlSrc address) tt
way_spread rs slot image flood all on_flood on_all (SetDlDst address) e = single rs slot image (SetDlDst address) tt
way_spread rs slot image flood all on_flood on_all (SetNwSrc address) e = single rs slot image (SetNwSrc address) tt
way_spread rs slot image flood all on_flood on_all (SetNwDst address) e = single rs slot image (SetNwDst address) tt
way_spread rs slot image flood all on_flood on_all (SetNwTos service) e = single rs slot image (SetNwTos service) tt
way_spread rs slot image flood all on_flood on_all (SetTpSrc port) e = single rs slot image (SetTpSrc port) tt
way_spread rs slot image flood all on_flood on_all (SetTpDst port) e = single rs slot image (SetTpDst port) tt
way_spread rs slot image flood all on_flood on_all (Enqueue port queue) e =
    single rs slot image (Enqueue port queue) (own_way rs slot image port (allowed rs slot image (Enqueue port queue) e).way)

-- ---- whole lists

-- actions change no in_port
same_entry : (h : Header) (action : Action) → (rewritten h action).in_port ≡ h.in_port
same_entry h (Output port max_len) = refl
same_entry h (SetVlanVid vlan) = refl
same_entry h (SetVlanPcp priority) = refl
same_entry h StripVlan = refl
same_entry h (SetDlSrc address) = refl
same_entry h (SetDlDst address) = refl
same_entry h (SetNwSrc address) = at_either (is_ipv4 h) (record h { nw_src = address }) h refl
same_entry h (SetNwDst address) = at_either (is_ipv4 h) (record h { nw_dst = address }) h refl
same_entry h (SetNwTos service) = at_either (is_ipv4 h) (record h { nw_tos = service / 4 * 4 }) h refl
same_entry h (SetTpSrc port) = at_either (is_tcp_or_udp h) (record h { tp_src = port }) h refl
same_entry h (SetTpDst port) = at_either (is_tcp_or_udp h) (record h { tp_dst = port }) h refl
same_entry h (Enqueue port queue) = refl

way_before : (rs : List Rule) (slot : ℕ) (image : Origin) (action other : Action) → HasWay rs slot (image_after image action) other → HasWay rs slot image other
way_before rs slot (Piece m) action (Output port max_len) way = way
way_before rs slot (Packet h) action (Output port max_len) (inl (inl own)) = inl (inl own)
way_before rs slot (Packet h) action (Output port max_len) (inl (inr back)) = inl (inr (back.0, rw (same_entry h action) at back.1))
way_before rs slot (Packet h) action (Output port max_len) (inr other) = inr other
way_before rs slot (Probe in_port) action (Output port max_len) way = way
way_before rs slot (Piece m) action (Enqueue port queue) way = way
way_before rs slot (Packet h) action (Enqueue port queue) (inl own) = inl own
way_before rs slot (Packet h) action (Enqueue port queue) (inr back) = inr (back.0, rw (same_entry h action) at back.1)
way_before rs slot (Probe in_port) action (Enqueue port queue) way = way
way_before rs slot image action (SetVlanVid vlan) way = tt
way_before rs slot image action (SetVlanPcp priority) way = tt
way_before rs slot image action StripVlan way = tt
way_before rs slot image action (SetDlSrc address) way = tt
way_before rs slot image action (SetDlDst address) way = tt
way_before rs slot image action (SetNwSrc address) way = tt
way_before rs slot image action (SetNwDst address) way = tt
way_before rs slot image action (SetNwTos service) way = tt
way_before rs slot image action (SetTpSrc port) way = tt
way_before rs slot image action (SetTpDst port) way = tt

pub ways : (rs : List Rule) (slot : ℕ) (flood all : List ℕ) → All (HasPort rs slot) flood → All (HasPort rs slot) all → (image : Origin) (actions : List Action) → first_code rs slot image actions ≡ None
    → All (HasWay rs slot image) (expanded flood all actions)
ways rs slot flood all on_flood on_all image [] e = All-nil (HasWay rs slot image)
ways rs slot flood all on_flood on_all image (action ∷ others) e =
    let none = option_or-None (code_of rs slot image action) (first_code rs slot (image_after image action) others) e in
    let rest = All-weaker (HasWay rs slot (image_after image action)) (HasWay rs slot image) (way_before rs slot image action) (expanded flood all others) (ways rs slot flood all on_flood on_all (image_after image action) others none.1) in
    rw (flat_map-cons (spread flood all) action others)
    (All-append (HasWay rs slot image) (spread flood all action) (expanded flood all others) (way_spread rs slot image flood all on_flood on_all action none.0) rest)

-- ---- the law

fit : (origin : Origin) → IsOrigin origin → IsFit origin
fit (Piece m) normal = normal.1
fit (Packet h) range = tt
fit (Probe in_port) range = tt

pub record IsPermitted (rs : List Rule) (slot : ℕ) (origin : Origin) (actions given : List Action) (flood all : List ℕ) : Type 0 where
  pub no_code : first_code rs slot origin actions ≡ None
  pub is_expanded : given ≡ expanded flood all actions

by_code : (o : Option ℕ) (list given : List Action) → said list o ≡ Ok given → (o ≡ None) × (given ≡ list)
by_code None list given e = (refl, cc)
by_code (Some code) list given e = absurd (cc)

pub permitted-Ok : (rs : List Rule) (slot : ℕ) (origin : Origin) (actions : List Action) (flood all : List ℕ) (given : List Action) → permitted rs slot origin actions flood all ≡ Ok given → IsPermitted rs slot origin actions given flood all
permitted-Ok rs slot origin actions flood all given e =
    let parts = by_code (first_code rs slot origin actions) (expanded flood all actions) given e in
    record { no_code = parts.0; is_expanded = parts.1 }

pub permitted-IsSound : (ss : List Slice) (rs : List Rule) → IsSwitchPolicy ss rs → (slot : ℕ) (origin : Origin) → IsOrigin origin → (actions : List Action) → All IsAction actions → (flood all : List ℕ)
    → All (HasPort rs slot) flood → All (HasPort rs slot) all → (given : List Action) → permitted rs slot origin actions flood all ≡ Ok given → IsSound rs slot origin given
permitted-IsSound ss rs policy slot origin normal actions each flood all on_flood on_all given e =
    let p = permitted-Ok rs slot origin actions flood all given e in
    record {
      ways = rw p.is_expanded (ways rs slot flood all on_flood on_all origin actions p.no_code);
      headers = λ h range from before later action port splits sends.
          let sent = sent_list ss rs policy slot flood all on_flood on_all origin h actions p.no_code (fit origin normal) each range from in
          let same : expanded flood all actions ≡ before ++ (action ∷ later) = sym p.is_expanded ∙ splits in
          sent_behind rs slot h before later action port (rw same at sent) sends;
    }
