-- What flow-mods and packet-outs are answered by is what the rules, the ports and the state say.
use Rattle.std.proofs.Common.{◌≡◌, ℕ, ◌==◌, ◌||◌, nat_lt, option_map, Bool, true, false, true≢false, if◌then◌else◌, List, [], ◌∷◌, ◌++◌, refl, sym, ap, ap₂, ◌∙◌, subst, Option, Some, None, Result, Ok, Err}
use Rattle.std.specs.List.{All, list_any}
use Rattle.std.proofs.lemmas.Bool.{or_left, or_right}
use Rattle.std.proofs.lemmas.List.Concat.{flat_map-cons}
use Rattle.std.proofs.lemmas.List.Elements.{All-nil}
use Rattle.of10_action.specs.declared.action.Action.{Action}
use Rattle.of10_action.specs.declared.action.Action.TheVariants.{Output}
use Rattle.of10_action.specs.Reading.{list_given}
use Rattle.of10_flow.specs.declared.flow_mod.FlowMod.{FlowMod}
use Rattle.of10_flow.specs.declared.packet_out.PacketOut.{PacketOut}
use Rattle.of10_port.specs.declared.features.Features.{Features}
use Rattle.of10_port.specs.declared.protocol.TheConstants.{FLOOD, ALL}
use Rattle.action_check.specs.declared.origin.Origin.{Origin}
use Rattle.action_check.specs.Permitted.{first_code, outputs, spread, expanded, permitted}
use Rattle.flowspace.specs.declared.rules.Rule.{Rule}
use Rattle.flowspace.specs.Owners.{HasPort}
use Rattle.flowspace.specs.Policies.{SwitchView}
use Rattle.flowmod_expand.specs.Pieces.{writes_of}
use Rattle.port_view.specs.SlicePorts.{ports_of_slice, flooded}
use Rattle.port_view.proofs.Flooding.{flooded_own}
use Rattle.flow_book.specs.declared.booked.Booked.{Booked}
use Rattle.flow_book.specs.declared.state.SliceState.{SliceState}
use Rattle.flow_book.specs.Books.{HaveSame}
use Rattle.flow_book.proofs.Counts.{fits_same, overlaps_same}
use Rattle.xid_map.specs.Requests.{issued, physical_of}
use Rattle.slice_words.specs.Items.{Settings, Sight, lone_rules}
use Rattle.flowspace.specs.Options.{first_some, when}
use Rattle.slice_words.specs.FlowMods.{Ground, ground_of, pieces_on, packet_at, too_many_actions, is_too_long, flow_mod_fault}
use Rattle.slice_words.specs.Pasts.{SendsOut}
use Rattle.slice_words.specs.Buffers.{HeldPacket}
use Rattle.slice_words.specs.PacketOuts.{permitted_out, sent_out_with, sent_out, names_no_packet, comes_by_another, carries_another, forbidden_out, packet_out_size, packet_out_fault}
use Rattle.slice_words.specs.Calls.{request_calls}
use Rattle.slice_words.specs.Standing.{SliceStands, past_of}
use Rattle.slice_words.proofs.LoneRules.{same_permitted}
use Rattle.slice_side.specs.Reactions.{Sees, ground_at}
use Rattle.slice_side.specs.Checking.{is_sent_to, ports_named}
use Rattle.slice_side.proofs.Packets.{kept_held}

-- two books with the same pairs, in any order, refuse the same
pub fault_booked : (g : Ground) (booked : List Booked) (m : FlowMod) → HaveSame g.booked booked → flow_mod_fault (record g { booked = booked }) m ≡ flow_mod_fault g m
unfolding flow_mod_fault
fault_booked g booked m same = rw (overlaps_same g.booked booked same (pieces_on g m) m.priority, fits_same g.booked booked same m.command (pieces_on g m) m.priority g.quota) refl

pub ground_same : (s : Settings) (sight : Sight) (state : SliceState) (policy : SwitchView) (known : List (List ℕ)) (features : Features) (slot quota xid : ℕ)
    → SliceStands s sight state → Sees s sight.view policy known features slot → quota ≡ s.quota → xid ≡ physical_of s.slot (issued (request_calls s (past_of s sight.view)))
    → ground_at policy.rules slot known quota xid state ≡ record (ground_of s sight.view (past_of s sight.view)) { booked = state.book.booked }
ground_same s sight state policy known features slot quota xid stands sees quotas xids =
    λ i. record {
      slot = sym sees.same_slot i;
      patterns = sym sees.same_patterns i;
      ports = sym sees.same_ports i;
      held = kept_held s sight state stands i;
      booked = state.book.booked;
      quota = quotas i;
      xid = xids i;
    }

pub fault_same : (s : Settings) (sight : Sight) (state : SliceState) (policy : SwitchView) (known : List (List ℕ)) (features : Features) (slot quota xid : ℕ) (m : FlowMod)
    → SliceStands s sight state → Sees s sight.view policy known features slot → quota ≡ s.quota → xid ≡ physical_of s.slot (issued (request_calls s (past_of s sight.view)))
    → flow_mod_fault (ground_at policy.rules slot known quota xid state) m ≡ flow_mod_fault (ground_of s sight.view (past_of s sight.view)) m
fault_same s sight state policy known features slot quota xid m stands sees quotas xids =
    ap (λ (g : Ground). flow_mod_fault g m) (ground_same s sight state policy known features slot quota xid stands sees quotas xids)
    ∙ fault_booked (ground_of s sight.view (past_of s sight.view)) state.book.booked m stands.book.same

out_same : (g : Ground) (booked : List Booked) (m : PacketOut) (packet : Option HeldPacket) (actions : List Action) → sent_out_with packet (record g { booked = booked }) m actions ≡ sent_out_with packet g m actions
out_same g booked m None actions = refl
out_same g booked m (Some packet) actions = refl

-- a packet-out takes no account of the book
out_booked : (g : Ground) (booked : List Booked) (m : PacketOut) → packet_out_fault (record g { booked = booked }) m ≡ packet_out_fault g m
unfolding packet_out_fault
out_booked g booked m =
    ap (λ (out : PacketOut). first_some (names_no_packet g m ∷ comes_by_another g m ∷ carries_another g m ∷ forbidden_out g m ∷ when (is_too_long (list_given (permitted_out g m)) || nat_lt 65535 (packet_out_size out)) too_many_actions ∷ []))
    (out_same g booked m (packet_at g m.buffer) (list_given (permitted_out g m)))

pub sent_out_booked : (m : PacketOut) (g : Ground) (booked : List Booked) → sent_out (record g { booked = booked }) m ≡ sent_out g m
sent_out_booked m g booked =
    ap (λ (out : PacketOut). SendsOut out (option_map (λ (packet : HeldPacket). packet.ordinal) (packet_at g m.buffer)) ∷ []) (out_same g booked m (packet_at g m.buffer) (list_given (permitted_out g m)))

pub out_fault_same : (s : Settings) (sight : Sight) (state : SliceState) (policy : SwitchView) (known : List (List ℕ)) (features : Features) (slot quota xid : ℕ) (m : PacketOut)
    → SliceStands s sight state → Sees s sight.view policy known features slot → quota ≡ s.quota → xid ≡ physical_of s.slot (issued (request_calls s (past_of s sight.view)))
    → packet_out_fault (ground_at policy.rules slot known quota xid state) m ≡ packet_out_fault (ground_of s sight.view (past_of s sight.view)) m
out_fault_same s sight state policy known features slot quota xid m stands sees quotas xids =
    ap (λ (g : Ground). packet_out_fault g m) (ground_same s sight state policy known features slot quota xid stands sees quotas xids)
    ∙ out_booked (ground_of s sight.view (past_of s sight.view)) state.book.booked m

-- ---- actions

ports_same : (to_flood to_all : Bool) (flood all f a : List ℕ) → (to_flood ≡ true → f ≡ flood) → (to_all ≡ true → a ≡ all)
    → (if to_flood then Some f else (if to_all then Some a else None)) ≡ (if to_flood then Some flood else (if to_all then Some all else None))
ports_same true to_all flood all f a floods alls = ap Some (floods refl)
ports_same false true flood all f a floods alls = ap Some (alls refl)
ports_same false false flood all f a floods alls = refl

-- an action that sends to a port for which others stand names it
spread_same : (flood all f a : List ℕ) (action : Action) → (is_sent_to FLOOD action ≡ true → f ≡ flood) → (is_sent_to ALL action ≡ true → a ≡ all) → spread f a action ≡ spread flood all action
spread_same flood all f a (Output port max_len) floods alls =
    ap (λ (ports : Option (List ℕ)). elim ports as (λ x. List Action) [ None ↦ Output port max_len ∷ [] | Some found ↦ outputs max_len found ]) (ports_same (port == FLOOD) (port == ALL) flood all f a floods alls)
spread_same flood all f a _ floods alls = refl

expanded_named : (flood all f a : List ℕ) (actions : List Action) → (list_any (is_sent_to FLOOD) actions ≡ true → f ≡ flood) → (list_any (is_sent_to ALL) actions ≡ true → a ≡ all) → expanded f a actions ≡ expanded flood all actions
expanded_named flood all f a [] floods alls = refl
expanded_named flood all f a (action ∷ others) floods alls =
    flat_map-cons (spread f a) action others
    ∙ ap₂ (λ (first rest : List Action). first ++ rest)
    (spread_same flood all f a action (λ e. floods (or_left (is_sent_to FLOOD action) (list_any (is_sent_to FLOOD) others) e)) (λ e. alls (or_left (is_sent_to ALL action) (list_any (is_sent_to ALL) others) e)))
    (expanded_named flood all f a others (λ e. floods (or_right (is_sent_to FLOOD action) (list_any (is_sent_to FLOOD) others) e)) (λ e. alls (or_right (is_sent_to ALL action) (list_any (is_sent_to ALL) others) e)))
    ∙ sym (flat_map-cons (spread flood all) action others)

where_named : (named : Bool) (ports : List ℕ) → named ≡ true → (if named then ports else []) ≡ ports
where_named true ports is = refl
where_named false ports is = absurd (true≢false (sym is))

-- a list that names no port for which others stand needs none of them
permitted_named : (rules : List Rule) (slot : ℕ) (origin : Origin) (actions : List Action) (flood all : List ℕ)
    → permitted rules slot origin actions (ports_named FLOOD actions flood) (ports_named ALL actions all) ≡ permitted rules slot origin actions flood all
permitted_named rules slot origin actions flood all =
    ap (λ (list : List Action). elim (first_code rules slot origin actions) as (λ x. Result (List Action) ℕ) [ None ↦ Ok list | Some code ↦ Err code ])
    (expanded_named flood all (ports_named FLOOD actions flood) (ports_named ALL actions all) actions (where_named (list_any (is_sent_to FLOOD) actions) flood) (where_named (list_any (is_sent_to ALL) actions) all))

-- what the policy permits a slice is what its own rules permit it
pub permitted_same : (rules : List Rule) (slot : ℕ) (known : List (List ℕ)) (origin : Origin) (actions : List Action) (flood all : List ℕ)
    → flood ≡ ports_named FLOOD actions (flooded false (ports_of_slice rules slot known)) → all ≡ ports_named ALL actions (flooded true (ports_of_slice rules slot known))
    → permitted rules slot origin actions flood all ≡ permitted (lone_rules slot (writes_of rules slot)) slot origin actions (flooded false (ports_of_slice rules slot known)) (flooded true (ports_of_slice rules slot known))
permitted_same rules slot known origin actions flood all floods alls =
    ap₂ (λ (f a : List ℕ). permitted rules slot origin actions f a) floods alls
    ∙ permitted_named rules slot origin actions (flooded false (ports_of_slice rules slot known)) (flooded true (ports_of_slice rules slot known))
    ∙ sym (same_permitted slot rules origin actions (flooded false (ports_of_slice rules slot known)) (flooded true (ports_of_slice rules slot known)))

named_own : (rules : List Rule) (slot : ℕ) (named : Bool) (ports : List ℕ) → All (HasPort rules slot) ports → All (HasPort rules slot) (if named then ports else [])
named_own rules slot true ports own = own
named_own rules slot false ports own = All-nil (HasPort rules slot)

pub ports_own : (rules : List Rule) (slot port : ℕ) (every : Bool) (known : List (List ℕ)) (actions : List Action) (ports : List ℕ) → ports ≡ ports_named port actions (flooded every (ports_of_slice rules slot known)) → All (HasPort rules slot) ports
ports_own rules slot port every known actions ports are =
    subst (All (HasPort rules slot)) (sym are) (named_own rules slot (list_any (is_sent_to port) actions) (flooded every (ports_of_slice rules slot known)) (flooded_own rules slot every known))

-- what takes no account of the book is the same
pub same_but_booked : {A : Type 0} (of : Ground → A) → ((g : Ground) (booked : List Booked) → of (record g { booked = booked }) ≡ of g)
    → (s : Settings) (sight : Sight) (state : SliceState) (policy : SwitchView) (known : List (List ℕ)) (features : Features) (slot quota xid : ℕ)
    → SliceStands s sight state → Sees s sight.view policy known features slot → quota ≡ s.quota → xid ≡ physical_of s.slot (issued (request_calls s (past_of s sight.view)))
    → of (ground_at policy.rules slot known quota xid state) ≡ of (ground_of s sight.view (past_of s sight.view))
same_but_booked of plain s sight state policy known features slot quota xid stands sees quotas xids =
    ap of (ground_same s sight state policy known features slot quota xid stands sees quotas xids) ∙ plain (ground_of s sight.view (past_of s sight.view)) state.book.booked
