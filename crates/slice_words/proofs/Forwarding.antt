-- What is sent on for flow-mods and packet-outs, as bytes: the one of a flow-mod's messages that carries a packet has the switch's number of it, and none is too large.
use Rattle.std.proofs.Common.{◌≡◌, ℕ, ◌+◌, ◌==◌, ◌||◌, nat_lt, Bool, true, false, true≢false, if◌then◌else◌, List, [], ◌∷◌, map, length, sum_by, refl, sym, ap, ap₂, ◌∙◌, Option, Some, None, option_map, is_some}
use Rattle.std.specs.List.{list_any}
use Rattle.std.proofs.lemmas.Bool.{or_parts}
use Rattle.std.proofs.lemmas.List.Sums.{sum_by-cons}
use Rattle.of10_model.specs.declared.pattern.Pattern.{Pattern}
use Rattle.of10_action.specs.declared.action.Action.{Action}
use Rattle.of10_action.specs.Reading.{list_given}
use Rattle.of10_flow.specs.declared.flow_mod.FlowMod.{FlowMod}
use Rattle.of10_flow.specs.declared.packet_out.PacketOut.{PacketOut}
use Rattle.of10_flow.specs.declared.protocol.TheConstants.{NO_BUFFER}
use Rattle.of10_flow.specs.FlowMods.{spell_flow_mod}
use Rattle.of10_flow.specs.Tables.{is_delete}
use Rattle.flowspace.proofs.Along.{option_or-None}
use Rattle.flowmod_expand.specs.Messages.{buffer_at, piece_message, piece_messages, are_too_large}
use Rattle.flowmod_expand.proofs.Walks.{spell_size}
use Rattle.slice_words.specs.Pasts.{Modifies}
use Rattle.slice_words.specs.Buffers.{HeldPacket}
use Rattle.flowspace.specs.Options.{first_some, when}
use Rattle.slice_words.specs.FlowMods.{Ground, pieces_on, packet_at, named_packet, naming, carrier_of, sent_on, wrong_command, emergency, buffer_not_held, outside_flowspace, forbidden_action, is_too_long, lists_on, flow_mods_on, too_large, too_many_actions, overlapping, over_quota, flow_mod_fault}
use Rattle.slice_words.specs.PacketOuts.{names_no_packet, comes_by_another, carries_another, forbidden_out, out_too_large, packet_out_on, packet_out_size, permitted_out, packet_out_fault}
use Rattle.slice_words.specs.Alone.{number_it_came_with, rendered}

-- ---- the switch's number of the packet

-- the place that carries a packet, with the switch's number of it
abbrev pub numbered : List ℕ → Option (ℕ × ℕ) → Option (ℕ × ℕ)
numbered came carrier = option_map (λ own. (own.0, number_it_came_with came own.1)) carrier

-- the flow-mods that are sent, with the switch's number where one carries a packet
abbrev pub flow_mods_numbered : List ℕ → Ground → FlowMod → List FlowMod
flow_mods_numbered came g m = piece_messages 0 m g.xid (pieces_on g m) (lists_on g m) (numbered came (carrier_of (named_packet g m) (pieces_on g m)))

-- one message of a flow-mod that may carry a packet
rendered_one : (came : List ℕ) (own : ℕ × ℕ) (place : ℕ) (m : FlowMod) (xid : ℕ) (piece : Pattern) (actions : List Action) (here : Bool) → (own.0 == place) ≡ here → is_delete m ≡ false
    → rendered came (Modifies (piece_message m xid piece actions NO_BUFFER) (if own.0 == place then Some own.1 else None)) ≡ spell_flow_mod (piece_message m xid piece actions (if own.0 == place then number_it_came_with came own.1 else NO_BUFFER))
unfolding piece_message
rendered_one came own place m xid piece actions true is keeps = rw (is, keeps) refl
rendered_one came own place m xid piece actions false is keeps = rw is refl

rendered_from : (came : List ℕ) (own : ℕ × ℕ) (place : ℕ) (m : FlowMod) (xid : ℕ) (pieces : List Pattern) (lists : List (List Action)) → is_delete m ≡ false
    → map (rendered came) (naming (Some own) place (piece_messages place m xid pieces lists None)) ≡ map spell_flow_mod (piece_messages place m xid pieces lists (Some (own.0, number_it_came_with came own.1)))
rendered_from came own place m xid [] lists keeps = refl
rendered_from came own place m xid (piece ∷ pieces) [] keeps = refl
rendered_from came own place m xid (piece ∷ pieces) (actions ∷ lists) keeps =
    ap₂ (λ (first : List ℕ) (others : List (List ℕ)). first ∷ others)
    (rendered_one came own place m xid piece actions (own.0 == place) refl keeps)
    (rendered_from came own (place + 1) m xid pieces lists keeps)

rendered_plain : (came : List ℕ) (place : ℕ) (ms : List FlowMod) → map (rendered came) (naming None place ms) ≡ map spell_flow_mod ms
rendered_plain came place [] = refl
rendered_plain came place (m ∷ ms) = ap (λ (others : List (List ℕ)). spell_flow_mod m ∷ others) (rendered_plain came (place + 1) ms)

rendered_by : (came : List ℕ) (m : FlowMod) (xid : ℕ) (pieces : List Pattern) (lists : List (List Action)) (carrier : Option (ℕ × ℕ)) → (is_some carrier ≡ true → is_delete m ≡ false)
    → map (rendered came) (naming carrier 0 (piece_messages 0 m xid pieces lists None)) ≡ map spell_flow_mod (piece_messages 0 m xid pieces lists (numbered came carrier))
rendered_by came m xid pieces lists None keeps = rendered_plain came 0 (piece_messages 0 m xid pieces lists None)
rendered_by came m xid pieces lists (Some own) keeps = rendered_from came own 0 m xid pieces lists (keeps refl)

-- a delete carries none
kept_by : (deletes : Bool) (packet : Option HeldPacket) (pieces : List Pattern) → is_some (carrier_of (if deletes then None else packet) pieces) ≡ true → deletes ≡ false
kept_by true packet pieces some = absurd (true≢false (sym some))
kept_by false packet pieces some = refl

pub rendered_sent : (came : List ℕ) (g : Ground) (m : FlowMod) → map (rendered came) (sent_on g m) ≡ map spell_flow_mod (flow_mods_numbered came g m)
rendered_sent came g m =
    rendered_by came m g.xid (pieces_on g m) (lists_on g m) (carrier_of (named_packet g m) (pieces_on g m))
    (kept_by (is_delete m) (packet_at g m.buffer) (pieces_on g m))

-- ---- sizes

same_size : (m : FlowMod) (xid : ℕ) (piece : Pattern) (actions : List Action) (a b : ℕ) → length (spell_flow_mod (piece_message m xid piece actions a)) ≡ length (spell_flow_mod (piece_message m xid piece actions b))
unfolding piece_message
same_size m xid piece actions a b =
    spell_size (piece_message m xid piece actions a) ∙ sym (spell_size (piece_message m xid piece actions b))

-- the number of a packet changes no size
same_sizes : (place : ℕ) (m : FlowMod) (xid : ℕ) (pieces : List Pattern) (lists : List (List Action)) (a b : Option (ℕ × ℕ))
    → map length (map spell_flow_mod (piece_messages place m xid pieces lists a)) ≡ map length (map spell_flow_mod (piece_messages place m xid pieces lists b))
same_sizes place m xid [] lists a b = refl
same_sizes place m xid (piece ∷ pieces) [] a b = refl
same_sizes place m xid (piece ∷ pieces) (actions ∷ lists) a b =
    ap₂ (λ (n : ℕ) (others : List ℕ). n ∷ others) (same_size m xid piece actions (buffer_at a place) (buffer_at b place)) (same_sizes (place + 1) m xid pieces lists a b)

sum_of_lengths : (messages : List (List ℕ)) → sum_by length messages ≡ sum_by (λ n. n) (map length messages)
sum_of_lengths [] = refl
sum_of_lengths (message ∷ messages) =
    sum_by-cons length message messages
    ∙ ap (λ n. length message + n) (sum_of_lengths messages)
    ∙ sym (sum_by-cons (λ n. n) (length message) (map length messages))

any_of_lengths : (messages : List (List ℕ)) → list_any (λ bytes. nat_lt 65535 (length bytes)) messages ≡ list_any (λ n. nat_lt 65535 n) (map length messages)
any_of_lengths [] = refl
any_of_lengths (message ∷ messages) = ap (λ (b : Bool). nat_lt 65535 (length message) || b) (any_of_lengths messages)

large_by_lengths : (messages : List (List ℕ)) → are_too_large messages ≡ (nat_lt 262144 (sum_by (λ n. n) (map length messages)) || list_any (λ n. nat_lt 65535 n) (map length messages))
large_by_lengths messages = ap₂ (λ (n : ℕ) (b : Bool). nat_lt 262144 n || b) (sum_of_lengths messages) (any_of_lengths messages)

pub same_large : (m : FlowMod) (xid : ℕ) (pieces : List Pattern) (lists : List (List Action)) (a b : Option (ℕ × ℕ))
    → are_too_large (map spell_flow_mod (piece_messages 0 m xid pieces lists a)) ≡ are_too_large (map spell_flow_mod (piece_messages 0 m xid pieces lists b))
same_large m xid pieces lists a b =
    large_by_lengths (map spell_flow_mod (piece_messages 0 m xid pieces lists a))
    ∙ ap (λ (sizes : List ℕ). nat_lt 262144 (sum_by (λ n. n) sizes) || list_any (λ n. nat_lt 65535 n) sizes) (same_sizes 0 m xid pieces lists a b)
    ∙ sym (large_by_lengths (map spell_flow_mod (piece_messages 0 m xid pieces lists b)))

-- a line that doesn't refuse doesn't apply
pub not_applying : (applies : Bool) (fault : ℕ × ℕ) → when applies fault ≡ None → applies ≡ false
not_applying false fault none = refl
not_applying true fault none = absurd cc

-- the flow-mods that are sent on fit
pub not_large : (g : Ground) (m : FlowMod) → flow_mod_fault g m ≡ None → are_too_large (map spell_flow_mod (flow_mods_on g m)) ≡ false
unfolding flow_mod_fault
not_large g m none =
    let late = overlapping g m ∷ over_quota g m ∷ [] in
    let from_size = too_large g m ∷ late in
    let from_space = outside_flowspace g m ∷ forbidden_action g m ∷ from_size in
    let command = option_or-None (wrong_command m) (first_some (emergency m ∷ buffer_not_held g m ∷ from_space)) none in
    let flags = option_or-None (emergency m) (first_some (buffer_not_held g m ∷ from_space)) command.1 in
    let buffer = option_or-None (buffer_not_held g m) (first_some from_space) flags.1 in
    let space = option_or-None (outside_flowspace g m) (first_some (forbidden_action g m ∷ from_size)) buffer.1 in
    let actions = option_or-None (forbidden_action g m) (first_some from_size) space.1 in
    let sizes = option_or-None (too_large g m) (first_some late) actions.1 in
    (or_parts (list_any is_too_long (lists_on g m)) (are_too_large (map spell_flow_mod (flow_mods_on g m)))
    (not_applying _ too_many_actions sizes.0)).1

-- so do they with the switch's number in the place of none
pub not_large_numbered : (came : List ℕ) (g : Ground) (m : FlowMod) → flow_mod_fault g m ≡ None → are_too_large (map spell_flow_mod (flow_mods_numbered came g m)) ≡ false
not_large_numbered came g m none =
    same_large m g.xid (pieces_on g m) (lists_on g m) (numbered came (carrier_of (named_packet g m) (pieces_on g m))) None ∙ not_large g m none

-- a packet-out that is sent on fits, too
pub out_not_large : (g : Ground) (m : PacketOut) → packet_out_fault g m ≡ None → nat_lt 65535 (packet_out_size (packet_out_on g m)) ≡ false
unfolding packet_out_fault
out_not_large g m none =
    let from_action = forbidden_out g m ∷ out_too_large g m ∷ [] in
    let held = option_or-None (names_no_packet g m) (first_some (comes_by_another g m ∷ carries_another g m ∷ from_action)) none in
    let port = option_or-None (comes_by_another g m) (first_some (carries_another g m ∷ from_action)) held.1 in
    let space = option_or-None (carries_another g m) (first_some from_action) port.1 in
    let actions = option_or-None (forbidden_out g m) (first_some (out_too_large g m ∷ [])) space.1 in
    let size = option_or-None (out_too_large g m) (first_some []) actions.1 in
    (or_parts (is_too_long (list_given (permitted_out g m))) (nat_lt 65535 (packet_out_size (packet_out_on g m)))
    (not_applying _ too_many_actions size.0)).1
