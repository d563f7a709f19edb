-- The examples, by computing what the definitions say.
use Rattle.std.specs.Prelude.{refl, Bool, true}
use Rattle.std.specs.Fmt.{digits}
use Rattle.hex.specs.Hex.{encode_with}
use Rattle.of10_model.specs.Pattern.{has}
use Rattle.of10_model.specs.Spelling.{Spell}
use Rattle.of10_ctl.specs.Streams.{frames_at, frames_of}
use Rattle.of10_port.specs.Features.{features_front, read_features, spell_features}
use Rattle.of10_port.specs.PortStatus.{read_port_status, spell_port_status}
use Rattle.of10_port.specs.Ports.{ports_in}
use Rattle.of10_flow.specs.FlowMods.{spell_flow_mod, flow_mod_with, read_flow_mod}
use Rattle.of10_flow.specs.PacketIns.{read_packet_in, spell_packet_in}
use Rattle.frame_header.specs.Headers.{header_of_packet}
use Rattle.frame_header.specs.Links.{link_of, tagged_link, typed}
use Rattle.frame_header.specs.Networks.{arp_of, ipv4_of, network_of, transport_at, transport_of}
use Rattle.frame_header.specs.Probes.{probe_slot_of, trailer_slot}
use Rattle.port_view.specs.KnownPorts.{changed, changed_plainly, first_known, kept_of, with_port, without_port}
use Rattle.of10_model.specs.Normal.{spelled, applied}
use Rattle.of10_model.specs.Inclusion.{includes_of}
use Rattle.of10_model.specs.Meet.{meet_of}
use Rattle.of10_model.specs.Same.{is_same}
use Rattle.of10_action.specs.Reading.{head_at, action_of, action_at, actions_at}
use Rattle.of10_flow.specs.FlowRemoveds.{read_flow_removed}
use Rattle.of10_message.specs.Controller.{read_controller, read_typed}
use Rattle.port_turns.specs.Readings.{turn_in}
use Rattle.port_turns.specs.Sent.{turn_out}
use Rattle.of10_message.specs.Errors.{read_error, pair_in}
use Rattle.of10_message.specs.Switch.{read_switch, read_sent}
use Rattle.action_check.specs.ActionRules.{code_of}
use Rattle.flowmod_expand.specs.Messages.{piece_message}
use Rattle.rate_bucket.specs.Rates.{has_room, is_conforming, accepted, is_accepted}
use Rattle.xid_map.specs.Requests.{requests, remembered, found}
use Rattle.flow_book.specs.Books.{book}
use Rattle.slice_words.specs.PacketOuts.{packet_out_fault}
use Rattle.slice_words.specs.FlowMods.{flow_mod_fault}
use Rattle.slice_words.specs.Answers.{read_answer, packet_told}
use Rattle.desk_words.specs.Histories.{message_items}
use Rattle.desk_words.specs.Recorded.{all_happened}
use Rattle.of10_flow.specs.PacketOuts.{read_packet_out, spell_packet_out}
use Rattle.fv_generator.specs.Packets.{packet_to}
use Rattle.fv_generator.specs.Policies.{the_policy}
use Rattle.fv_generator.specs.Made.{features_message, drawn_round, rounds}
use Rattle.run_words.specs.Examples.{NoRound, OneRound}

-- what the examples compute with
computing : Bool
unfolding turn_in turn_out digits encode_with has Spell frames_at frames_of features_front read_features spell_features read_port_status spell_port_status ports_in spell_flow_mod read_packet_in spell_packet_in header_of_packet link_of tagged_link typed arp_of ipv4_of network_of transport_at transport_of probe_slot_of trailer_slot changed changed_plainly first_known kept_of with_port without_port spelled applied includes_of meet_of is_same head_at action_of action_at actions_at flow_mod_with read_flow_mod read_flow_removed read_controller read_typed read_switch read_sent read_error pair_in code_of piece_message has_room is_conforming accepted is_accepted requests remembered found book flow_mod_fault read_answer packet_told message_items all_happened read_packet_out spell_packet_out packet_to the_policy features_message drawn_round rounds packet_out_fault
computing = true

pub no_round_shown : NoRound
unfolding computing
no_round_shown = refl

pub one_round_shown : OneRound
unfolding computing
one_round_shown = refl
