-- The examples, by computing what the definitions say.
use Rattle.std.specs.Prelude.{Bool, true, refl}
use Rattle.std.specs.Fmt.{digits}
use Rattle.hex.specs.Hex.{encode_with}
use Rattle.of10_model.specs.Pattern.{has}
use Rattle.of10_model.specs.Spelling.{Spell}
use Rattle.of10_ctl.specs.Streams.{frames_at, frames_of}
use Rattle.of10_port.specs.Features.{features_front, read_features, spell_features}
use Rattle.of10_port.specs.PortStatus.{read_port_status, spell_port_status}
use Rattle.of10_port.specs.Ports.{ports_in}
use Rattle.of10_flow.specs.FlowMods.{spell_flow_mod, flow_mod_with, read_flow_mod}
use Rattle.of10_flow.specs.PacketIns.{read_packet_in, spell_packet_in}
use Rattle.of10_flow.specs.PacketOuts.{read_packet_out, spell_packet_out}
use Rattle.frame_header.specs.Headers.{header_of_packet}
use Rattle.frame_header.specs.Links.{link_of, tagged_link, typed}
use Rattle.frame_header.specs.Networks.{arp_of, ipv4_of, network_of, transport_at, transport_of}
use Rattle.frame_header.specs.Probes.{probe_slot_of, trailer_slot}
use Rattle.port_view.specs.KnownPorts.{changed, changed_plainly, first_known, kept_of, with_port, without_port}
use Rattle.of10_model.specs.Normal.{spelled, applied}
use Rattle.of10_model.specs.Inclusion.{includes_of}
use Rattle.of10_model.specs.Meet.{meet_of}
use Rattle.of10_model.specs.Same.{is_same}
use Rattle.of10_action.specs.Reading.{head_at, action_of, action_at, actions_at}
use Rattle.of10_flow.specs.FlowRemoveds.{read_flow_removed, spell_flow_removed}
use Rattle.of10_message.specs.Controller.{read_controller, read_typed}
use Rattle.port_turns.specs.Readings.{turn_in}
use Rattle.port_turns.specs.Sent.{turn_out}
use Rattle.of10_message.specs.Errors.{read_error, pair_in}
use Rattle.of10_message.specs.Switch.{read_switch, read_sent}
use Rattle.of10_message.specs.Queues.{read_queues}
use Rattle.action_check.specs.ActionRules.{code_of}
use Rattle.flowmod_expand.specs.Messages.{piece_message}
use Rattle.rate_bucket.specs.Rates.{has_room, is_conforming, accepted, is_accepted}
use Rattle.of10_stats.specs.Requests.{read_request, request_of, spell_request}
use Rattle.of10_stats.specs.Replies.{part_of, length_of}
use Rattle.xid_map.specs.Requests.{requests, remembered, found}
use Rattle.xid_map.specs.Collections.{collecting, since, added, summed, joined_entries, kept_run, gathered}
use Rattle.stats_filter.specs.Keeping.{entries_at, entries_in, is_own_entry}
use Rattle.stats_filter.specs.Replies.{paged, replies_of, sum_reply, table_reply}
use Rattle.flow_book.specs.Books.{book}
use Rattle.slice_words.specs.FlowMods.{flow_mod_fault}
use Rattle.slice_words.specs.PacketOuts.{packet_out_fault}
use Rattle.slice_words.specs.Answers.{read_answer, packet_told}
use Rattle.desk_words.specs.Histories.{message_items}
use Rattle.desk_words.specs.Recorded.{all_happened}
use Rattle.desk_words.specs.Reports.{lines_from, report}
use Rattle.test_desk_words.specs.Examples.{policy, PacketReaches, PacketPasses, BadLengthCloses, FeaturesAreTold, ConfigIsKept, FlagsAreRefused, OldVersionCloses, EchoIsAnswered, VendorIsRefused, PortModIsRefused}
use Rattle.test_desk_words.specs.Ports.{StatusReachesBob, OwnPortsAreTold, OtherPortIsRefused}
use Rattle.test_desk_words.specs.Connections.{NothingHappens, SwitchGoes, BadLengthEndsTheSwitch, EarlySliceIsRefused}
use Rattle.test_desk_words.specs.Readers.{WriterIsToldAlone, ReaderIsTold}
use Rattle.test_desk_words.specs.Worlds.{other_policy, history, FirstWorld, OtherWorld, HasTheSameSettings, SeesTheSame, IsSentTheSame}
use Rattle.desk_words.proofs.Alone.{alike}
use Rattle.test_desk_words.specs.Statistics.{BarrierComesBack, QueuesComeBack, OwnFlowsAreTold, FlowsAreSummed, TableIsTold}
use Rattle.test_desk_words.specs.FlowMods.{FlowModIsCut, FlowModIsRefused, ErrorIsToldOnce, FlowModHasTwoPieces, FloodIsSpread, ActionsAreHeldToTheSlice, QuotaHolds, OverlapIsRefused}
use Rattle.test_desk_words.specs.PacketOuts.{ReusedPacketIsLost, PacketIsUsedOnce, PacketOutIsHeldToTheSlice, ProbeComesBack}

-- what the examples compute with
computing : Bool
unfolding turn_in turn_out digits encode_with has Spell frames_at frames_of features_front read_features spell_features read_port_status spell_port_status ports_in spell_flow_mod read_packet_in spell_packet_in header_of_packet link_of tagged_link typed arp_of ipv4_of network_of transport_at transport_of probe_slot_of trailer_slot changed changed_plainly first_known kept_of with_port without_port spelled applied includes_of meet_of is_same head_at action_of action_at actions_at flow_mod_with read_flow_mod read_flow_removed read_controller read_typed read_switch read_sent read_error pair_in code_of piece_message has_room is_conforming accepted is_accepted requests remembered found book flow_mod_fault read_answer packet_told message_items lines_from report all_happened part_of read_request request_of spell_request length_of entries_at entries_in is_own_entry collecting since added summed joined_entries kept_run gathered paged replies_of sum_reply table_reply read_queues spell_flow_removed read_packet_out spell_packet_out packet_out_fault
computing = true

pub packet_reaches_shown : PacketReaches
unfolding computing
packet_reaches_shown = refl

pub packet_passes_shown : PacketPasses
unfolding computing
packet_passes_shown = refl

pub bad_length_closes_shown : BadLengthCloses
unfolding computing
bad_length_closes_shown = refl

pub features_are_told_shown : FeaturesAreTold
unfolding computing
features_are_told_shown = refl

pub config_is_kept_shown : ConfigIsKept
unfolding computing
config_is_kept_shown = refl

pub flags_are_refused_shown : FlagsAreRefused
unfolding computing
flags_are_refused_shown = refl

pub old_version_closes_shown : OldVersionCloses
unfolding computing
old_version_closes_shown = refl

pub echo_is_answered_shown : EchoIsAnswered
unfolding computing
echo_is_answered_shown = refl

pub vendor_is_refused_shown : VendorIsRefused
unfolding computing
vendor_is_refused_shown = refl

pub port_mod_is_refused_shown : PortModIsRefused
unfolding computing
port_mod_is_refused_shown = refl

pub status_reaches_bob_shown : StatusReachesBob
unfolding computing
status_reaches_bob_shown = refl

pub own_ports_are_told_shown : OwnPortsAreTold
unfolding computing
own_ports_are_told_shown = refl

pub nothing_happens_shown : NothingHappens
unfolding computing
nothing_happens_shown = refl

pub switch_goes_shown : SwitchGoes
unfolding computing
switch_goes_shown = refl

pub bad_length_ends_the_switch_shown : BadLengthEndsTheSwitch
unfolding computing
bad_length_ends_the_switch_shown = refl

pub early_slice_is_refused_shown : EarlySliceIsRefused
unfolding computing
early_slice_is_refused_shown = refl

pub writer_is_told_alone_shown : WriterIsToldAlone
unfolding computing
writer_is_told_alone_shown = refl

pub reader_is_told_shown : ReaderIsTold
unfolding computing
reader_is_told_shown = refl

pub flow_mod_is_cut_shown : FlowModIsCut
unfolding computing
flow_mod_is_cut_shown = refl

pub flow_mod_is_refused_shown : FlowModIsRefused
unfolding computing
flow_mod_is_refused_shown = refl

pub error_is_told_once_shown : ErrorIsToldOnce
unfolding computing
error_is_told_once_shown = refl

pub barrier_comes_back_shown : BarrierComesBack
unfolding computing
barrier_comes_back_shown = refl

pub queues_come_back_shown : QueuesComeBack
unfolding computing
queues_come_back_shown = refl

pub own_flows_are_told_shown : OwnFlowsAreTold
unfolding computing
own_flows_are_told_shown = refl

pub flows_are_summed_shown : FlowsAreSummed
unfolding computing
flows_are_summed_shown = refl

pub table_is_told_shown : TableIsTold
unfolding computing
table_is_told_shown = refl

pub flow_mod_has_two_pieces_shown : FlowModHasTwoPieces
unfolding computing
flow_mod_has_two_pieces_shown = refl

pub flood_is_spread_shown : FloodIsSpread
unfolding computing
flood_is_spread_shown = refl

pub actions_are_held_to_the_slice_shown : ActionsAreHeldToTheSlice
unfolding computing
actions_are_held_to_the_slice_shown = refl

pub quota_holds_shown : QuotaHolds
unfolding computing
quota_holds_shown = refl

pub overlap_is_refused_shown : OverlapIsRefused
unfolding computing
overlap_is_refused_shown = refl

pub other_port_is_refused_shown : OtherPortIsRefused
unfolding computing
other_port_is_refused_shown = refl

pub reused_packet_is_lost_shown : ReusedPacketIsLost
unfolding computing
reused_packet_is_lost_shown = refl

pub packet_is_used_once_shown : PacketIsUsedOnce
unfolding computing
packet_is_used_once_shown = refl

pub packet_out_is_held_to_the_slice_shown : PacketOutIsHeldToTheSlice
unfolding computing
packet_out_is_held_to_the_slice_shown = refl

pub probe_comes_back_shown : ProbeComesBack
unfolding computing
probe_comes_back_shown = refl

pub first_world_shown : FirstWorld
unfolding computing
first_world_shown = refl

pub other_world_shown : OtherWorld
unfolding computing
other_world_shown = refl

pub same_settings_shown : HasTheSameSettings
unfolding computing
same_settings_shown = refl

pub sees_the_same_shown : SeesTheSame
unfolding computing
sees_the_same_shown = refl

-- by the law of two worlds
pub sent_the_same_shown : IsSentTheSame
sent_the_same_shown = alike policy 0 (history policy) other_policy 0 (history other_policy) same_settings_shown sees_the_same_shown
