-- Rows that show which bytes of a message for a slice are exchanged.
use Rattle.std.proofs.Common.{◌≡◌, ◌++◌, [], refl}
use Rattle.of10_action.specs.Reading.{head_at, action_of, action_at, actions_at}
use Rattle.of10_port.specs.Ports.{ports_in}
use Rattle.of10_stats.specs.Replies.{length_of}
use Rattle.port_turns.specs.Turns.{turn_actions}
use Rattle.port_turns.specs.Sent.{places_of, turn_pieces, turned_numbers, turn_out}
use Rattle.port_turns.specs.Rows.{nine_for_two, two_actions, in_bytes, removed_bytes, status_bytes, queues_bytes, stats_bytes, flow_bytes, cut_actions, port_entry, queue_entry, features_bytes}

pub packet_row : turned_numbers nine_for_two (in_bytes 2) ≡ in_bytes 9
unfolding turned_numbers places_of
packet_row = refl

pub removed_row : turned_numbers nine_for_two (removed_bytes 0x3820fe 2) ≡ removed_bytes 0x3820fe 9
unfolding turned_numbers places_of
removed_row = refl

pub removed_free_row : turned_numbers nine_for_two (removed_bytes 0x3820ff 2) ≡ removed_bytes 0x3820ff 2
unfolding turned_numbers places_of
removed_free_row = refl

pub status_row : turned_numbers nine_for_two (status_bytes 2) ≡ status_bytes 9
unfolding turned_numbers places_of
status_row = refl

pub queues_row : turned_numbers nine_for_two (queues_bytes 2) ≡ queues_bytes 9
unfolding turned_numbers places_of
queues_row = refl

pub flow_row : turned_numbers nine_for_two (stats_bytes 124 1 (flow_bytes 112 2 (two_actions 2 9))) ≡ stats_bytes 124 1 (flow_bytes 112 9 (two_actions 9 2))
unfolding turned_numbers places_of turn_pieces turn_actions length_of head_at action_of action_at actions_at
flow_row = refl

pub cut_row : turned_numbers nine_for_two (stats_bytes 112 1 (flow_bytes 100 2 cut_actions)) ≡ stats_bytes 112 1 (flow_bytes 100 9 cut_actions)
unfolding turned_numbers places_of turn_pieces turn_actions length_of head_at action_of action_at actions_at
cut_row = refl

pub short_row : turned_numbers nine_for_two (stats_bytes 188 1 (flow_bytes 88 2 (flow_bytes 87 2 []))) ≡ stats_bytes 188 1 (flow_bytes 88 9 (flow_bytes 87 2 []))
unfolding turned_numbers places_of turn_pieces turn_actions length_of head_at action_of action_at actions_at
short_row = refl

pub ports_row : turned_numbers nine_for_two (stats_bytes 220 4 (port_entry 2 ++ port_entry 0xffff)) ≡ stats_bytes 220 4 (port_entry 9 ++ port_entry 0xffff)
unfolding turned_numbers places_of turn_pieces length_of
ports_row = refl

pub queue_row : turned_numbers nine_for_two (stats_bytes 76 5 (queue_entry 2 ++ queue_entry 0xfffc)) ≡ stats_bytes 76 5 (queue_entry 9 ++ queue_entry 0xfffc)
unfolding turned_numbers places_of turn_pieces length_of
queue_row = refl

pub features_row : turn_out nine_for_two (features_bytes 2 5 0xfffe) ≡ features_bytes 5 9 0xfffe
unfolding turn_out turned_numbers places_of turn_pieces ports_in
features_row = refl
