use Rattle.port_turns.proofs.SentShown.{packet_row, removed_row, removed_free_row, status_row, queues_row, flow_row, cut_row, short_row, ports_row, queue_row, features_row}
use Rattle.port_turns.proofs.laws.sent_ports_alone_are_exchanged.Goals as goal

pub returns : goal.returns
returns c = record {
  packet = packet_row;
  removed = removed_row;
  free = removed_free_row;
  status = status_row;
  queues = queues_row;
  flow = flow_row;
  cut = cut_row;
  short = short_row;
  ports = ports_row;
  queue = queue_row;
  features = features_row;
}
