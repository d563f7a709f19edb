use Rattle.lane_laws.proofs.Sent.{statistics_sent, barrier_sent, queues_sent, queues_passed}
use Rattle.lane_laws.proofs.laws.permitted_inquiries_are_sent.Goals as goal

pub returns : goal.returns
returns c = record {
  statistics = λ policy h timed slot message request asked is up. statistics_sent policy h timed slot message is up request asked;
  barriers = λ policy h timed slot message is up. barrier_sent policy h timed slot message is up;
  queues = λ policy h timed slot message queues is up. queues_sent policy h timed slot message is up queues;
  bodies = λ policy h timed slot message queues bytes is up. queues_passed policy h timed slot message is up queues bytes;
}
