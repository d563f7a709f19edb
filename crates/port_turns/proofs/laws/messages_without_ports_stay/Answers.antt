use Rattle.port_turns.proofs.Stays.{stays, statistics_stay, none_stays}
use Rattle.port_turns.proofs.laws.messages_without_ports_stay.Goals as goal

pub returns : goal.returns
returns c = record { other = stays; statistics = statistics_stay; none = none_stays }
