use Rattle.lane_laws.proofs.Reacting.{reaction_lies, reaction_outputs, reaction_leaves, kept_are_written}
use Rattle.lane_laws.proofs.laws.reactions_stay_within_the_slice.Goals as goal

pub returns : goal.returns
returns c = record { flowspace = reaction_lies; ports = reaction_outputs; headers = reaction_leaves; states = kept_are_written }
