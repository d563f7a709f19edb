use Rattle.std.proofs.Common.{arith}
use Rattle.std.proofs.lemmas.Grind.{common_steps}
use Rattle.std.proofs.lemmas.List.Elements.{filter_map-append}
use Rattle.nested_slices.proofs.division.Division.add_parts.Goals as goal

pub loop-inner-preserved : goal.loop-inner-preserved
loop-inner-preserved c = grind (arith, common_steps, filter_map-append)
