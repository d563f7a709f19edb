use Rattle.of10_stats.proofs.Padding.{flags_alike}
use Rattle.of10_stats.proofs.laws.request_flags_say_nothing.Goals as goal

pub returns : goal.returns
returns c = flags_alike
