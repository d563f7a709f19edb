use Rattle.std.proofs.Common.{List, ap}
use Rattle.of10_model.specs.declared.pattern.Pattern.{Pattern}
use Rattle.flowspace.specs.Swaps.{pairs_of}
use Rattle.slice_words.specs.Items.{Settings}
use Rattle.slice_words.proofs.laws.settings_are_of_what_it_writes.Goals as goal

pub returns : goal.returns
returns c slice slot swaps rules other = ap (λ (patterns : List Pattern). let settings : Settings = record { slot = slot; rate = slice.rate; burst = slice.burst; quota = slice.quota; patterns = patterns; swaps = pairs_of swaps slot } in settings)
