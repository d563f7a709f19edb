use Rattle.std.proofs.Common.{[]}
use Rattle.turn_desk.specs.Histories.{seen_of}
use Rattle.live_desk.proofs.Following.{all_turns}
use Rattle.live_desk.proofs.laws.legal_lists_are_legal_histories.Goals as goal

pub returns : goal.returns
returns c = λ policy opening v stands legal.
    let all = all_turns policy [] opening legal.1 (seen_of v) stands tt legal.2 in
    (all.0, all.1, all.2)
