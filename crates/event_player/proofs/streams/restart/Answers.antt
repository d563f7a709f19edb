use Rattle.std.proofs.Common.{true≢false, sym, arith}
use Rattle.event_player.proofs.Recorded.{nothing_restarts, less_or_more}
use Rattle.event_player.proofs.streams.restart.Goals as goal

pub returns-in_default : goal.returns-in_default
returns-in_default c =
    let there = c.in_default.ensures.variant in
    let count = c.args.framers.now.ok.0 in
    let same = c.from.ensures in
    nothing_restarts c.args.framers.now.items c.args.slot (less_or_more c.args.slot _ (λ less. true≢false (sym (there.1 (omega (arith, less, count, same))))))
