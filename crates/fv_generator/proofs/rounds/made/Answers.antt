use Rattle.fv_generator.proofs.Appending.{all_appended, appended}
use Rattle.fv_generator.proofs.rounds.made.Goals as goal

pub loop-number-preserved : goal.loop-number-preserved
loop-number-preserved c = appended c.args.count c.loop-number.number _ _ _ c.loop-number.out.items c.put_round.new.out.items c.loop-number-test.true c.loop-number.invariant c.in_ok-put_round.ensures

pub returns : goal.returns
returns c = all_appended c.args.count c.loop-number.number c.loop-number.draws.state _ c.loop-number.out.items c.loop-number-test.false c.loop-number.invariant
