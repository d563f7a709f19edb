use Rattle.std.proofs.Common.{arith, ◌+◌, ◌-◌}
use Rattle.std.specs.Prelude.{drop}
use Rattle.std.proofs.lemmas.List.{length-take-le, length-drop}
use Rattle.std.proofs.lemmas.Slice.{drop-put_mid}
use Rattle.of10_model.proofs.wire.set_u32.Goals as goal

pub returns-clause-behind : goal.returns-clause-behind
returns-clause-behind c = drop-put_mid c.args.at (c.args.at + 4 - c.args.at) c.args.out.now c.write_u32.new.buf (c.args.at + 4) (omega arith) (omega (arith, c.requires)) (rw c.write_u32.auto.buf (length-take-le (c.args.at + 4 - c.args.at) (drop c.args.at c.args.out.now) (rw (length-drop c.args.at c.args.out.now) (omega (arith, c.requires)))))
