use Rattle.std.proofs.Common.{sym, arith}
use Rattle.of10_ctl.proofs.Cutting.{frames-short, told-cut_off, told-first}
use Rattle.of10_ctl.proofs.framer.first_size.Goals as goal

pub returns-then-bytes-lt8-clause-none : goal.returns-then-bytes-lt8-clause-none
returns-then-bytes-lt8-clause-none c = frames-short c.args.bytes.now c.if-bytes-lt8.true

pub returns-then-bytes-size-clause-none : goal.returns-then-bytes-size-clause-none
returns-then-bytes-size-clause-none c =
    let header = c.if-bytes-lt8.false in
    let few = c.if-bytes-size.true in
    told-cut_off c.args.bytes.now (omega arith) (rw (← c.told_size-size.ensures.value) few)

pub returns-clause-first : goal.returns-clause-first
returns-clause-first c = λ later.
    let header = c.if-bytes-lt8.false in
    let some = c.if-bytes-size.false in
    told-first c.args.bytes.now later c.told_size-size.result (sym c.told_size-size.ensures.value) (omega arith) (omega arith)
