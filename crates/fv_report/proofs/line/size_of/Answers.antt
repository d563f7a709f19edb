use Rattle.std.proofs.Common.{arith}
use Rattle.fv_report.proofs.Sizes.{lane_size, to_size}
use Rattle.fv_report.proofs.line.size_of.Goals as goal

pub returns-in-Lane : goal.returns-in-Lane
returns-in-Lane c =
    let size = lane_size c.in-Lane.message.now in
    rw (c.in-Lane.is, size) (omega arith)

pub returns-in-To : goal.returns-in-To
returns-in-To c =
    let size = to_size c.in-To.field-0 c.in-To.name.now c.in-To.message.now in
    rw (c.in-To.is, size) (omega arith)
