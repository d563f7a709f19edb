use Rattle.std.proofs.Common.{arith}
use Rattle.trace_audit.specs.Standing.{IsFresh}
use Rattle.trace_audit.proofs.Taking.{pushed}
use Rattle.trace_audit.proofs.auditing.fresh_switches.Goals as goal

pub loop-alloc-preserved : goal.loop-alloc-preserved
loop-alloc-preserved c =
    let more = c.loop-alloc-test.true in
    let len = c.len.ensures in
    let items = c.in_ok-push.ensures.items in
    record {
      few = rw items (pushed IsFresh c.loop-alloc.switches.items c.new.result 16 (omega (arith, more, len)) c.loop-alloc.invariant.each c.new.ensures).0;
      each = rw items (pushed IsFresh c.loop-alloc.switches.items c.new.result 16 (omega (arith, more, len)) c.loop-alloc.invariant.each c.new.ensures).1;
    }
