use Rattle.std.proofs.Common.{◌≡◌, ℕ, Ok, Err, subst, ap, ◌∙◌, arith}
use Rattle.recording.specs.declared.fault.RecordingFault.{RecordingFault}
use Rattle.recording.specs.declared.fault.RecordingFault.TheVariants.{Memory}
use Rattle.recording.specs.Recordings.{read_trace}
use Rattle.trace_audit.proofs.Readable.{trace_other}
use Rattle.trace_audit.proofs.Whole.{given_facts, given_other}
use Rattle.trace_audit.proofs.auditing.audit.Goals as goal

pub returns-in-Ok-clause-facts : goal.returns-in-Ok-clause-facts
returns-in-Ok-clause-facts c = λ items read.
    given_facts c.args.policy.now c.slices-slices.ensures.policy c.args.trace.now (λ k. omega (arith, c.type_inv.trace k)) items c.audit_accepted.result read (c.audit_accepted.ensures items read)

pub returns-in-Ok-clause-never : goal.returns-in-Ok-clause-never
returns-in-Ok-clause-never c = λ e.
    let all = c.in-Ok.ensures.accepted in
    let read = subst (λ (n : ℕ). read_trace n c.args.trace.now ≡ Ok all.0) c.slice_count.ensures all.1 in
    given_other c.args.policy.now c.args.trace.now all.0 c.audit_accepted.result Memory (c.audit_accepted.ensures all.0 read) e

pub returns-in-Err-clause-never : goal.returns-in-Err-clause-never
returns-in-Err-clause-never c = λ e.
    let same : c.in-Err.fault ≡ Memory = cc in
    trace_other c.slice_count.result c.args.trace.now (c.in-Err.ensures.refused ∙ ap (λ (fault : RecordingFault). Err fault) same)
