use Rattle.std.proofs.Common.{◌+◌, ◌≤◌, ◌==◌, length, Option, Ok, sym, subst, ◌∙◌, arith}
use Rattle.std.proofs.lemmas.Bool.{cond-true, cond-false, eq-eqb, ne_eqb}
use Rattle.recording.specs.Recordings.{sent_bytes}
use Rattle.desk_words.specs.Recorded.{told_by, bytes_carried}
use Rattle.trace_audit.specs.declared.why.Why.{Why}
use Rattle.trace_audit.specs.Standing.{TakesAmong}
use Rattle.trace_audit.proofs.Running.{auditing_first, auditing_next, auditing_more, auditing_wrong, auditing_last, auditing_long}
use Rattle.trace_audit.proofs.auditing.audit_accepted.Goals.{then-item-eq-SENT_BYTES, else-item-eq-SENT_BYTES}
use Rattle.trace_audit.proofs.auditing.audit_accepted.Goals as goal

pub loop-at-init : goal.loop-at-init
loop-at-init c =
    let all = c.requires.items in
    record {
      auditing = λ items read. auditing_first c.args.policy.now c.args.file.now items c.in_ok-switches.switches.items read c.in_ok-switches.ensures;
      few = omega arith;
      inside = auditing_long (length c.args.policy.now.slices) c.args.file.now all.0 all.1;
    }

pub item_at-item-requires : goal.item_at-item-requires
item_at-item-requires c =
    let all = c.requires.items in
    (auditing_next c.args.policy.now c.args.file.now all.0 c.loop-at.at c.loop-at.count c.loop-at.switches.items c.loop-at-test.true (c.loop-at.invariant.auditing all.0 all.1)).0

pub take_among-requires-clause-stand : goal.take_among-requires-clause-stand
take_among-requires-clause-stand c =
    let all = c.requires.items in
    let s = c.loop-at.invariant.auditing all.0 all.1 in
    (s.before, s.stand)

pub take_among-requires-clause-item : goal.take_among-requires-clause-item
take_among-requires-clause-item c =
    let all = c.requires.items in (
      c.item_at-item.ensures.value,
      (auditing_next c.args.policy.now c.args.file.now all.0 c.loop-at.at c.loop-at.count c.loop-at.switches.items c.loop-at-test.true (c.loop-at.invariant.auditing all.0 all.1)).0,
    )

pub take_among-requires-clause-read : goal.take_among-requires-clause-read
take_among-requires-clause-read c =
    let all = c.requires.items in
    (auditing_next c.args.policy.now c.args.file.now all.0 c.loop-at.at c.loop-at.count c.loop-at.switches.items c.loop-at-test.true (c.loop-at.invariant.auditing all.0 all.1)).1
    c.item_at-item.result c.item_at-item.ensures.value

pub returns-in-Some : goal.returns-in-Some
returns-in-Some c = λ items read.
    auditing_wrong c.args.policy.now c.args.file.now items c.loop-at.at c.loop-at.count c.item_at-item.result c.in-Some.why c.loop-at.switches.items c.take_among.new.switches.items c.loop-at-test.true c.item_at-item.ensures.value c.item_at-item.ensures.from
    (c.loop-at.invariant.auditing items read) (λ before stand. rw (sym c.in-Some.is) (c.in_ok-why.ensures.takes before stand))

pub overflow_add-at : goal.overflow_add-at
overflow_add-at c =
    let all = c.requires.items in
    let item = (auditing_next c.args.policy.now c.args.file.now all.0 c.loop-at.at c.loop-at.count c.loop-at.switches.items c.loop-at-test.true (c.loop-at.invariant.auditing all.0 all.1)).1
    c.item_at-item.result c.item_at-item.ensures.value in
    let within : c.item_at-item.result.from + c.item_at-item.result.size ≤ length c.args.file.now = item.within in
    let short = c.requires.short in
    omega (arith, within, short)

pub loop-at-preserved : goal.loop-at-preserved
loop-at-preserved c =
    let all = c.requires.items in
    let next = auditing_next c.args.policy.now c.args.file.now all.0 c.loop-at.at c.loop-at.count c.loop-at.switches.items c.loop-at-test.true (c.loop-at.invariant.auditing all.0 all.1) in
    let item = next.1 c.item_at-item.result c.item_at-item.ensures.value in
    let from = c.item_at-item.ensures.from in
    let few = c.loop-at.invariant.few in
    record {
      auditing = λ items read.
          auditing_more c.args.policy.now c.args.file.now items c.loop-at.at c.loop-at.count c.if-item-eq-SENT_BYTES.count c.item_at-item.result c.loop-at.switches.items c.take_among.new.switches.items c.loop-at-test.true c.item_at-item.ensures.value
          (elim c.if-item-eq-SENT_BYTES.branch [
            | then-item-eq-SENT_BYTES w ↦ w.count-is ∙ sym (cond-true (c.item_at-item.result.kind == sent_bytes) (c.loop-at.count + 1) c.loop-at.count (eq-eqb c.item_at-item.result.kind sent_bytes w.if-item-eq-SENT_BYTES.true))
            | else-item-eq-SENT_BYTES w ↦ w.count-is ∙ sym (cond-false (c.item_at-item.result.kind == sent_bytes) (c.loop-at.count + 1) c.loop-at.count (ne_eqb c.item_at-item.result.kind sent_bytes w.if-item-eq-SENT_BYTES.false))
          ])
          (c.loop-at.invariant.auditing items read)
          (λ before stand.
          subst (λ (w : Option Why). TakesAmong c.args.policy.now c.args.file.now (told_by c.item_at-item.result (bytes_carried c.args.file.now c.item_at-item.result)) before (Ok w) c.take_among.new.switches.items) c.in_default.is
          (c.in_ok-why.ensures.takes before stand));
      few = elim c.if-item-eq-SENT_BYTES.branch [
        | then-item-eq-SENT_BYTES w ↦ let is = w.count-is in omega (arith, is, few, from)
        | else-item-eq-SENT_BYTES w ↦ let is = w.count-is in omega (arith, is, few, from)
      ];
      inside = item.within;
    }

pub returns : goal.returns
returns c = λ items read.
    auditing_last c.args.policy.now c.args.file.now items c.loop-at.at c.loop-at.count c.loop-at.switches.items c.loop-at-test.false (c.loop-at.invariant.auditing items read)
