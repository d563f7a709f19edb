use Rattle.std.proofs.Common.{ℕ, length, sym, subst, ◌≡◌, ◌<◌, Some, slice_get, set, arith}
use Rattle.std.proofs.lemmas.Option.{slice_get_read}
use Rattle.recording.specs.declared.layout.Layout.TheVariants.{Trace}
use Rattle.recording.proofs.Forms.{one_of_16}
use Rattle.desk_words.specs.Recorded.{bytes_carried, told_by}
use Rattle.trace_audit.specs.Standing.{TakesAmong}
use Rattle.trace_audit.proofs.Taking.{takes_among}
use Rattle.trace_audit.proofs.auditing.take_among.Goals as goal

pub take-requires-clause-stands : goal.take-requires-clause-stands
take-requires-clause-stands c =
    let s = c.requires.stand in
    let item = c.args.item.now in
    let xs = c.args.switches.now in
    let ok = xs.ok.0 in
    let known = c.index_mut-switch.result.now in
    let switch : item.switch < 16 = one_of_16 Trace (length c.args.policy.now.slices) 0 item c.requires.read.form in
    let count = s.1.count in
    let same = c.from.ensures in
    let there : slice_get xs.items item.switch ≡ Some known = subst (λ (n : ℕ). slice_get xs.items n ≡ Some known) same (slice_get_read xs.items _ c.from.result known ok (omega (arith, switch, count, same)) c.index_mut-switch.ensures.value) in
    (s.0, s.1.each item.switch known there)

pub returns : goal.returns
returns c = record {
  takes = λ before stands.
      let item = c.args.item.now in
      let xs = c.args.switches.now in
      let ok = xs.ok.0 in
      let known = c.index_mut-switch.result.now in
      let switch : item.switch < 16 = one_of_16 Trace (length c.args.policy.now.slices) 0 item c.requires.read.form in
      let count = stands.count in
      let same = c.from.ensures in
      let there : slice_get xs.items item.switch ≡ Some known = subst (λ (n : ℕ). slice_get xs.items n ≡ Some known) same (slice_get_read xs.items _ c.from.result known ok (omega (arith, switch, count, same)) c.index_mut-switch.ensures.value) in
      let r = told_by item (bytes_carried c.args.file.now item) in
      subst (λ (n : ℕ). TakesAmong c.args.policy.now c.args.file.now r before c.take.result (set xs.items n c.take.new.self)) (sym same)
      (takes_among c.args.policy.now c.args.file.now r before c.take.result xs.items c.take.new.self stands (c.take.ensures before (stands.each item.switch known there)));
}
