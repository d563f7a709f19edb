use Rattle.std.proofs.Common.{◌∙◌, ap, arith, take, drop}
use Rattle.std.proofs.lemmas.List.{take-append-drop, take_rest}
use Rattle.fv_base.specs.Told.{appended}
use Rattle.fv_base.proofs.Appending.{appended-more, on_err}
use Rattle.fv_base.proofs.transfer.put_all.Goals as goal

pub returns-in_err-done-clause-part : goal.returns-in_err-done-clause-part
returns-in_err-done-clause-part g c =
    let done = c.loop-done.done in
    let bytes = c.args.bytes.now in
    on_err c.from_residual.result (take done bytes, (drop done bytes, take-append-drop done bytes), c.in_err-done.ensures.refused ∙ c.loop-done.invariant.put)

pub loop-done-preserved : goal.loop-done-preserved
loop-done-preserved g c =
    let done = c.loop-done.done in
    let bytes = c.args.bytes.now in
    let n = c.in_ok-done.field-0 in
    let before = g.K.Sink.contents c.loop-done.sink in
    let taken = c.in_ok-done.ensures.taken ∙ ap (λ rest. appended before (take n rest)) (take_rest bytes done) in
    record {
      within = omega (arith, c.in_ok-done.ensures.within);
      put = taken ∙ ap (λ told. appended told (take n (drop done bytes))) c.loop-done.invariant.put ∙ appended-more (g.K.Sink.contents c.args.sink.now) bytes done n;
      calm = c.in_ok-done.ensures.calm ∙ c.loop-done.invariant.calm;
    }
