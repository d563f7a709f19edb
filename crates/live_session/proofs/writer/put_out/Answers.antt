use Rattle.std.proofs.Common.{◌++◌, ap, sym, ◌∙◌, subst}
use Rattle.fv_base.specs.Told.{appended, IsBeginning}
use Rattle.fv_base.proofs.Appending.{on_err}
use Rattle.live_session.specs.Takings.{in_hand}
use Rattle.live_session.proofs.Wanting.{appended_twice, prefix_longer, prefix_behind}
use Rattle.live_session.proofs.writer.put_out.Goals as goal

pub returns-in_err-put_all-clause-part : goal.returns-in_err-put_all-clause-part
returns-in_err-put_all-clause-part g c =
    let p = c.in_err-put_all.ensures.part in
    on_err c.from_residual.result (p.0, prefix_longer p.0 c.args.buffer.now.items (in_hand c.args.pause.now) (subst (λ b. IsBeginning p.0 b) c.deref.ensures.value p.1), p.2)

pub returns-in_err-put_all-2-clause-part : goal.returns-in_err-put_all-2-clause-part
returns-in_err-put_all-2-clause-part g c =
    let p = c.in_err-put_all-2.ensures.part in
    let buffer = c.args.buffer.now.items in
    let begun : IsBeginning (buffer ++ p.0) (buffer ++ c.in-Hand.frame) = prefix_behind buffer p.0 c.in-Hand.frame (subst (λ b. IsBeginning p.0 b) c.as_slice.ensures.value p.1) in
    on_err c.from_residual-in_err-put_all-2.result (buffer ++ p.0, subst (λ q. IsBeginning (buffer ++ p.0) (buffer ++ in_hand q)) (sym c.in-Hand.is) begun, p.2 ∙ (ap (λ t. appended t p.0) (c.in_ok-put_all.ensures.all ∙ ap (λ b. appended (g.K.Sink.contents c.args.sink.now) b) c.deref.ensures.value) ∙ appended_twice (g.K.Sink.contents c.args.sink.now) buffer p.0))
