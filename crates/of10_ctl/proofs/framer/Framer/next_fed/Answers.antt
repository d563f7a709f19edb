use Rattle.std.proofs.Common.{◌∙◌}
use Rattle.std.proofs.lemmas.Result.{IfOk-weaker, on_err_weaker}
use Rattle.of10_ctl.proofs.Standing.{gives_fed, stands_fed}
use Rattle.of10_ctl.proofs.framer.Framer.next_fed.Goals as goal

pub returns-clause-gives : goal.returns-clause-gives
returns-clause-gives c =
    rw (c.in_ok-keep.ensures.all)
    (IfOk-weaker _ _ _ (λ next gives. gives_fed c.args.self.now c.args.piece.now.now next c.next_in.new.self (rw (← c.in_ok-keep.ensures.value) gives)) c.next_in.ensures.gives)

pub returns-clause-stands : goal.returns-clause-stands
returns-clause-stands c =
    rw (c.in_ok-keep.ensures.all)
    (on_err_weaker c.next_in.result (λ same. stands_fed c.args.self.now c.args.piece.now.now c.next_in.new.self (same ∙ c.in_ok-keep.ensures.value)) c.next_in.ensures.unchanged)
