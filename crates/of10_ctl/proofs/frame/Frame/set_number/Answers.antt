use Rattle.std.proofs.Common.{◌≤◌, ◌+◌, sym, subst, ap, ◌∙◌, length}
use Rattle.of10_ctl.specs.Frames.{IsFrame}
use Rattle.of10_ctl.specs.Numbers.{with_number}
use Rattle.of10_ctl.proofs.Patched.{with_frame, written_back}
use Rattle.of10_ctl.proofs.frame.Frame.set_number.Goals as goal

pub invariant_of-self : goal.invariant_of-self
invariant_of-self c =
    let back = written_back c.args.at c.args.n _ _ _ _ c.deref_mut.ensures.value c.deref_mut.ensures.len c.set_u16.auto.out c.set_u16.ensures.written c.set_u16.ensures.behind in
    let within = subst (λ l. c.args.at + 2 ≤ length l) (sym c.self.view_is) c.requires.within in
    subst IsFrame (sym back) (with_frame c.args.at c.args.n _ c.requires.body within c.self.invariant)

pub returns : goal.returns
returns c =
    let back = written_back c.args.at c.args.n _ _ _ _ c.deref_mut.ensures.value c.deref_mut.ensures.len c.set_u16.auto.out c.set_u16.ensures.written c.set_u16.ensures.behind in
    back ∙ ap (with_number c.args.at c.args.n) c.self.view_is
