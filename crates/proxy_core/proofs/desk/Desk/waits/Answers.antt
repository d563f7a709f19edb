use Rattle.std.proofs.Common.{subst, sym, ◌∙◌}
use Rattle.desk_words.specs.declared.dest.Dest.{Dest}
use Rattle.proxy_core.specs.Desks.{TellsWaiting}
use Rattle.proxy_core.proofs.Questions.{slice_waits}
use Rattle.proxy_core.proofs.desk.Desk.waits.Goals as goal

pub returns-in-Slice-clause-told : goal.returns-in-Slice-clause-told
returns-in-Slice-clause-told c =
    subst (λ (dest : Dest). TellsWaiting c.args.self.now dest c.waits_for_slice.result) (sym c.in-Slice.is) (λ p ops s. c.waits_for_slice.ensures ∙ slice_waits c.args.self.now c.in-Slice.slot p ops s)
