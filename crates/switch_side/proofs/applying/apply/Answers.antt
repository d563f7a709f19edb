use Rattle.std.proofs.Common.{ℕ, List, refl, sym, subst}
use Rattle.switch_side.specs.declared.change.Change.TheVariants.{Collected}
use Rattle.switch_side.specs.Changes.{IsChangeOfItems}
use Rattle.switch_side.proofs.Making.{removal_stands, answer_stands}
use Rattle.switch_side.proofs.Holding.{loss_stands}
use Rattle.switch_side.proofs.applying.apply.Goals as goal

pub returns-in-Released : goal.returns-in-Released
returns-in-Released c s number sight items stands is =
    removal_stands s sight c.args.state.now _ stands (record { buffers = refl; bucket = refl; up = refl; miss_send_len = refl; moment = refl }) number c.in-Released.pattern c.in-Released.priority items
    (subst (IsChangeOfItems s number sight items) c.in-Released.is is) refl refl c.removed.ensures.stands

pub returns-in-Failed : goal.returns-in-Failed
returns-in-Failed c s number sight items stands is = c.fail.ensures.stands s number sight items stands (subst (IsChangeOfItems s number sight items) c.in-Failed.is is)

pub returns-in-Replied : goal.returns-in-Replied
returns-in-Replied c s number sight items stands is =
    answer_stands s sight c.args.state.now _ stands (record { buffers = refl; bucket = refl; up = refl; miss_send_len = refl; moment = refl }) number c.in-Replied.number items
    (subst (IsChangeOfItems s number sight items) c.in-Replied.is is) refl refl c.mark_done.ensures.stands

pub returns-in-Finished : goal.returns-in-Finished
returns-in-Finished c s number sight items stands is = c.finish.ensures s number sight items stands (subst (IsChangeOfItems s number sight items) c.in-Finished.is is)

pub returns-in-Lost : goal.returns-in-Lost
returns-in-Lost c s number sight items stands is =
    loss_stands s number sight items c.in-Lost.physical c.args.state.now _ (subst (IsChangeOfItems s number sight items) c.in-Lost.is is)
    (record { xids = refl; collections = refl; bucket = refl; book = refl; up = refl; miss_send_len = refl; moment = refl }) stands c.lose.ensures.given c.lose.ensures.held

pub returns-in-Given : goal.returns-in-Given
returns-in-Given c s number sight items stands is = c.give.ensures s number sight items stands (subst (IsChangeOfItems s number sight items) c.in-Given.is is)

pub returns-in-Collected : goal.returns-in-Collected
returns-in-Collected c s number sight items stands is =
    c.collect.ensures s number sight items stands
    (subst (λ (entries : List ℕ). IsChangeOfItems s number sight items (Collected c.in-Collected.number c.in-Collected.kind entries)) (sym c.as_slice.ensures) (subst (IsChangeOfItems s number sight items) c.in-Collected.is is))
