use Rattle.std.proofs.Common.{refl}
use Rattle.event_player.proofs.Recorded.{ready_slice_up, ready_other}
use Rattle.event_player.proofs.switch.Switch.ready.Goals as goal

pub returns-then-item-eq-SLICE_UP : goal.returns-then-item-eq-SLICE_UP
returns-then-item-eq-SLICE_UP c = λ p. ready_slice_up p c.args.item.now _ _ c.if-item-eq-SLICE_UP.true refl refl c.restart.ensures

pub returns-else-item-eq-SLICE_UP : goal.returns-else-item-eq-SLICE_UP
returns-else-item-eq-SLICE_UP c = λ p. ready_other p c.args.item.now _ c.requires c.if-item-eq-SLICE_UP.false
