use Rattle.std.proofs.Common.{rules}
use Rattle.recording.proofs.Noting.{slice_goes_up, switch_goes_down}
use Rattle.recording.proofs.ups.Ups.note.Goals as goal

pub returns-in-2 : goal.returns-in-2
returns-in-2 c = λ before st. rw (c.from-switch.ensures, c.no_slices.ensures) (switch_goes_down c.args.self.now.switches c.args.self.now.slices before c.args.item.now st c.in-2.is c.requires)

pub returns-in-3 : goal.returns-in-3
returns-in-3 c = λ before st. rw (c.from-switch.ensures, c.from-slot.ensures) (slice_goes_up c.args.self.now.switches c.args.self.now.slices before c.args.item.now st c.in-3.is c.requires (search rules))
