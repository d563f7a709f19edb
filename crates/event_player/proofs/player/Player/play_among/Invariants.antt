use Rattle.std.proofs.Common.{◌≡◌, ◌-◌, List, length, Ok}
use Rattle.recording.specs.declared.item.Item.{Item}
use Rattle.recording.specs.Recordings.{read_items}
use Rattle.event_player.proofs.Walking.{Walking}
use Rattle.event_player.proofs.player.Player.play_among.Given as goal

abbrev pub invariant-loop-at : goal.invariant-loop-at
invariant-loop-at g l = record {
  walking : (all : List Item) → read_items (length l.fn.self.policy.now.slices) l.file ≡ Ok all → Walking g.T.Teller.Tells l.fn.self.policy.now l.file all l.at l.fn.self l.self l.switches.items;
  sixteen : length l.switches.items ≡ 16;
}

abbrev pub decreases-loop-at : goal.decreases-loop-at
decreases-loop-at g l = length l.file - l.at
