use Rattle.std.proofs.Common.{◌++◌, ℕ, List, drop, length}
use Rattle.of10_ctl.specs.Streams.{Stands, frames_of, with_piece}
use Rattle.answer_bounds.specs.Bounds.{AreFramed}
use Rattle.desk_words.specs.declared.event.Timed.{Timed}
use Rattle.event_player.specs.Holding.{IsQuiet}
use Rattle.event_player.specs.Players.{Scene, IsPlaying}
use Rattle.event_player.proofs.Playing.{Hearing}
use Rattle.event_player.proofs.player.Player.hear_bytes.Given as goal

abbrev pub invariant-loop-frame : goal.invariant-loop-frame
invariant-loop-frame g l = record {
  hearing : (scene : Scene) (h : List Timed) (fed : List ℕ) → IsPlaying scene l.fn.self → IsQuiet scene.policy h l.fn.desk → AreFramed h → Stands l.fn.framer fed (frames_of fed)
      → Hearing g.T.Teller.Tells scene l.from h (drop (length (frames_of fed)) (frames_of (fed ++ l.fn.bytes))) (fed ++ l.fn.bytes) l.fn.self l.self l.desk (with_piece l.framer l.piece);
}

abbrev pub decreases-loop-frame : goal.decreases-loop-frame
decreases-loop-frame g l = length (with_piece l.framer l.piece).left
