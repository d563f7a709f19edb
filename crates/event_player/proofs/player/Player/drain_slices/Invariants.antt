use Rattle.std.proofs.Common.{◌≡◌, ◌++◌, ℕ, List, drop, Ok}
use Rattle.desk_words.specs.declared.event.Timed.{Timed}
use Rattle.desk_words.specs.Reports.{Line, lines_by_slot}
use Rattle.event_player.specs.Telling.{says}
use Rattle.event_player.specs.Holding.{Holds}
use Rattle.event_player.specs.Players.{Scene, IsPlaying, HasTold}
use Rattle.event_player.proofs.Slices.{from_slot}
use Rattle.event_player.proofs.player.Player.drain_slices.Given as goal

abbrev pub invariant-loop-slot : goal.invariant-loop-slot
invariant-loop-slot g l = record {
  drained : (scene : Scene) (h : List Timed) (slices : ℕ → List (List ℕ)) (lane : List (List ℕ)) → IsPlaying scene l.fn.self → Holds scene.policy h slices lane l.fn.desk
      → (done : List Line) × HasTold {A = Unit {0}} (says g.T.Teller.Tells) scene (Unit {0}) (Ok tt) done l.fn.self l.self
      × (done ++ lines_by_slot scene.place slices l.slot (drop l.slot scene.policy.slices) ≡ lines_by_slot scene.place slices 0 scene.policy.slices) × Holds scene.policy h (from_slot l.slot slices) lane l.desk;
}
