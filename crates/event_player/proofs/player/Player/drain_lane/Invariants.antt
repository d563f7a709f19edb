use Rattle.std.proofs.Common.{ℕ, List}
use Rattle.desk_words.specs.declared.event.Timed.{Timed}
use Rattle.desk_words.specs.declared.dest.Dest.TheVariants.{Switch}
use Rattle.proxy_core.specs.Desks.{left}
use Rattle.desk_words.specs.Reports.{lane_line}
use Rattle.event_player.specs.Telling.{says}
use Rattle.event_player.specs.Holding.{Holds}
use Rattle.event_player.specs.Players.{Scene, IsPlaying}
use Rattle.event_player.proofs.Draining.{Drained}
use Rattle.event_player.proofs.player.Player.drain_lane.Given as goal

abbrev pub invariant-loop-message : goal.invariant-loop-message
invariant-loop-message g l = record {
  drained : (scene : Scene) (h : List Timed) (slices : ℕ → List (List ℕ)) (lane : List (List ℕ)) → IsPlaying scene l.fn.self → Holds scene.policy h slices lane l.fn.desk
      → Drained (says g.T.Teller.Tells) scene (λ messages. Holds scene.policy h slices messages l.desk) (lane_line scene.place) lane l.fn.self l.self;
}

abbrev pub decreases-loop-message : goal.decreases-loop-message
decreases-loop-message g l = left Switch l.desk
