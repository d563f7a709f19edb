use Rattle.std.proofs.Common.{◌++◌, []}
use Rattle.desk_words.specs.Reports.{lane_lines, lines_by_slot}
use Rattle.event_player.specs.Telling.{says, state_lines}
use Rattle.event_player.proofs.Players.{told_second, told_first, told_so}
use Rattle.event_player.proofs.player.Player.put_taken.Goals as goal

pub returns-in_err-drain_lane : goal.returns-in_err-drain_lane
returns-in_err-drain_lane g c = λ scene h slices lane is holds.
    told_first (says g.T.Teller.Tells) scene scene _ c.from_residual.result (lane_lines scene.place lane) (lines_by_slot scene.place slices 0 scene.policy.slices ++ state_lines scene.policy scene.place h c.args.speaker c.args.closed) c.args.self.now c.drain_lane.new.self c.from_residual.ensures.1
    (c.in_err-drain_lane.ensures scene h slices lane is holds)

pub returns-in_err-drain_slices : goal.returns-in_err-drain_slices
returns-in_err-drain_slices g c = λ scene h slices lane is holds.
    let second = lines_by_slot scene.place slices 0 scene.policy.slices in
    let rest = state_lines scene.policy scene.place h c.args.speaker c.args.closed in
    let lanes = c.in_ok-drain_lane.ensures scene h slices lane is holds in
    told_second (says g.T.Teller.Tells) scene scene tt c.from_residual-in_err-drain_slices.result (lane_lines scene.place lane) (second ++ rest) c.args.self.now c.drain_lane.new.self c.drain_slices.new.self lanes
    (told_first (says g.T.Teller.Tells) scene scene _ c.from_residual-in_err-drain_slices.result second rest c.drain_lane.new.self c.drain_slices.new.self c.from_residual-in_err-drain_slices.ensures.1 (c.in_err-drain_slices.ensures scene h slices [] lanes.at lanes.more))

pub returns : goal.returns
returns g c = λ scene h slices lane is holds.
    let second = lines_by_slot scene.place slices 0 scene.policy.slices in
    let rest = state_lines scene.policy scene.place h c.args.speaker c.args.closed in
    let lanes = c.in_ok-drain_lane.ensures scene h slices lane is holds in
    let others = c.in_ok-drain_slices.ensures scene h slices [] lanes.at lanes.more in
    told_second (says g.T.Teller.Tells) scene scene tt c.put_state.result (lane_lines scene.place lane) (second ++ rest) c.args.self.now c.drain_lane.new.self c.put_state.new.self lanes
    (told_second (says g.T.Teller.Tells) scene scene tt c.put_state.result second rest c.drain_lane.new.self c.drain_slices.new.self c.put_state.new.self others
    (told_so (says g.T.Teller.Tells) scene c.put_state.result rest c.drain_slices.new.self c.put_state.new.self (λ _. others.more) (c.put_state.ensures scene h others.at others.more)))
