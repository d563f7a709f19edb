use Rattle.std.proofs.Common.{List, ℕ, Option, subst, sym}
use Rattle.of10_ctl.specs.Streams.{with_piece}
use Rattle.event_player.specs.Streams.{TookFrame}
use Rattle.event_player.proofs.Streaming.{took}
use Rattle.event_player.proofs.streams.next_frame.Goals as goal

pub returns-clause-takes : goal.returns-clause-takes
returns-clause-takes c = λ fed given stands.
    let new = with_piece c.next_of.new.self c.next_of.new.piece.now in
    subst (λ (next : Option (List ℕ)). TookFrame next fed given new) (sym c.frame_in.ensures.value)
    (took (with_piece c.args.framer.now c.args.piece.now.now) new fed given c.in_ok-next.next stands (c.in_ok-next.ensures.gives.answer fed given stands) (c.in_ok-next.ensures.gives.stands fed given stands))
