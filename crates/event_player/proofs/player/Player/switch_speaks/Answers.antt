use Rattle.std.proofs.Common.{length, refl}
use Rattle.desk_words.specs.declared.dest.Dest.TheVariants.{Switch as ToSwitch}
use Rattle.desk_words.specs.Recorded.{stream_before, history_of}
use Rattle.recording.specs.Recordings.{switch_bytes}
use Rattle.event_player.specs.Streams.{connection}
use Rattle.event_player.specs.Players.{scene_of}
use Rattle.event_player.specs.Switches.{told_from}
use Rattle.event_player.proofs.Recorded.{streams_heard, heard_from, played_so, switch_after}
use Rattle.event_player.proofs.player.Player.switch_speaks.Goals as goal

pub returns : goal.returns
returns g c = λ switch moment p number before is stands.
    let bytes = c.args.bytes.now in
    let r = told_from ToSwitch switch moment bytes in
    let fed = stream_before (connection switch switch_bytes 0) before in
    played_so g.T.Teller.Tells p number r before c.hear_bytes.result c.args.self.now c.hear_bytes.new.self
    (λ spoken. switch_after p r before _ spoken.0 (streams_heard (length p.slices) switch moment bytes before c.args.switch.now.streams _ stands.streams refl spoken.1))
    (heard_from g.T.Teller.Tells p number ToSwitch switch moment bytes before c.hear_bytes.result c.args.self.now c.hear_bytes.new.self c.hear_bytes.new.desk c.hear_bytes.new.framer
    (c.hear_bytes.ensures (scene_of p number r) (history_of p switch before) fed is stands.quiet stands.framed stands.streams.of_switch))
