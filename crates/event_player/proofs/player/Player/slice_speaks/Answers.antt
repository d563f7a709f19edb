use Rattle.std.proofs.Common.{ℕ, ◌≡◌, ◌<◌, true≢false, arith, length, set, slice_get, Some, ap, sym, subst, refl}
use Rattle.flowspace.specs.Policies.{PolicyView}
use Rattle.desk_words.specs.declared.dest.Dest.TheVariants.{Slice}
use Rattle.desk_words.specs.Recorded.{stream_before, history_of}
use Rattle.recording.specs.Recordings.{slice_bytes}
use Rattle.event_player.specs.Streams.{connection}
use Rattle.event_player.specs.Players.{scene_of}
use Rattle.event_player.specs.Switches.{told_from}
use Rattle.event_player.proofs.Recorded.{streams_slice_heard, heard_from, played_so, switch_after, found}
use Rattle.event_player.proofs.player.Player.slice_speaks.Goals as goal

pub returns-in_default : goal.returns-in_default
returns-in_default g c = λ switch moment p number before is stands.
    let there = c.in_default.ensures.variant in
    let known : c.args.slot < length p.slices = subst (λ (q : PolicyView). c.args.slot < length q.slices) is.policy c.requires in
    let number_of = stands.streams.number in
    let count = c.args.switch.now.streams.slices.ok.0 in
    let same = c.from.ensures in
    absurd (true≢false (sym (there.1 (omega (arith, known, number_of, count, same)))))

pub returns : goal.returns
returns g c = λ switch moment p number before is stands.
    let slot = c.args.slot in
    let bytes = c.args.bytes.now in
    let r = told_from (Slice slot) switch moment bytes in
    let old = c.args.switch.now.streams in
    let framers = old.slices.items in
    let framer = c.in-Some.framer.now in
    let new = c.hear_bytes.new.framer in
    let there = subst (λ (n : ℕ). slice_get framers n ≡ Some framer) c.from.ensures (found framers c.from.result framer (sym c.in-Some.ensures.item.0) c.in-Some.ensures.value) in
    let fed = stream_before (connection switch slice_bytes slot) before in
    played_so g.T.Teller.Tells p number r before c.hear_bytes.result c.args.self.now c.hear_bytes.new.self
    (λ spoken. switch_after p r before _ spoken.0 (streams_slice_heard (length p.slices) switch slot moment bytes before old _ new stands.streams refl (ap (λ (n : ℕ). set framers n new) c.from.ensures) spoken.1))
    (heard_from g.T.Teller.Tells p number (Slice slot) switch moment bytes before c.hear_bytes.result c.args.self.now c.hear_bytes.new.self c.hear_bytes.new.desk new
    (c.hear_bytes.ensures (scene_of p number r) (history_of p switch before) fed is stands.quiet stands.framed (stands.streams.of_slices slot framer there)))
