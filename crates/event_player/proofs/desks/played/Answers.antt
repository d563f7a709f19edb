use Rattle.std.proofs.Common.{◌≡◌, length, Ok, sym, subst}
use Rattle.flowspace.specs.Policies.{PolicyView}
use Rattle.recording.specs.Recordings.{read_items}
use Rattle.desk_words.specs.Recorded.{told_in}
use Rattle.event_player.specs.Telling.{all_cues}
use Rattle.event_player.specs.Played.{Unheard}
use Rattle.event_player.proofs.Hearing.{only_memory, memory_on}
use Rattle.event_player.proofs.desks.played.Goals as goal

pub returns-in_err-play_among-clause-memory : goal.returns-in_err-play_among-clause-memory
returns-in_err-play_among-clause-memory c =
    let player = c.new-player.result in
    let items = c.requires.0 in
    let read = subst (λ (p : PolicyView). read_items (length p.slices) c.args.bytes.now ≡ Ok items) (sym c.new-player.ensures.policy) c.requires.1 in
    memory_on c.in_err-play_among.field-0.0 c.from_residual-in_err-play_among.result c.from_residual-in_err-play_among.ensures.1
    (only_memory Unheard (λ fault old new cue broken. let same = broken.0 in absurd (cc)) c.in_err-play_among.field-0.0 (all_cues player.policy.now (told_in c.args.bytes.now items)) player.teller c.play_among.new.self.teller (c.in_err-play_among.ensures.told items read).told)
