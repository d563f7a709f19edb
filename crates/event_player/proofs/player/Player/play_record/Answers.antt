use Rattle.std.proofs.Common.{ℕ, List, subst, sym, arith, rules}
use Rattle.desk_words.specs.Recorded.{told_by}
use Rattle.recording.specs.Recordings.{slice_bytes}
use Rattle.event_player.specs.Switches.{PlaysRecord}
use Rattle.event_player.proofs.Recorded.{by_kind, by_bytes}
use Rattle.event_player.proofs.player.Player.play_record.Goals as goal

pub returns-in-1 : goal.returns-in-1
returns-in-1 g c =
    let item = c.args.item.now in
    let is = c.in-1.is in
    by_bytes g.T.Teller.Tells item c.args.bytes.now c.switch_speaks.result c.args.self.now c.switch_speaks.new.self c.args.switch.now c.switch_speaks.new.switch is (c.requires.of_switch (omega (arith, is))) (c.switch_speaks.ensures item.switch item.moment)

pub returns-in-4 : goal.returns-in-4
returns-in-4 g c =
    let item = c.args.item.now in
    by_kind g.T.Teller.Tells item c.args.bytes.now slice_bytes c.slice_speaks.result c.args.self.now c.slice_speaks.new.self c.args.switch.now c.slice_speaks.new.switch c.in-4.is (c.slice_speaks.ensures item.switch item.moment)

pub returns-in_default : goal.returns-in_default
returns-in_default g c =
    let item = c.args.item.now in
    subst (λ (b : List ℕ). PlaysRecord g.T.Teller.Tells (told_by item b) c.connection_turns.result c.args.self.now c.connection_turns.new.self c.args.switch.now c.connection_turns.new.switch) (sym (c.requires.silent (search rules) (search rules))) c.connection_turns.ensures
