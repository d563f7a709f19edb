use Rattle.std.proofs.Common.{ℕ, subst}
use Rattle.desk_words.specs.Recorded.{told_in}
use Rattle.desk_words.specs.Reports.{last_line}
use Rattle.fv_report.specs.Writing.{Wrote}
use Rattle.event_player.proofs.Cues.{heard_all, heard_first}
use Rattle.fv_report.proofs.Texts.{Writes, report_ended, report_broken}
use Rattle.fv_report.proofs.whole_report.write_file.Goals as goal

pub returns-in_err-play_file-clause-same : goal.returns-in_err-play_file-clause-same
returns-in_err-play_file-clause-same g c =
    let items = c.requires.items.0 in
    let read = c.requires.items.1 in
    (report_broken (λ w. w.out.ghost_name) (λ w. g.K.Sink.contents w.out.now) (λ w. g.K.Sink.faults w.out.now) c.args.player.now.policy.now (told_in c.args.file.now items) _ c.from_residual.result c.args.player.now.teller c.play_file.new.self.teller c.from_residual.ensures.1 (heard_first (Writes (λ w. w.out.ghost_name) (λ w. g.K.Sink.contents w.out.now) (λ w. g.K.Sink.faults w.out.now)) c.args.player.now.policy.now (told_in c.args.file.now items) _ c.args.player.now.teller c.play_file.new.self.teller (c.in_err-play_file.ensures items read).told)).same

pub returns-in_err-play_file-clause-writes : goal.returns-in_err-play_file-clause-writes
returns-in_err-play_file-clause-writes g c = λ items read.
    (report_broken (λ w. w.out.ghost_name) (λ w. g.K.Sink.contents w.out.now) (λ w. g.K.Sink.faults w.out.now) c.args.player.now.policy.now (told_in c.args.file.now items) _ c.from_residual.result c.args.player.now.teller c.play_file.new.self.teller c.from_residual.ensures.1 (heard_first (Writes (λ w. w.out.ghost_name) (λ w. g.K.Sink.contents w.out.now) (λ w. g.K.Sink.faults w.out.now)) c.args.player.now.policy.now (told_in c.args.file.now items) _ c.args.player.now.teller c.play_file.new.self.teller (c.in_err-play_file.ensures items read).told)).writes

pub returns-in_err-play_file-clause-counted : goal.returns-in_err-play_file-clause-counted
returns-in_err-play_file-clause-counted g c =
    let items = c.requires.items.0 in
    let read = c.requires.items.1 in
    (report_broken (λ w. w.out.ghost_name) (λ w. g.K.Sink.contents w.out.now) (λ w. g.K.Sink.faults w.out.now) c.args.player.now.policy.now (told_in c.args.file.now items) _ c.from_residual.result c.args.player.now.teller c.play_file.new.self.teller c.from_residual.ensures.1 (heard_first (Writes (λ w. w.out.ghost_name) (λ w. g.K.Sink.contents w.out.now) (λ w. g.K.Sink.faults w.out.now)) c.args.player.now.policy.now (told_in c.args.file.now items) _ c.args.player.now.teller c.play_file.new.self.teller (c.in_err-play_file.ensures items read).told)).counted

pub returns-clause-same : goal.returns-clause-same
returns-clause-same g c =
    let items = c.requires.items.0 in
    let read = c.requires.items.1 in
    let all = (c.in_ok-play_file.ensures items read) in
    (report_ended (λ w. w.out.ghost_name) (λ w. g.K.Sink.contents w.out.now) (λ w. g.K.Sink.faults w.out.now) c.args.player.now.policy.now (told_in c.args.file.now items) c.put_last.result c.args.player.now.teller c.play_file.new.self.teller c.put_last.new.self (heard_all (Writes (λ w. w.out.ghost_name) (λ w. g.K.Sink.contents w.out.now) (λ w. g.K.Sink.faults w.out.now)) c.args.player.now.policy.now (told_in c.args.file.now items) c.args.player.now.teller c.play_file.new.self.teller all.told) c.put_last.ensures.same
    (subst (λ (n : ℕ). Wrote c.put_last.result (last_line n) (g.K.Sink.contents c.play_file.new.self.teller.out.now) (g.K.Sink.contents c.put_last.new.self.out.now)) all.count c.put_last.ensures.writes) c.put_last.ensures.counted).same

pub returns-clause-writes : goal.returns-clause-writes
returns-clause-writes g c = λ items read.
    let all = (c.in_ok-play_file.ensures items read) in
    (report_ended (λ w. w.out.ghost_name) (λ w. g.K.Sink.contents w.out.now) (λ w. g.K.Sink.faults w.out.now) c.args.player.now.policy.now (told_in c.args.file.now items) c.put_last.result c.args.player.now.teller c.play_file.new.self.teller c.put_last.new.self (heard_all (Writes (λ w. w.out.ghost_name) (λ w. g.K.Sink.contents w.out.now) (λ w. g.K.Sink.faults w.out.now)) c.args.player.now.policy.now (told_in c.args.file.now items) c.args.player.now.teller c.play_file.new.self.teller all.told) c.put_last.ensures.same
    (subst (λ (n : ℕ). Wrote c.put_last.result (last_line n) (g.K.Sink.contents c.play_file.new.self.teller.out.now) (g.K.Sink.contents c.put_last.new.self.out.now)) all.count c.put_last.ensures.writes) c.put_last.ensures.counted).writes

pub returns-clause-counted : goal.returns-clause-counted
returns-clause-counted g c =
    let items = c.requires.items.0 in
    let read = c.requires.items.1 in
    let all = (c.in_ok-play_file.ensures items read) in
    (report_ended (λ w. w.out.ghost_name) (λ w. g.K.Sink.contents w.out.now) (λ w. g.K.Sink.faults w.out.now) c.args.player.now.policy.now (told_in c.args.file.now items) c.put_last.result c.args.player.now.teller c.play_file.new.self.teller c.put_last.new.self (heard_all (Writes (λ w. w.out.ghost_name) (λ w. g.K.Sink.contents w.out.now) (λ w. g.K.Sink.faults w.out.now)) c.args.player.now.policy.now (told_in c.args.file.now items) c.args.player.now.teller c.play_file.new.self.teller all.told) c.put_last.ensures.same
    (subst (λ (n : ℕ). Wrote c.put_last.result (last_line n) (g.K.Sink.contents c.play_file.new.self.teller.out.now) (g.K.Sink.contents c.put_last.new.self.out.now)) all.count c.put_last.ensures.writes) c.put_last.ensures.counted).counted
