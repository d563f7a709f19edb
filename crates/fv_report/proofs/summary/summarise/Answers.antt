use Rattle.std.proofs.Common.{ℕ, List, ◌≡◌, ◌∙◌, [], Ok, length, ap, subst, sym}
use Rattle.flowspace.specs.Policies.{PolicyView}
use Rattle.recording.specs.Recordings.{read_items}
use Rattle.desk_words.specs.Recorded.{told_in}
use Rattle.run_words.specs.Summaries.{summary, summary_text}
use Rattle.desk_words.specs.Reports.{all_lines}
use Rattle.fv_report.specs.Writing.{Wrote}
use Rattle.fv_report.specs.Counting.{HasCounted, Counts, lane_told_in, slice_told_in}
use Rattle.event_player.specs.Telling.{ByLine}
use Rattle.event_player.proofs.Cues.{heard_all, heard_first}
use Rattle.event_player.proofs.Players.{tells_by}
use Rattle.event_player.proofs.Hearing.{only_memory}
use Rattle.fv_report.proofs.Counting.{counted_lines, summary_told, nothing_counted}
use Rattle.fv_report.proofs.summary.summarise.Goals as goal

pub made-requires : goal.made-requires
made-requires g c =
    let player = c.new-player.result in
    let items = c.requires.0 in
    let read = subst (λ (p : PolicyView). read_items (length p.slices) c.args.bytes.now ≡ Ok items) (sym c.new-player.ensures.policy) c.requires.1 in
    let lines = all_lines player.policy.now (told_in c.args.bytes.now items) in
    let begun = subst (HasCounted c.slice_count.result [] (λ slot. [])) (sym c.new-player.ensures.teller) c.in_ok-counter.ensures in
    let counts = counted_lines lines player.teller c.play_file.new.self.teller c.slice_count.result [] (λ slot. []) begun (heard_all Counts player.policy.now (told_in c.args.bytes.now items) player.teller c.play_file.new.self.teller (c.in_ok-play_file.ensures items read).told) in
    counts.known ∙ c.slice_count.ensures

pub returns-in_err-play_file-clause-counted : goal.returns-in_err-play_file-clause-counted
returns-in_err-play_file-clause-counted g c =
    let player = c.new-player.result in
    let items = c.requires.0 in
    let read = subst (λ (p : PolicyView). read_items (length p.slices) c.args.bytes.now ≡ Ok items) (sym c.new-player.ensures.policy) c.requires.1 in
    let lines = all_lines player.policy.now (told_in c.args.bytes.now items) in
    nothing_counted c.in_err-play_file.field-0.0 c.from_residual-in_err-play_file.result _ c.from_residual-in_err-play_file.ensures.1
    (only_memory Counts (λ fault old new line memory. memory) c.in_err-play_file.field-0.0 lines player.teller c.play_file.new.self.teller (heard_first Counts player.policy.now (told_in c.args.bytes.now items) _ player.teller c.play_file.new.self.teller (c.in_err-play_file.ensures items read).told))

pub returns-clause-writes : goal.returns-clause-writes
returns-clause-writes g c = λ items read.
    let p = c.args.policy.now in
    let player = c.new-player.result in
    let records = told_in c.args.bytes.now items in
    let lines = all_lines p records in
    let slices = λ (slot : ℕ). slice_told_in slot lines in
    let slots = c.slice_count.result in
    let begun = subst (HasCounted slots [] (λ slot. [])) (sym c.new-player.ensures.teller) c.in_ok-counter.ensures in
    let all = tells_by (ByLine Counts) player.policy.now p records (Ok tt) player c.play_file.new.self c.new-player.ensures.policy
    (c.in_ok-play_file.ensures items (subst (λ (q : PolicyView). read_items (length q.slices) c.args.bytes.now ≡ Ok items) (sym c.new-player.ensures.policy) read)) in
    let counts = counted_lines lines player.teller c.play_file.new.self.teller slots [] (λ slot. []) begun (heard_all Counts p records player.teller c.play_file.new.self.teller all.told) in
    let made : c.in_ok-text.text.items ≡ summary_text c.play_file.new.self.place.number (lane_told_in lines) slices p.slices = c.in_ok-text.ensures slots (lane_told_in lines) slices counts in
    let is : c.in_ok-text.text.items ≡ summary p records = made ∙ ap (λ (events : ℕ). summary_text events (lane_told_in lines) slices p.slices) all.count ∙ summary_told p records in
    subst (λ (text : List ℕ). Wrote c.put.result text (g.K.Sink.contents c.args.out.now) (g.K.Sink.contents c.put.new.out)) (c.deref.ensures.value ∙ is) c.put.ensures.writes
