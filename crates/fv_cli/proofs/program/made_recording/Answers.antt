use Rattle.std.proofs.Common.{ℕ, List, ◌≡◌, ◌∙◌, length, Ok, ap, sym, subst}
use Rattle.std.proofs.lemmas.Result.{IfOk-weaker}
use Rattle.recording.specs.Recordings.{all_told, read_items}
use Rattle.desk_words.specs.Recorded.{told_in}
use Rattle.fv_generator.specs.Made.{records_of, recording_of}
use Rattle.fv_generator.specs.Policies.{the_policy}
use Rattle.fv_generator.proofs.Accepted.{recording_is_read}
use Rattle.fv_cli.proofs.Making.{made_is_told}
use Rattle.fv_cli.proofs.program.made_recording.Goals as goal

pub returns-clause-read : goal.returns-clause-read
unfolding the_policy
returns-clause-read c =
    let told = all_told 8 (records_of c.args.seed c.args.count) in
    IfOk-weaker c.made.result (λ v. v.items ≡ recording_of c.args.seed c.args.count) (λ v. read_items (length the_policy.slices) v.items ≡ Ok told)
    (λ v made. subst (λ (bytes : List ℕ). read_items (length the_policy.slices) bytes ≡ Ok told) (sym made) (recording_is_read c.args.seed c.args.count c.requires)) c.made.ensures

pub returns-clause-told : goal.returns-clause-told
returns-clause-told c =
    let told = all_told 8 (records_of c.args.seed c.args.count) in
    IfOk-weaker c.made.result (λ v. v.items ≡ recording_of c.args.seed c.args.count) (λ v. told_in v.items told ≡ records_of c.args.seed c.args.count)
    (λ v made. ap (λ (bytes : List ℕ). told_in bytes told) made ∙ made_is_told c.args.seed c.args.count) c.made.ensures
