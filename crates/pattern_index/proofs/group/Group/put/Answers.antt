use Rattle.std.proofs.Common.{if◌then◌else◌, ap, ◌∙◌, Some, None}
use Rattle.std.specs.Map.{lookup}
use Rattle.std.specs.BTreeMap.{is_at}
use Rattle.pattern_index.specs.Keys.{gives, key_of, kept_cmp}
use Rattle.pattern_index.specs.Groups.{lesser_place}
use Rattle.pattern_index.proofs.Outcomes.{at_err}
use Rattle.pattern_index.proofs.Putting.{put_in}
use Rattle.pattern_index.proofs.group.Group.put.Goals as goal

pub returns-clause-put : goal.returns-clause-put
returns-clause-put c =
    put_in c.args.m.now c.args.place c.no_later-least.result c.args.self.now.shape c.key_of-value.result c.args.self.now.places c.insert.new.self c.requires
    (c.key_of-value.ensures ∙ ap (λ s. key_of s c.args.m.now) c.shape.ensures)
    (c.no_later-least.ensures ∙ ap (lesser_place (Some c.args.place)) (c.copied.ensures ∙ c.get.ensures.value)) c.in_ok-insert.ensures.updates.0

pub returns-in_err-insert-clause-kept : goal.returns-in_err-insert-clause-kept
returns-in_err-insert-clause-kept c =
    at_err c.from_residual.result
    (λ m. ap (λ entries. if gives c.args.self.now.shape m then lookup (is_at (kept_cmp (record { value = key_of c.args.self.now.shape m }))) entries else None) c.in_err-insert.ensures.err)
