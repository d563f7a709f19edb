use Rattle.std.proofs.Common.{sym, ◌∙◌}
use Rattle.of10_model.specs.Pattern.{has}
use Rattle.of10_model.specs.Inclusion.{includes_of}
use Rattle.flowspace.specs.Rules.{is_written_by}
use Rattle.action_check.specs.ActionRules.{counted_at}
use Rattle.action_check.proofs.Found.{any-passes_at}
use Rattle.action_check.proofs.action_rules.is_let_at.Goals as goal

pub returns-in-Piece : goal.returns-in-Piece
returns-in-Piece c =
    λ passes. rw c.in-Piece.is
    (any-passes_at c.args.policy.now.rules c.args.place (is_written_by c.args.slot) (λ rule. includes_of (counted_at c.args.port rule.pattern) c.in-Piece.cover)
    (rw c.rules-rules.ensures.value at (sym c.if-not-is_written_at.ensures)) (rw c.rules-rules.ensures.value at (sym c.covers_at.ensures ∙ passes)))

pub returns-in-Packet : goal.returns-in-Packet
returns-in-Packet c =
    λ passes. rw c.in-Packet.is
    (any-passes_at c.args.policy.now.rules c.args.place (is_written_by c.args.slot) (λ rule. has (counted_at c.args.port rule.pattern) c.in-Packet.header)
    (rw c.rules-rules.ensures.value at (sym c.if-not-is_written_at.ensures)) (rw c.rules-rules.ensures.value at (sym c.has_header_at.ensures ∙ passes)))
