use Rattle.std.proofs.Common.{sym, subst, Ok, IfOk}
use Rattle.of10_message.specs.declared.controller.FromController.{FromController}
use Rattle.slice_words.specs.Answers.{read_answer}
use Rattle.slice_side.specs.Reactions.{Follows}
use Rattle.slice_side.proofs.local_answers.local.Goals as goal

pub returns-in-SetConfig-clause-follows : goal.returns-in-SetConfig-clause-follows
unfolding read_answer
returns-in-SetConfig-clause-follows c s sight past shown =
    subst (λ (m : FromController). IfOk c.setting.result (Follows s sight c.args.frame.now (Ok m) (read_answer s sight.view past c.args.moment m c.args.frame.now) c.args.moment)) (sym c.in-SetConfig.is) (c.setting.ensures.follows s sight)
