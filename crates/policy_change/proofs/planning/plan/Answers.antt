use Rattle.std.proofs.Common.{◌≡◌, sym, ap, subst, ◌∙◌}
use Rattle.std.proofs.lemmas.Result.{IfOk-weaker}
use Rattle.policy_change.specs.Plans.{plan_from, LeaveNoneOf, LeaveOthers}
use Rattle.policy_change.specs.Planned.{planned, books_of}
use Rattle.policy_change.proofs.Cleaned.{no_pair_left, treated_as_before}
use Rattle.policy_change.proofs.Staying.{others_lie}
use Rattle.policy_change.proofs.planning.plan.Goals as goal

pub returns-in_err-pairs-clause-kept : goal.returns-in_err-pairs-clause-kept
returns-in_err-pairs-clause-kept c = others_lie c.args.new.now c.args.old.now.slices c.args.states.now

pub returns-clause-gone : goal.returns-clause-gone
returns-clause-gone c =
    let pairs = planned c.args.new.now c.args.old.now.slices (books_of c.args.states.now) in
    let is : plan_from 0xff000005 c.deref.result.now ≡ plan_from 0xff000005 pairs =
    ap (plan_from 0xff000005) (c.deref.ensures.value ∙ c.in_ok-pairs.ensures.pairs ∙ ap (λ slices. planned c.args.new.now slices (books_of c.args.states.now)) c.slices.ensures.value) in
    IfOk-weaker c.messages.result (λ v. v.items ≡ plan_from 0xff000005 c.deref.result.now) (λ v. LeaveNoneOf pairs v.items) (λ v made. subst (LeaveNoneOf pairs) (sym (made ∙ is)) (no_pair_left 0xff000005 pairs)) c.messages.ensures

pub returns-clause-others : goal.returns-clause-others
returns-clause-others c =
    let pairs = planned c.args.new.now c.args.old.now.slices (books_of c.args.states.now) in
    let is : plan_from 0xff000005 c.deref.result.now ≡ plan_from 0xff000005 pairs =
    ap (plan_from 0xff000005) (c.deref.ensures.value ∙ c.in_ok-pairs.ensures.pairs ∙ ap (λ slices. planned c.args.new.now slices (books_of c.args.states.now)) c.slices.ensures.value) in
    IfOk-weaker c.messages.result (λ v. v.items ≡ plan_from 0xff000005 c.deref.result.now) (λ v. LeaveOthers pairs v.items) (λ v made. subst (LeaveOthers pairs) (sym (made ∙ is)) (treated_as_before 0xff000005 pairs)) c.messages.ensures

pub returns-clause-kept : goal.returns-clause-kept
returns-clause-kept c = others_lie c.args.new.now c.args.old.now.slices c.args.states.now
