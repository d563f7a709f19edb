use Rattle.std.proofs.Common.{refl, ap, ◌∙◌, subst, length}
use Rattle.proxy_core.specs.Opening.{AreFresh, AreEmpty}
use Rattle.proxy_core.proofs.Beginning.{first_known_of}
use Rattle.proxy_core.proofs.desk.Session.new.Goals as goal

pub returns : goal.returns
returns c = record {
  told = refl;
  slices = ap (λ v. v.slices) c.in_ok-of.ensures ∙ c.in_ok-own.ensures.0;
  rules = ap (λ v. v.rules) c.in_ok-of.ensures ∙ c.in_ok-own.ensures.1;
  swaps = ap (λ v. v.swaps) c.in_ok-of.ensures ∙ c.in_ok-own.ensures.2;
  known = c.in_ok-new.ensures.known ∙ first_known_of c.args.features;
  states = subst (λ s. AreFresh s c.in_ok-fresh_states.field-0.items) c.slices-slices.ensures.value c.in_ok-fresh_states.ensures;
  queues = subst (λ s. AreEmpty (length s) c.in_ok-empty_queues.field-0.items) c.slices-slices.ensures.value c.in_ok-empty_queues.ensures;
}
