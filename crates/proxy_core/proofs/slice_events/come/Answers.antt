use Rattle.std.proofs.Common.{List, [], ◌∷◌, ℕ, subst}
use Rattle.proxy_core.specs.Slots.{HasOnly}
use Rattle.proxy_core.proofs.Handed.{only_one}
use Rattle.proxy_core.proofs.slice_events.come.Goals as goal

pub returns-clause-ok : goal.returns-clause-ok
returns-clause-ok c = (
  c.come_up.ensures,
  subst (λ (m : List ℕ). HasOnly (m ∷ []) c.args.queue.now c.push.new.self) c.in_ok-hello.ensures.value
      (only_one c.in_ok-hello.hello c.args.queue.now c.reserve.new.self c.clear.new.self c.push.new.self c.reserve.ensures.stands c.clear.ensures.stands c.push.ensures.stands),
)
