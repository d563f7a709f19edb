use Rattle.std.proofs.Common.{◌≡◌, ◌∙◌, ◌<◌, ap, refl, arith, length}
use Rattle.fv_base.specs.declared.counts.Count.{Count}
use Rattle.fv_base.specs.Counts.{count_place}
use Rattle.fv_base.proofs.Raised.{faults_at-added, has_count-added, has_count-again}
use Rattle.fv_base.proofs.counts.Counts.declare.Goals as goal

pub returns-then-place-len-clause-declared : goal.returns-then-place-len-clause-declared
returns-then-place-len-clause-declared c at =
    let entries = c.args.self.now.declared.items in
    let name = c.args.name.now in
    let place : c.place.result ≡ count_place entries name = c.place.ensures ∙ ap (λ e. count_place e name) c.deref.ensures.value in
    let there : count_place entries name < length entries = omega arith in
    has_count-again entries name at there

pub returns-clause-count : goal.returns-clause-count
returns-clause-count c at =
    let entry : Count = record { name = c.in_ok-name.name; faults = c.args.self.now.elsewhere } in
    rw c.in_ok-push.ensures.items (faults_at-added c.args.self.now.elsewhere c.args.self.now.declared.items entry at refl)

pub returns-clause-declared : goal.returns-clause-declared
returns-clause-declared c at =
    let entry : Count = record { name = c.in_ok-name.name; faults = c.args.self.now.elsewhere } in
    rw (c.in_ok-push.ensures.items, has_count-added c.args.self.now.declared.items entry at, c.in_ok-name.ensures.ok) refl
