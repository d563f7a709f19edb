use Rattle.std.proofs.Common.{◌≡◌, ◌∙◌, ◌<◌, ◌≤◌, ap, arith, length}
use Rattle.fv_base.specs.Counts.{count_place}
use Rattle.fv_base.proofs.Raised.{faults_at-place, faults_at-none}
use Rattle.fv_base.proofs.counts.Counts.of.Goals as goal

pub returns-then-at-len : goal.returns-then-at-len
returns-then-at-len c =
    let entries = c.args.self.now.declared.items in
    let name = c.args.name.now in
    let at : c.place-at.result ≡ count_place entries name = c.place-at.ensures ∙ ap (λ e. count_place e name) c.deref.ensures.value in
    let there : count_place entries name < length entries = omega arith in
    cc (faults_at-place c.args.self.now.elsewhere entries c.index.result.now name there)

pub returns-else-at-len : goal.returns-else-at-len
returns-else-at-len c =
    let entries = c.args.self.now.declared.items in
    let name = c.args.name.now in
    let at : c.place-at.result ≡ count_place entries name = c.place-at.ensures ∙ ap (λ e. count_place e name) c.deref.ensures.value in
    let none : length entries ≤ count_place entries name = omega arith in
    cc (faults_at-none c.args.self.now.elsewhere entries name none)
