use Rattle.std.proofs.Common.{◌≡◌, ◌∙◌, ◌<◌, ◌≤◌, ℕ, ap, sym, subst, arith, length, get_or}
use Rattle.std.specs.Prelude.{Some}
use Rattle.std.specs.List.{remove}
use Rattle.fv_live.specs.Links.{place_of_link}
use Rattle.fv_live.proofs.Linked.{first-there, rest-there, first-none, rest-none}
use Rattle.fv_live.proofs.links.take_first.Goals as goal

pub returns-then-at-len-clause-first : goal.returns-then-at-len-clause-first
returns-then-at-len-clause-first g c =
    let links = c.args.links.now.items in
    let to = c.args.to.now in
    let link = c.remove.result in
    let place : c.place-at.result ≡ place_of_link links to = c.place-at.ensures ∙ ap (λ e. place_of_link e to) c.deref.ensures.value in
    let there : place_of_link links to < length links = omega arith in
    ap Some (c.remove.ensures.value ∙ ap (λ q. get_or links q link) place) ∙ sym (first-there links link to there)

pub returns-then-at-len-clause-rest : goal.returns-then-at-len-clause-rest
returns-then-at-len-clause-rest g c =
    let links = c.args.links.now.items in
    let to = c.args.to.now in
    let place : c.place-at.result ≡ place_of_link links to = c.place-at.ensures ∙ ap (λ e. place_of_link e to) c.deref.ensures.value in
    let there : place_of_link links to < length links = omega arith in
    let Removed : ℕ → Type 0 = λ q. c.remove.new.self.items ≡ remove links q in
    rw (rest-there links to there) (subst Removed place c.remove.ensures.items)

pub returns-else-at-len-clause-first : goal.returns-else-at-len-clause-first
returns-else-at-len-clause-first g c =
    let links = c.args.links.now.items in
    let to = c.args.to.now in
    let place : c.place-at.result ≡ place_of_link links to = c.place-at.ensures ∙ ap (λ e. place_of_link e to) c.deref.ensures.value in
    let none : length links ≤ place_of_link links to = omega arith in
    sym (first-none links to none)

pub returns-else-at-len-clause-rest : goal.returns-else-at-len-clause-rest
returns-else-at-len-clause-rest g c =
    let links = c.args.links.now.items in
    let to = c.args.to.now in
    let place : c.place-at.result ≡ place_of_link links to = c.place-at.ensures ∙ ap (λ e. place_of_link e to) c.deref.ensures.value in
    let none : length links ≤ place_of_link links to = omega arith in
    sym (rest-none links to none)
