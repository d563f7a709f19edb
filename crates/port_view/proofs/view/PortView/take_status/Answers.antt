use Rattle.std.proofs.Common.{◌≡◌, ◌≢◌, sym, ap, ◌∙◌, inl, inr}
use Rattle.port_view.specs.declared.status_answers.Kept.TheVariants.{Kept, Ignored, TooManyPorts}
use Rattle.port_view.specs.KnownPorts.{kept_of, changed}
use Rattle.port_view.proofs.Knowing.{changed-kept, changed-not_kept, kept_of-parts, IsAscending-changed_plainly, few-changed_plainly, PortsStand-taken}
use Rattle.port_view.proofs.view.PortView.take_status.Goals as goal

pub invariant_of-self-in-Kept : goal.invariant_of-self-in-Kept
invariant_of-self-in-Kept c =
    let kept : kept_of c.args.status.now c.self.inside.ports.items ≡ Kept =
    ap (kept_of c.args.status.now) (sym c.deref.ensures.value) ∙ sym c.judged-place.ensures.answer ∙ c.in-Kept.is in
    rw c.in_ok-change-in-Kept.ensures.changed (
      IsAscending-changed_plainly c.args.status.now c.self.inside.ports.items c.self.invariant.0,
      few-changed_plainly c.args.status.now c.self.inside.ports.items (kept_of-parts c.args.status.now c.self.inside.ports.items kept).1 c.self.invariant.1,
    )

pub returns-in_ok-change-in-Kept-clause-ports : goal.returns-in_ok-change-in-Kept-clause-ports
returns-in_ok-change-in-Kept-clause-ports c =
    let kept : kept_of c.args.status.now c.self.inside.ports.items ≡ Kept =
    ap (kept_of c.args.status.now) (sym c.deref.ensures.value) ∙ sym c.judged-place.ensures.answer ∙ c.in-Kept.is in
    c.in_ok-change-in-Kept.ensures.changed ∙ sym (changed-kept c.args.status.now c.self.inside.ports.items kept) ∙ ap (changed c.args.status.now) c.self.view_is

pub returns-in_ok-change-in-Kept-clause-stands : goal.returns-in_ok-change-in-Kept-clause-stands
returns-in_ok-change-in-Kept-clause-stands c features statuses s =
    PortsStand-taken features statuses c.args.status.now c.args.self.now _ s (returns-in_ok-change-in-Kept-clause-ports c)

pub returns-in-Ignored : goal.returns-in-Ignored
returns-in-Ignored c =
    let is : kept_of c.args.status.now c.args.self.now ≡ c.judged-place.result.1 =
    ap (kept_of c.args.status.now) (sym (c.deref.ensures.value ∙ c.self.view_is)) ∙ sym c.judged-place.ensures.answer in
    let not_kept : kept_of c.args.status.now c.args.self.now ≢ Kept = λ e. elim c.in-Ignored.is [
      | inl ignored ↦ let both : Ignored ≡ Kept = sym ignored ∙ sym is ∙ e in cc
      | inr too_many ↦ let both : TooManyPorts ≡ Kept = sym too_many ∙ sym is ∙ e in cc
    ] in
    let same = changed-not_kept c.args.status.now c.args.self.now not_kept in
    record {
      value = sym is;
      ports = sym same;
      answer = λ features statuses s. sym is ∙ ap (kept_of c.args.status.now) s.known;
      stands = λ features statuses s. PortsStand-taken features statuses c.args.status.now c.args.self.now c.args.self.now s (sym same);
      unchanged = tt;
      memory = tt;
    }
