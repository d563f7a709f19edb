use Rattle.std.proofs.Common.{true, inl, [], ◌∷◌, refl, ◌∙◌, arith}
use Rattle.live_session.specs.Stretches.{spot}
use Rattle.live_session.specs.Links.{OfLink, Without}
use Rattle.live_session.proofs.Linking.{are_links, ask_more, link_more, none_yet, rose_none, ends_by, not_given_up}
use Rattle.live_session.proofs.slice.dial_on.Goals as goal

pub loop-init : goal.loop-init
loop-init g c = record {
  can = tt;
  finite = tt;
  desk = refl;
  few = omega arith;
  rose = inl (omega arith);
  links = ([], refl, none_yet (g.D.Dialer.links c.args.dialer.now));
}

pub returns-in-Some-over_by-clause-links : goal.returns-in-Some-over_by-clause-links
returns-in-Some-over_by-clause-links g c =
    let h = c.loop.invariant.links in
    let end = c.ask_without_link-end.result in
    (Without end ∷ h.0, (spot c.loop.seat (g.C.Clock.coming c.loop.clock), h.1, c.ask_without_link-end.ensures.unlinked), ends_by c.in-Some-over_by.over (Without end) h.0 c.in-Some-over_by.ensures, are_links (g.D.Dialer.links c.args.dialer.now) (g.D.Dialer.links c.loop.dialer) true (Without end ∷ h.0) (ask_more (g.D.Dialer.links c.args.dialer.now) (g.D.Dialer.links c.loop.dialer) c.loop.asked end h.0 c.if-not-asked.true h.2))

pub returns-in-Some-over_by-clause-gave_up : goal.returns-in-Some-over_by-clause-gave_up
returns-in-Some-over_by-clause-gave_up g c = λ e. absurd (not_given_up c.in-Some-over_by.over c.ask_without_link-end.result c.in-Some-over_by.ensures e)

pub loop-preserved-then-has_ended : goal.loop-preserved-then-has_ended
loop-preserved-then-has_ended g c =
    let h = c.loop.invariant.links in
    let end = c.ask_without_link-end.result in
    record {
      can = tt;
      finite = tt;
      desk = c.ask_without_link-end.ensures.desk ∙ c.loop.invariant.desk;
      few = c.loop.invariant.few;
      rose = c.loop.invariant.rose;
      links = (Without end ∷ h.0, (spot c.loop.seat (g.C.Clock.coming c.loop.clock), h.1, c.ask_without_link-end.ensures.unlinked), ask_more (g.D.Dialer.links c.args.dialer.now) (g.D.Dialer.links c.loop.dialer) c.loop.asked end h.0 c.if-not-asked.true h.2);
    }

pub returns-in-Some-over_by-2-clause-links : goal.returns-in-Some-over_by-2-clause-links
returns-in-Some-over_by-2-clause-links g c =
    let h = c.loop.invariant.links in
    (OfLink c.in-Some-dial_once.end ∷ h.0, (spot c.loop.seat (g.C.Clock.coming c.loop.clock), h.1, c.in-Some-dial_once.ensures.link), ends_by c.in-Some-over_by-2.over (OfLink c.in-Some-dial_once.end) h.0 c.in-Some-over_by-2.ensures, are_links (g.D.Dialer.links c.args.dialer.now) (g.D.Dialer.links c.dial_once.new.dialer) c.loop.asked (OfLink c.in-Some-dial_once.end ∷ h.0) (link_more (g.D.Dialer.links c.args.dialer.now) (g.D.Dialer.links c.loop.dialer) (g.D.Dialer.links c.dial_once.new.dialer) c.loop.asked c.in-Some-dial_once.end h.0 h.2 c.in-Some-dial_once.ensures.told))

pub loop-preserved : goal.loop-preserved
loop-preserved g c =
    let h = c.loop.invariant.links in
    record {
      can = tt;
      finite = tt;
      desk = c.in-Some-dial_once.ensures.desk ∙ c.loop.invariant.desk;
      few = omega arith;
      rose = rose_none c.loop.failed (g.D.Dialer.faults c.args.dialer.now c.args.controller.now.address.now) (g.D.Dialer.faults c.loop.dialer c.args.controller.now.address.now) (g.D.Dialer.faults c.dial_once.new.dialer c.args.controller.now.address.now) c.loop.invariant.rose c.in-Some-dial_once.ensures.count;
      links = (OfLink c.in-Some-dial_once.end ∷ h.0, (spot c.loop.seat (g.C.Clock.coming c.loop.clock), h.1, c.in-Some-dial_once.ensures.link), link_more (g.D.Dialer.links c.args.dialer.now) (g.D.Dialer.links c.loop.dialer) (g.D.Dialer.links c.dial_once.new.dialer) c.loop.asked c.in-Some-dial_once.end h.0 h.2 c.in-Some-dial_once.ensures.told);
    }
