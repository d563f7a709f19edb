use Rattle.std.proofs.Common.{◌≡◌, ◌<◌, ◌==◌, not, length, sym, ap, ◌∙◌, arith}
use Rattle.std.specs.List.{list_any}
use Rattle.std.proofs.lemmas.Bool.{and_from, eq-eqb}
use Rattle.std.proofs.lemmas.List.Folds.{list_any_at, list_any_none}
use Rattle.of10_model.specs.Meet.{is_disjoint}
use Rattle.flow_book.specs.declared.booked.Booked.{Booked}
use Rattle.flow_book.proofs.Searches.{shares, none_below, none_above, overlaps-shares}
use Rattle.flow_book.proofs.pairs.overlaps.Goals as goal

pub loop-index-init : goal.loop-index-init
loop-index-init c = none_below c.args.entries.now.booked c.requires.ascending c.args.priority c.args.pieces.now c.place_from-index.result c.place_from-index.ensures.below

pub returns-then-booked-priority : goal.returns-then-booked-priority
returns-then-booked-priority c =
    let lt : c.loop-index.index < length c.args.entries.now.booked = omega (arith, c.loop-index-test.true, c.len-index-end.ensures) in
    sym (
    list_any_none (shares c.args.priority c.args.pieces.now) c.args.entries.now.booked
    (none_above c.args.entries.now.booked c.requires.ascending c.args.priority c.args.pieces.now c.place_from-index.result c.loop-index.index c.at-entry.result.now c.loop-index.auto.index lt c.at-entry.ensures
    (λ e. c.if-booked-priority.true (ap (λ (b : Booked). b.priority) c.booked.ensures ∙ e)) c.place_from-index.ensures.rest c.loop-index.invariant))
    ∙ overlaps-shares c.args.pieces.now c.args.priority c.args.entries.now.booked

pub returns-then-shares_header : goal.returns-then-shares_header
returns-then-shares_header c =
    let x = c.at-entry.result.now in
    let lt : c.loop-index.index < length c.args.entries.now.booked = omega (arith, c.loop-index-test.true, c.len-index-end.ensures) in
    let of : x.priority ≡ c.args.priority = ap (λ (b : Booked). b.priority) (sym c.booked.ensures) ∙ c.if-booked-priority.false in
    sym (
    list_any_at (shares c.args.priority c.args.pieces.now) c.args.entries.now.booked c.loop-index.index x lt
    (ap (shares c.args.priority c.args.pieces.now) (c.at-entry.ensures x)
    ∙ and_from (x.priority == c.args.priority) (list_any (λ piece. not (is_disjoint x.pattern piece)) c.args.pieces.now) (eq-eqb x.priority c.args.priority of) (sym c.shares_header.ensures ∙ c.if-shares_header.true)))
    ∙ overlaps-shares c.args.pieces.now c.args.priority c.args.entries.now.booked

pub returns : goal.returns
returns c =
    sym (
    list_any_none (shares c.args.priority c.args.pieces.now) c.args.entries.now.booked
    (λ k d lt. c.loop-index.invariant k d (omega arith) (omega (arith, lt, c.loop-index-test.false, c.len-index-end.ensures))))
    ∙ overlaps-shares c.args.pieces.now c.args.priority c.args.entries.now.booked
