use Rattle.std.proofs.Common.{◌≡◌, Option, true, false, Some, sym, ap, ◌∙◌, arith, inl, inr}
use Rattle.std.specs.Prelude.{ℕ, slice_get}
use Rattle.std.proofs.lemmas.Option.{slice_get_cases}
use Rattle.flowspace.specs.Slices.{slot_named}
use Rattle.policy_change.specs.Planned.{stays}
use Rattle.policy_change.proofs.Staying.{planned_one_more, planned_no_more}
use Rattle.policy_change.proofs.planned.add_planned.Goals as goal
use Rattle.policy_change.proofs.planned.add_planned.Goals.{in-Some+then-not-stays+in_ok-push, in-Some+else-not-stays, in_default}

pub loop-index-preserved : goal.loop-index-preserved
loop-index-preserved c =
    let new = c.args.new.now in
    let s = c.args.slice.now in
    let pairs = c.args.book.now.booked in
    let slot : c.slot_named-slot.result ≡ slot_named new.slices s.name = c.slot_named-slot.ensures ∙ ap (slot_named new.slices) c.as_str.ensures in
    elim c.match-at.branch [
      | in-Some+then-not-stays+in_ok-push w ↦
          let at : slice_get pairs c.loop-index.index ≡ Some w.in-Some.booked = sym c.at.ensures.value ∙ w.in-Some.is in
          let goes : stays new.rules (slot_named new.slices s.name) w.in-Some.booked ≡ false = ap (λ (o : Option ℕ). stays new.rules o w.in-Some.booked) (sym slot) ∙ sym w.stays.ensures ∙ w.if-not-stays.true in
          rw w.to-is (planned_one_more new s pairs c.args.to.now.items c.loop-index.to.items w.push.new.self.items c.loop-index.index w.in-Some.booked at goes c.loop-index.invariant w.in_ok-push.ensures.items)
      | in-Some+else-not-stays w ↦
          let at : slice_get pairs c.loop-index.index ≡ Some w.in-Some.booked = sym c.at.ensures.value ∙ w.in-Some.is in
          let stay : stays new.rules (slot_named new.slices s.name) w.in-Some.booked ≡ true = ap (λ (o : Option ℕ). stays new.rules o w.in-Some.booked) (sym slot) ∙ sym w.stays.ensures ∙ w.if-not-stays.false in
          rw w.to-is (planned_no_more new s pairs c.args.to.now.items c.loop-index.to.items c.loop-index.index w.in-Some.booked at stay c.loop-index.invariant)
      | in_default w ↦ elim (slice_get_cases pairs c.loop-index.index).1 [
        | inl found ↦ absurd (w.in_default.not-Some found.0 (c.at.ensures.value ∙ found.2))
        | inr past ↦ absurd (let last = past.0 in let count = c.count-index-end.ensures.value in let within = c.loop-index-test.true in omega (arith, last, count, within))
      ]
    ]
