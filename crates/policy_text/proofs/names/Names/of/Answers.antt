use Rattle.std.proofs.Common.{Some, ap, ◌-◌, ◌∙◌, sym, arith}
use Rattle.std.proofs.lemmas.Map.Text.{btree_map_updates_str}
use Rattle.policy_text.proofs.Named.{slot_from_put, slot_from_whole}
use Rattle.policy_text.proofs.names.Names.of.Goals as goal

pub loop-slot-preserved : goal.loop-slot-preserved
loop-slot-preserved c = (
  omega (arith, c.loop-slot.invariant.0),
  λ name.
      slot_from_put c.args.slices.now c.loop-slot.slot c.index-slices-place.result name c.as_str.result.now _ _ (omega (arith, c.loop-slot-test.true)) c.loop-slot.invariant.0 c.index-slices-place.is (c.as_str.ensures ∙ sym (ap (λ s. s.name) c.index-slices-place.is))
      (c.loop-slot.invariant.1 name)
      (btree_map_updates_str c.as_str.result.now c.loop-slot.slots c.insert.new.self (Some (c.loop-slot.slot - 1)) c.in_ok-insert.ensures.updates name),
)

pub invariant_of-result : goal.invariant_of-result
invariant_of-result c = λ name. c.loop-slot.invariant.1 name ∙ slot_from_whole c.args.slices.now c.loop-slot.slot name c.loop-slot-test.false
