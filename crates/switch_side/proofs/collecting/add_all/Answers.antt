use Rattle.switch_side.proofs.Gathering.{next_coming, all_came}
use Rattle.switch_side.proofs.collecting.add_all.Goals as goal

pub loop-size-preserved : goal.loop-size-preserved
loop-size-preserved c = record {
  type = c.loop-size.invariant.type;
  coming =
      next_coming c.args.kind c.args.number c.in-Some.sent c.args.entries.now c.loop-size.rest.now c.split_at.result.0.now c.split_at.result.1.now c.args.collections.now c.loop-size.collections c.add.new.collections c.loop-size.invariant.coming
      (record { size = c.in-Some-entry_size.size; there = c.in-Some-entry_size.ensures.value; front = c.split_at.ensures.front; back = c.split_at.ensures.back })
      c.add.ensures.stands c.add.ensures.room;
}

pub returns : goal.returns
returns c =
    all_came c.args.kind c.args.number c.in-Some.sent c.args.entries.now c.loop-size.rest.now c.args.collections.now c.loop-size.collections c.loop-size.invariant.coming c.in_default-entry_size.ensures.value c.loop-size.invariant.type
