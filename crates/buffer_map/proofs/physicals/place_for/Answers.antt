use Rattle.std.proofs.Common.{ltb, rules, arith}
use Rattle.std.proofs.lemmas.Bool.{ltb-true, ltb-false}
use Rattle.std.proofs.lemmas.List.Sorted.{IsPartitionPoint-from_clause, IsPartitionedBy-ltb}
use Rattle.buffer_map.proofs.physicals.place_for.Goals as goal

pub returns-clause-before : goal.returns-clause-before
returns-clause-before c k d before =
    let xs = c.args.all.now in
    let x = c.args.physical in
    let parted = IsPartitionPoint-from_clause (λ y. ltb y x) xs c.partition_point.result c.partition_point.ensures.partitioned (IsPartitionedBy-ltb (λ y. y) xs x c.requires) (λ a r g called. search rules) in
    omega (arith, ltb-true _ _ (parted.0 k d (omega arith) before))

pub returns-clause-after : goal.returns-clause-after
returns-clause-after c k d from within =
    let xs = c.args.all.now in
    let x = c.args.physical in
    let parted = IsPartitionPoint-from_clause (λ y. ltb y x) xs c.partition_point.result c.partition_point.ensures.partitioned (IsPartitionedBy-ltb (λ y. y) xs x c.requires) (λ a r g called. search rules) in
    ltb-false _ _ (parted.1 k d from within)
