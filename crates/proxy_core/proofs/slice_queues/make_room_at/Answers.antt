use Rattle.std.proofs.Common.{ℕ, ◌≡◌, Some, slice_get, subst, arith}
use Rattle.std.proofs.lemmas.Option.{slice_get_read}
use Rattle.std.proofs.lemmas.Result.{err_from_is_err_and}
use Rattle.proxy_core.proofs.slice_queues.make_room_at.Goals as goal

pub returns-in_err-make_room-clause-full : goal.returns-in_err-make_room-clause-full
returns-in_err-make_room-clause-full c =
    let p = err_from_is_err_and c.from_residual.result c.from_residual.ensures.1 in
    let queues = c.args.queues.now in
    let ok = queues.ok.0 in
    let small = c.if-at-len.true in
    let count = c.len.ensures in
    let less = c.in_err-make_room.ensures.full in
    let there = slice_get_read queues.items _ c.from-at.result c.index_mut.result.now ok (omega arith) c.index_mut.ensures.value in
    rw p.1 (λ room. let enough = room c.index_mut.result.now (subst (λ (k : ℕ). slice_get queues.items k ≡ Some c.index_mut.result.now) c.from-at.ensures there) in absurd (omega (arith, less, enough)))
