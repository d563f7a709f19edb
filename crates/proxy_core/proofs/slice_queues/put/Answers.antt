use Rattle.std.proofs.Common.{◌≡◌, [], ◌∷◌, set, slice_get, Some, sym, subst, ℕ, arith}
use Rattle.std.proofs.lemmas.Option.{slice_get_read}
use Rattle.proxy_core.specs.Handing.{HaveRoom, AreHanded}
use Rattle.proxy_core.proofs.Handed.{put_handed, none_put, put_room, less_room}
use Rattle.proxy_core.proofs.slice_queues.put.Goals as goal

pub returns-then-at-len-clause-handed : goal.returns-then-at-len-clause-handed
returns-then-at-len-clause-handed c =
    let xs = c.args.queues.now in
    let ok = xs.ok.0 in
    let small = c.if-at-len.true in
    let count = c.len.ensures in
    let gx : slice_get xs.items c.from-at.result ≡ Some c.index_mut.result.now = slice_get_read xs.items _ c.from-at.result c.index_mut.result.now ok (omega arith) c.index_mut.ensures.value in
    subst (λ (k : ℕ). AreHanded ((c.args.slot, c.args.message) ∷ []) xs.items (set xs.items k c.push.new.self)) (sym c.from-at.ensures)
    (put_handed xs.items c.args.slot c.args.message c.index_mut.result.now c.push.new.self (subst (λ (k : ℕ). slice_get xs.items k ≡ Some c.index_mut.result.now) c.from-at.ensures gx) c.push.ensures.stands)

pub returns-then-at-len-clause-room : goal.returns-then-at-len-clause-room
returns-then-at-len-clause-room c = λ later room.
    let xs = c.args.queues.now in
    let ok = xs.ok.0 in
    let small = c.if-at-len.true in
    let count = c.len.ensures in
    subst (λ (k : ℕ). HaveRoom later (set xs.items k c.push.new.self)) (sym c.from-at.ensures)
    (put_room xs.items c.args.slot c.args.message later c.index_mut.result.now c.push.new.self
    (subst (λ (k : ℕ). slice_get xs.items k ≡ Some c.index_mut.result.now) c.from-at.ensures
    (slice_get_read xs.items _ c.from-at.result c.index_mut.result.now ok (omega arith) c.index_mut.ensures.value)) c.push.ensures.room room)

pub returns-else-at-len-clause-room : goal.returns-else-at-len-clause-room
returns-else-at-len-clause-room c = λ later room. less_room c.args.queues.now.items c.args.slot c.args.message later room

pub returns-else-at-len-clause-handed : goal.returns-else-at-len-clause-handed
returns-else-at-len-clause-handed c =
    let ok = c.args.queues.now.ok.0 in
    let out = c.if-at-len.false in
    let count = c.len.ensures in
    let same = c.from-at.ensures in
    none_put c.args.queues.now.items c.args.slot c.args.message (omega arith)
