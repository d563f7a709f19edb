use Rattle.std.proofs.Common.{◌≡◌, ◌++◌, take, drop, refl, ap, sym, arith}
use Rattle.std.specs.Prelude.{Some}
use Rattle.std.proofs.lemmas.Grind.{common_steps}
use Rattle.std.proofs.lemmas.List.{take-append-drop, drop-drop}
use Rattle.fv_live.proofs.source.MemorySourceSource.take.Goals as goal

pub returns-clause-moved : goal.returns-clause-moved
returns-clause-moved c =
    let from = c.args.self.now.from in
    let bytes = c.args.self.now.bytes.items in
    let n = c.min-count.result in
    let piece : take n (c.copy_from_slice.new.self ++ drop n c.args.into.now) ≡ take n (drop from bytes) = grind (arith, common_steps) in
    (drop n (drop from bytes), rw (piece, take-append-drop) refl, ap Some (sym (drop-drop n from bytes)))
