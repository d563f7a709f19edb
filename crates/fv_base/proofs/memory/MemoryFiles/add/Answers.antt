use Rattle.std.proofs.Common.{refl}
use Rattle.fv_base.specs.declared.memory.File.{File}
use Rattle.fv_base.proofs.Filed.{file_at-added}
use Rattle.fv_base.proofs.memory.MemoryFiles.add.Goals as goal

pub returns-clause-told : goal.returns-clause-told
returns-clause-told c at =
    let file : File = record { path = c.in_ok-own.own; bytes = c.in_ok-bytes.bytes } in
    rw (c.push_reserved.ensures.items, c.reserve.ensures.items, file_at-added c.args.self.now.files.items file at, c.in_ok-own.ensures.ok, c.in_ok-bytes.ensures.items) refl
