use Rattle.std.proofs.lemmas.Result.{on_ok_weaker}
use Rattle.of10_port.proofs.Written.{front_written}
use Rattle.of10_port.proofs.features.Features.put_front.Goals as goal

pub returns : goal.returns
returns c =
    on_ok_weaker c.put_u32-3.result
    (front_written c.args.self.now c.args.out.now.items c.put_u64.new.out.items c.put_u32.new.out.items c.extend_from_slice.new.self.items c.put_u32-2.new.out.items c.put_u32-3.new.out.items
    c.in_ok-put_u64.ensures.written c.in_ok-put_u32.ensures.written c.in_ok-extend_from_slice.ensures.items c.in_ok-put_u32-2.ensures.written)
    c.put_u32-3.ensures.written
