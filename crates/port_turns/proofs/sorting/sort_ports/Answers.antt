use Rattle.std.proofs.Common.{◌++◌, ◌/◌, List, ℕ, length, take, drop, ap, ◌∙◌}
use Rattle.of10_port.specs.Ports.{port_bytes}
use Rattle.port_turns.proofs.Ordered.{frame_with}
use Rattle.port_turns.proofs.sorting.sort_ports.Goals as goal

pub of-requires : goal.of-requires
of-requires c =
    let same = c.as_slice-bytes.ensures.value in
    let ports = c.deref.result.now in
    frame_with c.args.frame.now _ ports c.as_slice-bytes.ensures.frame c.requires.whole c.requires.long
    (ap length c.deref.ensures.value ∙ c.in_ok-ports.ensures.count ∙ ap (λ (l : List ℕ). length (drop 32 l) / 48) same) c.in_ok-sorted.ensures.size
    (c.in_ok-sorted.ensures.value ∙ ap (λ (l : List ℕ). take 32 l ++ port_bytes ports) same)
