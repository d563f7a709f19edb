use Rattle.std.proofs.Common.{ℕ, ◌≡◌, List, ◌++◌, length, ap₂, ◌∙◌, rules}
use Rattle.std.specs.Prelude.{vec_len}
use Rattle.slice_side.proofs.Outs.{filled}
use Rattle.slice_side.proofs.packet_outs.marked.Goals as goal

pub returns : goal.returns
returns c =
    let size : vec_len c.in_ok-bytes.bytes ≡ length c.in_ok-bytes.bytes.items = search rules in
    c.in_ok-extend_from_slice.ensures.items
    ∙ ap₂ (λ (front mark : List ℕ). front ++ mark)
    (c.in_ok-resize.ensures.items ∙ filled c.in_ok-bytes.bytes.items c.args.packet.now c.max.result (vec_len c.in_ok-bytes.bytes) c.in_ok-bytes.ensures.items size c.max.ensures)
    c.probe_trailer.ensures
