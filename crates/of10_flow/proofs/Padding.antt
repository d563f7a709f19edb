-- Padding says nothing.
use Rattle.std.proofs.Common.{◌≡◌, ℕ, List, refl, arith}
use Rattle.of10_model.specs.Padding.{AlikeBut}
use Rattle.of10_model.proofs.Padding.{piece_before, number_before, number_behind}
use Rattle.of10_flow.specs.FlowRemoveds.{read_flow_removed}
use Rattle.of10_flow.specs.PacketIns.{read_packet_in}

pub packet_in_alike : (a b : List ℕ) → AlikeBut 17 18 a b → read_packet_in a ≡ read_packet_in b
unfolding read_packet_in
packet_in_alike a b h =
    rw (
      h.size,
      number_before 17 18 a b h 4 4 (omega arith),
      number_before 17 18 a b h 8 4 (omega arith),
      number_before 17 18 a b h 12 2 (omega arith),
      number_before 17 18 a b h 14 2 (omega arith),
      number_before 17 18 a b h 16 1 (omega arith),
      h.rest,
    ) refl

pub flow_removed_alike_reason : (a b : List ℕ) → AlikeBut 59 60 a b → read_flow_removed a ≡ read_flow_removed b
unfolding read_flow_removed
flow_removed_alike_reason a b h =
    rw (
      h.size,
      number_before 59 60 a b h 4 4 (omega arith),
      piece_before 59 60 a b h 8 40 (omega arith),
      number_before 59 60 a b h 48 8 (omega arith),
      number_before 59 60 a b h 56 2 (omega arith),
      number_before 59 60 a b h 58 1 (omega arith),
      number_behind 59 60 a b h 0 4,
      number_behind 59 60 a b h 4 4,
      number_behind 59 60 a b h 8 2,
      number_behind 59 60 a b h 12 8,
      number_behind 59 60 a b h 20 8,
    ) refl

pub flow_removed_alike_idle : (a b : List ℕ) → AlikeBut 70 72 a b → read_flow_removed a ≡ read_flow_removed b
unfolding read_flow_removed
flow_removed_alike_idle a b h =
    rw (
      h.size,
      number_before 70 72 a b h 4 4 (omega arith),
      piece_before 70 72 a b h 8 40 (omega arith),
      number_before 70 72 a b h 48 8 (omega arith),
      number_before 70 72 a b h 56 2 (omega arith),
      number_before 70 72 a b h 58 1 (omega arith),
      number_before 70 72 a b h 60 4 (omega arith),
      number_before 70 72 a b h 64 4 (omega arith),
      number_before 70 72 a b h 68 2 (omega arith),
      number_behind 70 72 a b h 0 8,
      number_behind 70 72 a b h 8 8,
    ) refl
