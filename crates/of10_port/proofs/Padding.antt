-- Padding says nothing.
use Rattle.std.proofs.Common.{◌≡◌, ℕ, List, refl, arith}
use Rattle.of10_model.specs.Padding.{AlikeBut}
use Rattle.of10_model.proofs.Padding.{number_before, byte_before, rest_behind, number_behind}
use Rattle.of10_port.specs.Features.{read_features}
use Rattle.of10_port.specs.PortStatus.{read_port_status}

pub features_alike : (a b : List ℕ) → AlikeBut 21 24 a b → read_features a ≡ read_features b
unfolding read_features
features_alike a b h =
    rw (
      h.size,
      number_before 21 24 a b h 8 8 (omega arith),
      number_before 21 24 a b h 16 4 (omega arith),
      byte_before 21 24 a b h 20 (omega arith),
      number_behind 21 24 a b h 0 4,
      number_behind 21 24 a b h 4 4,
      rest_behind 21 24 a b h 8,
    ) refl

pub port_status_alike : (a b : List ℕ) → AlikeBut 9 16 a b → read_port_status a ≡ read_port_status b
unfolding read_port_status
port_status_alike a b h = rw (h.size, byte_before 9 16 a b h 8 (omega arith), h.rest) refl
