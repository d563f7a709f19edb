-- What a view of ports stands for, and places in ascending lists of ports.
use Rattle.std.specs.Prelude.{ℕ, ◌≡◌, ◌+◌, ◌<◌, ◌≤◌, List, ◌++◌, length, take, drop, Result, Ok, Err}
use Rattle.of10_port.specs.declared.features.Features.{Features}
use Rattle.of10_port.specs.declared.status.PortStatus.{PortStatus}
use Rattle.port_view.specs.KnownPorts.{ports_below, ports_above, without_port, known_of}

-- the ports of smaller numbers stand before the first place, those of greater ones from the second on
pub record IsCut (number i j : ℕ) (known : List (List ℕ)) : Type 0 where
  pub front : take i known ≡ ports_below number known
  pub back : drop j known ≡ ports_above number known
  pub others : take i known ++ drop j known ≡ without_port number known

-- the place of the port of a number, or where it would stand
abbrev pub IsPlace : ℕ → List (List ℕ) → Result ℕ ℕ → Type 0
IsPlace number known (Ok place) = (place < length known) × IsCut number place (place + 1) known
IsPlace number known (Err place) = (place ≤ length known) × IsCut number place place known

-- a view has the ports that are known after these features and statuses, the newest first
pub record PortsStand (features : Features) (statuses : List PortStatus) (view : List (List ℕ)) : Type 0 where
  pub known : view ≡ known_of features statuses
