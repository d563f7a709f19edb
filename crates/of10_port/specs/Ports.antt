-- Ports as a switch describes them (OpenFlow 1.0.0, section 5.2.1).
use Rattle.std.specs.Prelude.{◌≡◌, ℕ, ◌/◌, List, ◌++◌, length, replicate}
use Rattle.std.specs.List.{flat_map}
use Rattle.std.specs.Simd.{first_chunks}
use Rattle.byteorder.specs.Endian.{big_bytes}
use Rattle.of10_model.specs.Normal.{number_at}

-- a port is described by 48 bytes: its number, hardware address and name, and six words, the first of them its configuration
abbrev pub IsPort : List ℕ → Type 0
IsPort raw = length raw ≡ 48

-- the number of a port
abbrev pub port_number : List ℕ → ℕ
port_number raw = number_at raw 0 2

-- a port of which nothing but its number is said
abbrev pub bare_port : ℕ → List ℕ
bare_port number = big_bytes 2 number ++ replicate 46 0

-- the configuration of a port
abbrev pub port_config : List ℕ → ℕ
port_config raw = number_at raw 24 4

-- ports are spelled one after the other
abbrev pub port_bytes : List (List ℕ) → List ℕ
port_bytes ports = flat_map (λ raw. raw) ports

-- the bytes as ports, 48 for each
unfoldable pub ports_in : List ℕ → List (List ℕ)
ports_in bytes = first_chunks 48 (length bytes / 48) bytes
