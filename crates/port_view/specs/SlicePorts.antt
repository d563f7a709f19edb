-- What a slice is shown of the known ports. All of this is this proxy's own rule; NO_FLOOD is the standard's (OpenFlow 1.0.0, section 5.2.1).
use Rattle.std.specs.Prelude.{ℕ, ◌==◌, ◌||◌, ◌&&◌, not, min, Bool, List, filter, map}
use Rattle.of10_model.specs.Normal.{bit}
use Rattle.of10_port.specs.Ports.{port_number, port_config}
use Rattle.of10_port.specs.declared.features.Features.{Features}
use Rattle.flowspace.specs.declared.rules.Rule.{Rule}
use Rattle.flowspace.specs.Owners.{has_port}

-- of the known ports those of a slice
abbrev pub ports_of_slice : List Rule → ℕ → List (List ℕ) → List (List ℕ)
ports_of_slice rules slot known = filter (λ port. has_port rules slot (port_number port)) known

-- the features that a slice is shown: the switch's own datapath, capabilities and actions, at most 256 buffers, one table, and these ports
abbrev pub features_with : Features → List (List ℕ) → Features
features_with of ports = record of { buffers = min of.buffers 256; tables = 1; ports = ports }

-- a flood goes out of all ports but the switch's own and those that are kept out of floods; what goes out of all ports leaves only the switch's own out
abbrev pub is_flooded : Bool → List ℕ → Bool
is_flooded all port = not (port_number port == 0xfffe) && (all || not (bit (port_config port) 4))

-- the numbers of the ports that a flood goes out of
abbrev pub flooded : Bool → List (List ℕ) → List ℕ
flooded all ports = map port_number (filter (is_flooded all) ports)
