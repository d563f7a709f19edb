-- What a flood comes to.
use Rattle.std.proofs.Common.{◌≡◌, ℕ, Bool, true, List, filter, All}
use Rattle.std.proofs.lemmas.List.Elements.{All-map, All-filter, All-weaker, filter_passes}
use Rattle.of10_port.specs.Ports.{port_number}
use Rattle.flowspace.specs.declared.rules.Rule.{Rule}
use Rattle.flowspace.specs.Owners.{HasPort, has_port}
use Rattle.flowspace.proofs.Owning.{has_port-iff}
use Rattle.port_view.specs.SlicePorts.{ports_of_slice, is_flooded, flooded}

-- a flood goes to ports of the slice
pub flooded_own : (rs : List Rule) (slot : ℕ) (all : Bool) (known : List (List ℕ)) → All (HasPort rs slot) (flooded all (ports_of_slice rs slot known))
flooded_own rs slot all known =
    let own = λ (port : List ℕ). has_port rs slot (port_number port) in
    let OwnsPort = λ (port : List ℕ). HasPort rs slot (port_number port) in
    All-map (HasPort rs slot) port_number (filter (is_flooded all) (ports_of_slice rs slot known))
    (All-filter (is_flooded all) OwnsPort (ports_of_slice rs slot known)
    (All-weaker (λ port. own port ≡ true) OwnsPort (λ port is. (has_port-iff rs slot (port_number port)).0 is) (ports_of_slice rs slot known) (filter_passes own known)))
