-- The policy under which a made recording is played (this proxy's own rule).
use Rattle.std.specs.Prelude.{ℕ, List, [], ◌∷◌, Some, None, codes}
use Rattle.flowspace.specs.declared.slices.Slice.{Slice}
use Rattle.flowspace.specs.declared.rules.Rule.{Rule}
use Rattle.flowspace.specs.Policies.{PolicyView}
use Rattle.fv_generator.specs.Packets.{tcp_to}

-- a slice with the limits of a policy's text that gives none
abbrev pub slice_with : List ℕ → List ℕ → Slice
slice_with name controller = record { name = name; controller = controller; rate = 1000; burst = 1000; quota = 1024 }

-- a rule on every switch by which a slice writes the packets to a TCP port
abbrev pub rule_to : ℕ → ℕ → ℕ → Rule
rule_to priority slot port = record { switch = None; priority = priority; pattern = tcp_to port; writer = Some slot; readers = 0 }

-- alice writes the packets to TCP port 80, bob those to port 22
unfoldable pub the_policy : PolicyView
the_policy = record {
  slices = slice_with (codes "alice") (codes "127.0.0.1:6633") ∷ slice_with (codes "bob") (codes "127.0.0.1:6634") ∷ [];
  rules = rule_to 100 0 80 ∷ rule_to 50 1 22 ∷ [];
  swaps = [];
}
