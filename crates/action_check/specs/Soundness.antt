-- What a list that a slice may send does with single packets. This is the proxy's own rule.
use Rattle.std.specs.Prelude.{ℕ, ◌≡◌, ◌<◌, ◌^◌, ◌⊎◌, List, [], ◌∷◌, ◌++◌, Some}
use Rattle.std.specs.List.{All}
use Rattle.of10_model.specs.Header.{Header, IsHeader}
use Rattle.of10_model.specs.Pattern.{Has}
use Rattle.of10_model.specs.Normal.{IsNormal}
use Rattle.of10_action.specs.declared.action.Action.{Action}
use Rattle.of10_action.specs.declared.action.Action.TheVariants.{Output, Enqueue}
use Rattle.of10_port.specs.declared.protocol.TheConstants.{IN_PORT, TABLE, CONTROLLER}
use Rattle.match_meet.specs.Rewriting.{rewritten}
use Rattle.flowspace.specs.declared.rules.Rule.{Rule}
use Rattle.flowspace.specs.Owners.{Writes, HasPort}
use Rattle.action_check.specs.declared.origin.Origin.{Origin}
use Rattle.action_check.specs.declared.origin.Origin.TheVariants.{Piece, Packet, Probe}
use Rattle.action_check.specs.ActionRules.{port_sent_to}

-- a piece is a normal match, and a packet's header lies in its ranges
abbrev pub IsOrigin : Origin → Type 0
IsOrigin (Piece m) = IsNormal m
IsOrigin (Packet h) = IsHeader h
IsOrigin (Probe in_port) = Unit {0}

-- the headers to which the actions are applied: those of the piece, or the packet's own; probes are excepted
abbrev pub IsFrom : Origin → Header → Type 0
IsFrom (Piece m) h = Has m h
IsFrom (Packet own) h = h ≡ own
IsFrom (Probe in_port) h = ⊥

-- ---- where packets go

-- the port where a packet that is sent came in is one of the slice; a flow's packets come in where its match lets them
abbrev pub HasWayBack : List Rule → ℕ → Origin → Type 0
HasWayBack rules slot (Piece m) = Unit {0}
HasWayBack rules slot (Packet h) = HasPort rules slot h.in_port
HasWayBack rules slot (Probe in_port) = HasPort rules slot in_port

-- a port of the slice, or IN_PORT
abbrev pub IsOwnWay : List Rule → ℕ → Origin → ℕ → Type 0
IsOwnWay rules slot origin port = HasPort rules slot port ⊎ ((port ≡ IN_PORT) × HasWayBack rules slot origin)

-- CONTROLLER, in a packet-out also TABLE, and for a probe neither
abbrev pub IsOtherWay : Origin → ℕ → Type 0
IsOtherWay (Piece m) port = port ≡ CONTROLLER
IsOtherWay (Packet h) port = (port ≡ CONTROLLER) ⊎ (port ≡ TABLE)
IsOtherWay (Probe in_port) port = ⊥

-- an OUTPUT goes by either, an ENQUEUE by the first; so no action goes to FLOOD, ALL or NORMAL
abbrev pub HasWay : List Rule → ℕ → Origin → Action → Type 0
HasWay rules slot origin (Output port max_len) = IsOwnWay rules slot origin port ⊎ IsOtherWay origin port
HasWay rules slot origin (Enqueue port queue) = IsOwnWay rules slot origin port
HasWay rules slot origin _ = Unit {0}

-- ---- which packets go there

-- the header after each of a list of actions in turn
abbrev pub Rewrite : Header → List Action → Header
Rewrite h [] = h
Rewrite h (action ∷ others) = Rewrite (rewritten h action) others

-- a packet may be sent to a port: with some in_port its header is one that the slice writes, and for CONTROLLER and TABLE it is so with its own
pub record MaySend (rules : List Rule) (slot port : ℕ) (h : Header) : Type 0 where
  pub entry : ℕ
  pub in_range : entry < 2 ^ 16
  pub from_some : Writes rules slot (record h { in_port = entry })
  pub from_own : (port ≡ CONTROLLER) ⊎ (port ≡ TABLE) → Writes rules slot h

-- a list sends only where it may, and at each OUTPUT and ENQUEUE any packet of the origin, as the actions before it rewrite it, may be sent
pub record IsSound (rules : List Rule) (slot : ℕ) (origin : Origin) (given : List Action) : Type 0 where
  pub ways : All (HasWay rules slot origin) given
  pub headers : (h : Header) → IsHeader h → IsFrom origin h → (before later : List Action) (action : Action) (port : ℕ)
      → given ≡ before ++ (action ∷ later) → port_sent_to action ≡ Some port → MaySend rules slot port (Rewrite h before)
