-- What is said of a flow-mod that a slice has sent to the switch (this proxy's own rule; numbers of ports are the standard's, OpenFlow 1.0.0, section 5.2.1).
use Rattle.std.specs.Prelude.{ℕ, ◌≡◌, ◌⊎◌, List, All}
use Rattle.of10_model.specs.Header.{Header, IsHeader}
use Rattle.of10_model.specs.Pattern.{Has}
use Rattle.of10_action.specs.declared.action.Action.{Action}
use Rattle.of10_action.specs.declared.action.Action.TheVariants.{Output, Enqueue}
use Rattle.of10_port.specs.declared.protocol.TheConstants.{IN_PORT, CONTROLLER}
use Rattle.of10_flow.specs.declared.flow_mod.FlowMod.{FlowMod}
use Rattle.of10_flow.specs.TableLaws.{LeavesTreatment}
use Rattle.flowspace.specs.declared.rules.Rule.{Rule}
use Rattle.flowspace.specs.Owners.{Writes, HasPort}
use Rattle.action_check.specs.declared.origin.Origin.TheVariants.{Piece}
use Rattle.action_check.specs.Soundness.{IsSound}

-- each header of its match is one that the slice writes
abbrev pub LiesInFlowspace : List Rule → ℕ → FlowMod → Type 0
LiesInFlowspace rules slot m = (h : Header) → IsHeader h → Has m.pattern h → Writes rules slot h

-- an OUTPUT names a port of the slice, IN_PORT or CONTROLLER, and an ENQUEUE a port of the slice or IN_PORT
abbrev pub NamesOwnPort : List Rule → ℕ → Action → Type 0
NamesOwnPort rules slot (Output port max_len) = HasPort rules slot port ⊎ ((port ≡ IN_PORT) ⊎ (port ≡ CONTROLLER))
NamesOwnPort rules slot (Enqueue port queue) = HasPort rules slot port ⊎ (port ≡ IN_PORT)
NamesOwnPort rules slot _ = Unit {0}

-- so does each of its actions
abbrev pub OutputsToOwnPorts : List Rule → ℕ → FlowMod → Type 0
OutputsToOwnPorts rules slot m = All (NamesOwnPort rules slot) m.actions

-- it leaves every flow table treating as before each header that the slice doesn't write
abbrev pub LeavesOtherHeaders : List Rule → ℕ → FlowMod → Type 0
LeavesOtherHeaders rules slot m = (h : Header) → IsHeader h → (Writes rules slot h → ⊥) → LeavesTreatment m h

-- a flow-mod stays within a slice: beside all this, each packet that its actions send is, as the actions before rewrite it, one that the slice writes by some port of entry. A packet that is sent to the controller is one that the slice writes by the packet's own port of entry
pub record StaysWithin (rules : List Rule) (slot : ℕ) (m : FlowMod) : Type 0 where
  pub lies : LiesInFlowspace rules slot m
  pub outputs : OutputsToOwnPorts rules slot m
  pub leaves : LeavesOtherHeaders rules slot m
  pub sends : IsSound rules slot (Piece m.pattern) m.actions
