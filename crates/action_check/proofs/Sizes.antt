-- How many bytes expanded lists take, and that their actions stay in range.
use Rattle.std.proofs.Common.{◌≡◌, ℕ, ◌+◌, ◌*◌, ◌<◌, ◌^◌, ◌==◌, inl, inr, List, [], ◌∷◌, length, Option, Some, None, refl, ap, ◌∙◌, arith}
use Rattle.std.specs.List.{All}
use Rattle.std.proofs.lemmas.Bool.{cases_Bool}
use Rattle.std.proofs.lemmas.List.{length-append}
use Rattle.std.proofs.lemmas.List.Concat.{flat_map-cons}
use Rattle.std.proofs.lemmas.List.Elements.{All-nil, All-cons, All-head, All-tail, All-append, All-map, All-weaker}
use Rattle.of10_action.specs.declared.action.Action.{Action}
use Rattle.of10_action.specs.declared.action.Action.TheVariants.{Output, SetVlanVid, SetVlanPcp, StripVlan, SetDlSrc, SetDlDst, SetNwSrc, SetNwDst, SetNwTos, SetTpSrc, SetTpDst, Enqueue}
use Rattle.of10_action.specs.Actions.{IsAction, HasAddress, spell, spelling}
use Rattle.of10_port.specs.declared.protocol.TheConstants.{FLOOD, ALL}
use Rattle.flowspace.specs.declared.rules.Rule.{Rule}
use Rattle.flowspace.specs.Owners.{HasPort}
use Rattle.action_check.specs.Permitted.{outputs, ports_for, spread, expanded}

-- ---- bytes

pub length-outputs : (max_len : ℕ) (ports : List ℕ) → length (spelling (outputs max_len ports)) ≡ 8 * length ports
length-outputs max_len [] = refl
length-outputs max_len (port ∷ others) =
    let deeper = length-outputs max_len others in
    let step : length (spelling (outputs max_len (port ∷ others))) ≡ 8 + length (spelling (outputs max_len others)) =
    ap length (flat_map-cons spell (Output port max_len) (outputs max_len others)) ∙ length-append (spell (Output port max_len)) (spelling (outputs max_len others)) in
    omega arith

-- ---- what holds of each action

-- FLOOD and ALL stand for ports of which the same holds
pub All-ports_for : (P : ℕ → Type 0) (port : ℕ) (flood all ports : List ℕ) → All P flood → All P all → ports_for port flood all ≡ Some ports → All P ports
All-ports_for P port flood all ports on_flood on_all e =
    elim (cases_Bool (port == FLOOD)) [
      | inl is ↦ let same : Some flood ≡ Some ports = rw is at e in let known : flood ≡ ports = cc in rw known at on_flood
      | inr other ↦ elim (cases_Bool (port == ALL)) [
        | inl is ↦ let same : Some all ≡ Some ports = rw (other, is) at e in let known : all ≡ ports = cc in rw known at on_all
        | inr neither ↦ let none : None ≡ Some ports = rw (other, neither) at e in absurd (cc)
      ]
    ]

-- what holds of an action, and of the outputs to ports in its place
pub record Carries (P : Action → Type 0) (Q : ℕ → Type 0) : Type 0 where
  pub over : (port max_len other : ℕ) → P (Output port max_len) → Q other → P (Output other max_len)

All-spread_output : (P : Action → Type 0) (Q : ℕ → Type 0) → Carries P Q → (port max_len : ℕ) (o : Option (List ℕ)) → ((ports : List ℕ) → o ≡ Some ports → All Q ports)
    → P (Output port max_len) → All P (elim o [ None ↦ Output port max_len ∷ [] | Some ports ↦ outputs max_len ports ])
All-spread_output P Q carries port max_len None known p = All-cons P (Output port max_len) [] p (All-nil P)
All-spread_output P Q carries port max_len (Some ports) known p =
    All-map P (λ other. Output other max_len) ports (All-weaker Q (λ other. P (Output other max_len)) (λ other q. carries.over port max_len other p q) ports (known ports refl))

single : (P : Action → Type 0) (action : Action) → P action → All P (action ∷ [])
single P action p = All-cons P action [] p (All-nil P)

pub All-spread : (P : Action → Type 0) (Q : ℕ → Type 0) → Carries P Q → (flood all : List ℕ) → All Q flood → All Q all → (action : Action) → P action → All P (spread flood all action)
All-spread P Q carries flood all on_flood on_all (Output port max_len) p =
    All-spread_output P Q carries port max_len (ports_for port flood all) (λ ports e. All-ports_for Q port flood all ports on_flood on_all e) p
All-spread P Q carries flood all on_flood on_all (SetVlanVid vlan) p = single P (SetVlanVid vlan) p
All-spread P Q carries flood all on_flood on_all (SetVlanPcp priority) p = single P (SetVlanPcp priority) p
All-spread P Q carries flood all on_flood on_all StripVlan p = single P StripVlan p
All-spread P Q carries flood all on_flood on_all (SetDlSrc address) p = single P (SetDlSrc address) p
All-spread P Q carries flood all on_flood on_all (SetDlDst address) p = single P (SetDlDst address) p
All-spread P Q carries flood all on_flood on_all (SetNwSrc address) p = single P (SetNwSrc address) p
All-spread P Q carries flood all on_flood on_all (SetNwDst address) p = single P (SetNwDst address) p
All-spread P Q carries flood all on_flood on_all (SetNwTos service) p = single P (SetNwTos service) p
All-spread P Q carries flood all on_flood on_all (SetTpSrc port) p = single P (SetTpSrc port) p
All-spread P Q carries flood all on_flood on_all (SetTpDst port) p = single P (SetTpDst port) p
All-spread P Q carries flood all on_flood on_all (Enqueue port queue) p = single P (Enqueue port queue) p

pub All-expanded : (P : Action → Type 0) (Q : ℕ → Type 0) → Carries P Q → (flood all : List ℕ) → All Q flood → All Q all → (actions : List Action) → All P actions → All P (expanded flood all actions)
All-expanded P Q carries flood all on_flood on_all [] each = All-nil P
All-expanded P Q carries flood all on_flood on_all (action ∷ others) each =
    rw (flat_map-cons (spread flood all) action others)
    (All-append P (spread flood all action) (expanded flood all others)
    (All-spread P Q carries flood all on_flood on_all action (All-head P action others each))
    (All-expanded P Q carries flood all on_flood on_all others (All-tail P action others each)))

-- ---- ranges

-- a port of a slice is a number of 16 bits
pub port_range : (rules : List Rule) (slot port : ℕ) → HasPort rules slot port → port < 2 ^ 16
port_range rules slot port (inl le, rule) = omega arith
port_range rules slot port (inr is, rule) = omega arith

carries_range : (rules : List Rule) (slot : ℕ) → Carries IsAction (HasPort rules slot)
carries_range rules slot = record { over = λ port max_len other p q. (port_range rules slot other q, p.1) }

pub IsAction-expanded : (rules : List Rule) (slot : ℕ) (flood all : List ℕ) → All (HasPort rules slot) flood → All (HasPort rules slot) all → (actions : List Action) → All IsAction actions → All IsAction (expanded flood all actions)
IsAction-expanded rules slot flood all on_flood on_all actions each = All-expanded IsAction (HasPort rules slot) (carries_range rules slot) flood all on_flood on_all actions each

carries_address : (rules : List Rule) (slot : ℕ) → Carries HasAddress (HasPort rules slot)
carries_address rules slot = record { over = λ port max_len other p q. tt }

pub HasAddress-expanded : (rules : List Rule) (slot : ℕ) (flood all : List ℕ) → All (HasPort rules slot) flood → All (HasPort rules slot) all → (actions : List Action) → All HasAddress actions → All HasAddress (expanded flood all actions)
HasAddress-expanded rules slot flood all on_flood on_all actions each = All-expanded HasAddress (HasPort rules slot) (carries_address rules slot) flood all on_flood on_all actions each
