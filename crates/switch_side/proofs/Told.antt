-- What all slices are sent for a message of the switch.
use Rattle.std.proofs.Common.{◌≡◌, ℕ, zero, suc, ◌+◌, ◌<◌, false, List, [], ◌∷◌, ◌++◌, length, slice_get, refl, ap, ap₂, subst, sym, ◌∙◌, arith, Option, Some, None, Result, Ok}
use Rattle.std.proofs.lemmas.Option.{slice_get_within}
use Rattle.std.proofs.lemmas.Bool.{lt-ltb}
use Rattle.of10_port.specs.declared.status.PortStatus.{PortStatus}
use Rattle.of10_message.specs.declared.fault.Unread.{Unread}
use Rattle.of10_message.specs.Switch as says
use Rattle.of10_message.specs.Switch.{SwitchMessage, read_switch}
use Rattle.flowspace.specs.declared.rules.Rule.{Rule}
use Rattle.flowspace.specs.declared.slices.Slice.{Slice}
use Rattle.flowspace.specs.Owners.{has_port}
use Rattle.flowspace.specs.Policies.{PolicyView}
use Rattle.flow_book.specs.declared.state.SliceState.{SliceState}
use Rattle.slice_words.specs.Items.{is_own_port}
use Rattle.slice_words.proofs.LoneRules.{same_port}
use Rattle.desk_words.specs.declared.event.Timed.{Timed}
use Rattle.desk_words.specs.declared.phase.Phase.TheVariants.{Opened}
use Rattle.desk_words.specs.Openings.{status_said, kept_beside, rules_of, KnownSwitch}
use Rattle.desk_words.specs.Histories.{settings_at, SliceSide}
use Rattle.switch_side.specs.Dispatches.{answered_with, addressed, answered_to_all, told_at, AllStand, said_from}
use Rattle.switch_side.specs.Audiences.{audience_of}
use Rattle.switch_side.specs.Carrying.{packet_for, port_told}
use Rattle.switch_side.proofs.MessageTypes.{is_for_one}
use Rattle.switch_side.proofs.Slots.{say_status, say, slot_sent}

-- ---- what is said to all is what is sent

abbrev Say : Type 0
Say = ℕ → SliceState → List (List ℕ)

abbrev nothing : Say
nothing slot state = []

said_none : (slot : ℕ) (states : List SliceState) → said_from nothing slot states ≡ []
said_none slot [] = refl
said_none slot (state ∷ others) = said_none (slot + 1) others

said_status : (rules : List Rule) (states : List SliceState) (status : Option PortStatus) → said_from (say_status rules status) 0 states ≡ port_told rules states status
said_status rules states None = said_none 0 states
said_status rules states (Some status) = refl

-- a message that is sent among so many slices, unless it is for one at most
abbrev told_among : ℕ → List Rule → List (List ℕ) → List SliceState → Result SwitchMessage Unread → List (ℕ × List ℕ)
told_among count rules known states (Ok (says.PacketIn packet)) = said_from (packet_for (audience_of count rules packet) packet) 0 states
told_among count rules known states said = port_told rules states (kept_beside known (status_said said))

said_told : (count : ℕ) (rules : List Rule) (known : List (List ℕ)) (states : List SliceState) (said : Result SwitchMessage Unread)
    → said_from (say count rules known said) 0 states ≡ told_among count rules known states said
said_told count rules known states (Ok (says.PacketIn packet)) = refl
said_told count rules known states said = said_status rules states (kept_beside known (status_said said))

-- ---- what is said to each is what it is sent

all_sent : (p : PolicyView) (switch : KnownSwitch) (sides : ℕ → SliceSide) (timed : Timed) (said : Say) (slot : ℕ) (slices : List Slice) (states : List SliceState)
    → length states ≡ length slices
    → ((i k : ℕ) (state : SliceState) → slot + i ≡ k → slice_get states i ≡ Some state → said k state ≡ answered_with p k switch (sides k) timed)
    → said_from said slot states ≡ answered_to_all p switch sides timed slot slices
all_sent p switch sides timed said slot [] [] same each = refl
all_sent p switch sides timed said slot (slice ∷ slices) (state ∷ states) same each =
    ap₂ (λ (now later : List (ℕ × List ℕ)). now ++ later) (ap (addressed slot) (each 0 slot state (omega arith) refl))
    (all_sent p switch sides timed said (slot + 1) slices states (omega (arith, same))
    (λ i k other at found. each (suc i) k other (omega (arith, at)) found))
all_sent p switch sides timed said slot [] (state ∷ states) same each = absurd (omega (arith, same))
all_sent p switch sides timed said slot (slice ∷ slices) [] same each = absurd (omega (arith, same))

-- ---- the slices of a policy

own_ports : (p : PolicyView) (switch : KnownSwitch) (slot port : ℕ) (slice : Slice) → slice_get p.slices slot ≡ Some slice
    → is_own_port (settings_at p slot switch.features).slot (settings_at p slot switch.features).patterns port ≡ has_port (rules_of p switch.features) slot port
own_ports p switch slot port slice there = rw (there, settings_at) (same_port slot (rules_of p switch.features) port)

pub has_item : {A : Type 0} (xs : List A) (i : ℕ) → i < length xs → (x : A) × (slice_get xs i ≡ Some x)
has_item [] i lt = absurd (omega (arith, lt))
has_item (x ∷ xs) zero lt = (x, refl)
has_item (x ∷ xs) (suc i) lt = has_item xs i (omega (arith, lt))

one_sent : (p : PolicyView) (switch : KnownSwitch) (sides : ℕ → SliceSide) (moment : ℕ) (message : List ℕ) (said : Result SwitchMessage Unread) (states : List SliceState)
    → switch.phase ≡ Opened → length states ≡ length p.slices → AllStand p switch sides states → read_switch message ≡ said → is_for_one said ≡ false
    → (slot k : ℕ) (state : SliceState) → 0 + slot ≡ k → slice_get states slot ≡ Some state
    → say (length p.slices) (rules_of p switch.features) switch.known said k state ≡ answered_with p k switch (sides k) (told_at moment message)
one_sent p switch sides moment message said states opened same stand is all slot k state at found =
    let lt : k < length p.slices = omega (arith, slice_get_within states slot state found, same, at) in
    let slice = has_item p.slices k lt in
    let same_slot : slot ≡ k = omega (arith, at) in
    let here : slice_get states k ≡ Some state = subst (λ x. slice_get states x ≡ Some state) same_slot found in
    sym (slot_sent p k moment switch (sides k) message said state opened (lt-ltb k (length p.slices) lt) is all (stand k state here) (λ port. own_ports p switch k port slice.0 slice.1))

-- what is sent by the states is what the slices are sent, for a message that is for all
pub told_sent : (p : PolicyView) (switch : KnownSwitch) (sides : ℕ → SliceSide) (moment : ℕ) (message : List ℕ) (said : Result SwitchMessage Unread) (states : List SliceState)
    → switch.phase ≡ Opened → length states ≡ length p.slices → AllStand p switch sides states → read_switch message ≡ said → is_for_one said ≡ false
    → told_among (length states) (rules_of p switch.features) switch.known states said ≡ answered_to_all p switch sides (told_at moment message) 0 p.slices
told_sent p switch sides moment message said states opened same stand is all =
    ap (λ (count : ℕ). told_among count (rules_of p switch.features) switch.known states said) same
    ∙ sym (said_told (length p.slices) (rules_of p switch.features) switch.known states said)
    ∙ all_sent p switch sides (told_at moment message) (say (length p.slices) (rules_of p switch.features) switch.known said) 0 p.slices states same
    (one_sent p switch sides moment message said states opened same stand is all)
