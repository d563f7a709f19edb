-- What follows from one message of a switch that has said what it is, for all slices at once (this proxy's own rule).
use Rattle.std.specs.Prelude.{ℕ, ◌≡◌, true, List, map, slice_get, Some}
use Rattle.std.specs.List.{flat_map, enumerate_from}
use Rattle.of10_ctl.specs.Frames.{is_bad}
use Rattle.flowspace.specs.declared.slices.Slice.{Slice}
use Rattle.flowspace.specs.Policies.{PolicyView, SwitchView}
use Rattle.flowspace.specs.declared.swaps.Swap.{Swap}
use Rattle.flowspace.specs.Swaps.{pairs_of}
use Rattle.port_turns.specs.Sent.{turn_out}
use Rattle.flow_book.specs.declared.state.SliceState.{SliceState}
use Rattle.slice_words.specs.Alone.{answers_for}
use Rattle.slice_words.specs.Standing.{SliceStands}
use Rattle.desk_words.specs.declared.event.Event.TheVariants.{SwitchMsg}
use Rattle.desk_words.specs.declared.event.Timed.{Timed}
use Rattle.desk_words.specs.declared.phase.Phase.TheVariants.{Opened}
use Rattle.desk_words.specs.Openings.{status_kept, rules_of, swaps_of, KnownSwitch}
use Rattle.desk_words.specs.Histories.{is_slot, settings_at, items_of, number_told, SliceSide}
use Rattle.desk_words.specs.Numbers.{AreNumbered}
use Rattle.desk_words.specs.Sent.{sent_with, echo_for}
use Rattle.desk_words.specs.Recorded.{timed_at}
use Rattle.switch_side.specs.declared.change.Change.{Change}
use Rattle.switch_side.specs.declared.dispatch.Dispatch.{Dispatch}
use Rattle.switch_side.specs.Changes.{of_slot, SlotChanges}

-- ---- where a message is answered

-- the switch has said what it is; the policy has the slices of all switches and the rules that hold on this one; and the ports are those that the switch reported
pub record Surrounds (p : PolicyView) (switch : KnownSwitch) (policy : SwitchView) (ports : List (List ℕ)) : Type 0 where
  pub opened : switch.phase ≡ Opened
  pub slices : policy.slices ≡ p.slices
  pub rules : policy.rules ≡ rules_of p switch.features
  pub swaps : policy.swaps ≡ swaps_of p switch.features
  pub known : ports ≡ switch.known

-- each slice's state is the one that belongs to what the slice sees
abbrev pub AllStand : PolicyView → KnownSwitch → (ℕ → SliceSide) → List SliceState → Type 0
AllStand p switch sides states =
    (slot : ℕ) (state : SliceState) → slice_get states slot ≡ Some state → SliceStands (settings_at p slot switch.features) (sides slot).sight state

-- the switch's numbers of each slice's packets are those that the slice sees
abbrev pub AllNumbered : PolicyView → KnownSwitch → (ℕ → SliceSide) → Type 0
AllNumbered p switch sides = (slot : ℕ) → is_slot p slot ≡ true → AreNumbered (settings_at p slot switch.features) (sides slot)

-- ---- what follows

-- messages for the slice at a slot
abbrev pub addressed : ℕ → List (List ℕ) → List (ℕ × List ℕ)
addressed slot messages = map (λ message. (slot, message)) messages

-- what is said to each of some, from a slot on
abbrev pub said_from : {A : Type 0} → (ℕ → A → List (List ℕ)) → ℕ → List A → List (ℕ × List ℕ)
said_from say slot all = flat_map (λ one. addressed one.0 (say one.0 one.1)) (enumerate_from slot all)

-- what each slice from a slot on is sent at an event, slice by slice
abbrev pub sent_to_all : PolicyView → KnownSwitch → (ℕ → SliceSide) → Timed → ℕ → List Slice → List (ℕ × List ℕ)
sent_to_all p switch sides timed slot slices = said_from (λ at slice. sent_with p at switch (sides at) timed) slot slices

-- the same with the port numbers of the switch
abbrev pub answered_with : PolicyView → ℕ → KnownSwitch → SliceSide → Timed → List (List ℕ)
answered_with p slot switch side timed = answers_for (settings_at p slot switch.features) side.sight.view (items_of p slot switch side timed)

abbrev pub answered_to_all : PolicyView → KnownSwitch → (ℕ → SliceSide) → Timed → ℕ → List Slice → List (ℕ × List ℕ)
answered_to_all p switch sides timed slot slices = said_from (λ at slice. answered_with p at switch (sides at) timed) slot slices

-- a message for the slice at a slot has the port numbers that the slice is shown by these swaps
abbrev pub shown_by : List Swap → ℕ × List ℕ → ℕ × List ℕ
shown_by swaps message = (message.0, turn_out (pairs_of swaps message.0) message.1)

-- a message came from the switch
abbrev pub told_at : ℕ → List ℕ → Timed
told_at moment message = timed_at moment (SwitchMsg message)

-- of these changes each slice's are what the message changes in its state
abbrev pub AreChanges : PolicyView → KnownSwitch → (ℕ → SliceSide) → ℕ → List ℕ → List (ℕ × Change) → Type 0
AreChanges p switch sides moment message listed =
    (slot : ℕ) → SlotChanges (settings_at p slot switch.features) (number_told switch.phase (SwitchMsg message)) (sides slot).sight (items_of p slot switch (sides slot) (told_at moment message)) (of_slot slot listed)

-- what follows from a message of the switch, where messages for slices have the switch's own port numbers still
pub record IsAnswered (p : PolicyView) (switch : KnownSwitch) (sides : ℕ → SliceSide) (moment : ℕ) (message : List ℕ) (d : Dispatch) : Type 0 where
  pub to_slices : d.to_slices.items ≡ answered_to_all p switch sides (told_at moment message) 0 p.slices
  pub to_switch : d.to_switch.items ≡ echo_for message
  pub changes : AreChanges p switch sides moment message d.changes.items
  pub port : d.port ≡ status_kept switch.known message
  pub close : d.close ≡ is_bad message

-- what follows from a message of the switch: what each slice is sent, what the switch is sent, what changes in the slices' states, the change of a port, and whether the switch's connection ends, as it does at a length field that doesn't even count the header
pub record IsDispatch (p : PolicyView) (switch : KnownSwitch) (sides : ℕ → SliceSide) (moment : ℕ) (message : List ℕ) (d : Dispatch) : Type 0 where
  pub to_slices : d.to_slices.items ≡ sent_to_all p switch sides (told_at moment message) 0 p.slices
  pub to_switch : d.to_switch.items ≡ echo_for message
  pub changes : AreChanges p switch sides moment message d.changes.items
  pub port : d.port ≡ status_kept switch.known message
  pub close : d.close ≡ is_bad message
