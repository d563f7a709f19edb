-- What a message of the switch shows, by what was read of it.
use Rattle.std.proofs.Common.{◌≡◌, ℕ, Bool, true, false, if◌then◌else◌, List, [], ap, ◌∙◌, Result, Ok}
use Rattle.std.specs.Prelude.{option_and_then}
use Rattle.of10_message.specs.declared.fault.Unread.{Unread}
use Rattle.of10_message.specs.Heads.{xid_of}
use Rattle.of10_message.specs.Switch as says
use Rattle.of10_message.specs.Switch.{SwitchMessage, read_switch}
use Rattle.flowspace.specs.Policies.{PolicyView}
use Rattle.desk_words.specs.declared.event.Event.TheVariants.{SwitchMsg}
use Rattle.desk_words.specs.declared.phase.Phase.TheVariants.{Opened}
use Rattle.desk_words.specs.Openings.{KnownSwitch}
use Rattle.desk_words.specs.Histories.{is_slot, SliceSide, number_given, number_told, packet_said, said_items, message_items, phase_items, items_of}
use Rattle.switch_side.specs.Dispatches.{told_at}

-- what is for one slice at most
abbrev pub is_for_one : Result SwitchMessage Unread → Bool
is_for_one (Ok (says.FlowRemoved entry)) = true
is_for_one (Ok (says.Error error)) = true
is_for_one (Ok says.BarrierReply) = true
is_for_one (Ok (says.QueueGetConfigReply queues)) = true
is_for_one (Ok (says.StatsReply part body)) = true
is_for_one said = false

-- only what hands up a packet has a number
pub number_of_said : (switch : KnownSwitch) (message : List ℕ) (said : Result SwitchMessage Unread) → switch.phase ≡ Opened → read_switch message ≡ said
    → number_told switch.phase (SwitchMsg message) ≡ option_and_then number_given (packet_said said)
number_of_said switch message said opened is =
    ap (λ phase. number_told phase (SwitchMsg message)) opened ∙ ap (λ (found : Result SwitchMessage Unread). option_and_then number_given (packet_said found)) is

items_at : (p : PolicyView) (slot moment : ℕ) (switch : KnownSwitch) (side : SliceSide) (message : List ℕ) → switch.phase ≡ Opened → is_slot p slot ≡ true
    → items_of p slot switch side (told_at moment message) ≡ message_items p slot switch side message
items_at p slot moment switch side message opened here =
    ap (λ (is_here : Bool). if is_here then phase_items p slot switch side (told_at moment message) switch.phase else []) here
    ∙ ap (λ phase. phase_items p slot switch side (told_at moment message) phase) opened

pub items_of_said : (p : PolicyView) (slot moment : ℕ) (switch : KnownSwitch) (side : SliceSide) (message : List ℕ) (said : Result SwitchMessage Unread) → switch.phase ≡ Opened → is_slot p slot ≡ true → read_switch message ≡ said
    → items_of p slot switch side (told_at moment message) ≡ said_items p slot switch side (xid_of message) said
unfolding message_items
items_of_said p slot moment switch side message said opened here is =
    items_at p slot moment switch side message opened here ∙ ap (said_items p slot switch side (xid_of message)) is

pub items_none : (p : PolicyView) (slot moment : ℕ) (switch : KnownSwitch) (side : SliceSide) (message : List ℕ) → is_slot p slot ≡ false
    → items_of p slot switch side (told_at moment message) ≡ []
items_none p slot moment switch side message none =
    ap (λ (is_here : Bool). if is_here then phase_items p slot switch side (told_at moment message) switch.phase else []) none
