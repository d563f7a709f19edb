-- What follows by the slices' states is what follows by what the slices see.
use Rattle.std.proofs.Common.{◌≡◌, ℕ, Bool, true, false, List, [], length, refl, ap, subst, sym, ◌∙◌, Option, None, Result, Ok, IfOk}
use Rattle.of10_message.specs.declared.fault.Unread.{Unread}
use Rattle.of10_message.specs.Heads.{xid_of}
use Rattle.of10_message.specs.Switch as says
use Rattle.of10_message.specs.Switch.{SwitchMessage, read_switch}
use Rattle.of10_message.specs.SwitchRanges.{IsSaid}
use Rattle.of10_message.proofs.SwitchCases.{bad_length-read}
use Rattle.flowspace.specs.declared.rules.Rule.{Rule}
use Rattle.flowspace.specs.declared.slices.Slice.{Slice}
use Rattle.flowspace.specs.Policies.{PolicyView, SwitchView, IsSwitchPolicy}
use Rattle.flow_book.specs.declared.state.SliceState.{SliceState}
use Rattle.slice_words.specs.Items.{Item}
use Rattle.desk_words.specs.declared.event.Event.TheVariants.{SwitchMsg}
use Rattle.desk_words.specs.declared.phase.Phase.TheVariants.{Opened}
use Rattle.desk_words.specs.Openings.{status_kept, rules_of, KnownSwitch}
use Rattle.desk_words.specs.Histories.{is_slot, settings_at, items_of, number_told, packet_said, SliceSide}
use Rattle.switch_side.specs.declared.change.Change.{Change}
use Rattle.switch_side.specs.declared.dispatch.Dispatch.{Dispatch}
use Rattle.switch_side.specs.Changes.{SlotChanges}
use Rattle.switch_side.specs.Dispatches.{Surrounds, AllStand, AllNumbered, answered_to_all, told_at, AreChanges, IsAnswered}
use Rattle.switch_side.specs.Carrying.{Carried, carried, Turn, turn_told, turn_changes, carried_for, message_told, message_changes}
use Rattle.switch_side.proofs.MessageTypes.{is_for_one, number_of_said, items_of_said}
use Rattle.switch_side.proofs.Standing.{said_stands}
use Rattle.switch_side.proofs.Told.{told_sent}
use Rattle.switch_side.proofs.Giving.{packet_changed}
use Rattle.switch_side.proofs.ReplyTurns.{barrier_within, barriers_follow, queues_within, queues_follow, statistics_within, statistics_follow}
use Rattle.switch_side.proofs.Turning.{IsWithin, EachFollows, unseen, sent_turn, changed_turn}
use Rattle.switch_side.proofs.Turns.{called_at, removed_within, removals_follow, error_within, errors_follow}

-- messages and changes that are those of the event
abbrev Follow : PolicyView → KnownSwitch → (ℕ → SliceSide) → ℕ → List ℕ → List (ℕ × List ℕ) → List (ℕ × Change) → Type 0
Follow p switch sides moment message told listed = (told ≡ answered_to_all p switch sides (told_at moment message) 0 p.slices) × AreChanges p switch sides moment message listed

module _ (p : PolicyView) (switch : KnownSwitch) (sides : ℕ → SliceSide) (moment : ℕ) (message : List ℕ) (states : List SliceState)
    (opened : switch.phase ≡ Opened) (same : length states ≡ length p.slices) (stand : AllStand p switch sides states) (numbered : AllNumbered p switch sides) where
  -- what is sent and what changes, by what was read of the message
  abbrev FollowSaid : Result SwitchMessage Unread → Type 0
  FollowSaid said =
      Follow p switch sides moment message (message_told (called_at p switch sides) (rules_of p switch.features) switch.known states (xid_of message) said)
      (message_changes (called_at p switch sides) (rules_of p switch.features) states (xid_of message) said)

  -- a message that is for all and hands up no packet changes nothing
  unchanged : (said : Result SwitchMessage Unread) (slot : ℕ) (here : Bool) → read_switch message ≡ said → is_slot p slot ≡ here → packet_said said ≡ None → is_for_one said ≡ false
      → SlotChanges (settings_at p slot switch.features) None (sides slot).sight (items_of p slot switch (sides slot) (told_at moment message)) []
  unchanged said slot false is none no_packet all = unseen p switch sides moment message slot none
  unchanged said slot true is here no_packet all =
      subst (λ (items : List Item). SlotChanges (settings_at p slot switch.features) None (sides slot).sight items []) (sym (items_of_said p slot moment switch (sides slot) message said opened here is))
      (λ state stands. said_stands p slot switch (sides slot) (xid_of message) said state no_packet all stands)

  none_changed : (said : Result SwitchMessage Unread) → read_switch message ≡ said → number_told switch.phase (SwitchMsg message) ≡ None → packet_said said ≡ None → is_for_one said ≡ false → AreChanges p switch sides moment message []
  none_changed said is no_number no_packet all slot =
      subst (λ (number : Option ℕ). SlotChanges (settings_at p slot switch.features) number (sides slot).sight (items_of p slot switch (sides slot) (told_at moment message)) [])
      (sym no_number) (unchanged said slot (is_slot p slot) is refl no_packet all)

  -- what follows for one slice is all that follows
  by_turn : (turn : Option Turn) → number_told switch.phase (SwitchMsg message) ≡ None → IsWithin p turn → EachFollows p switch sides moment message turn
      → Follow p switch sides moment message (turn_told turn) (turn_changes turn)
  by_turn turn no_number within follow = (sent_turn p switch sides moment message turn within follow, changed_turn p switch sides moment message turn no_number within follow)

  by_said : (slices : List Slice) (said : Result SwitchMessage Unread) → IsSwitchPolicy slices (rules_of p switch.features) → read_switch message ≡ said → IfOk said IsSaid → FollowSaid said
  by_said slices (Ok (says.PacketIn packet)) policy is right =
      (told_sent p switch sides moment message (Ok (says.PacketIn packet)) states opened same stand is refl, packet_changed p switch sides moment message states opened same stand numbered packet is)
  by_said slices (Ok (says.FlowRemoved entry)) policy is right =
      by_turn _ (number_of_said switch message (Ok (says.FlowRemoved entry)) opened is) (removed_within p switch sides states same stand entry)
      (removals_follow p switch sides states same stand slices moment message entry opened is policy right)
  by_said slices (Ok (says.Error error)) policy is right =
      by_turn _ (number_of_said switch message (Ok (says.Error error)) opened is) (error_within p switch sides states same stand (xid_of message) error)
      (errors_follow p switch sides states same stand moment message error opened is)
  by_said slices (Ok says.BarrierReply) policy is right =
      by_turn _ (number_of_said switch message (Ok says.BarrierReply) opened is) (barrier_within p switch sides states same stand (xid_of message)) (barriers_follow p switch sides states same stand moment message opened is)
  by_said slices (Ok (says.QueueGetConfigReply queues)) policy is right =
      by_turn _ (number_of_said switch message (Ok (says.QueueGetConfigReply queues)) opened is) (queues_within p switch sides states same stand (xid_of message) queues)
      (queues_follow p switch sides states same stand moment message queues opened is)
  by_said slices (Ok (says.StatsReply part body)) policy is right =
      by_turn _ (number_of_said switch message (Ok (says.StatsReply part body)) opened is) (statistics_within p switch sides states same stand (xid_of message) part body)
      (statistics_follow p switch sides states same stand moment message part body opened is)
  by_said slices said policy is right =
      (told_sent p switch sides moment message said states opened same stand is refl, none_changed said is (number_of_said switch message said opened is) refl refl)

pub dispatched : (p : PolicyView) (switch : KnownSwitch) (sides : ℕ → SliceSide) (moment : ℕ) (policy : SwitchView) (ports : List (List ℕ)) (states : List SliceState) (message : List ℕ) (d : Dispatch)
    → length states ≡ length policy.slices → IsSwitchPolicy policy.slices policy.rules → IfOk (read_switch message) IsSaid
    → Surrounds p switch policy ports → AllStand p switch sides states → AllNumbered p switch sides
    → carried d ≡ carried_for (called_at p switch sides) policy.rules ports states message → IsAnswered p switch sides moment message d
dispatched p switch sides moment policy ports states message d same valid right around stand numbered is =
    let here : IsSwitchPolicy policy.slices (rules_of p switch.features) = subst (λ (rules : List Rule). IsSwitchPolicy policy.slices rules) around.rules valid in
    let follow = by_said p switch sides moment message states around.opened (same ∙ ap length around.slices) stand numbered policy.slices (read_switch message) here refl right in
    record {
      to_slices =
          ap (λ (c : Carried). c.messages) is
          ∙ ap (λ rules. message_told (called_at p switch sides) rules ports states (xid_of message) (read_switch message)) around.rules
          ∙ ap (λ known. message_told (called_at p switch sides) (rules_of p switch.features) known states (xid_of message) (read_switch message)) around.known
          ∙ follow.0;
      to_switch = ap (λ (c : Carried). c.replies) is;
      changes =
          subst (AreChanges p switch sides moment message)
          (sym (ap (λ (c : Carried). c.changes) is ∙ ap (λ (rules : List Rule). message_changes (called_at p switch sides) rules states (xid_of message) (read_switch message)) around.rules))
          follow.1;
      port = ap (λ (c : Carried). c.status) is ∙ ap (λ known. status_kept known message) around.known;
      close = ap (λ (c : Carried). c.ends) is ∙ bad_length-read message;
    }
