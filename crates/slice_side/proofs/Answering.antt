-- What follows from a message by what was read of it is what follows from the item.
use Rattle.std.proofs.Common.{◌≡◌, ℕ, Bool, true, if◌then◌else◌, List, map, refl, sym, ap, ap₂, ◌∙◌, subst, true≢false, false, Ok, Err}
use Rattle.of10_port.specs.declared.features.Features.{Features}
use Rattle.of10_message.specs.declared.controller.FromController.{FromController}
use Rattle.of10_message.specs.declared.controller.FromController.TheVariants as said
use Rattle.of10_message.specs.Controller.{read_controller}
use Rattle.flowspace.specs.Policies.{SwitchView}
use Rattle.flowspace.specs.Swaps.{Pairs}
use Rattle.port_turns.specs.Turned.{exchanged}
use Rattle.port_turns.specs.Sent.{turn_out}
use Rattle.port_turns.specs.Readings.{read_turned, turned_read}
use Rattle.port_turns.proofs.Same.{read_turned_is}
use Rattle.port_view.specs.SlicePorts.{ports_of_slice, features_with}
use Rattle.flow_book.specs.declared.state.SliceState.{SliceState}
use Rattle.slice_words.specs.Messages.{Reading, asks_switch}
use Rattle.slice_words.specs.Items.{Settings, message_read, Sight, Item, Msg, is_up}
use Rattle.slice_words.specs.Pasts.{Answer, Past, no_answer}
use Rattle.slice_words.specs.Answers.{unread_answer, rated_answer, read_answer, message_answer}
use Rattle.slice_words.specs.Alone.{answer_to}
use Rattle.slice_words.specs.Standing.{SliceStands, past_of}
use Rattle.slice_side.specs.declared.reaction.Reaction.{Reaction}
use Rattle.slice_side.specs.Reactions.{Sees, Shown, Follows, IsChange, IsAnswered, IsReaction, physical_said}

-- what the state and the switch say is what the slice saw
pub shown : (s : Settings) (sight : Sight) (state : SliceState) (policy : SwitchView) (known : List (List ℕ)) (features : Features) (slot : ℕ)
    → SliceStands s sight state → Sees s sight.view policy known features slot → Shown sight.view policy.rules known features slot state.miss_send_len
shown s sight state policy known features slot stands sees = record {
  same_wanted = stands.miss_send_len;
  opening = sees.opening;
  opened = sees.opened;
  same =
      ap (λ (ports : List (List ℕ)). features_with sees.opening ports) sees.same_ports
      ∙ ap (λ (f : Features). record f { ports = ports_of_slice policy.rules slot known }) sees.same_features;
}

-- what is read of a message with physical port numbers, by what is read of it as it came
pub read_pairs : (pairs : Pairs) (message : List ℕ) (read : Reading) → read_controller message ≡ read → read_turned pairs message ≡ turned_read (exchanged pairs) read
read_pairs pairs message read is = read_turned_is pairs message ∙ ap (turned_read (exchanged pairs)) is

-- the slice's own pairs are those of the switch's policy
pub read_physical : (s : Settings) (pairs : Pairs) (message : List ℕ) (read : Reading) → s.swaps ≡ pairs → read_controller message ≡ read → message_read s message ≡ turned_read (exchanged pairs) read
read_physical s pairs message read same is = ap (λ (own : Pairs). read_turned own message) same ∙ read_pairs pairs message read is

-- a message that asks nothing of the switch names no port
pub names_no_port : (policy : SwitchView) (slot : ℕ) (asked : FromController) → asks_switch (Ok asked) ≡ false → physical_said policy slot asked ≡ asked
names_no_port policy slot said.Hello none = refl
names_no_port policy slot said.Error none = refl
names_no_port policy slot (said.EchoRequest body) none = refl
names_no_port policy slot said.EchoReply none = refl
names_no_port policy slot said.Vendor none = refl
names_no_port policy slot said.FeaturesRequest none = refl
names_no_port policy slot said.GetConfigRequest none = refl
names_no_port policy slot (said.SetConfig config) none = refl
names_no_port policy slot said.PortMod none = refl
names_no_port policy slot said.BarrierRequest none = refl
names_no_port policy slot (said.PacketOut m) none = absurd (true≢false none)
names_no_port policy slot (said.FlowMod m) none = absurd (true≢false none)
names_no_port policy slot (said.StatsRequest request) none = absurd (true≢false none)
names_no_port policy slot (said.QueueGetConfigRequest queues) none = absurd (true≢false none)

-- what follows from what was read
abbrev pub answer_read : Settings → List Item → ℕ → List ℕ → Reading → Answer
answer_read s view moment message read = elim read [ Err fault ↦ unread_answer fault message | Ok asked ↦ read_answer s view (past_of s view) moment asked message ]

pub reaction_of : (s : Settings) (sight : Sight) (message : List ℕ) (moment : ℕ) (r : Reaction) (read : Reading) → is_up sight.view ≡ true → message_read s message ≡ read
    → Follows s sight message read (answer_read s sight.view moment message read) moment r → IsAnswered s sight (Msg message moment) r
reaction_of s sight message moment r read up is follows =
    let same : answer_read s sight.view moment message read ≡ answer_to s sight.view (Msg message moment) =
    ap (answer_read s sight.view moment message) (sym is) ∙ ap (λ (b : Bool). if b then message_answer s sight.view (past_of s sight.view) moment message else no_answer) (sym up) in
    let so = subst (λ (a : Answer). Follows s sight message (message_read s message) a moment r) same (subst (λ (k : Reading). Follows s sight message k (answer_read s sight.view moment message read) moment r) (sym is) follows) in
    record { to_slice = so.to_slice; to_switch = so.to_switch; close = so.close; change = (up, so.change) }

-- what asks something of the switch is answered by the rate
pub asked_answer : (s : Settings) (view : List Item) (past : List Past) (moment : ℕ) (message : List ℕ) (asked : FromController) → asks_switch (Ok asked) ≡ true → rated_answer s view past moment asked message ≡ read_answer s view past moment asked message
unfolding read_answer
asked_answer s view past moment message (said.PacketOut m) is = refl
asked_answer s view past moment message (said.FlowMod m) is = refl
asked_answer s view past moment message (said.StatsRequest request) is = refl
asked_answer s view past moment message said.BarrierRequest is = refl
asked_answer s view past moment message (said.QueueGetConfigRequest queues) is = refl
asked_answer s view past moment message said.Hello is = absurd (true≢false (sym is))
asked_answer s view past moment message said.Error is = absurd (true≢false (sym is))
asked_answer s view past moment message (said.EchoRequest body) is = absurd (true≢false (sym is))
asked_answer s view past moment message said.EchoReply is = absurd (true≢false (sym is))
asked_answer s view past moment message said.Vendor is = absurd (true≢false (sym is))
asked_answer s view past moment message said.FeaturesRequest is = absurd (true≢false (sym is))
asked_answer s view past moment message said.GetConfigRequest is = absurd (true≢false (sym is))
asked_answer s view past moment message (said.SetConfig config) is = absurd (true≢false (sym is))
asked_answer s view past moment message said.PortMod is = absurd (true≢false (sym is))

-- with the port numbers that the slice is shown, an answer is what follows
pub shown_reaction : (s : Settings) (sight : Sight) (item : Item) (pairs : Pairs) (answered shown : Reaction) → s.swaps ≡ pairs → IsAnswered s sight item answered
    → shown.to_slice.items ≡ map (turn_out pairs) answered.to_slice.items → shown.to_switch.items ≡ answered.to_switch.items → shown.close ≡ answered.close → shown.change ≡ answered.change
    → IsReaction s sight item shown
shown_reaction s sight item pairs answered shown same is to_slice to_switch close change = record {
  to_slice = to_slice ∙ ap₂ (λ (own : Pairs) (messages : List (List ℕ)). map (turn_out own) messages) (sym same) is.to_slice;
  to_switch = to_switch ∙ is.to_switch;
  close = close ∙ is.close;
  change = subst (IsChange s sight item) (sym change) is.change;
}
