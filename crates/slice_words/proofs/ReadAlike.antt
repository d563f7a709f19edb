-- A message and the same one with its port numbers exchanged end their connection, want, ask and are of a kind alike: all of these name no port.
use Rattle.std.proofs.Common.{◌≡◌, ℕ, List, refl, ap, ◌∙◌, Ok, Err}
use Rattle.of10_message.specs.declared.controller.FromController.TheVariants as said
use Rattle.of10_message.specs.Controller.{read_controller}
use Rattle.of10_stats.specs.declared.request.StatsRequest.TheVariants as statistics
use Rattle.port_turns.specs.Turned.{exchanged}
use Rattle.port_turns.specs.Readings.{turned_read}
use Rattle.port_turns.proofs.Same.{read_turned_is}
use Rattle.slice_words.specs.Messages.{Reading, ends_connection, is_dismissing, length_wanted, length_set, asks_switch, is_question, kind_asked}
use Rattle.slice_words.specs.Items.{Settings, message_read}

module _ (exchange : ℕ → ℕ) where
  same_ends : (read : Reading) → ends_connection (turned_read exchange read) ≡ ends_connection read
  same_ends (Ok message) = refl
  same_ends (Err fault) = refl

  same_wanted : (read : Reading) → length_wanted (turned_read exchange read) ≡ length_wanted read
  same_wanted (Ok said.Hello) = refl
  same_wanted (Ok said.Error) = refl
  same_wanted (Ok (said.EchoRequest body)) = refl
  same_wanted (Ok said.EchoReply) = refl
  same_wanted (Ok said.Vendor) = refl
  same_wanted (Ok said.FeaturesRequest) = refl
  same_wanted (Ok said.GetConfigRequest) = refl
  same_wanted (Ok (said.SetConfig config)) = refl
  same_wanted (Ok (said.PacketOut m)) = refl
  same_wanted (Ok (said.FlowMod m)) = refl
  same_wanted (Ok said.PortMod) = refl
  same_wanted (Ok (said.StatsRequest request)) = refl
  same_wanted (Ok said.BarrierRequest) = refl
  same_wanted (Ok (said.QueueGetConfigRequest queues)) = refl
  same_wanted (Err fault) = refl

  pub same_asks : (read : Reading) → asks_switch (turned_read exchange read) ≡ asks_switch read
  same_asks (Ok said.Hello) = refl
  same_asks (Ok said.Error) = refl
  same_asks (Ok (said.EchoRequest body)) = refl
  same_asks (Ok said.EchoReply) = refl
  same_asks (Ok said.Vendor) = refl
  same_asks (Ok said.FeaturesRequest) = refl
  same_asks (Ok said.GetConfigRequest) = refl
  same_asks (Ok (said.SetConfig config)) = refl
  same_asks (Ok (said.PacketOut m)) = refl
  same_asks (Ok (said.FlowMod m)) = refl
  same_asks (Ok said.PortMod) = refl
  same_asks (Ok (said.StatsRequest request)) = refl
  same_asks (Ok said.BarrierRequest) = refl
  same_asks (Ok (said.QueueGetConfigRequest queues)) = refl
  same_asks (Err fault) = refl

  same_kind : (read : Reading) → kind_asked (turned_read exchange read) ≡ kind_asked read
  same_kind (Ok said.Hello) = refl
  same_kind (Ok said.Error) = refl
  same_kind (Ok (said.EchoRequest body)) = refl
  same_kind (Ok said.EchoReply) = refl
  same_kind (Ok said.Vendor) = refl
  same_kind (Ok said.FeaturesRequest) = refl
  same_kind (Ok said.GetConfigRequest) = refl
  same_kind (Ok (said.SetConfig config)) = refl
  same_kind (Ok (said.PacketOut m)) = refl
  same_kind (Ok (said.FlowMod m)) = refl
  same_kind (Ok said.PortMod) = refl
  same_kind (Ok (said.StatsRequest statistics.Desc)) = refl
  same_kind (Ok (said.StatsRequest statistics.Table)) = refl
  same_kind (Ok (said.StatsRequest (statistics.Flow pattern table out_port))) = refl
  same_kind (Ok (said.StatsRequest (statistics.Aggregate pattern table out_port))) = refl
  same_kind (Ok (said.StatsRequest (statistics.Port port))) = refl
  same_kind (Ok (said.StatsRequest (statistics.Queue port queue))) = refl
  same_kind (Ok said.BarrierRequest) = refl
  same_kind (Ok (said.QueueGetConfigRequest queues)) = refl
  same_kind (Err fault) = refl

module _ (s : Settings) (message : List ℕ) where
  pub read_ends : ends_connection (message_read s message) ≡ is_dismissing message
  read_ends = ap ends_connection (read_turned_is s.swaps message) ∙ same_ends (exchanged s.swaps) (read_controller message)

  pub read_wants : length_wanted (message_read s message) ≡ length_set message
  read_wants = ap length_wanted (read_turned_is s.swaps message) ∙ same_wanted (exchanged s.swaps) (read_controller message)

  pub read_asks : asks_switch (message_read s message) ≡ is_question message
  read_asks = ap asks_switch (read_turned_is s.swaps message) ∙ same_asks (exchanged s.swaps) (read_controller message)

  pub read_kind : kind_asked (message_read s message) ≡ kind_asked (read_controller message)
  read_kind = ap kind_asked (read_turned_is s.swaps message) ∙ same_kind (exchanged s.swaps) (read_controller message)
