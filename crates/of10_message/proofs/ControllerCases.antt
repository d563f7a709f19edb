-- What a controller's message says, case by case.
use Rattle.std.proofs.Common.{◌≡◌, ℕ, ◌==◌, not, Bool, true, false, List, length, drop, true≢false, ap, sym, refl, Result, Ok, Err, ◌∙◌}
use Rattle.of10_model.proofs.Results.{either}
use Rattle.of10_action.specs.declared.fault.WireFault.{WireFault}
use Rattle.of10_action.specs.declared.fault.WireFault.TheVariants.{Length}
use Rattle.of10_ctl.specs.declared.kind.TheConstants as kinds
use Rattle.of10_ctl.specs.Frames.{is_bad}
use Rattle.of10_message.specs.declared.config.SwitchConfig.{SwitchConfig}
use Rattle.of10_message.specs.declared.queues.QueuesQuestion.{QueuesQuestion}
use Rattle.of10_message.specs.Configs.{read_config}
use Rattle.of10_message.specs.Queues.{read_queues_request}
use Rattle.of10_flow.specs.declared.flow_mod.FlowMod.{FlowMod}
use Rattle.of10_flow.specs.declared.packet_out.PacketOut.{PacketOut}
use Rattle.of10_flow.specs.FlowMods.{read_flow_mod}
use Rattle.of10_flow.specs.PacketOuts.{read_packet_out}
use Rattle.of10_stats.specs.declared.request.StatsRequest.{StatsRequest}
use Rattle.of10_stats.specs.Requests.{read_request}
use Rattle.of10_message.specs.declared.controller.FromController.{FromController}
use Rattle.of10_message.specs.declared.controller.FromController.TheVariants as said
use Rattle.of10_message.specs.declared.fault.Unread.{Unread}
use Rattle.of10_message.specs.declared.fault.Unread.TheVariants.{BadLength, NoCommonVersion, BadVersion, BadType, BadForm}
use Rattle.of10_message.specs.Heads.{version_of, is_kind}
use Rattle.of10_message.specs.Forms.{sized, formed, read_hello}
use Rattle.of10_message.specs.Controller.{read_typed, read_controller}

-- a message whose body is read by no layout that says more than its type
abbrev pub is_plain : FromController → Bool
is_plain (said.EchoRequest body) = false
is_plain (said.SetConfig config) = false
is_plain (said.PacketOut m) = false
is_plain (said.FlowMod m) = false
is_plain (said.StatsRequest request) = false
is_plain (said.QueueGetConfigRequest queues) = false
is_plain message = true

-- a fact of what a message's bytes say, whatever that is
pub record HoldsOf (P : Result FromController Unread → Type 0) (bytes : List ℕ) : Type 0 where
  pub unread : (fault : Unread) → P (Err fault)
  pub plain : (message : FromController) → is_plain message ≡ true → P (Ok message)
  pub echo_request : P (Ok (said.EchoRequest (drop 8 bytes)))
  pub config : (config : SwitchConfig) → read_config bytes ≡ Ok config → P (Ok (said.SetConfig config))
  pub packet_out : (m : PacketOut) → read_packet_out bytes ≡ Ok m → P (Ok (said.PacketOut m))
  pub flow_mod : (m : FlowMod) → read_flow_mod bytes ≡ Ok m → P (Ok (said.FlowMod m))
  pub statistics : (request : StatsRequest) → read_request bytes ≡ Ok request → P (Ok (said.StatsRequest request))
  pub queues : (queues : QueuesQuestion) → read_queues_request bytes ≡ Ok queues → P (Ok (said.QueueGetConfigRequest queues))

module _ (P : Result FromController Unread → Type 0) (bytes : List ℕ) (holds : HoldsOf P bytes) where
  of_bare : (message : FromController) → is_plain message ≡ true → P (sized 8 message bytes)
  of_bare message is = either P (length bytes == 8) (Ok message) (Err (BadForm (Length (length bytes)))) (holds.plain message is) (holds.unread (BadForm (Length (length bytes))))

  of_form : {A : Type 0} (message : A → FromController) (found : Result A WireFault) → ((record_read : A) → found ≡ Ok record_read → P (Ok (message record_read))) → P (formed message found)
  of_form message (Ok record_read) right = right record_read refl
  of_form message (Err fault) right = holds.unread (BadForm fault)

  of_typed : P (read_typed bytes)
  unfolding read_typed
  of_typed =
      either P (is_kind kinds.ERROR bytes) _ _ (holds.plain said.Error refl)
      (either P (is_kind kinds.ECHO_REQUEST bytes) _ _ holds.echo_request
      (either P (is_kind kinds.ECHO_REPLY bytes) _ _ (holds.plain said.EchoReply refl)
      (either P (is_kind kinds.VENDOR bytes) _ _ (holds.plain said.Vendor refl)
      (either P (is_kind kinds.FEATURES_REQUEST bytes) _ _ (of_bare said.FeaturesRequest refl)
      (either P (is_kind kinds.GET_CONFIG_REQUEST bytes) _ _ (of_bare said.GetConfigRequest refl)
      (either P (is_kind kinds.SET_CONFIG bytes) _ _ (of_form said.SetConfig (read_config bytes) holds.config)
      (either P (is_kind kinds.PACKET_OUT bytes) _ _ (of_form said.PacketOut (read_packet_out bytes) holds.packet_out)
      (either P (is_kind kinds.FLOW_MOD bytes) _ _ (of_form said.FlowMod (read_flow_mod bytes) holds.flow_mod)
      (either P (is_kind kinds.PORT_MOD bytes) _ _ (holds.plain said.PortMod refl)
      (either P (is_kind kinds.STATS_REQUEST bytes) _ _ (of_form said.StatsRequest (read_request bytes) holds.statistics)
      (either P (is_kind kinds.BARRIER_REQUEST bytes) _ _ (of_bare said.BarrierRequest refl)
      (either P (is_kind kinds.QUEUE_GET_CONFIG_REQUEST bytes) _ _ (of_form said.QueueGetConfigRequest (read_queues_request bytes) holds.queues) (holds.unread BadType)))))))))))))

  pub of_controller : P (read_controller bytes)
  unfolding read_controller
  of_controller =
      either P (is_bad bytes) (Err BadLength) _ (holds.unread BadLength)
      (either P (is_kind kinds.HELLO bytes) (read_hello said.Hello bytes) _
      (either P (version_of bytes == 0) (Err NoCommonVersion) (Ok said.Hello) (holds.unread NoCommonVersion) (holds.plain said.Hello refl))
      (either P (not (version_of bytes == 1)) (Err BadVersion) _ (holds.unread BadVersion) of_typed))

-- ---- what is read by a layout

module _ (bytes : List ℕ) where
  -- where a message reads as a request for statistics its bytes do, and so where it reads as a question for queues; of an echo all behind the head is read
  record IsAsBytes (read : Result FromController Unread) : Type 0 where
    request : (request : StatsRequest) → read ≡ Ok (said.StatsRequest request) → read_request bytes ≡ Ok request
    queues : (queues : QueuesQuestion) → read ≡ Ok (said.QueueGetConfigRequest queues) → read_queues_request bytes ≡ Ok queues
    echo : (body : List ℕ) → read ≡ Ok (said.EchoRequest body) → body ≡ drop 8 bytes

  -- a message is one of the three
  abbrev is_of_these : Result FromController Unread → Bool
  is_of_these (Ok (said.EchoRequest body)) = true
  is_of_these (Ok (said.StatsRequest request)) = true
  is_of_these (Ok (said.QueueGetConfigRequest queues)) = true
  is_of_these read = false

  other : (read : Result FromController Unread) → is_of_these read ≡ false → IsAsBytes read
  other read isnt = record {
    request = λ request e. absurd (true≢false (sym (ap is_of_these e) ∙ isnt));
    queues = λ queues e. absurd (true≢false (sym (ap is_of_these e) ∙ isnt));
    echo = λ body e. absurd (true≢false (sym (ap is_of_these e) ∙ isnt));
  }

  other_plain : (message : FromController) → is_plain message ≡ true → is_of_these (Ok message) ≡ false
  other_plain (said.EchoRequest body) is = absurd (true≢false (sym is))
  other_plain (said.SetConfig config) is = absurd (true≢false (sym is))
  other_plain (said.PacketOut m) is = absurd (true≢false (sym is))
  other_plain (said.FlowMod m) is = absurd (true≢false (sym is))
  other_plain (said.StatsRequest request) is = absurd (true≢false (sym is))
  other_plain (said.QueueGetConfigRequest queues) is = absurd (true≢false (sym is))
  other_plain said.Hello is = refl
  other_plain said.Error is = refl
  other_plain said.EchoReply is = refl
  other_plain said.Vendor is = refl
  other_plain said.FeaturesRequest is = refl
  other_plain said.GetConfigRequest is = refl
  other_plain said.PortMod is = refl
  other_plain said.BarrierRequest is = refl

  as_bytes : IsAsBytes (read_controller bytes)
  as_bytes = of_controller IsAsBytes bytes (record {
    unread = λ fault. other (Err fault) refl;
    plain = λ message is. other (Ok message) (other_plain message is);
    echo_request = record { request = λ request e. absurd cc; queues = λ queues e. absurd cc; echo = λ body e. cc };
    config = λ config is. other (Ok (said.SetConfig config)) refl;
    packet_out = λ m is. other (Ok (said.PacketOut m)) refl;
    flow_mod = λ m is. other (Ok (said.FlowMod m)) refl;
    statistics = λ r is. record { request = λ request e. is ∙ cc; queues = λ queues e. absurd cc; echo = λ body e. absurd cc };
    queues = λ q is. record { request = λ request e. absurd cc; queues = λ queues e. is ∙ cc; echo = λ body e. absurd cc };
  })

-- a message that reads as a request for statistics does so by its bytes
pub request_as_read : (message : List ℕ) (request : StatsRequest) → read_controller message ≡ Ok (said.StatsRequest request) → read_request message ≡ Ok request
request_as_read message request read = (as_bytes message).request request read

-- and so one that reads as a question for queues
pub queues_as_read : (message : List ℕ) (queues : QueuesQuestion) → read_controller message ≡ Ok (said.QueueGetConfigRequest queues) → read_queues_request message ≡ Ok queues
queues_as_read message queues read = (as_bytes message).queues queues read

-- and of an echo all behind the head is read
pub echo_as_read : (message body : List ℕ) → read_controller message ≡ Ok (said.EchoRequest body) → body ≡ drop 8 message
echo_as_read message body read = (as_bytes message).echo body read
