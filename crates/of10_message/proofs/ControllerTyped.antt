-- What is read of a controller's message of some type.
use Rattle.std.proofs.Common.{◌≡◌, ◌==◌, ℕ, false, List, refl, ap, ◌∙◌, Ok}
use Rattle.of10_ctl.specs.declared.kind.TheConstants.{HELLO, SET_CONFIG, STATS_REQUEST, BARRIER_REQUEST, QUEUE_GET_CONFIG_REQUEST}
use Rattle.of10_ctl.specs.Kinds.{IsOf}
use Rattle.of10_message.specs.declared.config.SwitchConfig.{SwitchConfig}
use Rattle.of10_message.specs.declared.queues.QueuesQuestion.{QueuesQuestion}
use Rattle.of10_message.specs.Configs.{IsConfig, read_config, spell_set_config}
use Rattle.of10_message.specs.Queues.{IsQueuesQuestion, read_queues_request, spell_queues_request}
use Rattle.of10_message.proofs.ConfigReadAgain.{set_again, set_kind, question_again, question_kind}
use Rattle.of10_stats.specs.Requests.{read_request}
use Rattle.of10_message.specs.declared.controller.FromController.TheVariants as said
use Rattle.of10_message.specs.Forms.{sized, formed}
use Rattle.of10_message.specs.Controller.{read_typed, read_controller}

pub typed_by : (kind : ℕ) (bytes : List ℕ) → IsOf kind bytes → (kind == HELLO) ≡ false → read_controller bytes ≡ read_typed bytes
unfolding read_controller
typed_by kind bytes of isnt = rw (of.3, of.2, of.1, isnt) refl

set_typed : (bytes : List ℕ) → IsOf SET_CONFIG bytes → read_typed bytes ≡ formed said.SetConfig (read_config bytes)
unfolding read_typed
set_typed bytes of = rw of.2 refl

pub request_typed : (bytes : List ℕ) → IsOf STATS_REQUEST bytes → read_typed bytes ≡ formed said.StatsRequest (read_request bytes)
unfolding read_typed
request_typed bytes of = rw of.2 refl

pub barrier_typed : (bytes : List ℕ) → IsOf BARRIER_REQUEST bytes → read_typed bytes ≡ sized 8 said.BarrierRequest bytes
unfolding read_typed
barrier_typed bytes of = rw of.2 refl

pub queues_typed : (bytes : List ℕ) → IsOf QUEUE_GET_CONFIG_REQUEST bytes → read_typed bytes ≡ formed said.QueueGetConfigRequest (read_queues_request bytes)
unfolding read_typed
queues_typed bytes of = rw of.2 refl

pub set_read : (xid : ℕ) (config : SwitchConfig) → IsConfig config → read_controller (spell_set_config xid config) ≡ Ok (said.SetConfig config)
set_read xid config is =
    let bytes = spell_set_config xid config in
    let of = set_kind xid config in
    typed_by SET_CONFIG bytes of refl ∙ set_typed bytes of ∙ ap (formed said.SetConfig) (set_again xid config is)

pub question_read : (xid : ℕ) (question : QueuesQuestion) → IsQueuesQuestion question → read_controller (spell_queues_request xid question) ≡ Ok (said.QueueGetConfigRequest question)
question_read xid question is =
    let bytes = spell_queues_request xid question in
    let of = question_kind xid question is.padding in
    typed_by QUEUE_GET_CONFIG_REQUEST bytes of refl ∙ queues_typed bytes of ∙ ap (formed said.QueueGetConfigRequest) (question_again xid question is)
