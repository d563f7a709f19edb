-- What is read of a switch's message of some type.
use Rattle.std.proofs.Common.{◌≡◌, ◌≤◌, ◌==◌, ℕ, false, List, length, refl, ap, ◌∙◌, Ok}
use Rattle.of10_ctl.specs.declared.kind.TheConstants.{HELLO, GET_CONFIG_REPLY, QUEUE_GET_CONFIG_REPLY}
use Rattle.of10_ctl.specs.Kinds.{IsOf}
use Rattle.of10_message.specs.declared.config.SwitchConfig.{SwitchConfig}
use Rattle.of10_message.specs.Configs.{IsConfig, read_config, spell_config_reply}
use Rattle.of10_message.specs.Queues.{queues_in, read_queues, spell_queues_reply}
use Rattle.of10_message.proofs.ConfigReadAgain.{reply_again, reply_kind, queues_again, queues_kind}
use Rattle.of10_message.specs.Forms.{formed}
use Rattle.of10_message.specs.Switch.{GetConfigReply, QueueGetConfigReply, read_sent, read_switch}

sent_by : (kind : ℕ) (bytes : List ℕ) → IsOf kind bytes → (kind == HELLO) ≡ false → read_switch bytes ≡ read_sent bytes
unfolding read_switch
sent_by kind bytes of isnt = rw (of.3, of.2, of.1, isnt) refl

config_sent : (bytes : List ℕ) → IsOf GET_CONFIG_REPLY bytes → read_sent bytes ≡ formed GetConfigReply (read_config bytes)
unfolding read_sent
config_sent bytes of = rw of.2 refl

queues_sent : (bytes : List ℕ) → IsOf QUEUE_GET_CONFIG_REPLY bytes → read_sent bytes ≡ formed QueueGetConfigReply (read_queues bytes)
unfolding read_sent
queues_sent bytes of = rw of.2 refl

pub reply_read : (xid : ℕ) (config : SwitchConfig) → IsConfig config → read_switch (spell_config_reply xid config) ≡ Ok (GetConfigReply config)
reply_read xid config is =
    let bytes = spell_config_reply xid config in
    let of = reply_kind xid config in
    sent_by GET_CONFIG_REPLY bytes of refl ∙ config_sent bytes of ∙ ap (formed GetConfigReply) (reply_again xid config is)

pub queues_read : (xid : ℕ) (body : List ℕ) → 8 ≤ length body → length body ≤ 65527 → read_switch (spell_queues_reply xid body) ≡ Ok (QueueGetConfigReply (queues_in body))
queues_read xid body whole few =
    let bytes = spell_queues_reply xid body in
    let of = queues_kind xid body few in
    sent_by QUEUE_GET_CONFIG_REPLY bytes of refl ∙ queues_sent bytes of ∙ ap (formed QueueGetConfigReply) (queues_again xid body whole few)
