-- What is spelled is read again.
use Rattle.std.proofs.Common.{◌≡◌, ◌<◌, ◌≤◌, ◌==◌, ◌+◌, ◌*◌, ◌/◌, ◌%◌, ℕ, nat_lt, Bool, true, false, if◌then◌else◌, List, [], ◌∷◌, ◌++◌, length, drop, refl, ap, ap₂, ◌∙◌, true≢false, eqb-true, Ok, Err, arith}
use Rattle.std.specs.List.{All}
use Rattle.std.proofs.lemmas.List.{length-drop}
use Rattle.std.proofs.lemmas.List.Elements.{All-head, All-drop}
use Rattle.byteorder.specs.Endian.{big_bytes}
use Rattle.std.specs.Prelude.{is_err}
use Rattle.std.proofs.lemmas.Bool.{eq-eqb, le-ltb}
use Rattle.byteorder.specs.Numbers.{big_number-reads_back}
use Rattle.of10_model.specs.Normal.{number_at}
use Rattle.of10_action.specs.declared.fault.WireFault.TheVariants.{Length}
use Rattle.of10_ctl.specs.declared.kind.TheConstants.{GET_CONFIG_REPLY, SET_CONFIG, QUEUE_GET_CONFIG_REQUEST, QUEUE_GET_CONFIG_REPLY}
use Rattle.of10_ctl.specs.Frames.{message_of}
use Rattle.of10_ctl.specs.Kinds.{IsOf}
use Rattle.of10_ctl.proofs.Reading.{length-message, IsOf-message}
use Rattle.of10_message.specs.declared.config.SwitchConfig.{SwitchConfig}
use Rattle.of10_message.specs.declared.queues.QueuesQuestion.{QueuesQuestion}
use Rattle.of10_message.specs.Configs.{IsConfig, config_in, config_bytes, read_config, spell_set_config, spell_config_reply}
use Rattle.of10_message.specs.Queues.{IsQueuesQuestion, question_in, question_bytes, read_queues_request, read_queues, queues_in, spell_queues_request, spell_queues_reply}

-- ---- how a switch is set

config_from : (bytes : List ℕ) (config : SwitchConfig) → number_at bytes 8 2 ≡ config.flags → number_at bytes 10 2 ≡ config.miss_send_len → config_in bytes ≡ config
config_from bytes config flags wanted = rw (flags, wanted) refl

config_again : (kind xid : ℕ) (config : SwitchConfig) → IsConfig config → read_config (message_of kind xid (config_bytes config)) ≡ Ok config
config_again kind xid config is =
    ap Ok (config_from (message_of kind xid (config_bytes config)) config (big_number-reads_back 2 config.flags [] is.flags) (big_number-reads_back 2 config.miss_send_len [] is.miss_send_len))

pub set_again : (xid : ℕ) (config : SwitchConfig) → IsConfig config → read_config (spell_set_config xid config) ≡ Ok config
set_again xid config is = config_again SET_CONFIG xid config is

pub reply_again : (xid : ℕ) (config : SwitchConfig) → IsConfig config → read_config (spell_config_reply xid config) ≡ Ok config
reply_again xid config is = config_again GET_CONFIG_REPLY xid config is

pub set_kind : (xid : ℕ) (config : SwitchConfig) → IsOf SET_CONFIG (spell_set_config xid config)
set_kind xid config = IsOf-message SET_CONFIG xid (config_bytes config) (omega arith)

pub reply_kind : (xid : ℕ) (config : SwitchConfig) → IsOf GET_CONFIG_REPLY (spell_config_reply xid config)
reply_kind xid config = IsOf-message GET_CONFIG_REPLY xid (config_bytes config) (omega arith)

-- ---- questions for queues

long : (kind xid : ℕ) (body : List ℕ) → length body ≡ 4 → (length (message_of kind xid body) == 12) ≡ true
long kind xid body few = (let all = length-message kind xid body in eq-eqb (length (message_of kind xid body)) 12 (omega (arith, all, few)))

question_from : (question : QueuesQuestion) → IsQueuesQuestion question → question_in (question_bytes question) ≡ question
question_from question is = rw (big_number-reads_back 2 question.port question.padding is.port) refl

few_bytes : (question : QueuesQuestion) → length question.padding ≡ 2 → length (question_bytes question) ≡ 4
few_bytes question few = omega (arith, few)

pub question_again : (xid : ℕ) (question : QueuesQuestion) → IsQueuesQuestion question → read_queues_request (spell_queues_request xid question) ≡ Ok question
question_again xid question is = rw (long QUEUE_GET_CONFIG_REQUEST xid (question_bytes question) (few_bytes question is.padding)) (ap Ok (question_from question is))

pub question_kind : (xid : ℕ) (question : QueuesQuestion) → length question.padding ≡ 2 → IsOf QUEUE_GET_CONFIG_REQUEST (spell_queues_request xid question)
question_kind xid question few = (let size = few_bytes question few in IsOf-message QUEUE_GET_CONFIG_REQUEST xid (question_bytes question) (omega (arith, size)))

-- what was read of a question is its port and its padding, and it has so many bytes
pub question_read : (message : List ℕ) (question : QueuesQuestion) → read_queues_request message ≡ Ok question → (length message ≡ 12) × (question ≡ question_in (drop 8 message))
question_read message question is = by_length (length message == 12) refl is
  where
    by_length : (fits : Bool) → (length message == 12) ≡ fits → (if fits then Ok (question_in (drop 8 message)) else Err (Length (length message))) ≡ Ok question
        → (length message ≡ 12) × (question ≡ question_in (drop 8 message))
    by_length true fits read = (eqb-true (length message) 12 fits, cc)
    by_length false fits read = absurd (true≢false (ap is_err read))

-- there are two bytes of padding
pub padding_read : (message : List ℕ) (question : QueuesQuestion) → read_queues_request message ≡ Ok question → length question.padding ≡ 2
padding_read message question is =
    let told = question_read message question is in
    let whole = told.0 in
    let behind = length-drop 2 (drop 8 message) in
    let body = length-drop 8 message in
    ap (λ (asked : QueuesQuestion). length asked.padding) told.1 ∙ omega (arith, whole, behind, body)

-- two bytes are spelled by the number that they say
two_again : (a b : ℕ) (rest : List ℕ) → a < 256 → b < 256 → (n : ℕ) → n ≡ a * 256 + b → big_bytes 2 n ++ rest ≡ a ∷ b ∷ rest
two_again a b rest high low n is =
    let first : n / 256 % 256 ≡ a = omega (arith, is, high, low) in
    let second : n % 256 ≡ b = omega (arith, is, high, low) in
    ap₂ (λ (x y : ℕ). x ∷ y ∷ rest) first second

port_again : (bytes : List ℕ) → 2 ≤ length bytes → All (λ byte. byte < 256) bytes → big_bytes 2 (number_at bytes 0 2) ++ drop 2 bytes ≡ bytes
port_again [] some all = absurd (omega arith)
port_again (a ∷ []) some all = absurd (omega arith)
port_again (a ∷ b ∷ rest) some all =
    let high = All-head (λ byte. byte < 256) a (b ∷ rest) all in
    let low = All-head (λ byte. byte < 256) b rest (All-drop (λ byte. byte < 256) 1 (a ∷ b ∷ rest) all) in
    two_again a b rest high low (number_at (a ∷ b ∷ rest) 0 2) (omega arith)

pub question_passed : (xid : ℕ) (message : List ℕ) (question : QueuesQuestion) → All (λ byte. byte < 256) message → read_queues_request message ≡ Ok question
    → spell_queues_request xid question ≡ message_of QUEUE_GET_CONFIG_REQUEST xid (drop 8 message)
question_passed xid message question all is =
    let told = question_read message question is in
    let whole = told.0 in
    let body = length-drop 8 message in
    ap (spell_queues_request xid) told.1
    ∙ ap (message_of QUEUE_GET_CONFIG_REQUEST xid) (port_again (drop 8 message) (omega (arith, whole, body)) (All-drop (λ byte. byte < 256) 8 message all))

-- ---- replies on queues

queues_from : (bytes body : List ℕ) → nat_lt (length bytes) 16 ≡ false → drop 8 bytes ≡ body → read_queues bytes ≡ Ok (queues_in body)
unfolding read_queues
queues_from bytes body whole same = rw (whole, same) refl

pub queues_again : (xid : ℕ) (body : List ℕ) → 8 ≤ length body → length body ≤ 65527 → read_queues (spell_queues_reply xid body) ≡ Ok (queues_in body)
queues_again xid body whole few =
    let bytes = spell_queues_reply xid body in
    let all = length-message QUEUE_GET_CONFIG_REPLY xid body in
    queues_from bytes body (le-ltb (length bytes) 16 (omega (arith, all, whole))) refl

pub queues_kind : (xid : ℕ) (body : List ℕ) → length body ≤ 65527 → IsOf QUEUE_GET_CONFIG_REPLY (spell_queues_reply xid body)
queues_kind xid body few = IsOf-message QUEUE_GET_CONFIG_REPLY xid body few
