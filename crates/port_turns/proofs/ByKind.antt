-- A message that is turned has the kind of the message, and so is read by the same layout.
use Rattle.std.proofs.Common.{◌≡◌, ℕ, ◌==◌, not, Bool, true, false, cond, List, length, take, slice_index, ◌<◌, refl, sym, ap, subst, ◌∙◌, true≢false, Result, Ok, Err, arith}
use Rattle.std.proofs.lemmas.Bool.{eqb-true}
use Rattle.std.proofs.lemmas.List.{get_or-take}
use Rattle.of10_model.specs.Normal.{number_at}
use Rattle.of10_model.proofs.Results.{either}
use Rattle.of10_action.specs.declared.fault.WireFault.{WireFault}
use Rattle.of10_action.specs.declared.fault.WireFault.TheVariants.{Length}
use Rattle.of10_ctl.specs.declared.kind.TheConstants as kinds
use Rattle.of10_ctl.specs.Frames.{is_bad}
use Rattle.of10_message.specs.Queues.{read_queues_request}
use Rattle.of10_flow.specs.FlowMods.{read_flow_mod}
use Rattle.of10_flow.specs.PacketOuts.{read_packet_out}
use Rattle.of10_stats.specs.Requests.{read_request}
use Rattle.of10_message.specs.declared.controller.FromController.{FromController}
use Rattle.of10_message.specs.declared.controller.FromController.TheVariants as said
use Rattle.of10_message.specs.declared.fault.Unread.{Unread}
use Rattle.of10_message.specs.declared.fault.Unread.TheVariants.{BadLength, NoCommonVersion, BadVersion, BadForm}
use Rattle.of10_message.specs.Heads.{version_of, message_kind, is_kind}
use Rattle.of10_message.specs.Forms.{sized, formed, read_hello}
use Rattle.of10_message.specs.Controller.{read_typed, read_controller}
use Rattle.port_turns.proofs.Patched.{number_take}

-- what holds where a test holds, and where it doesn't, holds of the choice
pub known : {A : Type 0} (P : A → Type 0) (b : Bool) (x y : A) → (b ≡ true → P x) → (b ≡ false → P y) → P (cond b x y)
known P true x y one other = one refl
known P false x y one other = other refl

-- ---- the kinds whose ports are exchanged

abbrev kind_of : FromController → ℕ → ℕ
kind_of (said.PacketOut m) kind = kinds.PACKET_OUT
kind_of (said.FlowMod m) kind = kinds.FLOW_MOD
kind_of (said.StatsRequest request) kind = kinds.STATS_REQUEST
kind_of (said.QueueGetConfigRequest queues) kind = kinds.QUEUE_GET_CONFIG_REQUEST
kind_of message kind = kind

-- what is read is of its kind
abbrev Fits : ℕ → Result FromController Unread → Type 0
Fits kind (Ok message) = kind ≡ kind_of message kind
Fits kind (Err fault) = Unit {0}

module _ (bytes : List ℕ) where
  abbrev Here : Result FromController Unread → Type 0
  Here = Fits (message_kind bytes)

  bare_fits : (message : FromController) → Here (Ok message) → Here (sized 8 message bytes)
  bare_fits message fits = either Here (length bytes == 8) (Ok message) (Err (BadForm (Length (length bytes)))) fits tt

  formed_fits : {A : Type 0} (message : A → FromController) (found : Result A WireFault) → ((x : A) → Here (Ok (message x))) → Here (formed message found)
  formed_fits message (Ok x) fits = fits x
  formed_fits message (Err fault) fits = tt

  typed_fits : Here (read_typed bytes)
  unfolding read_typed
  typed_fits =
      either Here (is_kind kinds.ERROR bytes) _ _ refl
      (either Here (is_kind kinds.ECHO_REQUEST bytes) _ _ refl
      (either Here (is_kind kinds.ECHO_REPLY bytes) _ _ refl
      (either Here (is_kind kinds.VENDOR bytes) _ _ refl
      (either Here (is_kind kinds.FEATURES_REQUEST bytes) _ _ (bare_fits said.FeaturesRequest refl)
      (either Here (is_kind kinds.GET_CONFIG_REQUEST bytes) _ _ (bare_fits said.GetConfigRequest refl)
      (either Here (is_kind kinds.SET_CONFIG bytes) _ _ (formed_fits said.SetConfig _ (λ config. refl))
      (known Here (is_kind kinds.PACKET_OUT bytes) _ _ (λ is. formed_fits said.PacketOut (read_packet_out bytes) (λ m. eqb-true (message_kind bytes) kinds.PACKET_OUT is)) (λ isnt.
      known Here (is_kind kinds.FLOW_MOD bytes) _ _ (λ is. formed_fits said.FlowMod (read_flow_mod bytes) (λ m. eqb-true (message_kind bytes) kinds.FLOW_MOD is)) (λ isnt.
      either Here (is_kind kinds.PORT_MOD bytes) _ _ refl
      (known Here (is_kind kinds.STATS_REQUEST bytes) _ _ (λ is. formed_fits said.StatsRequest (read_request bytes) (λ m. eqb-true (message_kind bytes) kinds.STATS_REQUEST is)) (λ isnt.
      either Here (is_kind kinds.BARRIER_REQUEST bytes) _ _ (bare_fits said.BarrierRequest refl)
      (known Here (is_kind kinds.QUEUE_GET_CONFIG_REQUEST bytes) _ _ (λ is. formed_fits said.QueueGetConfigRequest (read_queues_request bytes) (λ m. eqb-true (message_kind bytes) kinds.QUEUE_GET_CONFIG_REQUEST is)) (λ isnt. tt)))))))))))))

  -- the head is right, and is no HELLO's
  pub record IsTyped : Type 0 where
    pub good : is_bad bytes ≡ false
    pub other : is_kind kinds.HELLO bytes ≡ false
    pub version : (version_of bytes == 1) ≡ true

  abbrev pub is_hello : FromController → Bool
  is_hello said.Hello = true
  is_hello message = false

  -- where something but a HELLO is read, it is read by its type
  abbrev ByType : Result FromController Unread → Type 0
  ByType r = (message : FromController) → r ≡ Ok message → is_hello message ≡ false → IsTyped × (read_typed bytes ≡ Ok message)

  by_type : ByType (read_controller bytes)
  unfolding read_controller
  by_type =
      known ByType (is_bad bytes) (Err BadLength) _ (λ bad message e. absurd cc) (λ good.
      known ByType (is_kind kinds.HELLO bytes) (read_hello said.Hello bytes) _
      (λ hello. either ByType (version_of bytes == 0) (Err NoCommonVersion) (Ok said.Hello) (λ message e. absurd cc) (λ message e isnt. absurd (true≢false (ap is_of e ∙ isnt)))) (λ other.
      known ByType (not (version_of bytes == 1)) (Err BadVersion) _ (λ bad message e. absurd cc) (λ one message e isnt. (record { good = good; other = other; version = not_false (version_of bytes == 1) one }, e))))
    where
      is_of : Result FromController Unread → Bool
      is_of (Ok message) = is_hello message
      is_of (Err fault) = false

      not_false : (b : Bool) → not b ≡ false → b ≡ true
      not_false true is = refl
      not_false false is = absurd (true≢false is)

  -- it is read by the layout of its kind
  pub is_typed : (message : FromController) → read_controller bytes ≡ Ok message → is_hello message ≡ false → IsTyped × (read_typed bytes ≡ Ok message) × (message_kind bytes ≡ kind_of message (message_kind bytes))
  is_typed message e isnt =
      let typed = by_type message e isnt in
      (typed.0, typed.1, fits (read_typed bytes) typed.1 typed_fits)
    where
      fits : (r : Result FromController Unread) → r ≡ Ok message → Here r → Here (Ok message)
      fits r is here = subst Here is here

-- ---- the same head

module _ (bytes turned : List ℕ) (head : take 8 turned ≡ take 8 bytes) where
  pub same_byte : (k : ℕ) → k < 8 → slice_index turned k ≡ slice_index bytes k
  same_byte k lt = sym (get_or-take 8 turned k 0 lt) ∙ ap (λ (l : List ℕ). slice_index l k) head ∙ get_or-take 8 bytes k 0 lt

  pub same_length : number_at turned 2 2 ≡ number_at bytes 2 2
  same_length = sym (number_take 8 turned 2 2 (omega arith)) ∙ ap (λ (l : List ℕ). number_at l 2 2) head ∙ number_take 8 bytes 2 2 (omega arith)

  pub same_kind : slice_index turned 1 ≡ slice_index bytes 1
  same_kind = same_byte 1 (omega arith)

  -- one with the same head is read by its type too
  pub typed_too : IsTyped bytes → read_controller turned ≡ read_typed turned
  unfolding read_controller
  typed_too is = rw (same_length, same_byte 0 (omega arith), same_kind, is.good, is.other, is.version) refl

-- ---- the layouts

pub packet_out_typed : (bytes : List ℕ) → slice_index bytes 1 ≡ 13 → read_typed bytes ≡ formed said.PacketOut (read_packet_out bytes)
unfolding read_typed
packet_out_typed bytes is = rw is refl

pub flow_mod_typed : (bytes : List ℕ) → slice_index bytes 1 ≡ 14 → read_typed bytes ≡ formed said.FlowMod (read_flow_mod bytes)
unfolding read_typed
flow_mod_typed bytes is = rw is refl

pub request_typed : (bytes : List ℕ) → slice_index bytes 1 ≡ 16 → read_typed bytes ≡ formed said.StatsRequest (read_request bytes)
unfolding read_typed
request_typed bytes is = rw is refl

pub queues_typed : (bytes : List ℕ) → slice_index bytes 1 ≡ 20 → read_typed bytes ≡ formed said.QueueGetConfigRequest (read_queues_request bytes)
unfolding read_typed
queues_typed bytes is = rw is refl
