-- Which types of messages ask something of the switch.
use Rattle.std.proofs.Common.{◌≡◌, ◌==◌, not, cond, ℕ, Bool, true, false, List, length, drop, refl, Result, Ok, Err}
use Rattle.of10_action.specs.declared.fault.WireFault.{WireFault}
use Rattle.of10_ctl.specs.declared.kind.TheConstants.{HELLO, ERROR, ECHO_REQUEST, ECHO_REPLY, VENDOR, FEATURES_REQUEST, GET_CONFIG_REQUEST, SET_CONFIG, PACKET_OUT, FLOW_MOD, PORT_MOD, STATS_REQUEST, BARRIER_REQUEST, QUEUE_GET_CONFIG_REQUEST}
use Rattle.of10_ctl.specs.Frames.{is_bad}
use Rattle.of10_ctl.specs.Kinds.{is_of}
use Rattle.of10_message.specs.declared.controller.FromController.{FromController}
use Rattle.of10_message.specs.declared.controller.FromController.TheVariants as said
use Rattle.of10_message.specs.declared.fault.Unread.{Unread}
use Rattle.of10_message.specs.declared.fault.Unread.TheVariants.{BadLength, NoCommonVersion, BadVersion, BadType}
use Rattle.of10_message.specs.Configs.{read_config}
use Rattle.of10_message.specs.Forms.{sized, formed, read_hello}
use Rattle.of10_message.specs.Controller.{read_typed, read_controller}
use Rattle.of10_message.specs.Heads.{version_of, is_kind}
use Rattle.slice_words.specs.Messages.{asks_switch}

-- what holds of each where it is chosen holds of the chosen one
chosen : {A : Type 0} (P : A → Type 0) (b : Bool) (x y : A) → (b ≡ true → P x) → (b ≡ false → P y) → P (cond b x y)
chosen P true x y one other = one refl
chosen P false x y one other = other refl

either : {A : Type 0} (P : A → Type 0) (b : Bool) (x y : A) → P x → P y → P (cond b x y)
either P b x y one other = chosen P b x y (λ is. one) (λ isnt. other)

module _ (bytes : List ℕ) (out : is_of PACKET_OUT bytes ≡ false) (flow : is_of FLOW_MOD bytes ≡ false) (statistics : is_of STATS_REQUEST bytes ≡ false) (barrier : is_of BARRIER_REQUEST bytes ≡ false) where
  -- where a reading asks something of the switch, it is a question for queues
  abbrev IsLast : Result FromController Unread → Type 0
  IsLast read = asks_switch read ≡ true → is_of QUEUE_GET_CONFIG_REQUEST bytes ≡ true

  plain : (read : Result FromController Unread) → asks_switch read ≡ false → IsLast read
  plain read isnt is = absurd (let clash : false ≡ true = cc in cc)

  plain_sized : (size : ℕ) (message : FromController) → asks_switch (Ok message) ≡ false → IsLast (sized size message bytes)
  plain_sized size message isnt = either IsLast (length bytes == size) (Ok message) _ (plain (Ok message) isnt) (λ is. absurd (let clash : false ≡ true = is in cc))

  plain_formed : {A : Type 0} (message : A → FromController) (read : Result A WireFault) → ((value : A) → asks_switch (Ok (message value)) ≡ false) → IsLast (formed message read)
  plain_formed message (Ok value) isnt = plain (Ok (message value)) (isnt value)
  plain_formed message (Err fault) isnt = λ is. absurd (let clash : false ≡ true = is in cc)

  of_kind : (kind : ℕ) → (version_of bytes == 1) ≡ true → is_bad bytes ≡ false → is_kind kind bytes ≡ true → is_of kind bytes ≡ true
  of_kind kind one bad is = rw (one, bad, is) refl

  other : (kind : ℕ) (read : Result FromController Unread) → (version_of bytes == 1) ≡ true → is_bad bytes ≡ false → is_of kind bytes ≡ false → is_kind kind bytes ≡ true → IsLast read
  other kind read one bad isnt is = absurd (let yes = of_kind kind one bad is in cc)

  typed : (version_of bytes == 1) ≡ true → is_bad bytes ≡ false → IsLast (read_typed bytes)
  unfolding read_typed
  typed one bad =
      either IsLast (is_kind ERROR bytes) (Ok said.Error) _ (plain (Ok said.Error) refl)
      (either IsLast (is_kind ECHO_REQUEST bytes) (Ok (said.EchoRequest (drop 8 bytes))) _ (plain (Ok (said.EchoRequest (drop 8 bytes))) refl)
      (either IsLast (is_kind ECHO_REPLY bytes) (Ok said.EchoReply) _ (plain (Ok said.EchoReply) refl)
      (either IsLast (is_kind VENDOR bytes) (Ok said.Vendor) _ (plain (Ok said.Vendor) refl)
      (either IsLast (is_kind FEATURES_REQUEST bytes) _ _ (plain_sized 8 said.FeaturesRequest refl)
      (either IsLast (is_kind GET_CONFIG_REQUEST bytes) _ _ (plain_sized 8 said.GetConfigRequest refl)
      (either IsLast (is_kind SET_CONFIG bytes) _ _ (plain_formed said.SetConfig (read_config bytes) (λ config. refl))
      (chosen IsLast (is_kind PACKET_OUT bytes) _ _ (other PACKET_OUT _ one bad out) (λ not_out.
      chosen IsLast (is_kind FLOW_MOD bytes) _ _ (other FLOW_MOD _ one bad flow) (λ not_flow.
      either IsLast (is_kind PORT_MOD bytes) (Ok said.PortMod) _ (plain (Ok said.PortMod) refl)
      (chosen IsLast (is_kind STATS_REQUEST bytes) _ _ (other STATS_REQUEST _ one bad statistics) (λ not_statistics.
      chosen IsLast (is_kind BARRIER_REQUEST bytes) _ _ (other BARRIER_REQUEST _ one bad barrier) (λ not_barrier.
      chosen IsLast (is_kind QUEUE_GET_CONFIG_REQUEST bytes) _ _ (λ is asks. of_kind QUEUE_GET_CONFIG_REQUEST one bad is) (λ not_queues. plain (Err BadType) refl)))))))))))))

  not_false : (b : Bool) → not b ≡ false → b ≡ true
  not_false true e = refl
  not_false false e = absurd cc

  -- a question that isn't of the four other types is one for queues
  pub last_type : IsLast (read_controller bytes)
  unfolding read_controller
  last_type =
      chosen IsLast (is_bad bytes) (Err BadLength) _ (λ bad. plain (Err BadLength) refl) (λ good.
      either IsLast (is_kind HELLO bytes) (read_hello said.Hello bytes) _
      (either IsLast (version_of bytes == 0) (Err NoCommonVersion) (Ok said.Hello) (plain (Err NoCommonVersion) refl) (plain (Ok said.Hello) refl))
      (chosen IsLast (not (version_of bytes == 1)) (Err BadVersion) _ (λ bad. plain (Err BadVersion) refl) (λ one. typed (not_false (version_of bytes == 1) one) good)))
