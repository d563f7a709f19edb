-- A frame that reads as a flow-mod or a packet-out is one by its type.
use Rattle.std.proofs.Common.{◌≡◌, ℕ, ◌==◌, not, Bool, true, false, cond, List, length, slice_index, Result, Ok, Err, refl, sym, ap, ◌∙◌, eqb-true, true≢false}
use Rattle.std.proofs.lemmas.Bool.{not-false}
use Rattle.of10_model.proofs.Results.{either}
use Rattle.of10_action.specs.declared.fault.WireFault.{WireFault}
use Rattle.of10_ctl.specs.declared.kind.TheConstants as kinds
use Rattle.of10_ctl.specs.Frames.{IsFrame, is_bad}
use Rattle.of10_ctl.specs.Kinds.{IsOf}
use Rattle.of10_flow.specs.declared.flow_mod.FlowMod.{FlowMod}
use Rattle.of10_flow.specs.declared.packet_out.PacketOut.{PacketOut}
use Rattle.of10_flow.specs.FlowMods.{read_flow_mod}
use Rattle.of10_flow.specs.PacketOuts.{read_packet_out}
use Rattle.of10_stats.specs.Requests.{read_request}
use Rattle.of10_message.specs.declared.controller.FromController.{FromController}
use Rattle.of10_message.specs.declared.controller.FromController.TheVariants as said
use Rattle.of10_message.specs.declared.fault.Unread.{Unread}
use Rattle.of10_message.specs.declared.fault.Unread.TheVariants.{BadLength, NoCommonVersion, BadVersion, BadType, BadForm}
use Rattle.of10_message.specs.Configs.{read_config}
use Rattle.of10_message.specs.Queues.{read_queues_request}
use Rattle.of10_message.specs.Heads.{version_of, is_kind}
use Rattle.of10_message.specs.Forms.{sized, formed, read_hello}
use Rattle.of10_message.specs.Controller.{read_typed, read_controller}

-- a flow-mod or a packet-out was read
abbrev is_judged : Result FromController Unread → Bool
is_judged (Ok (said.FlowMod m)) = true
is_judged (Ok (said.PacketOut m)) = true
is_judged read = false

module _ (bytes : List ℕ) (frame : IsFrame bytes) where
  -- where a message reads as a flow-mod or a packet-out, it has the type of one, and its bytes read as one
  record IsByKind (read : Result FromController Unread) : Type 0 where
    flow_mod : (m : FlowMod) → read ≡ Ok (said.FlowMod m) → IsOf kinds.FLOW_MOD bytes × (read_flow_mod bytes ≡ Ok m)
    packet_out : (m : PacketOut) → read ≡ Ok (said.PacketOut m) → IsOf kinds.PACKET_OUT bytes × (read_packet_out bytes ≡ Ok m)

  other : (read : Result FromController Unread) → is_judged read ≡ false → IsByKind read
  other read isnt = record {
    flow_mod = λ m e. absurd (true≢false (sym (ap is_judged e) ∙ isnt));
    packet_out = λ m e. absurd (true≢false (sym (ap is_judged e) ∙ isnt));
  }

  by_test : (b : Bool) (x y : Result FromController Unread) → (b ≡ true → IsByKind x) → (b ≡ false → IsByKind y) → IsByKind (cond b x y)
  by_test true x y one two = one refl
  by_test false x y one two = two refl

  over : (b : Bool) (x y : Result FromController Unread) → is_judged x ≡ false → IsByKind y → IsByKind (cond b x y)
  over b x y isnt two = by_test b x y (λ _. other x isnt) (λ _. two)

  not_sized : (message : FromController) → is_judged (Ok message) ≡ false → is_judged (sized 8 message bytes) ≡ false
  not_sized message isnt = either (λ (read : Result FromController Unread). is_judged read ≡ false) (length bytes == 8) (Ok message) _ isnt refl

  not_formed : {A : Type 0} (message : A → FromController) (read : Result A WireFault) → ((x : A) → is_judged (Ok (message x)) ≡ false) → is_judged (formed message read) ≡ false
  not_formed message (Ok x) isnt = isnt x
  not_formed message (Err fault) isnt = refl

  module _ (good : is_bad bytes ≡ false) (one : slice_index bytes 0 ≡ 1) where
    of_kind : (kind : ℕ) → is_kind kind bytes ≡ true → IsOf kind bytes
    of_kind kind is = (frame, one, eqb-true (slice_index bytes 1) kind is, good)

    flow_mod_formed : (found : Result FlowMod WireFault) → read_flow_mod bytes ≡ found → IsOf kinds.FLOW_MOD bytes → IsByKind (formed said.FlowMod found)
    flow_mod_formed (Err fault) read is = other (Err (BadForm fault)) refl
    flow_mod_formed (Ok x) read is = record { flow_mod = λ m e. (is, read ∙ cc); packet_out = λ m e. absurd cc }

    packet_out_formed : (found : Result PacketOut WireFault) → read_packet_out bytes ≡ found → IsOf kinds.PACKET_OUT bytes → IsByKind (formed said.PacketOut found)
    packet_out_formed (Err fault) read is = other (Err (BadForm fault)) refl
    packet_out_formed (Ok x) read is = record { flow_mod = λ m e. absurd cc; packet_out = λ m e. (is, read ∙ cc) }

    of_typed : IsByKind (read_typed bytes)
    unfolding read_typed
    of_typed =
        over (is_kind kinds.ERROR bytes) _ _ refl
        (over (is_kind kinds.ECHO_REQUEST bytes) _ _ refl
        (over (is_kind kinds.ECHO_REPLY bytes) _ _ refl
        (over (is_kind kinds.VENDOR bytes) _ _ refl
        (over (is_kind kinds.FEATURES_REQUEST bytes) _ _ (not_sized said.FeaturesRequest refl)
        (over (is_kind kinds.GET_CONFIG_REQUEST bytes) _ _ (not_sized said.GetConfigRequest refl)
        (over (is_kind kinds.SET_CONFIG bytes) _ _ (not_formed said.SetConfig (read_config bytes) (λ x. refl))
        (by_test (is_kind kinds.PACKET_OUT bytes) _ _ (λ is. packet_out_formed (read_packet_out bytes) refl (of_kind kinds.PACKET_OUT is)) (λ _.
        by_test (is_kind kinds.FLOW_MOD bytes) _ _ (λ is. flow_mod_formed (read_flow_mod bytes) refl (of_kind kinds.FLOW_MOD is)) (λ _.
        over (is_kind kinds.PORT_MOD bytes) _ _ refl
        (over (is_kind kinds.STATS_REQUEST bytes) _ _ (not_formed said.StatsRequest (read_request bytes) (λ x. refl))
        (over (is_kind kinds.BARRIER_REQUEST bytes) _ _ (not_sized said.BarrierRequest refl)
        (over (is_kind kinds.QUEUE_GET_CONFIG_REQUEST bytes) _ _ (not_formed said.QueueGetConfigRequest (read_queues_request bytes) (λ x. refl)) (other (Err BadType) refl)))))))))))))

  by_kind : IsByKind (read_controller bytes)
  unfolding read_controller
  by_kind =
      by_test (is_bad bytes) (Err BadLength) _ (λ _. other (Err BadLength) refl) (λ good.
      over (is_kind kinds.HELLO bytes) (read_hello said.Hello bytes) _ (either (λ (read : Result FromController Unread). is_judged read ≡ false) (version_of bytes == 0) (Err NoCommonVersion) (Ok said.Hello) refl refl)
      (by_test (not (version_of bytes == 1)) (Err BadVersion) _ (λ _. other (Err BadVersion) refl) (λ one.
      of_typed good (eqb-true (slice_index bytes 0) 1 (not-false (version_of bytes == 1) one)))))

  pub reads_flow_mod : (m : FlowMod) → read_controller bytes ≡ Ok (said.FlowMod m) → IsOf kinds.FLOW_MOD bytes × (read_flow_mod bytes ≡ Ok m)
  reads_flow_mod m e = by_kind.flow_mod m e

  pub reads_packet_out : (m : PacketOut) → read_controller bytes ≡ Ok (said.PacketOut m) → IsOf kinds.PACKET_OUT bytes × (read_packet_out bytes ≡ Ok m)
  reads_packet_out m e = by_kind.packet_out m e
