-- Each field of a flow-mod, of a packet-out and of a packet-in that is read of bytes lies in its range.
use Rattle.std.proofs.Common.{◌≡◌, refl, sym, ◌∙◌, ap, subst, ℕ, ◌+◌, zero, suc, ◌<◌, ◌^◌, ◌==◌, not, nat_lt, Bool, true, false, if◌then◌else◌, List, [], ◌∷◌, length, take, drop, slice_index, All, Result, Ok, Err}
use Rattle.std.proofs.lemmas.List.Elements.{All-nil, All-cons}
use Rattle.of10_model.specs.Normal.{number_at, IsNormal}
use Rattle.of10_model.proofs.Applied.{IsNormal-Norm}
use Rattle.of10_model.proofs.Ranges.{bytes-drop, bytes-take, number_at-lt}
use Rattle.of10_model.proofs.Results.{either, ok_is, passed, bind_ok}
use Rattle.of10_action.specs.declared.action.Action.{Action}
use Rattle.of10_action.specs.declared.action.Action.TheVariants.{Output, SetVlanVid, SetVlanPcp, StripVlan, SetDlSrc, SetDlDst, SetNwSrc, SetNwDst, SetNwTos, SetTpSrc, SetTpDst, Enqueue}
use Rattle.of10_action.specs.declared.fault.WireFault.{WireFault}
use Rattle.of10_action.specs.declared.fault.WireFault.TheVariants.{Length}
use Rattle.of10_action.specs.Actions.{IsAction}
use Rattle.of10_action.specs.Reading.{head_at, action_of, action_at, actions_at, read_all}
use Rattle.of10_model.specs.Results.{◌>>=◌}
use Rattle.of10_ctl.specs.declared.kind.TheConstants.{HELLO, ERROR, ECHO_REQUEST, ECHO_REPLY, VENDOR, FEATURES_REQUEST, GET_CONFIG_REQUEST, SET_CONFIG, PACKET_OUT, FLOW_MOD, PORT_MOD, STATS_REQUEST, BARRIER_REQUEST, QUEUE_GET_CONFIG_REQUEST}
use Rattle.of10_ctl.specs.Frames.{is_bad}
use Rattle.of10_flow.specs.declared.flow_mod.FlowMod.{FlowMod}
use Rattle.of10_flow.specs.FlowMods.{IsRanged, flow_mod_with, read_flow_mod}
use Rattle.of10_flow.proofs.Viewed.{IsRanged-with}
use Rattle.of10_flow.specs.declared.packet_in.PacketIn.{PacketIn}
use Rattle.of10_flow.specs.declared.packet_out.PacketOut.{PacketOut}
use Rattle.of10_flow.specs.PacketIns.{read_packet_in}
use Rattle.of10_flow.specs.PacketOuts.{IsRangedOut, read_packet_out}
use Rattle.of10_stats.specs.Requests.{read_request}
use Rattle.of10_message.specs.Configs.{read_config}
use Rattle.of10_message.specs.Queues.{read_queues_request}
use Rattle.of10_message.specs.declared.controller.FromController.{FromController}
use Rattle.of10_message.specs.declared.controller.FromController.TheVariants as said
use Rattle.of10_message.specs.declared.fault.Unread.{Unread}
use Rattle.of10_message.specs.declared.fault.Unread.TheVariants.{BadLength, NoCommonVersion, BadVersion, BadType}
use Rattle.of10_message.specs.Heads.{version_of, is_kind}
use Rattle.of10_message.specs.Forms.{sized, formed, read_hello}
use Rattle.of10_message.specs.Controller.{read_typed, read_controller}

-- ---- actions

-- an action that is read of bytes lies in its ranges
IsAction-of : (kind : ℕ) (bytes : List ℕ) → ((k : ℕ) → slice_index bytes k < 256) → IsAction (action_of kind bytes)
unfolding action_of
IsAction-of kind bytes h =
    let two = number_at-lt bytes 4 2 h in
    let four = number_at-lt bytes 4 4 h in
    let six = number_at-lt bytes 4 6 h in
    either IsAction (kind == 0) (Output (number_at bytes 4 2) (number_at bytes 6 2)) _ (two, number_at-lt bytes 6 2 h)
    (either IsAction (kind == 1) (SetVlanVid (number_at bytes 4 2)) _ two
    (either IsAction (kind == 2) (SetVlanPcp (slice_index bytes 4)) _ (h 4)
    (either IsAction (kind == 3) StripVlan _ tt
    (either IsAction (kind == 4) (SetDlSrc (number_at bytes 4 6)) _ six
    (either IsAction (kind == 5) (SetDlDst (number_at bytes 4 6)) _ six
    (either IsAction (kind == 6) (SetNwSrc (number_at bytes 4 4)) _ four
    (either IsAction (kind == 7) (SetNwDst (number_at bytes 4 4)) _ four
    (either IsAction (kind == 8) (SetNwTos (slice_index bytes 4)) _ (h 4)
    (either IsAction (kind == 9) (SetTpSrc (number_at bytes 4 2)) _ two
    (either IsAction (kind == 10) (SetTpDst (number_at bytes 4 2)) (Enqueue (number_at bytes 4 2) (number_at bytes 12 4)) two (two, number_at-lt bytes 12 4 h)))))))))))

IsAction-at : (bytes : List ℕ) (first : Action × List ℕ) → ((k : ℕ) → slice_index bytes k < 256) → action_at bytes ≡ Ok first → IsAction first.0 × ((k : ℕ) → slice_index first.1 k < 256)
unfolding action_at
IsAction-at bytes first h e =
    let head = bind_ok (head_at bytes) (λ found. Ok (action_of found.0 bytes, drop found.1 bytes)) first e in
    subst (λ (pair : Action × List ℕ). IsAction pair.0 × ((k : ℕ) → slice_index pair.1 k < 256)) (ok_is (action_of head.0.0 bytes, drop head.0.1 bytes) first head.2)
    (IsAction-of head.0.0 bytes h, bytes-drop bytes head.0.1 h)

AreActions : (n : ℕ) (bytes : List ℕ) (actions : List Action) → ((k : ℕ) → slice_index bytes k < 256) → actions_at n bytes ≡ Ok actions → All IsAction actions
unfolding actions_at
AreActions n [] actions h e = subst (All IsAction) (ok_is [] actions e) (All-nil IsAction)
AreActions zero (byte ∷ bytes) actions h e = subst (All IsAction) (ok_is [] actions e) (All-nil IsAction)
AreActions (suc n) (byte ∷ bytes) actions h e =
    let first = bind_ok (action_at (byte ∷ bytes)) (λ found. actions_at n found.1 >>= λ others. Ok (found.0 ∷ others)) actions e in
    let rest = bind_ok (actions_at n first.0.1) (λ others. Ok (first.0.0 ∷ others)) actions first.2 in
    let one = IsAction-at (byte ∷ bytes) first.0 h first.1 in
    subst (All IsAction) (ok_is (first.0.0 ∷ rest.0) actions rest.2) (All-cons IsAction first.0.0 rest.0 one.0 (AreActions n first.0.1 rest.0 one.1 rest.1))

-- ---- flow-mods

-- but for its length and its transaction id, each field lies in its range
abbrev pub IsRead : FlowMod → Type 0
IsRead = IsRanged

read_flow : (bytes : List ℕ) (m : FlowMod) → ((k : ℕ) → slice_index bytes k < 256) → read_flow_mod bytes ≡ Ok m → IsRead m
unfolding read_flow_mod
read_flow bytes m h e =
    let fields = passed (nat_lt (length bytes) 72) (Length (length bytes)) (read_all (drop 72 bytes) >>= λ actions. Ok (flow_mod_with actions bytes)) m e in
    let list = bind_ok (read_all (drop 72 bytes)) (λ actions. Ok (flow_mod_with actions bytes)) m fields.1 in
    subst IsRead (ok_is (flow_mod_with list.0 bytes) m list.2)
    (IsRanged-with list.0 bytes h (AreActions (length (drop 72 bytes)) (drop 72 bytes) list.0 (bytes-drop bytes 72 h) list.1))

-- ---- packet-outs

abbrev pub IsReadOut : PacketOut → Type 0
IsReadOut = IsRangedOut

read_out : (bytes : List ℕ) (m : PacketOut) → ((k : ℕ) → slice_index bytes k < 256) → read_packet_out bytes ≡ Ok m → IsReadOut m
unfolding read_packet_out
read_out bytes m h e =
    let size = number_at bytes 14 2 in
    let given = λ (actions : List Action). Ok (record {
      xid = number_at bytes 4 4;
      buffer = number_at bytes 8 4;
      in_port = number_at bytes 12 2;
      actions = actions;
      payload = drop (16 + size) bytes;
    }) in
    let list_read = read_all (take size (drop 16 bytes)) >>= given in
    let fields = passed (nat_lt (length bytes) 16) (Length (length bytes)) (if nat_lt (length bytes) (16 + size) then Err (Length (length bytes)) else list_read) m e in
    let long = passed (nat_lt (length bytes) (16 + size)) (Length (length bytes)) list_read m fields.1 in
    let list = bind_ok (read_all (take size (drop 16 bytes))) given m long.1 in
    let behind = bytes-take size (drop 16 bytes) (bytes-drop bytes 16 h) in
    subst IsReadOut (ok_is (record { xid = number_at bytes 4 4; buffer = number_at bytes 8 4; in_port = number_at bytes 12 2; actions = list.0; payload = drop (16 + size) bytes }) m list.2)
    (record { buffer = number_at-lt bytes 8 4 h; in_port = number_at-lt bytes 12 2 h; actions = AreActions (length (take size (drop 16 bytes))) (take size (drop 16 bytes)) list.0 behind list.1 })

-- ---- packet-ins

-- its number and its port lie in their ranges
pub record IsReadIn (packet : PacketIn) : Type 0 where
  pub buffer : packet.buffer < 2 ^ 32
  pub in_port : packet.in_port < 2 ^ 16

pub read_in : (bytes : List ℕ) (packet : PacketIn) → ((k : ℕ) → slice_index bytes k < 256) → read_packet_in bytes ≡ Ok packet → IsReadIn packet
unfolding read_packet_in
read_in bytes packet h e =
    let found : PacketIn = record {
      xid = number_at bytes 4 4;
      buffer = number_at bytes 8 4;
      total_len = number_at bytes 12 2;
      in_port = number_at bytes 14 2;
      reason = number_at bytes 16 1;
      payload = drop 18 bytes;
    } in
    let fields = passed (nat_lt (length bytes) 18) (Length (length bytes)) (Ok found) packet e in
    subst IsReadIn (ok_is found packet fields.1) (record { buffer = number_at-lt bytes 8 4 h; in_port = number_at-lt bytes 14 2 h })

-- ---- messages of a controller

abbrev Reads : FromController → Result FromController Unread → Type 0
Reads asked read = read ≡ Ok asked

-- a flow-mod or a packet-out was read
abbrev is_either : Result FromController Unread → Bool
is_either (Ok (said.FlowMod m)) = true
is_either (Ok (said.PacketOut m)) = true
is_either read = false

not_sized : (size : ℕ) (message : FromController) (bytes : List ℕ) → is_either (Ok message) ≡ false → is_either (sized size message bytes) ≡ false
not_sized size message bytes isnt = either (λ (read : Result FromController Unread). is_either read ≡ false) (length bytes == size) (Ok message) _ isnt refl

not_formed : {A : Type 0} (message : A → FromController) (read : Result A WireFault) → ((x : A) → is_either (Ok (message x)) ≡ false) → is_either (formed message read) ≡ false
not_formed message (Ok x) isnt = isnt x
not_formed message (Err fault) isnt = refl

abbrev IsOther : Result FromController Unread → Type 0
IsOther read = is_either read ≡ false

none_in : (asked : FromController) → is_either (Ok asked) ≡ true → (read : Result FromController Unread) {P : Type 0} → IsOther read → Reads asked read → P
none_in asked is read isnt e = absurd (let clash : false ≡ true = sym isnt ∙ ap is_either e ∙ is in cc)

-- another message is passed over
over : (asked : FromController) → is_either (Ok asked) ≡ true → (b : Bool) (other rest : Result FromController Unread) → IsOther other → Reads asked (if b then other else rest) → Reads asked rest
over asked is false other rest isnt e = e
over asked is true other rest isnt e = none_in asked is other isnt e

flow_formed : (m : FlowMod) (read : Result FlowMod WireFault) → Reads (said.FlowMod m) (formed said.FlowMod read) → read ≡ Ok m
flow_formed m (Ok x) e = cc
flow_formed m (Err fault) e = absurd (let clash : false ≡ true = ap is_either e in cc)

out_formed : (m : PacketOut) (read : Result PacketOut WireFault) → Reads (said.PacketOut m) (formed said.PacketOut read) → read ≡ Ok m
out_formed m (Ok x) e = cc
out_formed m (Err fault) e = absurd (let clash : false ≡ true = ap is_either e in cc)

-- a flow-mod isn't a packet-out
abbrev is_out : Result FromController Unread → Bool
is_out (Ok (said.PacketOut m)) = true
is_out read = false

not_out : (m : FlowMod) (read : Result PacketOut WireFault) {P : Type 0} → Reads (said.FlowMod m) (formed said.PacketOut read) → P
not_out m (Ok x) e = absurd (let clash : true ≡ false = ap is_out e in cc)
not_out m (Err fault) e = absurd (let clash : false ≡ true = ap is_either e in cc)

not_flow : (m : PacketOut) (read : Result FlowMod WireFault) {P : Type 0} → Reads (said.PacketOut m) (formed said.FlowMod read) → P
not_flow m (Ok x) e = absurd (let clash : false ≡ true = ap is_out e in cc)
not_flow m (Err fault) e = absurd (let clash : false ≡ true = ap is_either e in cc)

module _ (bytes : List ℕ) where
  abbrev behind : Result FromController Unread
  behind =
      if is_kind PORT_MOD bytes then Ok said.PortMod
      else if is_kind STATS_REQUEST bytes then formed said.StatsRequest (read_request bytes)
      else if is_kind BARRIER_REQUEST bytes then sized 8 said.BarrierRequest bytes
      else if is_kind QUEUE_GET_CONFIG_REQUEST bytes then formed said.QueueGetConfigRequest (read_queues_request bytes)
      else Err BadType

  -- no type behind flow-mods is one
  behind_isnt : IsOther behind
  behind_isnt =
      either IsOther (is_kind PORT_MOD bytes) _ _ refl
      (either IsOther (is_kind STATS_REQUEST bytes) _ _ (not_formed said.StatsRequest (read_request bytes) (λ request. refl))
      (either IsOther (is_kind BARRIER_REQUEST bytes) _ _ (not_sized 8 said.BarrierRequest bytes refl)
      (either IsOther (is_kind QUEUE_GET_CONFIG_REQUEST bytes) _ _ (not_formed said.QueueGetConfigRequest (read_queues_request bytes) (λ queues. refl)) refl)))

  -- what is read from packet-outs on
  abbrev late : Bool → Bool → Result FromController Unread
  late of_out of_flow = if of_out then formed said.PacketOut (read_packet_out bytes) else if of_flow then formed said.FlowMod (read_flow_mod bytes) else behind

  of_typed : (asked : FromController) → is_either (Ok asked) ≡ true → Reads asked (read_typed bytes) → Reads asked (late (is_kind PACKET_OUT bytes) (is_kind FLOW_MOD bytes))
  unfolding read_typed
  of_typed asked is e =
      over asked is (is_kind SET_CONFIG bytes) (formed said.SetConfig (read_config bytes)) _ (not_formed said.SetConfig (read_config bytes) (λ config. refl))
      (over asked is (is_kind GET_CONFIG_REQUEST bytes) (sized 8 said.GetConfigRequest bytes) _ (not_sized 8 said.GetConfigRequest bytes refl)
      (over asked is (is_kind FEATURES_REQUEST bytes) (sized 8 said.FeaturesRequest bytes) _ (not_sized 8 said.FeaturesRequest bytes refl)
      (over asked is (is_kind VENDOR bytes) (Ok said.Vendor) _ refl
      (over asked is (is_kind ECHO_REPLY bytes) (Ok said.EchoReply) _ refl
      (over asked is (is_kind ECHO_REQUEST bytes) (Ok (said.EchoRequest (drop 8 bytes))) _ refl
      (over asked is (is_kind ERROR bytes) (Ok said.Error) _ refl e))))))

  of_controller : (asked : FromController) → is_either (Ok asked) ≡ true → Reads asked (read_controller bytes) → Reads asked (late (is_kind PACKET_OUT bytes) (is_kind FLOW_MOD bytes))
  unfolding read_controller
  of_controller asked is e =
      of_typed asked is
      (over asked is (not (version_of bytes == 1)) (Err BadVersion) _ refl
      (over asked is (is_kind HELLO bytes) (read_hello said.Hello bytes) _ (either IsOther (version_of bytes == 0) (Err NoCommonVersion) (Ok said.Hello) refl refl)
      (over asked is (is_bad bytes) (Err BadLength) _ refl e)))

  flow_late : (m : FlowMod) (of_out of_flow : Bool) → Reads (said.FlowMod m) (late of_out of_flow) → read_flow_mod bytes ≡ Ok m
  flow_late m true of_flow e = not_out m (read_packet_out bytes) e
  flow_late m false true e = flow_formed m (read_flow_mod bytes) e
  flow_late m false false e = none_in (said.FlowMod m) refl behind behind_isnt e

  out_late : (m : PacketOut) (of_out of_flow : Bool) → Reads (said.PacketOut m) (late of_out of_flow) → read_packet_out bytes ≡ Ok m
  out_late m true of_flow e = out_formed m (read_packet_out bytes) e
  out_late m false true e = not_flow m (read_flow_mod bytes) e
  out_late m false false e = none_in (said.PacketOut m) refl behind behind_isnt e

  -- a controller's message that reads as a flow-mod or a packet-out has the bytes of that
  pub read_of : (m : FlowMod) → ((k : ℕ) → slice_index bytes k < 256) → read_controller bytes ≡ Ok (said.FlowMod m) → IsRead m
  read_of m h e = read_flow bytes m h (flow_late m (is_kind PACKET_OUT bytes) (is_kind FLOW_MOD bytes) (of_controller (said.FlowMod m) refl e))

  pub read_out_of : (m : PacketOut) → ((k : ℕ) → slice_index bytes k < 256) → read_controller bytes ≡ Ok (said.PacketOut m) → IsReadOut m
  read_out_of m h e = read_out bytes m h (out_late m (is_kind PACKET_OUT bytes) (is_kind FLOW_MOD bytes) (of_controller (said.PacketOut m) refl e))
