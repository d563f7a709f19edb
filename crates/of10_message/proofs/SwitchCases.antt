-- What a switch's message says, case by case.
use Rattle.std.proofs.Common.{◌≡◌, ℕ, ◌==◌, not, Bool, true, false, if◌then◌else◌, List, length, drop, true≢false, sym, refl, Result, Ok, Err}
use Rattle.of10_model.proofs.Results.{either}
use Rattle.of10_action.specs.declared.fault.WireFault.{WireFault}
use Rattle.of10_action.specs.declared.fault.WireFault.TheVariants.{Length}
use Rattle.of10_ctl.specs.declared.kind.TheConstants as kinds
use Rattle.of10_ctl.specs.Frames.{is_bad}
use Rattle.of10_message.specs.declared.config.SwitchConfig.{SwitchConfig}
use Rattle.of10_message.specs.Configs.{read_config}
use Rattle.of10_message.specs.Queues.{QueuesMessage, read_queues}
use Rattle.of10_flow.specs.declared.packet_in.PacketIn.{PacketIn as Packet}
use Rattle.of10_flow.specs.declared.flow_removed.FlowRemoved.{FlowRemoved as Removal}
use Rattle.of10_flow.specs.FlowRemoveds.{read_flow_removed}
use Rattle.of10_flow.specs.PacketIns.{read_packet_in}
use Rattle.of10_port.specs.declared.features.Features.{Features}
use Rattle.of10_port.specs.declared.status.PortStatus.{PortStatus as Status}
use Rattle.of10_port.specs.Features.{read_features}
use Rattle.of10_port.specs.PortStatus.{read_port_status}
use Rattle.of10_stats.specs.declared.reply.StatsPart.{StatsPart}
use Rattle.of10_stats.specs.Replies.{part_of}
use Rattle.of10_message.specs.declared.fault.Unread.{Unread}
use Rattle.of10_message.specs.declared.fault.Unread.TheVariants.{BadLength, NoCommonVersion, BadVersion, BadType, BadForm}
use Rattle.of10_message.specs.Heads.{version_of, is_kind}
use Rattle.of10_message.specs.Forms.{sized, formed, read_hello}
use Rattle.of10_message.specs.Errors.{ErrorMessage, read_error}
use Rattle.of10_message.specs.Switch.{SwitchMessage, Hello, Error, EchoRequest, EchoReply, Vendor, FeaturesReply, GetConfigReply, PacketIn, FlowRemoved, PortStatus, StatsReply, BarrierReply, QueueGetConfigReply, part_with, read_sent, read_switch, has_bad_length}

-- a fact of what a message's bytes say, whatever that is
pub record HoldsOf (P : Result SwitchMessage Unread → Type 0) (bytes : List ℕ) : Type 0 where
  pub unread : (fault : Unread) → has_bad_length (Err fault) ≡ false → P (Err fault)
  pub hello : P (Ok Hello)
  pub error : (error : ErrorMessage) → read_error bytes ≡ Ok error → P (Ok (Error error))
  pub echo_request : P (Ok (EchoRequest (drop 8 bytes)))
  pub echo_reply : P (Ok EchoReply)
  pub vendor : P (Ok Vendor)
  pub features : (features : Features) → read_features bytes ≡ Ok features → P (Ok (FeaturesReply features))
  pub config : (config : SwitchConfig) → read_config bytes ≡ Ok config → P (Ok (GetConfigReply config))
  pub packet : (packet : Packet) → read_packet_in bytes ≡ Ok packet → P (Ok (PacketIn packet))
  pub removal : (entry : Removal) → read_flow_removed bytes ≡ Ok entry → P (Ok (FlowRemoved entry))
  pub status : (status : Status) → read_port_status bytes ≡ Ok status → P (Ok (PortStatus status))
  pub part : (part : StatsPart) → part_of bytes ≡ Ok part → P (Ok (StatsReply part (drop part.from bytes)))
  pub barrier : P (Ok BarrierReply)
  pub queues : (queues : QueuesMessage) → read_queues bytes ≡ Ok queues → P (Ok (QueueGetConfigReply queues))

module _ (P : Result SwitchMessage Unread → Type 0) (bytes : List ℕ) (holds : HoldsOf P bytes) where
  of_size : (size : ℕ) (message : SwitchMessage) → P (Ok message) → P (sized size message bytes)
  of_size size message right = either P (length bytes == size) (Ok message) (Err (BadForm (Length (length bytes)))) right (holds.unread (BadForm (Length (length bytes))) refl)

  of_form : {A : Type 0} (message : A → SwitchMessage) (found : Result A WireFault) → ((record_read : A) → found ≡ Ok record_read → P (Ok (message record_read))) → P (formed message found)
  of_form message (Ok record_read) right = right record_read refl
  of_form message (Err fault) right = holds.unread (BadForm fault) refl

  of_sent : P (read_sent bytes)
  unfolding read_sent
  of_sent =
      either P (is_kind kinds.PACKET_IN bytes) _ _ (of_form PacketIn (read_packet_in bytes) holds.packet)
      (either P (is_kind kinds.FLOW_REMOVED bytes) _ _ (of_form FlowRemoved (read_flow_removed bytes) holds.removal)
      (either P (is_kind kinds.PORT_STATUS bytes) _ _ (of_form PortStatus (read_port_status bytes) holds.status)
      (either P (is_kind kinds.ERROR bytes) _ _ (of_form Error (read_error bytes) holds.error)
      (either P (is_kind kinds.STATS_REPLY bytes) _ _ (of_form (part_with bytes) (part_of bytes) holds.part)
      (either P (is_kind kinds.BARRIER_REPLY bytes) _ _ (of_size 8 BarrierReply holds.barrier)
      (either P (is_kind kinds.QUEUE_GET_CONFIG_REPLY bytes) _ _ (of_form QueueGetConfigReply (read_queues bytes) holds.queues)
      (either P (is_kind kinds.FEATURES_REPLY bytes) _ _ (of_form FeaturesReply (read_features bytes) holds.features)
      (either P (is_kind kinds.GET_CONFIG_REPLY bytes) _ _ (of_form GetConfigReply (read_config bytes) holds.config)
      (either P (is_kind kinds.ECHO_REQUEST bytes) _ _ holds.echo_request
      (either P (is_kind kinds.ECHO_REPLY bytes) _ _ holds.echo_reply
      (either P (is_kind kinds.VENDOR bytes) _ _ holds.vendor (holds.unread BadType refl))))))))))))

  of_good : P (if is_kind kinds.HELLO bytes then read_hello Hello bytes else if not (version_of bytes == 1) then Err BadVersion else read_sent bytes)
  of_good =
      either P (is_kind kinds.HELLO bytes) (read_hello Hello bytes) _ (either P (version_of bytes == 0) (Err NoCommonVersion) (Ok Hello) (holds.unread NoCommonVersion refl) holds.hello)
      (either P (not (version_of bytes == 1)) (Err BadVersion) (read_sent bytes) (holds.unread BadVersion refl) of_sent)

  pub of_switch : P (Err BadLength) → P (read_switch bytes)
  unfolding read_switch
  of_switch bad = either P (is_bad bytes) (Err BadLength) _ bad of_good

-- a message of a bad length says nothing else
pub bad_read : (read : Result SwitchMessage Unread) → has_bad_length read ≡ true → read ≡ Err BadLength
bad_read (Err BadLength) bad = refl
bad_read (Err NoCommonVersion) bad = absurd (true≢false (sym bad))
bad_read (Err BadVersion) bad = absurd (true≢false (sym bad))
bad_read (Err BadType) bad = absurd (true≢false (sym bad))
bad_read (Err (BadForm fault)) bad = absurd (true≢false (sym bad))
bad_read (Ok message) bad = absurd (true≢false (sym bad))

-- and no other message is read so
pub bad_length-read : (bytes : List ℕ) → has_bad_length (read_switch bytes) ≡ is_bad bytes
unfolding read_switch
bad_length-read bytes = by_bad (is_bad bytes)
  where
    good : has_bad_length (if is_kind kinds.HELLO bytes then read_hello Hello bytes else if not (version_of bytes == 1) then Err BadVersion else read_sent bytes) ≡ false
    good = of_good (λ said. has_bad_length said ≡ false) bytes (record {
      unread = λ fault is. is;
      hello = refl;
      error = λ error is. refl;
      echo_request = refl;
      echo_reply = refl;
      vendor = refl;
      features = λ features is. refl;
      config = λ config is. refl;
      packet = λ packet is. refl;
      removal = λ entry is. refl;
      status = λ status is. refl;
      part = λ part is. refl;
      barrier = refl;
      queues = λ queues is. refl;
    })

    by_bad : (bad : Bool) → has_bad_length (if bad then Err BadLength else if is_kind kinds.HELLO bytes then read_hello Hello bytes else if not (version_of bytes == 1) then Err BadVersion else read_sent bytes) ≡ bad
    by_bad true = refl
    by_bad false = good
