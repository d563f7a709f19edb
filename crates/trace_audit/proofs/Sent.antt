-- A message with which nothing is wrong has its facts.
use Rattle.std.proofs.Common.{◌≡◌, ℕ, List, Option, Some, None, Result, Ok, Err, refl, sym, ap, ◌∙◌, inl, inr}
use Rattle.of10_port.specs.declared.features.Features.{Features}
use Rattle.of10_ctl.specs.Frames.{IsFrame}
use Rattle.of10_message.specs.declared.controller.FromController.{FromController}
use Rattle.of10_message.specs.declared.controller.FromController.TheVariants as said
use Rattle.of10_message.specs.declared.fault.Unread.{Unread}
use Rattle.of10_message.specs.Controller.{read_controller}
use Rattle.flowspace.specs.Order.{rules_on}
use Rattle.flowspace.specs.Policies.{PolicyView, IsPolicy}
use Rattle.flowspace.proofs.Parts.{IsSwitchPolicy-rules_on}
use Rattle.desk_words.specs.declared.event.Timed.{Timed}
use Rattle.desk_words.specs.Openings.{opening_of}
use Rattle.desk_words.specs.Arrivals.{buffer_header}
use Rattle.trace_audit.specs.declared.why.Why.{Why}
use Rattle.trace_audit.specs.declared.why.Why.TheVariants as why
use Rattle.trace_audit.specs.Auditing.{read_why, message_why}
use Rattle.trace_audit.specs.Facts.{KeepsSlice}
use Rattle.trace_audit.proofs.ByType.{reads_flow_mod, reads_packet_out}
use Rattle.trace_audit.proofs.Passing.{flow_mod_passed, packet_out_passed}

module _ (policy : PolicyView) (accepted : IsPolicy policy.slices policy.rules) (h : List Timed) (slot : ℕ) (message : List ℕ) (frame : IsFrame message) where
  read_passed : (features : Features) → opening_of h ≡ Some features → (read : Result FromController Unread) → read_controller message ≡ read
      → read_why (buffer_header h) (rules_on features.datapath policy.rules) slot read ≡ None → KeepsSlice policy h slot message
  read_passed features opened (Ok (said.FlowMod m)) is none =
      let rules = rules_on features.datapath policy.rules in
      let kind = reads_flow_mod message frame m is in
      let holds = flow_mod_passed policy.slices rules (IsSwitchPolicy-rules_on policy.slices policy.rules features.datapath accepted) (buffer_header h m.buffer) slot m none in
      rw opened (inl (record { kind = kind.0; flow_mod = m; read = kind.1; holds = holds }))
  read_passed features opened (Ok (said.PacketOut m)) is none =
      let rules = rules_on features.datapath policy.rules in
      let kind = reads_packet_out message frame m is in
      let holds = packet_out_passed policy.slices rules (IsSwitchPolicy-rules_on policy.slices policy.rules features.datapath accepted) (buffer_header h m.buffer) slot m none in
      rw opened (inr (record { kind = kind.0; packet_out = m; read = kind.1; holds = holds }))
  read_passed features opened (Ok said.Hello) is none = absurd (cc)
  read_passed features opened (Ok said.Error) is none = absurd (cc)
  read_passed features opened (Ok (said.EchoRequest body)) is none = absurd (cc)
  read_passed features opened (Ok said.EchoReply) is none = absurd (cc)
  read_passed features opened (Ok said.Vendor) is none = absurd (cc)
  read_passed features opened (Ok said.FeaturesRequest) is none = absurd (cc)
  read_passed features opened (Ok said.GetConfigRequest) is none = absurd (cc)
  read_passed features opened (Ok (said.SetConfig config)) is none = absurd (cc)
  read_passed features opened (Ok said.PortMod) is none = absurd (cc)
  read_passed features opened (Ok (said.StatsRequest request)) is none = absurd (cc)
  read_passed features opened (Ok said.BarrierRequest) is none = absurd (cc)
  read_passed features opened (Ok (said.QueueGetConfigRequest queues)) is none = absurd (cc)
  read_passed features opened (Err fault) is none = absurd (cc)

  -- what is wrong where the switch said this of itself
  abbrev why_told : Option Features → Option Why
  why_told told = elim told [ None ↦ Some why.Kind | Some features ↦ read_why (buffer_header h) (rules_on features.datapath policy.rules) slot (read_controller message) ]

  opened_passed : (told : Option Features) → opening_of h ≡ told → message_why policy h slot message ≡ None → KeepsSlice policy h slot message
  opened_passed None opened none = absurd (let clash : why_told None ≡ None = sym (ap why_told opened) ∙ none in cc)
  opened_passed (Some features) opened none = read_passed features opened (read_controller message) refl (sym (ap why_told opened) ∙ none)

  pub message_passed : message_why policy h slot message ≡ None → KeepsSlice policy h slot message
  message_passed none = opened_passed (opening_of h) refl none
