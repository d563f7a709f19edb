-- What is kept of a session beside the events that it stands for.
use Rattle.std.specs.Prelude.{ℕ, ◌≡◌, ◌+◌, ◌≤◌, cond, List, length, Option, Some, None, option_map, option_and_then, IfSome, IfOk, slice_get, ◌∷◌, [], Result, Ok, Err}
use Rattle.std.specs.Ordering.{nat_cmp}
use Rattle.std.specs.BTreeMap.{get, is_at}
use Rattle.of10_model.specs.Header.{Header}
use Rattle.of10_ctl.specs.Frames.{IsFrame}
use Rattle.of10_message.specs.declared.fault.Unread.{Unread}
use Rattle.of10_message.specs.declared.fault.Unread.TheVariants.{BadLength}
use Rattle.of10_message.specs.Switch as says
use Rattle.of10_message.specs.Switch.{SwitchMessage}
use Rattle.flowspace.specs.declared.rules.Rule.{Rule}
use Rattle.flowspace.specs.Order.{rules_on}
use Rattle.recording.specs.Recordings.{Told, item_at}
use Rattle.desk_words.specs.declared.event.Timed.{Timed}
use Rattle.desk_words.specs.declared.phase.Phase.{Phase}
use Rattle.desk_words.specs.declared.phase.Phase.TheVariants.{Begun, Opened, Gone}
use Rattle.desk_words.specs.Openings.{phase_of, opening_of}
use Rattle.desk_words.specs.Histories.{header_in, number_given, packet_in_read}
use Rattle.desk_words.specs.Arrivals.{buffer_header}
use Rattle.desk_words.specs.Recorded.{bytes_carried}
use Rattle.trace_audit.specs.declared.heard.Heard.{Heard}
use Rattle.trace_audit.specs.declared.heard.Heard.TheVariants.{Ended, Features, Packet, Other}
use Rattle.trace_audit.specs.declared.session.Session.{Session}
use Rattle.trace_audit.specs.declared.switch.SwitchRules.{SwitchRules}
use Rattle.trace_audit.specs.declared.switch.Switch.{Switch}
use Rattle.std.specs.declared.alloc.AllocError.{AllocError}
use Rattle.flowspace.specs.Policies.{PolicyView}
use Rattle.trace_audit.specs.declared.why.Why.{Why}
use Rattle.trace_audit.specs.Sessions.{session_of}
use Rattle.trace_audit.specs.Auditing.{record_why}

-- what of a switch's message counts for an audit
abbrev pub heard_in : Result SwitchMessage Unread → Heard
heard_in (Err BadLength) = Ended
heard_in (Ok (says.FeaturesReply features)) = Features features.datapath
heard_in (Ok (says.PacketIn packet)) = Packet (number_given packet)
heard_in said = Other

-- the bytes of the record at a place of a file
abbrev pub bytes_at : List ℕ → ℕ → List ℕ
bytes_at file at = bytes_carried file (item_at file at)

-- the header of the packet-in in that record
abbrev pub header_at : List ℕ → ℕ → Option Header
header_at file at = option_map header_in (packet_in_read (bytes_at file at))

-- a record with a frame stands at the place
abbrev pub IsFrameAt : List ℕ → ℕ → Type 0
IsFrameAt file at = (at + 16 ≤ length file) × IsFrame (bytes_at file at)

-- a session is what these events made it
pub record SessionStands (file : List ℕ) (h : List Timed) (s : Session) : Type 0 where
  pub phase : s.phase ≡ phase_of h
  pub datapath : s.datapath ≡ option_map (λ features. features.datapath) (opening_of h)
  pub packets : (number : ℕ) → option_and_then (header_at file) (get nat_cmp s.packets number) ≡ buffer_header h number
  pub places : (number : ℕ) → IfSome (get nat_cmp s.packets number) (IsFrameAt file)

-- rules that are kept are those of the datapath id beside them
abbrev pub AreRulesOf : List Rule → Option SwitchRules → Type 0
AreRulesOf rules kept = IfSome kept (λ own. own.policy.rules ≡ rules_on own.datapath rules)

-- a switch is the one of a number after records, newest first
pub record SwitchStands (rules : List Rule) (file : List ℕ) (number : ℕ) (before : List Told) (s : Switch) : Type 0 where
  pub session : SessionStands file (session_of number before) s.session
  pub rules_kept : AreRulesOf rules s.rules

-- ---- what a message changes

-- how far the connection is after a message
abbrev pub phase_heard : Phase → Heard → Phase
phase_heard Begun Ended = Gone
phase_heard Begun (Features datapath) = Opened
phase_heard Opened Ended = Gone
phase_heard phase heard = phase

-- the datapath id that was said first
abbrev pub first_told : Option ℕ → ℕ → Option ℕ
first_told None datapath = Some datapath
first_told (Some known) datapath = Some known

abbrev pub datapath_heard : Phase → Heard → Option ℕ → Option ℕ
datapath_heard Begun (Features datapath) known = first_told known datapath
datapath_heard phase heard known = known

-- the place of the packet-in under a number, after the message in the record at a place
abbrev pub place_heard : ℕ → Phase → Heard → ℕ → Option ℕ → Option ℕ
place_heard at Opened (Packet (Some own)) number known = cond (is_at (nat_cmp own) number) (Some at) known
place_heard at phase heard number known = known

pub record HasNoted (at : ℕ) (heard : Heard) (old new : Session) : Type 0 where
  pub phase : new.phase ≡ phase_heard old.phase heard
  pub datapath : new.datapath ≡ datapath_heard old.phase heard old.datapath
  pub packets : (number : ℕ) → get nat_cmp new.packets number ≡ place_heard at old.phase heard number (get nat_cmp old.packets number)

-- ---- all switches

-- what a record leaves at its switch, and what is wrong with it
abbrev pub Takes : PolicyView → List ℕ → Told → List Told → Result (Option Why) AllocError → Switch → Type 0
Takes policy file r before result new = IfOk result (λ w. (w ≡ record_why policy before r) × SwitchStands policy.rules file r.switch (r ∷ before) new)

-- a switch of which no record came
abbrev pub IsFresh : Switch → Type 0
IsFresh s = (rules : List Rule) (file : List ℕ) (number : ℕ) → SwitchStands rules file number [] s

abbrev pub AreFresh : List Switch → Type 0
AreFresh switches = (length switches ≡ 16) × ((number : ℕ) (s : Switch) → slice_get switches number ≡ Some s → IsFresh s)

-- each of sixteen switches is the one of its number after records
pub record SwitchesStand (rules : List Rule) (file : List ℕ) (before : List Told) (switches : List Switch) : Type 0 where
  pub count : length switches ≡ 16
  pub each : (number : ℕ) (s : Switch) → slice_get switches number ≡ Some s → SwitchStands rules file number before s

-- the same among them
abbrev pub TakesAmong : PolicyView → List ℕ → Told → List Told → Result (Option Why) AllocError → List Switch → Type 0
TakesAmong policy file r before result new = IfOk result (λ w. (w ≡ record_why policy before r) × SwitchesStand policy.rules file (r ∷ before) new)
