-- What a message of a slice's controller has put for the switch: nothing, or what follows from a flow-mod, a packet-out or a question that is permitted.
use Rattle.std.proofs.Common.{◌≡◌, ◌⊎◌, inl, inr, refl, sym, ap, ◌∙◌, ℕ, Bool, true, false, if◌then◌else◌, List, [], ◌∷◌, length, Option, Some, None, option_map, Ok, Err}
use Rattle.of10_ctl.specs.declared.kind.TheConstants.{BARRIER_REQUEST}
use Rattle.of10_ctl.specs.Frames.{message_of}
use Rattle.of10_flow.specs.declared.flow_mod.FlowMod.{FlowMod}
use Rattle.of10_flow.specs.declared.packet_out.PacketOut.{PacketOut}
use Rattle.of10_message.specs.Queues.{spell_queues_request}
use Rattle.of10_stats.specs.declared.request.StatsRequest.{StatsRequest}
use Rattle.of10_stats.specs.Requests.{spell_request}
use Rattle.of10_message.specs.declared.controller.FromController.{FromController}
use Rattle.of10_message.specs.declared.controller.FromController.TheVariants as said
use Rattle.of10_message.specs.Heads.{xid_of}
use Rattle.stats_filter.specs.Asking.{asked_as}
use Rattle.stats_filter.specs.Replies.{table_reply}
use Rattle.slice_words.specs.Messages.{Reading, asks_switch}
use Rattle.slice_words.specs.Items.{Settings, message_read, Item}
use Rattle.slice_words.specs.Pasts.{Inquiry, ForStatistics, ForBarrier, ForQueues, Outgoing, Asks, Answer, Past, told, forwarded}
use Rattle.slice_words.specs.FlowMods.{Ground, ground_of, flow_mod_fault, sent_on, not_permitted}
use Rattle.slice_words.specs.PacketOuts.{packet_out_fault, sent_out}
use Rattle.slice_words.specs.Questions.{asking, statistics_asked, queues_asked}
use Rattle.slice_words.specs.Answers.{refused, unread_answer, forwarded_answer, keeps_rate, read_answer, message_answer}
use Rattle.slice_words.specs.Alone.{spell_inquiry}
use Rattle.slice_words.proofs.AnswerKinds.{message_holds}
use Rattle.slice_side.specs.Checking.{IsInquirySent}
use Rattle.slice_side.proofs.Answering.{asked_answer}
use Rattle.lane_laws.proofs.Asked.{some_asked}

-- a message with which a slice may ask the switch something is to be sent on
is_question : (g : Ground) (message question : List ℕ) (asked : FromController) → IsInquirySent g asked question → asks_switch (Ok asked) ≡ true
is_question g message question (said.StatsRequest request) is = refl
is_question g message question said.BarrierRequest is = refl
is_question g message question (said.QueueGetConfigRequest queues) is = refl
is_question g message question said.Hello is = absurd is
is_question g message question said.Error is = absurd is
is_question g message question (said.EchoRequest body) is = absurd is
is_question g message question said.EchoReply is = absurd is
is_question g message question said.Vendor is = absurd is
is_question g message question said.FeaturesRequest is = absurd is
is_question g message question said.GetConfigRequest is = absurd is
is_question g message question (said.SetConfig config) is = absurd is
is_question g message question (said.PacketOut m) is = absurd is
is_question g message question (said.FlowMod m) is = absurd is
is_question g message question said.PortMod is = absurd is

-- what follows from it
abbrev by_asked : Ground → List ℕ → Option StatsRequest → Answer
by_asked g message asked = elim asked [ None ↦ told (table_reply (length g.booked) g.quota (xid_of message) ∷ []) | Some sent ↦ asking g (ForStatistics sent) ]

-- the question of which such bytes are spelled is sent on
abbrev pub IsAskedIn : Settings → List Item → List Past → List ℕ → List ℕ → FromController → Type 0
IsAskedIn s view past message question asked =
    (q : Inquiry) × (question ≡ spell_inquiry q (ground_of s view past).xid) × (forwarded_answer s view past asked message ≡ asking (ground_of s view past) q)

question_follows : (s : Settings) (view : List Item) (past : List Past) (message question : List ℕ) (asked : FromController) → IsInquirySent (ground_of s view past) asked question → IsAskedIn s view past message question asked
question_follows s view past message question (said.StatsRequest request) is =
    let sent = some_asked (asked_as request) (ground_of s view past).xid question is.1 in
    (ForStatistics sent.0, sent.2, ap (λ (b : Bool). if b then statistics_asked (ground_of s view past) request message else refused not_permitted message) is.0 ∙ ap (by_asked (ground_of s view past) message) sent.1)
question_follows s view past message question said.BarrierRequest is = (ForBarrier, is, refl)
question_follows s view past message question (said.QueueGetConfigRequest queues) is =
    (ForQueues queues, is.1, ap (λ (b : Bool). if b then queues_asked (ground_of s view past) queues else refused not_permitted message) is.0)
question_follows s view past message question _ is = absurd is

module _ (s : Settings) (view : List Item) (past : List Past) (moment : ℕ) (message : List ℕ) where
  -- what is put for the switch
  abbrev pub put : List Outgoing
  put = (message_answer s view past moment message).to_switch

  -- a flow-mod that is permitted
  pub record Permits (m : FlowMod) : Type 0 where
    pub read : message_read s message ≡ Ok (said.FlowMod m)
    pub rate : keeps_rate s view past moment ≡ true
    pub no_fault : flow_mod_fault (ground_of s view past) m ≡ None

  -- a packet-out that is permitted
  pub record PermitsOut (m : PacketOut) : Type 0 where
    pub read : message_read s message ≡ Ok (said.PacketOut m)
    pub rate : keeps_rate s view past moment ≡ true
    pub no_fault : packet_out_fault (ground_of s view past) m ≡ None

  -- a question that is permitted
  pub record PermitsInquiry (asked : FromController) (question : List ℕ) : Type 0 where
    pub read : message_read s message ≡ Ok asked
    pub rate : keeps_rate s view past moment ≡ true
    pub may : IsInquirySent (ground_of s view past) asked question

  -- what follows by what is read of the message, by whether it keeps the rate, and by the first line that refuses it
  abbrev read_as : Reading → Answer
  read_as read = elim read [ Err fault ↦ unread_answer fault message | Ok asked ↦ read_answer s view past moment asked message ]

  abbrev rated_as : FromController → Bool → Answer
  rated_as asked rate = if rate then forwarded_answer s view past asked message else refused not_permitted message

  abbrev lined_as : List Outgoing → Option (ℕ × ℕ) → Answer
  lined_as messages found = elim found [ Some fault ↦ refused fault message | None ↦ forwarded messages ]

  unrated : (asked : FromController) (rate : Bool) → asks_switch (Ok asked) ≡ true → message_read s message ≡ Ok asked → keeps_rate s view past moment ≡ rate → put ≡ (rated_as asked rate).to_switch
  unrated asked rate asks read is =
      ap (λ (found : Reading). (read_as found).to_switch) read
      ∙ ap (λ (a : Answer). a.to_switch) (sym (asked_answer s view past moment message asked asks))
      ∙ ap (λ (b : Bool). (rated_as asked b).to_switch) is

  put_lined : (m : FlowMod) (fault : Option (ℕ × ℕ)) → message_read s message ≡ Ok (said.FlowMod m) → keeps_rate s view past moment ≡ true → flow_mod_fault (ground_of s view past) m ≡ fault
      → put ≡ (lined_as (sent_on (ground_of s view past) m) fault).to_switch
  put_lined m fault read rate is = unrated (said.FlowMod m) true refl read rate ∙ ap (λ (found : Option (ℕ × ℕ)). (lined_as (sent_on (ground_of s view past) m) found).to_switch) is

  pub put_whole : (m : FlowMod) → Permits m → put ≡ sent_on (ground_of s view past) m
  put_whole m p = put_lined m None p.read p.rate p.no_fault

  out_lined : (m : PacketOut) (fault : Option (ℕ × ℕ)) → message_read s message ≡ Ok (said.PacketOut m) → keeps_rate s view past moment ≡ true → packet_out_fault (ground_of s view past) m ≡ fault
      → put ≡ (lined_as (sent_out (ground_of s view past) m) fault).to_switch
  out_lined m fault read rate is = unrated (said.PacketOut m) true refl read rate ∙ ap (λ (found : Option (ℕ × ℕ)). (lined_as (sent_out (ground_of s view past) m) found).to_switch) is

  pub out_whole : (m : PacketOut) → PermitsOut m → put ≡ sent_out (ground_of s view past) m
  out_whole m p = out_lined m None p.read p.rate p.no_fault

  pub question_whole : (asked : FromController) (question : List ℕ) → PermitsInquiry asked question
      → (q : Inquiry) × (question ≡ spell_inquiry q (ground_of s view past).xid) × (put ≡ Asks q (ground_of s view past).xid ∷ [])
  question_whole asked question p =
      let one = question_follows s view past message question asked p.may in
      (one.0, one.1, unrated asked true (is_question (ground_of s view past) message question asked p.may) p.read p.rate ∙ ap (λ (a : Answer). a.to_switch) one.2)

  -- a message that may be a question
  abbrev MayAsk : Type 0
  MayAsk = (asked : FromController) × (question : List ℕ) × (message_read s message ≡ Ok asked) × IsInquirySent (ground_of s view past) asked question

  -- another message puts nothing
  abbrev IsOfThese : Answer → Type 0
  IsOfThese a = (a.to_switch ≡ []) ⊎ (((m : FlowMod) × (message_read s message ≡ Ok (said.FlowMod m))) ⊎ (((m : PacketOut) × (message_read s message ≡ Ok (said.PacketOut m))) ⊎ MayAsk))

  of_these : IsOfThese (message_answer s view past moment message)
  of_these = message_holds (λ (ends : Bool) (a : Answer). IsOfThese a) s view past moment message (record {
    bad = inl refl;
    old = inl refl;
    nothing = inl refl;
    refuses = λ fault. inl refl;
    echoes = λ body read. inl refl;
    tells_features = λ features. inl refl;
    tells_configuration = inl refl;
    forwards = λ m read none. inr (inl (m, read));
    sends_out = λ m read none. inr (inr (inl (m, read)));
    tells_table = inl refl;
    asks_statistics = λ request asked read may is. inr (inr (inr (said.StatsRequest request, spell_request asked (ground_of s view past).xid, read, (may, ap (option_map (λ sent. spell_request sent (ground_of s view past).xid)) is))));
    asks_barrier = λ read. inr (inr (inr (said.BarrierRequest, message_of BARRIER_REQUEST (ground_of s view past).xid [], read, refl)));
    asks_queues = λ queues read own. inr (inr (inr (said.QueueGetConfigRequest queues, spell_queues_request (ground_of s view past).xid queues, read, (own, refl))));
  })

  -- nor does one that is refused
  abbrev pub IsPut : Type 0
  IsPut = (put ≡ []) ⊎ (((m : FlowMod) × Permits m) ⊎ (((m : PacketOut) × PermitsOut m) ⊎ ((asked : FromController) × (question : List ℕ) × PermitsInquiry asked question)))

  by_lines : (m : FlowMod) → message_read s message ≡ Ok (said.FlowMod m) → (rate : Bool) → keeps_rate s view past moment ≡ rate → (fault : Option (ℕ × ℕ)) → flow_mod_fault (ground_of s view past) m ≡ fault → IsPut
  by_lines m read false rated fault is = inl (unrated (said.FlowMod m) false refl read rated)
  by_lines m read true rated (Some fault) is = inl (put_lined m (Some fault) read rated is)
  by_lines m read true rated None is = inr (inl (m, record { read = read; rate = rated; no_fault = is }))

  out_by_lines : (m : PacketOut) → message_read s message ≡ Ok (said.PacketOut m) → (rate : Bool) → keeps_rate s view past moment ≡ rate → (fault : Option (ℕ × ℕ)) → packet_out_fault (ground_of s view past) m ≡ fault → IsPut
  out_by_lines m read false rated fault is = inl (unrated (said.PacketOut m) false refl read rated)
  out_by_lines m read true rated (Some fault) is = inl (out_lined m (Some fault) read rated is)
  out_by_lines m read true rated None is = inr (inr (inl (m, record { read = read; rate = rated; no_fault = is })))

  by_rate : MayAsk → (rate : Bool) → keeps_rate s view past moment ≡ rate → IsPut
  by_rate may false rated = inl (unrated may.0 false (is_question (ground_of s view past) message may.1 may.0 may.3) may.2 rated)
  by_rate may true rated = inr (inr (inr (may.0, may.1, record { read = may.2; rate = rated; may = may.3 })))

  pub put_or_none : IsPut
  put_or_none = elim of_these [
    | inl none ↦ inl none
    | inr (inl some) ↦ by_lines some.0 some.1 (keeps_rate s view past moment) refl (flow_mod_fault (ground_of s view past) some.0) refl
    | inr (inr (inl some)) ↦ out_by_lines some.0 some.1 (keeps_rate s view past moment) refl (packet_out_fault (ground_of s view past) some.0) refl
    | inr (inr (inr may)) ↦ by_rate may (keeps_rate s view past moment) refl
  ]
