-- Where nothing is wrong with a trace, each message of it that was sent for a slice has its facts.
use Rattle.std.proofs.Common.{◌≡◌, ℕ, ◌==◌, ◌-◌, ◌+◌, ◌<◌, List, [], ◌∷◌, ◌++◌, map, reverse, length, slice_index, inl, inr, Option, Some, None, option_map, IfOk, Result, Ok, Err, refl, sym, ap, subst, ◌∙◌, eq-eqb, append-nil, append_assoc}
use Rattle.std.proofs.lemmas.Bool.{cond-true, cases_lt}
use Rattle.std.proofs.lemmas.List.{reverse-append}
use Rattle.of10_ctl.specs.Frames.{IsFrame}
use Rattle.flowspace.specs.Policies.{PolicyView, IsPolicy}
use Rattle.flowspace.proofs.Along.{option_or-None, option_map-None}
use Rattle.recording.specs.declared.item.Item.{Item}
use Rattle.recording.specs.declared.layout.Layout.TheVariants.{Trace}
use Rattle.recording.specs.Recordings.{Told, IsRead, item_at, read_trace, sent_bytes}
use Rattle.desk_words.specs.Recorded.{bytes_carried, told_by, told_in}
use Rattle.trace_audit.specs.declared.why.Why.{Why}
use Rattle.trace_audit.specs.Auditing.{message_why, record_why, first_wrong, sent_count, answer_of, GivesAudit}
use Rattle.trace_audit.specs.declared.fault.AuditFault.{AuditFault}
use Rattle.trace_audit.specs.declared.fault.AuditFault.TheVariants.{No, Trace as Trace_}
use Rattle.recording.specs.declared.fault.RecordingFault.{RecordingFault}
use Rattle.trace_audit.specs.Sessions.{session_of, EachSent}
use Rattle.trace_audit.specs.Facts.{KeepsSlice}
use Rattle.trace_audit.proofs.Frames.{carried_frame}
use Rattle.recording.proofs.Left.{AreLeft, left_first, next_of, none_left}
use Rattle.trace_audit.proofs.Sent.{message_passed}

-- the first of some records is the last of them from behind
newest_first : (x : Told) (front before : List Told) → reverse (x ∷ front) ++ before ≡ reverse front ++ x ∷ before
newest_first x front before = ap (λ (l : List Told). l ++ before) (reverse-append (x ∷ []) front) ∙ append_assoc (reverse front) (x ∷ []) before

-- each record that carries a frame carries a whole one
abbrev pub HasFrame : Told → Type 0
HasFrame r = r.kind ≡ sent_bytes → IsFrame r.bytes

abbrev pub HaveFrames : List Told → Type 0
HaveFrames told = (front : List Told) (r : Told) (later : List Told) → told ≡ front ++ r ∷ later → HasFrame r

module _ (policy : PolicyView) (accepted : IsPolicy policy.slices policy.rules) (file : List ℕ) where
  abbrev told_of : Item → Told
  told_of item = told_by item (bytes_carried file item)

  -- the same for records behind others, newest first
  abbrev EachBehind : List Told → List Told → Type 0
  EachBehind before told =
      (front : List Told) (r : Told) (later : List Told) → told ≡ front ++ r ∷ later → r.kind ≡ sent_bytes → KeepsSlice policy (session_of r.switch (reverse front ++ before)) r.slot r.bytes

  one_passed : (before : List Told) (r : Told) → HasFrame r → record_why policy before r ≡ None → r.kind ≡ sent_bytes → KeepsSlice policy (session_of r.switch before) r.slot r.bytes
  one_passed before r frame none sent =
      message_passed policy accepted (session_of r.switch before) r.slot r.bytes (frame sent) (sym (cond-true (r.kind == sent_bytes) (message_why policy (session_of r.switch before) r.slot r.bytes) None (eq-eqb r.kind sent_bytes sent)) ∙ none)

  behind_passed : (before : List Told) (items : List Item) → HaveFrames (map told_of items) → first_wrong policy file before items ≡ None → EachBehind before (map told_of items)
  behind_passed before [] frames none [] r later is sent = absurd (cc)
  behind_passed before [] frames none (x ∷ front) r later is sent = absurd (cc)
  behind_passed before (item ∷ items) frames none [] r later is sent =
      let parts = option_or-None (option_map (λ w. (item.from - 16, w)) (record_why policy before (told_of item))) _ none in
      let same : told_of item ≡ r = cc in
      let frame : HasFrame (told_of item) = frames [] (told_of item) (map told_of items) refl in
      subst (λ (t : Told). t.kind ≡ sent_bytes → KeepsSlice policy (session_of t.switch before) t.slot t.bytes) same (one_passed before (told_of item) frame (option_map-None _ (record_why policy before (told_of item)) parts.0)) sent
  behind_passed before (item ∷ items) frames none (x ∷ front) r later is sent =
      let parts = option_or-None (option_map (λ w. (item.from - 16, w)) (record_why policy before (told_of item))) _ none in
      let same : told_of item ≡ x = cc in
      let rest : map told_of items ≡ front ++ r ∷ later = cc in
      let later_frames : HaveFrames (map told_of items) = λ front' r' later' is'. frames (told_of item ∷ front') r' later' (ap (λ (l : List Told). told_of item ∷ l) is') in
      let holds = behind_passed (told_of item ∷ before) items later_frames parts.1 front r later rest sent in
      subst (λ (l : List Told). KeepsSlice policy (session_of r.switch l) r.slot r.bytes) (ap (λ (t : Told). reverse front ++ t ∷ before) same ∙ sym (newest_first x front before)) holds

  pub all_passed : (items : List Item) → HaveFrames (map told_of items) → first_wrong policy file [] items ≡ None → EachSent (KeepsSlice policy) (told_in file items)
  all_passed items frames none = λ front r later is sent.
      subst (λ (l : List Told). KeepsSlice policy (session_of r.switch l) r.slot r.bytes) (append-nil (reverse front)) (behind_passed [] items frames none front r later is sent)

-- ---- whole frames

nothing_in : (front : List Told) (r : Told) (later : List Told) → ◌≡◌ {A = List Told} [] (front ++ r ∷ later) → ⊥
nothing_in [] r later is = absurd (cc)
nothing_in (x ∷ front) r later is = absurd (cc)

module _ (slices : ℕ) (file : List ℕ) (bytes : (k : ℕ) → slice_index file k < 256) where
  abbrev told_from : Item → Told
  told_from item = told_by item (bytes_carried file item)

  sent_frame : (item : Item) → IsRead Trace slices file item → HasFrame (told_from item)
  sent_frame item read sent = carried_frame slices file item bytes read (rw sent refl)

  frames_with : (item : Item) (items : List Item) → HasFrame (told_from item) → HaveFrames (map told_from items) → HaveFrames (map told_from (item ∷ items))
  frames_with item items one others [] r later is = subst HasFrame (let same : told_from item ≡ r = cc in same) one
  frames_with item items one others (x ∷ front) r later is = others front r later (let same : map told_from items ≡ front ++ r ∷ later = cc in same)

  left_frames : (items : List Item) (at : ℕ) → AreLeft Trace slices file at items → HaveFrames (map told_from items)
  left_frames [] at left = λ front r later is. absurd (nothing_in front r later is)
  left_frames (item ∷ items) at left =
      elim (cases_lt at (length file)) [
        | inl more ↦
            let next = next_of Trace slices file at (item ∷ items) more left in
            let same : item_at file at ≡ item = let is = next.is in cc in
            let rest : next.others ≡ items = let is = next.is in cc in
            let later = left_frames items ((item_at file at).from + (item_at file at).size) (subst (AreLeft Trace slices file ((item_at file at).from + (item_at file at).size)) rest next.later) in
            frames_with item items (sent_frame item (subst (IsRead Trace slices file) same next.item)) later
        | inr end ↦ absurd (let none = none_left Trace slices file at (item ∷ items) end left in cc)
      ]

  pub all_frames : (items : List Item) → read_trace slices file ≡ Ok items → HaveFrames (map told_from items)
  all_frames items read = left_frames items 8 (left_first Trace slices file items read)

-- ---- the answer

answered_Ok : (items : List Item) (found : Option (ℕ × Why)) (n count : ℕ) → ◌≡◌ {A = Result ℕ AuditFault} (elim found [ None ↦ Ok count | Some own ↦ Err (No own.0 own.1) ]) (Ok n) → found ≡ None
answered_Ok items None n count e = refl
answered_Ok items (Some own) n count e = absurd (cc)

-- where a number is given, each message has its facts
pub facts_hold : (policy : PolicyView) → IsPolicy policy.slices policy.rules → (file : List ℕ) → ((k : ℕ) → slice_index file k < 256) → (items : List Item) (n : ℕ) → read_trace (length policy.slices) file ≡ Ok items → answer_of policy file items ≡ Ok n
    → EachSent (KeepsSlice policy) (told_in file items)
facts_hold policy accepted file bytes items n read answer =
    all_passed policy accepted file items (all_frames (length policy.slices) file bytes items read) (answered_Ok items (first_wrong policy file [] items) n (sent_count items) answer)

pub given_facts : (policy : PolicyView) → IsPolicy policy.slices policy.rules → (file : List ℕ) → ((k : ℕ) → slice_index file k < 256) → (items : List Item) (result : Result ℕ AuditFault) → read_trace (length policy.slices) file ≡ Ok items
    → GivesAudit result (answer_of policy file items) → IfOk result (λ n. EachSent (KeepsSlice policy) (told_in file items))
given_facts policy accepted file bytes items (Ok n) read gives = facts_hold policy accepted file bytes items n read gives
given_facts policy accepted file bytes items (Err fault) read gives = tt

never_trace : (items : List Item) (found : Option (ℕ × Why)) (fault : RecordingFault) (count : ℕ) → ◌≡◌ {A = Result ℕ AuditFault} (elim found [ None ↦ Ok count | Some own ↦ Err (No own.0 own.1) ]) (Err (Trace_ fault)) → ⊥
never_trace items None fault count e = absurd (cc)
never_trace items (Some own) fault count e = absurd (cc)

-- a file that is read has no fault of reading
pub given_other : (policy : PolicyView) (file : List ℕ) (items : List Item) (result : Result ℕ AuditFault) (fault : RecordingFault) → GivesAudit result (answer_of policy file items) → result ≡ Err (Trace_ fault) → ⊥
given_other policy file items result fault gives is =
    never_trace items (first_wrong policy file [] items) fault (sent_count items) (subst (λ (called : Result ℕ AuditFault). GivesAudit called (answer_of policy file items)) is gives)
