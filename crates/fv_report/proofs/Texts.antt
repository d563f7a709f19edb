-- The text of what is reported, and what a writer writes of it.
use Rattle.std.proofs.Common.{◌≡◌, inl, inr, ℕ, List, [], ◌∷◌, ◌++◌, refl, sym, ap, ◌∙◌, subst, Option, Result, Ok, Err}
use Rattle.std.specs.List.{flat_map}
use Rattle.std.specs.Result.{IsErrAnd}
use Rattle.fv_base.specs.Told.{appended}
use Rattle.fv_base.proofs.Appending.{appended_none}
use Rattle.flowspace.specs.Policies.{PolicyView}
use Rattle.recording.specs.Recordings.{Told}
use Rattle.desk_words.specs.Reports.{Line, line_text, last_line, all_lines, report}
use Rattle.event_player.specs.declared.fault.ReportFault.{ReportFault}
use Rattle.event_player.specs.declared.fault.ReportFault.TheVariants.{Memory}
use Rattle.fv_report.specs.Writing.{WrotePart, Wrote, CountedFault, Counted}
use Rattle.event_player.specs.Telling.{Outcome, ToldWhole, HeardPart}
use Rattle.run_words.specs.Summaries.{event_count}
use Rattle.fv_report.proofs.Writing.{both, none_of, part_of_first, part_of_second, wrote_second, counted_after, fault_after}

pub whole_text : (p : PolicyView) (records : List Told) → flat_map line_text (all_lines p records) ++ last_line (event_count p records) ≡ report p records
unfolding report
whole_text p records = refl

-- ---- what is written

-- by each line something is kept, the line's text is written, and a write fault is counted
abbrev pub Writes : {T X : Type 0} → (T → X) → (T → Option (List ℕ)) → (T → ℕ) → T → Line → Outcome → T → Type 0
Writes seen contents faults old l outcome new = (seen new ≡ seen old) × Wrote outcome (line_text l) (contents old) (contents new) × Counted outcome (faults old) (faults new)

-- what a sink has after lines
pub record Written {T X : Type 0} (seen : T → X) (contents : T → Option (List ℕ)) (faults : T → ℕ) (lines : List Line) (old new : T) : Type 0 where
  pub same : seen new ≡ seen old
  pub text : contents new ≡ appended (contents old) (flat_map line_text lines)
  pub counted : faults new ≡ faults old

pub record WrittenPart {T X : Type 0} (seen : T → X) (contents : T → Option (List ℕ)) (faults : T → ℕ) (fault : ReportFault) (lines : List Line) (old new : T) : Type 0 where
  pub same : seen new ≡ seen old
  pub text : WrotePart (flat_map line_text lines) (contents old) (contents new)
  pub counted : CountedFault fault (faults old) (faults new)

-- lines that are written one by one are written together
pub wrote_told : {T X : Type 0} (seen : T → X) (contents : T → Option (List ℕ)) (faults : T → ℕ) (lines : List Line) (old new : T) → ToldWhole (Writes seen contents faults) old lines new → Written seen contents faults lines old new
wrote_told seen contents faults [] old new same = record { same = ap seen same; text = ap contents same ∙ appended_none (contents old); counted = ap faults same }
wrote_told seen contents faults (l ∷ lines) old new (next, told, others) =
    let rest = wrote_told seen contents faults lines next new others in
    record {
      same = rest.same ∙ told.0;
      text = both (contents old) (contents next) (contents new) (line_text l) (flat_map line_text lines) told.1 rest.text;
      counted = rest.counted ∙ told.2;
    }

-- nothing was written before memory ran out
wrote_none : {T X : Type 0} (seen : T → X) (contents : T → Option (List ℕ)) (faults : T → ℕ) (fault : ReportFault) (lines : List Line) (old new : T) → new ≡ old → fault ≡ Memory → WrittenPart seen contents faults fault lines old new
wrote_none {T} seen contents faults fault lines old new same memory = record {
  same = ap seen same;
  text = subst (λ (state : T). WrotePart (flat_map line_text lines) (contents old) (contents state)) (sym same) (none_of (flat_map line_text lines) (contents old));
  counted = subst (λ (f : ReportFault). CountedFault f (faults old) (faults new)) (sym memory) (ap faults same);
}

pub wrote_told_part : {T X : Type 0} (seen : T → X) (contents : T → Option (List ℕ)) (faults : T → ℕ) (fault : ReportFault) (lines : List Line) (old new : T) → HeardPart (Writes seen contents faults) fault old lines new → WrittenPart seen contents faults fault lines old new
wrote_told_part seen contents faults fault [] old new (same, memory) = wrote_none seen contents faults fault [] old new same memory
wrote_told_part seen contents faults fault (l ∷ lines) old new (inl (same, memory)) = wrote_none seen contents faults fault (l ∷ lines) old new same memory
wrote_told_part seen contents faults fault (l ∷ lines) old new (inr (inl broken)) = record {
  same = broken.0;
  text = part_of_first (line_text l) (flat_map line_text lines) (contents old) (contents new) broken.1;
  counted = broken.2;
}
wrote_told_part seen contents faults fault (l ∷ lines) old new (inr (inr (next, told, others))) =
    let rest = wrote_told_part seen contents faults fault lines next new others in
    record {
      same = rest.same ∙ told.0;
      text = part_of_second (line_text l) (flat_map line_text lines) (contents old) (contents next) (contents new) told.1 rest.text;
      counted = fault_after fault (faults old) (faults next) (faults new) told.2 rest.counted;
    }

-- ---- a whole report

-- what a call that writes a text leaves of a sink
pub record HasWritten {A T X : Type 0} (seen : T → X) (contents : T → Option (List ℕ)) (faults : T → ℕ) (result : Result A ReportFault) (text : List ℕ) (old new : T) : Type 0 where
  pub same : seen new ≡ seen old
  pub writes : Wrote result text (contents old) (contents new)
  pub counted : Counted result (faults old) (faults new)

-- all lines of a recording were reported, and then the number of its events was put
pub report_ended : {A T X : Type 0} (seen : T → X) (contents : T → Option (List ℕ)) (faults : T → ℕ) (p : PolicyView) (records : List Told) (result : Result A ReportFault) (old now new : T) → ToldWhole (Writes seen contents faults) old (all_lines p records) now
    → seen new ≡ seen now → Wrote result (last_line (event_count p records)) (contents now) (contents new) → Counted result (faults now) (faults new) → HasWritten seen contents faults result (report p records) old new
report_ended seen contents faults p records result old now new told same last counted =
    let lines = all_lines p records in
    let written = wrote_told seen contents faults lines old now told in
    record {
      same = same ∙ written.same;
      writes = subst (λ (text : List ℕ). Wrote result text (contents old) (contents new)) (whole_text p records)
          (wrote_second result (flat_map line_text lines) (last_line (event_count p records)) (contents old) (contents now) (contents new) written.text last);
      counted = counted_after result (faults old) (faults now) (faults new) written.counted counted;
    }

-- a fault came in its lines
pub report_broken : {A T X : Type 0} (seen : T → X) (contents : T → Option (List ℕ)) (faults : T → ℕ) (p : PolicyView) (records : List Told) (fault : ReportFault) (result : Result A ReportFault) (old new : T) → IsErrAnd result (λ e. e ≡ fault)
    → HeardPart (Writes seen contents faults) fault old (all_lines p records) new → HasWritten seen contents faults result (report p records) old new
report_broken seen contents faults p records fault (Err e) old new same told =
    let lines = all_lines p records in
    let written = wrote_told_part seen contents faults fault lines old new told in
    record {
      same = written.same;
      writes = subst (λ (text : List ℕ). WrotePart text (contents old) (contents new)) (whole_text p records) (part_of_first (flat_map line_text lines) (last_line (event_count p records)) (contents old) (contents new) written.text);
      counted = subst (λ (f : ReportFault). CountedFault f (faults old) (faults new)) (sym same) written.counted;
    }
report_broken seen contents faults p records fault (Ok value) old new same told = absurd same
