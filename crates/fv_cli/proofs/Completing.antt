-- Where all is ready, a call has the status that is due or memory runs out.
use Rattle.std.proofs.Common.{ℕ, ◌≡◌, ◌≤◌, ◌<◌, List, length, refl, sym, ap, ◌∙◌, subst, Option, Some, Result, Ok, Err, inl, inr, arith}
use Rattle.std.specs.Prelude.{◌⊎◌, IfSome}
use Rattle.fv_base.specs.Told.{Rose}
use Rattle.fv_base.specs.Words.{FormBytes, OfCheck, OfReplay, OfGen, OfFlatten}
use Rattle.flowspace.specs.Slices.{slot_named}
use Rattle.flowspace.specs.Policies.{PolicyView}
use Rattle.policy_text.specs.declared.fault.ReadFault as text
use Rattle.policy_text.specs.Documents.{document_of, policy_of}
use Rattle.policy_text.specs.Printing.{text_of}
use Rattle.nested_slices.specs.declared.fault.NestFault.{NestFault}
use Rattle.nested_slices.specs.Refused.{flatten_of}
use Rattle.recording.specs.declared.fault.RecordingFault.{RecordingFault}
use Rattle.recording.specs.Recordings.{Told, read_items}
use Rattle.desk_words.specs.Reports.{report}
use Rattle.fv_cli.specs.declared.ending.Ending.{Ending}
use Rattle.fv_cli.specs.declared.ending.Ending.TheVariants.{Done, ReadFault, WriteFault, NoMemory, NoMemoryToRun, TooLarge, PolicyRefused, RecordingRefused}
use Rattle.fv_cli.specs.Endings.{ending_status, policy_limit, recording_limit, PassesLimit, WereRead, PolicySays, HasPolicy, RecordingFails, Outside, WithPolicy, WithRecording, WithSlot, WriteOf, RunOf, IsWriteEnding, IsRunEnding, IsGenEnding, IsFlatEnding, Causes, IsReadyPolicy, IsReadyRecording, ReadyPolicy, IsDueOfSlot, division_status, Completes}
use Rattle.fv_cli.specs.Lines.{accepted_line}
use Rattle.fv_cli.proofs.Making.{same_Ok}

-- the status is the one that is due, or memory ran out
abbrev IsFine : ℕ → Ending → Type 0
IsFine due ending = (ending_status ending ≡ due) ⊎ (ending_status ending ≡ 6)

-- what was read of a file that is shown is all of it
read_whole : (limit : ℕ) (file : Option (List ℕ)) (told bytes : List ℕ) → file ≡ Some told → WereRead limit file bytes → bytes ≡ told
read_whole limit file told bytes is read = subst (λ (f : Option (List ℕ)). IfSome f (λ t. bytes ≡ t)) is read.whole

passes_not : (limit : ℕ) (file : Option (List ℕ)) (told : List ℕ) → file ≡ Some told → length told ≤ limit → PassesLimit limit file → ⊥
passes_not limit file told is within passes = let more : limit < length told = subst (PassesLimit limit) is passes in omega (arith, more, within)

-- of a policy that is shown one thing is said
said_once : (w : Outside) (policy : List ℕ) (p : PolicyView) (said : Result PolicyView text.ReadFault) → IsReadyPolicy w policy p → PolicySays said (w.files policy) → said ≡ Ok p
said_once w policy p said ready (bytes, read, says) =
    sym says ∙ ap (λ (b : List ℕ). policy_of (document_of b)) (read_whole policy_limit (w.files policy) ready.bytes bytes ready.told read) ∙ ready.says

refused_not : (w : Outside) (policy : List ℕ) (p : PolicyView) (fault : text.ReadFault) → IsReadyPolicy w policy p → PolicySays (Err fault) (w.files policy) → ⊥
refused_not w policy p fault ready says = let same = said_once w policy p (Err fault) ready says in absurd (cc)

same_policy : (w : Outside) (policy : List ℕ) (p other : PolicyView) → IsReadyPolicy w policy p → HasPolicy other (w.files policy) → other ≡ p
same_policy w policy p other ready has = same_Ok (Ok other) other p refl (said_once w policy p (Ok other) ready has.says)

-- a recording that is ready isn't refused
fails_not : (w : Outside) (recording : List ℕ) (slices : ℕ) (fault : RecordingFault) → IsReadyRecording w recording slices → RecordingFails slices fault (w.files recording) → ⊥
fails_not w recording slices fault ready (bytes, read, fails) =
    let same : Err fault ≡ Ok ready.items = sym fails ∙ ap (read_items slices) (read_whole recording_limit (w.files recording) ready.bytes bytes ready.told read) ∙ ready.records in
    absurd (cc)

-- a policy that is ready is had, and what follows decides
policy_is_fine : (due : ℕ) (w : Outside) (policy : List ℕ) (p : PolicyView) (More : PolicyView → Ending → Type 0) → IsReadyPolicy w policy p → ((ending : Ending) → More p ending → IsFine due ending) → (ending : Ending) → WithPolicy w policy More ending → IsFine due ending
policy_is_fine due w policy p More ready then ending (inr (q, has, more)) = then ending (subst (λ (some : PolicyView). More some ending) (same_policy w policy p q ready has) more)
policy_is_fine due w policy p More ready then ReadFault (inl cause) = absurd (ready.calm cause)
policy_is_fine due w policy p More ready then NoMemory (inl cause) = inr refl
policy_is_fine due w policy p More ready then TooLarge (inl cause) = absurd (passes_not policy_limit (w.files policy) ready.bytes ready.told ready.within cause)
policy_is_fine due w policy p More ready then (PolicyRefused fault) (inl cause) = absurd (refused_not w policy p fault ready cause)
policy_is_fine due w policy p More ready then other (inl cause) = absurd cause

-- a recording likewise
recording_is_fine : (due : ℕ) (w : Outside) (recording : List ℕ) (slices : ℕ) (More : List Told → Ending → Type 0) → IsReadyRecording w recording slices → ((records : List Told) (ending : Ending) → More records ending → IsFine due ending) → (ending : Ending) → WithRecording w recording slices More ending → IsFine due ending
recording_is_fine due w recording slices More ready then ending (inr (bytes, items, has, more)) = then _ ending more
recording_is_fine due w recording slices More ready then ReadFault (inl cause) = absurd (ready.calm cause)
recording_is_fine due w recording slices More ready then NoMemory (inl cause) = inr refl
recording_is_fine due w recording slices More ready then TooLarge (inl cause) = absurd (passes_not recording_limit (w.files recording) ready.bytes ready.told ready.within cause)
recording_is_fine due w recording slices More ready then (RecordingRefused fault) (inl cause) = absurd (fails_not w recording slices fault ready cause)
recording_is_fine due w recording slices More ready then other (inl cause) = absurd cause

-- what is written where the output's count didn't rise
write_is_fine : (text : List ℕ) (before after : Option (List ℕ)) (count_before count_after : ℕ) → (Rose count_before count_after → ⊥) → (ending : Ending) → IsWriteEnding text before after count_before count_after ending → IsFine 0 ending
write_is_fine text before after count_before count_after calm Done cause = inl refl
write_is_fine text before after count_before count_after calm WriteFault (some, rose) = absurd (calm rose)
write_is_fine text before after count_before count_after calm other cause = absurd cause

run_is_fine : (text : List ℕ) (before after : Option (List ℕ)) (count_before count_after : ℕ) → (Rose count_before count_after → ⊥) → (ending : Ending) → IsRunEnding text before after count_before count_after ending → IsFine 0 ending
run_is_fine text before after count_before count_after calm NoMemoryToRun cause = inr refl
run_is_fine text before after count_before count_after calm other cause = write_is_fine text before after count_before count_after calm other cause

gen_is_fine : (text : List ℕ) (before after : Option (List ℕ)) (count_before count_after : ℕ) → (Rose count_before count_after → ⊥) → (ending : Ending) → IsGenEnding text before after count_before count_after ending → IsFine 0 ending
gen_is_fine text before after count_before count_after calm NoMemory cause = inr refl
gen_is_fine text before after count_before count_after calm other cause = run_is_fine text before after count_before count_after calm other cause

-- ---- divisions

-- a name that no slice has is reported; of another one what follows decides
slot_is_fine : (due : ℕ) (p : PolicyView) (name : List ℕ) (DueMore : ℕ → Type 0) (More : ℕ → Ending → Type 0) → IsDueOfSlot (slot_named p.slices name) DueMore due → ((slot : ℕ) → DueMore slot → (ending : Ending) → More slot ending → IsFine due ending) → (ending : Ending) → WithSlot p name More ending → IsFine due ending
slot_is_fine due p name DueMore More is_due then ending (inl (unnamed, is)) =
    let two : due ≡ 2 = subst (λ (found : Option ℕ). IsDueOfSlot found DueMore due) unnamed is_due in inl (ap ending_status is ∙ sym two)
slot_is_fine due p name DueMore More is_due then ending (inr (slot, named, more)) = then slot (subst (λ (found : Option ℕ). IsDueOfSlot found DueMore due) named is_due) ending more

-- a division is refused, or its text is written
flat_is_fine : (division : Result PolicyView NestFault) (before after : Option (List ℕ)) (count_before count_after : ℕ) → (Rose count_before count_after → ⊥) → (ending : Ending) → IsFlatEnding division before after count_before count_after ending → IsFine (division_status division) ending
flat_is_fine division before after count_before count_after calm ending (inl (inl is)) = inr (ap ending_status is)
flat_is_fine division before after count_before count_after calm ending (inl (inr (fault, refused, is))) = inl (ap ending_status is ∙ sym (ap division_status refused))
flat_is_fine division before after count_before count_after calm ending (inr (made, is, cause)) =
    subst (λ (n : ℕ). IsFine n ending) (sym (ap division_status is)) (write_is_fine (text_of made) before after count_before count_after calm ending cause)

-- ---- all forms

-- an ending that has its cause completes the call
pub completes : (w : Outside) (form : Option FormBytes) (ending : Ending) → Causes w form ending → Completes w form (ending_status ending)
completes w (Some (OfCheck policy)) ending cause due (p, ready, is) calm =
    subst (λ (n : ℕ). IsFine n ending) (sym is)
    (policy_is_fine 0 w policy p (λ q. WriteOf w (accepted_line q)) ready (write_is_fine (accepted_line p) w.out_before w.out_after w.put_before w.put_after calm) ending cause)
completes w (Some (OfReplay policy recording)) ending cause due (p, ready, (run, is)) calm =
    subst (λ (n : ℕ). IsFine n ending) (sym is)
    (policy_is_fine 0 w policy p (λ q. WithRecording w recording (length q.slices) (λ records. RunOf w (report q records))) ready
    (recording_is_fine 0 w recording (length p.slices) (λ records. RunOf w (report p records)) run (λ records. run_is_fine (report p records) w.out_before w.out_after w.put_before w.put_after calm)) ending cause)
completes w (Some (OfGen seed count)) ending cause due is calm = subst (λ (n : ℕ). IsFine n ending) (sym is) (gen_is_fine _ w.out_before w.out_after w.put_before w.put_after calm ending cause)
completes w (Some (OfFlatten outer name inner)) ending cause due (p, ready, named) calm =
    policy_is_fine due w outer p (λ p. WithSlot p name (λ slot. WithPolicy w inner (λ q. IsFlatEnding (flatten_of p slot q) w.out_before w.out_after w.put_before w.put_after))) ready
    (slot_is_fine due p name (λ slot. ReadyPolicy w inner (λ q. due ≡ division_status (flatten_of p slot q))) (λ slot. WithPolicy w inner (λ q. IsFlatEnding (flatten_of p slot q) w.out_before w.out_after w.put_before w.put_after)) named
    (λ slot rest.
    policy_is_fine due w inner rest.0 (λ q. IsFlatEnding (flatten_of p slot q) w.out_before w.out_after w.put_before w.put_after) rest.1
    (λ ending cause. subst (λ (n : ℕ). IsFine n ending) (sym rest.2) (flat_is_fine (flatten_of p slot rest.0) w.out_before w.out_after w.put_before w.put_after calm ending cause)))) ending cause
completes w other ending cause due is calm = absurd is
