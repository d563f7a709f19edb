-- How a call of the program ends: its status, its line, and what has to be so for it. All of this is the program's own rule.
use Rattle.std.specs.Prelude.{◌≡◌, ℕ, ◌<◌, ◌≤◌, ◌⊎◌, List, [], length, codes, Bool, true, false, Option, Some, None, IfSome, Result, Ok, Err}
use Rattle.fv_base.specs.Told.{appended, IsBeginning, Rose}
use Rattle.fv_base.specs.Words.{FormBytes, OfCheck, OfReplay, OfGen, OfServe, OfVirtual, OfChange, OfFlatten, OfAudit, OfTrace, form_of}
use Rattle.flowspace.specs.Slices.{slot_named}
use Rattle.flowspace.specs.Policies.{PolicyView, IsPolicy}
use Rattle.policy_text.specs.declared.fault.ReadFault as text
use Rattle.policy_text.specs.Documents.{document_of, policy_of}
use Rattle.policy_text.specs.Printing.{text_of}
use Rattle.nested_slices.specs.declared.fault.NestFault.{NestFault}
use Rattle.nested_slices.specs.Refused.{flatten_of}
use Rattle.fv_generator.specs.Made.{records_of}
use Rattle.fv_generator.specs.Policies.{the_policy}
use Rattle.recording.specs.declared.item.Item.{Item}
use Rattle.recording.specs.declared.fault.RecordingFault.{RecordingFault}
use Rattle.recording.specs.Recordings.{Told, read_items}
use Rattle.fv_report.specs.Writing.{WrotePart}
use Rattle.desk_words.specs.Recorded.{told_in}
use Rattle.desk_words.specs.Reports.{report}
use Rattle.run_words.specs.Summaries.{summary}
use Rattle.fv_cli.specs.declared.ending.Ending.{Ending}
use Rattle.fv_cli.specs.declared.ending.Ending.TheVariants.{Done, Usage, ReadFault, WriteFault, NoMemory, NoMemoryToRun, TooLarge, PolicyRefused, RecordingRefused, NoSlice, NestRefused}
use Rattle.fv_cli.specs.Lines.{policy_line, recording_line, nest_line, accepted_line}

abbrev pub ending_status : Ending → ℕ
ending_status Done = 0
ending_status Usage = 1
ending_status (PolicyRefused fault) = 2
ending_status (RecordingRefused fault) = 3
ending_status ReadFault = 4
ending_status WriteFault = 5
ending_status NoMemory = 6
ending_status NoMemoryToRun = 6
ending_status TooLarge = 7
ending_status NoSlice = 2
ending_status (NestRefused fault) = 2

-- the line on the error stream; nothing where all was done
abbrev pub ending_line : Ending → List ℕ
ending_line Done = []
ending_line Usage = codes "usage: flowvisor check POLICY / replay POLICY RECORDING / gen SEED COUNT / serve POLICY LISTEN COUNT / flatten OUTER NAME INNER\n"
ending_line (PolicyRefused fault) = policy_line fault
ending_line (RecordingRefused fault) = recording_line fault
ending_line ReadFault = codes "read fault\n"
ending_line WriteFault = codes "write fault\n"
ending_line NoMemory = codes "no memory\n"
ending_line NoMemoryToRun = codes "no memory\n"
ending_line TooLarge = codes "too large\n"
ending_line NoSlice = codes "nest: no slice\n"
ending_line (NestRefused fault) = nest_line fault

-- the limits of policies and of recordings in bytes
abbrev pub policy_limit : ℕ
policy_limit = 1048576

abbrev pub recording_limit : ℕ
recording_limit = 268435456

-- ---- what was read of files

-- where the file is shown, it passes the limit
abbrev pub PassesLimit : ℕ → Option (List ℕ) → Type 0
PassesLimit limit file = IfSome file (λ bytes. limit < length bytes)

-- these bytes were read of a file: no more than the limit, and all of it where it is shown
pub record WereRead (limit : ℕ) (file : Option (List ℕ)) (bytes : List ℕ) : Type 0 where
  pub within : length bytes ≤ limit
  pub whole : IfSome file (λ told. bytes ≡ told)

-- a text was read that says this policy, or that is refused for this fault
abbrev pub PolicySays : Result PolicyView text.ReadFault → Option (List ℕ) → Type 0
PolicySays said file = (bytes : List ℕ) × WereRead policy_limit file bytes × (policy_of (document_of bytes) ≡ said)

-- a text was read that says this policy, which is accepted
pub record HasPolicy (p : PolicyView) (file : Option (List ℕ)) : Type 0 where
  pub says : PolicySays (Ok p) file
  pub accepted : IsPolicy p.slices p.rules

-- a recording was read that is refused for this fault under so many slices
abbrev pub RecordingFails : ℕ → RecordingFault → Option (List ℕ) → Type 0
RecordingFails slices fault file = (bytes : List ℕ) × WereRead recording_limit file bytes × (read_items slices bytes ≡ Err fault)

-- a recording was read that is accepted under so many slices, and these are its bytes and its records
pub record HasRecording (slices : ℕ) (file : Option (List ℕ)) (bytes : List ℕ) (items : List Item) : Type 0 where
  pub read : WereRead recording_limit file bytes
  pub records : read_items slices bytes ≡ Ok items

-- ---- why a file isn't taken

-- a file of at most so many bytes isn't had
abbrev pub IsLoadCause : ℕ → Option (List ℕ) → ℕ → ℕ → Ending → Type 0
IsLoadCause limit file before after ReadFault = Rose before after
IsLoadCause limit file before after TooLarge = PassesLimit limit file
IsLoadCause limit file before after NoMemory = Unit {0}
IsLoadCause limit file before after _ = ⊥

-- a policy isn't had
abbrev pub IsPolicyCause : Option (List ℕ) → ℕ → ℕ → Ending → Type 0
IsPolicyCause file before after (PolicyRefused fault) = PolicySays (Err fault) file
IsPolicyCause file before after ending = IsLoadCause policy_limit file before after ending

-- a recording isn't had
abbrev pub IsRecordingCause : ℕ → Option (List ℕ) → ℕ → ℕ → Ending → Type 0
IsRecordingCause slices file before after (RecordingRefused fault) = RecordingFails slices fault file
IsRecordingCause slices file before after ending = IsLoadCause recording_limit file before after ending

-- ---- causes

-- what a call of the program saw: the files that are shown, the counts of their paths before and after, and the output and its count before and after
pub record Outside : Type 0 where
  pub files : List ℕ → Option (List ℕ)
  pub read_before : List ℕ → ℕ
  pub read_after : List ℕ → ℕ
  pub out_before : Option (List ℕ)
  pub out_after : Option (List ℕ)
  pub put_before : ℕ
  pub put_after : ℕ

-- the count for the path rose
abbrev pub RoseAt : Outside → List ℕ → Type 0
RoseAt w path = Rose (w.read_before path) (w.read_after path)

-- a policy isn't had; or it is had, and more holds of it
abbrev pub WithPolicy : Outside → List ℕ → (PolicyView → Ending → Type 0) → Ending → Type 0
WithPolicy w path More ending =
    IsPolicyCause (w.files path) (w.read_before path) (w.read_after path) ending ⊎ ((p : PolicyView) × HasPolicy p (w.files path) × More p ending)

-- a recording isn't had under so many slices; or it is had, and more holds of what it says
abbrev pub WithRecording : Outside → List ℕ → ℕ → (List Told → Ending → Type 0) → Ending → Type 0
WithRecording w path slices More ending =
    IsRecordingCause slices (w.files path) (w.read_before path) (w.read_after path) ending
    ⊎ ((bytes : List ℕ) × (items : List Item) × HasRecording slices (w.files path) bytes items × More (told_in bytes items) ending)

-- a policy has no slice of the name; or it has one, and more holds of its slot
abbrev pub WithSlot : PolicyView → List ℕ → (ℕ → Ending → Type 0) → Ending → Type 0
WithSlot p name More ending =
    ((slot_named p.slices name ≡ None) × (ending ≡ NoSlice)) ⊎ ((slot : ℕ) × (slot_named p.slices name ≡ Some slot) × More slot ending)

-- the ending of a call that had only this text to write
abbrev pub IsWriteEnding : List ℕ → Option (List ℕ) → Option (List ℕ) → ℕ → ℕ → Ending → Type 0
IsWriteEnding text before after count_before count_after Done = after ≡ appended before text
IsWriteEnding text before after count_before count_after WriteFault = WrotePart text before after × Rose count_before count_after
IsWriteEnding text before after count_before count_after _ = ⊥

-- the ending of a run over files that were taken, which writes this text
abbrev pub IsRunEnding : List ℕ → Option (List ℕ) → Option (List ℕ) → ℕ → ℕ → Ending → Type 0
IsRunEnding text before after count_before count_after NoMemoryToRun = WrotePart text before after
IsRunEnding text before after count_before count_after ending = IsWriteEnding text before after count_before count_after ending

abbrev pub WriteOf : Outside → List ℕ → Ending → Type 0
WriteOf w text ending = IsWriteEnding text w.out_before w.out_after w.put_before w.put_after ending

abbrev pub RunOf : Outside → List ℕ → Ending → Type 0
RunOf w text ending = IsRunEnding text w.out_before w.out_after w.put_before w.put_after ending

-- the cause of an ending, where the words asked for a check of a policy
abbrev pub IsCheckCause : Outside → List ℕ → Ending → Type 0
IsCheckCause w policy = WithPolicy w policy (λ p. WriteOf w (accepted_line p))

-- where they asked for a replay of a recording under a policy
abbrev pub IsReplayCause : Outside → List ℕ → List ℕ → Ending → Type 0
IsReplayCause w policy recording = WithPolicy w policy (λ p. WithRecording w recording (length p.slices) (λ records. RunOf w (report p records)))

-- a division makes no text: memory ran out, or it is refused for its fault
abbrev pub IsRefusedDivision : Result PolicyView NestFault → Ending → Type 0
IsRefusedDivision division ending = (ending ≡ NoMemory) ⊎ ((fault : NestFault) × (division ≡ Err fault) × (ending ≡ NestRefused fault))

-- the ending of a call that divides a slice: there is no text, or that of the flat policy is written
abbrev pub IsFlatEnding : Result PolicyView NestFault → Option (List ℕ) → Option (List ℕ) → ℕ → ℕ → Ending → Type 0
IsFlatEnding division before after count_before count_after ending =
    IsRefusedDivision division ending
    ⊎ ((made : PolicyView) × (division ≡ Ok made) × IsWriteEnding (text_of made) before after count_before count_after ending)

-- the cause of an ending, where the words asked for the policy in which a slice is divided: the outer policy, then the name, then the inner policy
abbrev pub IsFlattenCause : Outside → List ℕ → List ℕ → List ℕ → Ending → Type 0
IsFlattenCause w outer name inner =
    WithPolicy w outer (λ p. WithSlot p name (λ slot. WithPolicy w inner (λ q. IsFlatEnding (flatten_of p slot q) w.out_before w.out_after w.put_before w.put_after)))

-- the ending of a call that makes a recording and runs it, which has this summary
abbrev pub IsGenEnding : List ℕ → Option (List ℕ) → Option (List ℕ) → ℕ → ℕ → Ending → Type 0
IsGenEnding text before after count_before count_after NoMemory = Unit {0}
IsGenEnding text before after count_before count_after ending = IsRunEnding text before after count_before count_after ending

-- the words decide first: without a form, and with that of `serve` or of what isn't done yet, it is the usage, and nothing else is
abbrev pub Causes : Outside → Option FormBytes → Ending → Type 0
Causes w None ending = ending ≡ Usage
Causes w (Some (OfCheck policy)) ending = IsCheckCause w policy ending
Causes w (Some (OfReplay policy recording)) ending = IsReplayCause w policy recording ending
Causes w (Some (OfGen seed count)) ending = IsGenEnding (summary the_policy (records_of seed count)) w.out_before w.out_after w.put_before w.put_after ending
Causes w (Some (OfServe policy listen count)) ending = ending ≡ Usage
Causes w (Some (OfVirtual policy recording)) ending = ending ≡ Usage
Causes w (Some (OfChange old new recording)) ending = ending ≡ Usage
Causes w (Some (OfFlatten outer name inner)) ending = IsFlattenCause w outer name inner ending
Causes w (Some (OfAudit policy trace)) ending = ending ≡ Usage
Causes w (Some (OfTrace policy recording)) ending = ending ≡ Usage

-- an ending before the run
abbrev pub is_before_run : Ending → Bool
is_before_run Done = false
is_before_run WriteFault = false
is_before_run NoMemoryToRun = false
is_before_run _ = true

-- what a call leaves of the counts of all paths: they stay, but at a read fault, where none falls
abbrev pub CountsReads : Ending → (List ℕ → ℕ) → (List ℕ → ℕ) → Type 0
CountsReads ReadFault before after = (at : List ℕ) → before at ≤ after at
CountsReads ending before after = (at : List ℕ) → after at ≡ before at

-- what it leaves of the output's count: it stays, but at a write fault, where it doesn't fall
abbrev pub CountsPuts : Ending → ℕ → ℕ → Type 0
CountsPuts WriteFault before after = before ≤ after
CountsPuts ending before after = after ≡ before

-- the line was put and the count stayed, or a prefix of it where the count rose
abbrev pub IsPut : List ℕ → Option (List ℕ) → Option (List ℕ) → ℕ → ℕ → Type 0
IsPut line before after count_before count_after =
    ((after ≡ appended before line) × (count_after ≡ count_before)) ⊎ ((piece : List ℕ) × IsBeginning piece line × (after ≡ appended before piece) × Rose count_before count_after)

-- A call that ended with a status: one ending gives the status, has its cause, left the output alone before the run, left the counts that aren't its cause, and put its line.
pub record EndedWith (w : Outside) (words : List (List ℕ)) (err_before err_after : Option (List ℕ)) (err_faults err_faults_after status : ℕ) : Type 0 where
  pub ending : Ending
  pub answer : status ≡ ending_status ending
  pub cause : Causes w (form_of words) ending
  pub nothing_early : is_before_run ending ≡ true → w.out_after ≡ w.out_before
  pub reads : CountsReads ending w.read_before w.read_after
  pub puts : CountsPuts ending w.put_before w.put_after
  pub line : IsPut (ending_line ending) err_before err_after err_faults err_faults_after

-- ---- completeness

-- the policy at a path is shown, within its limit and accepted, and no count rose for it
pub record IsReadyPolicy (w : Outside) (path : List ℕ) (p : PolicyView) : Type 0 where
  pub bytes : List ℕ
  pub told : w.files path ≡ Some bytes
  pub within : length bytes ≤ policy_limit
  pub says : policy_of (document_of bytes) ≡ Ok p
  pub calm : RoseAt w path → ⊥

-- the recording at a path is shown, within its limit and accepted under so many slices, and no count rose for it
pub record IsReadyRecording (w : Outside) (path : List ℕ) (slices : ℕ) : Type 0 where
  pub bytes : List ℕ
  pub items : List Item
  pub told : w.files path ≡ Some bytes
  pub within : length bytes ≤ recording_limit
  pub records : read_items slices bytes ≡ Ok items
  pub calm : RoseAt w path → ⊥

-- the policy at a path is ready, and more is for it
abbrev pub ReadyPolicy : Outside → List ℕ → (PolicyView → Type 0) → Type 0
ReadyPolicy w path More = (p : PolicyView) × IsReadyPolicy w path p × More p

-- the status that a division has: 2 where it is refused
abbrev pub division_status : Result PolicyView NestFault → ℕ
division_status (Ok made) = 0
division_status (Err fault) = 2

-- status 2 is due of a name that no slice has; of another what is due of its slot
abbrev pub IsDueOfSlot : Option ℕ → (ℕ → Type 0) → ℕ → Type 0
IsDueOfSlot None More status = status ≡ 2
IsDueOfSlot (Some slot) More status = More slot

-- the words have a form that is done here, the files that it reads are ready, and this status is due for what they say
abbrev pub IsDue : Outside → Option FormBytes → ℕ → Type 0
IsDue w (Some (OfCheck policy)) status = ReadyPolicy w policy (λ p. status ≡ 0)
IsDue w (Some (OfReplay policy recording)) status = ReadyPolicy w policy (λ p. IsReadyRecording w recording (length p.slices) × (status ≡ 0))
IsDue w (Some (OfGen seed count)) status = status ≡ 0
IsDue w (Some (OfFlatten outer name inner)) status =
    ReadyPolicy w outer (λ p. IsDueOfSlot (slot_named p.slices name) (λ slot. ReadyPolicy w inner (λ q. status ≡ division_status (flatten_of p slot q))) status)
IsDue w _ status = ⊥

-- a call has the status that is due, or memory ran out, where the output's count didn't rise
abbrev pub Completes : Outside → Option FormBytes → ℕ → Type 0
Completes w form status = (due : ℕ) → IsDue w form due → (Rose w.put_before w.put_after → ⊥) → (status ≡ due) ⊎ (status ≡ 6)
