-- What words ask for, and how what they ask for may end. All of this is the program's own rule.
use Rattle.std.specs.Prelude.{◌≡◌, ◌≢◌, ◌⊎◌, ℕ, Bool, true, false, if◌then◌else◌, List, [], ◌∷◌, Option, None, Some, bytes_eq, codes}
use Rattle.fv_base.specs.Words.{FormBytes, OfCheck, OfReplay, OfGen, OfFlatten}
use Rattle.fv_cli.specs.declared.ending.Ending.{Ending}
use Rattle.fv_cli.specs.declared.ending.Ending.TheVariants.{Done, Usage, WriteFault, NoMemory, NoMemoryToRun, RecordingRefused, NoSlice, NestRefused}
use Rattle.fv_cli.specs.Endings.{ending_status, ending_line, IsPut}
use Rattle.flowvisor.specs.declared.help_and_version.TheConstants.{HELP, VERSION}

-- the text that a word asks for
abbrev pub text_asked : List ℕ → Option (List ℕ)
text_asked word = if bytes_eq word (codes "--help") then Some HELP.now else if bytes_eq word (codes "-h") then Some HELP.now else if bytes_eq word (codes "--version") then Some VERSION.now else None

-- the text that these words ask for: one word alone
abbrev pub text_in : List (List ℕ) → Option (List ℕ)
text_in (word ∷ []) = text_asked word
text_in _ = None

-- an ending that a division of a slice can have: none of words without a form, of a recording, or of a run
abbrev pub is_of_flatten : Ending → Bool
is_of_flatten Usage = false
is_of_flatten (RecordingRefused fault) = false
is_of_flatten NoMemoryToRun = false
is_of_flatten _ = true

-- an ending that a check of a policy can have: the same, but none of a division
abbrev pub is_of_check : Ending → Bool
is_of_check NoSlice = false
is_of_check (NestRefused fault) = false
is_of_check ending = is_of_flatten ending

-- an ending that a call can have that makes a recording: it reads no file
abbrev pub is_of_gen : Ending → Bool
is_of_gen Done = true
is_of_gen WriteFault = true
is_of_gen NoMemory = true
is_of_gen NoMemoryToRun = true
is_of_gen _ = false

-- words that ask for a text end well or with a fault of writing. Words without a form, and those of `serve` and of what isn't done yet, end with the usage, where there is memory to say so. A check ends as a check can, a replay never with the usage, and a made recording and a division as they can
abbrev pub Suits : Option (List ℕ) → Option FormBytes → Ending → Type 0
Suits (Some text) form ending = (ending ≡ Done) ⊎ (ending ≡ WriteFault)
Suits None (Some (OfCheck policy)) ending = is_of_check ending ≡ true
Suits None (Some (OfReplay policy recording)) ending = ending ≢ Usage
Suits None (Some (OfGen seed count)) ending = is_of_gen ending ≡ true
Suits None (Some (OfFlatten outer name inner)) ending = is_of_flatten ending ≡ true
Suits None _ ending = (ending ≡ Usage) ⊎ (ending ≡ NoMemory)

-- A call that ended with a status: one ending that suits gives the status, and its line was put.
pub record EndedSo (Suiting : Ending → Type 0) (err_before err_after : Option (List ℕ)) (err_faults err_faults_after status : ℕ) : Type 0 where
  pub ending : Ending
  pub suits : Suiting ending
  pub answer : status ≡ ending_status ending
  pub line : IsPut (ending_line ending) err_before err_after err_faults err_faults_after
