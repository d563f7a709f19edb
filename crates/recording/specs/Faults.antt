-- What is wrong with a file that is no recording: its first fault, and where.
use Rattle.std.specs.Prelude.{◌≡◌, ◌≢◌, ◌⊎◌, ℕ, ◌<◌, ◌≤◌, true, false, List, [], ◌++◌, length, take, reverse}
use Rattle.std.specs.List.{All}
use Rattle.recording.specs.declared.item.Item.{Item}
use Rattle.recording.specs.declared.fault.RecordingFault.{RecordingFault}
use Rattle.recording.specs.declared.fault.RecordingFault.TheVariants.{Torn, Bad, NotOpen, Memory}
use Rattle.recording.specs.declared.layout.Layout.TheVariants.{Recording}
use Rattle.recording.specs.Recordings.{Told, HasMoment, placed_record, all_told, may_be_told, has_form, fits, record_bytes, magic, recording}

-- a record of the form
abbrev pub HasForm : ℕ → ℕ → Told → Type 0
HasForm slices at told = (has_form Recording slices 0 (placed_record at told) ≡ true) × HasMoment told

-- a whole head that begins no record of the form
abbrev pub HasNoForm : ℕ → ℕ → List ℕ → Type 0
HasNoForm slices at rest = (16 ≤ length rest) × ((told : Told) → HasForm slices at told → take 16 rest ≢ take 16 (record_bytes told))

-- the bytes end within a record of the form
pub record IsCutOff (slices at : ℕ) (rest : List ℕ) : Type 0 where
  pub told : Told
  pub formed : HasForm slices at told
  pub missing : List ℕ
  pub some : 1 ≤ length missing
  pub begun : record_bytes told ≡ rest ++ missing

-- the bytes begin with a record of the form that doesn't fit those before it, newest first
pub record IsUnfit (slices : ℕ) (before : List Item) (at : ℕ) (rest : List ℕ) : Type 0 where
  pub told : Told
  pub formed : HasForm slices at told
  pub later : List ℕ
  pub begun : rest ≡ record_bytes told ++ later
  pub unfit : fits before (placed_record at told) ≡ false

-- a fault says the place: torn is what ends within a head or behind a head of the form, bad is a head of no form, not open is a whole record that doesn't fit
abbrev pub IsFaultAt : ℕ → List Item → ℕ → List ℕ → RecordingFault → Type 0
IsFaultAt slices before at rest (Torn place) = (place ≡ at) × ((length rest < 16) ⊎ IsCutOff slices at rest)
IsFaultAt slices before at rest (Bad place) = (place ≡ at) × HasNoForm slices at rest
IsFaultAt slices before at rest (NotOpen place) = (place ≡ at) × IsUnfit slices before at rest
IsFaultAt slices before at rest Memory = ⊥

-- the file spells records, each of the form and fitting those before it, and then something is wrong
pub record IsFirstRecordingFault (slices : ℕ) (bytes : List ℕ) (fault : RecordingFault) : Type 0 where
  pub told : List Told
  pub moments : All HasMoment told
  pub right : may_be_told slices [] (all_told 8 told) ≡ true
  pub rest : List ℕ
  pub splits : bytes ≡ recording told ++ rest
  pub more : 1 ≤ length rest
  pub wrong : IsFaultAt slices (reverse (all_told 8 told)) (length (recording told)) rest fault

-- a file is refused for its magic, torn or another, or for its first fault behind it
abbrev pub IsRefused : ℕ → List ℕ → RecordingFault → Type 0
IsRefused slices bytes fault =
    ((length bytes < 8) × (fault ≡ Torn 0)) ⊎ (((8 ≤ length bytes) × (take 8 bytes ≢ magic) × (fault ≡ Bad 0)) ⊎ IsFirstRecordingFault slices bytes fault)
