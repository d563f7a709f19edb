-- How serving over sockets ends. All of this is the program's own rule.
use Rattle.std.specs.Prelude.{◌≡◌, ◌⊎◌, ℕ, List, Option}
use Rattle.fv_live.specs.Roles.{Role}
use Rattle.fv_cli.specs.declared.ending.Ending.TheVariants.{NoMemory}
use Rattle.fv_cli.specs.Endings.{ending_status, ending_line, IsPut}
use Rattle.live_serve.specs.Running.{outside}
use Rattle.live_serve.specs.Serving.{ServeReads, Places, ServeEnded}

-- what switches connect to: how many connections it accepted, where it is shown, and how often a call for each place has failed
pub record Listening : Type 0 where
  pub accepted : Option ℕ
  pub faults : List ℕ → ℕ

-- the outside at one time, with the count of each place: what switches connect to, the roles of the threads started, and how often a start has failed
abbrev pub places : Listening → Option (List Role) → ℕ → Places
places listening roles start_faults = λ at. outside listening.accepted roles (listening.faults at) start_faults

-- A call that served ended as serving does, whatever was first and last of what switches connect to, which the call makes for itself.
pub record ServedBy (w : ServeReads) (roles roles_after : Option (List Role)) (start_faults start_faults_after : ℕ) (words : List (List ℕ)) (err_before err_after : Option (List ℕ)) (err_faults err_faults_after status : ℕ) : Type 0 where
  pub first : Listening
  pub last : Listening
  pub ended : ServeEnded w (places first roles start_faults) (places last roles_after start_faults_after) words err_before err_after err_faults err_faults_after status

-- there was no memory for the words
abbrev pub WordsHadNoMemory : Option (List ℕ) → Option (List ℕ) → ℕ → ℕ → ℕ → Type 0
WordsHadNoMemory err_before err_after err_faults err_faults_after status = (status ≡ ending_status NoMemory) × IsPut (ending_line NoMemory) err_before err_after err_faults err_faults_after
