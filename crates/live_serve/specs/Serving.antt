-- What a call of `serve` did, and why it ended. This proxy's own rules.
use Rattle.std.specs.Prelude.{ℕ, ◌≡◌, ◌⊎◌, List, [], map, codes, Option, Some, Ok}
use Rattle.fv_base.specs.Told.{Rose}
use Rattle.fv_base.specs.Words.{FormBytes, OfServe, form_of}
use Rattle.flowspace.specs.Policies.{PolicyView}
use Rattle.fv_cli.specs.declared.ending.Ending.TheVariants.{Usage}
use Rattle.fv_cli.specs.Endings.{HasPolicy, PolicySays, IsPolicyCause, CountsReads, IsPut}
use Rattle.fv_cli.specs.Endings.{ending_status as early_status, ending_line as early_line}
use Rattle.live_serve.specs.declared.accept.RunEnd.{RunEnd}
use Rattle.live_serve.specs.declared.accept.RunEnd.TheVariants.{Done, NoMemory, WireFault, NoThread}
use Rattle.live_serve.specs.declared.finish.Finish.{Finish}
use Rattle.live_serve.specs.declared.finish.Finish.TheVariants.{Early, Ran}
use Rattle.live_serve.specs.Roles.{controller_of}
use Rattle.live_serve.specs.Running.{ServeOutside, Untouched, IsRunCause}

abbrev pub finish_status : Finish → ℕ
finish_status (Early ending) = early_status ending
finish_status (Ran Done) = 0
finish_status (Ran NoMemory) = 6
finish_status (Ran WireFault) = 9
finish_status (Ran NoThread) = 10

-- the line on the error stream; nothing where all was done
abbrev pub run_line : RunEnd → List ℕ
run_line Done = []
run_line NoMemory = codes "no memory\n"
run_line WireFault = codes "wire fault\n"
run_line NoThread = codes "no thread started\n"

abbrev pub finish_line : Finish → List ℕ
finish_line (Early ending) = early_line ending
finish_line (Ran end) = run_line end

-- ---- causes

-- the files where they are shown, and the counts of their paths before and after
pub record ServeReads : Type 0 where
  pub files : List ℕ → Option (List ℕ)
  pub before : List ℕ → ℕ
  pub after : List ℕ → ℕ

-- why it ended, where the words asked for so many connections under the policy at a path: the policy isn't had, and nothing was begun; or it is had, and a run under it ended
abbrev pub IsServeCause : ServeReads → List ℕ → ℕ → ServeOutside → ServeOutside → Finish → Type 0
IsServeCause w policy count a b (Early ending) = IsPolicyCause (w.files policy) (w.before policy) (w.after policy) ending × Untouched a b
IsServeCause w policy count a b (Ran end) = (p : PolicyView) × HasPolicy p (w.files policy) × IsRunCause (map controller_of p.slices) count a b end

-- the outside at one time, with the count of each place
abbrev pub Places : Type 0
Places = List ℕ → ServeOutside

-- the words decide first: where they aren't of the form of `serve` it is the usage, and nothing was begun; else it is never the usage
abbrev pub ServeCauses : ServeReads → Places → Places → Option FormBytes → Finish → Type 0
ServeCauses w a b (Some (OfServe policy listen count)) finish = IsServeCause w policy count (a listen) (b listen) finish
ServeCauses w a b _ finish = (finish ≡ Early Usage) × ((at : List ℕ) → Untouched (a at) (b at))

-- what a call leaves of the counts of the files' paths
abbrev pub LeavesReads : Finish → (List ℕ → ℕ) → (List ℕ → ℕ) → Type 0
LeavesReads (Early ending) before after = CountsReads ending before after
LeavesReads (Ran end) before after = (at : List ℕ) → after at ≡ before at

-- A call that ended with a status: one finish gives the status, has its cause, left the counts of files that aren't its cause, and put its line.
pub record ServeEnded (w : ServeReads) (a b : Places) (words : List (List ℕ)) (err_before err_after : Option (List ℕ)) (err_faults err_faults_after status : ℕ) : Type 0 where
  pub finish : Finish
  pub answer : status ≡ finish_status finish
  pub cause : ServeCauses w a b (form_of words) finish
  pub reads : LeavesReads finish w.before w.after
  pub line : IsPut (finish_line finish) err_before err_after err_faults err_faults_after

-- ---- completeness

-- the policy at a path is shown, within its limit and accepted, and no count rose for it
pub record IsPolicyToServe (w : ServeReads) (path : List ℕ) : Type 0 where
  pub bytes : List ℕ
  pub p : PolicyView
  pub told : w.files path ≡ Some bytes
  pub says : PolicySays (Ok p) (Some bytes)
  pub calm : Rose (w.before path) (w.after path) → ⊥

-- neither the count of the place nor that of the starts rose
pub record AreCalm (a b : ServeOutside) : Type 0 where
  pub wires : Rose a.wire_faults b.wire_faults → ⊥
  pub starts : Rose a.start_faults b.start_faults → ⊥

-- the words are of the form of `serve`, the policy that they name is ready, and no count rose
abbrev pub IsReadyToServe : ServeReads → Places → Places → Option FormBytes → Type 0
IsReadyToServe w a b (Some (OfServe policy listen count)) = IsPolicyToServe w policy × AreCalm (a listen) (b listen)
IsReadyToServe w a b _ = ⊥

-- where these are ready, all was done or memory ran out
abbrev pub ServeCompletes : ServeReads → Places → Places → Option FormBytes → ℕ → Type 0
ServeCompletes w a b form status = IsReadyToServe w a b form → (status ≡ 0) ⊎ (status ≡ 6)
