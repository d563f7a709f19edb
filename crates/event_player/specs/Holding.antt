-- What a desk of a recording stands for: a history, and the messages that wait (this proxy's own rule).
use Rattle.std.specs.Prelude.{ℕ, ◌≡◌, ◌==◌, Bool, true, false, if◌then◌else◌, List, [], ◌∷◌}
use Rattle.flowspace.specs.Policies.{PolicyView}
use Rattle.outbox.specs.Queues.{waiting}
use Rattle.desk_words.specs.declared.event.Timed.{Timed}
use Rattle.desk_words.specs.Verdicts.{is_over}
use Rattle.desk_words.specs.Sent.{sent_by, lane_by}
use Rattle.desk_words.specs.Operations.{Operation, events_of, queue_of, lane_of}
use Rattle.proxy_core.specs.declared.desk.Desk.{Desk}
use Rattle.proxy_core.specs.Desks.{DeskStands}

-- a desk of a policy took this history in, and so much waits for each slice and for the switch
pub record Holds (policy : PolicyView) (h : List Timed) (slices : ℕ → List (List ℕ)) (lane : List (List ℕ)) (desk : Desk) : Type 0 where
  pub operations : List Operation
  pub stands : DeskStands policy operations desk
  pub events : events_of operations ≡ h
  pub queues : (slot : ℕ) → queue_of policy slot operations ≡ waiting (slices slot)
  pub lane_queue : lane_of policy operations ≡ waiting lane

-- nothing waits
abbrev pub nothing : ℕ → List (List ℕ)
nothing slot = []

-- a desk of a policy took this history in, and nothing waits
abbrev pub IsQuiet : PolicyView → List Timed → Desk → Type 0
IsQuiet policy h desk = Holds policy h nothing [] desk

-- for one slice so much waits, for the others as before
abbrev pub with_waiting : ℕ → List (List ℕ) → (ℕ → List (List ℕ)) → ℕ → List (List ℕ)
with_waiting slot messages slices other = if slot == other then messages else slices other

-- after an event: it is taken in and what it makes waits, or nothing more comes of the history
abbrev pub After : PolicyView → List Timed → Timed → Bool → Desk → Type 0
After policy h timed true desk = (is_over h ≡ false) × Holds policy (timed ∷ h) (λ slot. sent_by policy slot h timed) (lane_by policy h timed) desk
After policy h timed false desk = (is_over h ≡ true) × IsQuiet policy h desk
