-- What is reported is counted (this proxy's own rule).
use Rattle.std.specs.Prelude.{ℕ, ◌≡◌, ◌+◌, ◌==◌, if◌then◌else◌, List, [], ◌∷◌, ◌++◌, length, slice_get, Some, Ok, Err}
use Rattle.std.specs.List.{flat_map}
use Rattle.outbox.specs.Queues.{size}
use Rattle.fv_report.specs.declared.counter.Count.{Count}
use Rattle.fv_report.specs.declared.counter.Counter.{Counter}
use Rattle.event_player.specs.declared.fault.ReportFault.TheVariants.{Memory}
use Rattle.desk_words.specs.Reports.{Line, Saying, Lane, To}
use Rattle.event_player.specs.Telling.{Outcome}

-- a message more was counted
pub record CountsMore (message : List ℕ) (old new : Count) : Type 0 where
  pub messages : new.messages ≡ old.messages + 1
  pub bytes : new.bytes ≡ old.bytes + length message

-- the message for the switch that is reported, if one is
abbrev pub lane_said : Saying → List (List ℕ)
lane_said (Lane message) = message ∷ []
lane_said saying = []

-- the message for the slice at a slot that is reported, if one is
abbrev pub slice_in : ℕ → Saying → List (List ℕ)
slice_in slot (To at name message) = if at == slot then message ∷ [] else []
slice_in slot saying = []

-- the messages for the switch that lines report
abbrev pub lane_told_in : List Line → List (List ℕ)
lane_told_in lines = flat_map (λ line. lane_said line.saying) lines

-- those for the slice at a slot
abbrev pub slice_told_in : ℕ → List Line → List (List ℕ)
slice_told_in slot lines = flat_map (λ line. slice_in slot line.saying) lines

-- a count is that of these messages
pub record IsCount (all : List (List ℕ)) (count : Count) : Type 0 where
  pub messages : count.messages ≡ length all
  pub bytes : count.bytes ≡ size all

-- counts are those of the messages by slot
abbrev pub AreCounts : (ℕ → List (List ℕ)) → List Count → Type 0
AreCounts messages counts = (slot : ℕ) (count : Count) → slice_get counts slot ≡ Some count → IsCount (messages slot) count

-- of so many slices and of the switch these messages were counted
pub record HasCounted (slots : ℕ) (lane : List (List ℕ)) (slices : ℕ → List (List ℕ)) (counter : Counter) : Type 0 where
  pub known : length counter.slices.items ≡ slots
  pub for_lane : IsCount lane counter.lane
  pub for_slices : AreCounts slices counter.slices.items

-- what a line says is counted; where it isn't, memory ran out
abbrev pub CountsLine : Saying → Outcome → Counter → Counter → Type 0
CountsLine saying (Err fault) old new = fault ≡ Memory
CountsLine saying (Ok value) old new =
    (slots : ℕ) (lane : List (List ℕ)) (slices : ℕ → List (List ℕ)) → HasCounted slots lane slices old
    → HasCounted slots (lane ++ lane_said saying) (λ slot. slices slot ++ slice_in slot saying) new

abbrev pub Counts : Counter → Line → Outcome → Counter → Type 0
Counts old line outcome new = CountsLine line.saying outcome old new
