-- What the outside in memory shows.
use Rattle.std.specs.Prelude.{ℕ, List, [], ◌∷◌, ◌+◌, ◌-◌, ◌^◌, length, Option, Some, None, option_map, if◌then◌else◌, ◌≡◌, ◌==◌, ◌||◌, min}
use Rattle.std.specs.Option.{option_or}
use Rattle.std.specs.List.{list_any}
use Rattle.std.specs.Str.{bytes_eq}
use Rattle.std.specs.String.{string_bytes}
use Rattle.fv_base.specs.declared.memory.Plan.{Plan}
use Rattle.fv_base.specs.declared.memory.MemorySink.{MemorySink}
use Rattle.fv_base.specs.declared.memory.MemoryFiles.{MemoryFiles}
use Rattle.fv_base.specs.declared.memory.NeverSink.{NeverSink}
use Rattle.fv_base.specs.declared.memory.File.{File}

-- how many bytes a call moves where this many are there: none where it is to fail
abbrev pub moved : Plan → ℕ → Option ℕ
moved plan there = if list_any (λ call. call == plan.calls) plan.failing.items || plan.most == 0 then None else Some (min there plan.most)

-- the plan after one call more; the number of calls stays at the last value of a u64
abbrev pub called : Plan → Plan
called plan = record plan { calls = min (plan.calls + 1) (2 ^ 64 - 1) }

-- how many bytes a read of a file from a place on gives, into this much room: none where the plan fails the call or there is no file
abbrev pub read_count : Plan → Option (List ℕ) → ℕ → ℕ → Option ℕ
read_count plan None from room = None
read_count plan (Some file) from room = option_map (λ most. min (length file - from) most) (moved plan room)

-- no call was made yet, a call moves this many bytes at most, and these calls are to fail
pub record Starts (plan : Plan) (bytes : ℕ) (numbers : List ℕ) : Type 0 where
  pub most : plan.most ≡ bytes
  pub failing : plan.failing.items ≡ numbers
  pub calls : plan.calls ≡ 0

-- how the calls on a sink go
abbrev pub sink_plan : MemorySink → Plan
sink_plan sink = sink.plan

-- how the calls on files go
abbrev pub files_plan : MemoryFiles → Plan
files_plan files = files.plan

-- how many bytes a sink that never fails took
abbrev pub bytes_taken : NeverSink → ℕ
bytes_taken sink = sink.taken

-- the bytes of the first file at a path
abbrev pub file_at : List File → List ℕ → Option (List ℕ)
file_at [] path = None
file_at (file ∷ others) path = if bytes_eq (string_bytes file.path) path then Some file.bytes.items else file_at others path

-- what is shown at a path after a file was added behind the others
abbrev pub with_file : (List ℕ → Option (List ℕ)) → List ℕ → List ℕ → List ℕ → Option (List ℕ)
with_file told path bytes at = option_or (told at) (if bytes_eq path at then Some bytes else None)
