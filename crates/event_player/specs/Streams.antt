-- Framers of the connections of a recording (this proxy's own rule).
use Rattle.std.specs.Prelude.{ℕ, ◌≡◌, List, [], ◌∷◌, ◌++◌, length, slice_get, set, Option, Some, None}
use Rattle.of10_ctl.specs.declared.framer.Next.{Next}
use Rattle.of10_ctl.specs.declared.framer.Next.TheVariants.{Frame}
use Rattle.of10_ctl.specs.Streams.{Stream, Stands, frames_of, AreFirst}
use Rattle.recording.specs.Recordings.{Told, switch_bytes, slice_bytes}
use Rattle.desk_words.specs.Recorded.{stream_before}
use Rattle.event_player.specs.declared.streams.Streams.{Streams}

-- so many framers, to which nothing was fed
pub record AreFreshFramers (count : ℕ) (framers : List Stream) : Type 0 where
  pub number : length framers ≡ count
  pub each : (slot : ℕ) (framer : Stream) → slice_get framers slot ≡ Some framer → Stands framer [] []

-- nothing came on any connection
abbrev pub NothingCame : ℕ → Streams → Type 0
NothingCame slices streams = Stands streams.switch [] [] × AreFreshFramers slices streams.slices.items

-- the frame that a framer gave, if it did
abbrev pub frame_given : Next → Option (List ℕ)
frame_given (Frame frame) = Some frame
frame_given next = None

-- the next frame was taken, or all frames of what was fed had been
abbrev pub TookFrame : Option (List ℕ) → List ℕ → List (List ℕ) → Stream → Type 0
TookFrame None fed given new = (given ≡ frames_of fed) × Stands new fed given
TookFrame (Some frame) fed given new = AreFirst (given ++ frame ∷ []) (frames_of fed) × Stands new fed (given ++ frame ∷ [])

abbrev pub TakesFrame : Option (List ℕ) → Stream → Stream → Type 0
TakesFrame next old new = (fed : List ℕ) (given : List (List ℕ)) → Stands old fed given → TookFrame next fed given new

-- the framer at a slot, if there is one, was replaced by one to which nothing was fed
abbrev pub Restarts : ℕ → List Stream → List Stream → Type 0
Restarts slot old new = (framer : Stream) × (new ≡ set old slot framer) × Stands framer [] []

-- a connection, as a record of it that carries nothing
abbrev pub connection : ℕ → ℕ → ℕ → Told
connection switch kind slot = record { kind = kind; switch = switch; slot = slot; moment = 0; bytes = [] }

-- a framer was fed all bytes of a connection that came with the records before, and gave all frames of them
abbrev pub StreamStands : Told → List Told → Stream → Type 0
StreamStands r before framer = Stands framer (stream_before r before) (frames_of (stream_before r before))

-- the framers of a switch stand for its connections after records, the newest first
pub record StreamsStand (slices switch : ℕ) (before : List Told) (streams : Streams) : Type 0 where
  pub of_switch : StreamStands (connection switch switch_bytes 0) before streams.switch
  pub number : length streams.slices.items ≡ slices
  pub of_slices : (slot : ℕ) (framer : Stream) → slice_get streams.slices.items slot ≡ Some framer → StreamStands (connection switch slice_bytes slot) before framer
