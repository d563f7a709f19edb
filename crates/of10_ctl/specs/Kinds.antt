-- Frames of one type of message.
use Rattle.std.specs.Prelude.{◌≡◌, ◌==◌, ◌&&◌, not, ℕ, Bool, false, List, slice_index}
use Rattle.of10_ctl.specs.Frames.{IsFrame, is_bad}

-- a frame of version 1, of that type and of no bad length (OpenFlow 1.0.0, section 5.1)
abbrev pub IsOf : ℕ → List ℕ → Type 0
IsOf kind bytes = IsFrame bytes × (slice_index bytes 0 ≡ 1) × (slice_index bytes 1 ≡ kind) × (is_bad bytes ≡ false)

-- a frame is one (section 5.1)
abbrev pub is_of : ℕ → List ℕ → Bool
is_of kind bytes = slice_index bytes 0 == 1 && slice_index bytes 1 == kind && not (is_bad bytes)
