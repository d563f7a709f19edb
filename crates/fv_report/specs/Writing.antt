-- What a call that writes a text leaves on its sink (this proxy's own rule).
use Rattle.std.specs.Prelude.{◌≡◌, ◌≤◌, ℕ, List, Option, Result, Ok, Err}
use Rattle.fv_base.specs.Told.{appended, IsBeginning, Rose}
use Rattle.event_player.specs.declared.fault.ReportFault.{ReportFault}
use Rattle.event_player.specs.declared.fault.ReportFault.TheVariants.{WriteFault, Memory}

-- the first bytes of a text were written, perhaps none
abbrev pub WrotePart : List ℕ → Option (List ℕ) → Option (List ℕ) → Type 0
WrotePart text before after = (piece : List ℕ) × IsBeginning piece text × (after ≡ appended before piece)

-- a text was written; at a fault its first bytes
abbrev pub Wrote : {A E : Type 0} → Result A E → List ℕ → Option (List ℕ) → Option (List ℕ) → Type 0
Wrote (Ok value) text before after = after ≡ appended before text
Wrote (Err fault) text before after = WrotePart text before after

-- what a fault leaves of the sink's count of faults: a write fault has it risen, out of memory as before
abbrev pub CountedFault : ReportFault → ℕ → ℕ → Type 0
CountedFault WriteFault old new = (old ≤ new) × Rose old new
CountedFault Memory old new = new ≡ old

-- what a call leaves of it: as before, but at a write fault
abbrev pub Counted : {A : Type 0} → Result A ReportFault → ℕ → ℕ → Type 0
Counted (Ok value) old new = new ≡ old
Counted (Err fault) old new = CountedFault fault old new
