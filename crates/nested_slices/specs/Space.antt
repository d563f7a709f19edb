-- What the laws of `src/laws.rt` and the clauses of `flatten` speak of.
use Rattle.std.specs.Prelude.{ℕ, ◌≡◌, ◌≢◌, ◌↔◌, ◌+◌, ◌*◌, ◌^◌, ◌<◌, ◌≤◌, ◌&&◌, not, false, List, length, filter, All, Any, Some, IfSome, option_map}
use Rattle.of10_model.specs.declared.pattern.Pattern.{Pattern}
use Rattle.of10_model.specs.Header.{Header, IsHeader}
use Rattle.of10_model.specs.Pattern.{Has, has}
use Rattle.flowspace.specs.declared.rules.Rule.{Rule}
use Rattle.flowspace.specs.Rules.{holds, is_written_by}
use Rattle.flowspace.specs.Order.{rules_on, writer_of, readers_of}
use Rattle.flowspace.specs.Owners.{Writes}
use Rattle.flowspace.specs.Policies.{PolicyView, IsPolicy}
use Rattle.flowmod_expand.specs.Pieces.{pieces_of}
use Rattle.nested_slices.specs.Flat.{DivisionView, outer_slot, outer_readers, inner_slot, division_of}

-- some slice writes a rule
abbrev pub HasWriter : Rule → Type 0
HasWriter q = (t : ℕ) × (q.writer ≡ Some t)

-- two policies, and a slot of the outer one
pub record IsGiven (outer : PolicyView) (slot : ℕ) (inner : PolicyView) : Type 0 where
  pub outer_policy : IsPolicy outer.slices outer.rules
  pub inner_policy : IsPolicy inner.slices inner.rules
  pub is_slot : slot < length outer.slices

-- a slice of an outer policy may be divided by an inner one: both are policies, there is the slice, and each inner rule is written
pub record IsDivisible (outer : PolicyView) (slot : ℕ) (inner : PolicyView) : Type 0 where
  pub outer_policy : IsPolicy outer.slices outer.rules
  pub inner_policy : IsPolicy inner.slices inner.rules
  pub is_slot : slot < length outer.slices
  pub written : All HasWriter inner.rules

-- the slots of an inner rule fit behind those of the other outer slices
pub record FitsBehind (d : DivisionView) (q : Rule) : Type 0 where
  pub writer_fits : IfSome q.writer (λ t. d.others + t < 32)
  pub readers_fit : q.readers * 2 ^ d.others + 2 ^ d.others ≤ 2 ^ 32

-- a division all of whose slots fit: the holder is one of the outer slices, and the inner slices stand behind the others
pub record Fits (d : DivisionView) : Type 0 where
  pub is_slot : d.slot ≤ d.others
  pub few : d.others ≤ 31
  pub behind : All (FitsBehind d) d.rules

-- ---- what a flat policy promises, at every switch and for each header

-- an inner slice writes what the holder writes by the outer policy and it writes itself by the inner one
abbrev pub WritesWhatBothWrite : PolicyView → ℕ → PolicyView → PolicyView → Type 0
WritesWhatBothWrite outer slot inner made = (datapath t : ℕ) (h : Header) → IsHeader h
    → Writes (rules_on datapath made.rules) (inner_slot (division_of outer slot inner) t) h ↔ (Writes (rules_on datapath outer.rules) slot h × Writes (rules_on datapath inner.rules) t h)

-- every other slice of the outer policy writes what it wrote
abbrev pub OthersWriteAsBefore : PolicyView → ℕ → PolicyView → PolicyView → Type 0
OthersWriteAsBefore outer slot inner made = (datapath s : ℕ) → s < length outer.slices → s ≢ slot → (h : Header) → IsHeader h
    → Writes (rules_on datapath made.rules) (outer_slot (division_of outer slot inner) s) h ↔ Writes (rules_on datapath outer.rules) s h

-- of every match an inner slice has the headers that lie in a piece for the holder and in a piece for that slice by the inner policy
abbrev pub HasPiecesOfBoth : PolicyView → ℕ → PolicyView → PolicyView → Type 0
HasPiecesOfBoth outer slot inner made = (datapath t : ℕ) (m : Pattern) (h : Header)
    → Any (λ x. Has x h) (pieces_of (rules_on datapath made.rules) (inner_slot (division_of outer slot inner) t) m)
    ↔ (Any (λ x. Has x h) (pieces_of (rules_on datapath outer.rules) slot m) × Any (λ x. Has x h) (pieces_of (rules_on datapath inner.rules) t m))

-- no inner rule has a header on a switch
abbrev pub NoRuleHas : ℕ → List Rule → Header → Type 0
NoRuleHas datapath rules h = All (λ q. (holds datapath q && has q.pattern h) ≡ false) rules

-- the outer rules that the holder doesn't write
abbrev pub rules_of_others : ℕ → List Rule → List Rule
rules_of_others slot rules = filter (λ r. not (is_written_by slot r)) rules

-- a header that no inner rule has goes on to the writer of the outer rules that the holder doesn't write
abbrev pub GoesOnToWriters : PolicyView → ℕ → PolicyView → PolicyView → Type 0
GoesOnToWriters outer slot inner made = (datapath : ℕ) (h : Header) → NoRuleHas datapath inner.rules h
    → writer_of (rules_on datapath made.rules) h ≡ option_map (outer_slot (division_of outer slot inner)) (writer_of (rules_on datapath (rules_of_others slot outer.rules)) h)

-- and to their readers
abbrev pub GoesOnToReaders : PolicyView → ℕ → PolicyView → PolicyView → Type 0
GoesOnToReaders outer slot inner made = (datapath : ℕ) (h : Header) → NoRuleHas datapath inner.rules h
    → readers_of (rules_on datapath made.rules) h ≡ outer_readers (division_of outer slot inner) (readers_of (rules_on datapath (rules_of_others slot outer.rules)) h)
