-- The policy that comes of an outer one where the holder of one of its slices divides that slice by an inner policy. All of this is the proxy's own rule.
use Rattle.std.specs.Prelude.{ℕ, ◌+◌, ◌-◌, ◌*◌, ◌/◌, ◌%◌, ◌^◌, ltb, if◌then◌else◌, List, [], ◌∷◌, ◌++◌, length, take, drop, filter_map, Option, Some, None, option_map}
use Rattle.std.specs.List.{flat_map}
use Rattle.of10_model.specs.declared.pattern.Pattern.{Pattern}
use Rattle.of10_model.specs.Meet.{both, meet_of}
use Rattle.flowspace.specs.declared.slices.Slice.{Slice}
use Rattle.flowspace.specs.declared.rules.Rule.{Rule}
use Rattle.flowspace.specs.Rules.{is_written_by}
use Rattle.flowspace.specs.Order.{in_order}
use Rattle.flowspace.specs.Policies.{PolicyView}

-- ---- slices

-- the outer slices without the holder, in their order, and then the inner ones
abbrev pub flat_slices : List Slice → ℕ → List Slice → List Slice
flat_slices outer slot inner = take slot outer ++ (drop (slot + 1) outer ++ inner)

-- how a slice is divided: the slot of its holder, how many other outer slices there are, and the inner rules in rule order
pub record DivisionView : Type 0 where
  pub slot : ℕ
  pub others : ℕ
  pub rules : List Rule

-- where another outer slice stands: behind the holder's slot one place lower
abbrev pub outer_slot : DivisionView → ℕ → ℕ
outer_slot d s = if ltb d.slot s then s - 1 else s

-- where an inner slice stands: behind the others
abbrev pub inner_slot : DivisionView → ℕ → ℕ
inner_slot d t = d.others + t

-- the readers of an outer rule without the holder, each where it stands now
abbrev pub outer_readers : DivisionView → ℕ → ℕ
outer_readers d bits = bits % 2 ^ d.slot + bits / 2 ^ (d.slot + 1) * 2 ^ d.slot

-- those of an inner rule
abbrev pub inner_readers : DivisionView → ℕ → ℕ
inner_readers d bits = bits * 2 ^ d.others

-- ---- rules

-- a rule that the holder doesn't write
abbrev pub kept : DivisionView → Rule → Rule
kept d r = record r { writer = option_map (outer_slot d) r.writer; readers = outer_readers d r.readers }

-- a rule on a switch, of a match, where there are both
abbrev pub joined : Option (Option ℕ) → Option Pattern → Option ℕ → ℕ → Option Rule
joined None pattern writer readers = None
joined (Some switch) None writer readers = None
joined (Some switch) (Some pattern) writer readers = Some (record { switch = switch; priority = 0; pattern = pattern; writer = writer; readers = readers })

-- what a rule that the holder writes and an inner one allow together: on the switch that either names, of the headers in both, the inner one's writer, and the readers of both. There is none where the two rules name two switches or share no header
abbrev pub part : DivisionView → Rule → Rule → Option Rule
part d r q = joined (both r.switch q.switch) (meet_of r.pattern q.pattern) (option_map (inner_slot d) q.writer) (outer_readers d r.readers + inner_readers d q.readers)

-- what comes of an outer rule
abbrev pub parts : DivisionView → Rule → List Rule
parts d r = if is_written_by d.slot r then filter_map (part d r) d.rules else kept d r ∷ []

-- what comes of outer rules, one after another
abbrev pub divided : DivisionView → List Rule → List Rule
divided d rules = flat_map (parts d) rules

abbrev pub numbered : ℕ → Rule → Rule
numbered priority r = record r { priority = priority }

-- each rule has as its priority how many stand behind it
abbrev pub by_place : List Rule → List Rule
by_place [] = []
by_place (r ∷ rest) = numbered (length rest) r ∷ by_place rest

abbrev pub flat_rules : DivisionView → List Rule → List Rule
flat_rules d rules = by_place (divided d rules)

-- ---- policies

abbrev pub division_of : PolicyView → ℕ → PolicyView → DivisionView
division_of outer slot inner = record { slot = slot; others = length outer.slices - 1; rules = in_order inner.rules }

-- the slices and the rules of both, flat; no port number is exchanged
unfoldable pub flat : PolicyView → ℕ → PolicyView → PolicyView
flat outer slot inner = record { slices = flat_slices outer.slices slot inner.slices; rules = flat_rules (division_of outer slot inner) (in_order outer.rules); swaps = [] }
