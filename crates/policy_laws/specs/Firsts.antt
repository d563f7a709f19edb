-- Which fault of a policy text is its first, of items in order, and where a fault stands. All of it is this proxy's own rule.
use Rattle.std.specs.Prelude.{◌≡◌, ◌⊎◌, ℕ, ◌<◌, true, false, List, slice_get, Option, Some, None, Result, Ok, Err, ⊤, codes}
use Rattle.toml.specs.Data.{Data, Items, get_item, Members, get_member}
use Rattle.flowspace.specs.declared.fault.PolicyFault.{PolicyFault}
use Rattle.flowspace.specs.declared.fault.PolicyFault.TheVariants.{UnknownSlice, UnknownPortSlice}
use Rattle.policy_text.specs.declared.fault.Part.{Part}
use Rattle.policy_text.specs.declared.fault.Part.TheVariants as part
use Rattle.policy_text.specs.declared.known_keys.Keys.{Keys}
use Rattle.policy_text.specs.declared.known_keys.Keys.TheVariants.{Top, Slice, Rule, Port}
use Rattle.policy_text.specs.declared.fault.ReadFault.{ReadFault}
use Rattle.policy_text.specs.declared.fault.ReadFault.TheVariants.{NotToml, Missing, BadValue, UnknownKey, Improper, Refused, Memory}
use Rattle.policy_text.specs.Places.{field_key}
use Rattle.policy_text.specs.Reading.{is_known_key}
use Rattle.policy_text.specs.Keys.{IsKey, IsLeastUnknown, is_needed, has_form}

-- ---- items in order

-- there is neither an item nor a value, or the value is what the item at this index is read as
abbrev pub IsItemReadAs : {A : Type 0} → Option Data → Option A → (Data → Result A ReadFault) → Type 0
IsItemReadAs None None read = ⊤
IsItemReadAs None (Some x) read = ⊥
IsItemReadAs (Some d) None read = ⊥
IsItemReadAs (Some d) (Some x) read = read d ≡ Ok x

-- the values are what the items are read as, each at its index
abbrev pub AreReadAs : {A : Type 0} → (ℕ → Data → Result A ReadFault) → Items → List A → Type 0
AreReadAs read items xs = (i : ℕ) → IsItemReadAs (get_item i items) (slice_get xs i) (read i)

-- some item, read at its index, has this fault, and each item before it is read
pub record IsFirstRefused {A : Type 0} (read : ℕ → Data → Result A ReadFault) (items : Items) (fault : ReadFault) : Type 0 where
  pub index : ℕ
  pub refused : Data
  pub there : get_item index items ≡ Some refused
  pub fault_is : read index refused ≡ Err fault
  pub earlier : (i : ℕ) (d : Data) → i < index → get_item i items ≡ Some d → (x : A) × (read i d ≡ Ok x)

-- ---- where a fault stands

-- which part of a text has these keys
abbrev pub part_of : Keys → Part
part_of (Top version) = part.Top
part_of Slice = part.Slice
part_of Rule = part.Rule
part_of Port = part.Port

-- the value under a key is of another form than such a table has there
abbrev pub HasBadValue : Part → Members → List ℕ → Type 0
HasBadValue part members key = (d : Data) × (get_member key members ≡ Some d) × (has_form part key d ≡ false)

-- a name of no slice, by the number of the rule or of the port table, where names are there
abbrev pub NamesNoSliceAt : Keys → ℕ → Members → PolicyFault → Type 0
NamesNoSliceAt Rule index members fault = (fault ≡ UnknownSlice index) × (IsKey members (codes "write") ⊎ IsKey members (codes "read"))
NamesNoSliceAt Port index members fault = (fault ≡ UnknownPortSlice index) × IsKey members (codes "slice")
NamesNoSliceAt kind index _ fault = ⊥

-- a fault of this table: at a key that it needs and lacks, a known one whose value is bad, or the least unknown one. A fault of a rule or a port table may be by its number instead, with a field or names that are there
abbrev pub StandsIn : Keys → ℕ → Members → ReadFault → Type 0
StandsIn kind index _ NotToml = ⊥
StandsIn kind index members (Missing at) = (at.part ≡ part_of kind) × (at.index ≡ index) × (is_needed (part_of kind) at.key ≡ true) × (IsKey members at.key → ⊥)
StandsIn kind index members (BadValue at) = (at.part ≡ part_of kind) × (at.index ≡ index) × (is_known_key kind at.key ≡ true) × HasBadValue (part_of kind) members at.key
StandsIn kind index members (UnknownKey at) = (at.part ≡ part_of kind) × (at.index ≡ index) × IsLeastUnknown kind members at.key
StandsIn kind index members (Improper rule field) = (kind ≡ Rule) × (rule ≡ index) × IsKey members (field_key field)
StandsIn kind index members (Refused fault) = NamesNoSliceAt kind index members fault
StandsIn kind index _ Memory = ⊥
