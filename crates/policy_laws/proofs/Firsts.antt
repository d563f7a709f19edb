-- The first item that isn't read, and the least unknown key.
use Rattle.std.proofs.Common.{◌≡◌, ◌↔◌, inl, inr, ℕ, zero, suc, ◌<◌, List, [], ◌∷◌, Some, Result, Ok, Err, refl, sym, ap, ◌∙◌, arith}
use Rattle.std.proofs.lemmas.Option.{same_Some}
use Rattle.toml.specs.Data.{Data, table, Items, no_items, item, get_item, Members}
use Rattle.flowspace.specs.declared.rules.Rule.{Rule}
use Rattle.flowspace.specs.declared.slices.Slice.{Slice}
use Rattle.flowspace.specs.declared.swaps.Swap.{Swap}
use Rattle.policy_text.specs.declared.known_keys.Keys.TheVariants as keys
use Rattle.policy_text.specs.declared.fault.ReadFault.{ReadFault}
use Rattle.policy_laws.specs.Firsts.{AreReadAs, IsFirstRefused, StandsIn}
use Rattle.of10_model.specs.Results.{◌>>=◌}
use Rattle.of10_model.proofs.Results.{bind_err, others_wrong}
use Rattle.policy_text.specs.Reading.{reads}
use Rattle.policy_text.specs.Rules.{rule_section, rule_of, rules_from}
use Rattle.policy_text.specs.Slices.{slice_section, slice_of, slices_from}
use Rattle.policy_text.specs.Ports.{port_section, swap_of, swaps_from}
use Rattle.policy_text.proofs.Faults.{Has, OfKeys, slice_has, OfRule, rule_has, swap_has}

-- ---- items in order

abbrev next : {A : Type 0} → (ℕ → Data → Result A ReadFault) → ℕ → Data → Result A ReadFault
next read i d = read (suc i) d

reads_next : {A : Type 0} (read : ℕ → Data → Result A ReadFault) (k : ℕ) (items : Items) → reads read (suc k) items ≡ reads (next read) k items
reads_next read k no_items = refl
reads_next read k (item d rest) = rw (reads_next read (suc k) rest) refl

abbrev answer : {A : Type 0} → Result A ReadFault → Result (List A) ReadFault → Result (List A) ReadFault
answer first others = first >>= (λ x. others >>= (λ xs. Ok (x ∷ xs)))

reads_step : {A : Type 0} (read : ℕ → Data → Result A ReadFault) (d : Data) (rest : Items) → reads read 0 (item d rest) ≡ answer (read 0 d) (reads (next read) 0 rest)
reads_step read d rest = rw (← reads_next read 0 rest) refl

-- ---- all are read

split : {A : Type 0} (first : Result A ReadFault) (others : Result (List A) ReadFault) (xs : List A) → answer first others ≡ Ok xs → (x : A) × (rest : List A) × (first ≡ Ok x) × (others ≡ Ok rest) × (xs ≡ x ∷ rest)
split (Ok x) (Ok rest) xs e = (x, rest, refl, refl, cc)
split (Ok x) (Err fault) xs e = absurd cc
split (Err fault) others xs e = absurd cc

read_more : {A : Type 0} (read : ℕ → Data → Result A ReadFault) (d : Data) (rest : Items) (x : A) (xs : List A) → read 0 d ≡ Ok x → AreReadAs (next read) rest xs → AreReadAs read (item d rest) (x ∷ xs)
read_more read d rest x xs e more zero = e
read_more read d rest x xs e more (suc i) = more i

read_each : {A : Type 0} (read : ℕ → Data → Result A ReadFault) (items : Items) (xs : List A) → reads read 0 items ≡ Ok xs → AreReadAs read items xs
read_each read no_items [] e = λ i. tt
read_each read no_items (x ∷ xs) e = absurd cc
read_each read (item d rest) xs e =
    let (x, others, first, more, same) = split (read 0 d) (reads (next read) 0 rest) xs (sym (reads_step read d rest) ∙ e) in
    rw same (read_more read d rest x others first (read_each (next read) rest others more))

each_read : {A : Type 0} (read : ℕ → Data → Result A ReadFault) (items : Items) (xs : List A) → AreReadAs read items xs → reads read 0 items ≡ Ok xs
each_read read no_items [] h = refl
each_read read no_items (x ∷ xs) h = absurd (h 0)
each_read read (item d rest) [] h = absurd (h 0)
each_read read (item d rest) (x ∷ xs) h =
    let more = each_read (next read) rest xs (λ i. h (suc i)) in
    reads_step read d rest ∙ rw (h 0, more) refl

-- ---- one is refused

abbrev AreReadBefore : {A : Type 0} → (ℕ → Data → Result A ReadFault) → Items → ℕ → Type 0
AreReadBefore {A} read items index = (i : ℕ) (d : Data) → i < index → get_item i items ≡ Some d → (x : A) × (read i d ≡ Ok x)

earlier_later : {A : Type 0} (read : ℕ → Data → Result A ReadFault) (d : Data) (rest : Items) (index : ℕ) (x : A) → read 0 d ≡ Ok x → AreReadBefore (next read) rest index → AreReadBefore read (item d rest) (suc index)
earlier_later read d rest index x e h zero other lt there = (x, ap (read 0) (sym (same_Some d other there)) ∙ e)
earlier_later read d rest index x e h (suc i) other lt there = h i other (omega (arith, lt)) there

refused_later : {A : Type 0} (read : ℕ → Data → Result A ReadFault) (d : Data) (rest : Items) (fault : ReadFault) (x : A) → read 0 d ≡ Ok x → IsFirstRefused (next read) rest fault → IsFirstRefused read (item d rest) fault
refused_later read d rest fault x e h = record {
  index = suc h.index;
  refused = h.refused;
  there = h.there;
  fault_is = h.fault_is;
  earlier = earlier_later read d rest h.index x e h.earlier;
}

refused_here : {A : Type 0} (read : ℕ → Data → Result A ReadFault) (d : Data) (rest : Items) (fault : ReadFault) → read 0 d ≡ Err fault → IsFirstRefused read (item d rest) fault
refused_here read d rest fault e = record {
  index = 0;
  refused = d;
  there = refl;
  fault_is = e;
  earlier = λ i other lt there. absurd (omega (arith, lt));
}

first_refused : {A : Type 0} (read : ℕ → Data → Result A ReadFault) (items : Items) (fault : ReadFault) → reads read 0 items ≡ Err fault → IsFirstRefused read items fault
first_refused read no_items fault e = absurd cc
first_refused read (item d rest) fault e =
    elim (bind_err (read 0 d) (λ x. reads (next read) 0 rest >>= (λ xs. Ok (x ∷ xs))) fault (sym (reads_step read d rest) ∙ e)) [
      | inl here ↦ refused_here read d rest fault here
      | inr later ↦ refused_later read d rest fault later.0 later.1 (first_refused (next read) rest fault (others_wrong (reads (next read) 0 rest) later.0 fault later.2))
    ]

refused_at : {A : Type 0} (read : ℕ → Data → Result A ReadFault) (items : Items) (fault : ReadFault) (index : ℕ) (refused : Data)
    → get_item index items ≡ Some refused → read index refused ≡ Err fault → AreReadBefore read items index → reads read 0 items ≡ Err fault
refused_at read no_items fault index refused there e h = absurd cc
refused_at read (item d rest) fault zero refused there e h =
    let here : read 0 d ≡ Err fault = ap (read 0) (same_Some d refused there) ∙ e in
    reads_step read d rest ∙ rw here refl
refused_at read (item d rest) fault (suc index) refused there e h =
    let first = h 0 d (omega arith) refl in
    let more = refused_at (next read) rest fault index refused there e (λ i other lt. h (suc i) other (omega (arith, lt))) in
    reads_step read d rest ∙ rw (first.1, more) refl

pub slices_read : (items : Items) (slices : List Slice) → (slices_from 0 items ≡ Ok slices) ↔ AreReadAs slice_of items slices
slices_read items slices = (read_each slice_of items slices, each_read slice_of items slices)

pub slices_refused : (items : Items) (fault : ReadFault) → (slices_from 0 items ≡ Err fault) ↔ IsFirstRefused slice_of items fault
slices_refused items fault = (first_refused slice_of items fault, λ h. refused_at slice_of items fault h.index h.refused h.there h.fault_is h.earlier)

pub rules_read : (slices : List Slice) (items : Items) (rules : List Rule) → (rules_from slices 0 items ≡ Ok rules) ↔ AreReadAs (rule_of slices) items rules
rules_read slices items rules = (read_each (rule_of slices) items rules, each_read (rule_of slices) items rules)

pub rules_refused : (slices : List Slice) (items : Items) (fault : ReadFault) → (rules_from slices 0 items ≡ Err fault) ↔ IsFirstRefused (rule_of slices) items fault
rules_refused slices items fault = (first_refused (rule_of slices) items fault, λ h. refused_at (rule_of slices) items fault h.index h.refused h.there h.fault_is h.earlier)

pub swaps_read : (slices : List Slice) (items : Items) (swaps : List Swap) → (swaps_from slices 0 items ≡ Ok swaps) ↔ AreReadAs (swap_of slices) items swaps
swaps_read slices items swaps = (read_each (swap_of slices) items swaps, each_read (swap_of slices) items swaps)

pub swaps_refused : (slices : List Slice) (items : Items) (fault : ReadFault) → (swaps_from slices 0 items ≡ Err fault) ↔ IsFirstRefused (swap_of slices) items fault
swaps_refused slices items fault = (first_refused (swap_of slices) items fault, λ h. refused_at (swap_of slices) items fault h.index h.refused h.there h.fault_is h.earlier)

-- ---- where a fault stands

slice_keys : (index : ℕ) (ms : Members) → OfKeys (StandsIn keys.Slice index ms) keys.Slice (slice_section index ms)
slice_keys index ms = record {
  needed = λ key needed not_there. (refl, refl, needed, not_there);
  known = λ key known d there bad. (refl, refl, known, (d, there, bad));
  unknown = λ key least. (refl, refl, least);
}

rule_keys : (index : ℕ) (ms : Members) → OfKeys (StandsIn keys.Rule index ms) keys.Rule (rule_section index ms)
rule_keys index ms = record {
  needed = λ key needed not_there. (refl, refl, needed, not_there);
  known = λ key known d there bad. (refl, refl, known, (d, there, bad));
  unknown = λ key least. (refl, refl, least);
}

port_keys : (index : ℕ) (ms : Members) → OfKeys (StandsIn keys.Port index ms) keys.Port (port_section index ms)
port_keys index ms = record {
  needed = λ key needed not_there. (refl, refl, needed, not_there);
  known = λ key known d there bad. (refl, refl, known, (d, there, bad));
  unknown = λ key least. (refl, refl, least);
}

by_number : (index : ℕ) (ms : Members) → OfRule (StandsIn keys.Rule index ms) index ms
by_number index ms = record {
  no_slice = λ there. (refl, there);
  improper = λ field there. (refl, refl, there);
}

of_fault : (P : ReadFault → Type 0) {A : Type 0} (r : Result A ReadFault) (fault : ReadFault) → Has P r → r ≡ Err fault → P fault
of_fault P r fault h e = rw e at h

pub slice_stands : (index : ℕ) (ms : Members) (fault : ReadFault) → slice_of index (table ms) ≡ Err fault → StandsIn keys.Slice index ms fault
slice_stands index ms fault e = of_fault (StandsIn keys.Slice index ms) (slice_of index (table ms)) fault (slice_has (StandsIn keys.Slice index ms) index ms (slice_keys index ms)) e

pub rule_stands : (slices : List Slice) (index : ℕ) (ms : Members) (fault : ReadFault) → rule_of slices index (table ms) ≡ Err fault → StandsIn keys.Rule index ms fault
rule_stands slices index ms fault e =
    of_fault (StandsIn keys.Rule index ms) (rule_of slices index (table ms)) fault (rule_has (StandsIn keys.Rule index ms) slices index ms (rule_keys index ms) (by_number index ms)) e

pub swap_stands : (slices : List Slice) (index : ℕ) (ms : Members) (fault : ReadFault) → swap_of slices index (table ms) ≡ Err fault → StandsIn keys.Port index ms fault
swap_stands slices index ms fault e =
    of_fault (StandsIn keys.Port index ms) (swap_of slices index (table ms)) fault (swap_has (StandsIn keys.Port index ms) slices index ms (port_keys index ms) (λ there. (refl, there))) e
