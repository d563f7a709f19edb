-- What holds of each table of an array, as it is read, holds of the items.
use Rattle.std.proofs.Common.{◌≡◌, ℕ, suc, List, [], ◌∷◌, Result, Ok, Err, subst}
use Rattle.std.specs.List.{AllByRecursion}
use Rattle.toml.specs.Data.{Data, string, integer, float, boolean, datetime, array, table, Items, no_items, item, Members}
use Rattle.policy_text.specs.declared.fault.Part.TheVariants.{Top}
use Rattle.policy_text.specs.declared.fault.ReadFault.{ReadFault}
use Rattle.policy_text.specs.declared.fault.ReadFault.TheVariants.{BadValue}
use Rattle.of10_model.proofs.Results.{bind_ok, ok_is}
use Rattle.policy_text.specs.Reading.{as_table, reads}
use Rattle.policy_text.proofs.Faults.{Has, bind_has}

-- what holds of each table as it is read, and of the fault of another item, holds of an item
pub of_tables : {A : Type 0} (P : Result A ReadFault → Type 0) (read : Members → Result A ReadFault) (key : List ℕ) → ((ms : Members) → P (read ms))
    → P (Err (BadValue (record { part = Top; index = 0; key = key }))) → (d : Data) → P (as_table read key d)
of_tables P read key each other (table ms) = each ms
of_tables P read key each other (string x) = other
of_tables P read key each other (integer x) = other
of_tables P read key each other (float x) = other
of_tables P read key each other (boolean x) = other
of_tables P read key each other (datetime x) = other
of_tables P read key each other (array x) = other

pub reads_sound : {A : Type 0} (P : A → Type 0) (read : ℕ → Data → Result A ReadFault) → ((index : ℕ) (d : Data) (x : A) → read index d ≡ Ok x → P x)
    → (index : ℕ) (ds : Items) (xs : List A) → reads read index ds ≡ Ok xs → AllByRecursion P xs
reads_sound P read each index no_items xs e = subst (AllByRecursion P) (ok_is [] xs e) tt
reads_sound P read each index (item d ds) xs e =
    let a = bind_ok (read index d) _ xs e in
    let b = bind_ok (reads read (suc index) ds) _ xs a.2 in
    subst (AllByRecursion P) (ok_is (a.0 ∷ b.0) xs b.2) (each index d a.0 a.1, reads_sound P read each (suc index) ds b.0 b.1)

pub reads_has : {A : Type 0} (P : ReadFault → Type 0) (read : ℕ → Data → Result A ReadFault) → ((index : ℕ) (d : Data) → Has P (read index d)) → (index : ℕ) (ds : Items) → Has P (reads read index ds)
reads_has P read each index no_items = tt
reads_has P read each index (item d ds) = bind_has P (read index d) _ (each index d) (λ _. bind_has P (reads read (suc index) ds) _ (reads_has P read each (suc index) ds) (λ _. tt))
