-- The steps of a reading that did not fail.
use Rattle.std.proofs.Common.{◌≡◌, ℕ, pos, negsuc, true, List, Option, Some, None, IfSome, Ok, ap, subst}
use Rattle.std.proofs.lemmas.Option.{cond_some}
use Rattle.toml.specs.Data.{Data, string, integer, float, boolean, datetime, array, table, get_member}
use Rattle.policy_text.specs.declared.fault.Place.{Place}
use Rattle.policy_text.specs.declared.values.Numbers.{Numbers}
use Rattle.policy_text.specs.declared.values.Texts.{Texts}
use Rattle.of10_model.proofs.Results.{bind_ok, ok_is}
use Rattle.policy_text.specs.Reading.{SectionView, key_place, value_formed, demanded, allowed, required, optional, is_allowed_number, number, is_text, text}

pub formed_some : {A : Type 0} (at : Place) (o : Option A) (x : A) → value_formed at o ≡ Ok x → o ≡ Some x
formed_some at None x e = absurd cc
formed_some at (Some y) x e = ap Some (ok_is y x e)

-- what read makes of any value holds of what stands under a key
allowed_holds : {A : Type 0} (P : A → Type 0) (read : Data → Option A) → ((d : Data) (x : A) → read d ≡ Some x → P x) → (at : Place) (o : Option Data) (y : Option A) → allowed read at o ≡ Ok y → IfSome y P
allowed_holds P read h at None y e = subst (λ z. IfSome z P) (ok_is None y e) tt
allowed_holds P read h at (Some d) y e =
    let a = bind_ok (value_formed at (read d)) (λ x. Ok (Some x)) y e in
    subst (λ z. IfSome z P) (ok_is (Some a.0) y a.2) (h d a.0 (formed_some at (read d) a.0 a.1))

pub optional_holds : {A : Type 0} (P : A → Type 0) (read : Data → Option A) → ((d : Data) (x : A) → read d ≡ Some x → P x) → (this : SectionView) (key : List ℕ) (y : Option A) → optional read this key ≡ Ok y → IfSome y P
optional_holds P read h this key y e = allowed_holds P read h (key_place this key) (get_member key this.members) y e

demanded_holds : {A : Type 0} (P : A → Type 0) (read : Data → Option A) → ((d : Data) (x : A) → read d ≡ Some x → P x) → (at : Place) (o : Option Data) (y : A) → demanded read at o ≡ Ok y → P y
demanded_holds P read h at None y e = absurd cc
demanded_holds P read h at (Some d) y e = h d y (formed_some at (read d) y e)

pub required_holds : {A : Type 0} (P : A → Type 0) (read : Data → Option A) → ((d : Data) (x : A) → read d ≡ Some x → P x) → (this : SectionView) (key : List ℕ) (y : A) → required read this key ≡ Ok y → P y
required_holds P read h this key y e = demanded_holds P read h (key_place this key) (get_member key this.members) y e

-- the numbers and the texts that are read
pub number_is : (numbers : Numbers) (d : Data) (n : ℕ) → number numbers d ≡ Some n → is_allowed_number numbers n ≡ true
number_is numbers (integer (pos x)) n e =
    let w = cond_some (is_allowed_number numbers x) x n e in
    subst (λ y. is_allowed_number numbers y ≡ true) w.1 w.0
number_is numbers (integer (negsuc x)) n e = absurd cc
number_is numbers (string x) n e = absurd cc
number_is numbers (float x) n e = absurd cc
number_is numbers (boolean x) n e = absurd cc
number_is numbers (datetime x) n e = absurd cc
number_is numbers (array x) n e = absurd cc
number_is numbers (table x) n e = absurd cc

pub text_is : (texts : Texts) (d : Data) (s : List ℕ) → text texts d ≡ Some s → is_text texts s ≡ true
text_is texts (string x) s e =
    let w = cond_some (is_text texts x) x s e in
    subst (λ y. is_text texts y ≡ true) w.1 w.0
text_is texts (integer x) s e = absurd cc
text_is texts (float x) s e = absurd cc
text_is texts (boolean x) s e = absurd cc
text_is texts (datetime x) s e = absurd cc
text_is texts (array x) s e = absurd cc
text_is texts (table x) s e = absurd cc
