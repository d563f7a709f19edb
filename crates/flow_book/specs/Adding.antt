-- What the steps of a flow-mod do to the pairs of a book, beside what is said in Books.
use Rattle.std.specs.Prelude.{ℕ, ◌≡◌, ◌+◌, Bool, false, if◌then◌else◌, List, [], ◌++◌, length, AllPairs, All, IsPermutation, Vec, vec_len, vec_capacity}
use Rattle.std.specs.List.{list_any}
use Rattle.of10_model.specs.declared.pattern.Pattern.{Pattern}
use Rattle.flow_book.specs.declared.booked.Booked.{Booked}
use Rattle.flow_book.specs.Order.{ArePairsInOrder}
use Rattle.flow_book.specs.Books.{Book, is_pair, is_booked}

-- the pair of one match and priority asks, or doesn't; others stay
abbrev pub with_asked : Pattern → ℕ → Bool → Booked → Booked
with_asked piece priority asked b = if is_pair piece priority b then record b { asked = asked } else b

-- the pairs of these matches ask, or don't; others stay
abbrev pub again : List Pattern → ℕ → Bool → Booked → Booked
again pieces priority asked b = if list_any (λ piece. is_pair piece priority b) pieces then record b { asked = asked } else b

-- pairs, no two the same, of which none is booked
pub record AreNew (fresh booked : List Booked) : Type 0 where
  pub apart : AllPairs (λ a b. is_pair a.pattern a.priority b ≡ false) fresh
  pub absent : All (λ b. is_booked b.pattern b.priority booked ≡ false) fresh

-- fresh entries are put to their places among the others, and none is left
pub record IsSettled {Z : Type 0} (fresh : Vec Booked Z) (before : Book) (left : Vec Booked Z) (after : Book) : Type 0 where
  pub added : IsPermutation (fresh.items ++ before.booked) after.booked
  pub order : ArePairsInOrder after.booked
  pub len : length after.booked ≡ length before.booked + vec_len fresh
  pub room : after.room + vec_len fresh ≡ before.room
  pub empty : left.items ≡ []
  pub emptied : vec_len left ≡ 0
  pub fresh_capacity : vec_capacity left ≡ vec_capacity fresh
