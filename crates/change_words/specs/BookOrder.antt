-- Booked pairs in a book's order, as a function of what is booked. It is this proxy's own rule.
use Rattle.std.specs.Prelude.{if◌then◌else◌, List, [], ◌∷◌}
use Rattle.std.specs.Ordering.{is_lt}
use Rattle.flow_book.specs.declared.booked.Booked.{Booked}
use Rattle.flow_book.specs.Order.{order}

-- a pair that is put among others goes before the first that stands above it
unfoldable pub put_among : Booked → List Booked → List Booked
put_among b [] = b ∷ []
put_among b (next ∷ rest) = if is_lt (order b next) then b ∷ (next ∷ rest) else next ∷ put_among b rest

-- the pairs one after another put among those behind them
unfoldable pub in_book_order : List Booked → List Booked
in_book_order [] = []
in_book_order (b ∷ rest) = put_among b (in_book_order rest)
