-- The order of the book: what a search finds, and what stays in order.
use Rattle.std.proofs.Common.{ℕ, List}
use Rattle.std.specs.declared.cmp.Ordering.{Ordering}
use Rattle.std.specs.Ordering.{nat_cmp, ordering_then}
use Rattle.std.specs.Cmp.{IsTotalOrder}
use Rattle.std.specs.Cmp.Lexicographic.{slice_cmp}
use Rattle.std.proofs.lemmas.Cmp.{nat_cmp_total, nat_list_cmp_total, on_total, then_total}
use Rattle.of10_model.specs.Spelling.{Spell}
use Rattle.flow_book.specs.declared.booked.Booked.{Booked}

-- what pairs are ordered by
abbrev pub Key : Type 0
Key = ℕ × List ℕ

abbrev pub key_of : Booked → Key
key_of b = (b.priority, Spell b.pattern)

abbrev pub key_cmp : Key → Key → Ordering
key_cmp a b = ordering_then (nat_cmp a.0 b.0) (slice_cmp nat_cmp a.1 b.1)

pub key_cmp_total : IsTotalOrder key_cmp
key_cmp_total = then_total (on_total (λ (k : Key). k.0) nat_cmp_total) (on_total (λ (k : Key). k.1) nat_list_cmp_total)
