-- Reading items one after the other, as a loop does.
use Rattle.std.proofs.Common.{List, ◌++◌, Option, option_map}

-- what was read before, and what is still read, where that has no fault of its own
abbrev pub after_front : {A : Type 0} → List A → Option (List A) → Option (List A)
after_front front read = option_map (λ rest. front ++ rest) read
