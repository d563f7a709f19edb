use Rattle.std.proofs.Common.{◌≡◌, ◌++◌, ◌≤◌, string_bytes}
use Rattle.address_text.specs.Texts.{hex_text}
use Rattle.address_text.proofs.printing.push_hex.Given as goal

abbrev pub invariant-loop-left : goal.invariant-loop-left
invariant-loop-left l = (string_bytes l.out ++ hex_text l.left l.n ≡ string_bytes l.initial.out ++ hex_text 16 l.n) × (l.left ≤ 16)

abbrev pub decreases-loop-left : goal.decreases-loop-left
decreases-loop-left l = l.left
