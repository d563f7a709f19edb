use Rattle.std.proofs.Common.{◌≡◌, ◌<◌, ◌^◌, drop}
use Rattle.address_text.specs.Addresses.{hex_after}
use Rattle.address_text.proofs.reading.hex_number.Given as goal

abbrev pub invariant-loop-c : goal.invariant-loop-c
invariant-loop-c l = (hex_after l.number (drop l.c-index l.text) ≡ hex_after 0 l.text) × (l.number < 16 ^ l.c-index)
