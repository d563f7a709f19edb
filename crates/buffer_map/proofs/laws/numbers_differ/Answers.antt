use Rattle.buffer_map.specs.Buffers.{given, held}
use Rattle.buffer_map.proofs.Places.{numbers_differ}
use Rattle.buffer_map.proofs.Calls.{IsInOrder-held}
use Rattle.buffer_map.proofs.laws.numbers_differ.Goals as goal

pub returns : goal.returns
returns c calls = numbers_differ (given calls) (held calls) (IsInOrder-held calls)
