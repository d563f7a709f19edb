-- Turns of a desk as operations. This proxy's own rules.
use Rattle.std.specs.Prelude.{◌≡◌, List, [], ◌∷◌}
use Rattle.desk_words.specs.Operations.{Operation}
use Rattle.desk_words.specs.Operations.{Step as stepped, Take as taken}
use Rattle.turn_desk.specs.declared.view.Entry.{Entry}
use Rattle.live_desk.specs.declared.object.DeskOp.{DeskOp}
use Rattle.live_desk.specs.declared.object.DeskOp.TheVariants.{Step, Take}
use Rattle.live_desk.specs.declared.object.DeskReply.{DeskReply}
use Rattle.live_desk.specs.declared.object.DeskReply.TheVariants.{Stepped, Took}

-- what was asked in a turn and answered is this operation
abbrev pub IsOperation : DeskOp → DeskReply → Operation → Type 0
IsOperation (Step timed) (Stepped reply) operation = operation ≡ stepped timed reply
IsOperation (Take dest) (Took answer) operation = operation ≡ taken dest answer
IsOperation (Step timed) (Took answer) operation = ⊥
IsOperation (Take dest) (Stepped reply) operation = ⊥

-- these turns, the oldest first, came after some operations and make those after them, the newest first
abbrev pub Follow : List Operation → List (Entry DeskOp DeskReply) → List Operation → Type 0
Follow before [] after = after ≡ before
Follow before (turn ∷ turns) after = (operation : Operation) × IsOperation turn.op turn.reply operation × Follow (operation ∷ before) turns after

-- the operations are those of all turns
abbrev pub AreOperations : List (Entry DeskOp DeskReply) → List Operation → Type 0
AreOperations turns operations = Follow [] turns operations
