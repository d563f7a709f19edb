-- Turns of a desk, one after another.
use Rattle.std.proofs.Common.{◌≡◌, List, [], ◌∷◌, refl, sym, subst}
use Rattle.flowspace.specs.Policies.{PolicyView}
use Rattle.desk_words.specs.Operations.{Operation}
use Rattle.desk_words.specs.Operations.{Step as stepped, Take as taken, IsLegal}
use Rattle.proxy_core.specs.Desks.{DeskStands}
use Rattle.turn_desk.specs.declared.view.Entry.{Entry}
use Rattle.turn_desk.specs.Histories.{Runs}
use Rattle.live_desk.specs.declared.object.DeskObject.{DeskObject}
use Rattle.live_desk.specs.declared.object.DeskOp.{DeskOp}
use Rattle.live_desk.specs.declared.object.DeskOp.TheVariants.{Step, Take}
use Rattle.live_desk.specs.declared.object.DeskReply.{DeskReply}
use Rattle.live_desk.specs.declared.object.DeskReply.TheVariants.{Stepped, Took}
use Rattle.live_desk.specs.Operates.{Operates}
use Rattle.live_desk.specs.Turns.{IsOperation, Follow}

-- a turn is a right operation, and the desk stands for it
one_turn : (policy : PolicyView) (before : List Operation) (old new : DeskObject) (op : DeskOp) (reply : DeskReply) → DeskStands policy before old.desk → IsLegal policy before → Operates old op reply new
    → (operation : Operation) × IsOperation op reply operation × IsLegal policy (operation ∷ before) × DeskStands policy (operation ∷ before) new.desk
one_turn policy before old new (Step timed) (Stepped reply) stands legal acts = let k = acts policy before stands in (stepped timed reply, refl, (k.right, legal), k.stands)
one_turn policy before old new (Take dest) (Took answer) stands legal acts = let k = acts policy before stands in (taken dest answer, refl, (k.right, legal), k.stands)
one_turn policy before old new (Step timed) (Took answer) stands legal acts = absurd acts
one_turn policy before old new (Take dest) (Stepped reply) stands legal acts = absurd acts

-- turns make a legal history of the legal history before them
pub all_turns : (policy : PolicyView) (before : List Operation) (first last : DeskObject) (turns : List (Entry DeskOp DeskReply)) → DeskStands policy before first.desk → IsLegal policy before → Runs Operates first turns last
    → (after : List Operation) × Follow before turns after × IsLegal policy after × DeskStands policy after last.desk
all_turns policy before first last [] stands legal runs = (before, refl, legal, subst (λ x. DeskStands policy before x.desk) runs stands)
all_turns policy before first last (turn ∷ turns) stands legal runs =
    let one = one_turn policy before first runs.0 turn.op turn.reply stands legal runs.1 in
    let more = all_turns policy (one.0 ∷ before) runs.0 last turns one.3 one.2 runs.2 in
    (more.0, (one.0, one.1, more.1), more.2, more.3)
