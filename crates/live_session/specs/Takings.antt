-- What a seat takes of a desk for one destination, and what of it is written. This proxy's own rules.
use Rattle.std.specs.Prelude.{◌≡◌, ◌+◌, ℕ, List, [], ◌∷◌, ◌++◌, length, Option, unwrap_or}
use Rattle.fv_base.specs.Told.{appended, IsBeginning}
use Rattle.desk_words.specs.declared.dest.Dest.{Dest}
use Rattle.desk_words.specs.declared.taken.Taken.{Taken}
use Rattle.desk_words.specs.declared.taken.Taken.TheVariants as taken
use Rattle.desk_words.specs.Operations.{message_taken}
use Rattle.turn_desk.specs.declared.view.Member.{Member}
use Rattle.live_desk.specs.declared.object.DeskObject.{DeskObject}
use Rattle.live_desk.specs.declared.object.DeskOp.{DeskOp}
use Rattle.live_desk.specs.declared.object.DeskOp.TheVariants.{Take}
use Rattle.live_desk.specs.declared.object.DeskReply.{DeskReply}
use Rattle.live_desk.specs.declared.object.DeskReply.TheVariants.{Stepped, Took}
use Rattle.live_session.specs.declared.ends.WriterEnd.{WriterEnd}
use Rattle.live_session.specs.declared.ends.WriterEnd.TheVariants.{WriteFault, Choked, Ended, Spent}
use Rattle.live_session.specs.declared.writer.Pause.{Pause}
use Rattle.live_session.specs.declared.writer.Pause.TheVariants.{Hand, Over}
use Rattle.live_desk.specs.Operates.{Operates}
use Rattle.turn_desk.specs.Calls.{LastReply, Made}
use Rattle.live_session.specs.Stretches.{DeskCall}

-- what a seat knows
abbrev pub View : Type 0
View = Option (Member DeskObject DeskOp DeskReply)

-- the message that a take gave
abbrev pub given_by : Taken → List ℕ
given_by answer = unwrap_or (message_taken answer) []

-- the message that a reply gave
abbrev pub message_replied : DeskReply → List ℕ
message_replied (Took answer) = given_by answer
message_replied (Stepped reply) = []

-- the messages that the calls gave, joined
abbrev pub joined_messages : List DeskCall → List ℕ
joined_messages [] = []
joined_messages (c ∷ cs) = message_replied c.reply ++ joined_messages cs

-- the calls are takes for this destination
abbrev pub AreTakes : Dest → List DeskCall → Type 0
AreTakes dest [] = Unit {0}
AreTakes dest (c ∷ cs) = (c.op ≡ Take dest) × AreTakes dest cs

-- the seat's own new calls are these takes for the destination
pub record Taking (dest : Dest) (v : View) (left : ℕ) (calls : List DeskCall) (w : View) (left' : ℕ) : Type 0 where
  pub made : Made Operates v calls w
  pub takes : AreTakes dest calls
  pub fewer : left' + length calls ≡ left

-- one take, answered so
abbrev pub TookOne : Dest → View → ℕ → Taken → View → ℕ → Type 0
TookOne dest v left answer w left' = Taking dest v left (record { op = Take dest; reply = Took answer } ∷ []) w left'

-- the message that didn't fit
abbrev pub in_hand : Pause → List ℕ
in_hand (Hand frame) = frame
in_hand other = []

-- how takes ended, if they did
abbrev pub OverBy : WriterEnd → List DeskCall → ℕ → Type 0
OverBy WriteFault calls left = Unit {0}
OverBy Choked calls left = LastReply (Took taken.Choked) calls
OverBy Ended calls left = LastReply (Took taken.Ended) calls
OverBy Spent calls left = left ≡ 0

-- why takes paused, where they ended with it
abbrev pub PausedBy : Pause → List DeskCall → ℕ → Type 0
PausedBy (Over WriteFault) calls left = ⊥
PausedBy (Over end) calls left = OverBy end calls left
PausedBy other calls left = Unit {0}

-- messages were taken and put behind the bytes of a buffer, all but the one that didn't fit
pub record Gathers (dest : Dest) (v : View) (left : ℕ) (before : List ℕ) (pause : Pause) (w : View) (left' : ℕ) (after : List ℕ) : Type 0 where
  pub calls : List DeskCall
  pub took : Taking dest v left calls w left'
  pub bytes : (after ++ in_hand pause) ≡ before ++ joined_messages calls
  pub paused : PausedBy pause calls left'

-- what was written, by how it ended: the messages of the takes joined, or the first bytes of that after a fault of the sink
abbrev pub WrittenBy : WriterEnd → List ℕ → List DeskCall → ℕ → Type 0
WrittenBy WriteFault piece calls left = IsBeginning piece (joined_messages calls)
WrittenBy end piece calls left = (piece ≡ joined_messages calls) × OverBy end calls left

-- the seat's own new calls are takes, and the bytes put are the messages that they gave
pub record Written (dest : Dest) (v : View) (left : ℕ) (before : Option (List ℕ)) (end : WriterEnd) (after : Option (List ℕ)) (w : View) (left' : ℕ) : Type 0 where
  pub calls : List DeskCall
  pub piece : List ℕ
  pub took : Taking dest v left calls w left'
  pub put : after ≡ appended before piece
  pub written : WrittenBy end piece calls left'
