-- What a seat asks of a desk for one connection. This proxy's own rules.
use Rattle.std.specs.Prelude.{◌≡◌, ◌⊎◌, ◌+◌, ℕ, List, [], ◌∷◌, ◌++◌, map, length, Option, Some, None, Ok, Err, Bool, true, false}
use Rattle.of10_ctl.specs.Streams.{frames_of, AreFirst, Stream, Stands}
use Rattle.fv_live.specs.Live.{WasAsked, Moved}
use Rattle.desk_words.specs.declared.event.Event.{Event}
use Rattle.desk_words.specs.declared.event.Event.TheVariants.{SwitchUp, SwitchMsg, SwitchDown, SliceUp, SliceMsg, SliceDown}
use Rattle.desk_words.specs.declared.event.Timed.{Timed}
use Rattle.desk_words.specs.declared.verdict.Verdict.TheVariants as verdict
use Rattle.desk_words.specs.Recorded.{timed_at}
use Rattle.turn_desk.specs.declared.view.Member.{Member}
use Rattle.live_desk.specs.declared.object.DeskObject.{DeskObject}
use Rattle.live_desk.specs.declared.object.DeskOp.{DeskOp}
use Rattle.live_desk.specs.declared.object.DeskOp.TheVariants.{Step}
use Rattle.live_desk.specs.declared.object.DeskReply.{DeskReply}
use Rattle.live_desk.specs.declared.object.DeskReply.TheVariants.{Stepped, Took}
use Rattle.live_session.specs.declared.side.Side.{Side}
use Rattle.live_session.specs.declared.side.Side.TheVariants.{Switch, Slice}
use Rattle.live_session.specs.declared.ends.ReaderEnd.{ReaderEnd}
use Rattle.live_session.specs.declared.ends.ReaderEnd.TheVariants.{Closed, ReadFault, Dismissed, DeskEnded, Spent, Memory}
use Rattle.live_desk.specs.Operates.{Operates}
use Rattle.turn_desk.specs.declared.object.Object.{Ghosts}
use Rattle.turn_desk.specs.declared.parts.TurnSeat.{TurnSeat}
use Rattle.turn_desk.specs.Calls.{Call, Made}
use Rattle.turn_desk.specs.Seats.{view as view_of}

-- the connection of a side came
abbrev pub up_of : Side → Event
up_of Switch = SwitchUp
up_of (Slice slot) = SliceUp slot

-- a message came on it
abbrev pub message_event : Side → List ℕ → Event
message_event Switch frame = SwitchMsg frame
message_event (Slice slot) frame = SliceMsg slot frame

-- it ended
abbrev pub down_of : Side → Event
down_of Switch = SwitchDown
down_of (Slice slot) = SliceDown slot

-- the step of an event at a timestamp
abbrev pub at_moment : Event → ℕ → DeskOp
at_moment event moment = Step (timed_at moment event)

-- the operations are the steps of these events in their order, each at the timestamp at its place
abbrev pub AreSteps : List DeskOp → List Event → List ℕ → Type 0
AreSteps ops events moments = (timed : List Timed) × (ops ≡ map Step timed) × (events ≡ map (λ t. t.event) timed) × (moments ≡ map (λ t. t.moment) timed)

-- what was asked in some calls
abbrev pub ops_of : {P R : Type 0} → List (Call P R) → List P
ops_of [] = []
ops_of (c ∷ cs) = c.op ∷ ops_of cs

-- a call of a desk
abbrev pub DeskCall : Type 0
DeskCall = Call DeskOp DeskReply

-- where a seat and a clock stand: what the seat has seen, how many calls it has left, and what the clock will answer
pub record Spot : Type 0 where
  pub view : Option (Member DeskObject DeskOp DeskReply)
  pub left : ℕ
  pub coming : Option (List ℕ)

-- where this seat and a clock with these answers stand
abbrev pub spot : {acts : Ghosts DeskObject DeskOp DeskReply} → TurnSeat DeskObject DeskOp DeskReply acts → Option (List ℕ) → Spot
spot seat coming = record { view = view_of seat; left = seat.left; coming = coming }

-- From one spot to another the seat's own new calls were these: the steps of these events in their order, the i-th at the clock's i-th answer.
pub record Went (a : Spot) (events : List Event) (calls : List DeskCall) (b : Spot) : Type 0 where
  pub moments : List ℕ
  pub made : Made Operates a.view calls b.view
  pub steps : AreSteps (ops_of calls) events moments
  pub asked : WasAsked a.coming moments b.coming
  pub fewer : b.left + length calls ≡ a.left

-- one event, which was replied so
abbrev pub WentOne : Spot → Event → DeskReply → Spot → Type 0
WentOne a event reply b = (op : DeskOp) × Went a (event ∷ []) (record { op = op; reply = reply } ∷ []) b

-- the messages of these frames
abbrev pub messages : Side → List (List ℕ) → List Event
messages side frames = map (message_event side) frames

-- each call was answered that the connection goes on
abbrev pub WentOn : List DeskCall → Type 0
WentOn [] = Unit {0}
WentOn (c ∷ cs) = (c.reply ≡ Stepped (Ok verdict.Go)) × WentOn cs

-- this holds of the calls but the last one
abbrev pub ButLast : (List DeskCall → Type 0) → List DeskCall → Type 0
ButLast holds calls = (before : List DeskCall) × (last : DeskCall) × (calls ≡ before ++ last ∷ []) × holds before

-- the last call was answered so, and each one before it that the connection goes on
abbrev pub StoppedBy : DeskReply → List DeskCall → Type 0
StoppedBy reply calls = (before : List DeskCall) × (op : DeskOp) × (calls ≡ before ++ record { op = op; reply = reply } ∷ []) × WentOn before

-- the answer was out of memory
abbrev pub IsWant : DeskReply → Type 0
IsWant (Stepped (Ok answer)) = ⊥
IsWant (Stepped (Err fault)) = Unit {0}
IsWant (Took answer) = ⊥

-- each call was answered that the connection goes on, but perhaps the last one, which then found no memory
abbrev pub WentOnTo : List DeskCall → Type 0
WentOnTo calls = WentOn calls ⊎ ((before : List DeskCall) × (last : DeskCall) × (calls ≡ before ++ last ∷ []) × WentOn before × IsWant last.reply)

-- How a connection's part without its up and its down ended: all frames were handed on, or the first reply that doesn't let the connection go on ended it, or memory or the calls ran out.
abbrev pub ReadTo : ReaderEnd → List (List ℕ) → List (List ℕ) → List DeskCall → ℕ → Type 0
ReadTo Closed given all calls left = (given ≡ all) × WentOn calls
ReadTo ReadFault given all calls left = (given ≡ all) × WentOn calls
ReadTo Dismissed given all calls left = StoppedBy (Stepped (Ok verdict.Close)) calls
ReadTo DeskEnded given all calls left = StoppedBy (Stepped (Ok verdict.Ended)) calls
ReadTo Spent given all calls left = (left ≡ 0) × WentOn calls
ReadTo Memory given all calls left = WentOnTo calls

-- the messages between the up and the down: those of the first frames of the bytes that were taken
pub record StretchOfMessages (side : Side) (a : Spot) (before : Option (List ℕ)) (end : ReaderEnd) (after : Option (List ℕ)) (b : Spot) : Type 0 where
  pub bytes : List ℕ
  pub given : List (List ℕ)
  pub calls : List DeskCall
  pub went : Went a (messages side given) calls b
  pub moved : Moved before bytes after
  pub first : AreFirst given (frames_of bytes)
  pub to : ReadTo end given (frames_of bytes) calls b.left

-- the frames of what a framer was fed were handed on, to the end or to where the connection ended
abbrev pub HandedTo : Option ReaderEnd → Stream → List ℕ → List (List ℕ) → List DeskCall → ℕ → Type 0
HandedTo None framer fed given calls left = Stands framer fed given × (given ≡ frames_of fed) × WentOn calls
HandedTo (Some Closed) framer fed given calls left = ⊥
HandedTo (Some ReadFault) framer fed given calls left = ⊥
HandedTo (Some end) framer fed given calls left = ReadTo end given (frames_of fed) calls left

-- what a reply says of how a connection goes on
abbrev pub Tells : Option ReaderEnd → DeskReply → Type 0
Tells (Some Dismissed) reply = reply ≡ Stepped (Ok verdict.Close)
Tells (Some DeskEnded) reply = reply ≡ Stepped (Ok verdict.Ended)
Tells (Some Closed) reply = ⊥
Tells (Some ReadFault) reply = ⊥
Tells (Some Spent) reply = ⊥
Tells (Some Memory) reply = IsWant reply
Tells None reply = reply ≡ Stepped (Ok verdict.Go)

-- up, messages, down
abbrev pub whole_stretch : Side → List (List ℕ) → List Event
whole_stretch side frames = up_of side ∷ (messages side frames ++ down_of side ∷ [])

-- the same without the down
abbrev pub cut_off : Side → List (List ℕ) → List Event
cut_off side frames = up_of side ∷ messages side frames

-- how a connection without its down ended
abbrev pub BeginsAs : ReaderEnd → Side → List (List ℕ) → List (List ℕ) → List Event → List DeskCall → ℕ → Type 0
BeginsAs Spent side given all events calls left = ((events ≡ []) ⊎ (events ≡ cut_off side given)) × (left ≡ 0) × WentOn calls
BeginsAs end side given all events calls left = (events ≡ cut_off side given) × ReadTo end given all calls left

-- one connection without its down
pub record StretchBeforeDown (side : Side) (a : Spot) (before : Option (List ℕ)) (end : ReaderEnd) (after : Option (List ℕ)) (b : Spot) : Type 0 where
  pub bytes : List ℕ
  pub given : List (List ℕ)
  pub events : List Event
  pub calls : List DeskCall
  pub went : Went a events calls b
  pub moved : Moved before bytes after
  pub first : AreFirst given (frames_of bytes)
  pub begins : BeginsAs end side given (frames_of bytes) events calls b.left

-- a connection that ended so has a down
abbrev pub has_down : ReaderEnd → Bool
has_down Closed = true
has_down ReadFault = true
has_down Memory = true
has_down Dismissed = false
has_down DeskEnded = false
has_down Spent = false

-- the one call was the down
abbrev pub GoesDown : Side → Spot → Spot → Type 0
GoesDown side a b = (reply : DeskReply) × WentOne a (down_of side) reply b

abbrev pub FinishesBy : Bool → Side → ReaderEnd → Spot → ReaderEnd → Spot → Type 0
FinishesBy true side end a result b = ((result ≡ end) × GoesDown side a b) ⊎ ((result ≡ Spent) × (b ≡ a) × (a.left ≡ 0))
FinishesBy false side end a result b = (result ≡ end) × (b ≡ a)

-- the down of a connection that ended so, if it has one; it is missing where no calls are left
abbrev pub Finishes : Side → ReaderEnd → Spot → ReaderEnd → Spot → Type 0
Finishes side end a result b = FinishesBy (has_down end) side end a result b

-- How a stretch ended. The first frames were handed on, all of them at the end of the source and at its fault, and none behind a reply that doesn't let the connection go on. The down is missing where the last reply ended the connection, and may be missing where no calls are left.
abbrev pub EndsAs : ReaderEnd → Side → List (List ℕ) → List (List ℕ) → List Event → List DeskCall → ℕ → Type 0
EndsAs Closed side given all events calls left = (events ≡ whole_stretch side given) × (given ≡ all) × ButLast WentOn calls
EndsAs ReadFault side given all events calls left = (events ≡ whole_stretch side given) × (given ≡ all) × ButLast WentOn calls
EndsAs Dismissed side given all events calls left = (events ≡ cut_off side given) × StoppedBy (Stepped (Ok verdict.Close)) calls
EndsAs DeskEnded side given all events calls left = (events ≡ cut_off side given) × StoppedBy (Stepped (Ok verdict.Ended)) calls
EndsAs Spent side given all events calls left = ((events ≡ []) ⊎ (events ≡ cut_off side given)) × (left ≡ 0) × WentOnTo calls
EndsAs Memory side given all events calls left = (events ≡ whole_stretch side given) × ButLast WentOnTo calls

-- one connection: the seat's own new calls, by what was taken from the source, in which order and at which timestamps
pub record Stretch (side : Side) (a : Spot) (before : Option (List ℕ)) (end : ReaderEnd) (after : Option (List ℕ)) (b : Spot) : Type 0 where
  pub bytes : List ℕ
  pub given : List (List ℕ)
  pub events : List Event
  pub calls : List DeskCall
  pub went : Went a events calls b
  pub moved : Moved before bytes after
  pub first : AreFirst given (frames_of bytes)
  pub ends : EndsAs end side given (frames_of bytes) events calls b.left
