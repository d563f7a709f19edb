-- Pieces that are taken one after another.
use Rattle.std.proofs.Common.{◌≡◌, inl, ℕ, List, [], ◌++◌, refl, sym, subst}
use Rattle.std.specs.Prelude.{Option, Some, None, if◌then◌else◌}
use Rattle.std.proofs.lemmas.List.{map-append}
use Rattle.of10_ctl.specs.Streams.{frames_at, frames_of, Stream, Stands}
use Rattle.fv_live.specs.Live.{Moved}
use Rattle.live_session.specs.declared.side.Side.{Side}
use Rattle.live_session.specs.declared.ends.ReaderEnd.{ReaderEnd}
use Rattle.live_session.specs.declared.ends.ReaderEnd.TheVariants.{Closed, ReadFault, Dismissed, DeskEnded, Spent, Memory}
use Rattle.live_session.specs.Stretches.{message_event, messages, DeskCall, Spot, Went, WentOn, HandedTo, ReadTo, StretchOfMessages}
use Rattle.live_session.proofs.Making.{went_on_more, stopped_more, went_on_to_more}
use Rattle.live_session.proofs.Going.{went_none, went_more, moved_none, moved_more}
use Rattle.live_session.proofs.Handing.{HandsTo}

-- all frames of what was taken were handed on
abbrev pub Takes : Side → Spot → Option (List ℕ) → Stream → Option (List ℕ) → Spot → Type 0
Takes side a before framer after b = (bytes : List ℕ) × (calls : List DeskCall) × Stands framer bytes (frames_of bytes) × Moved before bytes after × Went a (messages side (frames_of bytes)) calls b × WentOn calls

no_frames : frames_of [] ≡ []
unfolding frames_of frames_at
no_frames = refl

pub takes_none : (side : Side) (a : Spot) (before : Option (List ℕ)) (framer : Stream) → Stands framer [] [] → Takes side a before framer before a
takes_none side a before framer stands = ([], [], subst (λ g. Stands framer [] g) (sym no_frames) stands, moved_none before, subst (λ g. Went a (messages side g) [] a) (sym no_frames) (went_none a), tt)

-- memory ran out for a piece
pub takes_memory : (side : Side) (a b : Spot) (before mid after : Option (List ℕ)) (framer : Stream) (piece : List ℕ) → (h : Takes side a before framer mid b) → Moved mid piece after → StretchOfMessages side a before Memory after b
takes_memory side a b before mid after framer piece h m = record {
  bytes = h.0 ++ piece;
  given = frames_of h.0;
  calls = h.1;
  went = h.4;
  moved = moved_more before h.0 piece mid after h.3 m;
  first = (if framer.ended then [] else frames_of (framer.left ++ piece), sym (h.2.frames piece));
  to = inl h.5;
}

-- messages of more frames
went_messages : (side : Side) (a b c : Spot) (frames more : List (List ℕ)) (xs ys : List DeskCall) → Went a (messages side frames) xs b → Went b (messages side more) ys c → Went a (messages side (frames ++ more)) (xs ++ ys) c
went_messages side a b c frames more xs ys h k =
    subst (λ events. Went a events (xs ++ ys) c) (sym (map-append (message_event side) frames more)) (went_more a b c (messages side frames) (messages side more) xs ys h k)

-- the frames of one piece more were handed on
pub takes_more : (side : Side) (a b c : Spot) (before mid after : Option (List ℕ)) (framer next : Stream) (piece : List ℕ) → (h : Takes side a before framer mid b) → Moved mid piece after → HandsTo side b (h.0 ++ piece) (frames_of h.0) next None c → Takes side a before next after c
takes_more side a b c before mid after framer next piece h m k = (
  h.0 ++ piece,
  h.1 ++ k.1,
  subst (λ g. Stands next (h.0 ++ piece) g) k.4.1 k.4.0,
  moved_more before h.0 piece mid after h.3 m,
  subst (λ g. Went a (messages side g) (h.1 ++ k.1) c) k.4.1 (went_messages side a b c (frames_of h.0) k.0 h.1 k.1 h.4 k.2),
  went_on_more h.1 k.1 h.5 k.4.2,
)

ended_so : (end : ReaderEnd) (framer : Stream) (fed : List ℕ) (given : List (List ℕ)) (xs ys : List DeskCall) (left : ℕ) → WentOn xs → HandedTo (Some end) framer fed given ys left → ReadTo end given (frames_of fed) (xs ++ ys) left
ended_so Closed framer fed given xs ys left on h = absurd h
ended_so ReadFault framer fed given xs ys left on h = absurd h
ended_so Dismissed framer fed given xs ys left on h = stopped_more _ xs ys on h
ended_so DeskEnded framer fed given xs ys left on h = stopped_more _ xs ys on h
ended_so Spent framer fed given xs ys left on h = (h.0, went_on_more xs ys on h.1)
ended_so Memory framer fed given xs ys left on h = went_on_to_more xs ys on h

-- the connection ended among the frames of a piece
pub takes_end : (side : Side) (a b c : Spot) (before mid after : Option (List ℕ)) (framer next : Stream) (piece : List ℕ) (end : ReaderEnd) → (h : Takes side a before framer mid b) → Moved mid piece after → HandsTo side b (h.0 ++ piece) (frames_of h.0) next (Some end) c → StretchOfMessages side a before end after c
takes_end side a b c before mid after framer next piece end h m k = record {
  bytes = h.0 ++ piece;
  given = frames_of h.0 ++ k.0;
  calls = h.1 ++ k.1;
  went = went_messages side a b c (frames_of h.0) k.0 h.1 k.1 h.4 k.2;
  moved = moved_more before h.0 piece mid after h.3 m;
  first = k.3;
  to = ended_so end next (h.0 ++ piece) (frames_of h.0 ++ k.0) h.1 k.1 c.left h.5 k.4;
}

-- frames that are handed on end no source
pub not_at_end : (side : Side) (a b : Spot) (framer : Stream) (fed : List ℕ) (given : List (List ℕ)) (end : ReaderEnd) → HandsTo side a fed given framer (Some end) b → end ≡ Closed → ⊥
not_at_end side a b framer fed given end k e = subst (λ x. HandedTo (Some x) framer fed (given ++ k.0) k.1 b.left) e k.4

pub not_at_fault : (side : Side) (a b : Spot) (framer : Stream) (fed : List ℕ) (given : List (List ℕ)) (end : ReaderEnd) → HandsTo side a fed given framer (Some end) b → end ≡ ReadFault → ⊥
not_at_fault side a b framer fed given end k e = subst (λ x. HandedTo (Some x) framer fed (given ++ k.0) k.1 b.left) e k.4
