-- The up of a connection, what was read on it, and its down.
use Rattle.std.proofs.Common.{◌≡◌, ◌⊎◌, inl, inr, ℕ, List, [], ◌∷◌, ◌++◌, refl, sym, ap, subst, ◌∙◌}
use Rattle.std.specs.Prelude.{Option, Some, None}
use Rattle.of10_ctl.specs.Streams.{frames_at, frames_of}
use Rattle.live_desk.specs.declared.object.DeskOp.{DeskOp}
use Rattle.live_desk.specs.declared.object.DeskReply.{DeskReply}
use Rattle.live_session.specs.declared.side.Side.{Side}
use Rattle.live_session.specs.declared.ends.ReaderEnd.{ReaderEnd}
use Rattle.live_session.specs.declared.ends.ReaderEnd.TheVariants.{Closed, ReadFault, Dismissed, DeskEnded, Spent, Memory}
use Rattle.live_session.specs.Stretches.{up_of, down_of, messages, cut_off, whole_stretch, DeskCall, Spot, Went, WentOne, WentOn, Tells, ReadTo, StretchOfMessages, BeginsAs, StretchBeforeDown, Finishes, EndsAs, Stretch}
use Rattle.live_session.proofs.Making.{went_on_more, stopped_more, went_on_to_more}
use Rattle.live_session.proofs.Going.{went_none, went_more, moved_none}

-- nothing was taken, since no memory was there for a piece
pub reads_nothing : (side : Side) (a : Spot) (before : Option (List ℕ)) → StretchOfMessages side a before Memory before a
reads_nothing side a before = record {
  bytes = [];
  given = [];
  calls = [];
  went = went_none a;
  moved = moved_none before;
  first = (frames_of [], refl);
  to = inl tt;
}

no_frames : [] ≡ frames_of []
unfolding frames_of frames_at
no_frames = refl

-- a source that gives nothing was read to its end
pub reads_no_bytes : (side : Side) (a : Spot) → StretchOfMessages side a (Some []) Closed (Some []) a
reads_no_bytes side a = record {
  bytes = [];
  given = [];
  calls = [];
  went = went_none a;
  moved = moved_none (Some []);
  first = (frames_of [], refl);
  to = (no_frames, tt);
}

-- not even an up
pub begins_spent : (side : Side) (a b : Spot) (before : Option (List ℕ)) → b ≡ a → a.left ≡ 0 → StretchBeforeDown side a before Spent before b
begins_spent side a b before same none = record {
  bytes = [];
  given = [];
  events = [];
  calls = [];
  went = subst (λ s. Went a [] [] s) (sym same) (went_none a);
  moved = moved_none before;
  first = (frames_of [], refl);
  begins = (inl refl, ap (λ s. s.left) same ∙ none, tt);
}

up_tells : (end : ReaderEnd) (side : Side) (op : DeskOp) (reply : DeskReply) (all : List (List ℕ)) (left : ℕ) → Tells (Some end) reply → BeginsAs end side [] all (up_of side ∷ []) (record { op = op; reply = reply } ∷ []) left
up_tells Closed side op reply all left t = absurd t
up_tells ReadFault side op reply all left t = absurd t
up_tells Dismissed side op reply all left t = (refl, ([], op, ap (λ r. record { op = op; reply = r } ∷ []) t, tt))
up_tells DeskEnded side op reply all left t = (refl, ([], op, ap (λ r. record { op = op; reply = r } ∷ []) t, tt))
up_tells Spent side op reply all left t = absurd t
up_tells Memory side op reply all left t = (refl, inr ([], record { op = op; reply = reply }, refl, tt, t))

-- the reply to the up ended it
pub begins_end : (side : Side) (a b : Spot) (before : Option (List ℕ)) (reply : DeskReply) (end : ReaderEnd) → WentOne a (up_of side) reply b → Tells (Some end) reply → StretchBeforeDown side a before end before b
begins_end side a b before reply end w t = record {
  bytes = [];
  given = [];
  events = up_of side ∷ [];
  calls = record { op = w.0; reply = reply } ∷ [];
  went = w.1;
  moved = moved_none before;
  first = (frames_of [], refl);
  begins = up_tells end side w.0 reply (frames_of []) b.left t;
}

more_calls : (end : ReaderEnd) (given all : List (List ℕ)) (xs ys : List DeskCall) (left : ℕ) → WentOn xs → ReadTo end given all ys left → ReadTo end given all (xs ++ ys) left
more_calls Closed given all xs ys left on h = (h.0, went_on_more xs ys on h.1)
more_calls ReadFault given all xs ys left on h = (h.0, went_on_more xs ys on h.1)
more_calls Dismissed given all xs ys left on h = stopped_more _ xs ys on h
more_calls DeskEnded given all xs ys left on h = stopped_more _ xs ys on h
more_calls Spent given all xs ys left on h = (h.0, went_on_more xs ys on h.1)
more_calls Memory given all xs ys left on h = went_on_to_more xs ys on h

begun_by : (end : ReaderEnd) (side : Side) (given all : List (List ℕ)) (calls : List DeskCall) (left : ℕ) → ReadTo end given all calls left → BeginsAs end side given all (cut_off side given) calls left
begun_by Closed side given all calls left h = (refl, h)
begun_by ReadFault side given all calls left h = (refl, h)
begun_by Dismissed side given all calls left h = (refl, h)
begun_by DeskEnded side given all calls left h = (refl, h)
begun_by Spent side given all calls left h = (inr refl, h.0, h.1)
begun_by Memory side given all calls left h = (refl, h)

-- after the up the messages
pub begins_reading : (side : Side) (a b c : Spot) (before after : Option (List ℕ)) (reply : DeskReply) (end : ReaderEnd) → WentOne a (up_of side) reply b → Tells None reply → StretchOfMessages side b before end after c → StretchBeforeDown side a before end after c
begins_reading side a b c before after reply end w goes r =
    let first = record { op = w.0; reply = reply } ∷ [] in
    record {
      bytes = r.bytes;
      given = r.given;
      events = cut_off side r.given;
      calls = first ++ r.calls;
      went = went_more a b c (up_of side ∷ []) (messages side r.given) first r.calls w.1 r.went;
      moved = r.moved;
      first = r.first;
      begins = begun_by end side r.given (frames_of r.bytes) (first ++ r.calls) c.left (more_calls end r.given (frames_of r.bytes) first r.calls c.left (goes, tt) r.to);
    }

-- with its down
closed_by : (side : Side) (a b c : Spot) (before after : Option (List ℕ)) (end result : ReaderEnd) (reply : DeskReply) (h : StretchBeforeDown side a before end after b) (w : WentOne b (down_of side) reply c)
    → EndsAs result side h.given (frames_of h.bytes) (h.events ++ down_of side ∷ []) (h.calls ++ record { op = w.0; reply = reply } ∷ []) c.left → Stretch side a before result after c
closed_by side a b c before after end result reply h w e = record {
  bytes = h.bytes;
  given = h.given;
  events = h.events ++ down_of side ∷ [];
  calls = h.calls ++ record { op = w.0; reply = reply } ∷ [];
  went = went_more a b c h.events (down_of side ∷ []) h.calls (record { op = w.0; reply = reply } ∷ []) h.went w.1;
  moved = h.moved;
  first = h.first;
  ends = e;
}

-- without one
left_by : (side : Side) (a b c : Spot) (before after : Option (List ℕ)) (end result : ReaderEnd) (h : StretchBeforeDown side a before end after b) → c ≡ b → EndsAs result side h.given (frames_of h.bytes) h.events h.calls b.left → Stretch side a before result after c
left_by side a b c before after end result h same e = record {
  bytes = h.bytes;
  given = h.given;
  events = h.events;
  calls = h.calls;
  went = subst (λ s. Went a h.events h.calls s) (sym same) h.went;
  moved = h.moved;
  first = h.first;
  ends = subst (λ s. EndsAs result side h.given (frames_of h.bytes) h.events h.calls s.left) (sym same) e;
}

with_down : (side : Side) (events : List _) (given : List (List ℕ)) → events ≡ cut_off side given → (events ++ down_of side ∷ []) ≡ whole_stretch side given
with_down side events given e = ap (λ l. l ++ down_of side ∷ []) e

-- how it began and how it was finished
pub stretch_of : (side : Side) (a b c : Spot) (before after : Option (List ℕ)) (end result : ReaderEnd) → StretchBeforeDown side a before end after b → Finishes side end b result c → Stretch side a before result after c
stretch_of side a b c before after Closed result h (inl f) = closed_by side a b c before after Closed result f.1.0 h f.1.1 (subst (λ r. EndsAs r side h.given (frames_of h.bytes) (h.events ++ down_of side ∷ []) (h.calls ++ record { op = f.1.1.0; reply = f.1.0 } ∷ []) c.left) (sym f.0) (with_down side h.events h.given h.begins.0, h.begins.1.0, (h.calls, record { op = f.1.1.0; reply = f.1.0 }, refl, h.begins.1.1)))
stretch_of side a b c before after Closed result h (inr f) = left_by side a b c before after Closed result h f.1 (subst (λ r. EndsAs r side h.given (frames_of h.bytes) h.events h.calls b.left) (sym f.0) (inr h.begins.0, f.2, inl h.begins.1.1))
stretch_of side a b c before after ReadFault result h (inl f) = closed_by side a b c before after ReadFault result f.1.0 h f.1.1 (subst (λ r. EndsAs r side h.given (frames_of h.bytes) (h.events ++ down_of side ∷ []) (h.calls ++ record { op = f.1.1.0; reply = f.1.0 } ∷ []) c.left) (sym f.0) (with_down side h.events h.given h.begins.0, h.begins.1.0, (h.calls, record { op = f.1.1.0; reply = f.1.0 }, refl, h.begins.1.1)))
stretch_of side a b c before after ReadFault result h (inr f) = left_by side a b c before after ReadFault result h f.1 (subst (λ r. EndsAs r side h.given (frames_of h.bytes) h.events h.calls b.left) (sym f.0) (inr h.begins.0, f.2, inl h.begins.1.1))
stretch_of side a b c before after Memory result h (inl f) = closed_by side a b c before after Memory result f.1.0 h f.1.1 (subst (λ r. EndsAs r side h.given (frames_of h.bytes) (h.events ++ down_of side ∷ []) (h.calls ++ record { op = f.1.1.0; reply = f.1.0 } ∷ []) c.left) (sym f.0) (with_down side h.events h.given h.begins.0, (h.calls, record { op = f.1.1.0; reply = f.1.0 }, refl, h.begins.1)))
stretch_of side a b c before after Memory result h (inr f) = left_by side a b c before after Memory result h f.1 (subst (λ r. EndsAs r side h.given (frames_of h.bytes) h.events h.calls b.left) (sym f.0) (inr h.begins.0, f.2, h.begins.1))
stretch_of side a b c before after Dismissed result h f = left_by side a b c before after Dismissed result h f.1 (subst (λ r. EndsAs r side h.given (frames_of h.bytes) h.events h.calls b.left) (sym f.0) h.begins)
stretch_of side a b c before after DeskEnded result h f = left_by side a b c before after DeskEnded result h f.1 (subst (λ r. EndsAs r side h.given (frames_of h.bytes) h.events h.calls b.left) (sym f.0) h.begins)
stretch_of side a b c before after Spent result h f = left_by side a b c before after Spent result h f.1 (subst (λ r. EndsAs r side h.given (frames_of h.bytes) h.events h.calls b.left) (sym f.0) (h.begins.0, h.begins.1, inl h.begins.2))

-- a finish changes the answer only to spent
pub kept_end : (side : Side) (end result : ReaderEnd) (a b : Spot) → Finishes side end a result b → (result ≡ end) ⊎ (result ≡ Spent)
kept_end side Closed result a b (inl f) = inl f.0
kept_end side Closed result a b (inr f) = inr f.0
kept_end side ReadFault result a b (inl f) = inl f.0
kept_end side ReadFault result a b (inr f) = inr f.0
kept_end side Memory result a b (inl f) = inl f.0
kept_end side Memory result a b (inr f) = inr f.0
kept_end side Dismissed result a b f = inl f.0
kept_end side DeskEnded result a b f = inl f.0
kept_end side Spent result a b f = inl f.0

not_spent_fault : Spent ≡ ReadFault → ⊥
not_spent_fault e = cc

not_spent_closed : Spent ≡ Closed → ⊥
not_spent_closed e = cc

pub was_fault : (side : Side) (end result : ReaderEnd) (a b : Spot) → Finishes side end a result b → result ≡ ReadFault → end ≡ ReadFault
was_fault side end result a b f e = elim (kept_end side end result a b f) [ inl same ↦ sym same ∙ e | inr spent ↦ absurd (not_spent_fault (sym spent ∙ e)) ]

pub was_closed : (side : Side) (end result : ReaderEnd) (a b : Spot) → Finishes side end a result b → result ≡ Closed → end ≡ Closed
was_closed side end result a b f e = elim (kept_end side end result a b f) [ inl same ↦ sym same ∙ e | inr spent ↦ absurd (not_spent_closed (sym spent ∙ e)) ]
