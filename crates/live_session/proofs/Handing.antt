-- Frames that are handed on one after another.
use Rattle.std.proofs.Common.{◌≡◌, inl, inr, ℕ, true, cond, List, [], ◌∷◌, ◌++◌, refl, sym, ap, subst, ◌∙◌, append_assoc, append-nil}
use Rattle.std.specs.Prelude.{Option, Some, None}
use Rattle.std.proofs.lemmas.List.{map-append}
use Rattle.of10_ctl.specs.declared.framer.Next.TheVariants.{NeedMore, Ended}
use Rattle.of10_ctl.specs.Streams.{frames_of, AreFirst, next_answer, Stream, Stands}
use Rattle.of10_ctl.proofs.Standing.{frames_fed}
use Rattle.of10_ctl.proofs.Answering.{given_first, need_more_exact, ended_exact}
use Rattle.live_desk.specs.declared.object.DeskOp.{DeskOp}
use Rattle.live_desk.specs.declared.object.DeskReply.{DeskReply}
use Rattle.live_session.specs.declared.side.Side.{Side}
use Rattle.live_session.specs.declared.ends.ReaderEnd.{ReaderEnd}
use Rattle.live_session.specs.declared.ends.ReaderEnd.TheVariants.{Closed, ReadFault, Dismissed, DeskEnded, Spent, Memory}
use Rattle.live_session.specs.Stretches.{message_event, messages, DeskCall, Spot, Went, WentOne, WentOn, Tells, HandedTo}
use Rattle.live_session.proofs.Making.{went_on_more}
use Rattle.live_session.proofs.Going.{went_none, went_more}

-- some frames were handed on, the framer stands for them, and the connection goes on
abbrev pub Hands : Side → Spot → List ℕ → List (List ℕ) → Stream → Spot → Type 0
Hands side a fed given framer b = (more : List (List ℕ)) × (calls : List DeskCall) × Stands framer fed (given ++ more) × Went a (messages side more) calls b × WentOn calls

-- some frames were handed on, and then it ended
abbrev pub HandsTo : Side → Spot → List ℕ → List (List ℕ) → Stream → Option ReaderEnd → Spot → Type 0
HandsTo side a fed given framer end b = (more : List (List ℕ)) × (calls : List DeskCall) × Went a (messages side more) calls b × AreFirst (given ++ more) (frames_of fed) × HandedTo end framer fed (given ++ more) calls b.left

pub hands_none : (side : Side) (a : Spot) (framer : Stream) (fed : List ℕ) (given : List (List ℕ)) → Stands framer fed given → Hands side a fed given framer a
hands_none side a framer fed given stands = ([], [], subst (λ g. Stands framer fed g) (sym (append-nil given)) stands, went_none a, tt)

-- a message of one frame more
went_message : (side : Side) (a b c : Spot) (frames : List (List ℕ)) (frame : List ℕ) (calls : List DeskCall) (reply : DeskReply) → Went a (messages side frames) calls b → (h : WentOne b (message_event side frame) reply c) → Went a (messages side (frames ++ frame ∷ [])) (calls ++ record { op = h.0; reply = reply } ∷ []) c
went_message side a b c frames frame calls reply w h =
    let both = went_more a b c (messages side frames) (message_event side frame ∷ []) calls (record { op = h.0; reply = reply } ∷ []) w h.1 in
    subst (λ events. Went a events (calls ++ record { op = h.0; reply = reply } ∷ []) c) (sym (map-append (message_event side) frames (frame ∷ []))) both

pub hands_more : (side : Side) (a b c : Spot) (framer next : Stream) (fed : List ℕ) (given : List (List ℕ)) (frame : List ℕ) (reply : DeskReply) → (h : Hands side a fed given framer b) → Stands next fed ((given ++ h.0) ++ frame ∷ []) → WentOne b (message_event side frame) reply c → Tells None reply → Hands side a fed given next c
hands_more side a b c framer next fed given frame reply h stands w goes = (
  h.0 ++ frame ∷ [],
  h.1 ++ record { op = w.0; reply = reply } ∷ [],
  subst (λ g. Stands next fed g) (append_assoc given h.0 (frame ∷ [])) stands,
  went_message side a b c h.0 frame h.1 reply h.3 w,
  went_on_more h.1 (record { op = w.0; reply = reply } ∷ []) h.4 (goes, tt),
)

-- all frames were handed on
pub hands_all : (side : Side) (a b : Spot) (framer next : Stream) (fed : List ℕ) (given : List (List ℕ)) → (h : Hands side a fed given framer b) → NeedMore ≡ next_answer fed (given ++ h.0) → Stands next fed ((given ++ h.0) ++ []) → HandsTo side a fed given next None b
hands_all side a b framer next fed given h is stands =
    (h.0, h.1, h.3, given_first framer fed (given ++ h.0) h.2, (subst (λ g. Stands next fed g) (append-nil (given ++ h.0)) stands, ((need_more_exact framer fed (given ++ h.0) h.2).0 (sym is)).0, h.4))

-- all frames were handed on, and none will follow
pub hands_last : (side : Side) (a b : Spot) (framer next : Stream) (fed : List ℕ) (given : List (List ℕ)) → (h : Hands side a fed given framer b) → Ended ≡ next_answer fed (given ++ h.0) → Stands next fed ((given ++ h.0) ++ []) → HandsTo side a fed given next None b
hands_last side a b framer next fed given h is stands =
    let bad = (ended_exact framer fed (given ++ h.0) h.2).0 (sym is) in
    let over : framer.ended ≡ true = h.2.ended ∙ bad in
    let all : frames_of fed ≡ (given ++ h.0) ++ [] = frames_fed framer fed (given ++ h.0) h.2 ∙ ap (λ e. (given ++ h.0) ++ cond e [] (frames_of framer.left)) over in
    (h.0, h.1, h.3, given_first framer fed (given ++ h.0) h.2, (subst (λ g. Stands next fed g) (append-nil (given ++ h.0)) stands, sym (all ∙ append-nil (given ++ h.0)), h.4))

-- memory ran out
pub hands_memory : (side : Side) (a b : Spot) (framer next : Stream) (fed : List ℕ) (given : List (List ℕ)) → Hands side a fed given framer b → HandsTo side a fed given next (Some Memory) b
hands_memory side a b framer next fed given h = (h.0, h.1, h.3, given_first framer fed (given ++ h.0) h.2, inl h.4)

-- no calls are left
pub hands_spent : (side : Side) (a b c : Spot) (framer next : Stream) (fed : List ℕ) (given : List (List ℕ)) → Hands side a fed given framer b → c ≡ b → b.left ≡ 0 → HandsTo side a fed given next (Some Spent) c
hands_spent side a b c framer next fed given h same none =
    (h.0, h.1, subst (λ s. Went a (messages side h.0) h.1 s) (sym same) h.3, given_first framer fed (given ++ h.0) h.2, (ap (λ s. s.left) same ∙ none, h.4))

by_reply : (end : ReaderEnd) (op : DeskOp) (reply : DeskReply) (framer : Stream) (fed : List ℕ) (given : List (List ℕ)) (calls : List DeskCall) (left : ℕ) → WentOn calls → Tells (Some end) reply → HandedTo (Some end) framer fed given (calls ++ record { op = op; reply = reply } ∷ []) left
by_reply Closed op reply framer fed given calls left on t = absurd t
by_reply ReadFault op reply framer fed given calls left on t = absurd t
by_reply Dismissed op reply framer fed given calls left on t = (calls, op, ap (λ r. calls ++ record { op = op; reply = r } ∷ []) t, on)
by_reply DeskEnded op reply framer fed given calls left on t = (calls, op, ap (λ r. calls ++ record { op = op; reply = r } ∷ []) t, on)
by_reply Spent op reply framer fed given calls left on t = absurd t
by_reply Memory op reply framer fed given calls left on t = inr (calls, record { op = op; reply = reply }, refl, on, t)

-- a reply ended it
pub hands_end : (side : Side) (a b c : Spot) (framer next : Stream) (fed : List ℕ) (given : List (List ℕ)) (frame : List ℕ) (reply : DeskReply) (end : ReaderEnd) → (h : Hands side a fed given framer b) → Stands next fed ((given ++ h.0) ++ frame ∷ []) → WentOne b (message_event side frame) reply c → Tells (Some end) reply → HandsTo side a fed given next (Some end) c
hands_end side a b c framer next fed given frame reply end h stands w t =
    let more = h.0 ++ frame ∷ [] in (
      more,
      h.1 ++ record { op = w.0; reply = reply } ∷ [],
      went_message side a b c h.0 frame h.1 reply h.3 w,
      given_first next fed (given ++ more) (subst (λ g. Stands next fed g) (append_assoc given h.0 (frame ∷ [])) stands),
      by_reply end w.0 reply next fed (given ++ more) h.1 c.left h.4 t,
    )
