-- Frames that are taken one after another, and fresh framers.
use Rattle.std.proofs.Common.{◌≡◌, ℕ, true, List, [], ◌∷◌, ◌++◌, sym, ap, ◌∙◌, append_assoc, subst}
use Rattle.std.proofs.lemmas.List.{append-nil, append_cancel_left}
use Rattle.of10_ctl.specs.declared.framer.Next.{Next}
use Rattle.of10_ctl.specs.declared.framer.Next.TheVariants.{Frame, NeedMore, Ended}
use Rattle.of10_ctl.specs.Streams.{Stream, Stands, frames_of, has_bad, next_answer, frame_in, with_piece}
use Rattle.of10_ctl.proofs.Answering.{frame_exact, need_more_exact, ended_exact}
use Rattle.event_player.specs.Streams.{frame_given, TookFrame}

-- a framer that ended gave all frames
ended_all : (s : Stream) (fed : List ℕ) (given : List (List ℕ)) → Stands s fed given → has_bad given ≡ true → given ≡ frames_of fed
ended_all s fed given stands bad =
    sym (ap frames_of (sym (append-nil fed)) ∙ stands.frames [] ∙ rw (stands.ended ∙ bad) (append-nil given))

-- what a framer answers says which frame was taken
pub took : (old new : Stream) (fed : List ℕ) (given : List (List ℕ)) (next : Next) → Stands old fed given → next ≡ next_answer fed given → Stands new fed (given ++ frame_in next) → TookFrame (frame_given next) fed given new
took old new fed given (Frame frame) stands is then = ((frame_exact old fed given frame stands).0 (sym is), then)
took old new fed given NeedMore stands is then = (((need_more_exact old fed given stands).0 (sym is)).0, subst (Stands new fed) (append-nil given) then)
took old new fed given Ended stands is then = (ended_all old fed given stands ((ended_exact old fed given stands).0 (sym is)), subst (Stands new fed) (append-nil given) then)

-- the frame that is taken is the first of those that are left
pub next_left : (given rest others : List (List ℕ)) (frame : List ℕ) (frames : List (List ℕ)) → given ++ rest ≡ frames → (given ++ frame ∷ []) ++ others ≡ frames → rest ≡ frame ∷ others
next_left given rest others frame frames a b = append_cancel_left given rest (frame ∷ others) (a ∙ sym b ∙ append_assoc given (frame ∷ []) others)

-- where all frames were given none is left
pub nothing_left : (given rest frames : List (List ℕ)) → given ++ rest ≡ frames → given ≡ frames → rest ≡ []
nothing_left given rest frames a b = append_cancel_left given rest [] (a ∙ sym b ∙ sym (append-nil given))

-- where nothing came behind what was fed
pub nothing_behind : (framer : Stream) (piece : List ℕ) → piece ≡ [] → with_piece framer piece ≡ framer
nothing_behind framer piece none = ap (λ (left : List ℕ). record framer { left = left }) (ap (λ (p : List ℕ). framer.left ++ p) none ∙ append-nil framer.left)
