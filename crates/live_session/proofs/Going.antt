-- Stretches, one after another.
use Rattle.std.proofs.Common.{◌≡◌, ℕ, ◌+◌, List, [], ◌∷◌, ◌++◌, refl, sym, ap, subst, ◌∙◌, append_assoc, arith}
use Rattle.std.specs.Prelude.{Option, Some, None}
use Rattle.std.proofs.lemmas.List.{map-append, length-append}
use Rattle.turn_desk.specs.Histories.{Called}
use Rattle.fv_live.specs.Live.{WasAsked, Moved, moments_after}
use Rattle.desk_words.specs.declared.event.Event.{Event}
use Rattle.live_desk.specs.declared.object.DeskOp.{DeskOp}
use Rattle.live_desk.specs.declared.object.DeskOp.TheVariants.{Step}
use Rattle.live_desk.specs.declared.object.DeskReply.{DeskReply}
use Rattle.live_desk.specs.declared.object.DeskReply.TheVariants.{Took}
use Rattle.live_desk.specs.declared.object.DeskObject.{DeskObject}
use Rattle.turn_desk.specs.declared.view.Member.{Member}
use Rattle.desk_words.specs.declared.event.Timed.{Timed}
use Rattle.desk_words.specs.declared.taken.Taken.{Taken}
use Rattle.live_desk.specs.Operates.{Operates}
use Rattle.live_session.specs.Stretches.{ops_of, AreSteps, at_moment, DeskCall, Spot, Went, WentOne}
use Rattle.turn_desk.proofs.Making.{made_none, made_one, made_more, acted}
use Rattle.live_session.proofs.Making.{ops_append}

pub asked_none : (told : Option (List ℕ)) → WasAsked told [] told
asked_none None = refl
asked_none (Some coming) = refl

pub asked_more : (told : Option (List ℕ)) (xs ys : List ℕ) (mid rest : Option (List ℕ)) → WasAsked told xs mid → WasAsked mid ys rest → WasAsked told (xs ++ ys) rest
asked_more None xs ys mid rest h k = subst (λ m. WasAsked m ys rest) h k
asked_more (Some coming) [] ys mid rest h k = subst (λ m. WasAsked m ys rest) h k
asked_more (Some coming) (x ∷ xs) ys mid rest h k = (h.0, asked_more (Some (moments_after coming)) xs ys mid rest h.1 k)

pub moved_none : (told : Option (List ℕ)) → Moved told [] told
moved_none None = refl
moved_none (Some left) = (left, refl, refl)

pub moved_more : (told : Option (List ℕ)) (xs ys : List ℕ) (mid rest : Option (List ℕ)) → Moved told xs mid → Moved mid ys rest → Moved told (xs ++ ys) rest
moved_more None xs ys mid rest h k = subst (λ m. Moved m ys rest) h k
moved_more (Some left) xs ys mid rest h k =
    let next : Moved (Some h.0) ys rest = subst (λ m. Moved m ys rest) h.2 k in
    (next.0, h.1 ∙ (ap (λ l. xs ++ l) next.1 ∙ sym (append_assoc xs ys next.0)), next.2)

steps_more : (os ps : List DeskOp) (es fs : List Event) (ms ns : List ℕ) → AreSteps os es ms → AreSteps ps fs ns → AreSteps (os ++ ps) (es ++ fs) (ms ++ ns)
steps_more os ps es fs ms ns h k = (
  h.0 ++ k.0,
  rw (h.1, k.1) (sym (map-append _ h.0 k.0)),
  rw (h.2, k.2) (sym (map-append _ h.0 k.0)),
  rw (h.3, k.3) (sym (map-append _ h.0 k.0)),
)

pub went_none : (a : Spot) → Went a [] [] a
went_none a = record { moments = []; made = made_none _ a.view; steps = ([], refl, refl, refl); asked = asked_none a.coming; fewer = omega arith }

pub went_one : (a b : Spot) (event : Event) (moment : ℕ) (reply : DeskReply) → Called Operates a.view (at_moment event moment) reply b.view → WasAsked a.coming (moment ∷ []) b.coming → b.left + 1 ≡ a.left → WentOne a event reply b
went_one a b event moment reply c m f = (
  at_moment event moment,
  record {
    moments = moment ∷ [];
    made = made_one _ a.view b.view (at_moment event moment) reply c;
    steps = (record { event = event; moment = moment } ∷ [], refl, refl, refl);
    asked = m;
    fewer = f;
  },
)

pub went_more : (a b c : Spot) (es fs : List Event) (xs ys : List DeskCall) → Went a es xs b → Went b fs ys c → Went a (es ++ fs) (xs ++ ys) c
went_more a b c es fs xs ys h k =
    record {
      moments = h.moments ++ k.moments;
      made = made_more _ a.view b.view c.view xs ys h.made k.made;
      steps = subst (λ ops. AreSteps ops (es ++ fs) (h.moments ++ k.moments)) (sym (ops_append xs ys)) (steps_more (ops_of xs) (ops_of ys) es fs h.moments k.moments h.steps k.steps);
      asked = asked_more a.coming h.moments k.moments b.coming c.coming h.asked k.asked;
      fewer = let n = length-append xs ys in let i = h.fewer in let j = k.fewer in omega (arith, n, i, j);
    }

-- a step isn't replied as a take
pub not_took : (v w : Option (Member DeskObject DeskOp DeskReply)) (timed : Timed) (answer : Taken) → Called Operates v (Step timed) (Took answer) w → ⊥
not_took v w timed answer c = (acted Operates v w (Step timed) (Took answer) c).2
