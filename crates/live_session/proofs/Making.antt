-- Lists of calls.
use Rattle.std.proofs.Common.{◌≡◌, inl, inr, List, [], ◌∷◌, ◌++◌, refl, sym, ap, ◌∙◌, append_assoc}
use Rattle.turn_desk.specs.Calls.{Call, LastReply}
use Rattle.live_desk.specs.declared.object.DeskReply.{DeskReply}
use Rattle.live_session.specs.Stretches.{ops_of, DeskCall, WentOn, StoppedBy, WentOnTo}

module _ {P R : Type 0} where
  pub ops_append : (xs ys : List (Call P R)) → ops_of (xs ++ ys) ≡ ops_of xs ++ ops_of ys
  ops_append [] ys = refl
  ops_append (c ∷ xs) ys = ap (λ l. c.op ∷ l) (ops_append xs ys)

  -- the last reply of one list is that of the list that ends with it
  pub last_more : (reply : R) (xs ys : List (Call P R)) → LastReply reply ys → LastReply reply (xs ++ ys)
  last_more reply xs ys h = (xs ++ h.0, h.1, ap (λ l. xs ++ l) h.2 ∙ sym (append_assoc xs h.0 _))

pub went_on_more : (xs ys : List DeskCall) → WentOn xs → WentOn ys → WentOn (xs ++ ys)
went_on_more [] ys h k = k
went_on_more (c ∷ xs) ys h k = (h.0, went_on_more xs ys h.1 k)

pub stopped_more : (reply : DeskReply) (xs ys : List DeskCall) → WentOn xs → StoppedBy reply ys → StoppedBy reply (xs ++ ys)
stopped_more reply xs ys h k = (xs ++ k.0, k.1, ap (λ l. xs ++ l) k.2 ∙ sym (append_assoc xs k.0 _), went_on_more xs k.0 h k.3)

pub went_on_to_more : (xs ys : List DeskCall) → WentOn xs → WentOnTo ys → WentOnTo (xs ++ ys)
went_on_to_more xs ys h (inl k) = inl (went_on_more xs ys h k)
went_on_to_more xs ys h (inr k) = inr (xs ++ k.0, k.1, ap (λ l. xs ++ l) k.2 ∙ sym (append_assoc xs k.0 _), went_on_more xs k.0 h k.3, k.4)
