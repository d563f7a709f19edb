-- What is sent on for a message, whatever the slice's state stands for.
use Rattle.std.proofs.Common.{◌≡◌, ℕ, List, [], ◌∷◌, refl, inl, inr, Result, Ok, Err, IfOk}
use Rattle.std.specs.declared.alloc.AllocError.{AllocError}
use Rattle.of10_message.specs.declared.controller.FromController.{FromController}
use Rattle.flowspace.specs.declared.rules.Rule.{Rule}
use Rattle.flow_book.specs.declared.state.SliceState.{SliceState}
use Rattle.slice_words.specs.Messages.{Reading}
use Rattle.slice_side.specs.declared.reaction.Reaction.{Reaction}
use Rattle.slice_side.specs.Reactions.{ground_at}
use Rattle.slice_side.specs.Checking.{IsInquirySent, AreSentOn}

pub nothing_sent : (result : Result Reaction AllocError) (rules : List Rule) (slot : ℕ) (known : List (List ℕ)) (state : SliceState) (read : Reading)
    → IfOk result (λ r. r.to_switch.items ≡ []) → IfOk result (λ r. AreSentOn rules slot known state read r.to_switch.items)
nothing_sent (Ok r) rules slot known state read none = (0, 0, inl none)
nothing_sent (Err e) rules slot known state read none = tt

pub question_sent : (result : Result Reaction AllocError) (rules : List Rule) (slot : ℕ) (known : List (List ℕ)) (state : SliceState) (xid : ℕ) (asked : FromController) (question : List ℕ)
    → IsInquirySent (ground_at rules slot known 0 xid state) asked question → IfOk result (λ r. r.to_switch.items ≡ question ∷ []) → IfOk result (λ r. AreSentOn rules slot known state (Ok asked) r.to_switch.items)
question_sent (Ok r) rules slot known state xid asked question may sent = (0, xid, inr (inr (inr (asked, question, refl, may, sent))))
question_sent (Err e) rules slot known state xid asked question may sent = tt
