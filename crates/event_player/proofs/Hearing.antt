-- What is reported one after another, and who hears it.
use Rattle.std.proofs.Common.{◌≡◌, inl, inr, List, [], ◌∷◌, ◌++◌, refl, sym, ◌∙◌, subst, Result, Ok, Err}
use Rattle.std.specs.Prelude.{IfErr}
use Rattle.std.specs.Result.{IsErrAnd}
use Rattle.event_player.specs.declared.fault.ReportFault.{ReportFault}
use Rattle.event_player.specs.declared.fault.ReportFault.TheVariants.{Memory}
use Rattle.event_player.specs.Telling.{Outcome, ToldWhole, HeardPart, Tell}

-- two stretches of lines were reported
pub heard_both : {T C : Type 0} (Tells : T → C → Outcome → T → Type 0) (before now later : T) (first second : List C) → ToldWhole Tells before first now → ToldWhole Tells now second later → ToldWhole Tells before (first ++ second) later
heard_both Tells before now later [] second same b = subst (λ state. ToldWhole Tells state second later) same b
heard_both Tells before now later (line ∷ first) second (next, told, others) b = (next, told, heard_both Tells next now later first second others b)

-- nothing was reported before memory ran out
pub heard_none : {T C : Type 0} (Tells : T → C → Outcome → T → Type 0) (lines : List C) (before : T) → HeardPart Tells Memory before lines before
heard_none Tells [] before = (refl, refl)
heard_none Tells (line ∷ others) before = inl (refl, refl)

-- a piece of the first of two stretches
pub heard_part_of_first : {T C : Type 0} (Tells : T → C → Outcome → T → Type 0) (fault : ReportFault) (first second : List C) (before now : T) → HeardPart Tells fault before first now → HeardPart Tells fault before (first ++ second) now
heard_part_of_first Tells fault [] [] before now end = end
heard_part_of_first Tells fault [] (line ∷ second) before now end = inl end
heard_part_of_first Tells fault (line ∷ first) second before now (inl end) = inl end
heard_part_of_first Tells fault (line ∷ first) second before now (inr (inl broken)) = inr (inl broken)
heard_part_of_first Tells fault (line ∷ first) second before now (inr (inr (next, told, others))) = inr (inr (next, told, heard_part_of_first Tells fault first second next now others))

-- the first of two stretches, and a piece of the second
pub heard_part_of_second : {T C : Type 0} (Tells : T → C → Outcome → T → Type 0) (fault : ReportFault) (first second : List C) (before now later : T) → ToldWhole Tells before first now → HeardPart Tells fault now second later → HeardPart Tells fault before (first ++ second) later
heard_part_of_second Tells fault [] second before now later same part = subst (λ state. HeardPart Tells fault state second later) same part
heard_part_of_second Tells fault (line ∷ first) second before now later (next, told, others) part = inr (inr (next, told, heard_part_of_second Tells fault first second next now later others part))

-- one line was reported, or a fault broke it off
pub tell_line : {T C : Type 0} (Tells : T → C → Outcome → T → Type 0) (outcome : Outcome) (line : C) (before now : T) → Tells before line outcome now → Tell Tells outcome (line ∷ []) before now
tell_line Tells (Ok value) line before now told = (now, told, refl)
tell_line Tells (Err fault) line before now broken = inr (inl broken)

-- after the first of two stretches the second
pub tell_second : {A T C : Type 0} (Tells : T → C → Outcome → T → Type 0) (result : Result A ReportFault) (first second : List C) (before now later : T) → ToldWhole Tells before first now → Tell Tells result second now later → Tell Tells result (first ++ second) before later
tell_second Tells (Ok value) first second before now later a b = heard_both Tells before now later first second a b
tell_second Tells (Err fault) first second before now later a b = heard_part_of_second Tells fault first second before now later a b

-- a fault is handed on
pub tell_on : {A T C : Type 0} (Tells : T → C → Outcome → T → Type 0) (fault : ReportFault) (result : Result A ReportFault) (lines : List C) (before now : T) → IsErrAnd result (λ e. e ≡ fault) → HeardPart Tells fault before lines now → Tell Tells result lines before now
tell_on Tells fault (Err e) lines before now same part = subst (λ (f : ReportFault). HeardPart Tells f before lines now) (sym same) part
tell_on Tells fault (Ok value) lines before now same part = absurd same

-- where what is told is broken off by a lack of memory alone, nothing else ends it
pub only_memory : {T C : Type 0} (Tells : T → C → Outcome → T → Type 0) → ((fault : ReportFault) (old new : T) (one : C) → Tells old one (Err fault) new → fault ≡ Memory) → (fault : ReportFault) (all : List C) (old new : T) → HeardPart Tells fault old all new → fault ≡ Memory
only_memory Tells breaks fault [] old new (same, memory) = memory
only_memory Tells breaks fault (one ∷ others) old new (inl (same, memory)) = memory
only_memory Tells breaks fault (one ∷ others) old new (inr (inl broken)) = breaks fault old new one broken
only_memory Tells breaks fault (one ∷ others) old new (inr (inr (next, told, more))) = only_memory Tells breaks fault others next new more

-- and where a fault is handed on, it is that one
pub memory_on : {A : Type 0} (fault : ReportFault) (result : Result A ReportFault) → IsErrAnd result (λ e. e ≡ fault) → fault ≡ Memory → IfErr result (λ f. f ≡ Memory)
memory_on fault (Err e) same memory = same ∙ memory
memory_on fault (Ok value) same memory = tt
