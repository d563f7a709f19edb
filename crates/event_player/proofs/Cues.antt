-- Cues: those of events one after another, and what who hears only lines is told.
use Rattle.std.proofs.Common.{◌≡◌, inl, inr, ℕ, ◌+◌, List, [], ◌∷◌, ◌++◌, length, map, refl, ap, ◌∙◌, subst, Ok, Err}
use Rattle.std.specs.List.{flat_map, enumerate_from}
use Rattle.std.proofs.lemmas.Grind.{flat_map-append}
use Rattle.flowspace.specs.Policies.{PolicyView}
use Rattle.recording.specs.Recordings.{Told}
use Rattle.desk_words.specs.Recorded.{Happened, all_happened}
use Rattle.desk_words.proofs.Reporting.{enumerate_both}
use Rattle.desk_words.specs.Reports.{Line, lines_at, lines_from, all_lines}
use Rattle.event_player.specs.declared.fault.ReportFault.{ReportFault}
use Rattle.event_player.specs.declared.fault.ReportFault.TheVariants.{Memory}
use Rattle.event_player.specs.declared.player.Player.{Player}
use Rattle.event_player.specs.Telling.{Cue, Comes, Says, Outcome, ToldWhole, HeardPart, cues_at, cues_from, all_cues, says, ByLine, line_in, lines_in}
use Rattle.event_player.specs.Players.{Scene, HasTold}

-- ---- numbered events

-- of events and of those behind them
pub cues_from_both : (policy : PolicyView) (number : ℕ) (first second : List Happened) → cues_from policy number (first ++ second) ≡ cues_from policy number first ++ cues_from policy (number + length first) second
unfolding cues_from
cues_from_both policy number first second =
    ap (flat_map (cues_at policy)) (enumerate_both number first second) ∙ flat_map-append (cues_at policy) (enumerate_from number first) (enumerate_from (number + length first) second)

-- ---- lines among cues

-- lines that are reported are reported as cues
said_whole : {T : Type 0} (Tells : T → Cue → Outcome → T → Type 0) (old new : T) (lines : List Line) → ToldWhole (says Tells) old lines new → ToldWhole Tells old (map Says lines) new
said_whole Tells old new [] same = same
said_whole Tells old new (line ∷ lines) (next, told, others) = (next, told, said_whole Tells next new lines others)

said_part : {T : Type 0} (Tells : T → Cue → Outcome → T → Type 0) (fault : ReportFault) (old new : T) (lines : List Line) → HeardPart (says Tells) fault old lines new → HeardPart Tells fault old (map Says lines) new
said_part Tells fault old new [] none = none
said_part Tells fault old new (line ∷ lines) (inl none) = inl none
said_part Tells fault old new (line ∷ lines) (inr (inl broken)) = inr (inl broken)
said_part Tells fault old new (line ∷ lines) (inr (inr (next, told, others))) = inr (inr (next, told, said_part Tells fault next new lines others))

pub told_said : {T More : Type 0} (Tells : T → Cue → Outcome → T → Type 0) (scene : Scene) (outcome : Outcome) (lines : List Line) (old new : Player T) → HasTold {A = Unit {0}} (says Tells) scene More outcome lines old new → HasTold {A = Unit {0}} Tells scene More outcome (map Says lines) old new
told_said Tells scene (Ok value) lines old new a = record { told = said_whole Tells old.teller new.teller lines a.told; at = a.at; more = a.more }
told_said Tells scene (Err fault) lines old new a = record { told = said_part Tells fault old.teller new.teller lines a.told; at = tt; more = tt }

-- who hears only lines hears those of the cues
pub heard_whole : {T : Type 0} (Tells : T → Line → Outcome → T → Type 0) (old new : T) (cues : List Cue) → ToldWhole (ByLine Tells) old cues new → ToldWhole Tells old (lines_in cues) new
heard_whole Tells old new [] same = same
heard_whole {T} Tells old new (Comes policy number one ∷ cues) (next, told, others) = subst (λ (state : T). ToldWhole Tells state (lines_in cues) new) told.1 (heard_whole Tells next new cues others)
heard_whole Tells old new (Says line ∷ cues) (next, told, others) = (next, told, heard_whole Tells next new cues others)

heard_nothing : {T : Type 0} (Tells : T → Line → Outcome → T → Type 0) (fault : ReportFault) (old new : T) (lines : List Line) → new ≡ old → fault ≡ Memory → HeardPart Tells fault old lines new
heard_nothing Tells fault old new [] same memory = (same, memory)
heard_nothing Tells fault old new (line ∷ lines) same memory = inl (same, memory)

not_both : (fault : ReportFault) → (let broken : Outcome = Err fault in broken) ≡ Ok tt → ⊥
not_both fault is = absurd cc

pub heard_part : {T : Type 0} (Tells : T → Line → Outcome → T → Type 0) (fault : ReportFault) (old new : T) (cues : List Cue) → HeardPart (ByLine Tells) fault old cues new → HeardPart Tells fault old (lines_in cues) new
heard_part Tells fault old new [] none = none
heard_part Tells fault old new (Comes policy number one ∷ cues) (inl (same, memory)) = heard_nothing Tells fault old new (lines_in cues) same memory
heard_part Tells fault old new (Comes policy number one ∷ cues) (inr (inl broken)) = absurd (not_both fault broken.0)
heard_part {T} Tells fault old new (Comes policy number one ∷ cues) (inr (inr (next, told, others))) = subst (λ (state : T). HeardPart Tells fault state (lines_in cues) new) told.1 (heard_part Tells fault next new cues others)
heard_part Tells fault old new (Says line ∷ cues) (inl none) = inl none
heard_part Tells fault old new (Says line ∷ cues) (inr (inl broken)) = inr (inl broken)
heard_part Tells fault old new (Says line ∷ cues) (inr (inr (next, told, others))) = inr (inr (next, told, heard_part Tells fault next new cues others))

lines_of_said : (lines : List Line) → lines_in (map Says lines) ≡ lines
lines_of_said [] = refl
lines_of_said (line ∷ lines) = ap (λ (others : List Line). line ∷ others) (lines_of_said lines)

lines_of_each : (policy : PolicyView) (events : List (ℕ × Happened)) → lines_in (flat_map (cues_at policy) events) ≡ flat_map (lines_at policy) events
lines_of_each policy [] = refl
lines_of_each policy (one ∷ events) =
    flat_map-append line_in (map Says (lines_at policy one)) (flat_map (cues_at policy) events)
    ∙ ap (λ (front : List Line). front ++ lines_in (flat_map (cues_at policy) events)) (lines_of_said (lines_at policy one))
    ∙ ap (λ (others : List Line). lines_at policy one ++ others) (lines_of_each policy events)

-- the lines of a recording are those of its cues
pub lines_of_all : (policy : PolicyView) (records : List Told) → lines_in (all_cues policy records) ≡ all_lines policy records
unfolding cues_from lines_from
lines_of_all policy records = lines_of_each policy (enumerate_from 0 (all_happened policy records))

-- all lines of a recording are heard where all its cues are
pub heard_all : {T : Type 0} (Tells : T → Line → Outcome → T → Type 0) (policy : PolicyView) (records : List Told) (old new : T) → ToldWhole (ByLine Tells) old (all_cues policy records) new → ToldWhole Tells old (all_lines policy records) new
heard_all Tells policy records old new told = subst (λ (lines : List Line). ToldWhole Tells old lines new) (lines_of_all policy records) (heard_whole Tells old new (all_cues policy records) told)

pub heard_first : {T : Type 0} (Tells : T → Line → Outcome → T → Type 0) (policy : PolicyView) (records : List Told) (fault : ReportFault) (old new : T) → HeardPart (ByLine Tells) fault old (all_cues policy records) new → HeardPart Tells fault old (all_lines policy records) new
heard_first Tells policy records fault old new told = subst (λ (lines : List Line). HeardPart Tells fault old lines new) (lines_of_all policy records) (heard_part Tells fault old new (all_cues policy records) told)
