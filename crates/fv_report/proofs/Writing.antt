-- Texts that are written one after another.
use Rattle.std.proofs.Common.{◌≡◌, inl, inr, ℕ, List, [], ◌∷◌, ◌++◌, refl, sym, ap, ◌∙◌, append_assoc, subst, Option, Some, None, Result, Ok, Err}
use Rattle.fv_base.specs.Told.{appended}
use Rattle.fv_base.proofs.Appending.{appended_none}
use Rattle.event_player.specs.declared.fault.ReportFault.{ReportFault}
use Rattle.event_player.specs.declared.fault.ReportFault.TheVariants.{Memory}
use Rattle.fv_report.specs.Writing.{WrotePart, Wrote, CountedFault, Counted}

pub appended_twice : (told : Option (List ℕ)) (first second : List ℕ) → appended (appended told first) second ≡ appended told (first ++ second)
appended_twice None first second = refl
appended_twice (Some before) first second = ap Some (append_assoc before first second)

-- two texts were written
pub both : (before now later : Option (List ℕ)) (first second : List ℕ) → now ≡ appended before first → later ≡ appended now second → later ≡ appended before (first ++ second)
both before now later first second a b = b ∙ ap (λ told. appended told second) a ∙ appended_twice before first second

-- nothing of a text was written
pub none_of : (text : List ℕ) (before : Option (List ℕ)) → WrotePart text before before
none_of text before = ([], (text, refl), appended_none before)

-- a piece of the first of two texts
pub part_of_first : (first second : List ℕ) (before now : Option (List ℕ)) → WrotePart first before now → WrotePart (first ++ second) before now
part_of_first first second before now (piece, (rest, is), told) = (piece, (rest ++ second, sym (append_assoc piece rest second) ∙ ap (λ text. text ++ second) is), told)

-- the first of two texts, and a piece of the second
pub part_of_second : (first second : List ℕ) (before now later : Option (List ℕ)) → now ≡ appended before first → WrotePart second now later → WrotePart (first ++ second) before later
part_of_second first second before now later a (piece, (rest, is), told) =
    (first ++ piece, (rest, append_assoc first piece rest ∙ ap (λ text. first ++ text) is), both before now later first piece a told)

-- after the first of two texts the second
pub wrote_second : {A E : Type 0} (result : Result A E) (first second : List ℕ) (before now later : Option (List ℕ)) → now ≡ appended before first → Wrote result second now later → Wrote result (first ++ second) before later
wrote_second (Ok value) first second before now later a b = both before now later first second a b
wrote_second (Err fault) first second before now later a b = part_of_second first second before now later a b

-- the count after a text that was put whole is the one before it
pub counted_after : {A : Type 0} (result : Result A ReportFault) (old now later : ℕ) → now ≡ old → Counted result now later → Counted result old later
counted_after result old now later same counted = subst (λ (n : ℕ). Counted result n later) same counted

pub fault_after : (fault : ReportFault) (old now later : ℕ) → now ≡ old → CountedFault fault now later → CountedFault fault old later
fault_after fault old now later same counted = subst (λ (n : ℕ). CountedFault fault n later) same counted
