-- Lines that are put for endings.
use Rattle.std.proofs.Common.{◌≡◌, ℕ, ◌==◌, ◌⊎◌, ◌&&◌, if◌then◌else◌, Bool, true, false, List, [], ◌∷◌, Option, None, Some, refl, sym, ap, subst, ◌∙◌, arith, inl, inr, append-nil}
use Rattle.std.proofs.lemmas.Bool.{cases_Bool}
use Rattle.fv_base.specs.Told.{appended, IsBeginning, Rose}
use Rattle.fv_base.proofs.Appending.{appended_none}
use Rattle.fv_base.specs.Words.{FormBytes, OfCheck, OfReplay, OfGen, OfFlatten, form_of}
use Rattle.fv_cli.specs.declared.ending.Ending.{Ending}
use Rattle.fv_cli.specs.declared.ending.Ending.TheVariants.{Done, Usage, ReadFault, WriteFault, NoMemory, NoMemoryToRun, TooLarge, PolicyRefused, NoSlice, NestRefused}
use Rattle.fv_cli.specs.Endings.{ending_status, ending_line, IsPut, Outside, EndedWith, Causes, IsPolicyCause, IsWriteEnding, IsCheckCause, IsReplayCause, IsFlattenCause, IsGenEnding}
use Rattle.flowvisor.specs.Asked.{Suits, EndedSo, is_of_check, is_of_gen, is_of_flatten}

-- ---- lines

-- nothing is put, and no count rises
pub nothing_put : (told : Option (List ℕ)) (count : ℕ) → IsPut [] told told count count
nothing_put told count = inl (appended_none told, refl)

Rose-Rose : (a b c : ℕ) → Rose a b → Rose b c → Rose a c
Rose-Rose a b c (inl lt) (inl more) = inl (omega (arith, lt, more))
Rose-Rose a b c (inl lt) (inr last) = inr last
Rose-Rose a b c (inr last) (inl more) = inr (omega (arith, last, more))
Rose-Rose a b c (inr _) (inr last) = inr last

no_piece : (piece : List ℕ) → IsBeginning piece [] → piece ≡ []
no_piece [] (rest, e) = refl
no_piece (x ∷ piece) (rest, e) = absurd (cc)

-- a line that is put behind nothing
behind_nothing : (line : List ℕ) (before between after : Option (List ℕ)) (count count_between count_after : ℕ) → IsPut [] before between count count_between
    → IsPut line between after count_between count_after → IsPut line before after count count_after
behind_nothing line before between after count count_between count_after (inl (told, same)) put =
    subst (λ n. IsPut line before after n count_after) same (subst (λ t. IsPut line t after count_between count_after) (told ∙ sym (appended_none before)) put)
behind_nothing line before between after count count_between count_after (inr (piece, prefix, told, rose)) put =
    let same : between ≡ before = told ∙ ap (appended before) (no_piece piece prefix) ∙ sym (appended_none before) in
    let put : IsPut line before after count_between count_after = subst (λ t. IsPut line t after count_between count_after) same put in
    elim put [
      | inl whole ↦ inr (line, ([], append-nil line), whole.0, subst (λ n. Rose count n) (sym whole.1) rose)
      | inr (piece, prefix, told, more) ↦ inr (piece, prefix, told, Rose-Rose count count_between count_after rose more)
    ]

-- ---- what suits the words

pub memory_suits : (form : Option FormBytes) → Suits None form NoMemory
memory_suits (Some (OfCheck policy)) = refl
memory_suits (Some (OfReplay policy recording)) = λ e. cc
memory_suits (Some (OfGen seed count)) = refl
memory_suits (Some (OfFlatten outer name inner)) = refl
memory_suits other = inr refl

-- an ending that writing a text can have
abbrev IsOfWriting : Ending → Type 0
IsOfWriting ending = (ending ≡ Done) ⊎ (ending ≡ WriteFault)

writes_so : (text : List ℕ) (before after : Option (List ℕ)) (count_before count_after : ℕ) (ending : Ending) → IsWriteEnding text before after count_before count_after ending → IsOfWriting ending
writes_so text before after count_before count_after Done cause = inl refl
writes_so text before after count_before count_after WriteFault cause = inr refl
writes_so text before after count_before count_after other cause = absurd cause

-- an ending of a policy that isn't had
loads_so : (file : Option (List ℕ)) (before after : ℕ) (ending : Ending) → IsPolicyCause file before after ending → is_of_check ending ≡ true
loads_so file before after ReadFault cause = refl
loads_so file before after TooLarge cause = refl
loads_so file before after NoMemory cause = refl
loads_so file before after (PolicyRefused fault) cause = refl
loads_so file before after other cause = absurd cause

divides_too : (ending : Ending) → is_of_check ending ≡ true → is_of_flatten ending ≡ true
divides_too NoSlice is = refl
divides_too (NestRefused fault) is = refl
divides_too other is = is

writing_suits : (ending : Ending) → IsOfWriting ending → is_of_check ending ≡ true
writing_suits ending (inl is) = ap is_of_check is
writing_suits ending (inr is) = ap is_of_check is

check_suits : (w : Outside) (policy : List ℕ) (ending : Ending) → IsCheckCause w policy ending → is_of_check ending ≡ true
check_suits w policy ending (inl cause) = loads_so _ _ _ ending cause
check_suits w policy ending (inr (p, has, cause)) = writing_suits ending (writes_so _ w.out_before w.out_after w.put_before w.put_after ending cause)

replay_suits : (w : Outside) (policy recording : List ℕ) → IsReplayCause w policy recording Usage → ⊥
replay_suits w policy recording (inl cause) = cause
replay_suits w policy recording (inr (p, has, inl cause)) = cause
replay_suits w policy recording (inr (p, has, inr (bytes, items, taken, cause))) = cause

gen_suits : (text : List ℕ) (before after : Option (List ℕ)) (count_before count_after : ℕ) (ending : Ending) → IsGenEnding text before after count_before count_after ending → is_of_gen ending ≡ true
gen_suits text before after count_before count_after Done cause = refl
gen_suits text before after count_before count_after WriteFault cause = refl
gen_suits text before after count_before count_after NoMemory cause = refl
gen_suits text before after count_before count_after NoMemoryToRun cause = refl
gen_suits text before after count_before count_after other cause = absurd cause

flatten_suits : (w : Outside) (outer name inner : List ℕ) (ending : Ending) → IsFlattenCause w outer name inner ending → is_of_flatten ending ≡ true
flatten_suits w outer name inner ending (inl cause) = divides_too ending (loads_so _ _ _ ending cause)
flatten_suits w outer name inner ending (inr (p, has, inl (unnamed, is))) = ap is_of_flatten is
flatten_suits w outer name inner ending (inr (p, has, inr (slot, named, inl cause))) = divides_too ending (loads_so _ _ _ ending cause)
flatten_suits w outer name inner ending (inr (p, has, inr (slot, named, inr (q, inner_has, inl (inl is))))) = ap is_of_flatten is
flatten_suits w outer name inner ending (inr (p, has, inr (slot, named, inr (q, inner_has, inl (inr (fault, refused, is)))))) = ap is_of_flatten is
flatten_suits w outer name inner ending (inr (p, has, inr (slot, named, inr (q, inner_has, inr (made, is, cause))))) =
    divides_too ending (writing_suits ending (writes_so _ w.out_before w.out_after w.put_before w.put_after ending cause))

cause_suits : (w : Outside) (form : Option FormBytes) (ending : Ending) → Causes w form ending → Suits None form ending
cause_suits w (Some (OfCheck policy)) ending cause = check_suits w policy ending cause
cause_suits w (Some (OfReplay policy recording)) ending cause = λ is. replay_suits w policy recording (subst (λ e. IsReplayCause w policy recording e) is cause)
cause_suits w (Some (OfGen seed count)) ending cause = gen_suits _ w.out_before w.out_after w.put_before w.put_after ending cause
cause_suits w (Some (OfFlatten outer name inner)) ending cause = flatten_suits w outer name inner ending cause
cause_suits w other ending cause = inl cause

not_done : {A : Type 0} → (Done ≡ Usage) ⊎ (Done ≡ NoMemory) → A
not_done (inl e) = absurd (cc)
not_done (inr e) = absurd (cc)

-- a run that went well, and whose flush failed
fault_suits : (form : Option FormBytes) → Suits None form Done → Suits None form WriteFault
fault_suits (Some (OfCheck policy)) _ = refl
fault_suits (Some (OfReplay policy recording)) _ = λ e. cc
fault_suits (Some (OfGen seed count)) _ = refl
fault_suits (Some (OfFlatten outer name inner)) _ = refl
fault_suits other done = not_done done

only_done : (ending : Ending) (failed : Bool) → (ending_status ending == 0 && failed) ≡ true → ending ≡ Done
only_done Done failed e = refl
only_done other failed e = absurd (cc)

pub after_run : (w : Outside) (words : List (List ℕ)) (failed : Bool) (before between after : Option (List ℕ)) (count count_between count_after status result : ℕ)
    → EndedWith w words before between count count_between status
    → result ≡ (if status == 0 && failed then 5 else status)
    → ((status == 0 && failed) ≡ true → IsPut (ending_line WriteFault) between after count_between count_after)
    → ((status == 0 && failed) ≡ false → (after ≡ between) × (count_after ≡ count_between))
    → EndedSo (Suits None (form_of words)) before after count count_after result
after_run w words failed before between after count count_between count_after status result ended said line quiet =
    let suits = cause_suits w (form_of words) ended.ending ended.cause in
    elim (cases_Bool (status == 0 && failed)) [
      | inl fails ↦
          let done : ended.ending ≡ Done = only_done ended.ending failed (subst (λ n. (n == 0 && failed) ≡ true) ended.answer fails) in
          record {
            ending = WriteFault;
            suits = fault_suits (form_of words) (subst (λ e. Suits None (form_of words) e) done suits);
            answer = said ∙ rw fails refl;
            line = behind_nothing (ending_line WriteFault) before between after count count_between count_after (subst (λ e. IsPut (ending_line e) before between count count_between) done ended.line) (line fails);
          }
      | inr well ↦
          let same = quiet well in
          record {
            ending = ended.ending;
            suits = suits;
            answer = said ∙ rw well ended.answer;
            line = subst (λ n. IsPut (ending_line ended.ending) before after count n) (sym same.1) (subst (λ told. IsPut (ending_line ended.ending) before told count count_between) (sym same.0) ended.line);
          }
    ]
