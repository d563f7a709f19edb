-- Causes of a finish, seen at other names of the same times, and what they say where no count rose.
use Rattle.std.proofs.Common.{◌≡◌, ◌≤◌, ℕ, List, length, refl, sym, ap, subst, arith, inl, inr, ◌⊎◌, ◌∙◌}
use Rattle.std.specs.Prelude.{Option, Some, None, Ok, Err}
use Rattle.fv_base.specs.Words.{FormBytes, OfServe}
use Rattle.fv_live.specs.Roles.{Role}
use Rattle.flowspace.specs.Policies.{PolicyView}
use Rattle.policy_text.specs.declared.fault.ReadFault.{ReadFault}
use Rattle.policy_text.specs.Documents.{document_of, policy_of}
use Rattle.fv_cli.specs.declared.ending.Ending.TheVariants as early
use Rattle.fv_cli.specs.Endings.{PolicySays, PassesLimit, policy_limit}
use Rattle.live_serve.specs.declared.accept.RunEnd.{RunEnd}
use Rattle.live_serve.specs.declared.accept.RunEnd.TheVariants.{Done, NoMemory, WireFault, NoThread}
use Rattle.live_serve.specs.declared.finish.Finish.{Finish}
use Rattle.live_serve.specs.declared.finish.Finish.TheVariants.{Early, Ran}
use Rattle.live_serve.specs.Running.{ServeOutside, outside, IsRunCause}
use Rattle.live_serve.specs.Serving.{ServeReads, Places, ServeCauses, IsServeCause, IsPolicyToServe, AreCalm, ServeCompletes, finish_status}

-- the spawner showed the same at the end
pub cause_kept : (w : ServeReads) (a : Places) (accepted : Option ℕ) (roles roles' : Option (List Role)) (h : List ℕ → ℕ) (s s' : ℕ) (form : Option FormBytes) (finish : Finish) →
    roles' ≡ roles → s' ≡ s →
    ServeCauses w a (λ at. outside accepted roles (h at) s) form finish →
    ServeCauses w a (λ at. outside accepted roles' (h at) s') form finish
cause_kept w a accepted roles roles' h s s' form finish same calm cause =
    let told = subst (λ r. ServeCauses w a (λ at. outside accepted r (h at) s) form finish) (sym same) cause in
    subst (λ n. ServeCauses w a (λ at. outside accepted roles' (h at) n) form finish) (sym calm) told

-- it stopped listening, by which no count changed
pub run_kept : (addresses : List (List ℕ)) (count : ℕ) (a : ServeOutside) (accepted accepted' : Option ℕ) (roles : Option (List Role)) (w w' s : ℕ) (end : RunEnd) →
    accepted' ≡ accepted → w' ≡ w →
    IsRunCause addresses count a (outside accepted roles w s) end →
    IsRunCause addresses count a (outside accepted' roles w' s) end
run_kept addresses count a accepted accepted' roles w w' s end same calm cause =
    let counted = subst (λ n. IsRunCause addresses count a (outside n roles w s) end) (sym same) cause in
    subst (λ n. IsRunCause addresses count a (outside accepted' roles n s) end) (sym calm) counted

-- ---- completeness

-- a file that was read passes no limit
read_within : (bytes : List ℕ) (said : PolicyView) → PolicySays (Ok said) (Some bytes) → PassesLimit policy_limit (Some bytes) → ⊥
read_within bytes said (read, were, says) passes =
    let within : length bytes ≤ policy_limit = subst (λ b. length b ≤ policy_limit) were.whole were.within in
    absurd (omega (arith, within, passes))

-- a text that says a policy isn't refused
not_refused : (bytes : List ℕ) (p : PolicyView) (fault : ReadFault) → PolicySays (Ok p) (Some bytes) → PolicySays (Err fault) (Some bytes) → ⊥
not_refused bytes p fault (read, were, says) (again, were', refused) =
    let e : Err fault ≡ Ok p = sym refused ∙ (ap (λ b. policy_of (document_of b)) (were'.whole ∙ sym were.whole) ∙ says) in
    absurd cc

-- with a policy that is ready, all was done or memory ran out
complete_run : (w : ServeReads) (policy : List ℕ) (count : ℕ) (a b : ServeOutside) (finish : Finish) → IsServeCause w policy count a b finish → IsPolicyToServe w policy → AreCalm a b → (finish_status finish ≡ 0) ⊎ (finish_status finish ≡ 6)
complete_run w policy count a b (Ran Done) cause ready calm = inl refl
complete_run w policy count a b (Ran NoMemory) cause ready calm = inr refl
complete_run w policy count a b (Ran WireFault) cause ready calm = absurd (calm.wires cause.2.1)
complete_run w policy count a b (Ran NoThread) cause ready calm = absurd (calm.starts cause.2.1)
complete_run w policy count a b (Early early.ReadFault) cause ready calm = absurd (ready.calm cause.0)
complete_run w policy count a b (Early early.NoMemory) cause ready calm = inr refl
complete_run w policy count a b (Early early.TooLarge) cause ready calm = absurd (read_within ready.bytes ready.p ready.says (subst (λ file. PassesLimit policy_limit file) ready.told cause.0))
complete_run w policy count a b (Early (early.PolicyRefused fault)) cause ready calm = absurd (not_refused ready.bytes ready.p fault ready.says (subst (λ file. PolicySays (Err fault) file) ready.told cause.0))
complete_run w policy count a b (Early other) cause ready calm = absurd cause.0

pub complete : (w : ServeReads) (a b : Places) (form : Option FormBytes) (finish : Finish) → ServeCauses w a b form finish → ServeCompletes w a b form (finish_status finish)
complete w a b (Some (OfServe policy listen count)) finish cause ready = complete_run w policy count (a listen) (b listen) finish cause ready.0 ready.1
complete w a b other finish cause ready = absurd ready
