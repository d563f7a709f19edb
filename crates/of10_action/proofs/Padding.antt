-- Padding says nothing.
use Rattle.std.proofs.Common.{◌≡◌, ℕ, zero, suc, ◌≤◌, List, drop, Ok, refl, sym, ap, ◌∙◌, arith}
use Rattle.of10_model.specs.Padding.{AlikeBut}
use Rattle.of10_model.proofs.Padding.{number_before, byte_before, rest_behind, number_behind}
use Rattle.of10_model.proofs.Results.{ok_is, bind_ok}
use Rattle.of10_action.specs.declared.action.Action.{Action}
use Rattle.of10_action.specs.declared.action.Action.TheVariants.{Output, SetVlanVid, SetVlanPcp, StripVlan, SetDlSrc, SetDlDst, SetNwSrc, SetNwDst, SetNwTos, SetTpSrc, SetTpDst, Enqueue}
use Rattle.of10_action.specs.Actions.{size_of, padding_of, AlikeButPadding}
use Rattle.of10_action.specs.Reading.{head_at, action_of, action_at}
use Rattle.of10_action.proofs.Loop.{head_is}

same_first : (kind : ℕ) (a b : List ℕ) → kind ≤ 11 → AlikeButPadding (action_of kind a) a b → (action_of kind a ≡ action_of kind b) × (drop (size_of kind) a ≡ drop (size_of kind) b)
unfolding action_of
same_first zero a b le h = (rw (number_before 8 8 a b h 4 2 (omega arith), number_before 8 8 a b h 6 2 (omega arith)) refl, h.rest)
same_first (suc zero) a b le h = (rw (number_before 6 8 a b h 4 2 (omega arith)) refl, h.rest)
same_first (suc (suc zero)) a b le h = (rw (byte_before 5 8 a b h 4 (omega arith)) refl, h.rest)
same_first (suc (suc (suc zero))) a b le h = (refl, h.rest)
same_first (suc (suc (suc (suc zero)))) a b le h = (rw (number_before 10 16 a b h 4 6 (omega arith)) refl, h.rest)
same_first (suc (suc (suc (suc (suc zero))))) a b le h = (rw (number_before 10 16 a b h 4 6 (omega arith)) refl, h.rest)
same_first (suc (suc (suc (suc (suc (suc zero)))))) a b le h = (rw (number_before 8 8 a b h 4 4 (omega arith)) refl, h.rest)
same_first (suc (suc (suc (suc (suc (suc (suc zero))))))) a b le h = (rw (number_before 8 8 a b h 4 4 (omega arith)) refl, h.rest)
same_first (suc (suc (suc (suc (suc (suc (suc (suc zero)))))))) a b le h = (rw (byte_before 5 8 a b h 4 (omega arith)) refl, h.rest)
same_first (suc (suc (suc (suc (suc (suc (suc (suc (suc zero))))))))) a b le h = (rw (number_before 6 8 a b h 4 2 (omega arith)) refl, h.rest)
same_first (suc (suc (suc (suc (suc (suc (suc (suc (suc (suc zero)))))))))) a b le h = (rw (number_before 6 8 a b h 4 2 (omega arith)) refl, h.rest)
same_first (suc (suc (suc (suc (suc (suc (suc (suc (suc (suc (suc zero))))))))))) a b le h = (rw (number_before 6 12 a b h 4 2 (omega arith), number_behind 6 12 a b h 0 4) refl, rest_behind 6 12 a b h 4)
same_first (suc (suc (suc (suc (suc (suc (suc (suc (suc (suc (suc (suc n)))))))))))) a b le h = absurd (omega arith)

behind_head : (action : Action) → 4 ≤ (padding_of action).0
behind_head (Output port max_len) = omega arith
behind_head (SetVlanVid vlan) = omega arith
behind_head (SetVlanPcp priority) = omega arith
behind_head StripVlan = omega arith
behind_head (SetDlSrc address) = omega arith
behind_head (SetDlDst address) = omega arith
behind_head (SetNwSrc address) = omega arith
behind_head (SetNwDst address) = omega arith
behind_head (SetNwTos service) = omega arith
behind_head (SetTpSrc port) = omega arith
behind_head (SetTpDst port) = omega arith
behind_head (Enqueue port queue) = omega arith

same_head : (from to : ℕ) (a b : List ℕ) → 4 ≤ from → AlikeBut from to a b → head_at a ≡ head_at b
unfolding head_at
same_head from to a b le h = rw (h.size, number_before from to a b h 0 2 (omega arith), number_before from to a b h 2 2 (omega arith)) refl

pub action_alike : (a b rest : List ℕ) (action : Action) → action_at a ≡ Ok (action, rest) → AlikeButPadding action a b → action_at b ≡ Ok (action, rest)
unfolding action_at
action_alike a b rest action e h =
    let (head, read, found) = bind_ok (head_at a) (λ h. Ok (action_of h.0 a, drop h.1 a)) (action, rest) e in
    let is = head_is a head read in
    let made = ok_is (action_of head.0 a, drop head.1 a) (action, rest) found in
    let own : action_of head.0 a ≡ action = ap (λ (y : Action × List ℕ). y.0) made in
    let alike : AlikeButPadding (action_of head.0 a) a b = rw own h in
    let same = same_first head.0 a b is.known alike in
    let also : head_at b ≡ Ok head = sym (same_head (padding_of action).0 (padding_of action).1 a b (behind_head action) h) ∙ read in
    let behind : drop head.1 b ≡ rest = ap (λ n. drop n b) is.of_kind ∙ sym same.1 ∙ ap (λ n. drop n a) (sym is.of_kind) ∙ ap (λ (y : Action × List ℕ). y.1) made in
    let action_is : action_of head.0 b ≡ action = sym same.0 ∙ own in
    rw (also, behind, action_is) refl
