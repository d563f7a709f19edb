-- Lists of actions with which nothing is wrong send where the slice may.
use Rattle.std.proofs.Common.{◌≡◌, ℕ, ◌==◌, false, List, [], ◌∷◌, All, Option, Some, None, option_map, Bool, true, leb, length, Result, Ok, Err, refl, sym, ap, ◌∙◌, inl, inr, if◌then◌else◌}
use Rattle.std.specs.List.{list_any}
use Rattle.std.proofs.lemmas.Bool.{cases_Bool, cond-true, cond-false}
use Rattle.std.proofs.lemmas.List.Elements.{All-nil}
use Rattle.of10_action.specs.declared.action.Action.{Action}
use Rattle.of10_action.specs.declared.action.Action.TheVariants.{Output, SetVlanVid, SetVlanPcp, StripVlan, SetDlSrc, SetDlDst, SetNwSrc, SetNwDst, SetNwTos, SetTpSrc, SetTpDst, Enqueue}
use Rattle.of10_port.specs.declared.protocol.TheConstants.{FLOOD, ALL}
use Rattle.flowspace.specs.declared.rules.Rule.{Rule}
use Rattle.flowspace.specs.Owners.{HasPort}
use Rattle.flowspace.proofs.Along.{option_map-None}
use Rattle.flowspace.proofs.Exchanging.{either_false}
use Rattle.action_check.specs.declared.origin.Origin.{Origin}
use Rattle.action_check.specs.declared.fault.CheckFault.{CheckFault}
use Rattle.action_check.specs.declared.fault.CheckFault.TheVariants.{Refused, TooMany}
use Rattle.of10_action.specs.Actions.{spelling}
use Rattle.action_check.specs.Permitted.{first_code, outputs, ports_for, spread, expanded, permitted, answer_of, GivesList}
use Rattle.action_check.specs.Soundness.{HasWay}
use Rattle.action_check.proofs.Answering.{permitted-None}
use Rattle.lane_laws.proofs.Own.{permitted_ways}
use Rattle.trace_audit.specs.declared.why.Why.TheVariants as why
use Rattle.trace_audit.specs.Judging.{is_flooding, action_code}

-- an output to ports, if some stand for its port, and else itself
abbrev put_by : ℕ → ℕ → Option (List ℕ) → List Action
put_by port max_len ports = elim ports [ None ↦ Output port max_len ∷ [] | Some ports ↦ outputs max_len ports ]

none_for : (port : ℕ) → (port == FLOOD) ≡ false → (port == ALL) ≡ false → ports_for port [] [] ≡ None
none_for port e f = cond-false (port == FLOOD) (Some []) (if port == ALL then Some [] else None) e ∙ cond-false (port == ALL) (Some []) None f

spread_same : (action : Action) → is_flooding action ≡ false → spread [] [] action ≡ action ∷ []
spread_same (Output port max_len) e = let each = either_false (port == FLOOD) (port == ALL) e in ap (put_by port max_len) (none_for port each.0 each.1)
spread_same (SetVlanVid vlan) e = refl
spread_same (SetVlanPcp priority) e = refl
spread_same StripVlan e = refl
spread_same (SetDlSrc address) e = refl
spread_same (SetDlDst address) e = refl
spread_same (SetNwSrc address) e = refl
spread_same (SetNwDst address) e = refl
spread_same (SetNwTos service) e = refl
spread_same (SetTpSrc port) e = refl
spread_same (SetTpDst port) e = refl
spread_same (Enqueue port queue) e = refl

-- a list that floods nowhere is sent as it is
expanded_same : (actions : List Action) → list_any is_flooding actions ≡ false → expanded [] [] actions ≡ actions
expanded_same [] e = refl
expanded_same (action ∷ others) e =
    let each = either_false (is_flooding action) (list_any is_flooding others) e in
    rw (spread_same action each.0, expanded_same others each.1) refl

code_None : (rs : List Rule) (slot : ℕ) (origin : Origin) (actions : List Action) → action_code rs slot origin actions ≡ None → (list_any is_flooding actions ≡ false) × (first_code rs slot origin actions ≡ None)
code_None rs slot origin actions e =
    elim (cases_Bool (list_any is_flooding actions)) [
      | inl floods ↦ let clash = sym (cond-true (list_any is_flooding actions) _ _ floods) ∙ e in absurd (cc)
      | inr none ↦ (none, sym (cond-false (list_any is_flooding actions) _ _ none) ∙ e)
    ]

permitted_as : (rs : List Rule) (slot : ℕ) (origin : Origin) (actions : List Action) → action_code rs slot origin actions ≡ None → permitted rs slot origin actions [] [] ≡ Ok actions
permitted_as rs slot origin actions e =
    let each = code_None rs slot origin actions e in
    permitted-None rs slot origin actions [] [] each.1 ∙ ap (λ list. Ok list) (expanded_same actions each.0)

-- each action of such a list sends where it may
pub ways_of : (rs : List Rule) (slot : ℕ) (origin : Origin) (actions : List Action) → option_map why.Action (action_code rs slot origin actions) ≡ None → All (HasWay rs slot origin) actions
ways_of rs slot origin actions e =
    permitted_ways rs slot origin actions [] [] actions (All-nil (HasPort rs slot)) (All-nil (HasPort rs slot))
    (permitted_as rs slot origin actions (option_map-None why.Action (action_code rs slot origin actions) e))

-- ---- what a check answers

abbrev with_code : List Action → Option ℕ → Result (List Action) ℕ
with_code list code = elim code [ None ↦ Ok list | Some own ↦ Err own ]

fits_or : (list : List Action) (b : Bool) (fault : CheckFault) → (if b then Ok list else Err TooMany) ≡ Err fault → fault ≡ TooMany
fits_or list true fault e = absurd (cc)
fits_or list false fault e = cc

code_of_fault : (list : List Action) (found : Option ℕ) (code : ℕ) → answer_of (with_code list found) ≡ Err (Refused code) → found ≡ Some code
code_of_fault list None code e = absurd (let clash = fits_or list (leb (length (spelling list)) 65463) (Refused code) e in cc)
code_of_fault list (Some own) code e = cc

-- the code that is refused is that of the list
pub refused : (rs : List Rule) (slot : ℕ) (origin : Origin) (actions : List Action) (code : ℕ) → GivesList (Err (Refused code)) (answer_of (permitted rs slot origin actions [] [])) → first_code rs slot origin actions ≡ Some code
refused rs slot origin actions code (inl e) = code_of_fault (expanded [] [] actions) (first_code rs slot origin actions) code e
refused rs slot origin actions code (inr e) = absurd (let clash = e.0 in cc)

none_too_many : (list : List Action) (found : Option ℕ) → answer_of (with_code list found) ≡ Err TooMany → found ≡ None
none_too_many list None e = refl
none_too_many list (Some own) e = absurd (cc)

-- a list that is too long has none, and so has one that is given
pub too_many : (rs : List Rule) (slot : ℕ) (origin : Origin) (actions : List Action) → GivesList (Err TooMany) (answer_of (permitted rs slot origin actions [] [])) → first_code rs slot origin actions ≡ None
too_many rs slot origin actions (inl e) = none_too_many (expanded [] [] actions) (first_code rs slot origin actions) e
too_many rs slot origin actions (inr e) = absurd (let clash = e.0 in cc)

none_given : (list given : List Action) (found : Option ℕ) → with_code list found ≡ Ok given → found ≡ None
none_given list given None e = refl
none_given list given (Some own) e = absurd (cc)

pub given : (rs : List Rule) (slot : ℕ) (origin : Origin) (actions list : List Action) → permitted rs slot origin actions [] [] ≡ Ok list → first_code rs slot origin actions ≡ None
given rs slot origin actions list e = none_given (expanded [] [] actions) list (first_code rs slot origin actions) e
