-- A list is refused for the first action that is forbidden, and given where none is.
use Rattle.std.proofs.Common.{◌≡◌, ◌↔◌, ℕ, List, [], ◌∷◌, ◌++◌, Option, Some, None, Ok, Err, refl, ap, ◌∙◌}
use Rattle.std.specs.Option.{option_or}
use Rattle.of10_action.specs.declared.action.Action.{Action}
use Rattle.flowspace.specs.declared.rules.Rule.{Rule}
use Rattle.flowspace.proofs.Along.{option_or-None}
use Rattle.action_check.specs.declared.origin.Origin.{Origin}
use Rattle.action_check.specs.Origins.{image_after}
use Rattle.action_check.specs.ActionRules.{code_of}
use Rattle.action_check.specs.Permitted.{first_code, expanded, permitted}
use Rattle.action_check.specs.Refusals.{image_of, AreAllowed, IsFirstForbidden}
use Rattle.action_check.proofs.Answering.{said, permitted-Some, permitted-None}

-- ---- where no action is forbidden

no_split : (before later : List Action) (action : Action) → [] ≡ before ++ (action ∷ later) → ⊥
no_split [] later action e = cc
no_split (first ∷ before) later action e = cc

allowed_from : (rs : List Rule) (slot : ℕ) (image : Origin) (first : Action) (others : List Action) → code_of rs slot image first ≡ None → AreAllowed rs slot (image_after image first) others
    → AreAllowed rs slot image (first ∷ others)
allowed_from rs slot image first others e rest [] later action splits = let same : first ≡ action = cc in rw same at e
allowed_from rs slot image first others e rest (head ∷ before) later action splits =
    let same : first ≡ head = cc in
    let behind : others ≡ before ++ (action ∷ later) = cc in
    rw same at (rest before later action behind)

AreAllowed-None : (rs : List Rule) (slot : ℕ) (image : Origin) (actions : List Action) → first_code rs slot image actions ≡ None → AreAllowed rs slot image actions
AreAllowed-None rs slot image [] e = λ before later action splits. absurd (no_split before later action splits)
AreAllowed-None rs slot image (first ∷ others) e =
    let none = option_or-None (code_of rs slot image first) (first_code rs slot (image_after image first) others) e in
    allowed_from rs slot image first others none.0 (AreAllowed-None rs slot (image_after image first) others none.1)

both_none : (o p : Option ℕ) → o ≡ None → p ≡ None → option_or o p ≡ None
both_none o p e f = rw (e, f) refl

later_allowed : (rs : List Rule) (slot : ℕ) (image : Origin) (first : Action) (others : List Action) → AreAllowed rs slot image (first ∷ others) → AreAllowed rs slot (image_after image first) others
later_allowed rs slot image first others all = λ before later action splits. all (first ∷ before) later action (ap (λ (xs : List Action). first ∷ xs) splits)

None-AreAllowed : (rs : List Rule) (slot : ℕ) (image : Origin) (actions : List Action) → AreAllowed rs slot image actions → first_code rs slot image actions ≡ None
None-AreAllowed rs slot image [] all = refl
None-AreAllowed rs slot image (first ∷ others) all =
    both_none (code_of rs slot image first) (first_code rs slot (image_after image first) others) (all [] others first refl)
    (None-AreAllowed rs slot (image_after image first) others (later_allowed rs slot image first others all))

-- ---- the first that is

by_first : (rs : List Rule) (slot : ℕ) (image : Origin) (first : Action) (others : List Action) (code : ℕ) (o : Option ℕ) → code_of rs slot image first ≡ o
    → option_or o (first_code rs slot (image_after image first) others) ≡ Some code
    → (first_code rs slot (image_after image first) others ≡ Some code → IsFirstForbidden rs slot (image_after image first) others code)
    → IsFirstForbidden rs slot image (first ∷ others) code
by_first rs slot image first others code (Some own) e some deeper =
    record {
      before = [];
      action = first;
      later = others;
      splits = refl;
      forbidden = e ∙ some;
      none_before = λ before later action splits. absurd (no_split before later action splits);
    }
by_first rs slot image first others code None e some deeper =
    let f = deeper some in
    record {
      before = first ∷ f.before;
      action = f.action;
      later = f.later;
      splits = ap (λ (xs : List Action). first ∷ xs) f.splits;
      forbidden = f.forbidden;
      none_before = allowed_from rs slot image first f.before e f.none_before;
    }

IsFirstForbidden-Some : (rs : List Rule) (slot : ℕ) (image : Origin) (actions : List Action) (code : ℕ) → first_code rs slot image actions ≡ Some code → IsFirstForbidden rs slot image actions code
IsFirstForbidden-Some rs slot image [] code e = absurd (cc)
IsFirstForbidden-Some rs slot image (first ∷ others) code e =
    by_first rs slot image first others code (code_of rs slot image first) refl e (λ f. IsFirstForbidden-Some rs slot (image_after image first) others code f)

own_or : (o p : Option ℕ) (code : ℕ) → o ≡ Some code → option_or o p ≡ Some code
own_or o p code e = rw e refl

none_or : (o p : Option ℕ) (code : ℕ) → o ≡ None → p ≡ Some code → option_or o p ≡ Some code
none_or o p code e f = rw (e, f) refl

code_at : (rs : List Rule) (slot : ℕ) (image : Origin) (before later : List Action) (action : Action) (code : ℕ) → code_of rs slot (image_of image before) action ≡ Some code → AreAllowed rs slot image before
    → first_code rs slot image (before ++ (action ∷ later)) ≡ Some code
code_at rs slot image [] later action code e all = own_or (code_of rs slot image action) (first_code rs slot (image_after image action) later) code e
code_at rs slot image (first ∷ before) later action code e all =
    none_or (code_of rs slot image first) (first_code rs slot (image_after image first) (before ++ (action ∷ later))) code (all [] before first refl)
    (code_at rs slot (image_after image first) before later action code e (later_allowed rs slot image first before all))

-- ---- what is permitted

none_said : (list given : List Action) (o : Option ℕ) → said list o ≡ Ok given → o ≡ None
none_said list given None e = refl
none_said list given (Some code) e = absurd (cc)

some_said : (list : List Action) (o : Option ℕ) (code : ℕ) → said list o ≡ Err code → o ≡ Some code
some_said list None code e = absurd (cc)
some_said list (Some own) code e = let same : own ≡ code = cc in ap Some same

pub given_iff : (rs : List Rule) (slot : ℕ) (origin : Origin) (actions : List Action) (flood all : List ℕ) → (permitted rs slot origin actions flood all ≡ Ok (expanded flood all actions)) ↔ AreAllowed rs slot origin actions
given_iff rs slot origin actions flood all = (
  λ e. AreAllowed-None rs slot origin actions (none_said (expanded flood all actions) (expanded flood all actions) (first_code rs slot origin actions) e),
  λ allowed. permitted-None rs slot origin actions flood all (None-AreAllowed rs slot origin actions allowed),
)

pub refused_iff : (rs : List Rule) (slot : ℕ) (origin : Origin) (actions : List Action) (flood all : List ℕ) (code : ℕ) → (permitted rs slot origin actions flood all ≡ Err code) ↔ IsFirstForbidden rs slot origin actions code
refused_iff rs slot origin actions flood all code = (
  λ e. IsFirstForbidden-Some rs slot origin actions code (some_said (expanded flood all actions) (first_code rs slot origin actions) code e),
  λ f. permitted-Some rs slot origin actions flood all code (rw f.splits (code_at rs slot origin f.before f.later f.action code f.forbidden f.none_before)),
)
