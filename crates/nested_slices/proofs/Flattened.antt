-- What a division answers, read off its faults.
use Rattle.std.proofs.Common.{◌≡◌, ◌⊎◌, ◌||◌, ℕ, ◌<◌, ◌≤◌, true, false, nat_lt, is_none, Bool, List, [], ◌∷◌, length, All, IfOk, IfErr, IfSome, Option, Some, None, option_map, option_and_then, Result, Ok, Err, position, slice_get, refl, sym, subst, ◌∙◌, ap, arith, inl, inr}
use Rattle.std.specs.List.{position_or_len}
use Rattle.std.proofs.lemmas.Bool.{cases_Bool, ltb-false, lt-ltb, le-ltb, true≢false, cond-true}
use Rattle.std.proofs.lemmas.List.Elements.{All-nil, All-cons, All-weaker}
use Rattle.flowspace.specs.declared.fault.What.TheVariants.{Slices, Rules}
use Rattle.flowspace.specs.declared.fault.PolicyFault.{PolicyFault}
use Rattle.flowspace.specs.declared.fault.PolicyFault.TheVariants.{TooMany, Memory as OutOfMemory}
use Rattle.flowspace.specs.declared.slices.Slice.{Slice}
use Rattle.flowspace.specs.declared.rules.Rule.{Rule}
use Rattle.flowspace.specs.Slices.{IsPlainSlice}
use Rattle.flowspace.specs.Rules.{IsPlainRule}
use Rattle.flowspace.specs.Options.{when, first_some}
use Rattle.flowspace.specs.Policies.{PolicyView, IsPolicy, AreNormal}
use Rattle.flowspace.specs.Loading.{fault_of, load_of}
use Rattle.flowspace.proofs.Along.{option_map-None}
use Rattle.flowspace.proofs.Accepting.{IsPolicy-fault_of}
use Rattle.nested_slices.specs.declared.fault.NestFault.{NestFault}
use Rattle.nested_slices.specs.declared.fault.NestFault.TheVariants.{Swaps, Reader, Rate, Burst, Quota, Refused, Memory}
use Rattle.nested_slices.specs.declared.shares.Shares.{Shares}
use Rattle.nested_slices.specs.Flat.{flat}
use Rattle.nested_slices.specs.Space.{HasWriter, IsGiven, IsDivisible}
use Rattle.nested_slices.specs.Refused.{shares_of, AreWithin, has_swaps, unwritten, passes, share_fault, early_fault, told_flat, told_fault, flatten_of, GivesFlat, IsNestFault}
use Rattle.nested_slices.proofs.Whole.{flat_slices_length, flat_slices_plain, flat_plain, flat_fault}

-- ---- no early fault

none_placed : {A : Type 0} (p : A → Bool) (xs : List A) → length xs ≤ position_or_len p xs → All (λ x. p x ≡ false) xs
none_placed p [] le = All-nil (λ x. p x ≡ false)
none_placed p (x ∷ xs) le =
    elim (cases_Bool (p x)) [
      | inl here ↦ let past = rw here at le in absurd (omega arith)
      | inr isnt ↦ let later = rw isnt at le in All-cons (λ y. p y ≡ false) x xs isnt (none_placed p xs (omega arith))
    ]

position_None : {A : Type 0} (p : A → Bool) (xs : List A) → position p xs ≡ None → All (λ x. p x ≡ false) xs
position_None p xs none =
    elim (cases_Bool (nat_lt (position_or_len p xs) (length xs))) [
      | inl some ↦ let found = sym (cond-true (nat_lt (position_or_len p xs) (length xs)) (Some (position_or_len p xs)) None some) ∙ none in absurd cc
      | inr past ↦ none_placed p xs (ltb-false (position_or_len p xs) (length xs) past)
    ]

given_writer : (o : Option ℕ) → is_none o ≡ false → (t : ℕ) × (o ≡ Some t)
given_writer None isnt = absurd (true≢false isnt)
given_writer (Some t) isnt = (t, refl)

all_written : (rules : List Rule) → unwritten rules ≡ None → All HasWriter rules
all_written rules none = All-weaker (λ q. is_none q.writer ≡ false) HasWriter (λ q isnt. given_writer q.writer isnt) rules (position_None (λ q. is_none q.writer) rules none)

when_None : {A : Type 0} (b : Bool) (x : A) → when b x ≡ None → b ≡ false
when_None true x none = absurd cc
when_None false x none = refl

within_limit : (fault : ℕ → NestFault) (limit total : ℕ) → passes fault limit total ≡ None → total ≤ limit
within_limit fault limit total none = ltb-false limit total (when_None (nat_lt limit total) (fault total) none)

three_None : {A : Type 0} (a b c : Option A) → first_some (a ∷ b ∷ c ∷ []) ≡ None → (a ≡ None) × (b ≡ None) × (c ≡ None)
three_None None None None none = (refl, refl, refl)
three_None None None (Some z) none = absurd cc
three_None None (Some y) c none = absurd cc
three_None (Some x) b c none = absurd cc

no_share_fault : (total : Shares) (holder : Slice) → share_fault total holder ≡ None → AreWithin total holder
no_share_fault total holder none =
    let each = three_None (passes Rate holder.rate total.rate) (passes Burst holder.burst total.burst) (passes Quota holder.quota total.quota) none in
    record {
      rates = within_limit Rate holder.rate total.rate each.0;
      bursts = within_limit Burst holder.burst total.burst each.1;
      quotas = within_limit Quota holder.quota total.quota each.2;
    }

no_holder_fault : (total : Shares) (o : Option Slice) → option_and_then (share_fault total) o ≡ None → IfSome o (AreWithin total)
no_holder_fault total None none = tt
no_holder_fault total (Some holder) none = no_share_fault total holder none

early_None : (outer : PolicyView) (slot : ℕ) (inner : PolicyView) → early_fault outer slot inner ≡ None → (when (has_swaps outer || has_swaps inner) Swaps ≡ None) × (unwritten inner.rules ≡ None) × (option_and_then (share_fault (shares_of inner.slices)) (slice_get outer.slices slot) ≡ None)
early_None outer slot inner none =
    let each = three_None (when (has_swaps outer || has_swaps inner) Swaps) (option_map Reader (unwritten inner.rules)) (option_and_then (share_fault (shares_of inner.slices)) (slice_get outer.slices slot)) none in
    (each.0, option_map-None Reader (unwritten inner.rules) each.1, each.2)

pub divisible : (outer : PolicyView) (slot : ℕ) (inner : PolicyView) → IsGiven outer slot inner → early_fault outer slot inner ≡ None → IsDivisible outer slot inner
divisible outer slot inner given none = record {
  outer_policy = given.outer_policy;
  inner_policy = given.inner_policy;
  is_slot = given.is_slot;
  written = all_written inner.rules (early_None outer slot inner none).1;
}

-- ---- what is answered

pub told_early : (outer : PolicyView) (slot : ℕ) (inner : PolicyView) (fault : NestFault) → early_fault outer slot inner ≡ Some fault → flatten_of outer slot inner ≡ Err fault
unfolding flatten_of
told_early outer slot inner fault is = rw (is, flatten_of) refl

pub told_late : (outer : PolicyView) (slot : ℕ) (inner : PolicyView) → early_fault outer slot inner ≡ None → flatten_of outer slot inner ≡ told_flat (load_of (flat outer slot inner).slices (flat outer slot inner).rules)
unfolding flatten_of
told_late outer slot inner none = rw (none, flatten_of) refl

told_Ok : (r : Result PolicyView PolicyFault) (p : PolicyView) → told_flat r ≡ Ok p → r ≡ Ok p
told_Ok (Ok q) p is = let same : ◌≡◌ {A = Result PolicyView NestFault} (Ok q) (Ok p) = is in cc
told_Ok (Err fault) p is = absurd cc

loaded_is : (ss : List Slice) (rs : List Rule) (p : PolicyView) (o : Option PolicyFault) → fault_of ss rs ≡ o → load_of ss rs ≡ Ok p → (fault_of ss rs ≡ None) × (p ≡ record { slices = ss; rules = rs; swaps = [] })
loaded_is ss rs p None none loaded =
    let made : ◌≡◌ {A = Result PolicyView PolicyFault} (Ok (record { slices = ss; rules = rs; swaps = [] })) (Ok p) = rw (none, load_of) at loaded in
    (none, cc)
loaded_is ss rs p (Some fault) is loaded =
    let refused : ◌≡◌ {A = Result PolicyView PolicyFault} (Err fault) (Ok p) = rw (is, load_of) at loaded in
    absurd cc

-- where a policy is answered, there was no early fault, it is the flat one, and a policy
pub record IsFlat (outer : PolicyView) (slot : ℕ) (inner : PolicyView) (p : PolicyView) : Type 0 where
  pub none_early : early_fault outer slot inner ≡ None
  pub is : p ≡ flat outer slot inner
  pub no_fault : fault_of (flat outer slot inner).slices (flat outer slot inner).rules ≡ None

told_is : (outer : PolicyView) (slot : ℕ) (inner p : PolicyView) (o : Option NestFault) → early_fault outer slot inner ≡ o → flatten_of outer slot inner ≡ Ok p → IsFlat outer slot inner p
unfolding flat
told_is outer slot inner p None none told =
    let f = flat outer slot inner in
    let loaded = loaded_is f.slices f.rules p (fault_of f.slices f.rules) refl (told_Ok (load_of f.slices f.rules) p (sym (told_late outer slot inner none) ∙ told)) in
    record { none_early = none; is = loaded.1; no_fault = loaded.0 }
told_is outer slot inner p (Some fault) is told =
    let refused : ◌≡◌ {A = Result PolicyView NestFault} (Err fault) (Ok p) = sym (told_early outer slot inner fault is) ∙ told in
    absurd cc

flat_some : (outer : PolicyView) (slot : ℕ) (inner : PolicyView) → IsDivisible outer slot inner → 1 ≤ length (flat outer slot inner).slices
unfolding flat
flat_some outer slot inner is =
    let long = flat_slices_length outer.slices inner.slices slot is.is_slot in
    let some = is.inner_policy.proper.some_slice in
    omega arith

flat_all_plain : (outer : PolicyView) (slot : ℕ) (inner : PolicyView) → IsDivisible outer slot inner → All IsPlainSlice (flat outer slot inner).slices
unfolding flat
flat_all_plain outer slot inner is = flat_slices_plain outer.slices inner.slices slot is.outer_policy.proper.plain_slices is.inner_policy.proper.plain_slices

pub flat_policy : (outer : PolicyView) (slot : ℕ) (inner : PolicyView) → IsDivisible outer slot inner → fault_of (flat outer slot inner).slices (flat outer slot inner).rules ≡ None → IsPolicy (flat outer slot inner).slices (flat outer slot inner).rules
flat_policy outer slot inner is none =
    IsPolicy-fault_of (flat outer slot inner).slices (flat outer slot inner).rules (flat_some outer slot inner is) (flat_all_plain outer slot inner is) (flat_plain outer slot inner is) none

-- what holds of the flat policy holds of a policy that is answered
pub of_answer : (P : PolicyView → Type 0) (outer : PolicyView) (slot : ℕ) (inner : PolicyView) (r : Result PolicyView NestFault) → IsGiven outer slot inner → GivesFlat r (flatten_of outer slot inner)
    → (early_fault outer slot inner ≡ None → IsDivisible outer slot inner → IsPolicy (flat outer slot inner).slices (flat outer slot inner).rules → P (flat outer slot inner)) → IfOk r P
of_answer P outer slot inner (Ok p) given answer holds =
    let told = told_is outer slot inner p (early_fault outer slot inner) refl answer in
    let is = divisible outer slot inner given told.none_early in
    subst P (sym told.is) (holds told.none_early is (flat_policy outer slot inner is told.no_fault))
of_answer P outer slot inner (Err fault) given answer holds = tt

pub within_holder : (outer : PolicyView) (slot : ℕ) (inner : PolicyView) → early_fault outer slot inner ≡ None → IfSome (slice_get outer.slices slot) (AreWithin (shares_of inner.slices))
within_holder outer slot inner none = no_holder_fault (shares_of inner.slices) (slice_get outer.slices slot) (early_None outer slot inner none).2

-- ---- too many of something

fault_loaded : (ss : List Slice) (rs : List Rule) (fault : PolicyFault) → fault_of ss rs ≡ Some fault → load_of ss rs ≡ Err fault
fault_loaded ss rs fault is = rw (is, load_of) refl

slices_fault : (ss : List Slice) (rs : List Rule) → 32 < length ss → fault_of ss rs ≡ Some (TooMany Slices (length ss))
unfolding fault_of
slices_fault ss rs more = rw (lt-ltb 32 (length ss) more) refl

rules_fault : (ss : List Slice) (rs : List Rule) → length ss ≤ 32 → 2048 < length rs → fault_of ss rs ≡ Some (TooMany Rules (length rs))
unfolding fault_of
rules_fault ss rs few more = rw (le-ltb 32 (length ss) few, lt-ltb 2048 (length rs) more) refl

pub too_many_slices : (ss : List Slice) (rs : List Rule) → 32 < length ss → load_of ss rs ≡ Err (TooMany Slices (length ss))
too_many_slices ss rs more = fault_loaded ss rs (TooMany Slices (length ss)) (slices_fault ss rs more)

pub too_many_rules : (ss : List Slice) (rs : List Rule) → length ss ≤ 32 → 2048 < length rs → load_of ss rs ≡ Err (TooMany Rules (length rs))
too_many_rules ss rs few more = fault_loaded ss rs (TooMany Rules (length rs)) (rules_fault ss rs few more)

-- ---- which faults come

one_of_three : {A : Type 0} (P : A → Type 0) (a b c : Option A) → IfSome a P → IfSome b P → IfSome c P → IfSome (first_some (a ∷ b ∷ c ∷ [])) P
one_of_three P None None None x y z = tt
one_of_three P None None (Some c) x y z = z
one_of_three P None (Some b) c x y z = y
one_of_three P (Some a) b c x y z = x

when_some : {A : Type 0} (P : A → Type 0) (b : Bool) (x : A) → P x → IfSome (when b x) P
when_some P true x p = p
when_some P false x p = tt

share_few : (total : Shares) (holder : Slice) → IfSome (share_fault total holder) IsNestFault
share_few total holder =
    one_of_three IsNestFault (passes Rate holder.rate total.rate) (passes Burst holder.burst total.burst) (passes Quota holder.quota total.quota)
    (when_some IsNestFault (nat_lt holder.rate total.rate) (Rate total.rate) tt)
    (when_some IsNestFault (nat_lt holder.burst total.burst) (Burst total.burst) tt)
    (when_some IsNestFault (nat_lt holder.quota total.quota) (Quota total.quota) tt)

reader_few : (o : Option ℕ) → IfSome (option_map Reader o) IsNestFault
reader_few None = tt
reader_few (Some place) = tt

holder_few : (total : Shares) (o : Option Slice) → IfSome (option_and_then (share_fault total) o) IsNestFault
holder_few total None = tt
holder_few total (Some holder) = share_few total holder

early_few_all : (outer : PolicyView) (slot : ℕ) (inner : PolicyView) → IfSome (early_fault outer slot inner) IsNestFault
early_few_all outer slot inner =
    one_of_three IsNestFault (when (has_swaps outer || has_swaps inner) Swaps) (option_map Reader (unwritten inner.rules)) (option_and_then (share_fault (shares_of inner.slices)) (slice_get outer.slices slot))
    (when_some IsNestFault (has_swaps outer || has_swaps inner) Swaps tt) (reader_few (unwritten inner.rules)) (holder_few (shares_of inner.slices) (slice_get outer.slices slot))

pub early_few : (outer : PolicyView) (slot : ℕ) (inner : PolicyView) (fault : NestFault) → early_fault outer slot inner ≡ Some fault → IsNestFault fault
early_few outer slot inner fault is = subst (λ o. IfSome o IsNestFault) is (early_few_all outer slot inner)

told_Err : (l : Result PolicyView PolicyFault) (fault : NestFault) → told_flat l ≡ Err fault → (f : PolicyFault) × (l ≡ Err f) × (fault ≡ Refused f)
told_Err (Ok p) fault is = absurd cc
told_Err (Err f) fault is = let same : ◌≡◌ {A = Result PolicyView NestFault} (Err (Refused f)) (Err fault) = is in (f, refl, cc)

pub late_few : (outer : PolicyView) (slot : ℕ) (inner : PolicyView) (r : Result PolicyView NestFault) → IsDivisible outer slot inner → AreNormal (flat outer slot inner).rules
    → GivesFlat r (told_flat (load_of (flat outer slot inner).slices (flat outer slot inner).rules)) → IfErr r IsNestFault
late_few outer slot inner (Ok p) is normal answer = tt
late_few outer slot inner (Err fault) is normal (inl memory) = subst IsNestFault (sym memory) tt
late_few outer slot inner (Err fault) is normal (inr told) =
    let f = flat outer slot inner in
    let refused = told_Err (load_of f.slices f.rules) fault told in
    subst IsNestFault (sym refused.2) (flat_fault outer slot inner refused.0 is normal refused.1)

-- what `load` answers, reported again
pub told_again : (fault : PolicyFault) (l : Result PolicyView PolicyFault) → (fault ≡ OutOfMemory) ⊎ (l ≡ Err fault) → (told_fault fault ≡ Memory) ⊎ (told_flat l ≡ Err (told_fault fault))
told_again OutOfMemory l either = inl refl
told_again fault l (inl memory) = absurd cc
told_again fault l (inr told) = inr (ap told_flat told)

-- ---- early faults, one by one

swaps_first : (b : Bool) (x y : Option NestFault) → b ≡ true → first_some (when b Swaps ∷ x ∷ y ∷ []) ≡ Some Swaps
swaps_first b x y some = rw some refl

reader_first : (b : Bool) (u : Option ℕ) (y : Option NestFault) (place : ℕ) → b ≡ false → u ≡ Some place → first_some (when b Swaps ∷ option_map Reader u ∷ y ∷ []) ≡ Some (Reader place)
reader_first b u y place plain is = rw (plain, is) refl

share_first : (b : Bool) (u : Option ℕ) (y : Option NestFault) → b ≡ false → u ≡ None → first_some (when b Swaps ∷ option_map Reader u ∷ y ∷ []) ≡ y
share_first b u None plain none = rw (plain, none) refl
share_first b u (Some y) plain none = rw (plain, none) refl

pub early_swaps : (outer : PolicyView) (slot : ℕ) (inner : PolicyView) → (has_swaps outer || has_swaps inner) ≡ true → early_fault outer slot inner ≡ Some Swaps
early_swaps outer slot inner some =
    swaps_first (has_swaps outer || has_swaps inner) (option_map Reader (unwritten inner.rules)) (option_and_then (share_fault (shares_of inner.slices)) (slice_get outer.slices slot)) some

pub early_reader : (outer : PolicyView) (slot : ℕ) (inner : PolicyView) (place : ℕ) → (has_swaps outer || has_swaps inner) ≡ false → unwritten inner.rules ≡ Some place → early_fault outer slot inner ≡ Some (Reader place)
early_reader outer slot inner place plain is =
    reader_first (has_swaps outer || has_swaps inner) (unwritten inner.rules) (option_and_then (share_fault (shares_of inner.slices)) (slice_get outer.slices slot)) place plain is

pub early_share : (outer : PolicyView) (slot : ℕ) (inner : PolicyView) (holder : Slice) → (has_swaps outer || has_swaps inner) ≡ false → unwritten inner.rules ≡ None → slice_get outer.slices slot ≡ Some holder → early_fault outer slot inner ≡ share_fault (shares_of inner.slices) holder
early_share outer slot inner holder plain none at =
    share_first (has_swaps outer || has_swaps inner) (unwritten inner.rules) (option_and_then (share_fault (shares_of inner.slices)) (slice_get outer.slices slot)) plain none
    ∙ ap (option_and_then (share_fault (shares_of inner.slices))) at

pub some_flat : (outer : PolicyView) (slot : ℕ) (inner : PolicyView) → IsGiven outer slot inner → early_fault outer slot inner ≡ None → (1 ≤ length (flat outer slot inner).slices) × All IsPlainSlice (flat outer slot inner).slices × All IsPlainRule (flat outer slot inner).rules
some_flat outer slot inner given none =
    let is = divisible outer slot inner given none in
    (flat_some outer slot inner is, flat_all_plain outer slot inner is, flat_plain outer slot inner is)
