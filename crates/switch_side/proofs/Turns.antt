-- What follows for each slice from an entry that was removed, and from an error.
use Rattle.std.proofs.Common.{◌≡◌, ℕ, ◌/◌, ◌%◌, ◌^◌, ◌<◌, ◌==◌, Bool, true, false, if◌then◌else◌, List, [], ◌∷◌, ◌++◌, length, slice_get, refl, ap, ap₂, subst, sym, ◌∙◌, append-nil, arith, true≢false, eqb-true, Option, Some, None, option_map, option_and_then, Result, Ok, IfOk}
use Rattle.std.specs.declared.alloc.AllocError.{AllocError}
use Rattle.std.specs.List.{list_any}
use Rattle.std.proofs.lemmas.Bool.{eq-eqb, ltb-true}
use Rattle.std.proofs.lemmas.Option.{slice_get_within}
use Rattle.of10_model.specs.declared.pattern.Pattern.{Pattern}
use Rattle.of10_model.specs.Normal.{is_value, IsNormal}
use Rattle.of10_model.specs.Inclusion.{includes_of}
use Rattle.of10_flow.specs.declared.flow_removed.FlowRemoved.{FlowRemoved}
use Rattle.of10_flow.specs.FlowRemoveds.{spell_flow_removed}
use Rattle.of10_message.specs.Heads.{xid_of}
use Rattle.of10_message.specs.Errors.{ErrorMessage, pair_in}
use Rattle.of10_message.specs.Switch as says
use Rattle.of10_message.specs.Switch.{read_switch}
use Rattle.of10_port.specs.declared.features.Features.{Features}
use Rattle.flowspace.specs.declared.slices.Slice.{Slice}
use Rattle.flowspace.specs.declared.rules.Rule.{Rule}
use Rattle.flowspace.specs.declared.swaps.Swap.{Swap}
use Rattle.flowspace.specs.Owners.{owner_of_match}
use Rattle.flowspace.specs.Policies.{PolicyView, IsSwitchPolicy}
use Rattle.flowmod_expand.specs.Pieces.{writes_of}
use Rattle.xid_map.specs.declared.asked.Issued.{Issued}
use Rattle.xid_map.specs.Requests.{RequestCall, RequestsStand, physical_of, found}
use Rattle.flow_book.specs.declared.booked.Booked.{Booked}
use Rattle.flow_book.specs.Books.{booking}
use Rattle.flow_book.specs.declared.state.SliceState.{SliceState}
use Rattle.slice_words.specs.Items.{Settings, settings_of, Sight, Item, Removed, Fault, is_up}
use Rattle.slice_words.specs.Alone.{answers_for}
use Rattle.slice_words.specs.Answers.{removal_told, error_told}
use Rattle.slice_words.specs.Calls.{request_for, request_calls, collection_calls, book_calls}
use Rattle.slice_words.specs.Standing.{past_of}
use Rattle.desk_words.specs.declared.phase.Phase.TheVariants.{Opened}
use Rattle.desk_words.specs.Openings.{rules_of, swaps_of, KnownSwitch}
use Rattle.desk_words.specs.Histories.{is_slot, settings_at, SliceSide, removed_items, error_items}
use Rattle.switch_side.specs.declared.change.Change.TheVariants.{Released}
use Rattle.switch_side.specs.declared.dispatch.Dispatch.{Dispatch}
use Rattle.switch_side.specs.Dispatches.{AllStand}
use Rattle.switch_side.specs.Carrying.{carried, CallsOf, AllCalled, Turn, turning, while_up, removal_turn, owner_turn, removed_turn, failure_turn, request_turn, error_turn, request_seen}
use Rattle.switch_side.proofs.MessageTypes.{items_of_said}
use Rattle.switch_side.proofs.Owning.{is_owner}
use Rattle.switch_side.proofs.Standing.{fault_stands}
use Rattle.switch_side.proofs.Told.{has_item}
use Rattle.switch_side.proofs.Turning.{turn_at, turn_at-own, IsWithin, FollowsFrom, nothing_follows, EachFollows}

-- ---- the settings of a slot

abbrev settings_by : Option Slice → ℕ → List Rule → List Swap → Settings
settings_by None slot rules swaps = record { slot = slot; rate = 0; burst = 0; quota = 0; patterns = []; swaps = [] }
settings_by (Some slice) slot rules swaps = settings_of slice slot rules swaps

same_settings : (found : Option Slice) (p : PolicyView) (slot : ℕ) (told : Option Features) → slice_get p.slices slot ≡ found → settings_at p slot told ≡ settings_by found slot (rules_of p told) (swaps_of p told)
same_settings None p slot told is = rw (is, settings_at) refl
same_settings (Some slice) p slot told is = rw (is, settings_at) refl

slot_by : (found : Option Slice) (slot : ℕ) (rules : List Rule) (swaps : List Swap) → (settings_by found slot rules swaps).slot ≡ slot
slot_by None slot rules swaps = refl
slot_by (Some slice) slot rules swaps = refl

pub settings_slot : (p : PolicyView) (slot : ℕ) (told : Option Features) → (settings_at p slot told).slot ≡ slot
settings_slot p slot told = ap (λ (s : Settings). s.slot) (same_settings (slice_get p.slices slot) p slot told refl) ∙ slot_by (slice_get p.slices slot) slot (rules_of p told) (swaps_of p told)

pub settings_patterns : (p : PolicyView) (slot : ℕ) (told : Option Features) (slice : Slice) → slice_get p.slices slot ≡ Some slice → (settings_at p slot told).patterns ≡ writes_of (rules_of p told) slot
settings_patterns p slot told slice there = ap (λ (s : Settings). s.patterns) (same_settings (Some slice) p slot told there)

-- ---- the calls of a view

abbrev pub called_at : PolicyView → KnownSwitch → (ℕ → SliceSide) → ℕ → CallsOf
called_at p switch sides slot =
    let s = settings_at p slot switch.features in
    let past = past_of s (sides slot).sight.view in
    record { requests = request_calls s past; book = book_calls s past; collections = collection_calls s past }

pub all_called : (p : PolicyView) (switch : KnownSwitch) (sides : ℕ → SliceSide) (states : List SliceState) → AllStand p switch sides states → AllCalled (called_at p switch sides) states
all_called p switch sides states stand = λ slot state there.
    (subst (λ (n : ℕ). RequestsStand n (called_at p switch sides slot).requests state.xids) (settings_slot p slot switch.features) (stand slot state there).requests, (stand slot state there).book, (stand slot state there).collections)

-- ---- a slice alone

told_where : (asks : Bool) (entry : FlowRemoved) (message : List ℕ) → ((if asks then message ∷ [] else []) ++ []) ≡ (if asks then message ∷ [] else [])
told_where true entry message = refl
told_where false entry message = refl

told_again : (b : Option Booked) (entry : FlowRemoved) → (removal_told b (record entry { xid = 0 }) ++ []) ≡ removal_told b entry
told_again None entry = refl
told_again (Some booked) entry = told_where booked.asked entry (spell_flow_removed (record entry { xid = 0 }))

removal_sent : (s : Settings) (view : List Item) (entry : FlowRemoved) (up : Bool) → is_up view ≡ up
    → answers_for s view (Removed (record entry { xid = 0 }) ∷ []) ≡ while_up up (removal_told (booking entry.pattern entry.priority (book_calls s (past_of s view))) entry)
removal_sent s view entry true is = rw is (told_again (booking entry.pattern entry.priority (book_calls s (past_of s view))) entry)
removal_sent s view entry false is = rw is refl

fault_sent : (s : Settings) (view : List Item) (x class code : ℕ) (pair : Option (Pattern × ℕ)) (up : Bool) → is_up view ≡ up
    → answers_for s view (Fault x class code pair ∷ []) ≡ while_up up (error_told (request_for s x (request_calls s (past_of s view))) class code)
fault_sent s view x class code pair true is = rw is (append-nil (error_told (request_for s x (request_calls s (past_of s view))) class code))
fault_sent s view x class code pair false is = rw is refl

pub while_none : (up : Bool) → while_up up [] ≡ []
while_none true = refl
while_none false = refl

-- ---- turns of other slices

mapped_elsewhere : {A : Type 0} (slot : ℕ) (make : A → Turn) (given : Option A) → ((a : A) → ((make a).slot == slot) ≡ false) → turn_at slot (option_map make given) ≡ None
mapped_elsewhere slot make None other = refl
mapped_elsewhere slot make (Some a) other = rw (other a) refl

mapped_within : {A : Type 0} (p : PolicyView) (make : A → Turn) (given : Option A) → ((a : A) → given ≡ Some a → (make a).slot < length p.slices) → IsWithin p (option_map make given)
mapped_within p make None within = tt
mapped_within p make (Some a) within = within a refl

-- a request that is sought at another slot
sought_elsewhere : (slot : ℕ) (called : CallsOf) (xid : ℕ) (error : ErrorMessage) (top : ℕ) (given : Option SliceState) → (top == slot) ≡ false
    → turn_at slot (option_and_then (λ state. request_turn called xid error top state) given) ≡ None
sought_elsewhere slot called xid error top None other = refl
sought_elsewhere slot called xid error top (Some state) other = mapped_elsewhere slot (failure_turn xid error top state) (found top xid called.requests) (λ request. other)

sought_within : (p : PolicyView) (called : CallsOf) (xid : ℕ) (error : ErrorMessage) (top : ℕ) (given : Option SliceState) → ((state : SliceState) → given ≡ Some state → top < length p.slices)
    → IsWithin p (option_and_then (λ state. request_turn called xid error top state) given)
sought_within p called xid error top None within = tt
sought_within p called xid error top (Some state) within = mapped_within p (failure_turn xid error top state) (found top xid called.requests) (λ request there. within state refl)

-- ---- one slice among all

module _ (p : PolicyView) (switch : KnownSwitch) (sides : ℕ → SliceSide) (states : List SliceState) (same : length states ≡ length p.slices) (stand : AllStand p switch sides states) where
  abbrev called : ℕ → CallsOf
  called = called_at p switch sides

  abbrev settings : ℕ → Settings
  settings slot = settings_at p slot switch.features

  abbrev sight : ℕ → Sight
  sight slot = (sides slot).sight

  -- ---- an entry that was removed

  removal_follows : (slot : ℕ) (state : SliceState) (entry : FlowRemoved) → slice_get states slot ≡ Some state
      → FollowsFrom (settings slot) (sight slot) (Removed (record entry { xid = 0 }) ∷ []) (Some (removal_turn (called slot) entry slot state))
  removal_follows slot state entry there = (
    removal_sent (settings slot) (sight slot).view entry (is_up (sight slot).view) refl
        ∙ ap (λ up. while_up up (removal_told (booking entry.pattern entry.priority (called slot).book) entry)) (sym (stand slot state there).up),
    (refl, record { entry = record entry { xid = 0 }; shown = refl; same_pattern = refl; same_priority = refl }),
  )

  own_turn : (slot one : ℕ) (state : SliceState) (entry : FlowRemoved) → slice_get states slot ≡ Some state → (one == slot) ≡ true
      → turn_at slot (owner_turn called states entry (Some one)) ≡ Some (removal_turn (called slot) entry slot state)
  own_turn slot one state entry there is = rw (eqb-true one slot is, there, eq-eqb slot slot refl) refl

  by_owner : (slot : ℕ) (state : SliceState) (entry : FlowRemoved) (owner : Option ℕ) (mine : Bool) → slice_get states slot ≡ Some state → is_value slot owner ≡ mine
      → FollowsFrom (settings slot) (sight slot) (if mine then Removed (record entry { xid = 0 }) ∷ [] else []) (turn_at slot (owner_turn called states entry owner))
  by_owner slot state entry None true there is = absurd (true≢false (sym is))
  by_owner slot state entry None false there is = nothing_follows (settings slot) (sight slot)
  by_owner slot state entry (Some one) true there is =
      subst (FollowsFrom (settings slot) (sight slot) (Removed (record entry { xid = 0 }) ∷ [])) (sym (own_turn slot one state entry there is)) (removal_follows slot state entry there)
  by_owner slot state entry (Some one) false there is =
      subst (FollowsFrom (settings slot) (sight slot) []) (sym (mapped_elsewhere slot (removal_turn (called one) entry one) (slice_get states one) (λ other. is))) (nothing_follows (settings slot) (sight slot))

  shown_removal : (slices : List Slice) (slot : ℕ) (entry : FlowRemoved) → IsSwitchPolicy slices (rules_of p switch.features) → IsNormal entry.pattern → is_slot p slot ≡ true
      → removed_items (settings slot) entry ≡ (if is_value slot (owner_of_match (rules_of p switch.features) entry.pattern) then Removed (record entry { xid = 0 }) ∷ [] else [])
  shown_removal slices slot entry policy normal here =
      let slice = has_item p.slices slot (ltb-true slot (length p.slices) here) in
      ap (λ (patterns : List Pattern). if list_any (λ pattern. includes_of pattern entry.pattern) patterns then Removed (record entry { xid = 0 }) ∷ [] else []) (settings_patterns p slot switch.features slice.0 slice.1)
      ∙ ap (λ (mine : Bool). if mine then Removed (record entry { xid = 0 }) ∷ [] else []) (is_owner slot entry.pattern slices (rules_of p switch.features) policy normal)

  removed_follows : (slices : List Slice) (slot : ℕ) (entry : FlowRemoved) → IsSwitchPolicy slices (rules_of p switch.features) → IsNormal entry.pattern → is_slot p slot ≡ true
      → FollowsFrom (settings slot) (sight slot) (removed_items (settings slot) entry) (turn_at slot (removed_turn called (rules_of p switch.features) states entry))
  removed_follows slices slot entry policy normal here =
      let owner = owner_of_match (rules_of p switch.features) entry.pattern in
      let state = has_item states slot (omega (arith, ltb-true slot (length p.slices) here, same)) in
      subst (λ items. FollowsFrom (settings slot) (sight slot) items (turn_at slot (owner_turn called states entry owner))) (sym (shown_removal slices slot entry policy normal here))
      (by_owner slot state.0 entry owner (is_value slot owner) state.1 refl)

  owner_within : (entry : FlowRemoved) (owner : Option ℕ) → IsWithin p (owner_turn called states entry owner)
  owner_within entry None = tt
  owner_within entry (Some one) = mapped_within p (removal_turn (called one) entry one) (slice_get states one) (λ state there. omega (arith, slice_get_within states one state there, same))

  pub removed_within : (entry : FlowRemoved) → IsWithin p (removed_turn called (rules_of p switch.features) states entry)
  removed_within entry = owner_within entry (owner_of_match (rules_of p switch.features) entry.pattern)

  pub removals_follow : (slices : List Slice) (moment : ℕ) (message : List ℕ) (entry : FlowRemoved) → switch.phase ≡ Opened → read_switch message ≡ Ok (says.FlowRemoved entry)
      → IsSwitchPolicy slices (rules_of p switch.features) → IsNormal entry.pattern
      → EachFollows p switch sides moment message (removed_turn called (rules_of p switch.features) states entry)
  removals_follow slices moment message entry opened is policy normal = λ slot here.
      subst (λ items. FollowsFrom (settings slot) (sight slot) items (turn_at slot (removed_turn called (rules_of p switch.features) states entry)))
      (sym (items_of_said p slot moment switch (sides slot) message (Ok (says.FlowRemoved entry)) opened here is))
      (removed_follows slices slot entry policy normal here)

  -- ---- an error

  pub same_request : (slot xid : ℕ) → (xid / 2 ^ 24) ≡ slot → (calls : List RequestCall) → request_for (settings slot) (xid % 2 ^ 24) calls ≡ found slot xid calls
  same_request slot xid top calls =
      let id : physical_of slot (xid % 2 ^ 24) ≡ xid = omega (arith, top) in
      ap (λ (n : ℕ). found n (physical_of n (xid % 2 ^ 24)) calls) (settings_slot p slot switch.features) ∙ ap (λ (x : ℕ). found slot x calls) id

  by_request : (slot xid : ℕ) (state : SliceState) (error : ErrorMessage) (request : Option Issued) → slice_get states slot ≡ Some state
      → request_for (settings slot) (xid % 2 ^ 24) (called slot).requests ≡ request
      → FollowsFrom (settings slot) (sight slot) (Fault (xid % 2 ^ 24) error.class error.code (pair_in xid error.cause) ∷ []) (turn_at slot (option_map (failure_turn xid error slot state) request))
  by_request slot xid state error None there is = (
    fault_sent (settings slot) (sight slot).view (xid % 2 ^ 24) error.class error.code (pair_in xid error.cause) (is_up (sight slot).view) refl
        ∙ ap (λ (request : Option Issued). while_up (is_up (sight slot).view) (error_told request error.class error.code)) is ∙ while_none (is_up (sight slot).view),
    λ kept stands. fault_stands (settings slot) (sight slot) kept (xid % 2 ^ 24) error.class error.code (pair_in xid error.cause) is stands,
  )
  by_request slot xid state error (Some request) there is =
      subst (FollowsFrom (settings slot) (sight slot) (Fault (xid % 2 ^ 24) error.class error.code (pair_in xid error.cause) ∷ []))
      (sym (turn_at-own slot (failure_turn xid error slot state request) (eq-eqb slot slot refl))) (
        fault_sent (settings slot) (sight slot).view (xid % 2 ^ 24) error.class error.code (pair_in xid error.cause) (is_up (sight slot).view) refl
            ∙ ap₂ (λ (up : Bool) (request_ : Option Issued). while_up up (error_told request_ error.class error.code)) (sym (stand slot state there).up) is,
        (refl, record { x = xid % 2 ^ 24; class = error.class; code = error.code; request = request; shown = refl; found = is; same_number = refl }),
      )

  own_sought : (slot top xid : ℕ) (state : SliceState) (error : ErrorMessage) → slice_get states slot ≡ Some state → (top == slot) ≡ true
      → turn_at slot (option_and_then (λ state. request_turn (called top) xid error top state) (slice_get states top)) ≡ turn_at slot (option_map (failure_turn xid error slot state) (found slot xid (called slot).requests))
  own_sought slot top xid state error there is = rw (eqb-true top slot is, there) refl

  by_top : (slot xid : ℕ) (state : SliceState) (error : ErrorMessage) (mine : Bool) → slice_get states slot ≡ Some state → ((xid / 2 ^ 24) == slot) ≡ mine
      → FollowsFrom (settings slot) (sight slot) (if mine then Fault (xid % 2 ^ 24) error.class error.code (pair_in xid error.cause) ∷ [] else []) (turn_at slot (error_turn called states xid error))
  by_top slot xid state error true there is =
      subst (FollowsFrom (settings slot) (sight slot) (Fault (xid % 2 ^ 24) error.class error.code (pair_in xid error.cause) ∷ [])) (sym (own_sought slot (xid / 2 ^ 24) xid state error there is))
      (by_request slot xid state error (found slot xid (called slot).requests) there (same_request slot xid (eqb-true (xid / 2 ^ 24) slot is) (called slot).requests))
  by_top slot xid state error false there is =
      subst (FollowsFrom (settings slot) (sight slot) []) (sym (sought_elsewhere slot (called (xid / 2 ^ 24)) xid error (xid / 2 ^ 24) (slice_get states (xid / 2 ^ 24)) is)) (nothing_follows (settings slot) (sight slot))

  error_follows : (slot xid : ℕ) (error : ErrorMessage) → is_slot p slot ≡ true
      → FollowsFrom (settings slot) (sight slot) (error_items (settings slot) xid error) (turn_at slot (error_turn called states xid error))
  error_follows slot xid error here =
      let state = has_item states slot (omega (arith, ltb-true slot (length p.slices) here, same)) in
      subst (λ (n : ℕ). FollowsFrom (settings slot) (sight slot) (if (xid / 2 ^ 24) == n then Fault (xid % 2 ^ 24) error.class error.code (pair_in xid error.cause) ∷ [] else []) (turn_at slot (error_turn called states xid error)))
      (sym (settings_slot p slot switch.features))
      (by_top slot xid state.0 error ((xid / 2 ^ 24) == slot) state.1 refl)

  pub error_within : (xid : ℕ) (error : ErrorMessage) → IsWithin p (error_turn called states xid error)
  error_within xid error =
      sought_within p (called (xid / 2 ^ 24)) xid error (xid / 2 ^ 24) (slice_get states (xid / 2 ^ 24)) (λ state there. omega (arith, slice_get_within states (xid / 2 ^ 24) state there, same))

  pub errors_follow : (moment : ℕ) (message : List ℕ) (error : ErrorMessage) → switch.phase ≡ Opened → read_switch message ≡ Ok (says.Error error)
      → EachFollows p switch sides moment message (error_turn called states (xid_of message) error)
  errors_follow moment message error opened is = λ slot here.
      subst (λ items. FollowsFrom (settings slot) (sight slot) items (turn_at slot (error_turn called states (xid_of message) error)))
      (sym (items_of_said p slot moment switch (sides slot) message (Ok (says.Error error)) opened here is))
      (error_follows slot (xid_of message) error here)

-- ---- the same of what the code finds

pub owner_found : (called : ℕ → CallsOf) (states : List SliceState) (slot : ℕ) (state : SliceState) (entry : FlowRemoved) (b : Option Booked) (r : Result Dispatch AllocError)
    → slice_get states slot ≡ Some state → b ≡ booking entry.pattern entry.priority (called slot).book
    → IfOk r (λ d. carried d ≡ turning (Some (record { slot = slot; messages = while_up state.up (removal_told b entry); change = Released entry.pattern entry.priority })))
    → IfOk r (λ d. carried d ≡ turning (owner_turn called states entry (Some slot)))
owner_found called states slot state entry b r there is ok = rw (there, sym is) ok

pub request_found : (called : ℕ → CallsOf) (states : List SliceState) (xid slot : ℕ) (state : SliceState) (error : ErrorMessage) (request : Issued) (r : Result Dispatch AllocError)
    → slot ≡ xid / 2 ^ 24 → slice_get states slot ≡ Some state → Some request ≡ request_seen called states xid
    → IfOk r (λ d. carried d ≡ turning (Some (failure_turn xid error slot state request)))
    → IfOk r (λ d. carried d ≡ turning (error_turn called states xid error))
request_found called states xid slot state error request r top there is ok =
    let calls : Some request ≡ found (xid / 2 ^ 24) xid (called (xid / 2 ^ 24)).requests = rw (subst (λ (n : ℕ). slice_get states n ≡ Some state) top there) at is in
    rw (subst (λ (n : ℕ). slice_get states n ≡ Some state) top there, ← calls)
    (subst (λ (n : ℕ). IfOk r (λ d. carried d ≡ turning (Some (failure_turn xid error n state request)))) top ok)

-- no request is found
none_sought : (called : CallsOf) (xid : ℕ) (error : ErrorMessage) (top : ℕ) (given : Option SliceState) → None ≡ option_and_then (λ state. found top xid called.requests) given
    → None ≡ option_and_then (λ state. request_turn called xid error top state) given
none_sought called xid error top None is = refl
none_sought called xid error top (Some state) is = ap (option_map (failure_turn xid error top state)) is

pub request_none : (called : ℕ → CallsOf) (states : List SliceState) (xid : ℕ) (error : ErrorMessage) → None ≡ request_seen called states xid → None ≡ error_turn called states xid error
request_none called states xid error is = none_sought (called (xid / 2 ^ 24)) xid error (xid / 2 ^ 24) (slice_get states (xid / 2 ^ 24)) is

pub removed_found : (called : ℕ → CallsOf) (rules : List Rule) (states : List SliceState) (slot : ℕ) (entry : FlowRemoved) (r : Result Dispatch AllocError) → Some slot ≡ owner_of_match rules entry.pattern
    → IfOk r (λ d. carried d ≡ turning (owner_turn called states entry (Some slot))) → IfOk r (λ d. carried d ≡ turning (removed_turn called rules states entry))
removed_found called rules states slot entry r owner_is ok = rw (sym owner_is) ok
