-- What follows for each slice from what the switch replies under a transaction id.
use Rattle.std.proofs.Common.{◌≡◌, ℕ, ◌/◌, ◌%◌, ◌^◌, ◌<◌, ◌==◌, ◌&&◌, Bool, true, false, if◌then◌else◌, List, [], ◌∷◌, ◌++◌, map, length, slice_get, refl, ap, ap₂, subst, sym, ◌∙◌, append-nil, arith, eqb-true, Option, Some, None, option_and_then, Ok}
use Rattle.std.specs.List.{concat}
use Rattle.std.proofs.lemmas.Bool.{eq-eqb, ltb-true}
use Rattle.std.proofs.lemmas.Option.{slice_get_within}
use Rattle.std.proofs.lemmas.List.Elements.{filter_agree}
use Rattle.of10_message.specs.Heads.{xid_of}
use Rattle.of10_message.specs.Queues.{QueuesMessage}
use Rattle.of10_message.specs.Switch as says
use Rattle.of10_message.specs.Switch.{read_switch}
use Rattle.of10_stats.specs.declared.reply.StatsPart.{StatsPart}
use Rattle.flowspace.specs.declared.slices.Slice.{Slice}
use Rattle.flowspace.specs.declared.rules.Rule.{Rule}
use Rattle.flowspace.specs.Owners.{has_port}
use Rattle.flowspace.specs.Policies.{PolicyView}
use Rattle.flowmod_expand.specs.Pieces.{writes_of}
use Rattle.xid_map.specs.declared.asked.Issued.{Issued}
use Rattle.xid_map.specs.Requests.{RequestCall, found}
use Rattle.xid_map.specs.Collections.{CollectionCall, gathered}
use Rattle.stats_filter.specs.Keeping.{entries_in, is_own_entry}
use Rattle.flow_book.specs.declared.state.SliceState.{SliceState}
use Rattle.slice_words.specs.Items.{Settings, lone_rules, is_own_port, Sight, Item, Barrier, Queues, Entry, Last, is_up}
use Rattle.slice_words.specs.Pasts.{is_any}
use Rattle.slice_words.specs.Statistics.{collects, collected_replies, barrier_told, queues_told}
use Rattle.slice_words.specs.Alone.{answer_to, answers_for}
use Rattle.slice_words.specs.Calls.{request_for, request_calls, collection_calls}
use Rattle.slice_words.specs.Standing.{SliceStands, past_of}
use Rattle.slice_words.proofs.Forgetting.{found_up}
use Rattle.slice_words.proofs.LoneRules.{same_port, same_entry}
use Rattle.desk_words.specs.declared.phase.Phase.TheVariants.{Opened}
use Rattle.desk_words.specs.Openings.{rules_of, KnownSwitch}
use Rattle.desk_words.specs.Histories.{is_slot, settings_at, SliceSide, barrier_items, queues_items, own_entries, is_part, part_items, statistics_items, seen_with, kept_entries}
use Rattle.switch_side.specs.declared.change.Change.TheVariants.{Collected, Finished}
use Rattle.switch_side.specs.Changes.{is_reply_under}
use Rattle.switch_side.specs.Collecting.{entry_calls}
use Rattle.switch_side.specs.Dispatches.{AllStand}
use Rattle.switch_side.specs.Carrying.{CallsOf, Turn, while_up, request_seen, answer_turn, barrier_turn, queues_turn, part_turn, collecting_turn, statistics_turn}
use Rattle.switch_side.proofs.MessageTypes.{items_of_said}
use Rattle.switch_side.proofs.Replying.{with_entries, entries_rest, entries_requests, entries_book, entries_sent, entries_then, is_open, entries_closed, end_sent, ended, ended_rest, closed_sent, closed_requests, closed_collections, reply_rest, reply_collections, reply_book, reply_unmarked, some_more}
use Rattle.switch_side.proofs.Standing.{Differs, stands_on}
use Rattle.switch_side.proofs.Told.{has_item}
use Rattle.switch_side.proofs.Turning.{turn_at, IsWithin, FollowsFrom, nothing_follows, EachFollows}
use Rattle.switch_side.proofs.Turns.{called_at, settings_slot, same_request, while_none}
use Rattle.switch_side.proofs.Walking.{kept_found}

-- ---- turns at one slot

-- a turn, if there is one, is that of a slot
abbrev IsAt : ℕ → Option Turn → Type 0
IsAt top None = Unit {0}
IsAt top (Some turn) = turn.slot ≡ top

turn_if : (here : Bool) (slot : ℕ) (turn : Turn) → (turn.slot == slot) ≡ here → turn_at slot (Some turn) ≡ (if here then Some turn else None)
turn_if true slot turn is = rw is refl
turn_if false slot turn isnt = rw isnt refl

turn_own : (slot top : ℕ) (turn : Option Turn) → IsAt top turn → (top == slot) ≡ true → turn_at slot turn ≡ turn
turn_own slot top None at is = refl
turn_own slot top (Some turn) at is = turn_if true slot turn (ap (λ (n : ℕ). n == slot) at ∙ is)

turn_elsewhere : (slot top : ℕ) (turn : Option Turn) → IsAt top turn → (top == slot) ≡ false → turn_at slot turn ≡ None
turn_elsewhere slot top None at isnt = refl
turn_elsewhere slot top (Some turn) at isnt = turn_if false slot turn (ap (λ (n : ℕ). n == slot) at ∙ isnt)

turn_within : (p : PolicyView) (top : ℕ) (turn : Option Turn) → IsAt top turn → top < length p.slices → IsWithin p turn
turn_within p top None at under = tt
turn_within p top (Some turn) at under = omega (arith, at, under)

answer_at : (top : ℕ) (messages : List (List ℕ)) (number : ℕ) → IsAt top (answer_turn top messages number)
answer_at top [] number = tt
answer_at top (message ∷ others) number = refl

part_slot : (rules : List Rule) (called : CallsOf) (top : ℕ) (part : StatsPart) (body : List ℕ) (request : Issued) (more : Bool) → part.more ≡ more → (part_turn rules called top part body request).slot ≡ top
part_slot rules called top part body request true is = rw is refl
part_slot rules called top part body request false is = rw is refl

collecting_at : (rules : List Rule) (called : CallsOf) (top : ℕ) (part : StatsPart) (body : List ℕ) (request : Issued) → IsAt top (collecting_turn rules called top part body request)
collecting_at rules called top part body request = by_test (collects request part.kind called.collections)
  where
    by_test : (open_ : Bool) → IsAt top (if open_ then Some (part_turn rules called top part body request) else None)
    by_test true = part_slot rules called top part body request part.more refl
    by_test false = tt

then_at : (top : ℕ) (make : Issued → Option Turn) (seen : Option Issued) → ((request : Issued) → IsAt top (make request)) → IsAt top (option_and_then make seen)
then_at top make None at = tt
then_at top make (Some request) at = at request

if_at : (top : ℕ) (here : Bool) (turn : Option Turn) → IsAt top turn → IsAt top (if here then turn else None)
if_at top true turn at = at
if_at top false turn at = tt

if_within : (p : PolicyView) (here : Bool) (turn : Option Turn) → IsWithin p turn → IsWithin p (if here then turn else None)
if_within p true turn within = within
if_within p false turn within = tt

if_both : (a b : Bool) (items : List Item) → (if a && b then items else []) ≡ (if a then (if b then items else []) else [])
if_both true b items = refl
if_both false b items = refl

-- ---- a slice alone

same_state : (state : SliceState) → Differs state state
same_state state = record { buffers = refl; bucket = refl; up = refl; miss_send_len = refl; moment = refl }

module _ (s : Settings) (sight : Sight) (x : ℕ) where
  abbrev calls : List RequestCall
  calls = request_calls s (past_of s sight.view)

  abbrev collected : List CollectionCall
  collected = collection_calls s (past_of s sight.view)

  -- ---- a reply to a barrier, or on queues

  -- a reply that the slice isn't sent
  reply_passes : (item : Item) (state : SliceState) → is_reply_under x item ≡ true → (answer_to s sight.view item).to_slice ≡ [] → SliceStands s sight state → SliceStands s (seen_with None (item ∷ []) sight) state
  reply_passes item state is none stands =
      stands_on s sight (item ∷ sight.view) state state (reply_rest s x sight.view item is) (same_state state) stands (rw (reply_unmarked s x sight.view item is none) stands.requests)
      (rw (reply_collections s x sight.view item is) stands.collections) (rw (reply_book s x sight.view item is) stands.book)

  untold : (item : Item) → is_reply_under x item ≡ true → (answer_to s sight.view item).to_slice ≡ [] → FollowsFrom s sight (item ∷ []) None
  untold item is none = (ap (λ (messages : List (List ℕ)). messages ++ []) none, λ state stands. reply_passes item state is none stands)

  by_told : (item : Item) (top : ℕ) (request : Issued) (messages : List (List ℕ)) → is_reply_under x item ≡ true → request_for s x calls ≡ Some request → (answer_to s sight.view item).to_slice ≡ messages
      → FollowsFrom s sight (item ∷ []) (answer_turn top messages request.number)
  by_told item top request [] is found_is said = untold item is said
  by_told item top request (message ∷ others) is found_is said = (
    append-nil (answer_to s sight.view item).to_slice ∙ said,
    (
      refl,
      record {
        x = x;
        item = item;
        request = request;
        shown = refl;
        reply = is;
        found = found_is;
        same_number = refl;
        told = ap (λ (all : List (List ℕ)). is_any all) said ∙ some_more message others;
      },
    ),
  )

  reply_follows : (item : Item) (top : ℕ) (say : Option Issued → List (List ℕ)) (seen : Option Issued) → is_reply_under x item ≡ true → (answer_to s sight.view item).to_slice ≡ while_up (is_up sight.view) (say (request_for s x calls))
      → say None ≡ [] → request_for s x calls ≡ seen → FollowsFrom s sight (item ∷ []) (option_and_then (λ request. answer_turn top (say (Some request)) request.number) seen)
  reply_follows item top say None is says none found_is =
      untold item is (says ∙ ap (while_up (is_up sight.view)) (ap say found_is ∙ none) ∙ while_none (is_up sight.view))
  reply_follows item top say (Some request) is says none found_is =
      by_told item top request (say (Some request)) is found_is
      (says ∙ ap₂ (λ (up : Bool) (messages : List (List ℕ)). while_up up messages) (found_up s sight.view x request found_is) (ap say found_is))

  -- ---- a part of statistics

  module _ (sent : ℕ) (entries : List (List ℕ)) where
    abbrev behind : Bool → List Item
    behind more = if more then [] else Last x sent ∷ []

    abbrev shown : Bool → List Item
    shown more = map (Entry x sent) entries ++ behind more

    -- what isn't collected changes nothing
    closed_stands : (more : Bool) (state : SliceState) → is_open sent (request_for s x calls) collected ≡ false → SliceStands s sight state → SliceStands s (seen_with None (shown more) sight) state
    closed_stands true state closed stands =
        subst (λ (view : List Item). SliceStands s (record { view = view; came = sight.came }) state) (sym (entries_then s x sent entries sight.view []))
        (stands_on s sight (with_entries s x sent entries sight.view) state state (entries_rest s x sent entries sight.view) (same_state state) stands (rw (entries_requests s x sent entries sight.view) stands.requests)
        (rw (entries_closed s x sent entries sight.view closed) stands.collections) (rw (entries_book s x sent entries sight.view) stands.book))
    closed_stands false state closed stands =
        subst (λ (view : List Item). SliceStands s (record { view = view; came = sight.came }) state) (sym (entries_then s x sent entries sight.view (Last x sent ∷ [])))
        (stands_on s sight (ended s x sent entries sight.view) state state (ended_rest s x sent entries sight.view) (same_state state) stands (rw (closed_requests s x sent entries sight.view closed) stands.requests)
        (rw (closed_collections s x sent entries sight.view closed) stands.collections) (rw (entries_book s x sent entries sight.view) stands.book))

    closed_told : (more : Bool) → is_open sent (request_for s x calls) collected ≡ false → answers_for s sight.view (shown more) ≡ []
    closed_told true closed = entries_sent s x sent entries sight.view []
    closed_told false closed = entries_sent s x sent entries sight.view (Last x sent ∷ []) ∙ ap (λ (messages : List (List ℕ)). messages ++ []) (closed_sent s x sent entries sight.view closed)

    pub closed_follows : (more : Bool) → is_open sent (request_for s x calls) collected ≡ false → FollowsFrom s sight (shown more) None
    closed_follows more closed = (closed_told more closed, λ state stands. closed_stands more state closed stands)

    module _ (request : Issued) (found_is : request_for s x calls ≡ Some request) (open_ : collects request sent collected ≡ true) where
      pub more_follows : (slot : ℕ) (kept : List ℕ) → entries_in sent kept ≡ entries → FollowsFrom s sight (shown true) (Some (record { slot = slot; messages = []; change = Collected request.number request.asked.kind kept }))
      more_follows slot kept same = (
        entries_sent s x sent entries sight.view [],
        (
          refl,
          record {
            x = x;
            sent = sent;
            gathering = record { request = request; found = found_is; same_number = refl; collecting = open_ };
            same_kind = refl;
            shown = append-nil (map (Entry x sent) entries) ∙ ap (map (Entry x sent)) (sym same);
          },
        ),
      )

      pub last_follows : (slot : ℕ) → FollowsFrom s sight (shown false) (Some (record {
        slot = slot;
        messages = collected_replies request.asked.kind (gathered request.number (entry_calls request.asked.kind request.number entries collected)) request.asked.xid;
        change = Finished request.number;
      }))
      last_follows slot = (
        entries_sent s x sent entries sight.view (Last x sent ∷ []) ∙ append-nil (answer_to s (with_entries s x sent entries sight.view) (Last x sent)).to_slice
            ∙ end_sent s x sent request entries sight.view found_is open_,
        (refl, record { x = x; sent = sent; entries = entries; gathering = record { request = request; found = found_is; same_number = refl; collecting = open_ }; shown = refl }),
      )

-- ---- one slice among all

module _ (p : PolicyView) (switch : KnownSwitch) (sides : ℕ → SliceSide) (states : List SliceState) (same : length states ≡ length p.slices) (stand : AllStand p switch sides states) where
  abbrev called : ℕ → CallsOf
  called = called_at p switch sides

  abbrev settings : ℕ → Settings
  settings slot = settings_at p slot switch.features

  abbrev sight : ℕ → Sight
  sight slot = (sides slot).sight

  abbrev rules : List Rule
  rules = rules_of p switch.features

  -- the request that is seen is the one that is found for the slice
  seen_own : (slot xid : ℕ) (state : SliceState) → slice_get states slot ≡ Some state → ((xid / 2 ^ 24) == slot) ≡ true → request_for (settings slot) (xid % 2 ^ 24) (called slot).requests ≡ request_seen called states xid
  seen_own slot xid state there is =
      let top = eqb-true (xid / 2 ^ 24) slot is in
      same_request p switch sides states same stand slot xid top (called slot).requests ∙ sym (seen_at slot xid state there top)
    where
      seen_at : (k x : ℕ) (one : SliceState) → slice_get states k ≡ Some one → (x / 2 ^ 24) ≡ k → request_seen called states x ≡ found k x (called k).requests
      seen_at k x one at top = rw (top, at) refl

  -- what is made of it is the turn of a slice
  seen_within : (xid : ℕ) (make : Issued → Option Turn) → ((request : Issued) → IsAt (xid / 2 ^ 24) (make request)) → IsWithin p (option_and_then make (request_seen called states xid))
  seen_within xid make at = by_state (slice_get states (xid / 2 ^ 24)) refl
    where
      by_request : (under : (xid / 2 ^ 24) < length p.slices) (seen : Option Issued) → IsWithin p (option_and_then make seen)
      by_request under seen = turn_within p (xid / 2 ^ 24) (option_and_then make seen) (then_at (xid / 2 ^ 24) make seen at) under

      by_state : (state : Option SliceState) → slice_get states (xid / 2 ^ 24) ≡ state → IsWithin p (option_and_then make (option_and_then (λ one. found (xid / 2 ^ 24) xid (called (xid / 2 ^ 24)).requests) state))
      by_state None is = tt
      by_state (Some one) is = by_request (omega (arith, slice_get_within states (xid / 2 ^ 24) one is, same)) (found (xid / 2 ^ 24) xid (called (xid / 2 ^ 24)).requests)

  -- the slice whose slot is the top byte of the id is shown it, and no other
  by_top : (slot xid : ℕ) (shown : List Item) (turn : Option Turn) (mine : Bool) → IsAt (xid / 2 ^ 24) turn → ((xid / 2 ^ 24) == slot) ≡ mine
      → (((xid / 2 ^ 24) == slot) ≡ true → FollowsFrom (settings slot) (sight slot) shown turn) → FollowsFrom (settings slot) (sight slot) (if mine then shown else []) (turn_at slot turn)
  by_top slot xid shown turn true at is own = subst (FollowsFrom (settings slot) (sight slot) shown) (sym (turn_own slot (xid / 2 ^ 24) turn at is)) (own is)
  by_top slot xid shown turn false at is own = subst (FollowsFrom (settings slot) (sight slot) []) (sym (turn_elsewhere slot (xid / 2 ^ 24) turn at is)) (nothing_follows (settings slot) (sight slot))

  state_at : (slot : ℕ) → is_slot p slot ≡ true → (state : SliceState) × (slice_get states slot ≡ Some state)
  state_at slot here = has_item states slot (omega (arith, ltb-true slot (length p.slices) here, same))

  slice_at : (slot : ℕ) → is_slot p slot ≡ true → (slice : Slice) × (slice_get p.slices slot ≡ Some slice)
  slice_at slot here = has_item p.slices slot (ltb-true slot (length p.slices) here)

  -- ---- barriers

  barrier_says : (slot x : ℕ) (up : Bool) → is_up (sight slot).view ≡ up
      → (answer_to (settings slot) (sight slot).view (Barrier x)).to_slice ≡ while_up up (barrier_told (request_for (settings slot) x (called slot).requests))
  barrier_says slot x true is = rw is refl
  barrier_says slot x false is = rw is refl

  barrier_own : (slot xid : ℕ) (state : SliceState) → slice_get states slot ≡ Some state → ((xid / 2 ^ 24) == slot) ≡ true
      → FollowsFrom (settings slot) (sight slot) (Barrier (xid % 2 ^ 24) ∷ []) (barrier_turn called states xid)
  barrier_own slot xid state there is =
      reply_follows (settings slot) (sight slot) (xid % 2 ^ 24) (Barrier (xid % 2 ^ 24)) (xid / 2 ^ 24) barrier_told (request_seen called states xid) (eq-eqb (xid % 2 ^ 24) (xid % 2 ^ 24) refl)
      (barrier_says slot (xid % 2 ^ 24) (is_up (sight slot).view) refl) refl (seen_own slot xid state there is)

  barrier_at : (xid : ℕ) → IsAt (xid / 2 ^ 24) (barrier_turn called states xid)
  barrier_at xid = then_at (xid / 2 ^ 24) _ (request_seen called states xid) (λ request. answer_at (xid / 2 ^ 24) (barrier_told (Some request)) request.number)

  pub barrier_within : (xid : ℕ) → IsWithin p (barrier_turn called states xid)
  barrier_within xid = seen_within xid _ (λ request. answer_at (xid / 2 ^ 24) (barrier_told (Some request)) request.number)

  barrier_shows : (slot xid : ℕ) → barrier_items (settings slot) xid ≡ (if (xid / 2 ^ 24) == slot then Barrier (xid % 2 ^ 24) ∷ [] else [])
  barrier_shows slot xid = ap (λ (n : ℕ). if (xid / 2 ^ 24) == n then Barrier (xid % 2 ^ 24) ∷ [] else []) (settings_slot p slot switch.features)

  pub barriers_follow : (moment : ℕ) (message : List ℕ) → switch.phase ≡ Opened → read_switch message ≡ Ok says.BarrierReply → EachFollows p switch sides moment message (barrier_turn called states (xid_of message))
  barriers_follow moment message opened is = λ slot here.
      let xid = xid_of message in
      let turn = barrier_turn called states xid in
      let state = state_at slot here in
      subst (λ (items : List Item). FollowsFrom (settings slot) (sight slot) items (turn_at slot turn))
      (sym (items_of_said p slot moment switch (sides slot) message (Ok says.BarrierReply) opened here is ∙ barrier_shows slot xid))
      (by_top slot xid (Barrier (xid % 2 ^ 24) ∷ []) turn ((xid / 2 ^ 24) == slot) (barrier_at xid) refl (λ own. barrier_own slot xid state.0 state.1 own))

  -- ---- queues

  queues_says : (slot x : ℕ) (body : List ℕ) (up : Bool) → is_up (sight slot).view ≡ up
      → (answer_to (settings slot) (sight slot).view (Queues x body)).to_slice ≡ while_up up (queues_told (request_for (settings slot) x (called slot).requests) body)
  queues_says slot x body true is = rw is refl
  queues_says slot x body false is = rw is refl

  abbrev queues_made : ℕ → QueuesMessage → Option Turn
  queues_made xid queues = option_and_then (λ request. answer_turn (xid / 2 ^ 24) (queues_told (Some request) queues.body) request.number) (request_seen called states xid)

  queues_own : (slot xid : ℕ) (queues : QueuesMessage) (has : Bool) (state : SliceState) → slice_get states slot ≡ Some state → ((xid / 2 ^ 24) == slot) ≡ true
      → FollowsFrom (settings slot) (sight slot) (if has then Queues (xid % 2 ^ 24) queues.body ∷ [] else []) (if has then queues_made xid queues else None)
  queues_own slot xid queues false state there is = nothing_follows (settings slot) (sight slot)
  queues_own slot xid queues true state there is =
      reply_follows (settings slot) (sight slot) (xid % 2 ^ 24) (Queues (xid % 2 ^ 24) queues.body) (xid / 2 ^ 24) (λ request. queues_told request queues.body) (request_seen called states xid)
      (eq-eqb (xid % 2 ^ 24) (xid % 2 ^ 24) refl) (queues_says slot (xid % 2 ^ 24) queues.body (is_up (sight slot).view) refl) refl (seen_own slot xid state there is)

  queues_at : (xid : ℕ) (queues : QueuesMessage) → IsAt (xid / 2 ^ 24) (queues_turn called rules states xid queues)
  queues_at xid queues =
      if_at (xid / 2 ^ 24) (has_port rules (xid / 2 ^ 24) queues.port) (queues_made xid queues)
      (then_at (xid / 2 ^ 24) _ (request_seen called states xid) (λ request. answer_at (xid / 2 ^ 24) (queues_told (Some request) queues.body) request.number))

  pub queues_within : (xid : ℕ) (queues : QueuesMessage) → IsWithin p (queues_turn called rules states xid queues)
  queues_within xid queues =
      if_within p (has_port rules (xid / 2 ^ 24) queues.port) (queues_made xid queues) (seen_within xid _ (λ request. answer_at (xid / 2 ^ 24) (queues_told (Some request) queues.body) request.number))

  -- by its settings the slice has the ports that it has by the policy's rules
  port_own : (slot port : ℕ) (slice : Slice) → slice_get p.slices slot ≡ Some slice → is_own_port (settings slot).slot (settings slot).patterns port ≡ has_port rules slot port
  port_own slot port slice there = rw (there, settings_at) (same_port slot rules port)

  queues_shows : (slot xid : ℕ) (queues : QueuesMessage) (slice : Slice) → slice_get p.slices slot ≡ Some slice
      → queues_items (settings slot) xid queues ≡ (if (xid / 2 ^ 24) == slot then (if has_port rules slot queues.port then Queues (xid % 2 ^ 24) queues.body ∷ [] else []) else [])
  queues_shows slot xid queues slice there =
      if_both ((xid / 2 ^ 24) == (settings slot).slot) (is_own_port (settings slot).slot (settings slot).patterns queues.port) (Queues (xid % 2 ^ 24) queues.body ∷ [])
      ∙ ap₂ (λ (n : ℕ) (own : Bool). if (xid / 2 ^ 24) == n then (if own then Queues (xid % 2 ^ 24) queues.body ∷ [] else []) else []) (settings_slot p slot switch.features) (port_own slot queues.port slice there)

  -- the slice's own turn by its own slot
  queues_there : (slot xid : ℕ) (queues : QueuesMessage) (state : SliceState) → slice_get states slot ≡ Some state → ((xid / 2 ^ 24) == slot) ≡ true
      → FollowsFrom (settings slot) (sight slot) (if has_port rules slot queues.port then Queues (xid % 2 ^ 24) queues.body ∷ [] else []) (queues_turn called rules states xid queues)
  queues_there slot xid queues state there is =
      subst (λ (has : Bool). FollowsFrom (settings slot) (sight slot) (if has_port rules slot queues.port then Queues (xid % 2 ^ 24) queues.body ∷ [] else []) (if has then queues_made xid queues else None))
      (ap (λ (n : ℕ). has_port rules n queues.port) (sym (eqb-true (xid / 2 ^ 24) slot is))) (queues_own slot xid queues (has_port rules slot queues.port) state there is)

  queues_follow_one : (slot xid : ℕ) (queues : QueuesMessage) → is_slot p slot ≡ true → FollowsFrom (settings slot) (sight slot) (queues_items (settings slot) xid queues) (turn_at slot (queues_turn called rules states xid queues))
  queues_follow_one slot xid queues here =
      let state = state_at slot here in
      let slice = slice_at slot here in
      subst (λ (items : List Item). FollowsFrom (settings slot) (sight slot) items (turn_at slot (queues_turn called rules states xid queues))) (sym (queues_shows slot xid queues slice.0 slice.1))
      (by_top slot xid (if has_port rules slot queues.port then Queues (xid % 2 ^ 24) queues.body ∷ [] else []) (queues_turn called rules states xid queues) ((xid / 2 ^ 24) == slot) (queues_at xid queues) refl
      (λ own. queues_there slot xid queues state.0 state.1 own))

  pub queues_follow : (moment : ℕ) (message : List ℕ) (queues : QueuesMessage) → switch.phase ≡ Opened → read_switch message ≡ Ok (says.QueueGetConfigReply queues)
      → EachFollows p switch sides moment message (queues_turn called rules states (xid_of message) queues)
  queues_follow moment message queues opened is = λ slot here.
      subst (λ (items : List Item). FollowsFrom (settings slot) (sight slot) items (turn_at slot (queues_turn called rules states (xid_of message) queues)))
      (sym (items_of_said p slot moment switch (sides slot) message (Ok (says.QueueGetConfigReply queues)) opened here is))
      (queues_follow_one slot (xid_of message) queues here)

  -- ---- statistics

  -- by its settings the entries are the slice's that are its own by the policy's rules
  entries_own : (slot kind : ℕ) (body : List ℕ) (slice : Slice) → slice_get p.slices slot ≡ Some slice → own_entries (settings slot) kind body ≡ kept_entries rules slot kind body
  entries_own slot kind body slice there =
      rw (there, settings_at) (filter_agree (is_own_entry (lone_rules slot (writes_of rules slot)) slot kind) (is_own_entry rules slot kind) (λ entry. same_entry slot rules kind entry) (entries_in kind body))

  module _ (slot xid : ℕ) (part : StatsPart) (body : List ℕ) where
    abbrev x : ℕ
    x = xid % 2 ^ 24

    abbrev kept : List (List ℕ)
    kept = kept_entries rules slot part.kind body

    -- what the slice is shown of it
    abbrev part_shown : List Item
    part_shown = map (Entry x part.kind) kept ++ (if part.more then [] else Last x part.kind ∷ [])

    closed_by : (more : Bool) → part.more ≡ more → is_open part.kind (request_for (settings slot) x (called slot).requests) (called slot).collections ≡ false → FollowsFrom (settings slot) (sight slot) part_shown None
    closed_by more is closed =
        subst (λ (b : Bool). FollowsFrom (settings slot) (sight slot) (map (Entry x part.kind) kept ++ (if b then [] else Last x part.kind ∷ [])) None) (sym is)
        (closed_follows (settings slot) (sight slot) x part.kind kept more closed)

    open_by : (request : Issued) (more : Bool) → part.more ≡ more → request_for (settings slot) x (called slot).requests ≡ Some request → collects request part.kind (called slot).collections ≡ true
        → FollowsFrom (settings slot) (sight slot) part_shown (Some (part_turn rules (called slot) slot part body request))
    open_by request true is found_is open_ = rw is (more_follows (settings slot) (sight slot) x part.kind kept request found_is open_ slot (concat kept) (kept_found rules slot part.kind body))
    open_by request false is found_is open_ = rw is (last_follows (settings slot) (sight slot) x part.kind kept request found_is open_ slot)

    by_open : (request : Issued) (open_ : Bool) → collects request part.kind (called slot).collections ≡ open_ → request_for (settings slot) x (called slot).requests ≡ Some request
        → FollowsFrom (settings slot) (sight slot) part_shown (if open_ then Some (part_turn rules (called slot) slot part body request) else None)
    by_open request true is found_is = open_by request part.more refl found_is is
    by_open request false is found_is = closed_by part.more refl (ap (λ (seen : Option Issued). is_open part.kind seen (called slot).collections) found_is ∙ is)

    by_seen : (seen : Option Issued) → request_for (settings slot) x (called slot).requests ≡ seen → FollowsFrom (settings slot) (sight slot) part_shown (option_and_then (collecting_turn rules (called slot) slot part body) seen)
    by_seen None is = closed_by part.more refl (ap (λ (seen : Option Issued). is_open part.kind seen (called slot).collections) is)
    by_seen (Some request) is = by_open request (collects request part.kind (called slot).collections) refl is

    part_own : (state : SliceState) → slice_get states slot ≡ Some state → ((xid / 2 ^ 24) == slot) ≡ true
        → FollowsFrom (settings slot) (sight slot) part_shown (option_and_then (collecting_turn rules (called (xid / 2 ^ 24)) (xid / 2 ^ 24) part body) (request_seen called states xid))
    part_own state there is =
        subst (λ (n : ℕ). FollowsFrom (settings slot) (sight slot) part_shown (option_and_then (collecting_turn rules (called n) n part body) (request_seen called states xid))) (sym (eqb-true (xid / 2 ^ 24) slot is))
        (by_seen (request_seen called states xid) (seen_own slot xid state there is))

  abbrev part_made : ℕ → StatsPart → List ℕ → Option Turn
  part_made xid part body = option_and_then (collecting_turn rules (called (xid / 2 ^ 24)) (xid / 2 ^ 24) part body) (request_seen called states xid)

  part_at : (xid : ℕ) (part : StatsPart) (body : List ℕ) → IsAt (xid / 2 ^ 24) (part_made xid part body)
  part_at xid part body = then_at (xid / 2 ^ 24) (collecting_turn rules (called (xid / 2 ^ 24)) (xid / 2 ^ 24) part body) (request_seen called states xid) (collecting_at rules (called (xid / 2 ^ 24)) (xid / 2 ^ 24) part body)

  pub statistics_within : (xid : ℕ) (part : StatsPart) (body : List ℕ) → IsWithin p (statistics_turn called rules states xid part body)
  statistics_within xid part body =
      if_within p (is_part part.kind body) (part_made xid part body)
      (seen_within xid (collecting_turn rules (called (xid / 2 ^ 24)) (xid / 2 ^ 24) part body) (collecting_at rules (called (xid / 2 ^ 24)) (xid / 2 ^ 24) part body))

  by_form : (slot xid : ℕ) (part : StatsPart) (body : List ℕ) (form : Bool) (state : SliceState) → slice_get states slot ≡ Some state → ((xid / 2 ^ 24) == slot) ≡ true
      → FollowsFrom (settings slot) (sight slot) (if form then part_shown slot xid part body else []) (if form then part_made xid part body else None)
  by_form slot xid part body false state there is = nothing_follows (settings slot) (sight slot)
  by_form slot xid part body true state there is = part_own slot xid part body state there is

  part_shows : (slot xid : ℕ) (part : StatsPart) (body : List ℕ) (form : Bool) (slice : Slice) → slice_get p.slices slot ≡ Some slice
      → (if ((xid / 2 ^ 24) == (settings slot).slot) && form then part_items (settings slot) (xid % 2 ^ 24) part body else []) ≡ (if (xid / 2 ^ 24) == slot then (if form then part_shown slot xid part body else []) else [])
  part_shows slot xid part body form slice there =
      if_both ((xid / 2 ^ 24) == (settings slot).slot) form (part_items (settings slot) (xid % 2 ^ 24) part body)
      ∙ ap₂ (λ (n : ℕ) (entries : List (List ℕ)). if (xid / 2 ^ 24) == n then (if form then map (Entry (xid % 2 ^ 24) part.kind) entries ++ (if part.more then [] else Last (xid % 2 ^ 24) part.kind ∷ []) else []) else [])
      (settings_slot p slot switch.features) (entries_own slot part.kind body slice there)

  statistics_follow_one : (slot xid : ℕ) (part : StatsPart) (body : List ℕ) → is_slot p slot ≡ true
      → FollowsFrom (settings slot) (sight slot) (statistics_items (settings slot) xid part body) (turn_at slot (statistics_turn called rules states xid part body))
  statistics_follow_one slot xid part body here =
      let form = is_part part.kind body in
      let turn = statistics_turn called rules states xid part body in
      let state = state_at slot here in
      let slice = slice_at slot here in
      subst (λ (items : List Item). FollowsFrom (settings slot) (sight slot) items (turn_at slot turn)) (sym (part_shows slot xid part body form slice.0 slice.1))
      (by_top slot xid (if form then part_shown slot xid part body else []) turn ((xid / 2 ^ 24) == slot) (if_at (xid / 2 ^ 24) form (part_made xid part body) (part_at xid part body)) refl
      (λ own. by_form slot xid part body form state.0 state.1 own))

  pub statistics_follow : (moment : ℕ) (message : List ℕ) (part : StatsPart) (body : List ℕ) → switch.phase ≡ Opened → read_switch message ≡ Ok (says.StatsReply part body)
      → EachFollows p switch sides moment message (statistics_turn called rules states (xid_of message) part body)
  statistics_follow moment message part body opened is = λ slot here.
      subst (λ (items : List Item). FollowsFrom (settings slot) (sight slot) items (turn_at slot (statistics_turn called rules states (xid_of message) part body)))
      (sym (items_of_said p slot moment switch (sides slot) message (Ok (says.StatsReply part body)) opened here is))
      (statistics_follow_one slot (xid_of message) part body here)
