-- What the changes of a message make of the slices' states.
use Rattle.std.proofs.Common.{◌≡◌, ℕ, ◌+◌, ◌==◌, ◌<◌, ◌≤◌, Bool, true, false, if◌then◌else◌, List, [], ◌∷◌, ◌++◌, map, set, length, slice_get, zero, suc, refl, ap, ap₂, subst, sym, ◌∙◌, eqb-true, true≢false, arith, Option, Some, None, is_some}
use Rattle.std.proofs.lemmas.Bool.{eq-eqb, ne_eqb}
use Rattle.std.proofs.lemmas.Option.{slice_get_within}
use Rattle.std.proofs.lemmas.List.{length-set}
use Rattle.of10_model.specs.declared.pattern.Pattern.{Pattern}
use Rattle.flowspace.specs.Policies.{PolicyView}
use Rattle.of10_flow.specs.declared.flow_removed.FlowRemoved.{FlowRemoved}
use Rattle.xid_map.specs.declared.asked.AskKind.{AskKind}
use Rattle.xid_map.specs.declared.asked.Issued.{Issued}
use Rattle.xid_map.specs.Requests.{RequestCall, RequestsStand, MarkError, MarkDone}
use Rattle.xid_map.specs.Collections.{CollectionCall, Finish, CollectionsStand}
use Rattle.stats_filter.specs.Asking.{type_sent}
use Rattle.stats_filter.specs.Keeping.{entries_in}
use Rattle.flow_book.specs.declared.state.SliceState.{SliceState}
use Rattle.flow_book.specs.Books.{Book, BookCall, BookStands}
use Rattle.flow_book.specs.Books as books
use Rattle.slice_words.specs.Items.{Settings, Sight, Item, Removed, Fault, Entry, Last}
use Rattle.slice_words.specs.Statistics.{finished}
use Rattle.slice_words.specs.Calls.{error_marks, failure, request_calls, collection_calls, book_calls}
use Rattle.slice_words.specs.Standing.{SliceStands, past_of}
use Rattle.desk_words.specs.Openings.{KnownSwitch}
use Rattle.desk_words.specs.Histories.{settings_at, items_of, number_told, SliceSide, seen_with, side_after}
use Rattle.desk_words.specs.declared.event.Event.TheVariants.{SwitchMsg}
use Rattle.switch_side.specs.declared.change.Change.{Change}
use Rattle.switch_side.specs.Changes.{IsRemoval, IsFailure, IsAnswer, IsMore, IsEnd, IsChangeOfItems, of_slot, SlotChanges, IsMade, IsMadeAt, StateHasRoom, StateHasRoomAt, StatesHaveRoom, StandOn}
use Rattle.switch_side.specs.Collecting.{entry_calls, calls_with}
use Rattle.switch_side.specs.Dispatches.{AllStand, AreChanges, told_at}
use Rattle.switch_side.proofs.Gathering.{calls_by, entries_finished}
use Rattle.switch_side.proofs.Replying.{with_entries, entries_rest, entries_requests, entries_book, entries_open, entries_then, type_collected, ended, ended_rest, ended_requests, ended_collections, reply_rest, reply_requests, reply_collections, reply_book}
use Rattle.switch_side.proofs.Standing.{SameRest, Differs, stands_on}
use Rattle.switch_side.proofs.Told.{has_item}

-- ---- one change

rest_removed : (s : Settings) (view : List Item) (entry : FlowRemoved) → SameRest s view (Removed entry ∷ view)
rest_removed s view entry = record { up = refl; miss_send_len = refl; moment = refl; asked = refl; given = refl; held = refl }

rest_fault : (s : Settings) (view : List Item) (x class code : ℕ) (pair : Option (Pattern × ℕ)) → SameRest s view (Fault x class code pair ∷ view)
rest_fault s view x class code pair = record { up = refl; miss_send_len = refl; moment = refl; asked = refl; given = refl; held = refl }

module _ (s : Settings) (sight : Sight) (old new : SliceState) (stands : SliceStands s sight old) (differs : Differs old new) where
  -- without a packet that has a number
  unnumbered : (number : Option ℕ) (items shown : List Item) → number ≡ None → items ≡ shown → SliceStands s (seen_with None shown sight) new → SliceStands s (seen_with number items sight) new
  unnumbered number items shown none is stood =
      subst (λ (n : Option ℕ). SliceStands s (seen_with n items sight) new) (sym none) (subst (λ (all : List Item). SliceStands s (seen_with None all sight) new) (sym is) stood)

  pub removal_stands : (number : Option ℕ) (pattern : Pattern) (priority : ℕ) (items : List Item) → (number ≡ None) × IsRemoval items pattern priority → new.xids ≡ old.xids → new.collections ≡ old.collections
      → ((calls : List BookCall) → BookStands calls old.book → BookStands (books.Removed pattern priority ∷ calls) new.book) → SliceStands s (seen_with number items sight) new
  removal_stands number pattern priority items (none, is) xids collections book =
      unnumbered number items (Removed is.entry ∷ []) none is.shown
      (stands_on s sight (Removed is.entry ∷ sight.view) old new (rest_removed s sight.view is.entry) differs stands (rw xids stands.requests) (rw collections stands.collections)
      (rw (is.same_pattern, is.same_priority) (book (book_calls s (past_of s sight.view)) stands.book)))

  pub failure_stands : (number : Option ℕ) (request : ℕ) (pair : Option (Pattern × ℕ)) (items : List Item) → (number ≡ None) × IsFailure s sight items request pair
      → ((slot : ℕ) (calls : List RequestCall) → RequestsStand slot calls old.xids → RequestsStand slot (MarkError request ∷ calls) new.xids)
      → ((calls : List CollectionCall) → CollectionsStand calls old.collections → CollectionsStand (Finish request ∷ calls) new.collections)
      → ((issued : Issued) → issued.number ≡ request → (calls : List BookCall) → BookStands calls old.book → BookStands (failure (Some issued) pair ++ calls) new.book)
      → SliceStands s (seen_with number items sight) new
  failure_stands number request pair items (none, is) xids collections book =
      unnumbered number items (Fault is.x is.class is.code pair ∷ []) none is.shown
      (stands_on s sight (Fault is.x is.class is.code pair ∷ sight.view) old new (rest_fault s sight.view is.x is.class is.code pair) differs stands
      (subst (λ (marks : List RequestCall). RequestsStand s.slot (marks ++ request_calls s (past_of s sight.view)) new.xids)
      (ap (λ (n : ℕ). MarkError n ∷ []) (sym is.same_number) ∙ sym (ap error_marks is.found))
      (xids s.slot (request_calls s (past_of s sight.view)) stands.requests))
      (subst (λ (calls : List CollectionCall). CollectionsStand (calls ++ collection_calls s (past_of s sight.view)) new.collections)
      (ap (λ (n : ℕ). Finish n ∷ []) (sym is.same_number) ∙ sym (ap finished is.found))
      (collections (collection_calls s (past_of s sight.view)) stands.collections))
      (subst (λ (calls : List BookCall). BookStands (calls ++ book_calls s (past_of s sight.view)) new.book) (sym (ap (λ (found : Option Issued). failure found pair) is.found))
      (book is.request is.same_number (book_calls s (past_of s sight.view)) stands.book)))

  pub answer_stands : (number : Option ℕ) (request : ℕ) (items : List Item) → (number ≡ None) × IsAnswer s sight items request → new.collections ≡ old.collections → new.book ≡ old.book
      → ((slot : ℕ) (calls : List RequestCall) → RequestsStand slot calls old.xids → RequestsStand slot (MarkDone request ∷ calls) new.xids) → SliceStands s (seen_with number items sight) new
  answer_stands number request items (none, is) collections book xids =
      unnumbered number items (is.item ∷ []) none is.shown
      (stands_on s sight (is.item ∷ sight.view) old new (reply_rest s is.x sight.view is.item is.reply) differs stands
      (subst (λ (calls : List RequestCall). RequestsStand s.slot calls new.xids)
      (ap (λ (n : ℕ). MarkDone n ∷ request_calls s (past_of s sight.view)) (sym is.same_number) ∙ sym (reply_requests s is.x sight.view is.item is.request is.reply is.found is.told))
      (xids s.slot (request_calls s (past_of s sight.view)) stands.requests))
      (rw (reply_collections s is.x sight.view is.item is.reply, collections) stands.collections) (rw (reply_book s is.x sight.view is.item is.reply, book) stands.book))

  pub more_stands : (number : Option ℕ) (request : ℕ) (kind : AskKind) (entries : List ℕ) (items : List Item) → (number ≡ None) × IsMore s sight items request kind entries → new.xids ≡ old.xids → new.book ≡ old.book
      → ((calls : List CollectionCall) → CollectionsStand calls old.collections → CollectionsStand (calls_with kind request entries calls) new.collections) → SliceStands s (seen_with number items sight) new
  more_stands number request kind entries items (none, is) xids book collections =
      let gathering = is.gathering in
      let calls = collection_calls s (past_of s sight.view) in
      let listed = entries_in is.sent entries in
      let after = with_entries s is.x is.sent listed sight.view in
      let sent : type_sent kind ≡ Some is.sent = ap type_sent (sym is.same_kind) ∙ type_collected gathering.request is.sent calls gathering.collecting in
      unnumbered number items (map (Entry is.x is.sent) listed) none is.shown
      (stands_on s sight after old new (entries_rest s is.x is.sent listed sight.view) differs stands (rw (entries_requests s is.x is.sent listed sight.view, xids) stands.requests)
      (subst (λ (now : List CollectionCall). CollectionsStand now new.collections)
      (calls_by kind request is.sent entries calls sent ∙ ap₂ (λ (k : AskKind) (n : ℕ). entry_calls k n listed calls) (sym is.same_kind) (sym gathering.same_number)
      ∙ sym (entries_open s is.x is.sent gathering.request listed sight.view gathering.found gathering.collecting))
      (collections calls stands.collections))
      (rw (entries_book s is.x is.sent listed sight.view, book) stands.book))

  pub finish_stands : (number : Option ℕ) (request : ℕ) (items : List Item) → (number ≡ None) × IsEnd s sight items request → new.book ≡ old.book
      → ((slot : ℕ) (calls : List RequestCall) → RequestsStand slot calls old.xids → RequestsStand slot (MarkDone request ∷ calls) new.xids)
      → ((calls : List CollectionCall) → CollectionsStand calls old.collections → CollectionsStand (Finish request ∷ calls) new.collections) → SliceStands s (seen_with number items sight) new
  finish_stands number request items (none, is) book xids collections =
      let gathering = is.gathering in
      let own = gathering.request in
      let calls = collection_calls s (past_of s sight.view) in
      let after = ended s is.x is.sent is.entries sight.view in
      unnumbered number items (map (Entry is.x is.sent) is.entries ++ Last is.x is.sent ∷ []) none is.shown
      (subst (λ (view : List Item). SliceStands s (record { view = view; came = sight.came }) new) (sym (entries_then s is.x is.sent is.entries sight.view (Last is.x is.sent ∷ [])))
      (stands_on s sight after old new (ended_rest s is.x is.sent is.entries sight.view) differs stands
      (subst (λ (now : List RequestCall). RequestsStand s.slot now new.xids)
      (ap (λ (n : ℕ). MarkDone n ∷ request_calls s (past_of s sight.view)) (sym gathering.same_number) ∙ sym (ended_requests s is.x is.sent own is.entries sight.view gathering.found gathering.collecting))
      (xids s.slot (request_calls s (past_of s sight.view)) stands.requests))
      (subst (λ (now : List CollectionCall). CollectionsStand now new.collections) (sym (ended_collections s is.x is.sent own is.entries sight.view gathering.found gathering.collecting))
      (entries_finished own.asked.kind own.number is.entries calls new.collections
      (subst (λ (n : ℕ). CollectionsStand (Finish n ∷ calls) new.collections) (sym gathering.same_number) (collections calls stands.collections))))
      (rw (entries_book s is.x is.sent is.entries sight.view, book) stands.book)))

-- the pair of an error leaves the book, if it carries one
pub released_book : (request : Issued) (number : ℕ) (pattern : Pattern) (priority : ℕ) (pair : Option (Pattern × ℕ)) (calls : List BookCall) (new : Book) → pair ≡ Some (pattern, priority) → request.number ≡ number
    → BookStands (books.Failed number pattern priority ∷ calls) new → BookStands (failure (Some request) pair ++ calls) new
released_book request number pattern priority pair calls new is same stands = rw (is, same) stands

-- ---- all changes

-- a slice's state while changes are made: its own is made, or it is still to be made
abbrev pub IsOnTheWay : Settings → Option ℕ → Sight → List Item → List Change → SliceState → Type 0
IsOnTheWay s number sight items [] state = SliceStands s (seen_with number items sight) state
IsOnTheWay s number sight items (change ∷ []) state = SliceStands s sight state × IsChangeOfItems s number sight items change
IsOnTheWay s number sight items (change ∷ other ∷ others) state = ⊥

begins : (s : Settings) (number : Option ℕ) (sight : Sight) (items : List Item) (listed : List Change) (state : SliceState) → SliceStands s sight state → SlotChanges s number sight items listed
    → IsOnTheWay s number sight items listed state
begins s number sight items [] state stands nothing = nothing state stands
begins s number sight items (change ∷ []) state stands is = (stands, is)
begins s number sight items (change ∷ other ∷ others) state stands is = is

-- the next change is the slice's own
steps : (s : Settings) (number : Option ℕ) (sight : Sight) (items : List Item) (change : Change) (later : List Change) (old new : SliceState) → IsOnTheWay s number sight items (change ∷ later) old
    → (SliceStands s sight old → IsChangeOfItems s number sight items change → SliceStands s (seen_with number items sight) new) → IsOnTheWay s number sight items later new
steps s number sight items change [] old new (stands, is) made = made stands is
steps s number sight items change (other ∷ others) old new none made = absurd none

-- the states while changes are made
abbrev pub AllOnTheWay : PolicyView → KnownSwitch → (ℕ → SliceSide) → ℕ → List ℕ → List (ℕ × Change) → List SliceState → Type 0
AllOnTheWay p switch sides moment message listed states =
    (slot : ℕ) (state : SliceState) → slice_get states slot ≡ Some state
    → IsOnTheWay (settings_at p slot switch.features) (number_told switch.phase (SwitchMsg message)) (sides slot).sight (items_of p slot switch (sides slot) (told_at moment message)) (of_slot slot listed) state

pub all_begin : (p : PolicyView) (switch : KnownSwitch) (sides : ℕ → SliceSide) (moment : ℕ) (message : List ℕ) (listed : List (ℕ × Change)) (states : List SliceState)
    → AllStand p switch sides states → AreChanges p switch sides moment message listed → AllOnTheWay p switch sides moment message listed states
all_begin p switch sides moment message listed states stand are = λ slot state there. begins _ _ _ (items_of p slot switch (sides slot) (told_at moment message)) (of_slot slot listed) state (stand slot state there) (are slot)

pub all_end : (p : PolicyView) (switch : KnownSwitch) (sides : ℕ → SliceSide) (moment : ℕ) (message : List ℕ) (states : List SliceState)
    → AllOnTheWay p switch sides moment message [] states → AllStand p switch (λ slot. side_after p slot switch (sides slot) (told_at moment message)) states
all_end p switch sides moment message states way = way

-- ---- one change more

pub first_for : (here : Bool) (slot k : ℕ) (change : Change) (later : List (ℕ × Change)) → (k == slot) ≡ here → of_slot slot ((k, change) ∷ later) ≡ (if here then change ∷ of_slot slot later else of_slot slot later)
first_for true slot k change later is = rw is refl
first_for false slot k change later isnt = rw isnt refl

-- there is a state before where there is one after
some_before : (old new : List SliceState) (slot : ℕ) (after : SliceState) (found : Option SliceState) → length new ≡ length old → slice_get new slot ≡ Some after → slice_get old slot ≡ found
    → (before : SliceState) × (found ≡ Some before)
some_before old new slot after (Some before) count there is = (before, refl)
some_before old new slot after None count there is =
    let under = slice_get_within new slot after there in
    let item = has_item old slot (omega (arith, under, count)) in
    absurd (true≢false (sym (ap is_some (sym is ∙ item.1))))

module _ (p : PolicyView) (switch : KnownSwitch) (sides : ℕ → SliceSide) (moment : ℕ) (message : List ℕ) where
  abbrev way : ℕ → List Change → SliceState → Type 0
  way slot listed state = IsOnTheWay (settings_at p slot switch.features) (number_told switch.phase (SwitchMsg message)) (sides slot).sight (items_of p slot switch (sides slot) (told_at moment message)) listed state

  by_place : (k : ℕ) (change : Change) (later : List (ℕ × Change)) (old new : List SliceState) → IsMadeAt k change old new → AllOnTheWay p switch sides moment message ((k, change) ∷ later) old
      → (slot : ℕ) (state : SliceState) → slice_get new slot ≡ Some state → (here : Bool) → (k == slot) ≡ here → way slot (of_slot slot later) state
  by_place k change later old new made all slot state there false isnt =
      subst (λ listed. way slot listed state) (first_for false slot k change later isnt) (all slot state (sym (made.others slot isnt) ∙ there))
  by_place k change later old new made all slot state there true is =
      let same = eqb-true k slot is in
      let before = some_before old new slot state (slice_get old slot) made.count there refl in
      steps _ _ _ _ change (of_slot slot later) before.0 state (subst (λ listed. way slot listed before.0) (first_for true slot k change later is) (all slot before.0 before.1))
      (made.own before.0 state (subst (λ (n : ℕ). slice_get old n ≡ Some before.0) (sym same) before.1) (subst (λ (n : ℕ). slice_get new n ≡ Some state) (sym same) there) _ _ _ _)

  pub all_step : (k : ℕ) (change : Change) (later : List (ℕ × Change)) (old new : List SliceState) → IsMadeAt k change old new
      → AllOnTheWay p switch sides moment message ((k, change) ∷ later) old → AllOnTheWay p switch sides moment message later new
  all_step k change later old new made all = λ slot state there. by_place k change later old new made all slot state there (k == slot) refl

-- ---- one slot

get_own : {A : Type 0} (xs : List A) (i : ℕ) (x y : A) → slice_get xs i ≡ Some x → slice_get (set xs i y) i ≡ Some y
get_own [] i x y e = absurd (true≢false (sym (ap is_some e)))
get_own (first ∷ xs) zero x y e = refl
get_own (first ∷ xs) (suc i) x y e = get_own xs i x y e

get_other : {A : Type 0} (xs : List A) (i k : ℕ) (y : A) → (i ≡ k → ⊥) → slice_get (set xs i y) k ≡ slice_get xs k
get_other [] i k y apart = refl
get_other (first ∷ xs) zero zero y apart = absurd (apart refl)
get_other (first ∷ xs) zero (suc k) y apart = refl
get_other (first ∷ xs) (suc i) zero y apart = refl
get_other (first ∷ xs) (suc i) (suc k) y apart = get_other xs i k y (λ same. apart (ap suc same))

same_some : {A : Type 0} (x y : A) → Some x ≡ Some y → x ≡ y
same_some x y e = cc

pub made_at : (states : List SliceState) (slot : ℕ) (change : Change) (old new : SliceState) → slice_get states slot ≡ Some old → IsMade change old new → IsMadeAt slot change states (set states slot new)
made_at states slot change old new there made = record {
  count = length-set states slot new;
  own = λ before after was is.
      rw (same_some before old (sym was ∙ there), same_some after new (sym is ∙ get_own states slot old new there)) made;
  others = λ other isnt. get_other states slot other new (λ same. true≢false (sym (eq-eqb slot other same) ∙ isnt));
}

pub none_made : (states : List SliceState) (slot : ℕ) (change : Change) → length states ≤ slot → IsMadeAt slot change states states
none_made states slot change past = record {
  count = refl;
  own = λ before after was is. absurd (omega (arith, slice_get_within states slot before was, past));
  others = λ other isnt. refl;
}

-- ---- room

-- the first change has room at its slot
pub first_room : (slot : ℕ) (change : Change) (later : List (ℕ × Change)) (states : List SliceState) → StatesHaveRoom ((slot, change) ∷ later) states → StateHasRoomAt slot change states
first_room slot change later states room = room.rooms 0 (slot, change) refl

-- and once it is made the others have
pub later_room : (slot : ℕ) (change : Change) (later : List (ℕ × Change)) (old new : List SliceState) → StatesHaveRoom ((slot, change) ∷ later) old → IsMadeAt slot change old new → StatesHaveRoom later new
later_room slot change later old new room made = record {
  apart = λ i j one other less at_one at_other. room.apart (suc i) (suc j) one other (omega arith) at_one at_other;
  rooms = λ i one at state there.
      let behind = room.apart 0 (suc i) (slot, change) one (omega arith) refl at in
      room.rooms (suc i) one at state (sym (made.others one.0 (ne_eqb slot one.0 (λ same. absurd (omega (arith, behind, same))))) ∙ there);
}

pub none_room : (states : List SliceState) → StatesHaveRoom [] states
none_room states = record {
  apart = λ i j one other less at_one at_other. absurd (true≢false (sym (ap is_some at_one)));
  rooms = λ i one at. absurd (true≢false (sym (ap is_some at)));
}

-- ---- room that is made

pub past_room : (place : ℕ) (change : Change) (states : List SliceState) → length states ≤ place → StateHasRoomAt place change states
past_room place change states past state there = absurd (omega (arith, slice_get_within states place state there, past))

pub set_room : (place : ℕ) (change : Change) (states : List SliceState) (old new : SliceState) → slice_get states place ≡ Some old → StateHasRoom change new → StateHasRoomAt place change (set states place new)
set_room place change states old new there room state is = subst (StateHasRoom change) (same_some new state (sym (get_own states place old new there) ∙ is)) room

pub set_others : (place : ℕ) (states : List SliceState) (new : SliceState) (other : ℕ) → (place == other) ≡ false → slice_get (set states place new) other ≡ slice_get states other
set_others place states new other isnt = get_other states place other new (λ same. true≢false (sym (eq-eqb place other same) ∙ isnt))

pub set_stands : (place : ℕ) (states : List SliceState) (old new : SliceState) → slice_get states place ≡ Some old → ((s : Settings) (sight : Sight) → SliceStands s sight old → SliceStands s sight new) → StandOn states (set states place new)
set_stands place states old new there stands = record {
  count = length-set states place new;
  each = λ slot before after was is s sight stood. by_place slot before after was is s sight stood (place == slot) refl;
}
  where
    by_place : (slot : ℕ) (before after : SliceState) → slice_get states slot ≡ Some before → slice_get (set states place new) slot ≡ Some after → (s : Settings) (sight : Sight) → SliceStands s sight before
        → (here : Bool) → (place == slot) ≡ here → SliceStands s sight after
    by_place slot before after was is s sight stood true here =
        let same = eqb-true place slot here in
        let old_is : before ≡ old = same_some before old (sym was ∙ subst (λ (k : ℕ). slice_get states k ≡ Some old) same there) in
        let new_is : new ≡ after = same_some new after (sym (get_own states place old new there) ∙ subst (λ (k : ℕ). slice_get (set states place new) k ≡ Some after) (sym same) is) in
        subst (SliceStands s sight) new_is (stands s sight (subst (SliceStands s sight) old_is stood))
    by_place slot before after was is s sight stood false isnt =
        subst (SliceStands s sight) (same_some before after (sym was ∙ sym (set_others place states new slot isnt) ∙ is)) stood

pub none_stand : (states : List SliceState) → StandOn states states
none_stand states = record { count = refl; each = λ slot before after was is s sight stood. subst (SliceStands s sight) (same_some before after (sym was ∙ is)) stood }

pub stand_then : (old mid new : List SliceState) → StandOn old mid → StandOn mid new → StandOn old new
stand_then old mid new one other = record {
  count = other.count ∙ one.count;
  each = λ slot before after was is s sight stood.
      let under = slice_get_within new slot after is in
      let between = has_item mid slot (omega (arith, under, other.count)) in
      other.each slot between.0 after between.1 is s sight (one.each slot before between.0 was between.1 s sight stood);
}

-- while room is made for changes one after another: so many have room, and their slots ascend and are below the next
pub record MakesRoom (listed : List (ℕ × Change)) (count next : ℕ) (old states : List SliceState) : Type 0 where
  pub stands : StandOn old states
  pub apart : (i j : ℕ) (one other : ℕ × Change) → i < j → j < count → slice_get listed i ≡ Some one → slice_get listed j ≡ Some other → one.0 < other.0
  pub rooms : (i : ℕ) (one : ℕ × Change) → i < count → slice_get listed i ≡ Some one → StateHasRoomAt one.0 one.1 states
  pub below : (i : ℕ) (one : ℕ × Change) → i < count → slice_get listed i ≡ Some one → one.0 < next

pub room_first : (listed : List (ℕ × Change)) (states : List SliceState) → MakesRoom listed 0 0 states states
room_first listed states = record {
  stands = none_stand states;
  apart = λ i j one other less under at_one at_other. absurd (omega (arith, under));
  rooms = λ i one under at. absurd (omega (arith, under));
  below = λ i one under at. absurd (omega (arith, under));
}

nearer : (a b : ℕ) → a < b + 1 → (a ≡ b → ⊥) → a < b
nearer a b less far = omega (arith, less, far)

module _ (listed : List (ℕ × Change)) (count next : ℕ) (old mid new : List SliceState) (slot : ℕ) (change : Change) (made : MakesRoom listed count next old mid)
    (here : slice_get listed count ≡ Some (slot, change)) (above : next ≤ slot) (stand : StandOn mid new) where
  pub room_more : StateHasRoomAt slot change new → ((other : ℕ) → (slot == other) ≡ false → slice_get new other ≡ slice_get mid other) → MakesRoom listed (count + 1) (slot + 1) old new
  room_more room others = record {
    stands = stand_then old mid new made.stands stand;
    apart = λ i j one other less under at_one at_other. apart_by i j one other less under at_one at_other (j == count) refl;
    rooms = λ i one under at. rooms_by i one under at (i == count) refl;
    below = λ i one under at. below_by i one under at (i == count) refl;
  }
    where
      last : (i : ℕ) (one : ℕ × Change) → slice_get listed i ≡ Some one → (i == count) ≡ true → (slot, change) ≡ one
      last i one at is = same_some (slot, change) one (sym here ∙ subst (λ (k : ℕ). slice_get listed k ≡ Some one) (eqb-true i count is) at)

      before : (i : ℕ) → i < count + 1 → (i == count) ≡ false → i < count
      before i under isnt = nearer i count under (λ same. true≢false (sym (eq-eqb i count same) ∙ isnt))

      below_by : (i : ℕ) (one : ℕ × Change) → i < count + 1 → slice_get listed i ≡ Some one → (is : Bool) → (i == count) ≡ is → one.0 < slot + 1
      below_by i one under at true is = subst (λ (pair : ℕ × Change). pair.0 < slot + 1) (last i one at is) (omega arith)
      below_by i one under at false isnt = (let low = made.below i one (before i under isnt) at in omega (arith, low, above))

      apart_by : (i j : ℕ) (one other : ℕ × Change) → i < j → j < count + 1 → slice_get listed i ≡ Some one → slice_get listed j ≡ Some other → (is : Bool) → (j == count) ≡ is → one.0 < other.0
      apart_by i j one other less under at_one at_other true is =
          let low = made.below i one (let at = eqb-true j count is in omega (arith, less, at)) at_one in
          subst (λ (pair : ℕ × Change). one.0 < pair.0) (last j other at_other is) (omega (arith, low, above))
      apart_by i j one other less under at_one at_other false isnt = made.apart i j one other less (before j under isnt) at_one at_other

      rooms_by : (i : ℕ) (one : ℕ × Change) → i < count + 1 → slice_get listed i ≡ Some one → (is : Bool) → (i == count) ≡ is → StateHasRoomAt one.0 one.1 new
      rooms_by i one under at true is = subst (λ (pair : ℕ × Change). StateHasRoomAt pair.0 pair.1 new) (last i one at is) room
      rooms_by i one under at false isnt =
          let low = made.below i one (before i under isnt) at in
          λ state there. made.rooms i one (before i under isnt) at state (sym (others one.0 (ne_eqb slot one.0 (λ same. absurd (omega (arith, low, above, same))))) ∙ there)

pub room_all : (listed : List (ℕ × Change)) (count next : ℕ) (old states : List SliceState) → MakesRoom listed count next old states → length listed ≤ count → StatesHaveRoom listed states
room_all listed count next old states made done = record {
  apart = λ i j one other less at_one at_other. made.apart i j one other less (let under = slice_get_within listed j other at_other in omega (arith, under, done)) at_one at_other;
  rooms = λ i one at. made.rooms i one (let under = slice_get_within listed i one at in omega (arith, under, done)) at;
}
