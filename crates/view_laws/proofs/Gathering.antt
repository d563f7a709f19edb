-- What a request has gathered, in words of the items.
use Rattle.std.proofs.Common.{◌≡◌, ◌⊎◌, ℕ, ◌%◌, ◌^◌, ◌<◌, ◌≤◌, ◌&&◌, Bool, true, false, if◌then◌else◌, List, [], ◌∷◌, ◌++◌, length, take, refl, sym, ap, subst, ◌∙◌, true≢false, inl, inr, arith, Option, Some, None, length-append}
use Rattle.std.specs.Prelude.{◌==◌, nat_le, sum_by, slice_get, reverse}
use Rattle.std.specs.List.{concat}
use Rattle.std.specs.Option.{option_map_or}
use Rattle.std.proofs.Math.Bool.{and-false}
use Rattle.std.proofs.Math.Seq.{take-length}
use Rattle.std.proofs.lemmas.Bool.{cases_Bool, cases_lt, eq-eqb, eqb-true, ne_eqb, leb-true, leb-false}
use Rattle.std.proofs.lemmas.Bool.Decides.{eqb_tells}
use Rattle.std.proofs.lemmas.List.{append-nil, take-append-le}
use Rattle.std.proofs.lemmas.List.Folds.{concat-append}
use Rattle.std.proofs.lemmas.List.Sums.{sum_by-cons, sum_by_push}
use Rattle.of10_model.specs.Normal.{is_value}
use Rattle.of10_stats.specs.Replies.{flow_of}
use Rattle.xid_map.specs.declared.asked.AskKind.{AskKind}
use Rattle.xid_map.specs.declared.asked.AskKind.TheVariants as kinds
use Rattle.xid_map.specs.declared.asked.Asked.{Asked}
use Rattle.xid_map.specs.declared.asked.Issued.{Issued}
use Rattle.xid_map.specs.Requests.{issued}
use Rattle.xid_map.specs.Collections.{CollectionCall, Start, Add, Sum, Finish, EndAll, is_among, collecting, begins, since, added, summed, joined_entries, kept_run, Gathered, gathered}
use Rattle.xid_map.specs.Laws.{NoneOf}
use Rattle.xid_map.proofs.Gathering.{since-goes_on}
use Rattle.xid_map.proofs.Standing.{begins_not}
use Rattle.xid_map.proofs.Collecting.{since-begin}
use Rattle.stats_filter.specs.Asking.{type_sent}
use Rattle.slice_words.specs.Messages.{is_dismissing, kind_asked}
use Rattle.slice_words.specs.Items.{Settings, message_read, Item, Opened, Up, Down, Msg, Lost, Handed, Removed, Status, Fault, Barrier, Queues, Entry, Last, End}
use Rattle.slice_words.specs.Pasts.{is_any}
use Rattle.slice_words.specs.Statistics.{asks_statistics, collects, begun, entry_call, entry_kept, finished}
use Rattle.slice_words.specs.Calls.{request_for}
use Rattle.slice_words.specs.Alone.{answer_to}
use Rattle.view_laws.specs.Requests.{is_request, requests_in, next_number, remembered_for, IsRemembered}
use Rattle.view_laws.specs.Collecting.{Collects, IsFor, IsStatistics, ItemEndsCollecting, IsCollectingIn}
use Rattle.view_laws.specs.Gathering.{gathered_after, is_for, entry_for, entries_for, IsLongestPrefix, IsGatheredOf}
use Rattle.view_laws.proofs.Requesting.{requests_after, requests-later, request-place}
use Rattle.view_laws.proofs.Remembering.{remembered-found, found-remembered}
use Rattle.view_laws.proofs.Collected.{AtMostOne, collections_after, collections_given, collection_one}
use Rattle.view_laws.proofs.Lasting.{collects-IsCollecting, not_begun, started_call}

-- ---- the longest prefix

-- entries with the oldest first
abbrev turned : List (List ℕ) → List (List ℕ)
turned [] = []
turned (entry ∷ earlier) = turned earlier ++ (entry ∷ [])

joined-turned : (entries : List (List ℕ)) → joined_entries entries ≡ concat (turned entries)
unfolding joined_entries
joined-turned [] = refl
joined-turned (entry ∷ earlier) =
    ap (λ (bytes : List ℕ). bytes ++ entry) (joined-turned earlier)
    ∙ ap (λ (last : List ℕ). concat (turned earlier) ++ last) (sym (append-nil entry))
    ∙ sym (concat-append (turned earlier) (entry ∷ []))

-- with an entry more the bytes pass the limit: so they do with all, and with as many as before
longer : (entry : List ℕ) (earlier : List (List ℕ)) (count : ℕ) → 524288 < length (joined_entries (entry ∷ earlier))
    → ((more : ℕ) → count < more → more ≤ length (turned earlier) → 524288 < length (concat (take more (turned earlier))))
    → (more : ℕ) → count < more → more ≤ length (turned earlier ++ (entry ∷ [])) → 524288 < length (concat (take more (turned earlier ++ (entry ∷ []))))
longer entry earlier count all rest more later few = elim (cases_lt (length (turned earlier)) more) [
  | inl past ↦
      let entries = turned earlier ++ (entry ∷ []) in
      let whole : more ≡ length entries = omega (arith, past, few, length-append (turned earlier) (entry ∷ [])) in
      let taken : take more entries ≡ entries = ap (λ (n : ℕ). take n entries) whole ∙ take-length entries in
      subst (λ (bytes : List ℕ). 524288 < length bytes) (joined-turned (entry ∷ earlier) ∙ ap concat (sym taken)) all
  | inr within ↦
      subst (λ (entries : List (List ℕ)). 524288 < length (concat entries)) (sym (take-append-le more (turned earlier) (entry ∷ []) within)) (rest more later within)
]

kept-longest : (entries : List (List ℕ)) → IsLongestPrefix (turned entries) (kept_run entries)
unfolding kept_run joined_entries
kept-longest [] = record { count = 0; some = omega arith; is_prefix = refl; within = omega arith; longest = λ more later few. absurd (omega (arith, later, few)) }
kept-longest (entry ∷ earlier) =
    let before = kept-longest earlier in
    let entries = turned earlier ++ (entry ∷ []) in
    elim (cases_Bool (nat_le (length (joined_entries earlier ++ entry)) 524288)) [
      | inl fits ↦ rw fits (record {
        count = length entries;
        some = omega arith;
        is_prefix = joined-turned (entry ∷ earlier) ∙ ap concat (sym (take-length entries));
        within = leb-true (length (joined_entries earlier ++ entry)) 524288 fits;
        longest = λ more later few. absurd (omega (arith, later, few));
      })
      | inr passes ↦ rw passes (record {
        count = before.count;
        some = omega (arith, before.some, length-append (turned earlier) (entry ∷ []));
        is_prefix = before.is_prefix ∙ ap concat (sym (take-append-le before.count (turned earlier) (entry ∷ []) before.some));
        within = before.within;
        longest = longer entry earlier before.count (leb-false (length (joined_entries earlier ++ entry)) 524288 passes) before.longest;
      })
    ]

-- ---- what the calls for a request come to, entry by entry

-- what is said of the entries and the sums of the calls for a request, and of the entries that came, holds of none and is kept by each that comes
pub record IsKeptBy (number : ℕ) (asked : AskKind) (Holds : List (List ℕ) → List (ℕ × ℕ) → List (List ℕ) → Type 0) : Type 0 where
  pub none : Holds [] [] []
  pub more : (entry : List ℕ) (own : List CollectionCall) (entries : List (List ℕ)) → Holds (added number own) (summed number own) entries
      → Holds (added number (entry_call asked number entry ∷ own)) (summed number (entry_call asked number entry ∷ own)) (entries ++ (entry ∷ []))

-- a sum of flows
abbrev AreSums : List (List ℕ) → List (ℕ × ℕ) → List (List ℕ) → Type 0
AreSums adds sums entries =
    (sum_by (λ (count : ℕ × ℕ). count.0) sums ≡ sum_by (λ (entry : List ℕ). (flow_of entry).1) entries)
    × (sum_by (λ (count : ℕ × ℕ). count.1) sums ≡ sum_by (λ (entry : List ℕ). (flow_of entry).2) entries)
    × (length sums ≡ length entries)

sums_kept : (number : ℕ) → IsKeptBy number kinds.Aggregate AreSums
unfolding added summed
sums_kept number = record {
  none = (refl, refl, refl);
  more = λ entry own entries h.
      let sums = summed number own in
      let new : ℕ × ℕ = ((flow_of entry).1, (flow_of entry).2) in
      rw (eq-eqb number number refl) (
        sum_by-cons (λ (count : ℕ × ℕ). count.0) new sums ∙ omega (arith, h.0, sum_by_push (λ (e : List ℕ). (flow_of e).1) entries entry),
        sum_by-cons (λ (count : ℕ × ℕ). count.1) new sums ∙ omega (arith, h.1, sum_by_push (λ (e : List ℕ). (flow_of e).2) entries entry),
        omega (arith, h.2, length-append entries (entry ∷ [])),
      );
}

-- the entries themselves, for all other kinds
abbrev AreThese : List (List ℕ) → List (ℕ × ℕ) → List (List ℕ) → Type 0
AreThese adds sums entries = turned adds ≡ entries

record IsSingle (asked : AskKind) : Type 0 where
  adds : (number : ℕ) (entry : List ℕ) → entry_call asked number entry ≡ Add number entry
  wants : (entries : List (List ℕ)) (g : Gathered) → IsLongestPrefix entries g.entries → IsGatheredOf asked entries g

cases_kind : (asked : AskKind) → (asked ≡ kinds.Aggregate) ⊎ IsSingle asked
cases_kind kinds.Aggregate = inl refl
cases_kind kinds.FlowMod = inr (record { adds = λ number entry. refl; wants = λ entries g h. h })
cases_kind kinds.PacketOut = inr (record { adds = λ number entry. refl; wants = λ entries g h. h })
cases_kind kinds.Barrier = inr (record { adds = λ number entry. refl; wants = λ entries g h. h })
cases_kind kinds.QueueConfig = inr (record { adds = λ number entry. refl; wants = λ entries g h. h })
cases_kind kinds.Desc = inr (record { adds = λ number entry. refl; wants = λ entries g h. h })
cases_kind kinds.Flow = inr (record { adds = λ number entry. refl; wants = λ entries g h. h })
cases_kind kinds.Port = inr (record { adds = λ number entry. refl; wants = λ entries g h. h })
cases_kind kinds.Queue = inr (record { adds = λ number entry. refl; wants = λ entries g h. h })

added_one : (number : ℕ) (entry : List ℕ) (own : List CollectionCall) → added number (Add number entry ∷ own) ≡ entry ∷ added number own
unfolding added
added_one number entry own = rw (eq-eqb number number refl) refl

these_kept : (number : ℕ) (asked : AskKind) → IsSingle asked → IsKeptBy number asked AreThese
these_kept number asked single = record {
  none = refl;
  more = λ entry own entries h.
      ap turned (ap (λ (call : CollectionCall). added number (call ∷ own)) (single.adds number entry) ∙ added_one number entry own)
      ∙ ap (λ (es : List (List ℕ)). es ++ (entry ∷ [])) h;
}

-- ---- calls that bring nothing for a request

record IsQuiet (number : ℕ) (these : List CollectionCall) : Type 0 where
  adds : (own : List CollectionCall) → added number (these ++ own) ≡ added number own
  sums : (own : List CollectionCall) → summed number (these ++ own) ≡ summed number own

quiet_none : (number : ℕ) → IsQuiet number []
quiet_none number = record { adds = λ own. refl; sums = λ own. refl }

quiet_start : (number other : ℕ) → IsQuiet number (Start other ∷ [])
unfolding added summed
quiet_start number other = record { adds = λ own. refl; sums = λ own. refl }

quiet_finish : (number other : ℕ) → IsQuiet number (Finish other ∷ [])
unfolding added summed
quiet_finish number other = record { adds = λ own. refl; sums = λ own. refl }

quiet_end : (number : ℕ) → IsQuiet number (EndAll ∷ [])
unfolding added summed
quiet_end number = record { adds = λ own. refl; sums = λ own. refl }

quiet_add : (number other : ℕ) (entry : List ℕ) → (other == number) ≡ false → IsQuiet number (Add other entry ∷ [])
unfolding added summed
quiet_add number other entry apart = record { adds = λ own. rw apart refl; sums = λ own. refl }

quiet_sum : (number other packets bytes : ℕ) → (other == number) ≡ false → IsQuiet number (Sum other packets bytes ∷ [])
unfolding added summed
quiet_sum number other packets bytes apart = record { adds = λ own. refl; sums = λ own. rw apart refl }

quiet_if : (b : Bool) (number : ℕ) (these : List CollectionCall) → IsQuiet number these → IsQuiet number (if b then these else [])
quiet_if true number these h = h
quiet_if false number these h = quiet_none number

quiet_entry : (asked : AskKind) (number other : ℕ) (entry : List ℕ) → (other == number) ≡ false → IsQuiet number (entry_call asked other entry ∷ [])
quiet_entry kinds.Aggregate number other entry apart = quiet_sum number other (flow_of entry).1 (flow_of entry).2 apart
quiet_entry kinds.FlowMod number other entry apart = quiet_add number other entry apart
quiet_entry kinds.PacketOut number other entry apart = quiet_add number other entry apart
quiet_entry kinds.Barrier number other entry apart = quiet_add number other entry apart
quiet_entry kinds.QueueConfig number other entry apart = quiet_add number other entry apart
quiet_entry kinds.Desc number other entry apart = quiet_add number other entry apart
quiet_entry kinds.Flow number other entry apart = quiet_add number other entry apart
quiet_entry kinds.Port number other entry apart = quiet_add number other entry apart
quiet_entry kinds.Queue number other entry apart = quiet_add number other entry apart

quiet_message : (dismissing puts : Bool) (of number : ℕ) (asked : AskKind) → IsQuiet number (if dismissing then EndAll ∷ [] else if puts then begun of asked else [])
quiet_message true puts of number asked = quiet_end number
quiet_message false puts of number asked = quiet_if puts number (begun of asked) (quiet_if (asks_statistics asked) number (Start of ∷ []) (quiet_start number of))

quiet_finished : (number : ℕ) (found : Option Issued) → IsQuiet number (finished found)
quiet_finished number None = quiet_none number
quiet_finished number (Some request) = quiet_finish number request.number

-- ---- an item more

-- a request that collects does not begin again
since_with : (number : ℕ) (these calls : List CollectionCall) → AtMostOne these → is_among number (collecting calls) ≡ true → since number (these ++ calls) ≡ these ++ since number calls
since_with number these calls (inl nothing) within = rw nothing refl
since_with number these calls (inr (call, is)) within = rw is (since-goes_on number call calls (no_begin call))
  where
    no_begin : (c : CollectionCall) → begins number c calls ≡ false
    no_begin (Start other) = elim (eqb_tells other number) [
      | inl this ↦ begins_not other number calls (rw this.1 within)
      | inr apart ↦ rw apart.0 refl
    ]
    no_begin (Add other entry) = refl
    no_begin (Sum other packets bytes) = refl
    no_begin (Finish other) = refl
    no_begin EndAll = refl

-- the requests that are remembered are of earlier messages
made_below : (s : Settings) (later : List Item) (item : Item) (earlier : List Item) → is_request s earlier item ≡ true → next_number s earlier < next_number s (later ++ (item ∷ earlier))
made_below s later item earlier asks =
    let more = requests-later s later (item ∷ earlier) in
    let own : requests_in s (item ∷ earlier) ≡ item ∷ requests_in s earlier = rw asks refl in
    let all : requests_in s (later ++ (item ∷ earlier)) ≡ more.0 ++ (item ∷ requests_in s earlier) = more.1 ∙ ap (λ (l : List Item). more.0 ++ l) own in
    omega (arith, ap length all, length-append more.0 (item ∷ requests_in s earlier))

number_below : (s : Settings) (view : List Item) (x : ℕ) (request : Issued) → IsRemembered s view x request → request.number < next_number s view
number_below s view x request h =
    let below = subst (λ (v : List Item). next_number s h.earlier < next_number s v) (sym h.split) (made_below s h.later (Msg h.message h.moment) h.earlier h.asks) in
    omega (arith, below, h.numbered)

-- there is one message for each number
pub message_of_number : (s : Settings) (view : List Item) (x : ℕ) (request : Issued) → IsRemembered s view x request
    → (later : List Item) (message : List ℕ) (moment : ℕ) (earlier : List Item) → view ≡ later ++ (Msg message moment ∷ earlier) → is_request s earlier (Msg message moment) ≡ true
    → request.number ≡ next_number s earlier → request.asked.kind ≡ kind_asked (message_read s message)
message_of_number s view x request h later message moment earlier split asks numbered =
    let one : slice_get (reverse (requests_in s view)) (next_number s earlier) ≡ Some (Msg message moment) =
    subst (λ (v : List Item). slice_get (reverse (requests_in s v)) (next_number s earlier) ≡ Some (Msg message moment)) (sym split) (request-place s later (Msg message moment) earlier asks) in
    let other : slice_get (reverse (requests_in s view)) (next_number s h.earlier) ≡ Some (Msg h.message h.moment) =
    subst (λ (v : List Item). slice_get (reverse (requests_in s v)) (next_number s h.earlier) ≡ Some (Msg h.message h.moment)) (sym h.split) (request-place s h.later (Msg h.message h.moment) h.earlier h.asks) in
    let both : Some (Msg message moment) ≡ Some (Msg h.message h.moment) =
    sym one ∙ ap (λ (n : ℕ). slice_get (reverse (requests_in s view)) n) (sym numbered ∙ h.numbered) ∙ other in
    let same : h.message ≡ message = cc in
    ap (λ (a : Asked). a.kind) h.asked ∙ ap (λ (m : List ℕ). kind_asked (message_read s m)) same

-- ---- for which request an entry comes

found_for : (s : Settings) (x number : ℕ) (view : List Item) (found : Option Issued) → remembered_for s view x ≡ found
    → option_map_or (λ (request : Issued). request.number == number) found false ≡ true → IsFor s x number view
found_for s x number view None is own = absurd (true≢false (sym own))
found_for s x number view (Some request) is own = (request, found-remembered s view x request is, eqb-true request.number number own)

pub is_for-IsFor : (s : Settings) (x number : ℕ) (view : List Item) → is_for s x number view ≡ true → IsFor s x number view
is_for-IsFor s x number view own = found_for s x number view (remembered_for s view x) refl own

pub IsFor-is_for : (s : Settings) (x number : ℕ) (view : List Item) → IsFor s x number view → is_for s x number view ≡ true
IsFor-is_for s x number view h = rw (remembered-found s view x h.0 h.1) (eq-eqb h.0.number number h.2)

-- ---- before it is made

early_found : (number kind : ℕ) (asked : AskKind) (bytes : List ℕ) (found : Option Issued) → ((request : Issued) → found ≡ Some request → request.number < number)
    → (if is_value kind (type_sent asked) && option_map_or (λ (request : Issued). request.number == number) found false then bytes ∷ [] else []) ≡ []
early_found number kind asked bytes None below = rw (and-false (is_value kind (type_sent asked))) refl
early_found number kind asked bytes (Some request) below =
    let less = below request refl in
    rw (ne_eqb request.number number (λ e. omega (arith, less, e)), and-false (is_value kind (type_sent asked))) refl

early_entry : (s : Settings) (number : ℕ) (asked : AskKind) (view : List Item) (item : Item) → next_number s view ≤ number → entry_for s number asked view item ≡ []
early_entry s number asked view (Entry x kind bytes) early =
    early_found number kind asked bytes (remembered_for s view x) (λ request is. (let below = number_below s view x request (found-remembered s view x request is) in omega (arith, below, early)))
early_entry s number asked view Up early = refl
early_entry s number asked view Down early = refl
early_entry s number asked view (Msg message moment) early = refl
early_entry s number asked view (Opened features) early = refl
early_entry s number asked view (Lost k) early = refl
early_entry s number asked view (Handed packet) early = refl
early_entry s number asked view (Removed entry) early = refl
early_entry s number asked view (Status status) early = refl
early_entry s number asked view (Fault x class code pair) early = refl
early_entry s number asked view (Barrier x) early = refl
early_entry s number asked view (Queues x body) early = refl
early_entry s number asked view (Last x kind) early = refl
early_entry s number asked view End early = refl

counted_on : (counts : Bool) (item : Item) (items : List Item) → length items ≤ length (if counts then item ∷ items else items)
counted_on true item items = omega arith
counted_on false item items = omega arith

pub none_before : (s : Settings) (view : List Item) (number : ℕ) (asked : AskKind) → next_number s view ≤ number → entries_for s number asked view ≡ []
none_before s [] number asked early = refl
none_before s (item ∷ view) number asked early =
    let less : next_number s view ≤ number = omega (arith, early, counted_on (is_request s view item) item (requests_in s view)) in
    rw (none_before s view number asked less, early_entry s number asked view item less) refl

-- ---- from the message on

module _ (s : Settings) (number : ℕ) (message : List ℕ) (moment : ℕ) (earlier : List Item) (asks : IsStatistics s message moment earlier) (numbered : number ≡ next_number s earlier)
    (Holds : List (List ℕ) → List (ℕ × ℕ) → List (List ℕ) → Type 0) (keeps : IsKeptBy number (kind_asked (message_read s message)) Holds) where
  abbrev asked : AskKind
  asked = kind_asked (message_read s message)

  abbrev base : List Item
  base = Msg message moment ∷ earlier

  -- so it is of the calls for the request
  abbrev HoldsOf : List CollectionCall → List (List ℕ) → Type 0
  HoldsOf own entries = Holds (added number own) (summed number own) entries

  quiet_more : (these own : List CollectionCall) (entries : List (List ℕ)) → IsQuiet number these → HoldsOf own entries → HoldsOf (these ++ own) (entries ++ [])
  quiet_more these own entries quiet h =
      subst (λ (es : List (List ℕ)). HoldsOf (these ++ own) es) (sym (append-nil entries))
      (subst (λ (adds : List (List ℕ)). Holds adds (summed number (these ++ own)) entries) (sym (quiet.adds own))
      (subst (λ (sums : List (ℕ × ℕ)). Holds (added number own) sums entries) (sym (quiet.sums own)) h))

  -- an entry for this request
  own_more : (kind : ℕ) (entry : List ℕ) (a : AskKind) (n : ℕ) (among test : Bool) (own : List CollectionCall) (entries : List (List ℕ)) → a ≡ asked → n ≡ number → among ≡ true → test ≡ true → HoldsOf own entries
      → HoldsOf ((if is_value kind (type_sent a) && among then entry_call a n entry ∷ [] else []) ++ own) (entries ++ (if is_value kind (type_sent asked) && test then entry ∷ [] else []))
  own_more kind entry a n among test own entries so_asked same within is h = rw (so_asked, same, within, is) (by_type (is_value kind (type_sent asked)))
    where
      by_type : (b : Bool) → HoldsOf ((if b && true then entry_call asked number entry ∷ [] else []) ++ own) (entries ++ (if b && true then entry ∷ [] else []))
      by_type true = keeps.more entry own entries h
      by_type false = quiet_more [] own entries (quiet_none number) h

  -- an entry for the request that is found
  found_more : (kind : ℕ) (entry : List ℕ) (found : Option Issued) (before : List CollectionCall) (entries : List (List ℕ)) → is_among number (collecting before) ≡ true
      → ((request : Issued) → found ≡ Some request → request.number ≡ number → request.asked.kind ≡ asked) → HoldsOf (since number before) entries
      → HoldsOf (entry_kept found kind entry before ++ since number before) (entries ++ (if is_value kind (type_sent asked) && option_map_or (λ (request : Issued). request.number == number) found false then entry ∷ [] else []))
  found_more kind entry None before entries within so_asked h = rw (and-false (is_value kind (type_sent asked))) (quiet_more [] (since number before) entries (quiet_none number) h)
  found_more kind entry (Some request) before entries within so_asked h = elim (eqb_tells request.number number) [
    | inl this ↦
        own_more kind entry request.asked.kind request.number (is_among request.number (collecting before)) (request.number == number) (since number before) entries
        (so_asked request refl this.1) this.1 (rw this.1 within) this.0 h
    | inr apart ↦
        rw (apart.0, and-false (is_value kind (type_sent asked)))
        (quiet_more (entry_kept (Some request) kind entry before) (since number before) entries
        (quiet_if (collects request kind before) number (entry_call request.asked.kind request.number entry ∷ []) (quiet_entry request.asked.kind number request.number entry apart.0)) h)
  ]

  -- an item
  item_more : (later : List Item) (item : Item) (own : List CollectionCall) (entries : List (List ℕ)) → own ≡ since number (collections_after s (later ++ base)) → Collects s number (later ++ base) → HoldsOf own entries
      → HoldsOf (collections_given s (later ++ base) item ++ own) (entries ++ entry_for s number asked (later ++ base) item)
  item_more later (Entry x kind entry) own entries is within h =
      let view = later ++ base in
      subst (λ (l : List CollectionCall). HoldsOf (entry_kept (request_for s x (requests_after s view)) kind entry (collections_after s view) ++ l) (entries ++ entry_for s number asked view (Entry x kind entry))) (sym is)
      (found_more kind entry (remembered_for s view x) (collections_after s view) entries within
      (λ request there same. message_of_number s view x request (found-remembered s view x request there) later message moment earlier refl asks.asks (same ∙ numbered))
      (subst (λ (l : List CollectionCall). HoldsOf l entries) is h))
  item_more later Up own entries is within h = quiet_more (EndAll ∷ []) own entries (quiet_end number) h
  item_more later Down own entries is within h = quiet_more (EndAll ∷ []) own entries (quiet_end number) h
  item_more later (Msg m t) own entries is within h =
      let view = later ++ base in
      quiet_more (collections_given s view (Msg m t)) own entries
      (quiet_message (is_dismissing m) (is_any (answer_to s view (Msg m t)).to_switch) (issued (requests_after s view)) number (kind_asked (message_read s m))) h
  item_more later (Fault x class code pair) own entries is within h =
      let found = request_for s x (requests_after s (later ++ base)) in
      quiet_more (finished found) own entries (quiet_finished number found) h
  item_more later (Last x kind) own entries is within h =
      let view = later ++ base in
      let found = request_for s x (requests_after s view) in
      quiet_more (collections_given s view (Last x kind)) own entries (quiet_if (is_any (answer_to s view (Last x kind)).to_slice) number (finished found) (quiet_finished number found)) h
  item_more later (Opened features) own entries is within h = quiet_more [] own entries (quiet_none number) h
  item_more later (Lost k) own entries is within h = quiet_more [] own entries (quiet_none number) h
  item_more later (Handed packet) own entries is within h = quiet_more [] own entries (quiet_none number) h
  item_more later (Removed entry) own entries is within h = quiet_more [] own entries (quiet_none number) h
  item_more later (Status status) own entries is within h = quiet_more [] own entries (quiet_none number) h
  item_more later (Barrier x) own entries is within h = quiet_more [] own entries (quiet_none number) h
  item_more later (Queues x body) own entries is within h = quiet_more [] own entries (quiet_none number) h
  item_more later End own entries is within h = quiet_more [] own entries (quiet_none number) h

  collects_after : (later : List Item) → NoneOf (ItemEndsCollecting s number) later base → Collects s number (later ++ base)
  collects_after later none = collects-IsCollecting s (later ++ base) number (record {
    later = later;
    message = message;
    moment = moment;
    earlier = earlier;
    split = refl;
    asks = asks;
    numbered = numbered;
    not_ended = none;
  })

  none_first : HoldsOf [] []
  unfolding added summed
  none_first = keeps.none

  at_first : HoldsOf (since number (collections_after s base)) (entries_for s number asked base)
  at_first =
      let calls = collections_after s earlier in
      let started : collections_after s base ≡ Start number ∷ calls = rw numbered (started_call s earlier message moment asks) in
      let out : is_among number (collecting calls) ≡ false = rw numbered (not_begun s earlier) in
      let nothing : entries_for s number asked base ≡ [] = append-nil (entries_for s number asked earlier) ∙ none_before s earlier number asked (omega (arith, numbered)) in
      rw (started, since-begin number calls out, nothing) none_first

  pub held_through : (later : List Item) → NoneOf (ItemEndsCollecting s number) later base → HoldsOf (since number (collections_after s (later ++ base))) (entries_for s number asked (later ++ base))
  held_through [] none = at_first
  held_through (item ∷ later) none =
      let view = later ++ base in
      let within = collects_after later none.1 in
      subst (λ (l : List CollectionCall). HoldsOf l (entries_for s number asked view ++ entry_for s number asked view item))
      (sym (since_with number (collections_given s view item) (collections_after s view) (collection_one s view item) within))
      (item_more later item (since number (collections_after s view)) (entries_for s number asked view) refl within (held_through later none.1))

-- ---- what is gathered

gathered_sums : (number : ℕ) (calls : List CollectionCall) (entries : List (List ℕ)) → AreSums (added number (since number calls)) (summed number (since number calls)) entries
    → IsGatheredOf kinds.Aggregate entries (gathered number calls)
unfolding gathered
gathered_sums number calls entries h = (ap (λ (n : ℕ). n % 2 ^ 64) h.0, ap (λ (n : ℕ). n % 2 ^ 64) h.1, ap (λ (n : ℕ). n % 2 ^ 32) h.2)

gathered_entries : (number : ℕ) (calls : List CollectionCall) (entries : List (List ℕ)) → turned (added number (since number calls)) ≡ entries → IsLongestPrefix entries (gathered number calls).entries
unfolding gathered
gathered_entries number calls entries is = subst (λ (es : List (List ℕ)). IsLongestPrefix es (kept_run (added number (since number calls)))) is (kept-longest (added number (since number calls)))

gathered_so : (s : Settings) (view : List Item) (number : ℕ) (h : IsCollectingIn s number view) (asked : AskKind) → asked ≡ kind_asked (message_read s h.message)
    → ((Holds : List (List ℕ) → List (ℕ × ℕ) → List (List ℕ) → Type 0) → IsKeptBy number asked Holds → Holds (added number (since number (collections_after s view))) (summed number (since number (collections_after s view))) (entries_for s number asked view))
    → IsGatheredOf asked (entries_for s number asked view) (gathered_after s number view)
gathered_so s view number h asked is holds = elim (cases_kind asked) [
  | inl sum ↦
      subst (λ (a : AskKind). IsGatheredOf a (entries_for s number asked view) (gathered_after s number view)) (sym sum)
      (gathered_sums number (collections_after s view) (entries_for s number asked view) (holds AreSums (subst (λ (a : AskKind). IsKeptBy number a AreSums) (sym sum) (sums_kept number))))
  | inr single ↦
      single.wants (entries_for s number asked view) (gathered_after s number view)
      (gathered_entries number (collections_after s view) (entries_for s number asked view) (holds AreThese (these_kept number asked single)))
]

pub collecting-gathered : (s : Settings) (view : List Item) (number : ℕ) (h : IsCollectingIn s number view)
    → IsGatheredOf (kind_asked (message_read s h.message)) (entries_for s number (kind_asked (message_read s h.message)) view) (gathered_after s number view)
collecting-gathered s view number h =
    let asked = kind_asked (message_read s h.message) in
    gathered_so s view number h asked refl
    (λ Holds keeps.
    subst (λ (v : List Item). Holds (added number (since number (collections_after s v))) (summed number (since number (collections_after s v))) (entries_for s number asked v)) (sym h.split)
    (held_through s number h.message h.moment h.earlier h.asks h.numbered Holds keeps h.later h.not_ended))
