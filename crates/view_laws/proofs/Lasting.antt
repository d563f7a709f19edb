-- How long a request collects, in words of the items.
use Rattle.std.proofs.Common.{◌≡◌, ◌≢◌, ◌⊎◌, ℕ, ◌<◌, ◌≤◌, not, Bool, true, false, if◌then◌else◌, List, [], ◌∷◌, ◌++◌, zero, suc, length, take, All, AllPairs, refl, sym, ap, subst, ◌∙◌, true≢false, inl, inr, arith, Option, Some, None}
use Rattle.std.specs.Prelude.{◌==◌, slice_index_or}
use Rattle.std.proofs.lemmas.Bool.{cases_Bool, cases_lt}
use Rattle.std.proofs.lemmas.Bool.Decides.{eqb_tells}
use Rattle.std.proofs.lemmas.List.{length-take, get_or-take}
use Rattle.std.proofs.lemmas.List.Elements.{All-nil, All-cons, All-take, All-filter, All-weaker}
use Rattle.std.proofs.lemmas.List.Kept.{AllPairs-cons, AllPairs-filter}
use Rattle.xid_map.specs.declared.asked.AskKind.{AskKind}
use Rattle.xid_map.specs.declared.asked.AskKind.TheVariants as kinds
use Rattle.xid_map.specs.declared.asked.Issued.{Issued}
use Rattle.xid_map.specs.Requests.{issued}
use Rattle.xid_map.specs.Collections.{CollectionCall, Start, Add, Sum, Finish, EndAll, is_among, collecting, since}
use Rattle.xid_map.specs.Laws as calls
use Rattle.xid_map.specs.Laws.{NoneOf}
use Rattle.xid_map.proofs.Collecting.{IsCollecting-collecting, collecting-IsCollecting, newest-first, kept_through}
use Rattle.slice_words.specs.Messages.{is_dismissing, kind_asked}
use Rattle.slice_words.specs.Items.{Settings, message_read, Item, Opened, Up, Down, Msg, Lost, Handed, Removed, Status, Fault, Barrier, Queues, Entry, Last, End}
use Rattle.slice_words.specs.Pasts.{is_any}
use Rattle.slice_words.specs.Statistics.{asks_statistics, collects, entry_call, entry_kept, finished}
use Rattle.slice_words.specs.Calls.{request_for}
use Rattle.slice_words.specs.Alone.{answer_to}
use Rattle.view_laws.specs.Requests.{is_request, requests_in, next_number}
use Rattle.view_laws.specs.Collecting.{Collects, IsStatistics, ItemEndsCollecting, IsCollectingIn}
use Rattle.view_laws.proofs.Making.{made_over, all-one, made_by, none_acts}
use Rattle.view_laws.proofs.Requesting.{requests_after}
use Rattle.view_laws.proofs.Remembering.{remembered-found, found-remembered}
use Rattle.view_laws.proofs.Collected.{collections_after, collections_given, of_message, collection_one, collections_made, statistics_read, start_of, start_from}

-- ---- the order in which they were made

-- one was made before another
abbrev Made : ℕ → ℕ → Type 0
Made newer older = older < newer

AllPairs-take : (R : ℕ → ℕ → Type 0) (count : ℕ) (ms : List ℕ) → AllPairs R ms → AllPairs R (take count ms)
AllPairs-take R count ms pairs i j d before within =
    let size = length-take count ms in
    let first : i < count = omega (arith, before, within, size) in
    let second : j < count = omega (arith, within, size) in
    rw (get_or-take count ms i d first, get_or-take count ms j d second) (pairs i j d before (omega (arith, within, size)))

-- of those that collect each was made after all that stand behind it, and before so many
record AreMade (bound : ℕ) (these : List CollectionCall) : Type 0 where
  falling : AllPairs Made (collecting these)
  below : All (λ m. m < bound) (collecting these)

among_place : (number d : ℕ) (ms : List ℕ) → is_among number ms ≡ true → (k : ℕ) × (k < length ms) × (slice_index_or ms k d ≡ number)
among_place number d [] is = cc
among_place number d (m ∷ ms) is = elim (eqb_tells m number) [
  | inl this ↦ (zero, omega arith, this.1)
  | inr other ↦
      let rest = among_place number d ms (rw other.0 at is) in
      (suc rest.0, omega (arith, rest.1), rest.2)
]

-- so the next isn't among them
below_at : (bound number : ℕ) (ms : List ℕ) → All (λ m. m < bound) ms → is_among number ms ≡ true → number < bound
below_at bound number ms all is =
    let place = among_place number 0 ms is in
    subst (λ (m : ℕ). m < bound) place.2 (all place.0 0 place.1)

not_among : (bound number : ℕ) (ms : List ℕ) → bound ≤ number → All (λ m. m < bound) ms → is_among number ms ≡ false
not_among bound number ms late all = elim (cases_Bool (is_among number ms)) [
  | inl within ↦ absurd (let below = below_at bound number ms all within in omega (arith, below, late))
  | inr out ↦ out
]

none_made : (bound : ℕ) → AreMade bound []
unfolding collecting
none_made bound = record { falling = λ i j d before within. absurd (omega (arith, within)); below = All-nil (λ m. m < bound) }

-- one item more makes one more at most, and no fewer
made_more : (call : CollectionCall) (these : List CollectionCall) (bound later : ℕ) → bound ≤ later → ((number : ℕ) → call ≡ Start number → (number ≡ bound) × (bound < later)) → AreMade bound these → AreMade later (call ∷ these)
unfolding collecting
made_more (Start number) these bound later grows starts h =
    let is = starts number refl in
    let out : is_among number (collecting these) ≡ false = not_among bound number (collecting these) (omega (arith, is.0)) h.below in
    record {
      falling = rw out (AllPairs-take Made 8 (number ∷ collecting these)
          (AllPairs-cons Made number (collecting these) (All-weaker (λ m. m < bound) (λ m. m < number) (λ m below. omega (arith, below, is.0)) (collecting these) h.below) h.falling));
      below = rw out (All-take (λ m. m < later) 8 (number ∷ collecting these)
          (All-cons (λ m. m < later) number (collecting these) (omega (arith, is.0, is.1)) (All-weaker (λ m. m < bound) (λ m. m < later) (λ m below. omega (arith, below, grows)) (collecting these) h.below)));
    }
made_more (Add number entry) these bound later grows starts h = record { falling = h.falling; below = All-weaker (λ m. m < bound) (λ m. m < later) (λ m below. omega (arith, below, grows)) (collecting these) h.below }
made_more (Sum number packets bytes) these bound later grows starts h = record { falling = h.falling; below = All-weaker (λ m. m < bound) (λ m. m < later) (λ m below. omega (arith, below, grows)) (collecting these) h.below }
made_more (Finish number) these bound later grows starts h = record {
  falling = AllPairs-filter Made (λ m. not (m == number)) (collecting these) h.falling;
  below = All-filter (λ m. not (m == number)) (λ m. m < later) (collecting these) (All-weaker (λ m. m < bound) (λ m. m < later) (λ m below. omega (arith, below, grows)) (collecting these) h.below);
}
made_more EndAll these bound later grows starts h = record { falling = λ i j d before within. absurd (omega (arith, within)); below = All-nil (λ m. m < later) }

-- and none changes nothing
made_still : (these : List CollectionCall) (bound later : ℕ) → bound ≤ later → AreMade bound these → AreMade later these
made_still these bound later grows h = record { falling = h.falling; below = All-weaker (λ m. m < bound) (λ m. m < later) (λ m below. omega (arith, below, grows)) (collecting these) h.below }

-- a request more is counted
counted_on : (counts : Bool) (item : Item) (items : List Item) → length items ≤ length (if counts then item ∷ items else items)
counted_on true item items = omega arith
counted_on false item items = omega arith

counted_one : (counts : Bool) (item : Item) (items : List Item) → counts ≡ true → length items < length (if counts then item ∷ items else items)
counted_one true item items is = omega arith
counted_one false item items is = absurd (true≢false (sym is))

starts_next : (s : Settings) (view : List Item) (item : Item) (number : ℕ) → collections_given s view item ≡ Start number ∷ [] → (number ≡ next_number s view) × (next_number s view < next_number s (item ∷ view))
starts_next s view item number is =
    let w = start_from s view item number is in
    let asks : is_request s view item ≡ true = ap (λ (i : Item). is_request s view i) w.is_message ∙ w.asks.asks in
    (w.numbered, counted_one (is_request s view item) item (requests_in s view) asks)

-- so it is after each view
made_after : (s : Settings) (view : List Item) → AreMade (next_number s view) (collections_after s view)
made_after s [] = none_made 0
made_after s (item ∷ view) = by_call (made_after s view) (collection_one s view item)
  where
    grows : next_number s view ≤ next_number s (item ∷ view)
    grows = counted_on (is_request s view item) item (requests_in s view)

    by_call : AreMade (next_number s view) (collections_after s view) → (collections_given s view item ≡ []) ⊎ ((c : CollectionCall) × (collections_given s view item ≡ c ∷ [])) → AreMade (next_number s (item ∷ view)) (collections_after s (item ∷ view))
    by_call before (inl nothing) =
        subst (λ (these : List CollectionCall). AreMade (next_number s (item ∷ view)) (these ++ collections_after s view)) (sym nothing)
        (made_still (collections_after s view) (next_number s view) (next_number s (item ∷ view)) grows before)
    by_call before (inr (call, is)) =
        subst (λ (these : List CollectionCall). AreMade (next_number s (item ∷ view)) (these ++ collections_after s view)) (sym is)
        (made_more call (collections_after s view) (next_number s view) (next_number s (item ∷ view)) grows
        (λ number starts. starts_next s view item number (is ∙ ap (λ (c : CollectionCall). c ∷ []) starts)) before)

-- ---- the first of those that collect

-- of two that collect the one that was made first began first
module _ (these : List CollectionCall) (bound : ℕ) (made : AreMade bound these) (number other : ℕ) (apart : other ≢ number) (own : is_among number (collecting these) ≡ true) (its : is_among other (collecting these) ≡ true) where
  abbrev BeganAfter : ℕ → ℕ → Type 0
  BeganAfter newer older = length (since newer these) < length (since older these)

  in_order : ((BeganAfter number other) × (other < number)) ⊎ ((BeganAfter other number) × (number < other))
  in_order =
      let i = among_place number 0 (collecting these) own in
      let j = among_place other 0 (collecting these) its in
      elim (cases_lt i.0 j.0) [
        | inl before ↦ inl (rw (i.2, j.2) at (newest-first these i.0 j.0 0 before j.1), rw (i.2, j.2) at (made.falling i.0 j.0 0 before j.1))
        | inr behind ↦ elim (cases_lt j.0 i.0) [
          | inl before ↦ inr (rw (i.2, j.2) at (newest-first these j.0 i.0 0 before i.1), rw (i.2, j.2) at (made.falling j.0 i.0 0 before i.1))
          | inr same ↦
              let at_one : i.0 ≡ j.0 = omega (arith, behind, same) in
              absurd (apart (sym j.2 ∙ ap (λ (k : ℕ). slice_index_or (collecting these) k 0) (sym at_one) ∙ i.2))
        ]
      ]

  made_first : BeganAfter other number → number ≤ other
  made_first later = elim in_order [ inl mine ↦ absurd (omega (arith, mine.0, later)) | inr its_own ↦ omega (arith, its_own.1) ]

  began_first : number ≤ other → BeganAfter other number
  began_first least = elim in_order [ inl mine ↦ absurd (omega (arith, mine.1, least)) | inr its_own ↦ its_own.0 ]

-- ---- what ends it

ends_all : (dismissing puts : Bool) (number : ℕ) (kind : AskKind) → dismissing ≡ true → of_message dismissing puts number kind ≡ EndAll ∷ []
ends_all true puts number kind is = refl
ends_all false puts number kind is = absurd (true≢false (sym is))

-- an item that ends it makes a call that does
ends_called : (s : Settings) (number : ℕ) (item : Item) (view : List Item) → ItemEndsCollecting s number item view → (c : CollectionCall) × (collections_given s view item ≡ c ∷ []) × calls.EndsCollecting number c (collections_after s view)
ends_called s number Up view is = (EndAll, refl, tt)
ends_called s number Down view is = (EndAll, refl, tt)
ends_called s number (Msg message moment) view (inl ending) =
    (EndAll, ends_all (is_dismissing message) (is_any (answer_to s view (Msg message moment)).to_switch) (issued (requests_after s view)) (kind_asked (message_read s message)) ending, tt)
ends_called s number (Msg message moment) view (inr (asks, least)) =
    let made = made_after s view in (
      Start (next_number s view),
      start_of s view message moment asks,
      (
        not_among (next_number s view) (next_number s view) (collecting (collections_after s view)) (omega arith) made.below,
        least.eight,
        λ other apart its. began_first (collections_after s view) (next_number s view) made number other apart least.collects its (least.is_first other its),
      ),
    )
ends_called s number (Fault x class code pair) view (request, there, is) =
    (Finish request.number, ap (λ (found : Option Issued). finished found) (remembered-found s view x request there), is)
ends_called s number (Last x kind) view (told, (request, there, is)) = (
  Finish request.number,
  ap (λ (b : Bool). if b then finished (request_for s x (requests_after s view)) else []) told ∙ ap (λ (found : Option Issued). finished found) (remembered-found s view x request there),
  is,
)
ends_called s number (Opened features) view is = absurd is
ends_called s number (Lost k) view is = absurd is
ends_called s number (Handed packet) view is = absurd is
ends_called s number (Removed entry) view is = absurd is
ends_called s number (Status status) view is = absurd is
ends_called s number (Barrier x) view is = absurd is
ends_called s number (Queues x body) view is = absurd is
ends_called s number (Entry x kind entry) view is = absurd is
ends_called s number End view is = absurd is

finished_is : (told : Bool) (found : Option Issued) (c : CollectionCall) → (if told then finished found else []) ≡ c ∷ [] → (told ≡ true) × ((request : Issued) × (found ≡ Some request) × (c ≡ Finish request.number))
finished_is true None c is = cc
finished_is true (Some request) c is = (refl, (request, refl, cc))
finished_is false found c is = cc

begun_is : (puts begins : Bool) (number : ℕ) (c : CollectionCall) → (if puts then (if begins then Start number ∷ [] else []) else []) ≡ c ∷ [] → (puts ≡ true) × (begins ≡ true) × (c ≡ Start number)
begun_is true true number c is = (refl, refl, cc)
begun_is true false number c is = cc
begun_is false begins number c is = cc

message_is : (dismissing puts : Bool) (number : ℕ) (kind : AskKind) (c : CollectionCall) → of_message dismissing puts number kind ≡ c ∷ []
    → (dismissing ≡ true) ⊎ ((puts ≡ true) × (asks_statistics kind ≡ true) × (c ≡ Start number))
message_is true puts number kind c is = inl refl
message_is false puts number kind c is = inr (begun_is puts (asks_statistics kind) number c is)

entry_ends_nothing : (kind : AskKind) (of number : ℕ) (entry : List ℕ) (these : List CollectionCall) → calls.EndsCollecting number (entry_call kind of entry) these → ⊥
entry_ends_nothing kinds.FlowMod of number entry these is = is
entry_ends_nothing kinds.PacketOut of number entry these is = is
entry_ends_nothing kinds.Barrier of number entry these is = is
entry_ends_nothing kinds.QueueConfig of number entry these is = is
entry_ends_nothing kinds.Desc of number entry these is = is
entry_ends_nothing kinds.Flow of number entry these is = is
entry_ends_nothing kinds.Aggregate of number entry these is = is
entry_ends_nothing kinds.Port of number entry these is = is
entry_ends_nothing kinds.Queue of number entry these is = is

kept_ends_nothing : (found : Option Issued) (kind number : ℕ) (entry : List ℕ) (these : List CollectionCall) (c : CollectionCall) → entry_kept found kind entry these ≡ c ∷ [] → calls.EndsCollecting number c these → ⊥
kept_ends_nothing None kind number entry these c is ends_ = cc
kept_ends_nothing (Some request) kind number entry these c is ends_ = by_test (collects request kind these) is
  where
    by_test : (b : Bool) → (if b then entry_call request.asked.kind request.number entry ∷ [] else []) ≡ c ∷ [] → ⊥
    by_test true same =
        let call : c ≡ entry_call request.asked.kind request.number entry = cc in
        entry_ends_nothing request.asked.kind request.number number entry these (subst (λ (k : CollectionCall). calls.EndsCollecting number k these) call ends_)
    by_test false same = cc

-- of a request that collects, a call that ends it is made by an item that does
called_ends : (s : Settings) (number : ℕ) (item : Item) (view : List Item) (c : CollectionCall) → collections_given s view item ≡ c ∷ [] → Collects s number view → calls.EndsCollecting number c (collections_after s view) → ItemEndsCollecting s number item view
called_ends s number Up view c is own ends_ = tt
called_ends s number Down view c is own ends_ = tt
called_ends s number (Msg message moment) view c is own ends_ =
    let this = message_is (is_dismissing message) (is_any (answer_to s view (Msg message moment)).to_switch) (issued (requests_after s view)) (kind_asked (message_read s message)) c is in
    elim this [
      | inl dismissing ↦ inl dismissing
      | inr (puts, asks, starts) ↦
          let asked = statistics_read (message_read s message) asks in
          let ends_now = subst (λ (k : CollectionCall). calls.EndsCollecting number k (collections_after s view)) starts ends_ in
          inr (record { request = asked.0; read = asked.1; asks = puts }, record { collects = own; eight = ends_now.1; is_first = least ends_now.2 })
    ]
  where
    least : calls.IsOldest number (collections_after s view) → (other : ℕ) → Collects s other view → number ≤ other
    least oldest other its = elim (eqb_tells other number) [
      | inl same ↦ omega (arith, same.1)
      | inr apart ↦ made_first (collections_after s view) (next_number s view) (made_after s view) number other apart.1 own its (oldest other apart.1 its)
    ]
called_ends s number (Fault x class code pair) view c is own ends_ =
    let this = finished_is true (request_for s x (requests_after s view)) c is in
    (this.1.0, found-remembered s view x this.1.0 this.1.1, subst (λ (k : CollectionCall). calls.EndsCollecting number k (collections_after s view)) this.1.2 ends_)
called_ends s number (Last x kind) view c is own ends_ =
    let this = finished_is (is_any (answer_to s view (Last x kind)).to_slice) (request_for s x (requests_after s view)) c is in
    (this.0, (this.1.0, found-remembered s view x this.1.0 this.1.1, subst (λ (k : CollectionCall). calls.EndsCollecting number k (collections_after s view)) this.1.2 ends_))
called_ends s number (Entry x kind entry) view c is own ends_ = absurd (kept_ends_nothing (request_for s x (requests_after s view)) kind number entry (collections_after s view) c is ends_)
called_ends s number (Opened features) view c is own ends_ = cc
called_ends s number (Lost k) view c is own ends_ = cc
called_ends s number (Handed packet) view c is own ends_ = cc
called_ends s number (Removed entry) view c is own ends_ = cc
called_ends s number (Status status) view c is own ends_ = cc
called_ends s number (Barrier x) view c is own ends_ = cc
called_ends s number (Queues x body) view c is own ends_ = cc
called_ends s number End view c is own ends_ = cc

-- ---- from the message on

-- a request that collects goes on with a call that doesn't end it
call_goes_on : (number : ℕ) (c : CollectionCall) (these : List CollectionCall) → (calls.EndsCollecting number c these → ⊥) → is_among number (collecting these) ≡ true → is_among number (collecting (c ∷ these)) ≡ true
call_goes_on number c these not_ended own =
    let h = IsCollecting-collecting number these own in
    collecting-IsCollecting number (c ∷ these) (record {
      later = c ∷ h.later;
      earlier = h.earlier;
      split = ap (λ (rest : List CollectionCall). c ∷ rest) h.split;
      began = h.began;
      not_ended = (subst (λ (l : List CollectionCall). calls.EndsCollecting number c l → ⊥) h.split not_ended, h.not_ended);
    })

item_goes_on : (s : Settings) (number : ℕ) (item : Item) (view : List Item) → (ItemEndsCollecting s number item view → ⊥) → Collects s number view → Collects s number (item ∷ view)
item_goes_on s number item view not_ended own = elim (collection_one s view item) [
  | inl nothing ↦ subst (λ (these : List CollectionCall). is_among number (collecting (these ++ collections_after s view)) ≡ true) (sym nothing) own
  | inr (c, is) ↦
      subst (λ (these : List CollectionCall). is_among number (collecting (these ++ collections_after s view)) ≡ true) (sym is)
      (call_goes_on number c (collections_after s view) (λ ends_. not_ended (called_ends s number item view c is own ends_)) own)
]

pub started_call : (s : Settings) (earlier : List Item) (message : List ℕ) (moment : ℕ) → IsStatistics s message moment earlier → collections_after s (Msg message moment ∷ earlier) ≡ Start (next_number s earlier) ∷ collections_after s earlier
started_call s earlier message moment asks =
    all-one CollectionCall (collections_given s) (collections_after s) (collections_made s) (Msg message moment) earlier (Start (next_number s earlier)) (start_of s earlier message moment asks)

-- a request doesn't collect before it is made
pub not_begun : (s : Settings) (view : List Item) → is_among (next_number s view) (collecting (collections_after s view)) ≡ false
not_begun s view = not_among (next_number s view) (next_number s view) (collecting (collections_after s view)) (omega arith) (made_after s view).below

begins_there : (s : Settings) (earlier : List Item) (message : List ℕ) (moment : ℕ) → IsStatistics s message moment earlier → Collects s (next_number s earlier) (Msg message moment ∷ earlier)
begins_there s earlier message moment asks =
    let number = next_number s earlier in
    subst (λ (these : List CollectionCall). is_among number (collecting these) ≡ true) (sym (started_call s earlier message moment asks))
    (collecting-IsCollecting number (Start number ∷ collections_after s earlier) (record {
      later = [];
      earlier = collections_after s earlier;
      split = refl;
      began = not_begun s earlier;
      not_ended = tt;
    }))

pub collects-IsCollecting : (s : Settings) (view : List Item) (number : ℕ) → IsCollectingIn s number view → Collects s number view
collects-IsCollecting s view number h =
    subst (λ (v : List Item). Collects s number v) (sym h.split)
    (kept_through (ItemEndsCollecting s number) (Collects s number) (item_goes_on s number) h.later (Msg h.message h.moment ∷ h.earlier) h.not_ended
    (subst (λ (n : ℕ). Collects s n (Msg h.message h.moment ∷ h.earlier)) (sym h.numbered) (begins_there s h.earlier h.message h.moment h.asks)))

-- ---- back to it

pub IsCollecting-collects : (s : Settings) (view : List Item) (number : ℕ) → Collects s number view → IsCollectingIn s number view
IsCollecting-collects s view number own =
    let h = IsCollecting-collecting number (collections_after s view) own in
    let m = made_by CollectionCall (collections_given s) (collections_after s) (collections_made s) view h.later (Start number) h.earlier h.split in
    let w = start_from s m.earlier m.item number m.makes in
    let base = m.item ∷ m.earlier in
    let over = made_over CollectionCall (collections_given s) (collections_after s) (collections_made s) m.later base in
    let same : Start number ∷ h.earlier ≡ collections_after s base =
    ap (λ (these : List CollectionCall). Start number ∷ these) m.before ∙ sym (all-one CollectionCall (collections_given s) (collections_after s) (collections_made s) m.item m.earlier (Start number) m.makes) in
    let none : NoneOf (calls.EndsCollecting number) over (collections_after s base) =
    subst (λ (l : List CollectionCall). NoneOf (calls.EndsCollecting number) over l) same (subst (λ (l : List CollectionCall). NoneOf (calls.EndsCollecting number) l (Start number ∷ h.earlier)) m.after h.not_ended) in
    record {
      later = m.later;
      message = w.message;
      moment = w.moment;
      earlier = m.earlier;
      split = m.split ∙ ap (λ (item : Item). m.later ++ (item ∷ m.earlier)) w.is_message;
      asks = w.asks;
      numbered = w.numbered;
      not_ended = subst (λ (item : Item). NoneOf (ItemEndsCollecting s number) m.later (item ∷ m.earlier)) w.is_message
          (none_acts CollectionCall (collections_given s) (collections_after s) (collections_made s) (calls.EndsCollecting number) (ItemEndsCollecting s number) (ends_called s number) m.later base none);
    }
