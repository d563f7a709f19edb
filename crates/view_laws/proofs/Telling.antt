-- What a slice is sent with the last part of statistics.
use Rattle.std.proofs.Common.{◌≡◌, ℕ, ◌&&◌, Bool, true, false, if◌then◌else◌, List, [], ◌∷◌, ◌++◌, refl, sym, ap, subst, ◌∙◌, true≢false, inl, inr, Option, Some, None}
use Rattle.std.specs.List.{list_any}
use Rattle.std.proofs.lemmas.Bool.{cases_Bool, and_parts, or_parts, eq-eqb, eqb-true}
use Rattle.of10_model.specs.Normal.{is_value}
use Rattle.xid_map.specs.declared.asked.AskKind.{AskKind}
use Rattle.xid_map.specs.declared.asked.Issued.{Issued}
use Rattle.xid_map.specs.Collections.{CollectionCall, is_among, collecting, gathered}
use Rattle.stats_filter.specs.Asking.{type_sent}
use Rattle.slice_words.specs.Messages.{is_dismissing, kind_asked}
use Rattle.slice_words.specs.Items.{Settings, message_read, Item, Opened, Up, Down, Msg, Lost, Handed, Removed, Status, Fault, Barrier, Queues, Entry, Last, End, is_up, is_forgetting}
use Rattle.slice_words.specs.Pasts.{Answer, no_answer, told, is_any}
use Rattle.slice_words.specs.Statistics.{collects, collected_replies, statistics_told}
use Rattle.slice_words.specs.Answers.{message_answer}
use Rattle.slice_words.specs.Alone.{answer_to}
use Rattle.slice_words.specs.Standing.{past_of}
use Rattle.view_laws.specs.Requests.{is_request, remembered_for, IsRemembered}
use Rattle.view_laws.specs.Gathering.{gathered_after, entries_for, IsGatheredOf, CollectsFor, AreRepliesOver}
use Rattle.view_laws.proofs.Requesting.{dismissing_asks_nothing}
use Rattle.view_laws.proofs.Remembering.{remembered-found, found-remembered}
use Rattle.view_laws.proofs.Collected.{collections_after}
use Rattle.view_laws.proofs.Lasting.{IsCollecting-collects}
use Rattle.view_laws.proofs.Gathering.{message_of_number, collecting-gathered}

-- ---- a slice whose request is remembered is up

up_by_answer : (up : Bool) (a : Answer) → is_any (if up then a else no_answer).to_switch ≡ true → up ≡ true
up_by_answer true a some = refl
up_by_answer false a some = absurd (true≢false (sym some))

stays_up : (dismissing up : Bool) → dismissing ≡ false → up ≡ true → (if dismissing then false else up) ≡ true
stays_up dismissing up goes_on is = rw goes_on is

item_stays_up : (item : Item) (view : List Item) → is_forgetting item ≡ false → is_up view ≡ true → is_up (item ∷ view) ≡ true
item_stays_up Up view kept up = refl
item_stays_up Down view kept up = absurd (true≢false kept)
item_stays_up (Msg message moment) view kept up = stays_up (is_dismissing message) (is_up view) kept up
item_stays_up (Opened features) view kept up = up
item_stays_up (Lost k) view kept up = up
item_stays_up (Handed packet) view kept up = up
item_stays_up (Removed entry) view kept up = up
item_stays_up (Status status) view kept up = up
item_stays_up (Fault x class code pair) view kept up = up
item_stays_up (Barrier x) view kept up = up
item_stays_up (Queues x body) view kept up = up
item_stays_up (Entry x kind bytes) view kept up = up
item_stays_up (Last x kind) view kept up = up
item_stays_up End view kept up = up

up_through : (later view : List Item) → list_any is_forgetting later ≡ false → is_up view ≡ true → is_up (later ++ view) ≡ true
up_through [] view kept up = up
up_through (item ∷ later) view kept up =
    let parts = or_parts (is_forgetting item) (list_any is_forgetting later) kept in
    item_stays_up item (later ++ view) parts.0 (up_through later view parts.1 up)

request_goes_on : (s : Settings) (view : List Item) (message : List ℕ) (moment : ℕ) → is_request s view (Msg message moment) ≡ true → is_dismissing message ≡ false
request_goes_on s view message moment asks = elim (cases_Bool (is_dismissing message)) [
  | inl dismissing ↦ absurd (true≢false (sym asks ∙ dismissing_asks_nothing s view message moment dismissing))
  | inr goes_on ↦ goes_on
]

remembered_up : (s : Settings) (view : List Item) (x : ℕ) (request : Issued) → IsRemembered s view x request → is_up view ≡ true
remembered_up s view x request h =
    subst (λ (v : List Item). is_up v ≡ true) (sym h.split)
    (up_through h.later (Msg h.message h.moment ∷ h.earlier) h.not_forgotten
    (stays_up (is_dismissing h.message) (is_up h.earlier) (request_goes_on s h.earlier h.message h.moment h.asks)
    (up_by_answer (is_up h.earlier) (message_answer s h.earlier (past_of s h.earlier) h.moment h.message) h.asks)))

-- ---- what it is sent

told_up : (up : Bool) (messages : List (List ℕ)) → up ≡ true → (if up then told messages else no_answer).to_slice ≡ messages
told_up up messages is = rw is refl

told_of : (found : Option Issued) (request : Issued) (kind : ℕ) (before : List CollectionCall) → found ≡ Some request → collects request kind before ≡ true
    → statistics_told found kind before ≡ collected_replies request.asked.kind (gathered request.number before) request.asked.xid
told_of found request kind before is does = rw (is, does) refl

collects_so : (sent : Option ℕ) (kind : ℕ) (among : Bool) → sent ≡ Some kind → among ≡ true → (is_value kind sent && among) ≡ true
collects_so sent kind among is within = rw (is, within, eq-eqb kind kind refl) refl

gathered_for : (s : Settings) (view : List Item) (x kind : ℕ) (request : Issued) → CollectsFor s x kind request view
    → IsGatheredOf request.asked.kind (entries_for s request.number request.asked.kind view) (gathered_after s request.number view)
gathered_for s view x kind request h =
    let c = IsCollecting-collects s view request.number h.1 in
    let same : request.asked.kind ≡ kind_asked (message_read s c.message) =
    message_of_number s view x request h.0 c.later c.message c.moment c.earlier c.split c.asks.asks c.numbered in
    subst (λ (a : AskKind). IsGatheredOf a (entries_for s request.number a view) (gathered_after s request.number view)) (sym same) (collecting-gathered s view request.number c)

pub told-replies : (s : Settings) (view : List Item) (x kind : ℕ) (request : Issued) → CollectsFor s x kind request view
    → AreRepliesOver request.asked.kind (entries_for s request.number request.asked.kind view) request.asked.xid (answer_to s view (Last x kind)).to_slice
told-replies s view x kind request h = (
  gathered_after s request.number view,
  gathered_for s view x kind request h,
  told_up (is_up view) (statistics_told (remembered_for s view x) kind (collections_after s view)) (remembered_up s view x request h.0)
      ∙ told_of (remembered_for s view x) request kind (collections_after s view) (remembered-found s view x request h.0)
      (collects_so (type_sent request.asked.kind) kind (is_among request.number (collecting (collections_after s view))) h.2 h.1),
)

-- ---- and else nothing

value_is : (kind : ℕ) (sent : Option ℕ) → is_value kind sent ≡ true → sent ≡ Some kind
value_is kind None is = absurd (true≢false (sym is))
value_is kind (Some other) is = ap (λ (k : ℕ). Some k) (eqb-true other kind is)

told_none : (s : Settings) (view : List Item) (x kind : ℕ) (found : Option Issued) → remembered_for s view x ≡ found → ((request : Issued) → CollectsFor s x kind request view → ⊥)
    → statistics_told found kind (collections_after s view) ≡ []
told_none s view x kind None is none = refl
told_none s view x kind (Some request) is none = elim (cases_Bool (collects request kind (collections_after s view))) [
  | inl does ↦
      let parts = and_parts (is_value kind (type_sent request.asked.kind)) (is_among request.number (collecting (collections_after s view))) does in
      absurd (none request (found-remembered s view x request is, parts.1, value_is kind (type_sent request.asked.kind) parts.0))
  | inr not ↦ rw not refl
]

silent_or_none : (up : Bool) (messages : List (List ℕ)) → messages ≡ [] → (if up then told messages else no_answer).to_slice ≡ []
silent_or_none true messages none = none
silent_or_none false messages none = refl

pub told-nothing : (s : Settings) (view : List Item) (x kind : ℕ) → ((request : Issued) → CollectsFor s x kind request view → ⊥) → (answer_to s view (Last x kind)).to_slice ≡ []
told-nothing s view x kind none =
    silent_or_none (is_up view) (statistics_told (remembered_for s view x) kind (collections_after s view)) (told_none s view x kind (remembered_for s view x) refl none)
