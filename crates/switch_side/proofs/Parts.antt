-- What follows from replies of the switch, as the code finds it.
use Rattle.std.proofs.Common.{◌≡◌, ℕ, ◌/◌, ◌^◌, true, false, List, [], slice_get, refl, ap, ◌∙◌, Option, Some, None}
use Rattle.std.specs.List.{concat}
use Rattle.of10_stats.specs.declared.reply.StatsPart.{StatsPart}
use Rattle.flowspace.specs.declared.rules.Rule.{Rule}
use Rattle.xid_map.specs.declared.asked.Issued.{Issued}
use Rattle.xid_map.specs.Requests.{found}
use Rattle.xid_map.specs.Collections.{CollectionCall, gathered}
use Rattle.flow_book.specs.declared.state.SliceState.{SliceState}
use Rattle.stats_filter.specs.Asking.{type_sent}
use Rattle.slice_words.specs.Statistics.{collects, collected_replies}
use Rattle.switch_side.specs.declared.change.Change.TheVariants.{Collected, Finished}
use Rattle.switch_side.specs.Collecting.{entry_calls, calls_with}
use Rattle.switch_side.specs.Carrying.{CallsOf, Turn, collecting_turn, request_seen}
use Rattle.switch_side.proofs.Walking.{kept_found}
use Rattle.desk_words.specs.Histories.{kept_entries}

-- of a slice whose request collects the part, where more parts come
pub more_turn : (rules : List Rule) (called : CallsOf) (slot : ℕ) (part : StatsPart) (body : List ℕ) (request : Issued) (entries : List ℕ) → collects request part.kind called.collections ≡ true → part.more ≡ true
    → entries ≡ concat (kept_entries rules slot part.kind body)
    → Some (record { slot = slot; messages = []; change = Collected request.number request.asked.kind entries }) ≡ collecting_turn rules called slot part body request
more_turn rules called slot part body request entries open_ more kept =
    ap (λ (all : List ℕ). let turn : Turn = record { slot = slot; messages = []; change = Collected request.number request.asked.kind all } in Some turn) kept
    ∙ rw (open_, more) refl

found_calls : (rules : List Rule) (slot : ℕ) (part : StatsPart) (body : List ℕ) (request : Issued) (calls : List CollectionCall) → type_sent request.asked.kind ≡ Some part.kind
    → calls_with request.asked.kind request.number (concat (kept_entries rules slot part.kind body)) calls ≡ entry_calls request.asked.kind request.number (kept_entries rules slot part.kind body) calls
found_calls rules slot part body request calls sent =
    rw (calls_with, sent) (ap (λ (entries : List (List ℕ)). entry_calls request.asked.kind request.number entries calls) (kept_found rules slot part.kind body))

-- and where it is the last
pub last_turn : (rules : List Rule) (called : CallsOf) (slot : ℕ) (part : StatsPart) (body : List ℕ) (request : Issued) (last : List ℕ) → collects request part.kind called.collections ≡ true → part.more ≡ false
    → type_sent request.asked.kind ≡ Some part.kind → last ≡ concat (kept_entries rules slot part.kind body)
    → Some (record { slot = slot; messages = collected_replies request.asked.kind (gathered request.number (calls_with request.asked.kind request.number last called.collections)) request.asked.xid; change = Finished request.number })
    ≡ collecting_turn rules called slot part body request
last_turn rules called slot part body request last open_ more sent kept =
    ap (λ (now : List CollectionCall). let turn : Turn = record { slot = slot; messages = collected_replies request.asked.kind (gathered request.number now) request.asked.xid; change = Finished request.number } in Some turn)
    (ap (λ (entries : List ℕ). calls_with request.asked.kind request.number entries called.collections) kept ∙ found_calls rules slot part body request called.collections sent)
    ∙ rw (open_, more) refl

pub no_turn : (rules : List Rule) (called : CallsOf) (slot : ℕ) (part : StatsPart) (body : List ℕ) (request : Issued) → collects request part.kind called.collections ≡ false → None ≡ collecting_turn rules called slot part body request
no_turn rules called slot part body request closed = rw closed refl

-- ---- the request that is seen under a transaction id

pub seen_at : (called : ℕ → CallsOf) (states : List SliceState) (xid slot : ℕ) (state : SliceState) (request : Option Issued) → slot ≡ xid / 2 ^ 24 → slice_get states slot ≡ Some state
    → request ≡ found slot xid (called slot).requests → request ≡ request_seen called states xid
seen_at called states xid slot state request top there is = rw (← top, there) is

pub none_at : (called : ℕ → CallsOf) (states : List SliceState) (xid slot : ℕ) → slot ≡ xid / 2 ^ 24 → slice_get states slot ≡ None → None ≡ request_seen called states xid
none_at called states xid slot top none = rw (← top, none) refl
