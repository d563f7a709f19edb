-- What entries of statistics make of what a request collects.
use Rattle.std.proofs.Common.{◌≡◌, ◌≢◌, ℕ, suc, ◌+◌, ◌-◌, ◌≤◌, ◌==◌, ◌&&◌, not, Bool, true, false, if◌then◌else◌, List, [], ◌∷◌, ◌++◌, map, filter, length, leb, append-nil, append_assoc, add_comm, refl, ap, sym, subst, ◌∙◌, true≢false, inl, inr, arith, Option, Some, None, IfSome}
use Rattle.std.specs.Prelude.{find, eqb, is_some, option_map}
use Rattle.std.specs.Option.{option_eq}
use Rattle.of10_model.specs.Normal.{is_value}
use Rattle.std.proofs.lemmas.Bool.{cases_Bool, eqb-false, lt-leb}
use Rattle.xid_map.specs.declared.asked.AskKind.{AskKind}
use Rattle.xid_map.specs.declared.asked.AskKind.TheVariants as kinds
use Rattle.xid_map.specs.declared.asked.Issued.{Issued}
use Rattle.xid_map.specs.Collections.{CollectionCall, Add, Sum, Finish, Gathered, gathered, is_among, collecting, collection_of, entries_of, sums_of, room_of, Collected, HasRoomToCollect, CollectionsStand}
use Rattle.xid_map.proofs.Gathering.{gathered-finish, gathered-add_other, gathered-sum_other, with_entry, gathered-add, gathered-sum}
use Rattle.of10_stats.specs.declared.protocol.TheConstants.{FLOW}
use Rattle.of10_stats.specs.Replies.{flow_of, entry_size_of}
use Rattle.stats_filter.specs.Asking.{type_sent}
use Rattle.stats_filter.specs.Keeping.{entries_in}
use Rattle.stats_filter.specs.Replies.{replies_for}
use Rattle.stats_filter.proofs.Rows.{no_entries}
use Rattle.slice_words.specs.Statistics.{entry_call, collected_replies, collects}
use Rattle.switch_side.specs.Collecting.{entry_calls, calls_with, kept_within, with_kept, with_flows, sums_in, sums_told}
use Rattle.switch_side.proofs.Walking.{IsAhead, ahead_first, ahead_length}

-- ---- room

less : (a b : ℕ) (found : Option Collected) → IfSome found (λ c. a + b ≤ c.spare) → IfSome found (λ c. b ≤ c.spare)
less a b None room = tt
less a b (Some c) room = omega (arith, room)

-- where there is room for more bytes there is for some of them
pub less_space : (number a b : ℕ) (all : List Collected) → HasRoomToCollect number (a + b) all → HasRoomToCollect number b all
less_space number a b all room = less a b (find (λ c. c.gathered.number == number) all) room

-- ---- a request that is finished

same_others : (number : ℕ) (f g : ℕ → Gathered) (numbers : List ℕ) → ((m : ℕ) → m ≢ number → f m ≡ g m)
    → map f (filter (λ other. not (other == number)) numbers) ≡ map g (filter (λ other. not (other == number)) numbers)
same_others number f g [] same = refl
same_others number f g (m ∷ ms) same = elim (cases_Bool (m == number)) [
  | inl own ↦ rw own (same_others number f g ms same)
  | inr other ↦ rw (other, same m (eqb-false m number other), same_others number f g ms same) refl
]

-- what changes a request alone says nothing where the request is finished then
one_finished : (number : ℕ) (call : CollectionCall) (before : List CollectionCall) (all : List Collected) → collecting (call ∷ before) ≡ collecting before
    → ((m : ℕ) → m ≢ number → gathered m (call ∷ before) ≡ gathered m before)
    → CollectionsStand (Finish number ∷ before) all → CollectionsStand (Finish number ∷ call ∷ before) all
unfolding collecting
one_finished number call before all same others stands = record {
  same =
      stands.same
      ∙ same_others number (λ m. gathered m (Finish number ∷ before)) (λ m. gathered m (Finish number ∷ call ∷ before)) (collecting before)
      (λ m apart. gathered-finish number m before ∙ sym (others m apart) ∙ sym (gathered-finish number m (call ∷ before)))
      ∙ ap (λ (numbers : List ℕ). map (λ m. gathered m (Finish number ∷ call ∷ before)) (filter (λ other. not (other == number)) numbers)) (sym same);
}

add_finished : (number : ℕ) (entry : List ℕ) (before : List CollectionCall) (all : List Collected) → CollectionsStand (Finish number ∷ before) all → CollectionsStand (Finish number ∷ Add number entry ∷ before) all
unfolding collecting
add_finished number entry before all stands = one_finished number (Add number entry) before all refl (λ m apart. gathered-add_other number m entry before apart) stands

sum_finished : (number packets bytes : ℕ) (before : List CollectionCall) (all : List Collected) → CollectionsStand (Finish number ∷ before) all → CollectionsStand (Finish number ∷ Sum number packets bytes ∷ before) all
unfolding collecting
sum_finished number packets bytes before all stands = one_finished number (Sum number packets bytes) before all refl (λ m apart. gathered-sum_other number m packets bytes before apart) stands

entry_finished : (kind : AskKind) (number : ℕ) (entry : List ℕ) (before : List CollectionCall) (all : List Collected) → CollectionsStand (Finish number ∷ before) all → CollectionsStand (Finish number ∷ entry_call kind number entry ∷ before) all
entry_finished kinds.Aggregate number entry before all stands = sum_finished number (flow_of entry).1 (flow_of entry).2 before all stands
entry_finished kind number entry before all stands = add_finished number entry before all stands

-- entries that came for a request that is then finished say nothing
pub entries_finished : (kind : AskKind) (number : ℕ) (entries : List (List ℕ)) (before : List CollectionCall) (all : List Collected) → CollectionsStand (Finish number ∷ before) all
    → CollectionsStand (Finish number ∷ entry_calls kind number entries before) all
entries_finished kind number [] before all stands = stands
entries_finished kind number (entry ∷ later) before all stands =
    entries_finished kind number later (entry_call kind number entry ∷ before) all (entry_finished kind number entry before all stands)

-- ---- entries that stand one behind another

-- while entries of a type come one after another there is room for those that are left, and the calls of all are those of these after the calls of others
pub record AreComing (kind : AskKind) (number sent : ℕ) (all rest : List ℕ) (old new : List Collected) : Type 0 where
  pub room : HasRoomToCollect number (length rest) new
  pub way : (calls : List CollectionCall) → CollectionsStand calls old
      → (now : List CollectionCall) × CollectionsStand now new × (entry_calls kind number (entries_in sent rest) now ≡ entry_calls kind number (entries_in sent all) calls)

pub first_coming : (kind : AskKind) (number sent : ℕ) (all : List ℕ) (old : List Collected) → HasRoomToCollect number (length all) old → AreComing kind number sent all all old old
first_coming kind number sent all old room = record { room = room; way = λ calls stands. (calls, stands, refl) }

pub room_ahead : (kind : AskKind) (number sent : ℕ) (all rest entry later : List ℕ) (old mid : List Collected) → AreComing kind number sent all rest old mid → IsAhead sent rest entry later → HasRoomToCollect number (length entry) mid
room_ahead kind number sent all rest entry later old mid coming ahead =
    less_space number (length later) (length entry) mid
    (subst (λ (n : ℕ). HasRoomToCollect number n mid) (ahead_length sent rest entry later ahead ∙ add_comm (length entry) (length later)) coming.room)

pub next_coming : (kind : AskKind) (number sent : ℕ) (all rest entry later : List ℕ) (old mid new : List Collected) → AreComing kind number sent all rest old mid → IsAhead sent rest entry later
    → ((calls : List CollectionCall) → CollectionsStand calls mid → CollectionsStand (entry_call kind number entry ∷ calls) new)
    → ((more : ℕ) → HasRoomToCollect number (length entry + more) mid → HasRoomToCollect number more new)
    → AreComing kind number sent all later old new
next_coming kind number sent all rest entry later old mid new coming ahead stands room = record {
  room = room (length later) (subst (λ (n : ℕ). HasRoomToCollect number n mid) (ahead_length sent rest entry later ahead) coming.room);
  way = λ calls begun.
      let before = coming.way calls begun in (
        entry_call kind number entry ∷ before.0,
        stands before.0 before.1,
        ap (λ (entries : List (List ℕ)). entry_calls kind number entries before.0) (sym (ahead_first sent rest entry later ahead)) ∙ before.2,
      );
}

pub all_came : (kind : AskKind) (number sent : ℕ) (all rest : List ℕ) (old new : List Collected) → AreComing kind number sent all rest old new → None ≡ entry_size_of sent rest → Some sent ≡ type_sent kind
    → (calls : List CollectionCall) → CollectionsStand calls old → CollectionsStand (calls_with kind number all calls) new
all_came kind number sent all rest old new coming none is calls begun =
    let before = coming.way calls begun in
    rw (calls_with, ← is)
    (subst (λ (now : List CollectionCall). CollectionsStand now new) (ap (λ (entries : List (List ℕ)). entry_calls kind number entries before.0) (sym (no_entries sent rest (sym none))) ∙ before.2) before.1)

pub calls_by : (kind : AskKind) (number sent : ℕ) (entries : List ℕ) (calls : List CollectionCall) → type_sent kind ≡ Some sent → calls_with kind number entries calls ≡ entry_calls kind number (entries_in sent entries) calls
calls_by kind number sent entries calls is = rw (calls_with, is) refl

-- ---- what a request has collected with more entries

-- entries one after another
abbrev with_all : List (List ℕ) → Gathered → Gathered
with_all [] g = g
with_all (entry ∷ later) g = with_all later (with_entry entry g)

none_within : (entries : List (List ℕ)) → kept_within 0 entries ≡ []
none_within [] = refl
none_within ([] ∷ later) = none_within later
none_within ((x ∷ xs) ∷ later) = rw (lt-leb (suc (length xs)) 0 (omega arith)) refl

all_kept : (entries : List (List ℕ)) (g : Gathered) → (with_all entries g).entries ≡ with_kept entries g
all_kept [] g = sym (append-nil g.entries)
all_kept (entry ∷ later) g = elim (cases_Bool (leb (length entry) g.room)) [
  | inl fits ↦
      ap (λ (next : Gathered). (with_all later next).entries) (rw fits refl)
      ∙ all_kept later (record g { entries = g.entries ++ entry; room = g.room - length entry })
      ∙ append_assoc g.entries entry (kept_within (g.room - length entry) later)
      ∙ ap (λ (kept : List ℕ). g.entries ++ kept) (rw fits refl)
  | inr passes ↦
      ap (λ (next : Gathered). (with_all later next).entries) (rw passes refl)
      ∙ all_kept later (record g { room = 0 })
      ∙ ap (λ (kept : List ℕ). g.entries ++ kept) (none_within later ∙ rw passes refl)
]

-- a kind of request whose entries are kept as they are
abbrev KeepsEntries : AskKind → Type 0
KeepsEntries kinds.Aggregate = ⊥
KeepsEntries kind = Unit {0}

entry_kept : (kind : AskKind) (number : ℕ) (entry : List ℕ) (calls : List CollectionCall) → KeepsEntries kind → gathered number (entry_call kind number entry ∷ calls) ≡ with_entry entry (gathered number calls)
entry_kept kinds.Aggregate number entry calls none = absurd none
entry_kept kind number entry calls keeps = gathered-add number entry calls

entries_kept : (kind : AskKind) (number : ℕ) (entries : List (List ℕ)) (calls : List CollectionCall) → KeepsEntries kind → gathered number (entry_calls kind number entries calls) ≡ with_all entries (gathered number calls)
entries_kept kind number [] calls keeps = refl
entries_kept kind number (entry ∷ later) calls keeps =
    entries_kept kind number later (entry_call kind number entry ∷ calls) keeps ∙ ap (with_all later) (entry_kept kind number entry calls keeps)

told_entries : (kind : AskKind) (g : Gathered) (xid : ℕ) → KeepsEntries kind → collected_replies kind g xid ≡ replies_for kind g.entries xid
told_entries kinds.Aggregate g xid none = absurd none
told_entries kind g xid keeps = refl

-- the slice is sent what was kept
pub kept_told : (kind : AskKind) (number sent xid : ℕ) (last : List ℕ) (calls : List CollectionCall) → KeepsEntries kind → type_sent kind ≡ Some sent
    → replies_for kind (with_kept (entries_in sent last) (gathered number calls)) xid ≡ collected_replies kind (gathered number (calls_with kind number last calls)) xid
kept_told kind number sent xid last calls keeps is =
    ap (λ (entries : List ℕ). replies_for kind entries xid)
    (sym (all_kept (entries_in sent last) (gathered number calls)) ∙ ap (λ (g : Gathered). g.entries) (sym (entries_kept kind number (entries_in sent last) calls keeps)))
    ∙ sym (told_entries kind (gathered number (entry_calls kind number (entries_in sent last) calls)) xid keeps)
    ∙ ap (λ (now : List CollectionCall). collected_replies kind (gathered number now) xid) (rw (calls_with, is) refl)

pub not_sum : (kind : AskKind) → (kind ≡ kinds.Aggregate → ⊥) → KeepsEntries kind
not_sum kinds.Aggregate other = other refl
not_sum kind other = tt

sums_more : (number : ℕ) (entries : List (List ℕ)) (calls : List CollectionCall) → sums_in (gathered number (entry_calls kinds.Aggregate number entries calls)) ≡ with_flows entries (sums_in (gathered number calls))
sums_more number [] calls = refl
sums_more number (entry ∷ later) calls =
    sums_more number later (Sum number (flow_of entry).1 (flow_of entry).2 ∷ calls)
    ∙ ap (λ (g : Gathered). with_flows later (sums_in g)) (gathered-sum number (flow_of entry).1 (flow_of entry).2 calls)

-- or what was summed
pub sums_are : (number xid : ℕ) (last : List ℕ) (calls : List CollectionCall)
    → sums_told (with_flows (entries_in FLOW last) (sums_in (gathered number calls))) xid ≡ collected_replies kinds.Aggregate (gathered number (calls_with kinds.Aggregate number last calls)) xid
sums_are number xid last calls = ap (λ (sums : ℕ × ℕ × ℕ). sums_told sums xid) (sym (sums_more number (entries_in FLOW last) calls))

-- ---- what a request that collects has

same_some : {A : Type 0} (x y : A) → Some x ≡ Some y → x ≡ y
same_some x y e = cc

pub entries_there : (number : ℕ) (calls : List CollectionCall) (entries : List ℕ) → is_among number (collecting calls) ≡ true → Some entries ≡ entries_of number calls → entries ≡ (gathered number calls).entries
unfolding entries_of collection_of
entries_there number calls entries among is = same_some entries (gathered number calls).entries (rw among at is)

pub none_there : (number : ℕ) (calls : List CollectionCall) → is_among number (collecting calls) ≡ true → None ≡ entries_of number calls → ⊥
unfolding entries_of collection_of
none_there number calls among is = true≢false (sym (ap is_some (rw among at is)))

pub room_there : (number : ℕ) (calls : List CollectionCall) → is_among number (collecting calls) ≡ true → room_of number calls ≡ (gathered number calls).room
unfolding room_of collection_of
room_there number calls among = rw among refl

pub sums_there : (number : ℕ) (calls : List CollectionCall) → is_among number (collecting calls) ≡ true → sums_of number calls ≡ Some (sums_in (gathered number calls))
unfolding sums_of collection_of
sums_there number calls among = rw among refl

some_among : (number : ℕ) (calls : List CollectionCall) → is_some (entries_of number calls) ≡ is_among number (collecting calls)
unfolding entries_of collection_of
some_among number calls = by_test (is_among number (collecting calls))
  where
    by_test : (among : Bool) → is_some (option_map (λ (g : Gathered). g.entries) (if among then Some (gathered number calls) else None)) ≡ among
    by_test true = refl
    by_test false = refl

pub is_some-map : {A B : Type 0} (f : A → B) (found : Option A) → is_some (option_map f found) ≡ is_some found
is_some-map f None = refl
is_some-map f (Some x) = refl

-- it is found to collect a type by that and by its entries
pub collects_by : (request : Issued) (kind : ℕ) (calls : List CollectionCall) (there : Bool) (sent : Option ℕ) → sent ≡ type_sent request.asked.kind → option_eq eqb sent (Some kind) ≡ true
    → there ≡ is_some (entries_of request.number calls) → there ≡ collects request kind calls
collects_by request kind calls there None sent is some = absurd (true≢false (sym is))
collects_by request kind calls there (Some other) sent is some =
    some ∙ some_among request.number calls
    ∙ ap (λ (own : Bool). own && is_among request.number (collecting calls)) (sym is ∙ ap (is_value kind) sent)
