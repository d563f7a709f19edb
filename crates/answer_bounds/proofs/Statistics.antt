-- What statistics show a slice, and that the replies to it are at most 524,492 bytes.
use Rattle.std.proofs.Common.{◌≡◌, ℕ, ◌%◌, ◌^◌, ◌&&◌, ◌≤◌, Bool, true, false, if◌then◌else◌, List, [], ◌∷◌, ◌++◌, length, map, drop, append-nil, ltb, refl, Option, Some, None, IfOk, inl, inr, arith}
use Rattle.std.specs.List.{All}
use Rattle.std.proofs.lemmas.Bool.{cases_Bool}
use Rattle.std.proofs.lemmas.List.{length-drop}
use Rattle.std.proofs.lemmas.List.Elements.{All-nil, All-cons, All-head, All-tail, All-filter}
use Rattle.of10_stats.specs.declared.reply.StatsPart.{StatsPart}
use Rattle.of10_stats.specs.Replies.{part_of}
use Rattle.of10_model.proofs.Results.{either}
use Rattle.xid_map.specs.declared.asked.Issued.{Issued}
use Rattle.xid_map.specs.declared.asked.AskKind.{AskKind}
use Rattle.xid_map.specs.declared.asked.AskKind.TheVariants as kinds
use Rattle.xid_map.specs.Collections.{Gathered, CollectionCall, gathered, since, added}
use Rattle.xid_map.proofs.Gathering.{IsLongestRun-kept}
use Rattle.stats_filter.specs.Asking.{type_sent}
use Rattle.stats_filter.specs.Keeping.{entries_in, is_own_entry}
use Rattle.stats_filter.specs.Replies.{page_size, replies_for, sum_reply}
use Rattle.stats_filter.specs.Laws.{FitPages as FitPages}
use Rattle.stats_filter.proofs.Rows.{AreInFront-entries_in}
use Rattle.stats_filter.proofs.Coming.{small_entries}
use Rattle.stats_filter.proofs.Replying.{size-replies_for, full-replies_for, short-replies_for}
use Rattle.slice_words.specs.Items.{Settings, own_rules, Item, Entry, Last, is_up}
use Rattle.slice_words.specs.Pasts.{Answer, no_answer}
use Rattle.slice_words.specs.Statistics.{collects, collected_replies, statistics_told}
use Rattle.slice_words.specs.Calls.{request_for, request_calls, collection_calls}
use Rattle.slice_words.specs.Alone.{answer_to, shown_to, sent_for}
use Rattle.slice_words.specs.Standing.{past_of}
use Rattle.slice_words.proofs.Collecting.{IsWholeEntry, fit-gathered}
use Rattle.desk_words.specs.Histories.{is_reply_to, own_entries, is_part, part_items, statistics_items}
use Rattle.answer_bounds.specs.Bounds.{AreSmall}
use Rattle.answer_bounds.proofs.Messages.{IsShort, small-shown, few-one, small-none, small-few, short-sums}

-- ---- the replies to one request

replies_small : (asked : AskKind) (entries : List ℕ) (xid : ℕ) → length entries ≤ 524288 → ((kind : ℕ) → type_sent asked ≡ Some kind → FitPages (entries_in kind entries)) → AreSmall 524492 (replies_for asked entries xid)
replies_small asked entries xid within fit =
    let size = size-replies_for asked entries xid in
    let full = full-replies_for asked entries xid in
    record { small = omega arith; short = short-replies_for asked entries xid fit }

collected_small : (asked : AskKind) (g : Gathered) (xid : ℕ) → length g.entries ≤ 524288 → ((kind : ℕ) → type_sent asked ≡ Some kind → FitPages (entries_in kind g.entries)) → AreSmall 524492 (collected_replies asked g xid)
collected_small kinds.Aggregate g xid within fit = small-few 1 524492 (sum_reply g.packets g.bytes g.flows xid ∷ []) (omega arith) (few-one _ (short-sums g.packets g.bytes g.flows xid))
collected_small kinds.FlowMod g xid within fit = replies_small kinds.FlowMod g.entries xid within fit
collected_small kinds.PacketOut g xid within fit = replies_small kinds.PacketOut g.entries xid within fit
collected_small kinds.Barrier g xid within fit = replies_small kinds.Barrier g.entries xid within fit
collected_small kinds.QueueConfig g xid within fit = replies_small kinds.QueueConfig g.entries xid within fit
collected_small kinds.Desc g xid within fit = replies_small kinds.Desc g.entries xid within fit
collected_small kinds.Flow g xid within fit = replies_small kinds.Flow g.entries xid within fit
collected_small kinds.Port g xid within fit = replies_small kinds.Port g.entries xid within fit
collected_small kinds.Queue g xid within fit = replies_small kinds.Queue g.entries xid within fit

-- no more than the limit is kept
within_limit : (number : ℕ) (calls : List CollectionCall) → length (gathered number calls).entries ≤ 524288
unfolding gathered
within_limit number calls = (IsLongestRun-kept (added number (since number calls))).within

told_small : (s : Settings) (view : List Item) (x kind : ℕ) (request : Option Issued) → request_for s x (request_calls s (past_of s view)) ≡ request → All IsWholeEntry view
    → AreSmall 524492 (statistics_told request kind (collection_calls s (past_of s view)))
told_small s view x kind None is whole = small-none 524492
told_small s view x kind (Some request) is whole =
    let calls = collection_calls s (past_of s view) in
    either (AreSmall 524492) (collects request kind calls) _ _
    (collected_small request.asked.kind (gathered request.number calls) request.asked.xid (within_limit request.number calls) (λ sent asked. fit-gathered s view x request sent whole is asked))
    (small-none 524492)

last_small : (s : Settings) (view : List Item) (x kind : ℕ) → All IsWholeEntry view → AreSmall 524492 (answer_to s view (Last x kind)).to_slice
last_small s view x kind whole =
    either (λ (a : Answer). AreSmall 524492 a.to_slice) (is_up view) _ _ (told_small s view x kind (request_for s x (request_calls s (past_of s view))) refl whole) (small-none 524492)

-- ---- what one part shows

-- the items are whole entries, and little is sent for them
pub record AreReplied (s : Settings) (view shown : List Item) : Type 0 where
  pub small : AreSmall 524492 (sent_for s view shown)
  pub whole : All IsWholeEntry shown

no_items : (s : Settings) (view : List Item) → AreReplied s view []
no_items s view = record { small = small-none 524492; whole = All-nil IsWholeEntry }

end_replied : (s : Settings) (view : List Item) (more : Bool) (x kind : ℕ) → All IsWholeEntry view → AreReplied s view (if more then [] else Last x kind ∷ [])
end_replied s view true x kind whole = no_items s view
end_replied s view false x kind whole =
    record {
      small = rw (append-nil (shown_to s (answer_to s view (Last x kind)).to_slice)) (small-shown s 524492 (answer_to s view (Last x kind)).to_slice (last_small s view x kind whole));
      whole = All-cons IsWholeEntry (Last x kind) [] tt (All-nil IsWholeEntry);
    }

-- for an entry nothing is sent
silent_entry : (s : Settings) (view : List Item) (x kind : ℕ) (entry : List ℕ) → (answer_to s view (Entry x kind entry)).to_slice ≡ []
silent_entry s view x kind entry = either (λ (a : Answer). a.to_slice ≡ []) (is_up view) no_answer no_answer refl refl

entries_replied : (s : Settings) (view : List Item) (x kind : ℕ) (entries : List (List ℕ)) (rest : List Item) → All (λ entry. IsWholeEntry (Entry x kind entry)) entries → All IsWholeEntry view
    → ((later : List Item) → All IsWholeEntry later → AreReplied s later rest) → AreReplied s view (map (Entry x kind) entries ++ rest)
entries_replied s view x kind [] rest each whole replied = replied view whole
entries_replied s view x kind (entry ∷ entries) rest each whole replied =
    let one = All-head (λ (e : List ℕ). IsWholeEntry (Entry x kind e)) entry entries each in
    let others = entries_replied s (Entry x kind entry ∷ view) x kind entries rest (All-tail (λ (e : List ℕ). IsWholeEntry (Entry x kind e)) entry entries each)
    (All-cons IsWholeEntry (Entry x kind entry) view one whole) replied in
    record {
      small = rw (silent_entry s view x kind entry) others.small;
      whole = All-cons IsWholeEntry (Entry x kind entry) (map (Entry x kind) entries ++ rest) one others.whole;
    }

-- entries in a message's body fit a page
own_whole : (s : Settings) (x kind : ℕ) (body : List ℕ) → length body ≤ page_size → All (λ entry. IsWholeEntry (Entry x kind entry)) (own_entries s kind body)
own_whole s x kind body fits =
    let formed = (AreInFront-entries_in kind body).each in
    let small = small_entries kind body fits in
    All-filter (is_own_entry (own_rules s) s.slot kind) (λ (entry : List ℕ). IsWholeEntry (Entry x kind entry)) (entries_in kind body) (λ k d lt. (formed k d lt, small k d lt))

-- a part's body begins behind the first 12 bytes
pub part_body : (message : List ℕ) → IsShort message → IfOk (part_of message) (λ part. length (drop part.from message) ≤ page_size)
unfolding part_of
part_body message short = elim (cases_Bool (ltb (length message) 12)) [
  | inl is ↦ rw is tt
  | inr isnt ↦ (let rest = length-drop 12 message in rw isnt (omega arith))
]

pub statistics_replied : (s : Settings) (view : List Item) (xid : ℕ) (part : StatsPart) (body : List ℕ) → length body ≤ page_size → All IsWholeEntry view
    → AreReplied s view (statistics_items s xid part body)
statistics_replied s view xid part body fits whole =
    let x = xid % 2 ^ 24 in
    either (AreReplied s view) (is_reply_to s xid && is_part part.kind body) (part_items s x part body) []
    (entries_replied s view x part.kind (own_entries s part.kind body) (if part.more then [] else Last x part.kind ∷ []) (own_whole s x part.kind body fits) whole (λ later all. end_replied s later part.more x part.kind all))
    (no_items s view)
