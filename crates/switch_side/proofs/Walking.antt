-- Entries of statistics that stand one behind another, one by one.
use Rattle.std.proofs.Common.{◌≡◌, ℕ, zero, suc, ◌+◌, ◌-◌, ◌<◌, ◌≤◌, Bool, true, false, if◌then◌else◌, List, [], ◌∷◌, ◌++◌, filter, length, take, drop, refl, ap, ap₂, sym, subst, ◌∙◌, arith, append_assoc, append-nil, Option, Some, None}
use Rattle.std.specs.Prelude.{All}
use Rattle.std.specs.List.{concat}
use Rattle.std.proofs.Math.Seq.{take-add}
use Rattle.std.proofs.lemmas.Bool.{le-leb, lt-leb}
use Rattle.std.proofs.lemmas.List.{length-take-le, length-drop, drop-drop}
use Rattle.std.proofs.lemmas.List.Elements.{All-nil, All-cons, All-filter}
use Rattle.flowspace.specs.declared.rules.Rule.{Rule}
use Rattle.of10_stats.specs.declared.protocol.TheConstants.{FLOW}
use Rattle.of10_stats.specs.Replies.{IsEntry, entry_size_of}
use Rattle.of10_stats.proofs.Sizes.{entry_there}
use Rattle.xid_map.specs.declared.asked.AskKind.{AskKind}
use Rattle.stats_filter.specs.Asking.{type_sent}
use Rattle.stats_filter.specs.Keeping.{entries_at, entries_in, is_own_entry, is_kept_entry}
use Rattle.stats_filter.specs.Laws.{FitPages}
use Rattle.stats_filter.specs.Replies.{page_size}
use Rattle.stats_filter.proofs.Rows.{first_entry, no_entries, entry_begins, entries_in-concat}
use Rattle.switch_side.specs.Collecting.{kept_within, with_flow, with_flows}
use Rattle.desk_words.specs.Histories.{kept_entries}

-- a well-formed entry begins the bytes, and the others stand behind it
pub record IsAhead (kind : ℕ) (rest entry later : List ℕ) : Type 0 where
  pub size : ℕ
  pub there : Some size ≡ entry_size_of kind rest
  pub front : entry ≡ take size rest
  pub back : later ≡ drop size rest

-- it is the first of the entries
pub ahead_first : (kind : ℕ) (rest entry later : List ℕ) → IsAhead kind rest entry later → entries_in kind rest ≡ entry ∷ entries_in kind later
ahead_first kind rest entry later ahead =
    first_entry kind ahead.size rest (sym ahead.there)
    ∙ ap₂ (λ (one others : List ℕ). one ∷ entries_in kind others) (sym ahead.front) (sym ahead.back)

-- and with the others it is all
pub ahead_length : (kind : ℕ) (rest entry later : List ℕ) → IsAhead kind rest entry later → length rest ≡ length entry + length later
ahead_length kind rest entry later ahead =
    let begins = entry_begins kind ahead.size rest (sym ahead.there) in
    let front = ap length ahead.front in
    let back = ap length ahead.back in
    omega (arith, begins.1, front, back, length-take-le ahead.size rest begins.1, length-drop ahead.size rest)

-- ---- entries that are kept

kept_first : (own : Bool) (rules : List Rule) (slot kind : ℕ) (entry : List ℕ) (others : List (List ℕ)) → is_own_entry rules slot kind entry ≡ own
    → concat (filter (is_own_entry rules slot kind) (entry ∷ others)) ≡ (if own then entry ++ concat (filter (is_own_entry rules slot kind) others) else concat (filter (is_own_entry rules slot kind) others))
kept_first true rules slot kind entry others is = rw is refl
kept_first false rules slot kind entry others is = rw is refl

kept_more : (own : Bool) (kept entry others : List ℕ) → (if own then kept ++ entry else kept) ++ others ≡ kept ++ (if own then entry ++ others else others)
kept_more true kept entry others = append_assoc kept entry others
kept_more false kept entry others = refl

is_kept-own : (rules : List Rule) (slot kind : ℕ) (asked : AskKind) (entry : List ℕ) → type_sent asked ≡ Some kind → is_kept_entry rules slot asked entry ≡ is_own_entry rules slot kind entry
is_kept-own rules slot kind asked entry is = rw (is_kept_entry, is) refl

-- one entry further, which is kept or not
pub kept_step : (rules : List Rule) (slot kind : ℕ) (asked : AskKind) (rest entry later whole kept new : List ℕ) (own : Bool) → type_sent asked ≡ Some kind → IsAhead kind rest entry later → own ≡ is_kept_entry rules slot asked entry
    → kept ++ concat (kept_entries rules slot kind rest) ≡ whole → new ≡ (if own then kept ++ entry else kept) → new ++ concat (kept_entries rules slot kind later) ≡ whole
kept_step rules slot kind asked rest entry later whole kept new own sent ahead is before now =
    ap (λ (front : List ℕ). front ++ concat (kept_entries rules slot kind later)) now
    ∙ kept_more own kept entry (concat (kept_entries rules slot kind later))
    ∙ ap (λ (behind : List ℕ). kept ++ behind) (sym (kept_first own rules slot kind entry (entries_in kind later) (sym (is ∙ is_kept-own rules slot kind asked entry sent))))
    ∙ ap (λ (entries : List (List ℕ)). kept ++ concat (filter (is_own_entry rules slot kind) entries)) (sym (ahead_first kind rest entry later ahead))
    ∙ before

pub kept_done : (rules : List Rule) (slot kind : ℕ) (rest whole kept : List ℕ) → None ≡ entry_size_of kind rest → kept ++ concat (kept_entries rules slot kind rest) ≡ whole → kept ≡ whole
kept_done rules slot kind rest whole kept none before =
    sym (append-nil kept)
    ∙ ap (λ (entries : List (List ℕ)). kept ++ concat (filter (is_own_entry rules slot kind) entries)) (sym (no_entries kind rest (sym none)))
    ∙ before

each_at : (n kind : ℕ) (bytes : List ℕ) → All (IsEntry kind) (entries_at n kind bytes)
unfolding entries_at
each_at zero kind bytes = All-nil (IsEntry kind)
each_at (suc n) kind bytes = by_size (λ rest. each_at n kind rest) (entry_size_of kind bytes) refl
  where
    by_size : ((rest : List ℕ) → All (IsEntry kind) (entries_at n kind rest)) → (found : Option ℕ) → entry_size_of kind bytes ≡ found
        → All (IsEntry kind) (elim found [ None ↦ [] | Some size ↦ take size bytes ∷ entries_at n kind (drop size bytes) ])
    by_size others None is = All-nil (IsEntry kind)
    by_size others (Some size) is = All-cons (IsEntry kind) (take size bytes) (entries_at n kind (drop size bytes)) (entry_there kind size bytes is).1 (others (drop size bytes))

-- those that are kept are found again
pub kept_found : (rules : List Rule) (slot kind : ℕ) (body : List ℕ) → entries_in kind (concat (kept_entries rules slot kind body)) ≡ kept_entries rules slot kind body
unfolding entries_in
kept_found rules slot kind body =
    entries_in-concat kind (kept_entries rules slot kind body) (All-filter (is_own_entry rules slot kind) (IsEntry kind) (entries_in kind body) (each_at (length body) kind body))

-- ---- room

-- behind so many bytes of entries, which have room
pub record IsKept (kind room : ℕ) (entries : List ℕ) (end : ℕ) : Type 0 where
  pub within : end ≤ length entries
  pub small : end ≤ room
  pub kept : take end entries ++ kept_within (room - end) (entries_in kind (drop end entries)) ≡ kept_within room (entries_in kind entries)

room_first : (room : ℕ) (entry : List ℕ) (others : List (List ℕ)) → length entry ≤ room → kept_within room (entry ∷ others) ≡ entry ++ kept_within (room - length entry) others
room_first room entry others has = rw (le-leb (length entry) room has) refl

room_none : (room : ℕ) (entry : List ℕ) (others : List (List ℕ)) → room < length entry → kept_within room (entry ∷ others) ≡ []
room_none room entry others long = rw (lt-leb (length entry) room long) refl

pub room_step : (kind room size : ℕ) (entries : List ℕ) (end : ℕ) → IsKept kind room entries end → entry_size_of kind (drop end entries) ≡ Some size → size ≤ room - end → IsKept kind room entries (end + size)
room_step kind room size entries end at is has =
    let rest : List ℕ = drop end entries in
    let begins = entry_begins kind size rest is in
    let long : length (take size rest) ≡ size = length-take-le size rest begins.1 in
    let left = length-drop end entries in
    record {
      within = omega (arith, at.within, begins.1, left);
      small = omega (arith, at.small, has);
      kept =
          ap (λ (front : List ℕ). front ++ kept_within (room - (end + size)) (entries_in kind (drop (end + size) entries))) (take-add end size entries)
          ∙ append_assoc (take end entries) (take size rest) (kept_within (room - (end + size)) (entries_in kind (drop (end + size) entries)))
          ∙ ap₂ (λ (n : ℕ) (behind : List ℕ). take end entries ++ (take size rest ++ kept_within n (entries_in kind behind))) (omega (arith, long)) (sym (drop-drop size end entries))
          ∙ ap (λ (kept : List ℕ). take end entries ++ kept) (sym (room_first (room - end) (take size rest) (entries_in kind (drop size rest)) (omega (arith, long, has))))
          ∙ ap (λ (found : List (List ℕ)). take end entries ++ kept_within (room - end) found) (sym (first_entry kind size rest is))
          ∙ at.kept;
    }

pub room_past : (kind room size : ℕ) (entries : List ℕ) (end : ℕ) → IsKept kind room entries end → entry_size_of kind (drop end entries) ≡ Some size → room - end < size → take end entries ≡ kept_within room (entries_in kind entries)
room_past kind room size entries end at is long =
    let rest : List ℕ = drop end entries in
    let begins = entry_begins kind size rest is in
    let same : length (take size rest) ≡ size = length-take-le size rest begins.1 in
    sym (append-nil (take end entries))
    ∙ ap (λ (kept : List ℕ). take end entries ++ kept) (sym (room_none (room - end) (take size rest) (entries_in kind (drop size rest)) (omega (arith, same, long))))
    ∙ ap (λ (found : List (List ℕ)). take end entries ++ kept_within (room - end) found) (sym (first_entry kind size rest is))
    ∙ at.kept

pub room_done : (kind room : ℕ) (entries : List ℕ) (end : ℕ) → IsKept kind room entries end → entry_size_of kind (drop end entries) ≡ None → take end entries ≡ kept_within room (entries_in kind entries)
room_done kind room entries end at none =
    sym (append-nil (take end entries))
    ∙ ap (λ (found : List (List ℕ)). take end entries ++ kept_within (room - end) found) (sym (no_entries kind (drop end entries) none))
    ∙ at.kept

-- ---- entries that have place in a reply, and sums

pub small_first : (kind : ℕ) (rest entry later : List ℕ) → IsAhead kind rest entry later → length entry ≤ page_size → FitPages (entries_in kind later) → FitPages (entries_in kind rest)
small_first kind rest entry later ahead fits others =
    subst FitPages (sym (ahead_first kind rest entry later ahead)) (All-cons (λ e. length e ≤ page_size) entry (entries_in kind later) fits others)

pub small_none : (kind : ℕ) (rest : List ℕ) → None ≡ entry_size_of kind rest → FitPages (entries_in kind rest)
small_none kind rest none = subst FitPages (sym (no_entries kind rest (sym none))) (All-nil (λ e. length e ≤ page_size))

pub flows_first : (rest entry later : List ℕ) (sums : ℕ × ℕ × ℕ) → IsAhead FLOW rest entry later → with_flows (entries_in FLOW rest) sums ≡ with_flows (entries_in FLOW later) (with_flow entry sums)
flows_first rest entry later sums ahead = ap (λ (flows : List (List ℕ)). with_flows flows sums) (ahead_first FLOW rest entry later ahead)

pub flows_none : (rest : List ℕ) (sums : ℕ × ℕ × ℕ) → None ≡ entry_size_of FLOW rest → with_flows (entries_in FLOW rest) sums ≡ sums
flows_none rest sums none = ap (λ (flows : List (List ℕ)). with_flows flows sums) (no_entries FLOW rest (sym none))
