-- The messages of the pieces one after the other, and their sizes.
use Rattle.std.proofs.Common.{◌≡◌, ℕ, zero, suc, ◌+◌, ◌-◌, ◌<◌, ◌≤◌, ◌⊎◌, inl, inr, Bool, true, false, nat_lt, if◌then◌else◌, List, [], ◌∷◌, ◌++◌, length, take, get_or, sum_by, All, Option, refl, sym, ◌∙◌, ap, subst, arith}
use Rattle.std.specs.List.{list_any}
use Rattle.std.proofs.lemmas.Bool.{lt-ltb, le-ltb, ltb-false, or_left, or_right, true≢false, or_parts}
use Rattle.std.proofs.lemmas.List.{get_or-map, length-map, take_more, take_all}
use Rattle.std.proofs.lemmas.List.Elements.{All-nil, All-push}
use Rattle.std.proofs.lemmas.List.Folds.{list_any_at, list_any_none}
use Rattle.std.proofs.lemmas.List.Sums.{sum_by_push, sum_by_more_le}
use Rattle.of10_model.specs.declared.pattern.Pattern.{Pattern}
use Rattle.of10_model.specs.Spelling.{Spell}
use Rattle.of10_action.specs.declared.action.Action.{Action}
use Rattle.of10_action.specs.Actions.{spelling}
use Rattle.of10_ctl.specs.declared.kind.TheConstants.{FLOW_MOD}
use Rattle.of10_ctl.specs.Kinds.{IsOf}
use Rattle.of10_flow.specs.declared.flow_mod.FlowMod.{FlowMod}
use Rattle.of10_flow.specs.FlowMods.{spell_flow_mod}
use Rattle.of10_flow.specs.Tables.{is_delete}
use Rattle.flowmod_expand.specs.Messages.{buffer_at, piece_message, piece_messages, flow_messages, are_too_large}

-- ---- the message at a place

sent_from_length : (place : ℕ) (m : FlowMod) (xid : ℕ) (pieces : List Pattern) (lists : List (List Action)) (buffer : Option (ℕ × ℕ)) → length lists ≡ length pieces → length (piece_messages place m xid pieces lists buffer) ≡ length pieces
sent_from_length place m xid [] lists buffer e = refl
sent_from_length place m xid (piece ∷ pieces) [] buffer e = absurd (omega arith)
sent_from_length place m xid (piece ∷ pieces) (actions ∷ lists) buffer e = ap suc (sent_from_length (place + 1) m xid pieces lists buffer (omega arith))

-- the flow-mod at a place is that of the piece and the list there
pub sent_from_at : (place : ℕ) (m : FlowMod) (xid : ℕ) (pieces : List Pattern) (lists : List (List Action)) (buffer : Option (ℕ × ℕ)) (i : ℕ) (d : FlowMod) (p : Pattern) (l : List Action)
    → i < length pieces → length lists ≡ length pieces → get_or (piece_messages place m xid pieces lists buffer) i d ≡ piece_message m xid (get_or pieces i p) (get_or lists i l) (buffer_at buffer (place + i))
sent_from_at place m xid [] lists buffer i d p l lt e = absurd (omega arith)
sent_from_at place m xid (piece ∷ pieces) [] buffer i d p l lt e = absurd (omega arith)
sent_from_at place m xid (piece ∷ pieces) (actions ∷ lists) buffer zero d p l lt e = let same : place + zero ≡ place = omega arith in rw same refl
sent_from_at place m xid (piece ∷ pieces) (actions ∷ lists) buffer (suc i) d p l lt e =
    let same : place + suc i ≡ (place + 1) + i = omega arith in
    rw same (sent_from_at (place + 1) m xid pieces lists buffer i d p l (omega arith) (omega arith))

pub flow_messages_length : (m : FlowMod) (xid : ℕ) (pieces : List Pattern) (lists : List (List Action)) (buffer : Option (ℕ × ℕ)) → length lists ≡ length pieces → length (flow_messages m xid pieces lists buffer) ≡ length pieces
flow_messages_length m xid pieces lists buffer e = length-map (piece_messages 0 m xid pieces lists buffer) spell_flow_mod ∙ sent_from_length 0 m xid pieces lists buffer e

pub flow_messages_at : (m : FlowMod) (xid : ℕ) (pieces : List Pattern) (lists : List (List Action)) (buffer : Option (ℕ × ℕ)) (i : ℕ) (b : List ℕ) (p : Pattern) (l : List Action)
    → i < length pieces → length lists ≡ length pieces → get_or (flow_messages m xid pieces lists buffer) i b ≡ spell_flow_mod (piece_message m xid (get_or pieces i p) (get_or lists i l) (buffer_at buffer i))
flow_messages_at m xid pieces lists buffer i b p l lt e =
    let mods = piece_messages 0 m xid pieces lists buffer in
    let long = sent_from_length 0 m xid pieces lists buffer e in
    let same : 0 + i ≡ i = omega arith in
    get_or-map spell_flow_mod mods i m b (omega arith) ∙ ap spell_flow_mod (sent_from_at 0 m xid pieces lists buffer i m p l lt e) ∙ ap (λ n. spell_flow_mod (piece_message m xid (get_or pieces i p) (get_or lists i l) (buffer_at buffer n))) same

-- ---- sizes

pub spell_size : (m : FlowMod) → length (spell_flow_mod m) ≡ 72 + length (spelling m.actions)
unfolding Spell spell_flow_mod
spell_size m = omega arith

-- a message alone is too large, or those up to it are together
pub too_large : (messages : List (List ℕ)) (room i size : ℕ) (d : List ℕ) → i < length messages → room + sum_by length (take i messages) ≡ 262144 → length (get_or messages i d) ≡ size → (65535 < size) ⊎ (room < size) → are_too_large messages ≡ true
too_large messages room i size d lt left is (inl alone) =
    or_right (nat_lt 262144 (sum_by length messages)) (list_any (λ bytes. nat_lt 65535 (length bytes)) messages)
    (list_any_at (λ bytes. nat_lt 65535 (length bytes)) messages i d lt (lt-ltb 65535 (length (get_or messages i d)) (omega arith)))
too_large messages room i size d lt left is (inr together) =
    let sum = sum_by_more_le length messages i d lt in
    or_left (nat_lt 262144 (sum_by length messages)) (list_any (λ bytes. nat_lt 65535 (length bytes)) messages)
    (lt-ltb 262144 (sum_by length messages) (omega arith))

-- of the first messages each is small enough, and so much room is left behind them
pub record Counted (messages : List (List ℕ)) (room i : ℕ) : Type 0 where
  pub left : room + sum_by length (take i messages) ≡ 262144
  pub small : All (λ bytes. length bytes ≤ 65535) (take i messages)

pub counted_none : (messages : List (List ℕ)) → Counted messages 262144 0
counted_none messages = record { left = refl; small = All-nil (λ bytes. length bytes ≤ 65535) }

pub counted_more : (messages : List (List ℕ)) (room i size : ℕ) → Counted messages room i → i < length messages → length (get_or messages i []) ≡ size → size ≤ 65535 → size ≤ room → Counted messages (room - size) (i + 1)
counted_more messages room i size counted lt is alone together =
    let last = get_or messages i [] in
    let sum = sum_by_push length (take i messages) last in
    let left = counted.left in
    record {
      left = rw (take_more messages i [] lt) (omega arith);
      small = rw (take_more messages i [] lt) (All-push (λ bytes. length bytes ≤ 65535) (take i messages) last counted.small (omega arith));
    }

fits : (messages : List (List ℕ)) (room : ℕ) → room + sum_by length messages ≡ 262144 → All (λ bytes. length bytes ≤ 65535) messages → are_too_large messages ≡ false
fits messages room left small =
    let none = list_any_none (λ bytes. nat_lt 65535 (length bytes)) messages (λ k d lt. le-ltb 65535 (length (get_or messages k d)) (small k d lt)) in
    rw (le-ltb 262144 (sum_by length messages) (omega arith), none) refl

-- where all are counted, they aren't too large
pub all_fit : (messages : List (List ℕ)) (room i : ℕ) → Counted messages room i → length messages ≤ i → are_too_large messages ≡ false
all_fit messages room i counted all = subst (λ ms. are_too_large ms ≡ false) (take_all i messages all) (fits (take i messages) room counted.left counted.small)

-- the first messages are made
pub record Made (messages frames : List (List ℕ)) (i : ℕ) : Type 0 where
  pub so_far : frames ≡ take i messages
  pub kind : All (IsOf FLOW_MOD) frames

pub made_more : (messages frames : List (List ℕ)) (i : ℕ) (frame : List ℕ) → Made messages frames i → i < length messages → frame ≡ get_or messages i frame → IsOf FLOW_MOD frame → Made messages (frames ++ frame ∷ []) (i + 1)
made_more messages frames i frame made lt is kind =
    record {
      so_far = rw (made.so_far, take_more messages i frame lt, ← is) refl;
      kind = All-push (IsOf FLOW_MOD) frames frame made.kind kind;
    }

each_within : (messages : List (List ℕ)) → list_any (λ bytes. nat_lt 65535 (length bytes)) messages ≡ false → (k : ℕ) (d : List ℕ) → k < length messages → (b : Bool) → nat_lt 65535 (length (get_or messages k d)) ≡ b → length (get_or messages k d) ≤ 65535
each_within messages none k d lt true e = absurd (true≢false (sym (list_any_at (λ bytes. nat_lt 65535 (length bytes)) messages k d lt e) ∙ none))
each_within messages none k d lt false e = ltb-false 65535 (length (get_or messages k d)) e

pub sizes_within : (messages : List (List ℕ)) → are_too_large messages ≡ false → All (λ bytes. length bytes ≤ 65535) messages
sizes_within messages e k d lt =
    each_within messages (or_parts (nat_lt 262144 (sum_by length messages)) (list_any (λ bytes. nat_lt 65535 (length bytes)) messages) e).1 k d lt (nat_lt 65535 (length (get_or messages k d))) refl

pub together_within : (messages : List (List ℕ)) → are_too_large messages ≡ false → sum_by length messages ≤ 262144
together_within messages e = ltb-false 262144 (sum_by length messages) (or_parts (nat_lt 262144 (sum_by length messages)) (list_any (λ bytes. nat_lt 65535 (length bytes)) messages) e).0

-- ---- what stands at a place

sent_size : (m : FlowMod) (xid : ℕ) (piece : Pattern) (actions : List Action) (number : ℕ) → length (spell_flow_mod (piece_message m xid piece actions number)) ≡ 72 + length (spelling (if is_delete m then [] else actions))
unfolding piece_message
sent_size m xid piece actions number = spell_size (piece_message m xid piece actions number)

-- the size of the message there
pub size_at : (m : FlowMod) (xid : ℕ) (pieces : List Pattern) (lists : List (List Action)) (buffer : Option (ℕ × ℕ)) (i : ℕ) (actions sent : List Action) (size : ℕ) → i < length lists → length lists ≡ length pieces
    → actions ≡ get_or lists i actions → sent ≡ (if is_delete m then [] else actions) → size ≡ length (spelling sent)
    → length (get_or (flow_messages m xid pieces lists buffer) i []) ≡ 72 + size
size_at m xid pieces lists buffer i actions sent size lt long at_list is sized =
    let piece = get_or pieces i m.pattern in
    ap length (flow_messages_at m xid pieces lists buffer i [] m.pattern actions (omega arith) long)
    ∙ ap (λ l. length (spell_flow_mod (piece_message m xid piece l (buffer_at buffer i)))) (sym at_list)
    ∙ sent_size m xid piece actions (buffer_at buffer i) ∙ ap (λ s. 72 + length (spelling s)) (sym is) ∙ ap (λ n. 72 + n) (sym sized)

-- the message there is that of the flow-mod which is sent for the piece
pub made_at : (m : FlowMod) (xid : ℕ) (pieces : List Pattern) (lists : List (List Action)) (buffer : Option (ℕ × ℕ)) (i : ℕ) (piece : Pattern) (actions : List Action) (number : ℕ) (sent : FlowMod) (b : List ℕ) → i < length pieces → length lists ≡ length pieces
    → piece ≡ get_or pieces i piece → actions ≡ get_or lists i actions → number ≡ buffer_at buffer i → sent ≡ piece_message m xid piece actions number
    → spell_flow_mod sent ≡ get_or (flow_messages m xid pieces lists buffer) i b
made_at m xid pieces lists buffer i piece actions number sent b lt long at_piece at_list at_number is =
    ap spell_flow_mod is ∙ ap (λ n. spell_flow_mod (piece_message m xid piece actions n)) at_number
    ∙ ap (λ p. spell_flow_mod (piece_message m xid p actions (buffer_at buffer i))) at_piece
    ∙ ap (λ l. spell_flow_mod (piece_message m xid (get_or pieces i piece) l (buffer_at buffer i))) at_list
    ∙ sym (flow_messages_at m xid pieces lists buffer i b piece actions lt long)

-- and fits its length field, where none is too large
pub fits_at : (messages : List (List ℕ)) (i : ℕ) (sent : FlowMod) → i < length messages → are_too_large messages ≡ false → spell_flow_mod sent ≡ get_or messages i [] → 72 + length (spelling sent.actions) ≤ 65535
fits_at messages i sent lt fit is =
    let small = sizes_within messages fit i [] lt in
    let same = ap length is in
    let size = spell_size sent in
    omega arith
