-- How answers join, and when there are none.
use Rattle.std.proofs.Common.{◌≡◌, ℕ, Bool, true, false, List, [], ◌∷◌, ◌++◌, map, refl, sym, ap, ◌∙◌, append_assoc, append-nil, true≢false, if◌then◌else◌}
use Rattle.std.specs.List.{filter}
use Rattle.std.proofs.lemmas.List.{map-append}
use Rattle.flowspace.specs.Swaps.{Pairs}
use Rattle.port_turns.specs.Sent.{turn_out}
use Rattle.port_turns.proofs.Stays.{none_out}
use Rattle.slice_words.specs.Items.{Settings, Item, Opened, Up, Down, Msg, Lost, Handed, Removed, Status, Fault, Barrier, Queues, Entry, Last, End, is_up, is_forgetting}
use Rattle.slice_words.specs.Messages.{is_dismissing}
use Rattle.slice_words.specs.Pasts.{Answer, no_answer}
use Rattle.slice_words.specs.Alone.{answer_to, shown_to, alone, sent_for, answers_for}
use Rattle.slice_words.specs.Laws.{AreJoined, is_coming, IsSilentWhileDown, is_last_up, IsUpByTheLast}

pub joined : (s : Settings) (view items : List Item) → AreJoined s view items
joined s view [] = sym (append-nil (alone s view))
joined s view (item ∷ items) = joined s (item ∷ view) items ∙ append_assoc (alone s view) (shown_to s (answer_to s view item).to_slice) (sent_for s (item ∷ view) items)

-- what is sent is what is answered, with the port numbers that the slice is shown
pub sent_shown : (s : Settings) (view items : List Item) → sent_for s view items ≡ shown_to s (answers_for s view items)
sent_shown s view [] = refl
sent_shown s view (item ∷ items) =
    ap (λ (later : List (List ℕ)). shown_to s (answer_to s view item).to_slice ++ later) (sent_shown s (item ∷ view) items)
    ∙ sym (map-append (turn_out s.swaps) (answer_to s view item).to_slice (answers_for s (item ∷ view) items))

-- without swaps it is what is answered
pub shown_plain : (s : Settings) (messages : List (List ℕ)) → s.swaps ≡ [] → shown_to s messages ≡ messages
shown_plain s messages none = ap (λ (pairs : Pairs). map (turn_out pairs) messages) none ∙ none_out [] refl messages

-- the rest is not asked for where the slice isn't up
unasked : (up : Bool) (a : Answer) → up ≡ false → (if up then a else no_answer) ≡ no_answer
unasked up a down = rw down refl

pub silent : (s : Settings) (view : List Item) (item : Item) → IsSilentWhileDown s view item
silent s view Up down going = absurd (true≢false going)
silent s view (Opened features) down going = unasked (is_up view) _ down
silent s view Down down going = unasked (is_up view) _ down
silent s view (Msg message moment) down going = unasked (is_up view) _ down
silent s view (Lost k) down going = unasked (is_up view) _ down
silent s view (Handed packet) down going = unasked (is_up view) _ down
silent s view (Removed entry) down going = unasked (is_up view) _ down
silent s view (Status status) down going = unasked (is_up view) _ down
silent s view (Fault x class code pair) down going = unasked (is_up view) _ down
silent s view (Barrier x) down going = unasked (is_up view) _ down
silent s view (Queues x body) down going = unasked (is_up view) _ down
silent s view (Entry x kind bytes) down going = unasked (is_up view) _ down
silent s view (Last x kind) down going = unasked (is_up view) _ down
silent s view End down going = unasked (is_up view) _ down

-- a message keeps the slice up or ends its connection
either : (dismissing : Bool) (item : Item) (view : List Item) → is_coming item ≡ false → is_up view ≡ is_last_up (filter is_forgetting view)
    → (if dismissing then false else is_up view) ≡ is_last_up (if dismissing then item ∷ filter is_forgetting view else filter is_forgetting view)
either true item view going h = sym going
either false item view going h = h

pub last_up : (view : List Item) → IsUpByTheLast view
last_up [] = refl
last_up (Up ∷ view) = refl
last_up (Down ∷ view) = refl
last_up (Msg message moment ∷ view) = either (is_dismissing message) (Msg message moment) view refl (last_up view)
last_up (Opened features ∷ view) = last_up view
last_up (Lost k ∷ view) = last_up view
last_up (Handed packet ∷ view) = last_up view
last_up (Removed entry ∷ view) = last_up view
last_up (Status status ∷ view) = last_up view
last_up (Fault x class code pair ∷ view) = last_up view
last_up (Barrier x ∷ view) = last_up view
last_up (Queues x body ∷ view) = last_up view
last_up (Entry x kind bytes ∷ view) = last_up view
last_up (Last x kind ∷ view) = last_up view
last_up (End ∷ view) = last_up view
