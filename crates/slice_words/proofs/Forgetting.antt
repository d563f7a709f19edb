-- A slice that isn't up has no requests that are remembered: its ups, its downs and its messages that end the connection forget them, and it asks for nothing else.
use Rattle.std.proofs.Common.{◌≡◌, ℕ, ◌==◌, Bool, true, false, if◌then◌else◌, List, [], ◌∷◌, ◌++◌, map, take, refl, ap, sym, ◌∙◌, true≢false, Option, Some, None, is_some}
use Rattle.std.specs.Prelude.{find}
use Rattle.xid_map.specs.declared.asked.Issued.{Issued}
use Rattle.xid_map.specs.Requests.{RequestCall, Issue, MarkDone, Forget, with_mark, with_error, with_reply, requests, remembered, found, physical_of}
use Rattle.slice_words.specs.Messages.{is_dismissing, asked_of}
use Rattle.slice_words.specs.Items.{Settings, message_read, Item, Opened, Up, Down, Msg, Lost, Handed, Removed, Status, Fault, Barrier, Queues, Entry, Last, End, is_up}
use Rattle.slice_words.specs.Pasts.{Answer, is_any, no_answer}
use Rattle.slice_words.specs.Answers.{answer_up}
use Rattle.slice_words.specs.Alone.{answer_to}
use Rattle.slice_words.specs.Calls.{request_for, error_marks, reply_marks, request_calls}
use Rattle.slice_words.specs.Standing.{past_of}

-- marks on no requests
error_none : (request : Option Issued) (calls : List RequestCall) → requests calls ≡ [] → requests (error_marks request ++ calls) ≡ []
unfolding requests
error_none None calls none = none
error_none (Some request) calls none = ap (map (with_mark with_error request.number)) none

done_none : (any : Bool) (number : ℕ) (calls : List RequestCall) → requests calls ≡ [] → requests ((if any then MarkDone number ∷ [] else []) ++ calls) ≡ []
unfolding requests
done_none true number calls none = ap (map (with_mark with_reply number)) none
done_none false number calls none = none

reply_none : (answer : Answer) (request : Option Issued) (calls : List RequestCall) → requests calls ≡ [] → requests (reply_marks answer request ++ calls) ≡ []
reply_none answer None calls none = none
reply_none answer (Some request) calls none = done_none (is_any answer.to_slice) request.number calls none

-- what follows from a message of a slice that isn't up, or that ends its connection
none_asked : (s : Settings) (view : List Item) (message : List ℕ) (moment : ℕ) (up : Bool) (calls : List RequestCall) → up ≡ false → requests calls ≡ []
    → requests ((if is_any (if up then answer_up s view (past_of s view) (Msg message moment) else no_answer).to_switch then Issue (asked_of (message_read s message) message) ∷ [] else []) ++ calls) ≡ []
none_asked s view message moment up calls down none = rw down none

by_end : (s : Settings) (view : List Item) (message : List ℕ) (moment : ℕ) (calls : List RequestCall) (ends : Bool) → (if ends then false else is_up view) ≡ false → (is_up view ≡ false → requests calls ≡ [])
    → requests ((if ends then Forget ∷ [] else if is_any (if is_up view then answer_up s view (past_of s view) (Msg message moment) else no_answer).to_switch then Issue (asked_of (message_read s message) message) ∷ [] else []) ++ calls) ≡ []
unfolding requests
by_end s view message moment calls true is none = refl
by_end s view message moment calls false is none = none_asked s view message moment (is_up view) calls is (none is)

forgotten : (s : Settings) (view : List Item) → is_up view ≡ false → requests (request_calls s (past_of s view)) ≡ []
unfolding requests
forgotten s [] down = refl
forgotten s (Up ∷ view) down = absurd (true≢false down)
forgotten s (Down ∷ view) down = refl
forgotten s (Msg message moment ∷ view) down = by_end s view message moment (request_calls s (past_of s view)) (is_dismissing message) down (λ still. forgotten s view still)
forgotten s (Fault x class code pair ∷ view) down = error_none (request_for s x (request_calls s (past_of s view))) (request_calls s (past_of s view)) (forgotten s view down)
forgotten s (Barrier x ∷ view) down = reply_none (answer_to s view (Barrier x)) (request_for s x (request_calls s (past_of s view))) (request_calls s (past_of s view)) (forgotten s view down)
forgotten s (Queues x body ∷ view) down = reply_none (answer_to s view (Queues x body)) (request_for s x (request_calls s (past_of s view))) (request_calls s (past_of s view)) (forgotten s view down)
forgotten s (Last x kind ∷ view) down = reply_none (answer_to s view (Last x kind)) (request_for s x (request_calls s (past_of s view))) (request_calls s (past_of s view)) (forgotten s view down)
forgotten s (Opened features ∷ view) down = forgotten s view down
forgotten s (Lost k ∷ view) down = forgotten s view down
forgotten s (Handed packet ∷ view) down = forgotten s view down
forgotten s (Removed entry ∷ view) down = forgotten s view down
forgotten s (Status status ∷ view) down = forgotten s view down
forgotten s (Entry x kind entry ∷ view) down = forgotten s view down
forgotten s (End ∷ view) down = forgotten s view down

-- so none is found
pub down_none : (s : Settings) (view : List Item) (x : ℕ) → is_up view ≡ false → request_for s x (request_calls s (past_of s view)) ≡ None
unfolding found remembered
down_none s view x down = ap (λ (issued : List Issued). find (λ request. physical_of s.slot request.number == physical_of s.slot x) (take 4096 issued)) (forgotten s view down)

-- and a slice of which one is found is up
pub found_up : (s : Settings) (view : List Item) (x : ℕ) (request : Issued) → request_for s x (request_calls s (past_of s view)) ≡ Some request → is_up view ≡ true
found_up s view x request is = by_up (is_up view) refl
  where
    by_up : (up : Bool) → is_up view ≡ up → up ≡ true
    by_up true up = refl
    by_up false down = absurd (true≢false (sym (ap is_some (sym (down_none s view x down) ∙ is))))
