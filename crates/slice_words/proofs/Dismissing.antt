-- Which answers end a connection.
use Rattle.std.proofs.Common.{◌≡◌, ℕ, ◌&&◌, Bool, true, false, if◌then◌else◌, List, refl}
use Rattle.slice_words.specs.Messages.{is_dismissing}
use Rattle.slice_words.specs.Items.{Settings, Item, Opened, Up, Down, Msg, Lost, Handed, Removed, Status, Fault, Barrier, Queues, Entry, Last, End, is_up}
use Rattle.slice_words.specs.Pasts.{Answer, Past, no_answer}
use Rattle.slice_words.specs.Answers.{answer, message_answer}
use Rattle.slice_words.specs.Alone.{played}
use Rattle.slice_words.specs.Laws.{EndsExactly}
use Rattle.slice_words.proofs.AnswerKinds.{message_holds}

message_ends : (s : Settings) (view : List Item) (past : List Past) (moment : ℕ) (message : List ℕ) → (message_answer s view past moment message).dismissed ≡ is_dismissing message
message_ends s view past moment message =
    message_holds (λ (ends_ : Bool) (a : Answer). a.dismissed ≡ ends_) s view past moment message (record {
      bad = refl;
      old = refl;
      nothing = refl;
      refuses = λ fault. refl;
      echoes = λ body read. refl;
      tells_features = λ features. refl;
      tells_configuration = refl;
      forwards = λ m read fault. refl;
      sends_out = λ m read fault. refl;
      tells_table = refl;
      asks_statistics = λ request question read may is. refl;
      asks_barrier = λ read. refl;
      asks_queues = λ queues read own. refl;
    })

-- what isn't asked for ends nothing, and while the slice is up the answer says
by_up : (up : Bool) (a : Answer) (ends_ : Bool) → a.dismissed ≡ ends_ → (if up then a else no_answer).dismissed ≡ (up && ends_)
by_up true a ends_ is = is
by_up false a ends_ is = refl

never : (up : Bool) → false ≡ (up && false)
never true = refl
never false = refl

pub ends : (s : Settings) (view : List Item) (item : Item) → EndsExactly s view item
ends s view Up = never (is_up view)
ends s view (Msg message moment) =
    by_up (is_up view) (message_answer s view (played (answer s) view) moment message) _ (message_ends s view (played (answer s) view) moment message)
ends s view (Opened features) = by_up (is_up view) _ false refl
ends s view Down = by_up (is_up view) _ false refl
ends s view (Lost k) = by_up (is_up view) _ false refl
ends s view (Handed packet) = by_up (is_up view) _ false refl
ends s view (Removed entry) = by_up (is_up view) _ false refl
ends s view (Status status) = by_up (is_up view) _ false refl
ends s view (Fault x class code pair) = by_up (is_up view) _ false refl
ends s view (Barrier x) = by_up (is_up view) _ false refl
ends s view (Queues x body) = by_up (is_up view) _ false refl
ends s view (Entry x kind bytes) = by_up (is_up view) _ false refl
ends s view (Last x kind) = by_up (is_up view) _ false refl
ends s view End = by_up (is_up view) _ false refl
