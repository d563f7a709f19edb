-- How much of a packet a controller wants, by the items of its slice's view.
use Rattle.std.proofs.Common.{◌≡◌, ℕ, ◌||◌, Bool, true, false, if◌then◌else◌, List, [], ◌∷◌, ◌++◌, refl, sym, ap, ◌∙◌, true≢false, Option, Some, None, is_some, unwrap_or, Ok, Err}
use Rattle.std.specs.List.{list_any}
use Rattle.std.proofs.lemmas.Bool.{or_parts}
use Rattle.of10_message.specs.declared.fault.Unread.TheVariants.{BadLength, NoCommonVersion, BadVersion, BadType, BadForm}
use Rattle.of10_message.specs.Controller.{read_controller}
use Rattle.slice_words.specs.Messages.{Reading, ends_connection, is_dismissing, length_wanted, length_set}
use Rattle.slice_words.specs.Items.{Item, Opened, Up, Down, Msg, Lost, Handed, Removed, Status, Fault, Barrier, Queues, Entry, Last, End, miss_send_len, is_forgetting}
use Rattle.slice_words.specs.Laws.{is_set, tells_length, IsSetByTheLast, IsForgotten, IsNeverSet}

-- a message that neither ends its connection nor is a SET_CONFIG that is taken changes nothing
passes : (dismissing : Bool) (wanted : Option ℕ) (before : ℕ) → (dismissing || is_some wanted) ≡ false → (if dismissing then 128 else unwrap_or wanted before) ≡ before
passes true wanted before none = absurd (true≢false none)
passes false (Some length) before none = absurd (true≢false none)
passes false None before none = refl

untelling : (item : Item) (view : List Item) → tells_length item ≡ false → miss_send_len (item ∷ view) ≡ miss_send_len view
untelling Up view none = absurd (true≢false none)
untelling Down view none = absurd (true≢false none)
untelling (Msg message moment) view none = passes (is_dismissing message) (length_set message) (miss_send_len view) none
untelling (Opened features) view none = refl
untelling (Lost k) view none = refl
untelling (Handed packet) view none = refl
untelling (Removed entry) view none = refl
untelling (Status status) view none = refl
untelling (Fault x class code pair) view none = refl
untelling (Barrier x) view none = refl
untelling (Queues x body) view none = refl
untelling (Entry x kind bytes) view none = refl
untelling (Last x kind) view none = refl
untelling End view none = refl

-- a SET_CONFIG that is taken says it, and ends no connection
goes_on : (read : Reading) (wanted : ℕ) → length_wanted read ≡ Some wanted → ends_connection read ≡ false
goes_on (Ok message) wanted is = refl
goes_on (Err BadLength) wanted is = absurd (true≢false (sym (ap is_some is)))
goes_on (Err NoCommonVersion) wanted is = absurd (true≢false (sym (ap is_some is)))
goes_on (Err BadVersion) wanted is = refl
goes_on (Err BadType) wanted is = refl
goes_on (Err (BadForm fault)) wanted is = refl

says : (message : List ℕ) (wanted before : ℕ) → length_set message ≡ Some wanted → (if is_dismissing message then 128 else unwrap_or (length_set message) before) ≡ wanted
says message wanted before is = rw (goes_on (read_controller message) wanted is, is) refl

pub set_last : (later : List Item) (message : List ℕ) (moment wanted : ℕ) (earlier : List Item) → IsSetByTheLast later message moment wanted earlier
set_last [] message moment wanted earlier is none = says message wanted (miss_send_len earlier) is
set_last (item ∷ later) message moment wanted earlier is none =
    untelling item (later ++ Msg message moment ∷ earlier) ((or_parts (tells_length item) (list_any tells_length later) none).0)
    ∙ set_last later message moment wanted earlier is ((or_parts (tells_length item) (list_any tells_length later) none).1)

-- what sets nothing leaves 128 as it is
unset : (dismissing : Bool) (wanted : Option ℕ) (before : ℕ) → is_some wanted ≡ false → before ≡ 128 → (if dismissing then 128 else unwrap_or wanted before) ≡ 128
unset true wanted before none is = refl
unset false (Some length) before none is = absurd (true≢false none)
unset false None before none is = is

stays : (item : Item) (view : List Item) → is_set item ≡ false → miss_send_len view ≡ 128 → miss_send_len (item ∷ view) ≡ 128
stays Up view none before = refl
stays Down view none before = refl
stays (Msg message moment) view none before = unset (is_dismissing message) (length_set message) (miss_send_len view) none before
stays (Opened features) view none before = before
stays (Lost k) view none before = before
stays (Handed packet) view none before = before
stays (Removed entry) view none before = before
stays (Status status) view none before = before
stays (Fault x class code pair) view none before = before
stays (Barrier x) view none before = before
stays (Queues x body) view none before = before
stays (Entry x kind bytes) view none before = before
stays (Last x kind) view none before = before
stays End view none before = before

stays_all : (later earlier : List Item) → list_any is_set later ≡ false → miss_send_len earlier ≡ 128 → miss_send_len (later ++ earlier) ≡ 128
stays_all [] earlier none before = before
stays_all (item ∷ later) earlier none before =
    stays item (later ++ earlier) ((or_parts (is_set item) (list_any is_set later) none).0)
    (stays_all later earlier ((or_parts (is_set item) (list_any is_set later) none).1) before)

ended : (dismissing : Bool) (set : ℕ) → dismissing ≡ true → (if dismissing then 128 else set) ≡ 128
ended true set is = refl
ended false set is = absurd (true≢false (sym is))

forgets : (item : Item) (view : List Item) → is_forgetting item ≡ true → miss_send_len (item ∷ view) ≡ 128
forgets Up view is = refl
forgets Down view is = refl
forgets (Msg message moment) view is = ended (is_dismissing message) (unwrap_or (length_set message) (miss_send_len view)) is
forgets (Opened features) view is = absurd (true≢false (sym is))
forgets (Lost k) view is = absurd (true≢false (sym is))
forgets (Handed packet) view is = absurd (true≢false (sym is))
forgets (Removed entry) view is = absurd (true≢false (sym is))
forgets (Status status) view is = absurd (true≢false (sym is))
forgets (Fault x class code pair) view is = absurd (true≢false (sym is))
forgets (Barrier x) view is = absurd (true≢false (sym is))
forgets (Queues x body) view is = absurd (true≢false (sym is))
forgets (Entry x kind bytes) view is = absurd (true≢false (sym is))
forgets (Last x kind) view is = absurd (true≢false (sym is))
forgets End view is = absurd (true≢false (sym is))

pub forgotten : (later : List Item) (item : Item) (earlier : List Item) → IsForgotten later item earlier
forgotten later item earlier is none = stays_all later (item ∷ earlier) none (forgets item earlier is)

pub never_set : (view : List Item) → IsNeverSet view
never_set [] none = refl
never_set (item ∷ view) none =
    stays item view ((or_parts (is_set item) (list_any is_set view) none).0) (never_set view ((or_parts (is_set item) (list_any is_set view) none).1))
