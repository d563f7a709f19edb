-- What a message of a slice makes of the calls of the parts of its state.
use Rattle.std.proofs.Common.{◌≡◌, ℕ, ◌&&◌, not, Bool, true, false, if◌then◌else◌, List, [], ◌∷◌, ◌++◌, max, map, filter, length, le-leb, arith, refl, sym, ap, ap₂, ◌∙◌, subst, Option, Some, None, is_some, unwrap_or, true≢false, Ok, Err}
use Rattle.of10_message.specs.declared.controller.FromController.TheVariants as said
use Rattle.xid_map.specs.Requests.{RequestCall, Issue, Forget, RequestsStand, issued}
use Rattle.xid_map.specs.Collections.{CollectionCall, Start, EndAll, Collected, CollectionsStand}
use Rattle.rate_bucket.specs.Rates.{Bucket, BucketStands}
use Rattle.flow_book.specs.Books.{BookCall, Added, Book, BookStands}
use Rattle.flow_book.specs.declared.state.SliceState.{SliceState}
use Rattle.slice_words.specs.Messages.{Reading, ends_connection, is_dismissing, length_wanted, length_set, asks_switch, is_question, kind_asked, asked_of}
use Rattle.slice_words.specs.Items.{Settings, message_read, Sight, Item, Msg, is_up, latest_moment}
use Rattle.buffer_map.specs.declared.held.Held.{Held}
use Rattle.slice_words.specs.Pasts.{Outgoing, Answer, Past, is_any, no_answer}
use Rattle.slice_words.specs.Buffers.{HeldPacket, is_named, held_packets}
use Rattle.slice_words.specs.Calls.{request_calls, collection_calls, questions, bookings, book_calls}
use Rattle.slice_words.specs.Statistics.{begun}
use Rattle.slice_words.specs.Answers.{answer, message_answer}
use Rattle.slice_words.specs.Alone.{answer_to}
use Rattle.slice_words.specs.Standing.{SliceStands, past_of, held_as}
use Rattle.slice_words.proofs.Holding.{filter_of_map, filter_same, filter_all, view_in-played}
use Rattle.slice_words.proofs.AnswerKinds.{message_holds}
use Rattle.slice_words.proofs.ReadAlike.{read_ends, read_wants, read_asks}
use Rattle.of10_flow.specs.declared.flow_mod.FlowMod.{FlowMod}
use Rattle.of10_flow.specs.declared.protocol.TheConstants.{SEND_FLOW_REM}
use Rattle.of10_flow.specs.Tables.{has_flag}
use Rattle.flowmod_expand.specs.Pieces.{pieces_within}
use Rattle.xid_map.specs.declared.asked.AskKind.{AskKind}
use Rattle.xid_map.specs.declared.asked.Asked.{Asked}
use Rattle.stats_filter.specs.Asking.{type_sent}
use Rattle.slice_side.specs.declared.change.Change.TheVariants.{Heard, Set, Dismissed, Rated, Modified, SentOut, Inquired}
use Rattle.slice_side.specs.declared.change.Modification.{Modification}
use Rattle.slice_side.specs.Reactions.{without_physical, is_used_up, Uses, is_inquiry, IsChange, with_item}
use Rattle.slice_side.specs.Requesting.{IsRequested}

-- ---- readings

none_some : {n : ℕ} → None ≡ Some n → ⊥
none_some e = true≢false (sym (ap is_some e))

-- what sets a length neither ends a connection nor asks anything
pub set_is_plain : (read : Reading) (wanted : ℕ) → length_wanted read ≡ Some wanted → (ends_connection read ≡ false) × (asks_switch read ≡ false)
set_is_plain (Ok said.Hello) wanted is = (refl, refl)
set_is_plain (Ok said.Error) wanted is = (refl, refl)
set_is_plain (Ok (said.EchoRequest body)) wanted is = (refl, refl)
set_is_plain (Ok said.EchoReply) wanted is = (refl, refl)
set_is_plain (Ok said.Vendor) wanted is = (refl, refl)
set_is_plain (Ok said.FeaturesRequest) wanted is = (refl, refl)
set_is_plain (Ok said.GetConfigRequest) wanted is = (refl, refl)
set_is_plain (Ok (said.SetConfig config)) wanted is = (refl, refl)
set_is_plain (Ok (said.PacketOut m)) wanted is = absurd (none_some is)
set_is_plain (Ok (said.FlowMod m)) wanted is = absurd (none_some is)
set_is_plain (Ok said.PortMod) wanted is = (refl, refl)
set_is_plain (Ok (said.StatsRequest request)) wanted is = absurd (none_some is)
set_is_plain (Ok said.BarrierRequest) wanted is = absurd (none_some is)
set_is_plain (Ok (said.QueueGetConfigRequest queues)) wanted is = absurd (none_some is)
set_is_plain (Err fault) wanted is = absurd (none_some is)

-- what asks something neither ends a connection nor sets a length
pub question_is_plain : (read : Reading) → asks_switch read ≡ true → (ends_connection read ≡ false) × (length_wanted read ≡ None)
question_is_plain (Ok (said.PacketOut m)) is = (refl, refl)
question_is_plain (Ok (said.FlowMod m)) is = (refl, refl)
question_is_plain (Ok (said.StatsRequest request)) is = (refl, refl)
question_is_plain (Ok said.BarrierRequest) is = (refl, refl)
question_is_plain (Ok (said.QueueGetConfigRequest queues)) is = (refl, refl)
question_is_plain (Ok said.Hello) is = absurd (true≢false (sym is))
question_is_plain (Ok said.Error) is = absurd (true≢false (sym is))
question_is_plain (Ok (said.EchoRequest body)) is = absurd (true≢false (sym is))
question_is_plain (Ok said.EchoReply) is = absurd (true≢false (sym is))
question_is_plain (Ok said.Vendor) is = absurd (true≢false (sym is))
question_is_plain (Ok said.FeaturesRequest) is = absurd (true≢false (sym is))
question_is_plain (Ok said.GetConfigRequest) is = absurd (true≢false (sym is))
question_is_plain (Ok (said.SetConfig config)) is = absurd (true≢false (sym is))
question_is_plain (Ok said.PortMod) is = absurd (true≢false (sym is))
question_is_plain (Err fault) is = absurd (true≢false (sym is))

-- what ends a connection asks nothing
pub ending_is_plain : (read : Reading) → ends_connection read ≡ true → (asks_switch read ≡ false) × (length_wanted read ≡ None)
ending_is_plain (Ok message) is = absurd (true≢false (sym is))
ending_is_plain (Err fault) is = (refl, refl)

-- ---- what is sent on

unasked : (s : Settings) (view : List Item) (past : List Past) (moment : ℕ) (message : List ℕ) → asks_switch (message_read s message) ≡ false → (message_answer s view past moment message).to_switch ≡ []
unasked s view past moment message none =
    message_holds (λ (ends_ : Bool) (a : Answer). a.to_switch ≡ []) s view past moment message (record {
      bad = refl;
      old = refl;
      nothing = refl;
      refuses = λ fault. refl;
      echoes = λ body read. refl;
      tells_features = λ features. refl;
      tells_configuration = refl;
      forwards = λ m read fault. absurd (true≢false (ap asks_switch (sym read) ∙ none));
      sends_out = λ m read fault. absurd (true≢false (ap asks_switch (sym read) ∙ none));
      tells_table = refl;
      asks_statistics = λ request question read may is. absurd (true≢false (ap asks_switch (sym read) ∙ none));
      asks_barrier = λ read. absurd (true≢false (ap asks_switch (sym read) ∙ none));
      asks_queues = λ queues read own. absurd (true≢false (ap asks_switch (sym read) ∙ none));
    })

by_up : (up : Bool) (a : Answer) → a.to_switch ≡ [] → (if up then a else no_answer).to_switch ≡ []
by_up true a none = none
by_up false a none = refl

-- for a message that asks nothing, nothing is sent on
pub sends_nothing : (s : Settings) (view : List Item) (moment : ℕ) (message : List ℕ) → asks_switch (message_read s message) ≡ false → is_any (answer_to s view (Msg message moment)).to_switch ≡ false
sends_nothing s view moment message none = ap is_any (by_up (is_up view) _ (unasked s view (past_of s view) moment message none))

-- ---- the calls

-- what a message does: it ends its connection, asks the rate, has something sent on, and sets a length
pub record Does (s : Settings) (view : List Item) (message : List ℕ) (moment : ℕ) (ends asks sends : Bool) (set : Option ℕ) : Type 0 where
  pub ending : ends_connection (message_read s message) ≡ ends
  pub asking : (is_up view && asks_switch (message_read s message)) ≡ asks
  pub sending : is_any (answer_to s view (Msg message moment)).to_switch ≡ sends
  pub setting : length_wanted (message_read s message) ≡ set

abbrev requests_made : Bool → Bool → Settings → List ℕ → List RequestCall → List RequestCall
requests_made ends sends s message calls = (if ends then Forget ∷ [] else if sends then Issue (asked_of (message_read s message) message) ∷ [] else []) ++ calls

abbrev collections_made : Bool → Bool → Settings → ℕ → List ℕ → List CollectionCall → List CollectionCall
collections_made ends sends s number message calls = (if ends then EndAll ∷ [] else if sends then begun number (kind_asked (message_read s message)) else []) ++ calls

abbrev questions_made : Bool → ℕ → List ℕ → List ℕ
questions_made asks at asked = if asks then at ∷ asked else asked

abbrev bookings_made : Bool → Settings → ℕ → List ℕ → List BookCall → List BookCall
bookings_made sends s number message calls = (if sends then bookings s number (message_read s message) else []) ++ calls

abbrev held_with : Bool → Answer → List HeldPacket → List HeldPacket
held_with ends a held = if ends then [] else filter (λ packet. not (is_named packet.ordinal a.to_switch)) held

-- a state with these changes belongs to what the slice sees with the message
pub record Changed (s : Settings) (sight : Sight) (message : List ℕ) (moment : ℕ) (ends asks sends : Bool) (set : Option ℕ) (old new : SliceState) : Type 0 where
  pub moment_is : new.moment ≡ max moment (latest_moment sight.view)
  pub up_is : new.up ≡ (if ends then false else is_up sight.view)
  pub length_is : new.miss_send_len ≡ (if ends then 128 else unwrap_or set old.miss_send_len)
  pub requests : RequestsStand s.slot (requests_made ends sends s message (request_calls s (past_of s sight.view))) new.xids
  pub collections : CollectionsStand (collections_made ends sends s (issued (request_calls s (past_of s sight.view))) message (collection_calls s (past_of s sight.view))) new.collections
  pub bucket : BucketStands (questions_made asks (max moment (latest_moment sight.view)) (questions (past_of s sight.view))) new.bucket
  pub rate : new.bucket.rate ≡ old.bucket.rate
  pub burst : new.bucket.burst ≡ old.bucket.burst
  pub book : BookStands (bookings_made sends s (issued (request_calls s (past_of s sight.view))) message (book_calls s (past_of s sight.view))) new.book
  pub given : new.buffers.given ≡ old.buffers.given
  pub held : new.buffers.held ≡ map (held_as sight.came) (held_with ends (answer_to s sight.view (Msg message moment)) (held_packets (past_of s sight.view)))

questions_with : (s : Settings) (view : List Item) (message : List ℕ) (moment : ℕ) (asks : Bool) → (is_up view && is_question message) ≡ asks
    → questions (past_of s (Msg message moment ∷ view)) ≡ questions_made asks (max moment (latest_moment view)) (questions (past_of s view))
questions_with s view message moment asks is =
    ap (λ (items : List Item). if is_up items && is_question message then max moment (latest_moment items) ∷ questions (past_of s view) else questions (past_of s view)) (view_in-played (answer s) view)
    ∙ rw is refl

pub stands_with : (s : Settings) (sight : Sight) (message : List ℕ) (moment : ℕ) (ends asks sends : Bool) (set : Option ℕ) (old new : SliceState)
    → Does s sight.view message moment ends asks sends set → SliceStands s sight old → Changed s sight message moment ends asks sends set old new
    → SliceStands s (with_item (Msg message moment) sight) new
stands_with s sight message moment ends asks sends set old new does stands changed =
    let ending : is_dismissing message ≡ ends = sym (read_ends s message) ∙ does.ending in
    let setting : length_set message ≡ set = sym (read_wants s message) ∙ does.setting in
    let asking : (is_up sight.view && is_question message) ≡ asks = ap (λ (asked : Bool). is_up sight.view && asked) (sym (read_asks s message)) ∙ does.asking in
    record {
      up = changed.up_is ∙ rw ending refl;
      miss_send_len = changed.length_is ∙ rw (ending, setting, stands.miss_send_len) refl;
      moment = changed.moment_is;
      requests = subst (λ (calls : List RequestCall). RequestsStand s.slot calls new.xids) (rw (ending, does.sending) refl) changed.requests;
      collections = subst (λ (calls : List CollectionCall). CollectionsStand calls new.collections) (rw (ending, does.sending) refl) changed.collections;
      bucket = subst (λ (asked : List ℕ). BucketStands asked new.bucket) (sym (questions_with s sight.view message moment asks asking)) changed.bucket;
      book = subst (λ (calls : List BookCall). BookStands calls new.book) (rw does.sending refl) changed.book;
      given = changed.given ∙ stands.given;
      held = changed.held ∙ rw ending refl;
      rate = changed.rate ∙ stands.rate;
      burst = changed.burst ∙ stands.burst;
    }

-- ---- the packets that are held

none_sent : {A : Type 0} (messages : List A) → is_any messages ≡ false → messages ≡ []
none_sent [] none = refl
none_sent (message ∷ messages) none = absurd (true≢false (sym (le-leb 1 (length (message ∷ messages)) (omega arith)) ∙ none))

-- where nothing is sent on, the same are held
held_still : (s : Settings) (sight : Sight) (message : List ℕ) (moment : ℕ) (held : List Held) → is_any (answer_to s sight.view (Msg message moment)).to_switch ≡ false → held ≡ map (held_as sight.came) (held_packets (past_of s sight.view))
    → held ≡ map (held_as sight.came) (held_with false (answer_to s sight.view (Msg message moment)) (held_packets (past_of s sight.view)))
held_still s sight message moment held none are =
    are
    ∙ ap (map (held_as sight.came))
    (sym (ap (λ (messages : List Outgoing). filter (λ (packet : HeldPacket). not (is_named packet.ordinal messages)) (held_packets (past_of s sight.view))) (none_sent (answer_to s sight.view (Msg message moment)).to_switch none)
    ∙ filter_all (λ (packet : HeldPacket). not (is_named packet.ordinal [])) (held_packets (past_of s sight.view)) (λ k d within. refl)))

-- where messages are sent on, all but the one that they use up
held_used : (came : List ℕ) (used : Option ℕ) (packets : List HeldPacket) (messages : List Outgoing) (old new : List Held) → Uses used packets messages → old ≡ map (held_as came) packets
    → new ≡ filter (λ packet. not (is_used_up used (without_physical packet))) old → new ≡ map (held_as came) (filter (λ packet. not (is_named packet.ordinal messages)) packets)
held_used came used packets messages old new uses are is =
    is
    ∙ ap (filter (λ (packet : Held). not (is_used_up used (without_physical packet)))) are
    ∙ filter_of_map (λ (packet : Held). not (is_used_up used (without_physical packet))) (λ (packet : HeldPacket). not (is_used_up used packet)) (held_as came) packets (λ k d within. refl)
    ∙ ap (map (held_as came)) (filter_same (λ (packet : HeldPacket). not (is_used_up used packet)) (λ (packet : HeldPacket). not (is_named packet.ordinal messages)) packets (λ k d within. sym (ap not (uses k d within))))

-- ---- the changes, one after the other

no_and : (b q : Bool) → q ≡ false → (b && q) ≡ false
no_and true q none = none
no_and false q none = refl

both_true : (b q : Bool) → b ≡ true → q ≡ true → (b && q) ≡ true
both_true b q first second = rw (first, second) refl

pub heard : (s : Settings) (sight : Sight) (item : Item) (t m : ℕ) (old : SliceState) → m ≡ max t old.moment → SliceStands s sight old → IsChange s sight item (Heard t)
    → SliceStands s (with_item item sight) (record old { moment = m })
heard s sight (Msg message moment) t m old at stands is =
    let facts = is.1 in
    stands_with s sight message moment false false false None old (record old { moment = m })
    (record { ending = facts.0; asking = no_and (is_up sight.view) (asks_switch (message_read s message)) facts.2; sending = sends_nothing s sight.view moment message facts.2; setting = facts.1 })
    stands
    (record { moment_is = at ∙ ap₂ max facts.3 stands.moment; up_is = stands.up; length_is = refl; requests = stands.requests; collections = stands.collections; bucket = stands.bucket; rate = refl; burst = refl; book = stands.book; given = refl; held = held_still s sight message moment old.buffers.held (sends_nothing s sight.view moment message facts.2) stands.held })
heard s sight item t m old at stands is = absurd is

pub set : (s : Settings) (sight : Sight) (item : Item) (t wanted m : ℕ) (old : SliceState) → m ≡ max t old.moment → SliceStands s sight old → IsChange s sight item (Set t wanted)
    → SliceStands s (with_item item sight) (record old { moment = m; miss_send_len = wanted })
set s sight (Msg message moment) t wanted m old at stands is =
    let facts = is.1 in
    let plain = set_is_plain (message_read s message) wanted facts.0 in
    stands_with s sight message moment false false false (Some wanted) old (record old { moment = m; miss_send_len = wanted })
    (record { ending = plain.0; asking = no_and (is_up sight.view) (asks_switch (message_read s message)) plain.1; sending = sends_nothing s sight.view moment message plain.1; setting = facts.0 })
    stands
    (record { moment_is = at ∙ ap₂ max facts.1 stands.moment; up_is = stands.up; length_is = refl; requests = stands.requests; collections = stands.collections; bucket = stands.bucket; rate = refl; burst = refl; book = stands.book; given = refl; held = held_still s sight message moment old.buffers.held (sends_nothing s sight.view moment message plain.1) stands.held })
set s sight item t wanted m old at stands is = absurd is

-- a state that forgot what belongs to one connection
pub record Forgot (old new : SliceState) : Type 0 where
  pub requests : (slot : ℕ) (calls : List RequestCall) → RequestsStand slot calls old.xids → RequestsStand slot (Forget ∷ calls) new.xids
  pub collections : (calls : List CollectionCall) → CollectionsStand calls old.collections → CollectionsStand (EndAll ∷ calls) new.collections
  pub length_is : new.miss_send_len ≡ 128
  pub same_bucket : new.bucket ≡ old.bucket
  pub same_book : new.book ≡ old.book
  pub same_moment : new.moment ≡ old.moment
  pub same_given : new.buffers.given ≡ old.buffers.given
  pub none_held : new.buffers.held ≡ []

pub dismissed : (s : Settings) (sight : Sight) (item : Item) (t m : ℕ) (old new : SliceState) → m ≡ max t old.moment → Forgot (record old { moment = m }) new → SliceStands s sight old → IsChange s sight item (Dismissed t)
    → SliceStands s (with_item item sight) (record new { up = false })
dismissed s sight (Msg message moment) t m old new at forgot stands is =
    let facts = is.1 in
    let plain = ending_is_plain (message_read s message) facts.0 in
    stands_with s sight message moment true false false None old (record new { up = false })
    (record { ending = facts.0; asking = no_and (is_up sight.view) (asks_switch (message_read s message)) plain.0; sending = sends_nothing s sight.view moment message plain.0; setting = plain.1 })
    stands
    (record {
      moment_is = forgot.same_moment ∙ at ∙ ap₂ max facts.1 stands.moment;
      up_is = refl;
      length_is = forgot.length_is;
      requests = forgot.requests s.slot (request_calls s (past_of s sight.view)) stands.requests;
      collections = forgot.collections (collection_calls s (past_of s sight.view)) stands.collections;
      bucket = subst (λ bucket. BucketStands (questions (past_of s sight.view)) bucket) (sym forgot.same_bucket) stands.bucket;
      rate = ap (λ bucket. bucket.rate) forgot.same_bucket;
      burst = ap (λ bucket. bucket.burst) forgot.same_bucket;
      book = subst (λ book. BookStands (book_calls s (past_of s sight.view)) book) (sym forgot.same_book) stands.book;
      given = forgot.same_given;
      held = forgot.none_held;
    })
dismissed s sight item t m old new at forgot stands is = absurd is

-- a bucket that was asked at a timestamp
pub record Asks (m : ℕ) (old new : Bucket) : Type 0 where
  pub stands : (asked : List ℕ) → BucketStands asked old → BucketStands (m ∷ asked) new
  pub rate : new.rate ≡ old.rate
  pub burst : new.burst ≡ old.burst

pub rated : (s : Settings) (sight : Sight) (item : Item) (t m : ℕ) (old : SliceState) (bucket : Bucket) → m ≡ max t old.moment → Asks m old.bucket bucket → SliceStands s sight old → IsChange s sight item (Rated t)
    → SliceStands s (with_item item sight) (record old { moment = m; bucket = bucket })
rated s sight (Msg message moment) t m old bucket at asks stands is =
    let facts = is.1 in
    let plain = question_is_plain (message_read s message) facts.0 in
    let now : m ≡ max moment (latest_moment sight.view) = at ∙ ap₂ max facts.2 stands.moment in
    stands_with s sight message moment false true false None old (record old { moment = m; bucket = bucket })
    (record { ending = plain.0; asking = both_true (is_up sight.view) (asks_switch (message_read s message)) is.0 facts.0; sending = facts.1; setting = plain.1 })
    stands
    (record {
      moment_is = now;
      up_is = stands.up;
      length_is = refl;
      requests = stands.requests;
      collections = stands.collections;
      bucket = subst (λ (at_ : ℕ). BucketStands (at_ ∷ questions (past_of s sight.view)) bucket) now (asks.stands (questions (past_of s sight.view)) stands.bucket);
      rate = asks.rate;
      burst = asks.burst;
      book = stands.book;
      given = refl;
      held = held_still s sight message moment old.buffers.held facts.1 stands.held;
    })
rated s sight item t m old bucket at asks stands is = absurd is

bookings_of : (s : Settings) (number : ℕ) (read : Reading) (m : FlowMod) → read ≡ Ok (said.FlowMod m) → bookings s number read ≡ Added m.command (pieces_within s.patterns m.pattern) m.priority (has_flag SEND_FLOW_REM m) number ∷ []
bookings_of s number read m is = ap (bookings s number) is

added_same : (made : Modification) (m : FlowMod) (s : Settings) (number : ℕ) → made.command ≡ m.command → made.pieces.items ≡ pieces_within s.patterns m.pattern → made.priority ≡ m.priority → made.asks ≡ has_flag SEND_FLOW_REM m
    → Added made.command made.pieces.items made.priority made.asks number ∷ [] ≡ Added m.command (pieces_within s.patterns m.pattern) m.priority (has_flag SEND_FLOW_REM m) number ∷ []
added_same made m s number command pieces priority asks = λ i. Added (command i) (pieces i) (priority i) (asks i) number ∷ []

-- what is sent on for a message changes all but the book and what is collected
module _ (s : Settings) (sight : Sight) (message : List ℕ) (at : ℕ) (asked : Asked) (used : Option ℕ) (old new : SliceState) where
  requested : (book : Book) (collections : List Collected) → IsRequested at asked used old new → SliceStands s sight old → is_up sight.view ≡ true → asks_switch (message_read s message) ≡ true → is_any (answer_to s sight.view (Msg message at)).to_switch ≡ true
      → asked ≡ asked_of (message_read s message) message → Uses used (held_packets (past_of s sight.view)) (answer_to s sight.view (Msg message at)).to_switch
      → BookStands (bookings s (issued (request_calls s (past_of s sight.view))) (message_read s message) ++ book_calls s (past_of s sight.view)) book
      → CollectionsStand (begun (issued (request_calls s (past_of s sight.view))) (kind_asked (message_read s message)) ++ collection_calls s (past_of s sight.view)) collections
      → SliceStands s (with_item (Msg message at) sight) (record new { book = book; collections = collections })
  requested book collections made stands up asking sent same uses booked collected =
      let plain = question_is_plain (message_read s message) asking in
      let now : new.moment ≡ max at (latest_moment sight.view) = made.moment ∙ ap (max at) stands.moment in
      let calls = request_calls s (past_of s sight.view) in
      stands_with s sight message at false true true None old (record new { book = book; collections = collections })
      (record { ending = plain.0; asking = both_true (is_up sight.view) (asks_switch (message_read s message)) up asking; sending = sent; setting = plain.1 })
      stands
      (record {
        moment_is = now;
        up_is = made.same_up ∙ stands.up;
        length_is = made.same_length;
        requests = subst (λ (a : Asked). RequestsStand s.slot (Issue a ∷ calls) new.xids) same (made.xids s.slot calls stands.requests);
        collections = collected;
        bucket = subst (λ (at_ : ℕ). BucketStands (at_ ∷ questions (past_of s sight.view)) new.bucket) now (made.bucket (questions (past_of s sight.view)) stands.bucket);
        rate = made.rate;
        burst = made.burst;
        book = booked;
        given = made.given;
        held = held_used sight.came used (held_packets (past_of s sight.view)) (answer_to s sight.view (Msg message at)).to_switch old.buffers.held new.buffers.held uses stands.held made.held;
      })

-- where it asks for no statistics, the same is collected
none_begun : (kind : AskKind) (number : ℕ) (calls : List CollectionCall) (old new : List Collected) → type_sent kind ≡ None → new ≡ old → CollectionsStand calls old → CollectionsStand (begun number kind ++ calls) new
none_begun kind number calls old new none same collected =
    subst (λ (begins : List CollectionCall). CollectionsStand (begins ++ calls) new) (sym (ap (λ (sent : Option ℕ). if is_some sent then Start number ∷ [] else []) none))
    (subst (CollectionsStand calls) (sym same) collected)

pub modified : (s : Settings) (sight : Sight) (message : List ℕ) (number : ℕ) (made : Modification) (old new : SliceState) (book : Book) → IsRequested made.moment made.asked made.used old new
    → ((slot : ℕ) (calls : List RequestCall) → RequestsStand slot calls old.xids → number ≡ issued calls)
    → ((calls : List BookCall) → BookStands calls new.book → BookStands (Added made.command made.pieces.items made.priority made.asks number ∷ calls) book)
    → SliceStands s sight old → IsChange s sight (Msg message made.moment) (Modified made) → SliceStands s (with_item (Msg message made.moment) sight) (record new { book = book })
modified s sight message number made old new book requests numbers books stands is =
    let so = is.1 in
    let calls = request_calls s (past_of s sight.view) in
    let asking : asks_switch (message_read s message) ≡ true = ap asks_switch so.is_read in
    requested s sight message made.moment made.asked made.used old new book new.collections requests stands is.0 asking so.sent so.asked so.uses
    (subst (λ (added : List BookCall). BookStands (added ++ book_calls s (past_of s sight.view)) book)
    (ap (λ (n : ℕ). Added made.command made.pieces.items made.priority made.asks n ∷ []) (numbers s.slot calls stands.requests)
    ∙ added_same made so.flow_mod s (issued calls) so.command so.pieces so.priority so.asks ∙ sym (bookings_of s (issued calls) (message_read s message) so.flow_mod so.is_read))
    (books (book_calls s (past_of s sight.view)) (subst (λ (b : Book). BookStands (book_calls s (past_of s sight.view)) b) (sym requests.same_book) stands.book)))
    (none_begun (kind_asked (message_read s message)) (issued calls) (collection_calls s (past_of s sight.view)) old.collections new.collections (ap (λ (r : Reading). type_sent (kind_asked r)) so.is_read) requests.same_collections stands.collections)

pub sent_out : (s : Settings) (sight : Sight) (item : Item) (at : ℕ) (asked : Asked) (used : Option ℕ) (old new : SliceState) → IsRequested at asked used old new → SliceStands s sight old → IsChange s sight item (SentOut at asked used)
    → SliceStands s (with_item item sight) new
sent_out s sight (Msg message moment) at asked used old new requests stands is =
    let so = is.1 in
    let asking : asks_switch (message_read s message) ≡ true = ap asks_switch so.is_read in
    let same : at ≡ moment = so.same_moment in
    requested s sight message moment asked used old new new.book new.collections (subst (λ (t : ℕ). IsRequested t asked used old new) same requests) stands is.0 asking so.sent so.same_asked so.uses
    (subst (λ (added : List BookCall). BookStands (added ++ book_calls s (past_of s sight.view)) new.book) (sym (ap (bookings s (issued (request_calls s (past_of s sight.view)))) so.is_read))
    (subst (λ (b : Book). BookStands (book_calls s (past_of s sight.view)) b) (sym requests.same_book) stands.book))
    (none_begun (kind_asked (message_read s message)) (issued (request_calls s (past_of s sight.view))) (collection_calls s (past_of s sight.view)) old.collections new.collections (ap (λ (r : Reading). type_sent (kind_asked r)) so.is_read) requests.same_collections stands.collections)
sent_out s sight item at asked used old new requests stands is = absurd is

-- ---- what asks for a reply

-- such a message is to be sent on
inquiry_asks : (read : Reading) → is_inquiry read ≡ true → asks_switch read ≡ true
inquiry_asks (Ok (said.StatsRequest request)) is = refl
inquiry_asks (Ok said.BarrierRequest) is = refl
inquiry_asks (Ok (said.QueueGetConfigRequest queues)) is = refl
inquiry_asks (Ok (said.PacketOut m)) is = refl
inquiry_asks (Ok (said.FlowMod m)) is = refl
inquiry_asks (Ok said.Hello) is = absurd (true≢false (sym is))
inquiry_asks (Ok said.Error) is = absurd (true≢false (sym is))
inquiry_asks (Ok (said.EchoRequest body)) is = absurd (true≢false (sym is))
inquiry_asks (Ok said.EchoReply) is = absurd (true≢false (sym is))
inquiry_asks (Ok said.Vendor) is = absurd (true≢false (sym is))
inquiry_asks (Ok said.FeaturesRequest) is = absurd (true≢false (sym is))
inquiry_asks (Ok said.GetConfigRequest) is = absurd (true≢false (sym is))
inquiry_asks (Ok (said.SetConfig config)) is = absurd (true≢false (sym is))
inquiry_asks (Ok said.PortMod) is = absurd (true≢false (sym is))
inquiry_asks (Err fault) is = absurd (true≢false (sym is))

-- it books nothing
inquiry_books : (s : Settings) (number : ℕ) (read : Reading) → is_inquiry read ≡ true → bookings s number read ≡ []
inquiry_books s number (Ok (said.FlowMod m)) is = absurd (true≢false (sym is))
inquiry_books s number (Ok message) is = refl
inquiry_books s number (Err fault) is = refl

pub inquired : (s : Settings) (sight : Sight) (item : Item) (number at : ℕ) (asked : Asked) (old new : SliceState) (collections : List Collected) → IsRequested at asked None old new
    → ((slot : ℕ) (calls : List RequestCall) → RequestsStand slot calls old.xids → number ≡ issued calls)
    → ((calls : List CollectionCall) → CollectionsStand calls new.collections → CollectionsStand (begun number asked.kind ++ calls) collections)
    → SliceStands s sight old → IsChange s sight item (Inquired at asked) → SliceStands s (with_item item sight) (record new { collections = collections })
inquired s sight (Msg message moment) number at asked old new collections requests numbers begins stands is =
    let so = is.1 in
    let calls = request_calls s (past_of s sight.view) in
    requested s sight message moment asked None old new new.book collections (subst (λ (t : ℕ). IsRequested t asked None old new) so.same_moment requests) stands is.0 (inquiry_asks (message_read s message) so.inquires) so.sent so.same_asked so.uses
    (subst (λ (added : List BookCall). BookStands (added ++ book_calls s (past_of s sight.view)) new.book) (sym (inquiry_books s (issued calls) (message_read s message) so.inquires))
    (subst (λ (b : Book). BookStands (book_calls s (past_of s sight.view)) b) (sym requests.same_book) stands.book))
    (subst (λ (started : List CollectionCall). CollectionsStand (started ++ collection_calls s (past_of s sight.view)) collections)
    (ap₂ (λ (n : ℕ) (a : Asked). begun n a.kind) (numbers s.slot calls stands.requests) so.same_asked)
    (begins (collection_calls s (past_of s sight.view)) (subst (CollectionsStand (collection_calls s (past_of s sight.view))) (sym requests.same_collections) stands.collections)))
inquired s sight item number at asked old new collections requests numbers begins stands is = absurd is
