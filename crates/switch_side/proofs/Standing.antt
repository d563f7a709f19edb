-- What most items of the switch show changes nothing that a slice's state keeps.
use Rattle.std.proofs.Common.{◌≡◌, ℕ, ◌&&◌, Bool, false, if◌then◌else◌, List, [], ◌∷◌, ◌++◌, map, refl, ap, sym, ◌∙◌, true≢false, Option, None, Result, Ok, Err}
use Rattle.std.specs.List.{list_any}
use Rattle.std.proofs.lemmas.Bool.{cond_both, or_parts}
use Rattle.std.proofs.lemmas.Option.{none-some}
use Rattle.of10_model.specs.declared.pattern.Pattern.{Pattern}
use Rattle.of10_flow.specs.declared.packet_in.PacketIn.{PacketIn}
use Rattle.of10_port.specs.declared.status.PortStatus.{PortStatus}
use Rattle.of10_port.specs.Ports.{port_number}
use Rattle.of10_message.specs.declared.fault.Unread.{Unread}
use Rattle.of10_message.specs.declared.fault.Unread.TheVariants.{BadLength}
use Rattle.of10_message.specs.Switch as says
use Rattle.of10_message.specs.Switch.{SwitchMessage}
use Rattle.flowspace.specs.Policies.{PolicyView}
use Rattle.port_view.specs.KnownPorts.{is_kept}
use Rattle.xid_map.specs.declared.asked.Issued.{Issued}
use Rattle.xid_map.specs.Requests.{RequestsStand}
use Rattle.xid_map.specs.Collections.{CollectionsStand}
use Rattle.buffer_map.specs.Buffers.{Buffers}
use Rattle.flow_book.specs.Books.{BookStands}
use Rattle.flow_book.specs.declared.state.SliceState.{SliceState}
use Rattle.slice_words.specs.Items.{Settings, is_own_port, Share, Item, Lost, Status, Fault, End, Sight, is_up, miss_send_len, latest_moment, is_buffered, buffered_count}
use Rattle.slice_words.specs.Alone.{with_items}
use Rattle.slice_words.specs.Buffers.{held_packets}
use Rattle.slice_words.specs.Statistics.{finished}
use Rattle.slice_words.specs.Calls.{request_for, error_marks, failure, request_calls, collection_calls, questions, book_calls}
use Rattle.slice_words.specs.Standing.{SliceStands, past_of, held_as}
use Rattle.desk_words.specs.Openings.{KnownSwitch}
use Rattle.desk_words.specs.Histories.{settings_at, handed, packet_said, said_items, SliceSide, seen_with}
use Rattle.switch_side.proofs.MessageTypes.{is_for_one}

-- ---- what a state keeps

-- what a state keeps of a view beside the packets that are held is the same of both
pub record SameParts (s : Settings) (before after : List Item) : Type 0 where
  pub up : is_up after ≡ is_up before
  pub miss_send_len : miss_send_len after ≡ miss_send_len before
  pub moment : latest_moment after ≡ latest_moment before
  pub requests : request_calls s (past_of s after) ≡ request_calls s (past_of s before)
  pub collections : collection_calls s (past_of s after) ≡ collection_calls s (past_of s before)
  pub asked : questions (past_of s after) ≡ questions (past_of s before)
  pub book : book_calls s (past_of s after) ≡ book_calls s (past_of s before)

-- a state of which only the packets that are held may be others
pub record Holds (old new : SliceState) : Type 0 where
  pub xids : new.xids ≡ old.xids
  pub collections : new.collections ≡ old.collections
  pub bucket : new.bucket ≡ old.bucket
  pub book : new.book ≡ old.book
  pub up : new.up ≡ old.up
  pub miss_send_len : new.miss_send_len ≡ old.miss_send_len
  pub moment : new.moment ≡ old.moment

-- such a state belongs to a view with the same parts where it holds what the slice holds after it
pub stands_again : (s : Settings) (before after : Sight) (old new : SliceState) → SameParts s before.view after.view → Holds old new → SliceStands s before old
    → new.buffers.given ≡ buffered_count after.view → new.buffers.held ≡ map (held_as after.came) (held_packets (past_of s after.view)) → SliceStands s after new
stands_again s before after old new parts same stands given held = record {
  up = same.up ∙ stands.up ∙ sym parts.up;
  miss_send_len = same.miss_send_len ∙ stands.miss_send_len ∙ sym parts.miss_send_len;
  moment = same.moment ∙ stands.moment ∙ sym parts.moment;
  requests = rw (parts.requests, same.xids) stands.requests;
  collections = rw (parts.collections, same.collections) stands.collections;
  given = given;
  held = held;
  bucket = rw (parts.asked, same.bucket) stands.bucket;
  book = rw (parts.book, same.book) stands.book;
  rate = rw same.bucket stands.rate;
  burst = rw same.bucket stands.burst;
}

same_state : (state : SliceState) → Holds state state
same_state state = record { xids = refl; collections = refl; bucket = refl; book = refl; up = refl; miss_send_len = refl; moment = refl }

-- the same state, where the slice holds what it held
passing : (s : Settings) (before after : Sight) (state : SliceState) → SameParts s before.view after.view → buffered_count after.view ≡ buffered_count before.view
    → map (held_as after.came) (held_packets (past_of s after.view)) ≡ map (held_as before.came) (held_packets (past_of s before.view)) → SliceStands s before state → SliceStands s after state
passing s before after state parts given held stands = stands_again s before after state state parts (same_state state) stands (stands.given ∙ sym given) (stands.held ∙ sym held)

-- ---- requests, collections and the book

-- what a state keeps beside these is the same of both views
pub record SameRest (s : Settings) (before after : List Item) : Type 0 where
  pub up : is_up after ≡ is_up before
  pub miss_send_len : miss_send_len after ≡ miss_send_len before
  pub moment : latest_moment after ≡ latest_moment before
  pub asked : questions (past_of s after) ≡ questions (past_of s before)
  pub given : buffered_count after ≡ buffered_count before
  pub held : held_packets (past_of s after) ≡ held_packets (past_of s before)

-- a state of which only these may be others
pub record Differs (old new : SliceState) : Type 0 where
  pub buffers : new.buffers ≡ old.buffers
  pub bucket : new.bucket ≡ old.bucket
  pub up : new.up ≡ old.up
  pub miss_send_len : new.miss_send_len ≡ old.miss_send_len
  pub moment : new.moment ≡ old.moment

-- such a state belongs to the later view where these do
pub stands_on : (s : Settings) (sight : Sight) (after : List Item) (old new : SliceState) → SameRest s sight.view after → Differs old new → SliceStands s sight old
    → RequestsStand s.slot (request_calls s (past_of s after)) new.xids → CollectionsStand (collection_calls s (past_of s after)) new.collections → BookStands (book_calls s (past_of s after)) new.book
    → SliceStands s (record { view = after; came = sight.came }) new
stands_on s sight after old new rest differs stands requests collections book = record {
  up = differs.up ∙ stands.up ∙ sym rest.up;
  miss_send_len = differs.miss_send_len ∙ stands.miss_send_len ∙ sym rest.miss_send_len;
  moment = differs.moment ∙ stands.moment ∙ sym rest.moment;
  requests = requests;
  collections = collections;
  given = ap (λ (b : Buffers). b.given) differs.buffers ∙ stands.given ∙ sym rest.given;
  held = ap (λ (b : Buffers). b.held) differs.buffers ∙ stands.held ∙ ap (map (held_as sight.came)) (sym rest.held);
  bucket = rw (rest.asked, differs.bucket) stands.bucket;
  book = book;
  rate = rw differs.bucket stands.rate;
  burst = rw differs.bucket stands.burst;
}

-- ---- one item

pub same_none : (s : Settings) (view : List Item) → SameParts s view view
same_none s view = record { up = refl; miss_send_len = refl; moment = refl; requests = refl; collections = refl; asked = refl; book = refl }

pub same_lost : (s : Settings) (view : List Item) (k : ℕ) → SameParts s view (Lost k ∷ view)
same_lost s view k = record { up = refl; miss_send_len = refl; moment = refl; requests = refl; collections = refl; asked = refl; book = refl }

pub same_handed : (s : Settings) (view : List Item) (share : Share) (packet : PacketIn) → SameParts s view (handed share packet ∷ view)
same_handed s view share packet = record { up = refl; miss_send_len = refl; moment = refl; requests = refl; collections = refl; asked = refl; book = refl }

same_end : (s : Settings) (view : List Item) → SameParts s view (End ∷ view)
same_end s view = record { up = refl; miss_send_len = refl; moment = refl; requests = refl; collections = refl; asked = refl; book = refl }

same_status : (s : Settings) (view : List Item) (status : PortStatus) → SameParts s view (Status status ∷ view)
same_status s view status = record { up = refl; miss_send_len = refl; moment = refl; requests = refl; collections = refl; asked = refl; book = refl }

same_fault : (s : Settings) (view : List Item) (x class code : ℕ) (pair : Option (Pattern × ℕ)) → request_for s x (request_calls s (past_of s view)) ≡ None → SameParts s view (Fault x class code pair ∷ view)
same_fault s view x class code pair none = record {
  up = refl;
  miss_send_len = refl;
  moment = refl;
  requests = ap (λ (found : Option Issued). error_marks found ++ request_calls s (past_of s view)) none;
  collections = ap (λ (found : Option Issued). finished found ++ collection_calls s (past_of s view)) none;
  asked = refl;
  book = ap (λ (found : Option Issued). failure found pair ++ book_calls s (past_of s view)) none;
}

pub end_stands : (s : Settings) (sight : Sight) (state : SliceState) → SliceStands s sight state → SliceStands s (seen_with None (End ∷ []) sight) state
end_stands s sight state stands = passing s sight (seen_with None (End ∷ []) sight) state (same_end s sight.view) refl refl stands

status_stands : (s : Settings) (sight : Sight) (state : SliceState) (status : PortStatus) → SliceStands s sight state → SliceStands s (seen_with None (Status status ∷ []) sight) state
status_stands s sight state status stands = passing s sight (seen_with None (Status status ∷ []) sight) state (same_status s sight.view status) refl refl stands

-- an error for no request that is remembered
pub fault_stands : (s : Settings) (sight : Sight) (state : SliceState) (x class code : ℕ) (pair : Option (Pattern × ℕ)) → request_for s x (request_calls s (past_of s sight.view)) ≡ None
    → SliceStands s sight state → SliceStands s (seen_with None (Fault x class code pair ∷ []) sight) state
fault_stands s sight state x class code pair none stands =
    passing s sight (seen_with None (Fault x class code pair ∷ []) sight) state (same_fault s sight.view x class code pair none) refl refl stands

-- a packet that the slice may not use by number
share_stands : (s : Settings) (view : List Item) (came : List ℕ) (state : SliceState) (packet : PacketIn) (share : Share) → is_buffered share ≡ false
    → SliceStands s (record { view = view; came = came }) state → SliceStands s (record { view = handed share packet ∷ view; came = came }) state
share_stands s view came state packet share none stands =
    passing s (record { view = view; came = came }) (record { view = handed share packet ∷ view; came = came }) state (same_handed s view share packet) (rw none refl) (rw none refl) stands

pub shares_stand : (s : Settings) (view : List Item) (came : List ℕ) (state : SliceState) (packet : PacketIn) (shares : List Share) → list_any is_buffered shares ≡ false
    → SliceStands s (record { view = view; came = came }) state → SliceStands s (record { view = with_items (map (λ share. handed share packet) shares) view; came = came }) state
shares_stand s view came state packet [] none stands = stands
shares_stand s view came state packet (share ∷ others) none stands =
    let parts = or_parts (is_buffered share) (list_any is_buffered others) none in
    shares_stand s (handed share packet ∷ view) came state packet others parts.1 (share_stands s view came state packet share parts.0 stands)

-- ---- all items of a message

-- of two lists of items that change nothing either may be shown
either : (s : Settings) (sight : Sight) (state : SliceState) (b : Bool) (some others : List Item) → SliceStands s (seen_with None some sight) state → SliceStands s (seen_with None others sight) state
    → SliceStands s (seen_with None (if b then some else others) sight) state
either s sight state b some others one other = cond_both b some others (λ items. SliceStands s (seen_with None items sight) state) (λ is. one) (λ isnt. other)

-- a message that hands up no packet, and is not for one slice at most
pub said_stands : (p : PolicyView) (slot : ℕ) (switch : KnownSwitch) (side : SliceSide) (xid : ℕ) (said : Result SwitchMessage Unread) (state : SliceState) → packet_said said ≡ None → is_for_one said ≡ false
    → SliceStands (settings_at p slot switch.features) side.sight state
    → SliceStands (settings_at p slot switch.features) (seen_with None (said_items p slot switch side xid said) side.sight) state
said_stands p slot switch side xid (Err BadLength) state none all stands = end_stands (settings_at p slot switch.features) side.sight state stands
said_stands p slot switch side xid (Ok (says.PacketIn packet)) state none all stands = absurd (none-some packet (sym none))
said_stands p slot switch side xid (Ok (says.PortStatus status)) state none all stands =
    let s = settings_at p slot switch.features in
    either s side.sight state (is_kept status switch.known && is_own_port s.slot s.patterns (port_number status.port)) (Status status ∷ []) [] (status_stands s side.sight state status stands) stands
said_stands p slot switch side xid (Ok (says.FlowRemoved entry)) state none all stands = absurd (true≢false all)
said_stands p slot switch side xid (Ok (says.Error error)) state none all stands = absurd (true≢false all)
said_stands p slot switch side xid (Ok says.BarrierReply) state none all stands = absurd (true≢false all)
said_stands p slot switch side xid (Ok (says.QueueGetConfigReply queues)) state none all stands = absurd (true≢false all)
said_stands p slot switch side xid (Ok (says.StatsReply part body)) state none all stands = absurd (true≢false all)
said_stands p slot switch side xid said state none all stands = stands
