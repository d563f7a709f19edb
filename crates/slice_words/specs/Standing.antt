-- When a slice's state is the one that belongs to what the slice sees.
use Rattle.std.specs.Prelude.{ℕ, ◌≡◌, List, map}
use Rattle.xid_map.specs.Requests.{RequestsStand}
use Rattle.xid_map.specs.Collections.{CollectionsStand}
use Rattle.buffer_map.specs.declared.held.Held.{Held}
use Rattle.rate_bucket.specs.Rates.{BucketStands}
use Rattle.flow_book.specs.Books.{BookStands}
use Rattle.flow_book.specs.declared.state.SliceState.{SliceState}
use Rattle.slice_words.specs.Items.{Settings, Sight, Item, is_up, miss_send_len, latest_moment, buffered_count}
use Rattle.slice_words.specs.Pasts.{Past}
use Rattle.slice_words.specs.Answers.{answer}
use Rattle.slice_words.specs.Buffers.{HeldPacket, held_packets}
use Rattle.slice_words.specs.Alone.{played, number_it_came_with}
use Rattle.slice_words.specs.Calls.{request_calls, collection_calls, questions, book_calls}

-- a view with the answers of the slice
abbrev pub past_of : Settings → List Item → List Past
past_of s view = played (answer s) view

-- a packet that is held, with the switch's number for it
abbrev pub held_as : List ℕ → HeldPacket → Held
held_as came packet = record { ordinal = packet.ordinal; physical = number_it_came_with came packet.ordinal; header = packet.header }

-- each part has the calls that the view makes of it, the packets that are held are those of the view under the numbers with which they came, and the rest says what the look-ups in the view say
pub record SliceStands (s : Settings) (sight : Sight) (state : SliceState) : Type 0 where
  pub up : state.up ≡ is_up sight.view
  pub miss_send_len : state.miss_send_len ≡ miss_send_len sight.view
  pub moment : state.moment ≡ latest_moment sight.view
  pub requests : RequestsStand s.slot (request_calls s (past_of s sight.view)) state.xids
  pub collections : CollectionsStand (collection_calls s (past_of s sight.view)) state.collections
  pub given : state.buffers.given ≡ buffered_count sight.view
  pub held : state.buffers.held ≡ map (held_as sight.came) (held_packets (past_of s sight.view))
  pub bucket : BucketStands (questions (past_of s sight.view)) state.bucket
  pub book : BookStands (book_calls s (past_of s sight.view)) state.book
  pub rate : state.bucket.rate ≡ s.rate
  pub burst : state.bucket.burst ≡ s.burst
