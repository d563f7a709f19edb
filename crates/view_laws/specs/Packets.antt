-- Which packets a slice holds, in words of its view. Views have the newest item first. All of this is this proxy's own rule; what a buffer is says OpenFlow 1.0.0, section 5.4.1.
use Rattle.std.specs.Prelude.{ℕ, ◌≡◌, ◌≤◌, ◌+◌, ◌==◌, ◌||◌, Bool, true, false, List, [], ◌∷◌, ◌++◌, Option}
use Rattle.std.specs.List.{list_any}
use Rattle.slice_words.specs.Items.{Settings, Writer, Packet, Item, Msg, Lost, Handed, is_forgetting, buffered_count}
use Rattle.slice_words.specs.Buffers.{HeldPacket, packet_header, is_named, held_packets, packet_under}
use Rattle.slice_words.specs.Alone.{answer_to}
use Rattle.slice_words.specs.Standing.{past_of}

-- ---- what the answers go by

-- the packets that the slice holds after a view
abbrev pub held_in : Settings → List Item → List HeldPacket
held_in s view = held_packets (past_of s view)

-- the one that it holds under a number
abbrev pub held_at : Settings → List Item → ℕ → Option HeldPacket
held_at s view number = packet_under number (held_in s view)

-- ---- what ends that a packet is held

-- the switch uses the packet's number for another packet
abbrev pub is_loss_of : ℕ → Item → Bool
is_loss_of ordinal (Lost k) = ordinal == k
is_loss_of ordinal item = false

-- an item after a view uses the packet: it is a message, and what is sent on for it names the packet
abbrev pub is_use_of : Settings → ℕ → List Item → Item → Bool
is_use_of s ordinal view (Msg message moment) = is_named ordinal (answer_to s view (Msg message moment)).to_switch
is_use_of s ordinal view item = false

-- one of these items, which come after earlier ones, uses it
abbrev pub is_used : Settings → ℕ → List Item → List Item → Bool
is_used s ordinal [] earlier = false
is_used s ordinal (item ∷ later) earlier = is_use_of s ordinal (later ++ earlier) item || is_used s ordinal later earlier

-- ---- which packets are held

-- the packet was handed up to the slice as its writer, and the switch had buffered it; its ordinal is how many such packets came before it. It is among the last 256 of them; no later item forgets; and since then the switch didn't use its number for another packet, and no message of the slice used it
pub record IsHeldIn (s : Settings) (view : List Item) (held : HeldPacket) : Type 0 where
  pub later : List Item
  pub packet : Packet
  pub earlier : List Item
  pub split : view ≡ later ++ (Handed packet ∷ earlier)
  pub given : packet.share ≡ Writer true
  pub counted : held.ordinal ≡ buffered_count earlier
  pub header : held.header ≡ packet_header packet
  pub recent : buffered_count view ≤ held.ordinal + 256
  pub not_forgotten : list_any is_forgetting later ≡ false
  pub not_lost : list_any (is_loss_of held.ordinal) later ≡ false
  pub not_used : is_used s held.ordinal later (Handed packet ∷ earlier) ≡ false
