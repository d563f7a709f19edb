-- What a slice is sent by a proxy that serves it alone: the answers to the items of its view, one after another (this proxy's own rule).
use Rattle.std.specs.Prelude.{ℕ, List, [], ◌∷◌, ◌++◌, map, get_or, reverse, Some, None}
use Rattle.of10_ctl.specs.declared.kind.TheConstants.{BARRIER_REQUEST}
use Rattle.of10_ctl.specs.Frames.{message_of}
use Rattle.of10_message.specs.Queues.{spell_queues_request}
use Rattle.of10_stats.specs.Requests.{spell_request}
use Rattle.of10_flow.specs.FlowMods.{spell_flow_mod}
use Rattle.of10_flow.specs.PacketOuts.{spell_packet_out}
use Rattle.of10_flow.specs.declared.protocol.TheConstants.{NO_BUFFER}
use Rattle.port_turns.specs.Sent.{turn_out}
use Rattle.slice_words.specs.Items.{Settings, Item}
use Rattle.slice_words.specs.Pasts.{Inquiry, ForStatistics, ForBarrier, ForQueues, Outgoing, Modifies, SendsOut, Asks, Answer, Past}
use Rattle.slice_words.specs.Answers.{answer}

-- a way to answer an item after a view with its answers
abbrev pub Answering : Type 0
Answering = List Item → List Past → Item → Answer

-- a view with the answers to its items
abbrev pub played : Answering → List Item → List Past
played answering [] = []
played answering (item ∷ view) = record { item = item; answer = answering view (played answering view) item } ∷ played answering view

-- what follows from an item after a view
abbrev pub answer_to : Settings → List Item → Item → Answer
answer_to s view item = answer s view (played (answer s) view) item

-- messages as a slice is sent them: with the port numbers that it is shown
abbrev pub shown_to : Settings → List (List ℕ) → List (List ℕ)
shown_to s messages = map (turn_out s.swaps) messages

-- all that a slice is sent over a view, the oldest first
abbrev pub alone : Settings → List Item → List (List ℕ)
alone s [] = []
alone s (item ∷ view) = alone s view ++ shown_to s (answer_to s view item).to_slice

-- a view with items that come one after another
abbrev pub with_items : List Item → List Item → List Item
with_items [] view = view
with_items (item ∷ items) view = with_items items (item ∷ view)

-- what a slice is sent for items that come one after another
abbrev pub sent_for : Settings → List Item → List Item → List (List ℕ)
sent_for s view [] = []
sent_for s view (item ∷ items) = shown_to s (answer_to s view item).to_slice ++ sent_for s (item ∷ view) items

-- the same with the port numbers of the switch
abbrev pub answers_for : Settings → List Item → List Item → List (List ℕ)
answers_for s view [] = []
answers_for s view (item ∷ items) = (answer_to s view item).to_slice ++ answers_for s (item ∷ view) items

-- what the switch is sent for them
abbrev pub put_for : Settings → List Item → List Item → List Outgoing
put_for s view [] = []
put_for s view (item ∷ items) = (answer_to s view item).to_switch ++ put_for s (item ∷ view) items

-- ---- the switch's own numbers

-- the number with which a slice's k-th buffered packet came, among the numbers of all, newest first; none where there is no such packet
abbrev pub number_it_came_with : List ℕ → ℕ → ℕ
number_it_came_with came k = get_or (reverse came) k NO_BUFFER

-- the bytes of an inquiry (OpenFlow 1.0.0, sections 5.3.5, 5.3.7 and 5.3.4)
abbrev pub spell_inquiry : Inquiry → ℕ → List ℕ
spell_inquiry (ForStatistics request) xid = spell_request request xid
spell_inquiry ForBarrier xid = message_of BARRIER_REQUEST xid []
spell_inquiry (ForQueues queues) xid = spell_queues_request xid queues

-- the bytes of a message, with the switch's own number for the packet that it names
abbrev pub rendered : List ℕ → Outgoing → List ℕ
rendered came (Modifies m None) = spell_flow_mod m
rendered came (Modifies m (Some k)) = spell_flow_mod (record m { buffer = number_it_came_with came k })
rendered came (SendsOut m None) = spell_packet_out m
rendered came (SendsOut m (Some k)) = spell_packet_out (record m { buffer = number_it_came_with came k })
rendered came (Asks inquiry xid) = spell_inquiry inquiry xid
