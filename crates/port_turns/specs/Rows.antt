-- A flow-mod and a packet-out by their bytes: rows that show which bytes are exchanged.
use Rattle.std.specs.Prelude.{ℕ, List, [], ◌∷◌, ◌++◌}
use Rattle.byteorder.specs.Endian.{big_bytes}
use Rattle.of10_action.specs.Actions.{padding}
use Rattle.flowspace.specs.Swaps.{Pairs}

-- 9 is shown for 2
abbrev pub nine_for_two : Pairs
nine_for_two = (9, 2) ∷ []

-- an OUTPUT to one port, and an ENQUEUE to another
abbrev pub two_actions : ℕ → ℕ → List ℕ
two_actions to queued = big_bytes 2 0 ++ big_bytes 2 8 ++ big_bytes 2 to ++ big_bytes 2 9 ++ big_bytes 2 11 ++ big_bytes 2 16 ++ big_bytes 2 queued ++ padding 6 ++ big_bytes 4 9

-- an ADD with the word of a match, its in_port, an out_port and the actions
abbrev pub add_bytes : ℕ → ℕ → ℕ → List ℕ → List ℕ
add_bytes word in_port out_port actions = 1 ∷ 14 ∷ big_bytes 2 96 ++ big_bytes 4 9 ++ big_bytes 4 word ++ big_bytes 2 in_port ++ padding 34 ++ big_bytes 8 9 ++ big_bytes 2 0 ++ big_bytes 2 9 ++ big_bytes 2 9 ++ big_bytes 2 9 ++ big_bytes 4 9 ++ big_bytes 2 out_port ++ big_bytes 2 0 ++ actions

-- a packet-out with an in_port, actions and a packet of six bytes
abbrev pub out_bytes : ℕ → List ℕ → List ℕ
out_bytes in_port actions = 1 ∷ 13 ∷ big_bytes 2 46 ++ big_bytes 4 9 ++ big_bytes 4 9 ++ big_bytes 2 in_port ++ big_bytes 2 24 ++ actions ++ big_bytes 2 0 ++ big_bytes 2 8 ++ big_bytes 2 9

-- ---- messages for a slice

-- a packet-in of two bytes
abbrev pub in_bytes : ℕ → List ℕ
in_bytes port = 1 ∷ 10 ∷ big_bytes 2 20 ++ big_bytes 4 9 ++ big_bytes 4 9 ++ big_bytes 2 9 ++ big_bytes 2 port ++ big_bytes 2 0 ++ big_bytes 2 9

-- a removed entry with the word of a match and its in_port
abbrev pub removed_bytes : ℕ → ℕ → List ℕ
removed_bytes word port = 1 ∷ 11 ∷ big_bytes 2 88 ++ big_bytes 4 9 ++ big_bytes 4 word ++ big_bytes 2 port ++ padding 74

-- the status of a port, and the queues of one
abbrev pub status_bytes : ℕ → List ℕ
status_bytes port = 1 ∷ 12 ∷ big_bytes 2 64 ++ big_bytes 4 9 ++ padding 8 ++ big_bytes 2 port ++ padding 46

abbrev pub queues_bytes : ℕ → List ℕ
queues_bytes port = 1 ∷ 21 ∷ big_bytes 2 16 ++ big_bytes 4 9 ++ big_bytes 2 port ++ padding 6

-- statistics of a type, of so many bytes in all
abbrev pub stats_bytes : ℕ → ℕ → List ℕ → List ℕ
stats_bytes size kind entries = 1 ∷ 17 ∷ big_bytes 2 size ++ big_bytes 4 9 ++ big_bytes 2 kind ++ big_bytes 2 0 ++ entries

-- a flow entry of so many bytes with an in_port and actions
abbrev pub flow_bytes : ℕ → ℕ → List ℕ → List ℕ
flow_bytes size port actions = big_bytes 2 size ++ padding 2 ++ big_bytes 4 0x3820fe ++ big_bytes 2 port ++ padding 78 ++ actions

-- an OUTPUT, and behind it four bytes that are no action
abbrev pub cut_actions : List ℕ
cut_actions = big_bytes 2 0 ++ big_bytes 2 8 ++ big_bytes 2 9 ++ big_bytes 2 9 ++ big_bytes 2 0 ++ big_bytes 2 4

-- the entry of a port, and of a queue
abbrev pub port_entry : ℕ → List ℕ
port_entry port = big_bytes 2 port ++ padding 102

abbrev pub queue_entry : ℕ → List ℕ
queue_entry port = big_bytes 2 port ++ padding 30

-- the ports of a switch
abbrev pub features_bytes : ℕ → ℕ → ℕ → List ℕ
features_bytes one two three = 1 ∷ 6 ∷ big_bytes 2 176 ++ big_bytes 4 9 ++ padding 24 ++ big_bytes 2 one ++ padding 46 ++ big_bytes 2 two ++ padding 46 ++ big_bytes 2 three ++ padding 46
