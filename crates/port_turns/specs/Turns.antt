-- The bytes of a slice's message with its port numbers exchanged where they stand: all other bytes stay (OpenFlow 1.0.0, sections 5.2.3, 5.2.4, 5.3.3 and 5.3.6; that they are exchanged is this proxy's own rule).
use Rattle.std.specs.Prelude.{ℕ, zero, suc, ◌+◌, ◌%◌, ◌^◌, ◌==◌, ◌||◌, Bool, if◌then◌else◌, List, [], ◌++◌, length, take, drop, Result, Ok, Err}
use Rattle.of10_model.specs.Normal.{number_at, bit}
use Rattle.of10_action.specs.declared.fault.WireFault.{WireFault}
use Rattle.of10_action.specs.Reading.{head_at}
use Rattle.of10_ctl.specs.Numbers.{with_number}
use Rattle.flowspace.specs.Swaps.{Pairs, swapped}

-- the number that is written for a port: it has two bytes, as each port number has (section 5.2.1)
abbrev pub written : Pairs → ℕ → ℕ
written pairs port = swapped pairs port % 2 ^ 16

-- the port at a place is exchanged
abbrev pub turn_port : Pairs → ℕ → List ℕ → List ℕ
turn_port pairs at bytes = with_number at (written pairs (number_at bytes at 2)) bytes

-- the in_port of the match at a place, where the lowest bit of its word doesn't free it
abbrev pub turn_match : Pairs → ℕ → List ℕ → List ℕ
turn_match pairs at bytes = if bit (number_at bytes at 4) 0 then bytes else turn_port pairs (at + 4) bytes

-- ---- actions

-- of the twelve kinds OUTPUT and ENQUEUE name a port
abbrev pub names_port : ℕ → Bool
names_port kind = kind == 0 || kind == 11

-- the bytes of one action of a kind
abbrev pub turn_action : Pairs → ℕ → List ℕ → List ℕ
turn_action pairs kind own = if names_port kind then turn_port pairs 4 own else own

-- the bytes of the first action by its kind and its length, and all bytes where there is none
abbrev pub turn_first : Pairs → Result (ℕ × ℕ) WireFault → List ℕ → List ℕ
turn_first pairs (Err fault) bytes = bytes
turn_first pairs (Ok head) bytes = turn_action pairs head.0 (take head.1 bytes)

-- the bytes behind it
abbrev pub behind_first : Result (ℕ × ℕ) WireFault → List ℕ → List ℕ
behind_first (Err fault) bytes = []
behind_first (Ok head) bytes = drop head.1 bytes

-- those of actions that stand one behind another, at most as many as the count
unfoldable pub turn_actions : Pairs → ℕ → List ℕ → List ℕ
turn_actions pairs zero bytes = bytes
turn_actions pairs (suc n) bytes = turn_first pairs (head_at bytes) bytes ++ turn_actions pairs n (behind_first (head_at bytes) bytes)

-- a list of actions
abbrev pub turn_list : Pairs → List ℕ → List ℕ
turn_list pairs bytes = turn_actions pairs (length bytes) bytes

-- ---- messages

-- a flow-mod: its match at 8, its out_port at 68, and its actions behind 72 bytes
abbrev pub turn_flow_mod : Pairs → List ℕ → List ℕ
turn_flow_mod pairs bytes = turn_port pairs 68 (turn_match pairs 8 (take 72 bytes)) ++ turn_list pairs (drop 72 bytes)

-- the actions of a packet-out, and the packet behind them
abbrev pub turn_behind : Pairs → ℕ → List ℕ → List ℕ
turn_behind pairs size bytes = turn_list pairs (take size bytes) ++ drop size bytes

-- a packet-out: its in_port at 12, and its actions behind 16 bytes
abbrev pub turn_packet_out : Pairs → List ℕ → List ℕ
turn_packet_out pairs bytes = turn_port pairs 12 (take 16 bytes) ++ turn_behind pairs (number_at bytes 14 2) (drop 16 bytes)
