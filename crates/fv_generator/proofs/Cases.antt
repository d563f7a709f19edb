-- What can be in a round.
use Rattle.std.proofs.Common.{ℕ, ◌<◌, ◌≤◌, Bool, true, false, if◌then◌else◌, List, length, arith}
use Rattle.recording.specs.Recordings.{Told}
use Rattle.fv_generator.specs.Drawing.{draw, next_state}
use Rattle.fv_generator.specs.Made.{by_switch, by_slice, packet_round, slice_round, drawn_round}
use Rattle.fv_generator.specs.Messages.{drawn_packet_in, drawn_request}
use Rattle.fv_generator.proofs.Sizes.{packet_in_size, request_size}

-- one of the two slices is drawn
drawn_slot : (state : ℕ) → (draw 2 state).0 < 2
drawn_slot state = omega arith

of_kind : (P : Told → Type 0) (number : ℕ) → ((message : List ℕ) → length message ≤ 80 → P (by_switch number message))
    → ((slot : ℕ) (message : List ℕ) → slot < 2 → length message ≤ 80 → P (by_slice number slot message))
    → (is_packet : Bool) (kind state : ℕ) → P ((if is_packet then packet_round number else slice_round kind number) state).0
of_kind P number packet request true kind state = packet (drawn_packet_in state).0 (rw (packet_in_size state) (omega arith))
of_kind P number packet request false kind state = request (draw 2 state).0 (drawn_request kind number (next_state state)).0 (drawn_slot state) (request_size kind number (next_state state))

-- what holds of a message of the switch and of one of each slice, none long, holds of a round
pub of_round : (P : Told → Type 0) (number : ℕ) → ((message : List ℕ) → length message ≤ 80 → P (by_switch number message))
    → ((slot : ℕ) (message : List ℕ) → slot < 2 → length message ≤ 80 → P (by_slice number slot message))
    → (state : ℕ) → P (drawn_round number state).0
unfolding drawn_round
of_round P number packet request state = of_kind P number packet request _ (draw 8 state).0 (next_state state)
