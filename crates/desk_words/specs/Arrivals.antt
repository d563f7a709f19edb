-- Packets that a switch hands up in a history, and the numbers by which it keeps them (OpenFlow 1.0.0, section 5.4.1).
use Rattle.std.specs.Prelude.{ℕ, ◌≡◌, List, [], ◌∷◌, find, Option, Some, None, option_map}
use Rattle.of10_model.specs.Header.{Header}
use Rattle.of10_model.specs.Normal.{is_value}
use Rattle.of10_flow.specs.declared.packet_in.PacketIn.{PacketIn}
use Rattle.desk_words.specs.declared.event.Timed.{Timed}
use Rattle.desk_words.specs.Openings.{phase_of}
use Rattle.desk_words.specs.Histories.{header_in, number_given, packet_handed}

-- a packet-in that came after the opening: its event, the history before that, and what it says
pub record Arrival : Type 0 where
  pub before : List Timed
  pub timed : Timed
  pub packet : PacketIn

-- the packet-ins of a history, newest first
abbrev pub arrivals : List Timed → List Arrival
arrivals [] = []
arrivals (timed ∷ h) =
    elim (packet_handed (phase_of h) timed.event) [ None ↦ arrivals h | Some packet ↦ record { before = h; timed = timed; packet = packet } ∷ arrivals h ]

-- the last of them that has a number (section 5.4.1)
abbrev pub arrival_under : ℕ → List Timed → Option Arrival
arrival_under number h = find (λ arrival. is_value number (number_given arrival.packet)) (arrivals h)

-- the header of the packet that the switch keeps under a number
abbrev pub buffer_header : List Timed → ℕ → Option Header
buffer_header h number = option_map (λ arrival. header_in arrival.packet) (arrival_under number h)

-- a header is that one
abbrev pub IsBufferHeader : List Timed → ℕ → Header → Type 0
IsBufferHeader h number header = buffer_header h number ≡ Some header
