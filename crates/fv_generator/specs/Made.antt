-- The recording that is made of a seed and a count (this proxy's own rule).
use Rattle.std.specs.Prelude.{ℕ, zero, suc, ◌+◌, ltb, if◌then◌else◌, List, [], ◌∷◌, ◌++◌, ◌≡◌}
use Rattle.of10_port.specs.declared.features.Features.{Features}
use Rattle.of10_port.specs.declared.protocol.TheConstants.{LOCAL}
use Rattle.of10_port.specs.Features.{spell_features}
use Rattle.of10_port.specs.Ports.{bare_port}
use Rattle.recording.specs.Recordings.{Told, switch_up, switch_bytes, slice_up, slice_bytes, record_bytes, recording}
use Rattle.fv_generator.specs.Drawing.{Drawing, draw, drawn_none, ◌>>=◌}
use Rattle.fv_generator.specs.Messages.{drawn_packet_in, drawn_request}

-- ---- records, all of the switch 0

-- the switch connects
abbrev pub switch_comes : Told
switch_comes = record { kind = switch_up; switch = 0; slot = 0; moment = 0; bytes = [] }

-- a slice's controller connects
abbrev pub slice_comes : ℕ → Told
slice_comes slot = record { kind = slice_up; switch = 0; slot = slot; moment = 0; bytes = [] }

-- a message of the switch
abbrev pub by_switch : ℕ → List ℕ → Told
by_switch moment message = record { kind = switch_bytes; switch = 0; slot = 0; moment = moment; bytes = message }

-- a message of a slice
abbrev pub by_slice : ℕ → ℕ → List ℕ → Told
by_slice moment slot message = record { kind = slice_bytes; switch = 0; slot = slot; moment = moment; bytes = message }

-- ---- how a recording begins

-- the switch a1 with the ports 1 to 3 and its own, 256 buffers and all actions of the standard
abbrev pub the_switch : Features
the_switch = record { datapath = 0xa1; buffers = 256; tables = 1; capabilities = 0; actions = 0xfff; ports = bare_port 1 ∷ bare_port 2 ∷ bare_port 3 ∷ bare_port LOCAL ∷ [] }

-- what the switch says of itself when the proxy asks
unfoldable pub features_message : List ℕ
features_message = spell_features the_switch 0xff000001

-- the switch connects and says what it is, then both slices connect
abbrev pub opening : List Told
opening = switch_comes ∷ by_switch 0 features_message ∷ slice_comes 0 ∷ slice_comes 1 ∷ []

-- ---- rounds

-- a packet-in in a round
abbrev pub packet_round : ℕ → Drawing Told
packet_round number = do
  message ← drawn_packet_in
  drawn_none (by_switch number message)

-- a slice's message of a kind in a round: first the slice is drawn
abbrev pub slice_round : ℕ → ℕ → Drawing Told
slice_round kind number = do
  slot ← draw 2
  message ← drawn_request kind number
  drawn_none (by_slice number slot message)

-- a round of a kind
abbrev pub round_of : ℕ → ℕ → Drawing Told
round_of kind number = if ltb kind 4 then packet_round number else slice_round kind number

-- the record that a round makes, with its number as the timestamp: of eight kinds four are packet-ins, two flow-mods, one packet-outs and one barriers
unfoldable pub drawn_round : ℕ → Drawing Told
drawn_round number = do
  kind ← draw 8
  round_of kind number

-- the records of so many rounds, from one with this number and this state on
unfoldable pub rounds : ℕ → ℕ → ℕ → List Told
rounds zero number x = []
rounds (suc n) number x = (drawn_round number x).0 ∷ rounds n (number + 1) (drawn_round number x).1

-- ---- the recording

-- all records of a seed and a count of rounds
abbrev pub records_of : ℕ → ℕ → List Told
records_of seed count = opening ++ rounds count 0 seed

-- the file that spells them
abbrev pub recording_of : ℕ → ℕ → List ℕ
recording_of seed count = recording (records_of seed count)

-- to a file the record is appended that is drawn from a state
abbrev pub Appends : Drawing Told → ℕ → ℕ → List ℕ → List ℕ → Type 0
Appends drawing before after old new = (new ≡ old ++ record_bytes (drawing before).0) × (after ≡ (drawing before).1)
