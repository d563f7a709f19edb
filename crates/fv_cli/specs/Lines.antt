-- The texts that the program puts on its streams, and the pieces that they are put in (this proxy's own rule).
use Rattle.std.specs.Prelude.{ℕ, List, [], ◌∷◌, ◌++◌, length, codes, decimal}
use Rattle.flowspace.specs.declared.fault.What.{What}
use Rattle.flowspace.specs.declared.fault.What.TheVariants as what
use Rattle.flowspace.specs.declared.fault.Field.{Field}
use Rattle.flowspace.specs.declared.fault.PolicyFault.{PolicyFault}
use Rattle.flowspace.specs.declared.fault.PolicyFault.TheVariants as refusal
use Rattle.flowspace.specs.Policies.{PolicyView}
use Rattle.policy_text.specs.declared.fault.ReadFault.{ReadFault}
use Rattle.policy_text.specs.declared.fault.ReadFault.TheVariants as reading
use Rattle.policy_text.specs.Places.{field_key, key_path_text}
use Rattle.recording.specs.declared.fault.RecordingFault.{RecordingFault}
use Rattle.recording.specs.declared.fault.RecordingFault.TheVariants as recording
use Rattle.nested_slices.specs.declared.fault.NestFault.{NestFault}
use Rattle.nested_slices.specs.declared.fault.NestFault.TheVariants as nest
use Rattle.fv_cli.specs.declared.lines.Piece.{Piece}
use Rattle.fv_cli.specs.declared.lines.Piece.TheVariants.{Text, Number}

-- ---- pieces

-- a number is put in decimal
abbrev pub piece_text : Piece → List ℕ
piece_text (Text text) = text.now
piece_text (Number n) = decimal n

-- all pieces, one behind the other
abbrev pub whole_text : List Piece → List ℕ
whole_text [] = []
whole_text (piece ∷ rest) = piece_text piece ++ whole_text rest

-- ---- why a policy is refused

abbrev pub what_text : What → List ℕ
what_text what.Slices = codes "slices"
what_text what.Rules = codes "rules"
what_text what.Writes = codes "write rules"
what_text what.Swaps = codes "ports"

abbrev pub improper_text : ℕ → Field → List ℕ
improper_text rule field = codes "rule " ++ decimal rule ++ codes " improper " ++ field_key field

abbrev pub refusal_text : PolicyFault → List ℕ
refusal_text (refusal.TooMany what count) = codes "too many " ++ what_text what ++ codes " " ++ decimal count
refusal_text (refusal.DuplicateSlice slice) = codes "slice " ++ decimal slice ++ codes " is a duplicate"
refusal_text (refusal.UnknownSlice rule) = codes "rule " ++ decimal rule ++ codes " names no slice"
refusal_text (refusal.Improper rule field) = improper_text rule field
refusal_text (refusal.Overlap first second) = codes "rules " ++ decimal first ++ codes " and " ++ decimal second ++ codes " overlap"
refusal_text (refusal.UnknownPortSlice port) = codes "port " ++ decimal port ++ codes " names no slice"
refusal_text (refusal.PortTwice port) = codes "port " ++ decimal port ++ codes " is named twice"
refusal_text refusal.Memory = codes "no memory"

abbrev pub reading_text : ReadFault → List ℕ
reading_text reading.NotToml = codes "not TOML"
reading_text (reading.Missing at) = codes "missing " ++ key_path_text at
reading_text (reading.BadValue at) = codes "bad value " ++ key_path_text at
reading_text (reading.UnknownKey at) = codes "unknown key " ++ key_path_text at
reading_text (reading.Improper rule field) = improper_text rule field
reading_text (reading.Refused fault) = refusal_text fault
reading_text reading.Memory = codes "no memory"

-- ---- the lines

-- the line of a policy that is refused
abbrev pub policy_line : ReadFault → List ℕ
policy_line fault = codes "policy: " ++ reading_text fault ++ codes "\n"

-- the line of a recording that is refused
abbrev pub recording_line : RecordingFault → List ℕ
recording_line (recording.Torn at) = codes "recording: torn record at " ++ decimal at ++ codes "\n"
recording_line (recording.Bad at) = codes "recording: bad record at " ++ decimal at ++ codes "\n"
recording_line (recording.NotOpen at) = codes "recording: not open at " ++ decimal at ++ codes "\n"
recording_line recording.Memory = codes "no memory\n"

-- the line of a division that is refused: a place and sums are the inner policy's, and a fault of the flat policy has its own line
abbrev pub nest_line : NestFault → List ℕ
nest_line nest.Swaps = codes "nest: ports\n"
nest_line (nest.Reader rule) = codes "nest: rule " ++ decimal rule ++ codes " has no writer\n"
nest_line (nest.Rate sum) = codes "nest: rate " ++ decimal sum ++ codes "\n"
nest_line (nest.Burst sum) = codes "nest: burst " ++ decimal sum ++ codes "\n"
nest_line (nest.Quota sum) = codes "nest: quota " ++ decimal sum ++ codes "\n"
nest_line (nest.Refused fault) = codes "policy: " ++ refusal_text fault ++ codes "\n"
nest_line nest.Memory = codes "no memory\n"

-- what is said of an accepted policy: how many slices and how many rules it has
abbrev pub accepted_line : PolicyView → List ℕ
accepted_line p = codes "ok " ++ decimal (length p.slices) ++ codes " " ++ decimal (length p.rules) ++ codes "\n"
