-- The ports of a switch that are known, by its FEATURES_REPLY and by its PORT_STATUS messages (OpenFlow 1.0.0, sections 5.3.1 and 5.4.3). What is kept of them is this proxy's own rule.
-- A port is its 48 bytes. Known ports stand in ascending order of their numbers, no number twice.
use Rattle.std.specs.Prelude.{ℕ, ◌<◌, ◌==◌, ◌&&◌, ◌||◌, nat_lt, nat_le, not, Bool, if◌then◌else◌, List, [], ◌∷◌, ◌++◌, length, filter, fold, find, AllPairs, Option, true, false}
use Rattle.std.specs.List.{list_any}
use Rattle.of10_port.specs.Ports.{port_number}
use Rattle.of10_port.specs.declared.features.Features.{Features}
use Rattle.of10_port.specs.declared.status.PortStatus.{PortStatus}
use Rattle.flowspace.specs.Owners.{is_in_port}
use Rattle.port_view.specs.declared.status_answers.Kept.{Kept as Answer}
use Rattle.port_view.specs.declared.status_answers.Kept.TheVariants.{Kept, Ignored, TooManyPorts}

-- a port has a number
abbrev pub is_of_number : ℕ → List ℕ → Bool
is_of_number number port = port_number port == number

-- the numbers ascend, none twice
unfoldable pub IsAscending : List (List ℕ) → Type 0
IsAscending known = AllPairs (λ port later. port_number port < port_number later) known

-- some known port has the number
abbrev pub is_known : ℕ → List (List ℕ) → Bool
is_known number known = list_any (is_of_number number) known

-- the known port of a number, if there is one
abbrev pub port_of : ℕ → List (List ℕ) → Option (List ℕ)
port_of number known = find (is_of_number number) known

-- the ports before a number
abbrev pub ports_below : ℕ → List (List ℕ) → List (List ℕ)
ports_below number known = filter (λ port. nat_lt (port_number port) number) known

-- the ports behind a number
abbrev pub ports_above : ℕ → List (List ℕ) → List (List ℕ)
ports_above number known = filter (λ port. nat_lt number (port_number port)) known

-- a port at its place, instead of one of the same number
unfoldable pub with_port : List ℕ → List (List ℕ) → List (List ℕ)
with_port port known = ports_below (port_number port) known ++ port ∷ ports_above (port_number port) known

-- no port of the number
unfoldable pub without_port : ℕ → List (List ℕ) → List (List ℕ)
without_port number known = filter (λ port. not (is_of_number number port)) known

-- a port that is reported; one whose number can't be known is passed over
abbrev pub with_told : List (List ℕ) → List ℕ → List (List ℕ)
with_told known port = if is_in_port (port_number port) then with_port port known else known

-- what is known by these ports of a FEATURES_REPLY: a later one takes the place of an earlier one of its number
unfoldable pub first_known : List (List ℕ) → List (List ℕ)
first_known ports = fold with_told [] ports

-- a status says nothing of the known ports: its number can't be known, its reason isn't one of the three, or it deletes a port that isn't known (section 5.4.3)
abbrev pub is_ignored : PortStatus → List (List ℕ) → Bool
is_ignored status known =
    not (is_in_port (port_number status.port)) || nat_lt 2 status.reason || (status.reason == 1 && not (is_known (port_number status.port) known))

-- a port more than the 1,364 that fit a FEATURES_REPLY
abbrev pub is_too_many : PortStatus → List (List ℕ) → Bool
is_too_many status known = not (is_known (port_number status.port) known) && nat_le 1364 (length known)

-- whether a status is kept
unfoldable pub kept_of : PortStatus → List (List ℕ) → Answer
kept_of status known = if is_ignored status known then Ignored else if is_too_many status known then TooManyPorts else Kept

-- whether an answer says that the status is kept
abbrev pub says_kept : Answer → Bool
says_kept Kept = true
says_kept Ignored = false
says_kept TooManyPorts = false

-- a status is kept beside the ports that are known
abbrev pub is_kept : PortStatus → List (List ℕ) → Bool
is_kept status known = says_kept (kept_of status known)

-- what a kept status makes of the known ports: reason 1 deletes, the others add or modify (section 5.4.3)
unfoldable pub changed_plainly : PortStatus → List (List ℕ) → List (List ℕ)
changed_plainly status known = if status.reason == 1 then without_port (port_number status.port) known else with_port status.port known

-- what any status makes of them
unfoldable pub changed : PortStatus → List (List ℕ) → List (List ℕ)
changed status known = elim (kept_of status known) [
  | Kept ↦ changed_plainly status known
  | Ignored ↦ known
  | TooManyPorts ↦ known
]

-- the ports that are known after a FEATURES_REPLY and the statuses that came since, the newest first
unfoldable pub known_of : Features → List PortStatus → List (List ℕ)
known_of features [] = first_known features.ports
known_of features (status ∷ earlier) = changed status (known_of features earlier)
