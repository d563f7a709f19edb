-- What was reported last of a port. This is this proxy's own rule.
use Rattle.std.specs.Prelude.{ℕ, ◌==◌, if◌then◌else◌, List, [], ◌∷◌, find, reverse, Option, Some, None}
use Rattle.std.specs.Option.{option_map_or}
use Rattle.of10_port.specs.declared.features.Features.{Features}
use Rattle.of10_port.specs.declared.status.PortStatus.{PortStatus}
use Rattle.flowspace.specs.Owners.{is_in_port}
use Rattle.port_view.specs.KnownPorts.{is_of_number, is_kept, known_of}

-- of statuses, the newest first, those that were kept
unfoldable pub kept_statuses : Features → List PortStatus → List PortStatus
kept_statuses features [] = []
kept_statuses features (status ∷ earlier) = if is_kept status (known_of features earlier) then status ∷ kept_statuses features earlier else kept_statuses features earlier

-- the port of a number that a FEATURES_REPLY reports last
abbrev pub told_first : ℕ → List (List ℕ) → Option (List ℕ)
told_first number ports = if is_in_port number then find (is_of_number number) (reverse ports) else None

-- the port that a kept status reports, none where it deletes it
abbrev pub port_it_tells : PortStatus → Option (List ℕ)
port_it_tells status = if status.reason == 1 then None else Some status.port

-- the port of a number as it was reported last: by the newest kept status of that number, else by the FEATURES_REPLY
unfoldable pub told_last : ℕ → Features → List PortStatus → Option (List ℕ)
told_last number features statuses =
    option_map_or port_it_tells (find (λ status. is_of_number number status.port) (kept_statuses features statuses)) (told_first number features.ports)
