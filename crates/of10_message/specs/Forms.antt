-- How messages of a controller and of a switch are read alike, whatever the values are that stand for them (OpenFlow 1.0.0, sections 4.2 and 5.1; the order of what is looked at is this proxy's own rule).
use Rattle.std.specs.Prelude.{ℕ, ◌==◌, not, if◌then◌else◌, List, length, Result, Ok, Err}
use Rattle.of10_action.specs.declared.fault.WireFault.{WireFault}
use Rattle.of10_action.specs.declared.fault.WireFault.TheVariants.{Length}
use Rattle.of10_ctl.specs.declared.kind.TheConstants.{HELLO}
use Rattle.of10_ctl.specs.Frames.{is_bad}
use Rattle.of10_message.specs.declared.fault.Unread.{Unread}
use Rattle.of10_message.specs.declared.fault.Unread.TheVariants.{BadLength, NoCommonVersion, BadVersion, BadForm}
use Rattle.of10_message.specs.Heads.{version_of, is_kind}

-- a message that has so many bytes and no other number
abbrev pub sized : {M : Type 0} → ℕ → M → List ℕ → Result M Unread
sized size message bytes = if length bytes == size then Ok message else Err (BadForm (Length (length bytes)))

-- a message that is read by its own layout
abbrev pub formed : {A M : Type 0} → (A → M) → Result A WireFault → Result M Unread
formed message (Ok record_read) = Ok (message record_read)
formed message (Err fault) = Err (BadForm fault)

-- a HELLO of version 0 has no version in common with this proxy; any other means version 1 (section 4.2)
abbrev pub read_hello : {M : Type 0} → M → List ℕ → Result M Unread
read_hello hello bytes = if version_of bytes == 0 then Err NoCommonVersion else Ok hello

-- what a message says, or the first thing that is wrong with it: a length that doesn't count its header, no version in common, another version, or what is wrong by its type. A message of version 1 that is no HELLO is read by its type
abbrev pub read_as : {M : Type 0} → M → (List ℕ → Result M Unread) → List ℕ → Result M Unread
read_as hello by_type bytes =
    if is_bad bytes then Err BadLength
    else if is_kind HELLO bytes then read_hello hello bytes
    else if not (version_of bytes == 1) then Err BadVersion
    else by_type bytes
