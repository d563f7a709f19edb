-- The head of a message by its bytes (OpenFlow 1.0.0, section 5.1).
use Rattle.std.specs.Prelude.{ℕ, ◌==◌, Bool, List}
use Rattle.of10_ctl.specs.Heads.{head_of}

-- the version of OpenFlow that the sender speaks
abbrev pub version_of : List ℕ → ℕ
version_of message = (head_of message).version

-- the type of a message
abbrev pub message_kind : List ℕ → ℕ
message_kind message = (head_of message).kind

-- the transaction id, which an answer repeats
abbrev pub xid_of : List ℕ → ℕ
xid_of message = (head_of message).xid

-- a message of a type
abbrev pub is_kind : ℕ → List ℕ → Bool
is_kind kind message = message_kind message == kind
