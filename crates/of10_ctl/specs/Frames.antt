-- Frames: the pieces that a stream of messages is cut into, and the messages that this proxy makes.
use Rattle.std.specs.Prelude.{◌≡◌, ℕ, ◌+◌, ◌≤◌, nat_lt, Bool, if◌then◌else◌, List, ◌++◌, length, take}
use Rattle.byteorder.specs.Endian.{big_bytes}
use Rattle.of10_ctl.specs.declared.kind.TheConstants.{ERROR, ECHO_REPLY}
use Rattle.of10_ctl.specs.Heads.{length_field, head_bytes}

-- a length field that doesn't even count the header (OpenFlow 1.0.0, section 5.1)
abbrev pub is_bad : List ℕ → Bool
is_bad bytes = nat_lt (length_field bytes) 8

-- how many bytes a frame has: as its length field says (OpenFlow 1.0.0, section 5.1), or the header's 8 (this proxy's own rule)
abbrev pub told_size : List ℕ → ℕ
told_size bytes = if is_bad bytes then 8 else length_field bytes

-- a frame: a header at least, and as many bytes as it has
pub record IsFrame (bytes : List ℕ) : Type 0 where
  pub header : 8 ≤ length bytes
  pub small : length bytes ≤ 65535
  pub sized : length bytes ≡ told_size bytes

-- a message of version 1: its header and its body (OpenFlow 1.0.0, section 5.1)
abbrev pub message_of : ℕ → ℕ → List ℕ → List ℕ
message_of kind xid body = head_bytes kind (8 + length body) xid ++ body

-- an error message (OpenFlow 1.0.0, section 5.4.4), which carries the first 64 bytes of the message at fault, or all of a shorter one: the standard asks for at least 64, exactly 64 is this proxy's own rule
abbrev pub error_of : ℕ → ℕ → ℕ → List ℕ → List ℕ
error_of xid class code cause = message_of ERROR xid (big_bytes 2 class ++ (big_bytes 2 code ++ take 64 cause))

-- the reply to an echo (OpenFlow 1.0.0, section 5.5): its transaction and its body
abbrev pub echo_reply_to : ℕ → List ℕ → List ℕ
echo_reply_to xid body = message_of ECHO_REPLY xid body
