-- A text and its table.
use Rattle.std.proofs.Common.{◌≡◌, Bool, true, false, cond, List, ℕ, Some, None, IsUtf8, refl}
use Rattle.std.specs.Str.{is_utf8}
use Rattle.std.proofs.lemmas.Str.{is_utf8-from_IsUtf8, IsUtf8-from_is_utf8}
use Rattle.toml.specs.Data.{Members}
use Rattle.toml.specs.Parse.{parse_document}
use Rattle.policy_text.specs.Documents.{document_of}

pub said : (bytes : List ℕ) (ms : Members) → IsUtf8 bytes → parse_document bytes ≡ Some ms → document_of bytes ≡ Some ms
said bytes ms text read = rw (is_utf8-from_IsUtf8 bytes text, read) refl

unsaid_at : (bytes : List ℕ) (b : Bool) → is_utf8 bytes ≡ b → (IsUtf8 bytes → parse_document bytes ≡ None) → cond b (parse_document bytes) None ≡ None
unsaid_at bytes false e none = refl
unsaid_at bytes true e none = none (IsUtf8-from_is_utf8 bytes e)

pub unsaid : (bytes : List ℕ) → (IsUtf8 bytes → parse_document bytes ≡ None) → document_of bytes ≡ None
unsaid bytes none = unsaid_at bytes (is_utf8 bytes) refl none
