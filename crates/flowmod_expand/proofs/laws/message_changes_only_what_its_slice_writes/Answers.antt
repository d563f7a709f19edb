use Rattle.flowmod_expand.specs.Pieces.{writes_of}
use Rattle.flowmod_expand.proofs.Outsiders.{each_message, no_match, no_rule}
use Rattle.flowmod_expand.proofs.laws.message_changes_only_what_its_slice_writes.Goals as goal

pub returns : goal.returns
returns c = record {
  matches = λ given h outside m xid lists buffer. each_message given h outside m xid lists buffer;
  rules = λ rules slot h outside m xid lists buffer. each_message (writes_of rules slot) h (no_match rules slot h outside) m xid lists buffer;
  policy = λ slices rules policy slot h range outside m xid lists buffer. each_message (writes_of rules slot) h (no_match rules slot h (no_rule slices rules policy slot h range outside)) m xid lists buffer;
}
