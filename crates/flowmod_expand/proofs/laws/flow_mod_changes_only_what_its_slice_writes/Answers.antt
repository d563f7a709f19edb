use Rattle.flowmod_expand.specs.Pieces.{writes_of}
use Rattle.flowmod_expand.proofs.Outsiders.{all_messages, no_match, no_rule}
use Rattle.flowmod_expand.proofs.laws.flow_mod_changes_only_what_its_slice_writes.Goals as goal

pub returns : goal.returns
returns c = record {
  matches = λ given h outside m xid lists buffer table. all_messages given h outside m xid lists buffer table;
  rules = λ rules slot h outside m xid lists buffer table. all_messages (writes_of rules slot) h (no_match rules slot h outside) m xid lists buffer table;
  policy = λ slices rules policy slot h range outside m xid lists buffer table. all_messages (writes_of rules slot) h (no_match rules slot h (no_rule slices rules policy slot h range outside)) m xid lists buffer table;
}
