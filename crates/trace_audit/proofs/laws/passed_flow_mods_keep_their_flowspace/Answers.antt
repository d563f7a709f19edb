use Rattle.trace_audit.proofs.Passing.{flow_mod_passed}
use Rattle.trace_audit.proofs.laws.passed_flow_mods_keep_their_flowspace.Goals as goal

pub returns : goal.returns
returns c = λ slices rules policy held slot m e. flow_mod_passed slices rules policy held slot m e
