use Rattle.policy_text.specs.Documents.{document_of}
use Rattle.policy_text.specs.Views.{parts_view}
use Rattle.policy_text.proofs.Sound.{document_sound}
use Rattle.policy_text.proofs.document.read_up_to.Goals as goal

pub loaded-requires : goal.loaded-requires
loaded-requires c = document_sound c.args.highest (document_of c.args.bytes.now) (parts_view c.in_ok-parts.parts) c.in_ok-parts.ensures.exact
