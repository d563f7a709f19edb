use Rattle.std.proofs.Common.{◌≡◌, subst, inr}
use Rattle.fv_base.specs.Words.{form_of}
use Rattle.std.specs.Prelude.{map, string_bytes}
use Rattle.fv_cli.specs.declared.ending.Ending.TheVariants.{NoMemory}
use Rattle.flowvisor.specs.Asked.{Suits}
use Rattle.flowvisor.proofs.Endings.{memory_suits}
use Rattle.flowvisor.proofs.run.answer.Goals as goal

pub returns-in_default-all-clause-ended : goal.returns-in_default-all-clause-ended
returns-in_default-all-clause-ended g c serves = record {
  ending = NoMemory;
  suits = subst (λ t. Suits t (form_of (map string_bytes c.args.words.now)) NoMemory) c.in_default.ensures (memory_suits _);
  answer = c.end.ensures.status;
  line = c.end.ensures.line;
}

pub returns-in_default-all-clause-served : goal.returns-in_default-all-clause-served
returns-in_default-all-clause-served g c serves = inr (c.end.ensures.status, c.end.ensures.line)
