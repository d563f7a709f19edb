use Rattle.std.proofs.Common.{refl}
use Rattle.desk_words.specs.declared.event.Event.TheVariants.{SwitchDown}
use Rattle.proxy_core.proofs.Events.{fresh_idle, ended}
use Rattle.proxy_core.proofs.Switched.{not_fresh}
use Rattle.proxy_core.proofs.desk.Desk.lose_switch.Goals as goal

pub returns-in-Fresh-clause-acts : goal.returns-in-Fresh-clause-acts
returns-in-Fresh-clause-acts c moment = fresh_idle c.args.self.now SwitchDown moment c.in-Fresh.is refl

pub returns-in-Begun : goal.returns-in-Begun
returns-in-Begun c = record {
  acts = λ moment. ended c.args.self.now c.end.new.self moment c.end.ensures.ended (not_fresh c.args.self.now.phase c.in-Begun.is);
  events = c.end.ensures.events;
}
