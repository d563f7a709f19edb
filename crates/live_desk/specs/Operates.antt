-- What a desk answers in one turn. This proxy's own rules.
use Rattle.proxy_core.specs.Desks.{Steps, Takes}
use Rattle.live_desk.specs.declared.object.DeskObject.{DeskObject}
use Rattle.live_desk.specs.declared.object.DeskOp.{DeskOp}
use Rattle.live_desk.specs.declared.object.DeskOp.TheVariants.{Step, Take}
use Rattle.live_desk.specs.declared.object.DeskReply.{DeskReply}
use Rattle.live_desk.specs.declared.object.DeskReply.TheVariants.{Stepped, Took}

-- one step, or one take, whatever policy and operations the desk stands for
abbrev pub Operates : DeskObject → DeskOp → DeskReply → DeskObject → Type 0
Operates old (Step timed) (Stepped reply) new = Steps old.desk timed reply new.desk
Operates old (Take dest) (Took taken) new = Takes old.desk dest taken new.desk
Operates old (Step timed) (Took taken) new = ⊥
Operates old (Take dest) (Stepped reply) new = ⊥
