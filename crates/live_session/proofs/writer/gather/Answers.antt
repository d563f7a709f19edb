use Rattle.std.proofs.Common.{◌++◌, [], ◌∷◌, ap, refl, ◌∙◌, subst}
use Rattle.desk_words.specs.declared.taken.Taken.TheVariants as taken
use Rattle.live_desk.specs.declared.object.DeskOp.TheVariants.{Take}
use Rattle.live_desk.specs.declared.object.DeskReply.TheVariants.{Took}
use Rattle.live_session.specs.declared.ends.WriterEnd.TheVariants.{Choked, Ended}
use Rattle.live_session.specs.declared.writer.Pause.TheVariants.{Hand, Nothing, Over}
use Rattle.live_session.specs.Takings.{TookOne}
use Rattle.live_session.proofs.Wanting.{gathers_one, buffer_more, taking_more}
use Rattle.live_session.proofs.writer.gather.Goals as goal

pub returns-then-not-append-clause-gathered : goal.returns-then-not-append-clause-gathered
returns-then-not-append-clause-gathered g c =
    let v = c.args.seat.now.seat.me.0 in
    let w = c.loop.seat.seat.me.0 in
    let u = c.take.new.seat.seat.me.0 in
    let h = c.loop.invariant.gathered in
    let took = subst (λ t. TookOne c.args.dest w c.loop.seat.left t u c.take.new.seat.left) c.in-Ok-Message.field-0-is c.in-Ok-Message.ensures.took in
    gathers_one c.args.dest v w u c.args.seat.now.left c.loop.seat.left c.take.new.seat.left c.args.buffer.now.items c.loop.buffer.items c.append.new.buffer.items (Hand c.in-Ok-Message.frame) h.0 (taken.Message c.in-Ok-Message.frame) h.1 h.2 took (ap (λ b. b ++ c.in-Ok-Message.frame) c.if-not-append.ensures) tt

pub returns-in-Ok-Choked-clause-gathered : goal.returns-in-Ok-Choked-clause-gathered
returns-in-Ok-Choked-clause-gathered g c =
    let v = c.args.seat.now.seat.me.0 in
    let w = c.loop.seat.seat.me.0 in
    let u = c.take.new.seat.seat.me.0 in
    let h = c.loop.invariant.gathered in
    let took = subst (λ t. TookOne c.args.dest w c.loop.seat.left t u c.take.new.seat.left) c.in-Ok-Choked.field-0-is c.in-Ok-Choked.ensures.took in
    gathers_one c.args.dest v w u c.args.seat.now.left c.loop.seat.left c.take.new.seat.left c.args.buffer.now.items c.loop.buffer.items c.loop.buffer.items (Over Choked) h.0 taken.Choked h.1 h.2 took refl (h.0, Take c.args.dest, refl)

pub returns-in-Ok-Ended-clause-gathered : goal.returns-in-Ok-Ended-clause-gathered
returns-in-Ok-Ended-clause-gathered g c =
    let v = c.args.seat.now.seat.me.0 in
    let w = c.loop.seat.seat.me.0 in
    let u = c.take.new.seat.seat.me.0 in
    let h = c.loop.invariant.gathered in
    let took = subst (λ t. TookOne c.args.dest w c.loop.seat.left t u c.take.new.seat.left) c.in-Ok-Ended.field-0-is c.in-Ok-Ended.ensures.took in
    gathers_one c.args.dest v w u c.args.seat.now.left c.loop.seat.left c.take.new.seat.left c.args.buffer.now.items c.loop.buffer.items c.loop.buffer.items (Over Ended) h.0 taken.Ended h.1 h.2 took refl (h.0, Take c.args.dest, refl)

pub returns-in-Ok-Nothing-clause-gathered : goal.returns-in-Ok-Nothing-clause-gathered
returns-in-Ok-Nothing-clause-gathered g c =
    let v = c.args.seat.now.seat.me.0 in
    let w = c.loop.seat.seat.me.0 in
    let u = c.take.new.seat.seat.me.0 in
    let h = c.loop.invariant.gathered in
    let took = subst (λ t. TookOne c.args.dest w c.loop.seat.left t u c.take.new.seat.left) c.in-Ok-Nothing.field-0-is c.in-Ok-Nothing.ensures.took in
    gathers_one c.args.dest v w u c.args.seat.now.left c.loop.seat.left c.take.new.seat.left c.args.buffer.now.items c.loop.buffer.items c.loop.buffer.items Nothing h.0 taken.Nothing h.1 h.2 took refl tt

pub returns-in-Ok-NotOpen-clause-gathered : goal.returns-in-Ok-NotOpen-clause-gathered
returns-in-Ok-NotOpen-clause-gathered g c =
    let v = c.args.seat.now.seat.me.0 in
    let w = c.loop.seat.seat.me.0 in
    let u = c.take.new.seat.seat.me.0 in
    let h = c.loop.invariant.gathered in
    let took = subst (λ t. TookOne c.args.dest w c.loop.seat.left t u c.take.new.seat.left) c.in-Ok-NotOpen.field-0-is c.in-Ok-NotOpen.ensures.took in
    gathers_one c.args.dest v w u c.args.seat.now.left c.loop.seat.left c.take.new.seat.left c.args.buffer.now.items c.loop.buffer.items c.loop.buffer.items Nothing h.0 taken.NotOpen h.1 h.2 took refl tt

pub loop-preserved : goal.loop-preserved
loop-preserved g c =
    let v = c.args.seat.now.seat.me.0 in
    let w = c.loop.seat.seat.me.0 in
    let u = c.take.new.seat.seat.me.0 in
    let h = c.loop.invariant.gathered in
    let frame = c.in-Ok-Message.frame in
    let took = subst (λ t. TookOne c.args.dest w c.loop.seat.left t u c.take.new.seat.left) c.in-Ok-Message.field-0-is c.in-Ok-Message.ensures.took in
    record {
      desk = c.in-Ok-Message.ensures.desk ∙ c.loop.invariant.desk;
      gathered = (
        h.0 ++ record { op = Take c.args.dest; reply = Took (taken.Message frame) } ∷ [],
        taking_more c.args.dest v w u c.args.seat.now.left c.loop.seat.left c.take.new.seat.left h.0 (record { op = Take c.args.dest; reply = Took (taken.Message frame) } ∷ []) h.1 took,
        buffer_more c.args.dest c.args.buffer.now.items c.loop.buffer.items c.append.new.buffer.items h.0 frame (taken.Message frame) h.2 (c.if-not-append.ensures ∙ ap (λ f. c.loop.buffer.items ++ f) c.as_slice.ensures.value) refl,
      );
    }
