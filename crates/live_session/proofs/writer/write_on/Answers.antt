use Rattle.std.proofs.Common.{◌++◌, [], refl, ◌∙◌}
use Rattle.fv_base.proofs.Appending.{appended_none}
use Rattle.live_session.specs.Takings.{in_hand}
use Rattle.live_session.proofs.Wanting.{taking_none, taking_more, put_more, gathered_all, written_fault, written_over}
use Rattle.live_session.proofs.writer.write_on.Goals as goal

pub loop-init : goal.loop-init
loop-init g c = record {
  can = tt;
  ends = tt;
  desk = refl;
  empty = c.requires.empty;
  calm = refl;
  wrote = ([], taking_none c.args.dest c.args.seat.now.seat.me.0 c.args.seat.now.left, appended_none (g.K.Sink.contents c.args.sink.now));
}

pub returns-in_default-clause-written : goal.returns-in_default-clause-written
returns-in_default-clause-written g c =
    let h = c.loop.invariant.wrote in
    written_fault c.args.dest c.args.seat.now.seat.me.0 c.loop.seat.seat.me.0 c.gather-pause.new.seat.seat.me.0 c.args.seat.now.left c.loop.seat.left c.gather-pause.new.seat.left (g.K.Sink.contents c.args.sink.now) (g.K.Sink.contents c.loop.sink) (g.K.Sink.contents c.put_out.new.sink) c.loop.buffer.items c.gather-pause.new.buffer.items c.gather-pause.result h.0 h.1 h.2 c.loop.invariant.empty c.gather-pause.ensures.gathered c.in_default.ensures.part

pub returns-in-Over-clause-written : goal.returns-in-Over-clause-written
returns-in-Over-clause-written g c =
    let h = c.loop.invariant.wrote in
    written_over c.args.dest c.args.seat.now.seat.me.0 c.loop.seat.seat.me.0 c.gather-pause.new.seat.seat.me.0 c.args.seat.now.left c.loop.seat.left c.gather-pause.new.seat.left (g.K.Sink.contents c.args.sink.now) (g.K.Sink.contents c.loop.sink) (g.K.Sink.contents c.put_out.new.sink) c.loop.buffer.items c.gather-pause.new.buffer.items c.in-Over.end c.gather-pause.result h.0 c.in-Over.is h.1 h.2 c.loop.invariant.empty c.gather-pause.ensures.gathered c.in-Ok.ensures.all

pub loop-preserved : goal.loop-preserved
loop-preserved g c =
    let h = c.loop.invariant.wrote in
    let k = c.gather-pause.ensures.gathered in
    record {
      can = tt;
      ends = tt;
      desk = c.gather-pause.ensures.desk ∙ c.loop.invariant.desk;
      empty = c.in-Ok.ensures.empty;
      calm = c.in-Ok.ensures.calm ∙ c.loop.invariant.calm;
      wrote = (
        h.0 ++ k.calls,
        taking_more c.args.dest c.args.seat.now.seat.me.0 c.loop.seat.seat.me.0 c.gather-pause.new.seat.seat.me.0 c.args.seat.now.left c.loop.seat.left c.gather-pause.new.seat.left h.0 k.calls h.1 k.took,
        put_more (g.K.Sink.contents c.args.sink.now) (g.K.Sink.contents c.loop.sink) (g.K.Sink.contents c.put_out.new.sink) h.0 k.calls (c.gather-pause.new.buffer.items ++ in_hand c.gather-pause.result) h.2 c.in-Ok.ensures.all (gathered_all c.args.dest c.loop.seat.seat.me.0 c.gather-pause.new.seat.seat.me.0 c.loop.seat.left c.gather-pause.new.seat.left c.loop.buffer.items c.gather-pause.new.buffer.items c.gather-pause.result c.loop.invariant.empty k),
      );
    }

pub loop-preserved-after-matches : goal.loop-preserved-after-matches
loop-preserved-after-matches g c =
    let h = c.loop.invariant.wrote in
    let k = c.gather-pause.ensures.gathered in
    record {
      can = tt;
      ends = tt;
      desk = c.gather-pause.ensures.desk ∙ c.loop.invariant.desk;
      empty = c.in-Ok.ensures.empty;
      calm = c.in-Ok.ensures.calm ∙ c.loop.invariant.calm;
      wrote = (
        h.0 ++ k.calls,
        taking_more c.args.dest c.args.seat.now.seat.me.0 c.loop.seat.seat.me.0 c.gather-pause.new.seat.seat.me.0 c.args.seat.now.left c.loop.seat.left c.gather-pause.new.seat.left h.0 k.calls h.1 k.took,
        put_more (g.K.Sink.contents c.args.sink.now) (g.K.Sink.contents c.loop.sink) (g.K.Sink.contents c.put_out.new.sink) h.0 k.calls (c.gather-pause.new.buffer.items ++ in_hand c.gather-pause.result) h.2 c.in-Ok.ensures.all (gathered_all c.args.dest c.loop.seat.seat.me.0 c.gather-pause.new.seat.seat.me.0 c.loop.seat.left c.gather-pause.new.seat.left c.loop.buffer.items c.gather-pause.new.buffer.items c.gather-pause.result c.loop.invariant.empty k),
      );
    }
