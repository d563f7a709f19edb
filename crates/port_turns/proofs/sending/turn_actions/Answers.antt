use Rattle.std.proofs.Common.{◌≡◌, ◌+◌, ◌-◌, List, ℕ, length, drop, refl, sym, ap, subst, ◌∙◌, arith}
use Rattle.byteorder.specs.Endian.{big_number}
use Rattle.of10_model.specs.Normal.{number_at}
use Rattle.flowspace.specs.Swaps.{pairs_of}
use Rattle.port_turns.specs.Turns.{turn_list}
use Rattle.port_turns.specs.Sent.{turned_part}
use Rattle.port_turns.proofs.Parts.{Turning, turning_starts, turning_within}
use Rattle.port_turns.proofs.InPlace.{IsRight, action_room, action_size, action_step, list_ends}
use Rattle.port_turns.proofs.sending.turn_actions.Goals as goal

pub loop-at-init : goal.loop-at-init
loop-at-init c = record {
  turning = turning_starts (turn_list (pairs_of c.args.policy.now.swaps c.args.slot)) IsRight c.args.frame.now c.args.from c.args.end c.requires.first c.requires.within c.requires.right;
  body = c.requires.body;
  size = refl;
}

pub u16_at-requires : goal.u16_at-requires
u16_at-requires c =
    let t = c.loop-at.invariant.turning in
    let room = action_room _ _ _ _ _ t c.loop-at-test.true in
    let within = turning_within _ _ _ _ _ _ t in
    let same = ap length c.as_slice.ensures.value in
    omega (arith, room, within, same)

pub turn_action-requires-clause-within : goal.turn_action-requires-clause-within
turn_action-requires-clause-within c =
    let t = c.loop-at.invariant.turning in
    let room = action_room _ _ _ _ _ t c.loop-at-test.true in
    let within = turning_within _ _ _ _ _ _ t in
    omega (arith, room, within)

pub loop-at-smaller : goal.loop-at-smaller
loop-at-smaller c =
    let t = c.loop-at.invariant.turning in
    let lt = c.loop-at-test.true in
    let step = action_size _ _ _ _ _ t lt in
    let some = step.0 in
    let read = c.u16_at.ensures ∙ ap (λ (l : List ℕ). big_number 2 (drop (c.loop-at.at + 2) l)) c.as_slice.ensures.value in
    omega (arith, some, read, lt)

pub loop-at-preserved : goal.loop-at-preserved
loop-at-preserved c =
    let t = c.loop-at.invariant.turning in
    let body = c.loop-at.invariant.body in
    let pairs = pairs_of c.args.policy.now.swaps c.args.slot in
    let read : c.from-length.result ≡ number_at c.loop-at.frame (c.loop-at.at + 2) 2 = c.from-length.ensures ∙ c.u16_at.ensures ∙ ap (λ (l : List ℕ). big_number 2 (drop (c.loop-at.at + 2) l)) c.as_slice.ensures.value in
    let step = action_step pairs _ _ _ _ t c.loop-at-test.true c.turn_action.new.frame c.turn_action.ensures.value in
    record {
      turning = subst (λ n. Turning (turn_list pairs) IsRight c.turn_action.new.frame (c.loop-at.at + n) c.args.end (turned_part (turn_list pairs) c.args.from (c.args.end - c.args.from) c.args.frame.now)) (sym read) step;
      body = omega (arith, body);
      size = c.turn_action.ensures.size ∙ c.loop-at.invariant.size;
    }

pub returns-clause-value : goal.returns-clause-value
returns-clause-value c = let done = c.loop-at-test.false in list_ends _ _ _ _ _ c.loop-at.invariant.turning (omega (arith, done))
