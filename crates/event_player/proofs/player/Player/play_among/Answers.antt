use Rattle.std.proofs.Common.{◌+◌, ◌≤◌, length, arith}
use Rattle.desk_words.specs.Recorded.{told_in}
use Rattle.event_player.proofs.Walking.{from_is, walking_first, walking_next, walking_more, walking_part, walking_last, walking_stand}
use Rattle.event_player.proofs.player.Player.play_among.Goals as goal

pub loop-at-init : goal.loop-at-init
loop-at-init g c = record {
  walking = λ items read. walking_first g.T.Teller.Tells c.args.file.now items c.args.self.now c.args.switches.now.items c.requires.first c.requires.unknown read;
  sixteen = c.requires.unknown.0;
}

pub item_at-item-requires : goal.item_at-item-requires
item_at-item-requires g c =
    let all = c.requires.items in
    (walking_next g.T.Teller.Tells c.args.self.now.policy.now c.args.file.now all.0 c.loop-at.at c.args.self.now c.loop-at.self c.loop-at.switches.items c.loop-at-test.true (c.loop-at.invariant.walking all.0 all.1)).0

pub play_item-requires-clause-item : goal.play_item-requires-clause-item
play_item-requires-clause-item g c =
    let all = c.requires.items in
    (walking_next g.T.Teller.Tells c.args.self.now.policy.now c.args.file.now all.0 c.loop-at.at c.args.self.now c.loop-at.self c.loop-at.switches.items c.loop-at-test.true (c.loop-at.invariant.walking all.0 all.1)).1
    c.item_at-item.result c.item_at-item.ensures.value

pub returns-in_err-play_item-clause-told : goal.returns-in_err-play_item-clause-told
returns-in_err-play_item-clause-told g c = λ items read.
    walking_part g.T.Teller.Tells c.args.self.now.policy.now c.args.file.now items c.loop-at.at c.item_at-item.result _ c.from_residual.result c.args.self.now c.loop-at.self c.play_item.new.self c.loop-at.switches.items c.play_item.new.switches.items
    c.loop-at-test.true c.item_at-item.ensures.value (c.loop-at.invariant.walking items read) c.from_residual.ensures.1 c.in_err-play_item.ensures.plays

pub overflow_add-at : goal.overflow_add-at
overflow_add-at g c =
    let all = c.requires.items in
    let item = (walking_next g.T.Teller.Tells c.args.self.now.policy.now c.args.file.now all.0 c.loop-at.at c.args.self.now c.loop-at.self c.loop-at.switches.items c.loop-at-test.true (c.loop-at.invariant.walking all.0 all.1)).1
    c.item_at-item.result c.item_at-item.ensures.value in
    let within : c.item_at-item.result.from + c.item_at-item.result.size ≤ length c.args.file.now = item.within in
    let fits = c.type_inv.file in
    omega (arith, within, fits)

pub loop-at-smaller : goal.loop-at-smaller
loop-at-smaller g c =
    let from = from_is c.args.file.now c.loop-at.at c.item_at-item.result c.item_at-item.ensures.value in
    let more = c.loop-at-test.true in
    omega (arith, from, more)

pub loop-at-preserved : goal.loop-at-preserved
loop-at-preserved g c = record {
  walking = λ items read.
      walking_more g.T.Teller.Tells c.args.self.now.policy.now c.args.file.now items c.loop-at.at c.item_at-item.result tt c.args.self.now c.loop-at.self c.play_item.new.self c.loop-at.switches.items c.play_item.new.switches.items
      c.loop-at-test.true c.item_at-item.ensures.value (c.loop-at.invariant.walking items read) c.in_ok-play_item.ensures.plays;
  sixteen = c.in_ok-play_item.ensures.count;
}

pub returns-clause-told : goal.returns-clause-told
returns-clause-told g c = λ items read.
    walking_last g.T.Teller.Tells c.args.self.now.policy.now c.args.file.now items c.loop-at.at tt c.args.self.now c.loop-at.self c.loop-at.switches.items c.loop-at-test.false (c.loop-at.invariant.walking items read)

pub returns-clause-stand : goal.returns-clause-stand
returns-clause-stand g c = λ items read.
    walking_stand g.T.Teller.Tells c.args.self.now.policy.now c.args.file.now items c.loop-at.at c.args.self.now c.loop-at.self c.loop-at.switches.items c.loop-at-test.false (c.loop-at.invariant.walking items read)
