use Rattle.std.proofs.Common.{◌≡◌, ◌∙◌, ◌++◌, ℕ, List, sym, subst, arith, rules, take, length, IfSome}
use Rattle.std.specs.Prelude.{Option}
use Rattle.std.proofs.lemmas.Grind.{common_steps}
use Rattle.fv_base.specs.Told.{IsBeginning}
use Rattle.fv_base.proofs.Loaded.{begins, ends, goes_on}
use Rattle.fv_base.proofs.transfer.gather.Goals as goal

pub loop-count-init : goal.loop-count-init
loop-count-init g c = record {
  within = omega arith;
  begun = begins (g.F.Files.contents c.args.files.now c.args.path.now) c.new-file.result.items c.new-file.ensures.items;
  same = search rules;
  calm = search rules;
}

pub returns-then-count-eq0-clause-whole : goal.returns-then-count-eq0-clause-whole
returns-then-count-eq0-clause-whole g c =
    let path = c.args.path.now in
    let file = c.loop-count.file in
    let place : c.len.result ≡ length file.items = omega arith in
    let Whole : Option (List ℕ) → Type 0 = λ told. IfSome told (λ bytes. file.items ≡ bytes) in
    subst Whole (c.loop-count.invariant.same path)
    (ends (g.F.Files.contents c.loop-count.files path) file.items c.loop-count.buffer c.read.new.into c.len.result c.in-Ok.count place c.if-count-eq0.true c.loop-count.invariant.begun c.in-Ok.ensures.given)

pub loop-count-preserved : goal.loop-count-preserved
loop-count-preserved g c =
    let path = c.args.path.now in
    let file = c.loop-count.file in
    let n = c.in-Ok.count in
    let place : c.len.result ≡ length file.items = omega arith in
    let more : c.extend_from_slice.new.self.items ≡ file.items ++ take n c.read.new.into = grind (arith, common_steps) in
    let before = g.F.Files.contents c.loop-count.files path in
    let Begun : Option (List ℕ) → Type 0 = λ told. IfSome told (λ bytes. IsBeginning c.extend_from_slice.new.self.items bytes) in
    record {
      within = grind (arith, common_steps);
      begun = subst Begun (sym (c.in-Ok.ensures.same path)) (rw more (goes_on before file.items c.loop-count.buffer c.read.new.into c.len.result n place c.loop-count.invariant.begun c.in-Ok.ensures.given));
      same = λ at. c.in-Ok.ensures.same at ∙ c.loop-count.invariant.same at;
      calm = λ at. c.in-Ok.ensures.calm at ∙ c.loop-count.invariant.calm at;
    }
