use Rattle.std.proofs.Common.{◌≡◌, ◌<◌, [], length, refl, subst, arith, rules, inl, inr}
use Rattle.std.specs.Prelude.{vec_len}
use Rattle.std.proofs.Math.Seq.{get_or-append_seam}
use Rattle.std.proofs.lemmas.List.{get_or-set_same}
use Rattle.flow_book.specs.Store.{no_pair, EachOnce}
use Rattle.flow_book.proofs.Stored.{at_places-set_other, at_places-push, none_left, free_within, free_elsewhere, EachOnce-taken, none_beyond, EachOnce-behind}
use Rattle.flow_book.proofs.entries.put.Goals as goal

pub index_mut-requires : goal.index_mut-requires
index_mut-requires c =
    free_within (vec_len c.args.store.now) c.requires.once.0 c.pop.new.self.items c.in-Some.place (subst (EachOnce (vec_len c.args.store.now) c.requires.once.0) c.in-Some.ensures.items c.requires.once.1)

pub returns-in-Some : goal.returns-in-Some
returns-in-Some c =
    let size = vec_len c.args.store.now in
    let within : c.in-Some.place < size =
    free_within size c.requires.once.0 c.pop.new.self.items c.in-Some.place (subst (EachOnce size c.requires.once.0) c.in-Some.ensures.items c.requires.once.1) in
    let long : length c.args.store.now.items ≡ size = search rules in
    record {
      here = get_or-set_same c.args.store.now.items c.in-Some.place c.args.entry no_pair (omega (arith, within, long));
      once = λ order each. EachOnce-taken size order c.pop.new.self.items c.in-Some.place (subst (EachOnce size order) c.in-Some.ensures.items each);
      kept = λ order each. at_places-set_other c.args.store.now.items c.in-Some.place c.args.entry order
          (free_elsewhere size order c.pop.new.self.items c.in-Some.place (subst (EachOnce size order) c.in-Some.ensures.items each));
      len = omega (arith, c.in-Some.ensures.len);
      grown = inl refl;
      capacity = refl;
      free_capacity = c.in-Some.ensures.capacity;
    }

pub returns-in-None : goal.returns-in-None
returns-in-None c =
    let size = vec_len c.args.store.now in
    let long : length c.args.store.now.items ≡ size = search rules in
    let free_long : length c.args.free.now.items ≡ vec_len c.args.free.now = search rules in
    let left_long : length c.pop.new.self.items ≡ vec_len c.pop.new.self = search rules in
    let free : c.args.free.now.items ≡ [] = none_left c.args.free.now.items (omega (arith, free_long, c.in-None.ensures.cases.0)) in
    let left : c.pop.new.self.items ≡ [] = none_left c.pop.new.self.items (omega (arith, left_long, c.in-None.ensures.cases.1)) in
    let place : c.len-place.result ≡ size = c.len-place.ensures in
    record {
      here = rw (c.push_reserved.ensures.items, place, ← long) (get_or-append_seam c.args.store.now.items c.args.entry [] no_pair);
      once = λ order each. rw (c.push_reserved.ensures.len, place, left) (EachOnce-behind size order (subst (EachOnce size order) free each));
      kept = λ order each. rw c.push_reserved.ensures.items (at_places-push c.args.store.now.items c.args.entry order (λ p le. none_beyond size order (subst (EachOnce size order) free each) p (omega (arith, le, long))));
      len = omega (arith, c.in-None.ensures.cases.0, c.in-None.ensures.cases.1, c.push_reserved.ensures.len);
      grown = inr c.in-None.ensures.cases.1;
      capacity = c.push_reserved.ensures.capacity;
      free_capacity = c.in-None.ensures.capacity;
    }
