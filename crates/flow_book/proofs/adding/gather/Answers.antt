use Rattle.std.proofs.Common.{arith, sym, subst, ap, ◌∙◌, ◌≡◌, ◌+◌, ◌++◌, ◌∷◌, [], true, false}
use Rattle.std.specs.Prelude.{All}
use Rattle.std.proofs.lemmas.List.Elements.{All-push}
use Rattle.of10_model.specs.Normal.{IsNormal}
use Rattle.flow_book.specs.Books.{is_newcomer, first_booked}
use Rattle.flow_book.proofs.Steps.{fresh_more, fresh_same, count_more, count_same}
use Rattle.flow_book.proofs.adding.gather.Goals as goal
use Rattle.flow_book.proofs.adding.gather.Goals.{then-is_newcomer, else-is_newcomer}

pub loop-piece-preserved : goal.loop-piece-preserved
loop-piece-preserved c = elim c.if-is_newcomer.branch [
  | then-is_newcomer w ↦
      let comes : is_newcomer c.args.command c.args.priority c.args.entries.now.booked c.piece-item.result ≡ true = sym c.is_newcomer.ensures ∙ w.if-is_newcomer.true in
      let items = w.push_reserved.ensures.items ∙ ap (λ b. c.loop-piece.fresh.items ++ b ∷ []) w.new.ensures.value in
      rw w.fresh-is (
        items ∙ ap (λ l. l ++ first_booked c.args.priority c.args.asked c.args.number c.piece-item.result ∷ []) c.loop-piece.invariant.0
            ∙ sym (fresh_more c.args.command c.args.pieces.now c.loop-piece.piece-index c.piece-item.result c.args.priority c.args.asked c.args.number c.args.entries.now.booked c.loop-piece-test.true c.piece-item.is comes),
        subst (All (λ b. IsNormal b.pattern)) (sym items)
            (All-push (λ b. IsNormal b.pattern) c.loop-piece.fresh.items (first_booked c.args.priority c.args.asked c.args.number c.piece-item.result) c.loop-piece.invariant.1 w.new.ensures.normal),
        w.push_reserved.ensures.len ∙ ap (λ n. n + 1) c.loop-piece.invariant.2
            ∙ sym (count_more c.args.command c.args.pieces.now c.loop-piece.piece-index c.piece-item.result c.args.priority c.args.asked c.args.number c.args.entries.now.booked c.loop-piece-test.true c.piece-item.is comes),
        omega (arith, c.loop-piece.invariant.3, w.push_reserved.ensures.capacity),
      )
  | else-is_newcomer w ↦
      let stays : is_newcomer c.args.command c.args.priority c.args.entries.now.booked c.piece-item.result ≡ false = sym c.is_newcomer.ensures ∙ w.if-is_newcomer.false in
      rw w.fresh-is (
        c.loop-piece.invariant.0 ∙ sym (fresh_same c.args.command c.args.pieces.now c.loop-piece.piece-index c.piece-item.result c.args.priority c.args.asked c.args.number c.args.entries.now.booked c.loop-piece-test.true c.piece-item.is stays),
        c.loop-piece.invariant.1,
        c.loop-piece.invariant.2 ∙ sym (count_same c.args.command c.args.pieces.now c.loop-piece.piece-index c.piece-item.result c.args.priority c.args.asked c.args.number c.args.entries.now.booked c.loop-piece-test.true c.piece-item.is stays),
        c.loop-piece.invariant.3,
      )
]
