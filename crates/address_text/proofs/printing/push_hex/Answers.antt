use Rattle.std.proofs.Common.{◌++◌, ◌∙◌, ap, sym, arith, append_assoc, string_bytes}
use Rattle.address_text.proofs.Appending.{hex_more}
use Rattle.address_text.proofs.printing.push_hex.Goals as goal

pub loop-left-preserved : goal.loop-left-preserved
loop-left-preserved c =
    let more = hex_more c.loop-left.left c.args.n (omega arith) in
    let one = c.in_ok-push_byte.ensures in
    (rw (one, c.hex_glyph.ensures.value) (append_assoc (string_bytes c.loop-left.out) _ _ ∙ ap (λ x. string_bytes c.loop-left.out ++ x) (sym more) ∙ c.loop-left.invariant.0), omega (arith, c.loop-left.invariant.1))
