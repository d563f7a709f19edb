use Rattle.std.proofs.Common.{◌++◌, length, take, codes, arith, sym, ap, ◌∙◌, append_assoc}
use Rattle.hex.specs.Hex.{encode_lower}
use Rattle.desk_words.specs.Reports.{saying_text}
use Rattle.event_player.specs.Lines.{saying_of}
use Rattle.fv_report.proofs.Sizes.{lane_size, to_size}
use Rattle.fv_report.proofs.line.put_said.Goals as goal

pub put_hex-requires : goal.put_hex-requires
put_hex-requires c =
    let size = ap (λ said. length (saying_text (saying_of said))) c.in-Lane.is ∙ lane_size c.in-Lane.message.now in
    omega (arith, size)

pub put_hex-requires-in-To : goal.put_hex-requires-in-To
put_hex-requires-in-To c =
    let size = ap (λ said. length (saying_text (saying_of said))) c.in-To.is ∙ to_size c.in-To.field-0 c.in-To.name.now c.in-To.message.now in
    omega (arith, size)

pub returns-in-Lane-clause-written : goal.returns-in-Lane-clause-written
returns-in-Lane-clause-written c =
    let before = take c.args.at c.args.line.now in
    let digits = encode_lower c.in-Lane.message.now in
    c.put_hex.ensures.written ∙ ap (λ front. front ++ digits) c.put_text-end.ensures.written
    ∙ append_assoc before (codes "lane ") digits
    ∙ ap (λ said. before ++ saying_text (saying_of said)) (sym c.in-Lane.is)

pub returns-in-Lane-clause-end : goal.returns-in-Lane-clause-end
returns-in-Lane-clause-end c =
    let size = ap (λ said. length (saying_text (saying_of said))) c.in-Lane.is ∙ lane_size c.in-Lane.message.now in
    omega (arith, size)

pub returns-in-To-clause-end : goal.returns-in-To-clause-end
returns-in-To-clause-end c =
    let size = ap (λ said. length (saying_text (saying_of said))) c.in-To.is ∙ to_size c.in-To.field-0 c.in-To.name.now c.in-To.message.now in
    omega (arith, size)
