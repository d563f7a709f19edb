use Rattle.std.proofs.Common.{◌≡◌, ◌∙◌, ◌++◌, ◌-◌, ℕ, List, [], false, length, take, drop, sym, ap, arith, length-drop, length-take, take_all, drop_of_length-le}
use Rattle.std.proofs.lemmas.List.{append-nil}
use Rattle.of10_ctl.specs.Streams.{Stream, frames_of, with_piece}
use Rattle.of10_ctl.proofs.Standing.{fed_on, gives_frame, gives_none}
use Rattle.of10_ctl.proofs.framer.Framer.next_of.Goals as goal

pub returns-in_default-clause-gives : goal.returns-in_default-clause-gives
returns-in_default-clause-gives c =
    let s = c.args.self.now in
    let piece = c.args.piece.now.now in
    let unended : s.ended ≡ false = rw (sym c.self.view_is) c.if-self.false in
    let nothing : s.left ≡ [] = ap (λ (s : Stream). s.left) (sym c.self.view_is) ∙ drop_of_length-le c.self.inside.bytes.items (omega (arith, c.if-self-len.false, c.len.ensures)) in
    rw (c.in_ok-keep.ensures.all, c.in_ok-keep.ensures.value ∙ fed_on s piece unended, append-nil (s.left ++ piece))
    (gives_none (with_piece s piece) unended (ap (λ (left : List ℕ). frames_of (left ++ piece)) nothing ∙ c.in_default.ensures.none))

pub returns-clause-gives : goal.returns-clause-gives
returns-clause-gives c =
    let s = c.args.self.now in
    let piece = c.args.piece.now.now in
    let size = c.in-Some.size in
    let unended : s.ended ≡ false = rw (sym c.self.view_is) c.if-self.false in
    let nothing : s.left ≡ [] = ap (λ (s : Stream). s.left) (sym c.self.view_is) ∙ drop_of_length-le c.self.inside.bytes.items (omega (arith, c.if-self-len.false, c.len.ensures)) in
    let none : drop c.self-2.inside.read c.self-2.inside.bytes.items ≡ [] = ap (λ (s : Stream). s.left) c.self-2.view_is ∙ nothing in
    let frame : c.of-frame.result ≡ take size piece = c.of-frame.ensures ∙ c.in_ok-copied_in.ensures in
    let whole = c.in-Some.ensures.whole in
    let rest : take (length piece - size) (drop size piece) ≡ drop size piece = take_all (length piece - size) (drop size piece) (omega (arith, length-drop size piece)) in
    rw (none, rest)
    (gives_frame (with_piece s piece) (drop size piece) c.bad_length-self-inside.result c.of-frame.result unended c.bad_length-self-inside.ensures
    (rw (frame, nothing) c.in-Some.ensures.first)
    (rw nothing (omega (arith, c.in-Some.ensures.frame, length-take size piece, length-drop size piece))))
