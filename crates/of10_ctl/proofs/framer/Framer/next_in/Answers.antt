use Rattle.std.proofs.Common.{◌≡◌, ◌∙◌, ◌++◌, ◌+◌, ℕ, List, [], false, length, take, drop, sym, ap, arith}
use Rattle.std.proofs.lemmas.List.{drop-drop, length-drop, length-take}
use Rattle.of10_ctl.specs.Streams.{Stream, frames_of, frame_in}
use Rattle.of10_ctl.proofs.Standing.{answer_given, gives_frame, gives_none, on_err}
use Rattle.of10_ctl.proofs.framer.Framer.next_in.Goals as goal

pub returns-in_default-clause-gives : goal.returns-in_default-clause-gives
returns-in_default-clause-gives c =
    gives_none c.args.self.now (rw (sym c.self.view_is) c.if-self.false) (ap frames_of (sym c.left-left.ensures) ∙ c.in_default.ensures.none)

pub returns-in_err-copied_in-clause-memory : goal.returns-in_err-copied_in-clause-memory
returns-in_err-copied_in-clause-memory c = on_err c.from_residual.result (λ fed given stands.
    let unended : c.args.self.now.ended ≡ false = rw (sym c.self.view_is) c.if-self.false in
    let frame = take c.in-Some.size c.left-left.result.now in
    (frame, ap frame_in (sym (answer_given c.args.self.now fed given stands unended frame _ (ap (λ (left : List ℕ). frames_of (left ++ [])) (sym c.left-left.ensures) ∙ c.in-Some.ensures.first [])))))

pub returns-clause-gives : goal.returns-clause-gives
returns-clause-gives c =
    let s = c.self.inside in
    let frame : c.of-frame.result ≡ take c.in-Some.size c.left-left.result.now = c.of-frame.ensures ∙ c.in_ok-copied_in.ensures in
    let left : c.left-left.result.now ≡ drop s.read s.bytes.items = c.left-left.ensures ∙ ap (λ (s : Stream). s.left) (sym c.self.view_is) in
    let rest = drop-drop c.in-Some.size s.read s.bytes.items in
    rw (← c.self.view_is) (gives_frame (record { left = drop s.read s.bytes.items; ended = s.ended }) (drop (s.read + c.in-Some.size) s.bytes.items) c.bad_length-self-inside.result c.of-frame.result c.if-self.false c.bad_length-self-inside.ensures
    (rw (frame, sym rest, sym left) c.in-Some.ensures.first)
    (omega (arith, c.in-Some.ensures.frame, length-take c.in-Some.size c.left-left.result.now, ap length left, length-drop s.read s.bytes.items, length-drop (s.read + c.in-Some.size) s.bytes.items)))
