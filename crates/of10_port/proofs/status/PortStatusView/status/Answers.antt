use Rattle.std.proofs.Common.{◌≡◌, ◌∙◌, length, drop, refl, arith, rules, length-drop}
use Rattle.std.proofs.lemmas.List.{take_all}
use Rattle.of10_port.proofs.status.PortStatusView.status.Goals as goal

pub returns-clause-value : goal.returns-clause-value
returns-clause-value c =
    let bytes = c.args.self.now.bytes.now in
    let rest = length-drop 16 bytes in
    let long : length bytes ≡ 64 = search rules in
    let port : c.of.result ≡ drop 16 bytes = c.of.ensures ∙ c.copy_from_slice.ensures.after ∙ take_all 48 (drop 16 bytes) (omega (arith, rest, long)) in
    rw port refl
