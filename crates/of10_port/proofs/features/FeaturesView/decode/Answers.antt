use Rattle.std.proofs.Common.{◌≡◌, ℕ, ◌-◌, ◌/◌, ◌∙◌, List, length, drop, refl, sym, ap, arith, length-drop}
use Rattle.std.proofs.lemmas.List.{take_all}
use Rattle.of10_port.specs.Ports.{ports_in}
use Rattle.of10_port.proofs.Again.{features_from}
use Rattle.of10_port.proofs.features.FeaturesView.decode.Goals as goal

pub returns-clause-exact : goal.returns-clause-exact
returns-clause-exact c =
    let bytes = c.as_slice-bytes.result.now in
    let rest = length-drop 32 bytes in
    let ports : ports_in (drop 32 bytes) ≡ c.ports_in.result.now = ap ports_in (sym (take_all (length bytes - 32) (drop 32 bytes) (omega arith))) ∙ sym c.ports_in.ensures.value in
    rw (← c.as_slice-bytes.ensures.value) (features_from bytes _ (sym c.if-not-has_whole_ports.ensures.value) (sym c.u64_at.ensures) (sym c.u32_at.ensures) refl (sym c.u32_at-2.ensures) (sym c.u32_at-3.ensures) ports)

pub returns-clause-few : goal.returns-clause-few
returns-clause-few c =
    let bytes = c.as_slice-bytes.result.now in
    let rest = length-drop 32 bytes in
    let all = take_all (length bytes - 32) (drop 32 bytes) (omega arith) in
    let counted : length c.ports_in.result.now ≡ length (drop 32 bytes) / 48 = c.ports_in.ensures.count ∙ ap (λ (xs : List ℕ). length xs / 48) all in
    let same = ap length c.as_slice-bytes.ensures.value in
    let small = c.as_slice-bytes.ensures.frame.small in
    omega (arith, counted, rest, same, small)
