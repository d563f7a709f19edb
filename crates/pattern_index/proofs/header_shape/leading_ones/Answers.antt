use Rattle.std.proofs.Common.{◌≤◌, ◌*◌, ◌^◌, arith, pow_mono}
use Rattle.std.proofs.Math.Nat.{mod-le}
use Rattle.pattern_index.proofs.header_shape.leading_ones.Goals as goal

pub overflow_sub-result : goal.overflow_sub-result
overflow_sub-result c =
    let ones = 2 ^ c.saturating_sub-ignored.result in
    let few : c.saturating_sub-ignored.result ≤ 32 = omega (arith, c.saturating_sub-ignored.ensures) in
    let within : ones ≤ 2 ^ 32 = pow_mono few in
    omega (arith, within, mod-le (1 * ones) 18446744073709551616)
