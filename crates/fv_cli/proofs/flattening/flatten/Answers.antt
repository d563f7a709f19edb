use Rattle.std.proofs.Common.{sym, inl, inr}
use Rattle.fv_cli.proofs.Moving.{policy_cause_before, has_policy_before}
use Rattle.fv_cli.proofs.flattening.flatten.Goals as goal

pub returns-in-Err-load_policy-clause-cause : goal.returns-in-Err-load_policy-clause-cause
returns-in-Err-load_policy-clause-cause g c =
    let first = c.in-Ok.ensures in
    let inner = c.args.inner.now in
    inr (
      c.in-Ok.policy,
      record { says = first.says; accepted = first.accepted },
      inr (c.in-Some.slot, sym c.in-Some.ensures, inl (policy_cause_before _ _ _ _ _ _ (first.same inner) (first.calm inner) c.in-Err-load_policy.ensures.cause)),
    )

pub returns-clause-cause : goal.returns-clause-cause
returns-clause-cause g c =
    let first = c.in-Ok.ensures in
    let second = c.in-Ok-load_policy.ensures in
    inr (
      c.in-Ok.policy,
      record { says = first.says; accepted = first.accepted },
      inr (
        c.in-Some.slot,
        sym c.in-Some.ensures,
        inr (
          c.in-Ok-load_policy.policy,
          has_policy_before _ _ _ (first.same c.args.inner.now) (record { says = second.says; accepted = second.accepted }),
          c.write_flat.ensures.cause,
        ),
      ),
    )
