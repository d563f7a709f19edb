use Rattle.std.proofs.Common.{◌≡◌, Option, None, Some, Result, Ok, Err, IfSome}
use Rattle.flowspace.specs.declared.fault.PolicyFault.{PolicyFault}
use Rattle.flowspace.specs.Loading.{fault_of}
use Rattle.flowspace.proofs.Accepting.{IsPolicy-fault_of}
use Rattle.flowspace.proofs.Swapping.{AreSwaps-fault_of_swaps}
use Rattle.flowspace.proofs.policy.Policy.load_ports.Goals as goal

-- an early fault is the one that was found, and so the one that is reported
told : {A E : Type 0} (early : Option PolicyFault) (found : Result (Option PolicyFault) E) (given : Result A PolicyFault) → IfSome early (λ fault. found ≡ Ok (Some fault))
    → ((fault : PolicyFault) → found ≡ Ok (Some fault) → given ≡ Err fault) → IfSome early (λ fault. given ≡ Err fault)
told None found given is tells = tt
told (Some fault) found given is tells = tells fault is

pub invariant_of-result : goal.invariant_of-result
invariant_of-result c =
    let clear : fault_of c.args.slices.items c.args.rules.items ≡ None = cc c.in-Ok-None.ensures.fault in (
      IsPolicy-fault_of c.args.slices.items c.args.rules.items c.requires.some_slice c.requires.plain_slices c.requires.plain_rules clear,
      AreSwaps-fault_of_swaps _ c.args.swaps.items c.requires.plain_swaps (cc (c.in-None.ensures, c.len.ensures)),
    )
