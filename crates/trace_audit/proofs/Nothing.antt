-- What it means that nothing is wrong.
use Rattle.std.proofs.Common.{◌≡◌, not, Bool, true, false, [], ◌∷◌, Option, Some, None, refl}
use Rattle.flowspace.specs.Options.{first_some, when}
use Rattle.trace_audit.specs.declared.why.Why.{Why}

pub when_None : {A : Type 0} (b : Bool) (x : A) → when b x ≡ None → b ≡ false
when_None true x e = absurd (cc)
when_None false x e = refl

pub not_false : (b : Bool) → not b ≡ false → b ≡ true
not_false true e = refl
not_false false e = absurd (cc)

pub four_None : (a b c d : Option Why) → first_some (a ∷ b ∷ c ∷ d ∷ []) ≡ None → (a ≡ None) × (b ≡ None) × (c ≡ None) × (d ≡ None)
four_None None None None None e = (refl, refl, refl, refl)
four_None None None None (Some x) e = absurd (cc)
four_None None None (Some x) d e = absurd (cc)
four_None None (Some x) c d e = absurd (cc)
four_None (Some x) b c d e = absurd (cc)

pub three_None : (a b c : Option Why) → first_some (a ∷ b ∷ c ∷ []) ≡ None → (a ≡ None) × (b ≡ None) × (c ≡ None)
three_None None None None e = (refl, refl, refl)
three_None None None (Some x) e = absurd (cc)
three_None None (Some x) c e = absurd (cc)
three_None (Some x) b c e = absurd (cc)

pub two_None : (a b : Option Why) → first_some (a ∷ b ∷ []) ≡ None → (a ≡ None) × (b ≡ None)
two_None None None e = (refl, refl)
two_None None (Some x) e = absurd (cc)
two_None (Some x) b e = absurd (cc)
