-- The switch of a number among those that were played.
use Rattle.std.proofs.Common.{◌≡◌, ◌<◌, ◌≤◌, ℕ, true, false, ltb, List, length, reverse, sym, ap, ◌∙◌, subst, Option, Some, None, slice_get, get_or, arith}
use Rattle.std.proofs.lemmas.Bool.{ltb-false}
use Rattle.flowspace.specs.Policies.{PolicyView}
use Rattle.recording.specs.Recordings.{Told}
use Rattle.desk_words.specs.Recorded.{history_of}
use Rattle.event_player.specs.declared.switch.Switch.{Switch}
use Rattle.event_player.specs.declared.desks.PlayedDesks.{PlayedDesks}
use Rattle.event_player.specs.Holding.{IsQuiet}
use Rattle.event_player.specs.Switches.{IsUntouched, IsAt}
use Rattle.event_player.specs.Played.{IsPlayed}
use Rattle.event_player.proofs.Recorded.{found}

at_number : (p : PolicyView) (records : List Told) (played : PlayedDesks) (switches : List (Option Switch)) (number from : ℕ) (known : Option Switch) → switches ≡ played.switches.items → from ≡ number → true ≡ ltb from (length switches) → known ≡ get_or switches from known
    → IsPlayed p records played → IsAt p number (reverse records) known
at_number p records played switches number from known same is within value stands =
    stands.switches.each number known
    (subst (λ (xs : List (Option Switch)). slice_get xs number ≡ Some known) same (subst (λ (n : ℕ). slice_get switches n ≡ Some known) is (found switches from known (sym within) value)))

pub desk_at : (p : PolicyView) (records : List Told) (played : PlayedDesks) (switches : List (Option Switch)) (number from : ℕ) (known : Option Switch) (switch : Switch) → known ≡ Some switch → switches ≡ played.switches.items → from ≡ number → true ≡ ltb from (length switches) → known ≡ get_or switches from known
    → IsPlayed p records played → IsQuiet p (history_of p number (reverse records)) switch.desk
desk_at p records played switches number from known switch there same is within value stands =
    (subst (λ (k : Option Switch). IsAt p number (reverse records) k) there (at_number p records played switches number from known same is within value stands)).quiet

pub none_at : (p : PolicyView) (records : List Told) (played : PlayedDesks) (switches : List (Option Switch)) (number from : ℕ) (known : Option Switch) → known ≡ None → switches ≡ played.switches.items → from ≡ number → true ≡ ltb from (length switches) → known ≡ get_or switches from known
    → IsPlayed p records played → IsUntouched number (reverse records)
none_at p records played switches number from known none same is within value stands =
    subst (λ (k : Option Switch). IsAt p number (reverse records) k) none (at_number p records played switches number from known same is within value stands)

pub none_past : (p : PolicyView) (records : List Told) (played : PlayedDesks) (switches : List (Option Switch)) (number from : ℕ) → number < 16 → switches ≡ played.switches.items → from ≡ number → false ≡ ltb from (length switches) → IsPlayed p records played → IsUntouched number (reverse records)
none_past p records played switches number from few same is past stands =
    let sixteen : length switches ≡ 16 = ap length same ∙ stands.switches.count in
    let behind : length switches ≤ from = ltb-false from (length switches) (sym past) in
    absurd (omega (arith, sixteen, behind, is, few))
