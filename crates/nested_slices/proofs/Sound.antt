-- The flat rules name slots that are there, and none is read by its own writer.
use Rattle.std.proofs.Common.{◌≡◌, ◌≢◌, ℕ, ◌+◌, ◌-◌, ◌*◌, ◌<◌, ◌≤◌, ◌^◌, Bool, false, get_or, All, IfSome, Option, Some, None, option_map, refl, sym, subst, ◌∙◌, ap, arith, inl, inr}
use Rattle.std.proofs.Math.Pow.{pow_mono}
use Rattle.std.proofs.lemmas.Bool.{true≢false}
use Rattle.flowmod_expand.proofs.Somewhere.{All-filter_map}
use Rattle.of10_model.specs.Normal.{bit}
use Rattle.flowspace.specs.declared.rules.Rule.{Rule}
use Rattle.flowspace.specs.Rules.{is_written_by}
use Rattle.flowspace.specs.Faults.{IsSoundRule}
use Rattle.flowspace.proofs.Refusing.{Some-is_value}
use Rattle.nested_slices.specs.Flat.{DivisionView, outer_slot, inner_slot, outer_readers, kept, part, parts}
use Rattle.nested_slices.proofs.Bits.{without_below, together_below, high_bit, bit_before, bit_behind}
use Rattle.nested_slices.proofs.Joining.{part_is, stands, outer_before}
use Rattle.nested_slices.proofs.Yielding.{All-parts}

-- a writer, where there is one, is among readers
abbrev reads_own : Option ℕ → ℕ → Bool
reads_own writer readers = elim writer [ None ↦ false | Some slot ↦ bit readers slot ]

known_moved : (f : ℕ → ℕ) (n m : ℕ) (w : Option ℕ) → ((s : ℕ) → w ≡ Some s → s < n → f s < m) → IfSome w (λ s. s < n) → IfSome (option_map f w) (λ s. s < m)
known_moved f n m None each below = tt
known_moved f n m (Some s) each below = each s refl below

own_moved : (f : ℕ → ℕ) (w : Option ℕ) (bits readers : ℕ) → ((s : ℕ) → w ≡ Some s → bit readers (f s) ≡ bit bits s) → reads_own w bits ≡ false → reads_own (option_map f w) readers ≡ false
own_moved f None bits readers each none = refl
own_moved f (Some s) bits readers each none = each s refl ∙ none

-- ---- a kept rule

outer_below : (d : DivisionView) (bits : ℕ) → d.slot ≤ d.others → bits < 2 ^ (d.others + 1) → outer_readers d bits < 2 ^ d.others
outer_below d bits le lt = without_below bits d.slot d.others le lt

outer_bit : (d : DivisionView) (bits s : ℕ) → s ≢ d.slot → bit (outer_readers d bits) (outer_slot d s) ≡ bit bits s
outer_bit d bits s differs =
    elim (stands d s differs) [
      | inl k ↦
          let after = k.after in
          let lower : s - 1 ≡ d.slot + (s - 1 - d.slot) = omega arith in
          let whole : d.slot + 1 + (s - 1 - d.slot) ≡ s = omega arith in
          ap (bit (outer_readers d bits)) (k.is ∙ lower) ∙ bit_behind bits d.slot (s - 1 - d.slot) ∙ ap (bit bits) whole
      | inr k ↦ ap (bit (outer_readers d bits)) k.is ∙ bit_before bits d.slot s k.under
    ]

not_holder : (d : DivisionView) (r : Rule) (s : ℕ) → is_written_by d.slot r ≡ false → r.writer ≡ Some s → s ≢ d.slot
not_holder d r s isnt writes = λ same. true≢false (sym (Some-is_value d.slot r.writer (writes ∙ ap Some same)) ∙ isnt)

kept_sound : (d : DivisionView) (slices : ℕ) (r : Rule) → d.slot ≤ d.others → is_written_by d.slot r ≡ false → IsSoundRule (d.others + 1) r → IsSoundRule (d.others + slices) (kept d r)
kept_sound d slices r le isnt sound =
    let more : 2 ^ d.others ≤ 2 ^ (d.others + slices) = pow_mono (omega arith) in
    let below = outer_below d r.readers le sound.0.readers_known in (
      record {
        writer_known = known_moved (outer_slot d) (d.others + 1) (d.others + slices) r.writer
            (λ s writes lt. let under = outer_before d s lt (not_holder d r s isnt writes) (omega arith) in omega arith) sound.0.writer_known;
        readers_known = omega arith;
      },
      own_moved (outer_slot d) r.writer r.readers (outer_readers d r.readers) (λ s writes. outer_bit d r.readers s (not_holder d r s isnt writes)) sound.1,
    )

-- ---- a part

part_sound : (d : DivisionView) (slices : ℕ) (r q p : Rule) → d.slot ≤ d.others → part d r q ≡ Some p → IsSoundRule (d.others + 1) r → IsSoundRule slices q → IsSoundRule (d.others + slices) p
part_sound d slices r q p le made outer inner =
    let is = part_is d r q p made in
    let below = outer_below d r.readers le outer.0.readers_known in (
      record {
        writer_known = subst (λ w. IfSome w (λ s. s < d.others + slices)) (sym is.writer)
            (known_moved (inner_slot d) slices (d.others + slices) q.writer (λ s writes lt. omega arith) inner.0.writer_known);
        readers_known = subst (λ n. n < 2 ^ (d.others + slices)) (sym is.readers) (together_below (outer_readers d r.readers) q.readers d.others slices below inner.0.readers_known);
      },
      ap (λ w. reads_own w p.readers) is.writer
          ∙ ap (reads_own (option_map (inner_slot d) q.writer)) is.readers
          ∙ own_moved (inner_slot d) q.writer q.readers (outer_readers d r.readers + q.readers * 2 ^ d.others) (λ s writes. high_bit (outer_readers d r.readers) q.readers d.others s below) inner.1,
    )

pub parts_sound : (d : DivisionView) (slices : ℕ) (r : Rule) → d.slot ≤ d.others → All (IsSoundRule slices) d.rules → IsSoundRule (d.others + 1) r → All (IsSoundRule (d.others + slices)) (parts d r)
parts_sound d slices r le inner sound =
    All-parts (IsSoundRule (d.others + slices)) d r
    (λ is. All-filter_map (IsSoundRule (d.others + slices)) (part d r) d.rules (λ k e lt. λ p made. part_sound d slices r (get_or d.rules k e) p le made sound (inner k e lt)))
    (λ isnt. kept_sound d slices r le isnt sound)
