-- A match whose in_port is exchanged where it stands is read as the match with that in_port exchanged.
use Rattle.std.proofs.Common.{◌≡◌, ℕ, ◌+◌, ◌-◌, min, ◌≤◌, ◌<◌, ◌^◌, true, false, List, length, take, drop, refl, sym, ap, ◌∙◌, inl, inr, Option, Some, None, arith}
use Rattle.std.specs.Prelude.{option_map}
use Rattle.std.proofs.lemmas.Bool.{cases_Bool}
use Rattle.std.proofs.lemmas.List.{length-take, length-drop, take-take, drop-drop, drop-take}
use Rattle.byteorder.specs.Endian.{big_number}
use Rattle.of10_model.specs.declared.pattern.Pattern.{Pattern}
use Rattle.of10_model.specs.Normal.{number_at, bit, is_given, unless_freed, spelled, applied, match_at, IsBelow, IsNormal}
use Rattle.of10_model.specs.Padding.{AlikeBut}
use Rattle.of10_model.proofs.Padding.{piece_before, rest_behind, number_before, number_behind}
use Rattle.flowspace.specs.Swaps.{Pairs}
use Rattle.port_turns.specs.Turned.{turned_pattern}
use Rattle.port_turns.specs.Turns.{written, turn_match}
use Rattle.of10_ctl.specs.Numbers.{with_number}
use Rattle.of10_ctl.proofs.Patched.{with_alike, with_read}
use Rattle.port_turns.proofs.Patched.{written_small, number_take}

-- the 40 bytes of a match, of which two differ where the whole differs
pub within_match : (at : ℕ) (a b : List ℕ) → AlikeBut (at + 4) (at + 4 + 2) a b → AlikeBut 4 6 (take 40 (drop at a)) (take 40 (drop at b))
within_match at a b h = record {
  size = length-take 40 (drop at a) ∙ ap (λ (n : ℕ). min 40 n) (length-drop at a ∙ ap (λ (n : ℕ). n - at) h.size ∙ sym (length-drop at b)) ∙ sym (length-take 40 (drop at b));
  front = take-take 4 40 (drop at a) (omega arith) ∙ piece_before (at + 4) (at + 4 + 2) a b h at 4 (omega arith) ∙ sym (take-take 4 40 (drop at b) (omega arith));
  rest = behind a ∙ ap (take 34) (rest_behind (at + 4) (at + 4 + 2) a b h 0) ∙ sym (behind b);
}
  where
    behind : (l : List ℕ) → drop 6 (take 40 (drop at l)) ≡ take 34 (drop (at + 4 + 2 + 0) l)
    behind l = drop-take 6 34 (drop at l) ∙ ap (take 34) (drop-drop 6 at l ∙ ap (λ n. drop n l) (omega arith))

-- two matches that are spelled alike but for their in_port, where neither frees it
spelled_port : (w v : List ℕ) (port : ℕ) → AlikeBut 4 6 w v → bit (number_at w 0 4) 0 ≡ false → number_at v 4 2 ≡ port → spelled v ≡ record (spelled w) { in_port = Some port }
unfolding spelled
spelled_port w v port h clear is =
    rw (
      sym (number_before 4 6 w v h 0 4 (omega arith)),
      is,
      sym (number_behind 4 6 w v h 0 6),
      sym (number_behind 4 6 w v h 6 6),
      sym (number_behind 4 6 w v h 12 2),
      sym (number_behind 4 6 w v h 14 1),
      sym (number_behind 4 6 w v h 16 2),
      sym (number_behind 4 6 w v h 18 1),
      sym (number_behind 4 6 w v h 19 1),
      sym (number_behind 4 6 w v h 22 4),
      sym (number_behind 4 6 w v h 26 4),
      sym (number_behind 4 6 w v h 30 2),
      sym (number_behind 4 6 w v h 32 2),
      clear,
    ) refl

-- which in_port a match names says nothing of its other fields
applied_port : (m : Pattern) (port other : ℕ) → m.in_port ≡ Some port → applied (record m { in_port = Some other }) ≡ record (applied m) { in_port = Some other }
unfolding applied
applied_port m port other is = rw is refl

applied_with : (m : Pattern) (port : Option ℕ) → is_given port ≡ is_given m.in_port → applied (record m { in_port = port }) ≡ record (applied m) { in_port = port }
unfolding applied
applied_with m port given = rw given refl

in_port_of : (w : List ℕ) → (spelled w).in_port ≡ unless_freed (number_at w 0 4) 0 (number_at w 4 2)
unfolding spelled
in_port_of w = refl

kept_port : (m : Pattern) → (applied m).in_port ≡ m.in_port
unfolding applied
kept_port m = refl

none_turned : (pairs : Pairs) (m : Pattern) → m.in_port ≡ None → turned_pattern (written pairs) (applied m) ≡ applied m
unfolding applied
none_turned pairs m none = rw none refl

pub turn_match_alike : (pairs : Pairs) (at : ℕ) (bytes : List ℕ) → at + 40 ≤ length bytes → AlikeBut (at + 4) (at + 4 + 2) bytes (turn_match pairs at bytes)
turn_match_alike pairs at bytes le = elim (cases_Bool (bit (number_at bytes at 4) 0)) [
  | inl free ↦ rw free (record { size = refl; front = refl; rest = refl })
  | inr clear ↦ rw clear (with_alike (at + 4) (written pairs (number_at bytes (at + 4) 2)) bytes (omega (arith, le)))
]

module _ (pairs : Pairs) (at : ℕ) (bytes : List ℕ) (le : at + 40 ≤ length bytes) where
  word_here : number_at (take 40 (drop at bytes)) 0 4 ≡ number_at bytes at 4
  word_here = number_take 40 (drop at bytes) 0 4 (omega arith)

  port_here : (l : List ℕ) → number_at (take 40 (drop at l)) 4 2 ≡ number_at l (at + 4) 2
  port_here l = number_take 40 (drop at l) 4 2 (omega arith) ∙ ap (big_number 2) (drop-drop 4 at l)

  pub turn_match_read : match_at (turn_match pairs at bytes) at ≡ turned_pattern (written pairs) (match_at bytes at)
  turn_match_read = elim (cases_Bool (bit (number_at bytes at 4) 0)) [
    | inl free ↦
        let w = take 40 (drop at bytes) in
        let word : bit (number_at w 0 4) 0 ≡ true = ap (λ n. bit n 0) word_here ∙ free in
        let none : (spelled w).in_port ≡ None = in_port_of w ∙ rw word refl in
        rw free (sym (none_turned pairs (spelled w) none))
    | inr clear ↦
        let port = written pairs (number_at bytes (at + 4) 2) in
        let turned = with_number (at + 4) port bytes in
        let w = take 40 (drop at bytes) in
        let v = take 40 (drop at turned) in
        let word : bit (number_at w 0 4) 0 ≡ false = ap (λ n. bit n 0) word_here ∙ clear in
        let lt : port < 2 ^ 16 = written_small pairs (number_at bytes (at + 4) 2) in
        let there : number_at v 4 2 ≡ port = port_here turned ∙ with_read (at + 4) port bytes (omega (arith, le)) lt in
        let was : (spelled w).in_port ≡ Some (number_at bytes (at + 4) 2) = in_port_of w ∙ rw word (ap (λ n. Some n) (port_here bytes)) in
        let one : spelled v ≡ record (spelled w) { in_port = Some port } = spelled_port w v port (within_match at bytes turned (with_alike (at + 4) port bytes (omega (arith, le)))) word there in
        let two = applied_port (spelled w) (number_at bytes (at + 4) 2) port was in
        let kept : (applied (spelled w)).in_port ≡ Some (number_at bytes (at + 4) 2) = kept_port (spelled w) ∙ was in
        rw clear (ap applied one ∙ two ∙ ap (λ (o : Option ℕ). record (applied (spelled w)) { in_port = o }) (sym (ap (option_map (written pairs)) kept)))
  ]

-- a normal match stays normal with another in_port in its range
pub normal_with : (m : Pattern) (port : Option ℕ) → IsNormal m → IsBelow (2 ^ 16) port → is_given port ≡ is_given m.in_port → IsNormal (record m { in_port = port })
normal_with m port normal below given = (
  record {
    in_port = below;
    dl_src = normal.0.dl_src;
    dl_dst = normal.0.dl_dst;
    dl_vlan = normal.0.dl_vlan;
    dl_vlan_pcp = normal.0.dl_vlan_pcp;
    dl_type = normal.0.dl_type;
    nw_tos = normal.0.nw_tos;
    nw_proto = normal.0.nw_proto;
    nw_src = normal.0.nw_src;
    nw_dst = normal.0.nw_dst;
    tp_src = normal.0.tp_src;
    tp_dst = normal.0.tp_dst;
  },
  applied_with m port given ∙ ap (λ (k : Pattern). record k { in_port = port }) normal.1,
)
