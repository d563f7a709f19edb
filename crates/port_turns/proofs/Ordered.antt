-- Ports in the order of their numbers, as a sort makes it, and the message that has them.
use Rattle.std.proofs.Common.{◌≡◌, ℕ, ◌-◌, ◌*◌, ◌/◌, ◌%◌, ◌≤◌, ◌==◌, not, nat_lt, List, ◌++◌, length, take, drop, replicate, refl, sym, ap, subst, ◌∙◌, arith, inl, inr}
use Rattle.std.specs.Prelude.{IsTrue}
use Rattle.std.specs.List.Sorted.{IsSortedBy, IsStableBy}
use Rattle.std.proofs.lemmas.Bool.{cases_lt, ne_eqb, and_parts, eqb-true}
use Rattle.std.proofs.lemmas.List.{length-append, length-take-le, length-drop, take_at, drop_all}
use Rattle.std.proofs.lemmas.List.Sorted.{length_permutation}
use Rattle.byteorder.specs.Numbers.{big_number-reads_back}
use Rattle.of10_model.specs.Padding.{AlikeBut}
use Rattle.of10_model.proofs.Padding.{number_before}
use Rattle.of10_ctl.specs.Heads.{length_field}
use Rattle.of10_ctl.specs.Frames.{IsFrame}
use Rattle.of10_port.specs.Ports.{port_number, bare_port, port_bytes}
use Rattle.of10_port.specs.Features.{has_whole_ports}
use Rattle.flowspace.proofs.Ranking.{goes_before, IsRankOrNone, IsPermutation-ranked, ranked-from_sort}
use Rattle.port_turns.specs.Sent.{descent, in_number_order}

bare_number : (n : ℕ) → n ≤ 65535 → port_number (bare_port n) ≡ n
bare_number n within = big_number-reads_back 2 n (replicate 46 0) (omega (arith, within))

-- each descent that a number may have is that of some port
pub descents : (p : ℕ) → IsRankOrNone descent p (bare_port (65535 - p))
descents p = elim (cases_lt 65535 p) [
  | inl beyond ↦ inr (λ port. ne_eqb (descent port) p (λ is. omega (arith, is, beyond)))
  | inr within ↦ inl (let is = bare_number (65535 - p) (omega arith) in omega (arith, is, within))
]

-- what a stable sort by descending descent makes
pub in_number_order-from_sort : (ports sorted : List (List ℕ)) → IsSortedBy (goes_before descent) sorted → IsStableBy (goes_before descent) ports sorted → sorted ≡ in_number_order ports
in_number_order-from_sort ports sorted up stable = ranked-from_sort descent (λ p. bare_port (65535 - p)) descents ports sorted up stable

pub in_number_order-length : (ports : List (List ℕ)) → length (in_number_order ports) ≡ length ports
in_number_order-length ports = length_permutation ports (in_number_order ports) (IsPermutation-ranked descent ports)

-- a message that tells ports, with others in their place, is a frame again
pub frame_with : (f bytes : List ℕ) (ports : List (List ℕ)) → IsFrame f → IsTrue (has_whole_ports f) → 32 ≤ length f → length ports ≡ length (drop 32 f) / 48 → length (port_bytes ports) ≡ 48 * length ports
    → bytes ≡ take 32 f ++ port_bytes ports → IsFrame bytes
frame_with f bytes ports frame whole long count size is =
    let rest = eqb-true ((length f - 32) % 48) 0 (and_parts (not (nat_lt (length f) 32)) ((length f - 32) % 48 == 0) whole).1 in
    let behind = length-drop 32 f in
    let front = length-take-le 32 f long in
    let all = length-append (take 32 f) (port_bytes ports) in
    let same : length bytes ≡ length f = ap length is ∙ omega (arith, rest, behind, front, all, count, size, long) in
    let alike : AlikeBut 32 (length f) f bytes = record {
      size = sym same;
      front = sym (ap (take 32) is ∙ take_at (take 32 f) (port_bytes ports) 32 front);
      rest = drop_all (length f) f (omega arith) ∙ sym (drop_all (length f) bytes (omega (arith, same)));
    } in
    let field : length_field f ≡ length_field bytes = number_before 32 (length f) f bytes alike 2 2 (omega arith) in
    record {
      header = subst (λ k. 8 ≤ k) (sym same) frame.header;
      small = subst (λ k. k ≤ 65535) (sym same) frame.small;
      sized = same ∙ frame.sized ∙ rw field refl;
    }
