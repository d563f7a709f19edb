-- A message in parts: a number that is exchanged within one leaves the others.
use Rattle.std.proofs.Common.{◌≡◌, ℕ, ◌+◌, ◌-◌, ◌≤◌, List, ◌++◌, length, take, drop, refl, sym, ap, ap₂, ◌∙◌, inl, inr, append_assoc, arith}
use Rattle.std.proofs.lemmas.Bool.{cases_Bool}
use Rattle.std.proofs.lemmas.List.{take_at, drop_at, drop-drop, take-append-drop, take-append-le, drop-append-le, length-take-le, length-drop, length-append}
use Rattle.std.proofs.Math.Seq.{take-append-add, drop-append-add}
use Rattle.byteorder.specs.Endian.{big_bytes, big_number}
use Rattle.of10_model.specs.Normal.{number_at, bit}
use Rattle.of10_action.proofs.Refused.{number_front}
use Rattle.of10_ctl.specs.Numbers.{with_number}
use Rattle.flowspace.specs.Swaps.{Pairs}
use Rattle.port_turns.specs.Turns.{written, turn_port, turn_match}
use Rattle.port_turns.specs.Sent.{turned_part}

-- ---- parts

pub part_is : (turn : List ℕ → List ℕ) (place size : ℕ) (front own rest : List ℕ) → length front ≡ place → length own ≡ size
    → turned_part turn place size (front ++ (own ++ rest)) ≡ front ++ (turn own ++ rest)
part_is turn place size front own rest here long =
    let behind = drop_at front (own ++ rest) place here in
    let last : drop (place + size) (front ++ (own ++ rest)) ≡ rest = sym (drop-drop size place (front ++ (own ++ rest))) ∙ ap (drop size) behind ∙ drop_at own rest size long in
    rw (take_at front (own ++ rest) place here, behind, take_at own rest size long, last) refl

pub parts_of : (place size : ℕ) (bytes : List ℕ) → take place bytes ++ (take size (drop place bytes) ++ drop (place + size) bytes) ≡ bytes
parts_of place size bytes =
    ap (λ (l : List ℕ). take place bytes ++ (take size (drop place bytes) ++ l)) (sym (drop-drop size place bytes))
    ∙ ap (λ (l : List ℕ). take place bytes ++ l) (take-append-drop size (drop place bytes))
    ∙ take-append-drop place bytes

-- ---- one number

pub number_after : (front x : List ℕ) (k n : ℕ) → number_at (front ++ x) (length front + k) n ≡ number_at x k n
number_after front x k n = ap (big_number n) (sym (drop-drop k (length front) (front ++ x)) ∙ ap (drop k) (drop_at front x (length front) refl))

with_after : (front x : List ℕ) (k n : ℕ) → with_number (length front + k) n (front ++ x) ≡ front ++ with_number k n x
with_after front x k n =
    let behind : drop (length front + k + 2) (front ++ x) ≡ drop (k + 2) x = ap (λ m. drop m (front ++ x)) (omega arith) ∙ drop-append-add front x (k + 2) in
    ap₂ (λ (a b : List ℕ). a ++ (big_bytes 2 n ++ b)) (take-append-add front x k) behind ∙ append_assoc front (take k x) (big_bytes 2 n ++ drop (k + 2) x)

with_front_part : (own rest : List ℕ) (k n : ℕ) → k + 2 ≤ length own → with_number k n (own ++ rest) ≡ with_number k n own ++ rest
with_front_part own rest k n le =
    ap₂ (λ (a b : List ℕ). a ++ (big_bytes 2 n ++ b)) (take-append-le k own rest (omega (arith, le))) (drop-append-le (k + 2) own rest le)
    ∙ ap (λ (l : List ℕ). take k own ++ l) (sym (append_assoc (big_bytes 2 n) (drop (k + 2) own) rest))
    ∙ sym (append_assoc (take k own) (big_bytes 2 n ++ drop (k + 2) own) rest)

module _ (pairs : Pairs) where
  pub port_after : (front x : List ℕ) (k : ℕ) → turn_port pairs (length front + k) (front ++ x) ≡ front ++ turn_port pairs k x
  port_after front x k =
      ap (λ n. with_number (length front + k) (written pairs n) (front ++ x)) (number_after front x k 2) ∙ with_after front x k (written pairs (number_at x k 2))

  pub port_front : (own rest : List ℕ) (k : ℕ) → k + 2 ≤ length own → turn_port pairs k (own ++ rest) ≡ turn_port pairs k own ++ rest
  port_front own rest k le =
      ap (λ n. with_number k (written pairs n) (own ++ rest)) (number_front own rest k 2 le) ∙ with_front_part own rest k (written pairs (number_at own k 2)) le

  pub port_within : (front own rest : List ℕ) (k : ℕ) → k + 2 ≤ length own → turn_port pairs (length front + k) (front ++ (own ++ rest)) ≡ front ++ (turn_port pairs k own ++ rest)
  port_within front own rest k le = port_after front (own ++ rest) k ∙ ap (λ (l : List ℕ). front ++ l) (port_front own rest k le)

  pub match_front : (own rest : List ℕ) (k : ℕ) → k + 40 ≤ length own → turn_match pairs k (own ++ rest) ≡ turn_match pairs k own ++ rest
  match_front own rest k le =
      let word = number_front own rest k 4 (omega (arith, le)) in
      elim (cases_Bool (bit (number_at own k 4) 0)) [
        | inl free ↦ rw (word, free) refl
        | inr clear ↦ rw (word, clear) (port_front own rest (k + 4) (omega (arith, le)))
      ]

  match_after : (front x : List ℕ) (k : ℕ) → turn_match pairs (length front + k) (front ++ x) ≡ front ++ turn_match pairs k x
  match_after front x k =
      let word = number_after front x k 4 in
      elim (cases_Bool (bit (number_at x k 4) 0)) [
        | inl free ↦ rw (word, free) refl
        | inr clear ↦ rw (word, clear) (ap (λ n. turn_port pairs n (front ++ x)) (omega arith) ∙ port_after front x (k + 4))
      ]

  pub match_within : (front own rest : List ℕ) (k : ℕ) → k + 40 ≤ length own → turn_match pairs (length front + k) (front ++ (own ++ rest)) ≡ front ++ (turn_match pairs k own ++ rest)
  match_within front own rest k le = match_after front (own ++ rest) k ∙ ap (λ (l : List ℕ). front ++ l) (match_front own rest k le)

-- ---- a loop over parts

-- bytes of which a part was turned, another is left, which has a form, and what is behind both stays: all together are the whole that is wanted
pub record Turning (turn : List ℕ → List ℕ) (Form : List ℕ → Type 0) (bytes : List ℕ) (place end : ℕ) (whole : List ℕ) : Type 0 where
  pub done : List ℕ
  pub left : List ℕ
  pub rest : List ℕ
  pub parts : bytes ≡ done ++ (left ++ rest)
  pub here : length done ≡ place
  pub there : place + length left ≡ end
  pub form : Form left
  pub wanted : done ++ (turn left ++ rest) ≡ whole

pub turning_starts : (turn : List ℕ → List ℕ) (Form : List ℕ → Type 0) (bytes : List ℕ) (place end : ℕ) → place ≤ end → end ≤ length bytes → Form (take (end - place) (drop place bytes))
    → Turning turn Form bytes place end (turned_part turn place (end - place) bytes)
turning_starts turn Form bytes place end first within form =
    let long = length-drop place bytes in
    let left = length-take-le (end - place) (drop place bytes) (omega (arith, first, within, long)) in
    record {
      done = take place bytes;
      left = take (end - place) (drop place bytes);
      rest = drop (place + (end - place)) bytes;
      parts = sym (parts_of place (end - place) bytes);
      here = length-take-le place bytes (omega (arith, first, within));
      there = omega (arith, first, left);
      form = form;
      wanted = refl;
    }

-- a part at the front of what is left is turned
pub turning_goes_on : (turn : List ℕ → List ℕ) (Form : List ℕ → Type 0) (bytes next : List ℕ) (place end size : ℕ) (whole : List ℕ) (t : Turning turn Form bytes place end whole)
    → (own turned more : List ℕ) → t.left ≡ own ++ more → length own ≡ size → length turned ≡ size → turn t.left ≡ turned ++ turn more → Form more → next ≡ t.done ++ (turned ++ (more ++ t.rest))
    → Turning turn Form next (place + size) end whole
turning_goes_on turn Form bytes next place end size whole t own turned more split long same parts form is = record {
  done = t.done ++ turned;
  left = more;
  rest = t.rest;
  parts = is ∙ sym (append_assoc t.done turned (more ++ t.rest));
  here = (let all = length-append t.done turned in let h = t.here in omega (arith, all, h, same));
  there = (let all = ap length split ∙ length-append own more in let e = t.there in omega (arith, all, e, long));
  form = form;
  wanted = append_assoc t.done turned (turn more ++ t.rest) ∙ ap (λ (l : List ℕ). t.done ++ l) (sym (append_assoc turned (turn more) t.rest) ∙ ap (λ (l : List ℕ). l ++ t.rest) (sym parts)) ∙ t.wanted;
}

-- once nothing is left the bytes are the whole
pub turning_ends : (turn : List ℕ → List ℕ) (Form : List ℕ → Type 0) (bytes : List ℕ) (place end : ℕ) (whole : List ℕ) (t : Turning turn Form bytes place end whole) → turn t.left ≡ t.left → bytes ≡ whole
turning_ends turn Form bytes place end whole t same = t.parts ∙ ap (λ (l : List ℕ). t.done ++ (l ++ t.rest)) (sym same) ∙ t.wanted

-- what is left ends within the bytes
pub turning_within : (turn : List ℕ → List ℕ) (Form : List ℕ → Type 0) (bytes : List ℕ) (place end : ℕ) (whole : List ℕ) → Turning turn Form bytes place end whole → end ≤ length bytes
turning_within turn Form bytes place end whole t =
    let all = ap length t.parts ∙ length-append t.done (t.left ++ t.rest) in
    let behind = length-append t.left t.rest in
    let here = t.here in
    let there = t.there in
    omega (arith, all, behind, here, there)
