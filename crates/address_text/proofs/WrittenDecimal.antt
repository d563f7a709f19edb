-- Network addresses that are read are what is printed for them.
use Rattle.std.proofs.Common.{◌≡◌, ◌⊎◌, inl, inr, ℕ, ◌+◌, ◌-◌, ◌*◌, ◌/◌, ◌%◌, ◌^◌, ◌<◌, ◌≤◌, ◌==◌, ◌&&◌, Bool, true, false, cond, nat_le, leb-true, eqb-true, List, [], ◌∷◌, ◌++◌, length, Option, Some, None, option_map, decimal, refl, sym, ap, subst, ◌∙◌, append_assoc, arith}
use Rattle.std.proofs.lemmas.Bool.{and_parts}
use Rattle.std.proofs.lemmas.Bool.Decides.{nat_tests}
use Rattle.std.proofs.lemmas.Fmt.{decimal_digit, decimal_step}
use Rattle.std.proofs.lemmas.List.{append-nil, nil_from_length}
use Rattle.std.proofs.lemmas.Option.{same_Some, cond_some}
use Rattle.of10_model.specs.declared.pattern.Prefix.{Prefix}
use Rattle.of10_model.specs.Meet.{◌>>=◌}
use Rattle.of10_model.specs.Pattern.{leading_bits}
use Rattle.address_text.specs.Addresses.{digit_at, with_digit_in, with_digit, digits_at, octet_of, octet_at, behind_byte, dotted_at, prefix_length, bits_after, prefix}
use Rattle.address_text.specs.Texts.{dotted_text}
use Rattle.address_text.specs.Written.{IsPrefixText, PrefixesAreAsWritten}
use Rattle.address_text.proofs.Ranges.{bind_some, map_some, octet_below, octets_read, dotted_below, bits_after_range}
use Rattle.address_text.proofs.Printed.{steps, dotted_back, bits_back}

abbrev Read : Type 0
Read = ℕ × List ℕ

-- ---- one to three digits

decimal_two : (x y : ℕ) → 0 < x → x < 10 → y < 10 → decimal (x * 10 + y) ≡ (48 + x) ∷ (48 + y) ∷ []
decimal_two x y some lt lt' =
    let high : (x * 10 + y) / 10 ≡ x = omega (arith, lt') in
    let low : (x * 10 + y) % 10 ≡ y = omega (arith, lt') in
    rw (decimal_step (x * 10 + y) (omega (arith, some)) (omega (arith, lt, lt')), high, low, decimal_digit x lt) refl

decimal_three : (x y z : ℕ) → 0 < x → x < 10 → y < 10 → z < 10 → decimal ((x * 10 + y) * 10 + z) ≡ (48 + x) ∷ (48 + y) ∷ (48 + z) ∷ []
decimal_three x y z some lt lt' lt'' =
    let high : ((x * 10 + y) * 10 + z) / 10 ≡ x * 10 + y = omega (arith, lt'') in
    let low : ((x * 10 + y) * 10 + z) % 10 ≡ z = omega (arith, lt'') in
    rw (decimal_step ((x * 10 + y) * 10 + z) (omega (arith, some)) (omega (arith, lt, lt', lt'')), high, low, decimal_two x y some lt lt') refl

-- a text begins with a digit and goes on
abbrev IsDigitFirst : List ℕ → Read → Type 0
IsDigitFirst text x = (text ≡ (48 + x.0) ∷ x.1) × (x.0 < 10)

digit_written : (text : List ℕ) (x : Read) → digit_at text ≡ Some x → IsDigitFirst text x
digit_written [] x e = absurd cc
digit_written (c ∷ rest) x e =
    let made : Read = (c - 48, rest) in
    let k = cond_some (nat_le 48 c && nat_le c 57) made x e in
    let (from, to) = and_parts (nat_le 48 c) (nat_le c 57) k.0 in
    let low = leb-true 48 c from in
    let high = leb-true c 57 to in
    let same : c ≡ 48 + (c - 48) = omega (arith, low) in
    subst (IsDigitFirst (c ∷ rest)) k.1 (ap (λ (y : ℕ). y ∷ rest) same, omega (arith, high))

third : (x y : ℕ) (rest : List ℕ) (o : Option Read) (n : Read) → 0 < x → x < 10 → y < 10 → digit_at rest ≡ o → with_digit_in (x * 10 + y, rest) o ≡ n → (48 + x) ∷ (48 + y) ∷ rest ≡ decimal n.0 ++ n.1
third x y rest None n some lt lt' at e = subst (λ (m : Read). (48 + x) ∷ (48 + y) ∷ rest ≡ decimal m.0 ++ m.1) e (rw (decimal_two x y some lt lt') refl)
third x y rest (Some z) n some lt lt' at e =
    let (is, lt'') = digit_written rest z at in
    subst (λ (m : Read). (48 + x) ∷ (48 + y) ∷ rest ≡ decimal m.0 ++ m.1) e (rw (decimal_three x y z.0 some lt lt' lt'') (ap (λ (r : List ℕ). (48 + x) ∷ (48 + y) ∷ r) is))

second : (x : ℕ) (rest : List ℕ) (o : Option Read) (n : Read) → 0 < x → x < 10 → digit_at rest ≡ o → with_digit (with_digit_in (x, rest) o) ≡ n → (48 + x) ∷ rest ≡ decimal n.0 ++ n.1
second x rest None n some lt at e =
    let stops : with_digit (x, rest) ≡ (x, rest) = rw at refl in
    subst (λ (m : Read). (48 + x) ∷ rest ≡ decimal m.0 ++ m.1) (sym stops ∙ e) (rw (decimal_digit x lt) refl)
second x rest (Some y) n some lt at e =
    let (is, lt') = digit_written rest y at in
    ap (λ (r : List ℕ). (48 + x) ∷ r) is ∙ third x y.0 y.1 (digit_at y.1) n some lt lt' refl e

first_written : (first : Read) (none : Bool) (n : Read) → (first.0 == 0) ≡ none → first.0 < 10 → cond none first (with_digit (with_digit first)) ≡ n → (48 + first.0) ∷ first.1 ≡ decimal n.0 ++ n.1
first_written first true n zero lt e = subst (λ (m : Read). (48 + first.0) ∷ first.1 ≡ decimal m.0 ++ m.1) e (rw (decimal_digit first.0 lt) refl)
first_written first false n other lt e =
    let some : 0 < first.0 = grind (arith, nat_tests, other) in
    second first.0 first.1 (digit_at first.1) n some lt refl e

-- the digits that are read are the decimal text of the number
digits_written : (text : List ℕ) (n : Read) → digits_at text ≡ Some n → text ≡ decimal n.0 ++ n.1
digits_written text n e =
    let a = map_some (λ (first : Read). cond (first.0 == 0) first (with_digit (with_digit first))) (digit_at text) n e in
    let (is, lt) = digit_written text a.0 a.1 in
    is ∙ first_written a.0 (a.0.0 == 0) n refl lt a.2

octet_written : (text : List ℕ) (n : Read) → octet_at text ≡ Some n → text ≡ decimal n.0 ++ n.1
unfolding octet_at
octet_written text n e =
    let a = bind_some (digits_at text) octet_of n e in
    let k = cond_some (nat_le a.0.0 255) a.0 n a.2 in
    subst (λ (m : Read). text ≡ decimal m.0 ++ m.1) k.1 (digits_written text a.0 a.1)

-- ---- four octets

after_written : (byte : ℕ) (text rest : List ℕ) → behind_byte byte text ≡ Some rest → text ≡ byte ∷ rest
after_written byte [] rest e = absurd cc
after_written byte (c ∷ others) rest e =
    let k = cond_some (c == byte) others rest e in
    let same : c ≡ byte = eqb-true c byte k.0 in
    rw (same, k.1) refl

chain : (a b c d text a_rest b_text b_rest c_text c_rest d_text rest : List ℕ) → text ≡ a ++ a_rest → a_rest ≡ 46 ∷ b_text → b_text ≡ b ++ b_rest → b_rest ≡ 46 ∷ c_text → c_text ≡ c ++ c_rest → c_rest ≡ 46 ∷ d_text → d_text ≡ d ++ rest
    → text ≡ (a ++ (46 ∷ b ++ (46 ∷ c ++ (46 ∷ d)))) ++ rest
chain a b c d text a_rest b_text b_rest c_text c_rest d_text rest h1 h2 h3 h4 h5 h6 h7 = rw (h1, h2, h3, h4, h5, h6, h7) (simp append_assoc refl)

dotted_made : (a b c d : ℕ) → a ≤ 255 → b ≤ 255 → c ≤ 255 → d ≤ 255 → decimal a ++ (46 ∷ decimal b ++ (46 ∷ decimal c ++ (46 ∷ decimal d))) ≡ dotted_text (((a * 256 + b) * 256 + c) * 256 + d)
dotted_made a b c d ha hb hc hd =
    let n = ((a * 256 + b) * 256 + c) * 256 + d in
    let na : n / 2 ^ 24 % 256 ≡ a = omega (arith, ha, hb, hc, hd) in
    let nb : n / 2 ^ 16 % 256 ≡ b = omega (arith, ha, hb, hc, hd) in
    let nc : n / 2 ^ 8 % 256 ≡ c = omega (arith, ha, hb, hc, hd) in
    let nd : n % 256 ≡ d = omega (arith, ha, hb, hc, hd) in
    rw (na, nb, nc, nd) refl

four_written : (a b c d : ℕ) (text a_rest b_text b_rest c_text c_rest d_text rest : List ℕ) → a ≤ 255 → b ≤ 255 → c ≤ 255 → d ≤ 255
    → text ≡ decimal a ++ a_rest → a_rest ≡ 46 ∷ b_text → b_text ≡ decimal b ++ b_rest → b_rest ≡ 46 ∷ c_text → c_text ≡ decimal c ++ c_rest → c_rest ≡ 46 ∷ d_text → d_text ≡ decimal d ++ rest
    → text ≡ dotted_text (((a * 256 + b) * 256 + c) * 256 + d) ++ rest
four_written a b c d text a_rest b_text b_rest c_text c_rest d_text rest ha hb hc hd h1 h2 h3 h4 h5 h6 h7 =
    chain (decimal a) (decimal b) (decimal c) (decimal d) text a_rest b_text b_rest c_text c_rest d_text rest h1 h2 h3 h4 h5 h6 h7
    ∙ ap (λ (t : List ℕ). t ++ rest) (dotted_made a b c d ha hb hc hd)

dotted_written : (text : List ℕ) (n : Read) → dotted_at text ≡ Some n → text ≡ dotted_text n.0 ++ n.1
dotted_written text n e =
    let o = octets_read text n e in
    subst (λ (m : Read). text ≡ dotted_text m.0 ++ m.1) o.whole
    (four_written o.first.0 o.second.0 o.third.0 o.fourth.0 text o.first.1 o.behind_first o.second.1 o.behind_second o.third.1 o.behind_third o.fourth.1
    (octet_below text o.first o.first_is)
    (octet_below o.behind_first o.second o.second_is)
    (octet_below o.behind_second o.third o.third_is)
    (octet_below o.behind_third o.fourth o.fourth_is)
    (octet_written text o.first o.first_is)
    (after_written 46 o.first.1 o.behind_first o.first_dot)
    (octet_written o.behind_first o.second o.second_is)
    (after_written 46 o.second.1 o.behind_second o.second_dot)
    (octet_written o.behind_second o.third o.third_is)
    (after_written 46 o.third.1 o.behind_third o.third_dot)
    (octet_written o.behind_third o.fourth o.fourth_is))

-- ---- how many leading bits

bits_of_written : (n : Read) (bits : ℕ) → prefix_length n ≡ Some bits → decimal n.0 ++ n.1 ≡ decimal bits
bits_of_written n bits e =
    let k = cond_some (nat_le 1 n.0 && nat_le n.0 32 && length n.1 == 0) n.0 bits e in
    let outer = and_parts (nat_le 1 n.0 && nat_le n.0 32) (length n.1 == 0) k.0 in
    let nothing : n.1 ≡ [] = nil_from_length n.1 (eqb-true (length n.1) 0 outer.1) in
    ap (λ (rest : List ℕ). decimal n.0 ++ rest) nothing ∙ append-nil (decimal n.0) ∙ ap decimal k.1

bits_written : (text : List ℕ) (bits : ℕ) → bits_after text ≡ Some bits → (text ≡ 47 ∷ decimal bits) ⊎ ((bits ≡ 32) × (text ≡ []))
bits_written [] bits e = inr (sym (same_Some 32 bits e), refl)
bits_written (c ∷ rest) bits e =
    let a = bind_some (behind_byte 47 (c ∷ rest) >>= octet_at) prefix_length bits e in
    let b = bind_some (behind_byte 47 (c ∷ rest)) octet_at a.0 a.1 in
    inl (after_written 47 (c ∷ rest) b.0 b.1 ∙ ap (λ (t : List ℕ). 47 ∷ t) (octet_written b.0 a.0 b.2 ∙ bits_of_written a.0 bits a.2))

-- ---- both ways

text_cases : (text rest : List ℕ) (address bits : ℕ) → text ≡ dotted_text address ++ rest → (rest ≡ 47 ∷ decimal bits) ⊎ ((bits ≡ 32) × (rest ≡ []))
    → (text ≡ dotted_text address ++ (47 ∷ decimal bits)) ⊎ ((bits ≡ 32) × (text ≡ dotted_text address))
text_cases text rest address bits e (inl slash) = inl (e ∙ ap (λ (r : List ℕ). dotted_text address ++ r) slash)
text_cases text rest address bits e (inr h) = inr (h.0, e ∙ ap (λ (r : List ℕ). dotted_text address ++ r) h.1 ∙ append-nil (dotted_text address))

prefix_written : (text : List ℕ) (p : Prefix) → prefix text ≡ Some p → IsPrefixText text p
unfolding prefix
prefix_written text p e =
    let a = bind_some (dotted_at text) (λ (address : Read). option_map (leading_bits address.0) (bits_after address.1)) p e in
    let b = map_some (leading_bits a.0.0) (bits_after a.0.1) p a.2 in
    let range = bits_after_range a.0.1 b.0 b.1 in
    record {
      address = a.0.0;
      bits = b.0;
      below = dotted_below text a.0 a.1;
      some = range.0;
      few = range.1;
      prefix_is = b.2;
      written = text_cases text a.0.1 a.0.0 b.0 (dotted_written text a.0 a.1) (bits_written a.0.1 b.0 b.1);
    }

read_prefix : (address bits : ℕ) (rest : List ℕ) → address < 2 ^ 32 → digit_at rest ≡ None → bits_after rest ≡ Some bits → prefix (dotted_text address ++ rest) ≡ Some (leading_bits address bits)
unfolding prefix
read_prefix address bits rest below none read =
    steps (dotted_at (dotted_text address ++ rest)) _ (address, rest) _ (dotted_back address rest below none) (ap (option_map (leading_bits address)) read)

prefix_read : (text : List ℕ) (p : Prefix) (address bits : ℕ) → address < 2 ^ 32 → 1 ≤ bits → bits ≤ 32 → leading_bits address bits ≡ p
    → (text ≡ dotted_text address ++ (47 ∷ decimal bits)) ⊎ ((bits ≡ 32) × (text ≡ dotted_text address)) → prefix text ≡ Some p
prefix_read text p address bits below some few is (inl e) = ap prefix e ∙ read_prefix address bits (47 ∷ decimal bits) below refl (bits_back bits some few) ∙ ap Some is
prefix_read text p address bits below some few is (inr h) =
    ap prefix (h.1 ∙ sym (append-nil (dotted_text address))) ∙ read_prefix address bits [] below refl (ap Some (sym h.0)) ∙ ap Some is

pub prefixes : PrefixesAreAsWritten
prefixes text p = (prefix_written text p, λ w. prefix_read text p w.address w.bits w.below w.some w.few w.prefix_is w.written)
