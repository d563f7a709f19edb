-- Pairs are the same exactly where the order says so, and what stands in order has each pair once.
use Rattle.std.proofs.Common.{ℕ, ◌≡◌, ◌≢◌, ◌==◌, refl, sym, ap, subst, ◌∙◌, true, false, inl, inr}
use Rattle.std.specs.declared.cmp.Ordering.TheVariants.{Less, Equal, Greater}
use Rattle.std.specs.Ordering.{nat_cmp}
use Rattle.std.specs.Cmp.Lexicographic.{slice_cmp}
use Rattle.std.proofs.lemmas.Bool.{eqb-true, eq-eqb, and_parts, and_from, cases_Bool}
use Rattle.std.proofs.lemmas.Cmp.{tied_itself}
use Rattle.std.proofs.lemmas.Map.Lookups.{exact_unsigned, exact_bytes, exact_pairs}
use Rattle.of10_model.specs.declared.pattern.Pattern.{Pattern}
use Rattle.of10_model.specs.Same.{is_same}
use Rattle.of10_model.specs.Normal.{IsNormal, Norm}
use Rattle.of10_model.specs.Spelling.{Spell}
use Rattle.of10_model.proofs.Same.{one-is_same, is_same-one}
use Rattle.of10_model.proofs.Spelling.{Norm-Spell}
use Rattle.flow_book.specs.declared.booked.Booked.{Booked}
use Rattle.flow_book.specs.Order.{stands_to}
use Rattle.flow_book.specs.Books.{is_pair}
use Rattle.flow_book.proofs.Order.{key_of, key_cmp, key_cmp_total}

pub other_match : (a b : Pattern) → a ≢ b → is_same a b ≡ false
other_match a b apart = elim (cases_Bool (is_same a b)) [ inl same ↦ absurd (apart (one-is_same a b same)) | inr other ↦ other ]

-- ---- pairs

-- the pair of a match and a priority has them
pub record HasPair (m : Pattern) (p : ℕ) (b : Booked) : Type 0 where
  pub at_priority : b.priority ≡ p
  pub of_match : b.pattern ≡ m

pub pair_parts : (m : Pattern) (p : ℕ) (b : Booked) → is_pair m p b ≡ true → HasPair m p b
pair_parts m p b e =
    let both = and_parts (b.priority == p) (is_same b.pattern m) e in
    record { at_priority = eqb-true b.priority p both.0; of_match = one-is_same b.pattern m both.1 }

pub pair_from : (m : Pattern) (p : ℕ) (b : Booked) → b.priority ≡ p → b.pattern ≡ m → is_pair m p b ≡ true
pair_from m p b e f = and_from (b.priority == p) (is_same b.pattern m) (eq-eqb b.priority p e) (subst (λ q. is_same b.pattern q ≡ true) f (is_same-one b.pattern))

pub pair_itself : (b : Booked) → is_pair b.pattern b.priority b ≡ true
pair_itself b = pair_from b.pattern b.priority b refl refl

-- ---- the order distinguishes pairs

same_spelling : (a b : Pattern) → IsNormal a → IsNormal b → Spell a ≡ Spell b → a ≡ b
same_spelling a b na nb e = sym (Norm-Spell a na) ∙ ap Norm e ∙ Norm-Spell b nb

pub pair-Equal : (m : Pattern) (p : ℕ) (b : Booked) → IsNormal m → IsNormal b.pattern → stands_to b m p ≡ Equal → is_pair m p b ≡ true
pair-Equal m p b nm nb e =
    let key = exact_pairs nat_cmp (slice_cmp nat_cmp) exact_unsigned exact_bytes (key_of b) (p, Spell m) e in
    pair_from m p b (ap (λ k. k.0) key) (same_spelling b.pattern m nb nm (ap (λ k. k.1) key))

pub Equal-pair : (m : Pattern) (p : ℕ) (b : Booked) → is_pair m p b ≡ true → stands_to b m p ≡ Equal
Equal-pair m p b e =
    let h = pair_parts m p b e in
    subst (λ q. key_cmp (key_of b) (q, Spell m) ≡ Equal) h.at_priority
    (subst (λ n. key_cmp (key_of b) (b.priority, Spell n) ≡ Equal) h.of_match (tied_itself key_cmp_total (key_of b)))

-- a pair that stands below or above is another
pub other-Less : (m : Pattern) (p : ℕ) (b : Booked) → stands_to b m p ≡ Less → is_pair m p b ≡ false
other-Less m p b e = elim (cases_Bool (is_pair m p b)) [ inl same ↦ (let equal = Equal-pair m p b same in cc) | inr other ↦ other ]

pub other-Greater : (m : Pattern) (p : ℕ) (b : Booked) → stands_to b m p ≡ Greater → is_pair m p b ≡ false
other-Greater m p b e = elim (cases_Bool (is_pair m p b)) [ inl same ↦ (let equal = Equal-pair m p b same in cc) | inr other ↦ other ]
