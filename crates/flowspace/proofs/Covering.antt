-- Indexes of the rules that a slice writes.
use Rattle.std.proofs.Common.{◌≡◌, ℕ, ◌+◌, ◌<◌, inl, inr, ◌&&◌, Bool, true, false, if◌then◌else◌, List, [], ◌∷◌, ◌++◌, length, get_or, take, All, None, sym, ap, subst, ◌∙◌, arith}
use Rattle.std.proofs.lemmas.Bool.{cases_lt}
use Rattle.std.proofs.lemmas.List.{length-append, get_or_append_left, get_or_push}
use Rattle.of10_model.specs.declared.pattern.Pattern.{Pattern}
use Rattle.of10_model.specs.Header.{Header}
use Rattle.of10_model.specs.Pattern.{has}
use Rattle.of10_model.specs.Normal.{IsNormal, IsInRange}
use Rattle.of10_model.specs.Exact.{exact_of}
use Rattle.of10_model.specs.Inclusion.{includes_of}
use Rattle.pattern_index.specs.declared.index.PatternIndex.{PatternIndex}
use Rattle.pattern_index.specs.Places.{PlacedPattern, StandsFor}
use Rattle.pattern_index.proofs.Keys.{includes_exact}
use Rattle.pattern_index.proofs.Firsts.{finds_put, finds_same, position-none}
use Rattle.flowspace.specs.declared.rules.Rule.{Rule}
use Rattle.flowspace.specs.declared.writes.SliceWrites.{SliceWrites}
use Rattle.flowspace.specs.Rules.{is_written_by}
use Rattle.flowspace.specs.Places.{counted, covers_match, covers_header, first_cover, first_written, IsCoverIndex, IsWritesOf, AreWrites}

in_range : (by_port : Bool) (m : Pattern) → IsInRange m → IsInRange (counted by_port m)
in_range true m range = range
in_range false m range = record {
  in_port = tt;
  dl_src = range.dl_src;
  dl_dst = range.dl_dst;
  dl_vlan = range.dl_vlan;
  dl_vlan_pcp = range.dl_vlan_pcp;
  dl_type = range.dl_type;
  nw_tos = range.nw_tos;
  nw_proto = range.nw_proto;
  nw_src = range.nw_src;
  nw_dst = range.nw_dst;
  tp_src = range.tp_src;
  tp_dst = range.tp_dst;
}

-- a rule that the slice writes is put behind those before it
pub covers_more : (by_port : Bool) (rules : List Rule) (slot i : ℕ) (rule : Rule) (old new : PatternIndex) → i < length rules → rule ≡ get_or rules i rule → is_written_by slot rule ≡ true → IsNormal rule.pattern
    → ((kept : List PlacedPattern) → StandsFor kept old → StandsFor (record { pattern = counted by_port rule.pattern; place = i } ∷ kept) new)
    → IsCoverIndex by_port (take i rules) slot old → IsCoverIndex by_port (take (i + 1) rules) slot new
covers_more by_port rules slot i rule old new lt at written normal put before = record {
  of_matches =
      finds_put (λ (m : Pattern). m) (covers_match slot by_port) rules i rule (counted by_port rule.pattern) old new lt at
      (λ m. ap (λ b. b && includes_of (counted by_port rule.pattern) m) (sym written)) put before.of_matches;
  of_headers =
      finds_put exact_of (covers_header slot by_port) rules i rule (counted by_port rule.pattern) old new lt at
      (λ h. includes_exact (counted by_port rule.pattern) h (in_range by_port rule.pattern normal.0) ∙ ap (λ b. b && has (counted by_port rule.pattern) h) (sym written)) put before.of_headers;
}

-- and another is passed over
pub covers_same : (by_port : Bool) (rules : List Rule) (slot i : ℕ) (rule : Rule) (index : PatternIndex) → i < length rules → rule ≡ get_or rules i rule → is_written_by slot rule ≡ false
    → IsCoverIndex by_port (take i rules) slot index → IsCoverIndex by_port (take (i + 1) rules) slot index
covers_same by_port rules slot i rule index lt at not_written before = record {
  of_matches =
      finds_same (λ (m : Pattern). m) (covers_match slot by_port) rules i rule index lt at (λ m. ap (λ b. b && includes_of (counted by_port rule.pattern) m) not_written) before.of_matches;
  of_headers =
      finds_same exact_of (covers_header slot by_port) rules i rule index lt at (λ h. ap (λ b. b && has (counted by_port rule.pattern) h) not_written) before.of_headers;
}

-- ---- what each slice writes

-- what one more slice writes stands behind that of those before it
pub writes_more : (rules : List Rule) (old new : List SliceWrites) (own : SliceWrites) (n : ℕ) → (length old ≡ n) × AreWrites rules old → IsWritesOf rules n own → new ≡ old ++ own ∷ [] → (length new ≡ n + 1) × AreWrites rules new
writes_more rules old new own n before writes is =
    let count = before.0 in
    let long : length (old ++ own ∷ []) ≡ n + 1 = length-append old (own ∷ []) ∙ ap (λ k. k + 1) count in
    rw is (
      long,
      λ slot d lt.
          elim (cases_lt slot n) [
            | inl earlier ↦
                let within : slot < length old = omega arith in
                subst (IsWritesOf rules slot) (sym (get_or_append_left old (own ∷ []) d slot within)) (before.1 slot d within)
            | inr from ↦
                let last : n ≡ slot = omega arith in
                subst (IsWritesOf rules slot) (sym (get_or_push old own d slot (count ∙ last))) (subst (λ k. IsWritesOf rules k own) last writes)
          ],
    )

-- ---- what is found

-- the index that is asked is the one that is meant
pub asked : (by_port : Bool) (rules : List Rule) (slot : ℕ) (own : SliceWrites) (index : PatternIndex) → index ≡ (if by_port then own.covers else own.covers_aside) → IsWritesOf rules slot own → IsCoverIndex by_port rules slot index
asked true rules slot own index is writes = rw is writes.by_port
asked false rules slot own index is writes = rw is writes.aside

-- nothing where the slice writes no rule
pub no_cover : (by_port : Bool) (rules : List Rule) (slot : ℕ) (m : Pattern) → All (λ rule. is_written_by slot rule ≡ false) rules → first_cover rules slot by_port m ≡ None
no_cover by_port rules slot m none =
    position-none (λ rule. covers_match slot by_port rule m) rules (λ k d lt. ap (λ b. b && includes_of (counted by_port (get_or rules k d).pattern) m) (none k d lt))

pub no_written : (by_port : Bool) (rules : List Rule) (slot : ℕ) (h : Header) → All (λ rule. is_written_by slot rule ≡ false) rules → first_written rules slot by_port h ≡ None
no_written by_port rules slot h none =
    position-none (λ rule. covers_header slot by_port rule h) rules (λ k d lt. ap (λ b. b && has (counted by_port (get_or rules k d).pattern) h) (none k d lt))
