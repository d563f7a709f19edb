-- The headers of the pieces of a match.
use Rattle.std.proofs.Common.{◌≡◌, ◌≢◌, ◌↔◌, ℕ, ◌≤◌, true, List, length, get_or, filter, filter_map, count_by, All, Any, AllPairs, Option, Some, None, refl, sym, subst, arith}
use Rattle.std.proofs.lemmas.List.{length-map, get_or_default}
use Rattle.std.proofs.lemmas.List.Elements.{All-weaker, All-map, All-filter}
use Rattle.std.proofs.lemmas.List.Sums.{length-filter}
use Rattle.of10_model.specs.declared.pattern.Pattern.{Pattern}
use Rattle.of10_model.specs.Header.{Header, IsHeader}
use Rattle.of10_model.specs.Pattern.{Has}
use Rattle.of10_model.specs.Normal.{IsNormal}
use Rattle.of10_model.specs.Meet.{meet_of}
use Rattle.of10_model.specs.Inclusion.{Includes}
use Rattle.of10_model.proofs.Meeting.{some_meet, none_meet}
use Rattle.of10_model.proofs.MeetNormal.{IsNormal-meet}
use Rattle.of10_model.proofs.Inhabited.{has_header}
use Rattle.flowspace.specs.declared.slices.Slice.{Slice}
use Rattle.flowspace.specs.declared.rules.Rule.{Rule}
use Rattle.flowspace.specs.Rules.{is_written_by}
use Rattle.flowspace.specs.Policies.{IsSwitchPolicy, AreNormal}
use Rattle.flowspace.specs.Owners.{Writes, HasWriteRule, Owns}
use Rattle.flowspace.proofs.Owning.{Writes-iff}
use Rattle.flowspace.proofs.Refusing.{is_value-Some, Some-is_value}
use Rattle.flowmod_expand.specs.Pieces.{writes_of, pieces_of}
use Rattle.flowmod_expand.proofs.Somewhere.{Any-weaker, Any-kept, kept-Any, Any-map, map-Any, GivesOne, Any-filter_map, filter_map-Any, All-filter_map, filter_map_length}
use Rattle.flowmod_expand.proofs.Repeats.{distinct, All-without_repeats, Any-without_repeats, without_repeats-Any, without_repeats_length}

-- ---- the rules that a slice writes

-- one of their matches has a header exactly where a write rule has it
written_here : (slot : ℕ) (P : Pattern → Type 0) (rules : List Rule) → Any (λ r. P r.pattern) (filter (is_written_by slot) rules) → Any (λ r. (r.writer ≡ Some slot) × P r.pattern) rules
written_here slot P rules some =
    Any-weaker (λ r. (is_written_by slot r ≡ true) × P r.pattern) (λ r. (r.writer ≡ Some slot) × P r.pattern) rules (λ r both. (is_value-Some slot r.writer both.0, both.1))
    (Any-kept (λ r. P r.pattern) (is_written_by slot) rules some)

here_written : (slot : ℕ) (P : Pattern → Type 0) (rules : List Rule) → Any (λ r. (r.writer ≡ Some slot) × P r.pattern) rules → Any (λ r. P r.pattern) (filter (is_written_by slot) rules)
here_written slot P rules some =
    kept-Any (λ r. P r.pattern) (is_written_by slot) rules
    (Any-weaker (λ r. (r.writer ≡ Some slot) × P r.pattern) (λ r. (is_written_by slot r ≡ true) × P r.pattern) rules (λ r both. (Some-is_value slot r.writer both.0, both.1)) some)

pub Any-writes_of : (rules : List Rule) (slot : ℕ) (P : Pattern → Type 0) → Any P (writes_of rules slot) ↔ Any (λ r. (r.writer ≡ Some slot) × P r.pattern) rules
Any-writes_of rules slot P = (
  λ some. written_here slot P rules (Any-map P (λ r. r.pattern) (filter (is_written_by slot) rules) some),
  λ some. map-Any P (λ r. r.pattern) (filter (is_written_by slot) rules) (here_written slot P rules some),
)

-- each of them is the match of a rule that the slice writes
each_written : (rules : List Rule) (slot : ℕ) → All (λ w. Any (λ r. (r.writer ≡ Some slot) × (r.pattern ≡ w)) rules) (writes_of rules slot)
each_written rules slot k d lt =
    let w = get_or (writes_of rules slot) k d in
    (Any-writes_of rules slot (λ p. p ≡ w)).0 (k, w, lt, get_or_default (writes_of rules slot) k w d lt, refl)

-- ---- headers

meet_has : (m w : Pattern) (h : Header) → Has m h → Has w h → (o : Option Pattern) → meet_of m w ≡ o → GivesOne (λ p. Has p h) (meet_of m) w
meet_has m w h in_m in_w None none = absurd (none_meet m w none h in_m in_w)
meet_has m w h in_m in_w (Some p) some = (p, some, (some_meet m w p some h).1 (in_m, in_w))

-- the pieces have the headers of the match that the slice's rules have
pub Any-pieces_of : (rules : List Rule) (slot : ℕ) (m : Pattern) (h : Header) → Any (λ piece. Has piece h) (pieces_of rules slot m) ↔ (Has m h × HasWriteRule rules slot h)
Any-pieces_of rules slot m h =
    let P = λ (p : Pattern). Has p h in
    let writes = writes_of rules slot in (
      λ some.
          let one = Any-filter_map P (meet_of m) writes (Any-without_repeats P (filter_map (meet_of m) writes) some) in
          let both = (some_meet m one.1 one.4.0 one.4.1 h).0 one.4.2 in
          (both.0, (Any-writes_of rules slot P).0 (one.0, one.1, one.2, one.3, both.1)),
      λ both.
          let one = (Any-writes_of rules slot P).1 both.1 in
          without_repeats-Any P (filter_map (meet_of m) writes)
          (filter_map-Any P (meet_of m) writes (Any-weaker P (GivesOne P (meet_of m)) writes (λ w in_w. meet_has m w h both.0 in_w (meet_of m w) refl) one)),
    )

-- under a policy they have those that the slice writes
pub Any-pieces_of-Writes : (slices : List Slice) (rules : List Rule) → IsSwitchPolicy slices rules → (slot : ℕ) (m : Pattern) (h : Header) → IsHeader h → Any (λ piece. Has piece h) (pieces_of rules slot m) ↔ (Has m h × Writes rules slot h)
Any-pieces_of-Writes slices rules policy slot m h range =
    let by_rules = Any-pieces_of rules slot m h in
    let by_writer = Writes-iff slices rules policy slot h range in (
      λ some. let both = by_rules.0 some in (both.0, by_writer.1 both.1),
      λ both. by_rules.1 (both.0, by_writer.0 both.1),
    )

-- each lies in one rule
owned : (rules : List Rule) (slot : ℕ) (m w : Pattern) → Any (λ r. (r.writer ≡ Some slot) × (r.pattern ≡ w)) rules → (p : Pattern) → meet_of m w ≡ Some p → Owns rules slot p
owned rules slot m w some p e =
    (some.0, some.1, some.2, some.3, (some.4.0, λ h range in_p. subst (λ q. Has q h) (sym some.4.1) ((some_meet m w p e h).0 in_p).1))

pub Owns-pieces_of : (rules : List Rule) (slot : ℕ) (m : Pattern) → All (Owns rules slot) (pieces_of rules slot m)
Owns-pieces_of rules slot m =
    let writes = writes_of rules slot in
    All-without_repeats (Owns rules slot) (filter_map (meet_of m) writes)
    (All-filter_map (Owns rules slot) (meet_of m) writes (All-weaker (λ w. Any (λ r. (r.writer ≡ Some slot) × (r.pattern ≡ w)) rules) (λ w. (p : Pattern) → meet_of m w ≡ Some p → Owns rules slot p) (owned rules slot m) writes (each_written rules slot)))

-- and in the match
pub Includes-pieces_of : (rules : List Rule) (slot : ℕ) (m : Pattern) → All (Includes m) (pieces_of rules slot m)
Includes-pieces_of rules slot m =
    let writes = writes_of rules slot in
    All-without_repeats (Includes m) (filter_map (meet_of m) writes)
    (All-filter_map (Includes m) (meet_of m) writes (λ k d lt p e h range in_p. ((some_meet m (get_or writes k d) p e h).0 in_p).0))

-- ---- the list

pub pieces_of_distinct : (rules : List Rule) (slot : ℕ) (m : Pattern) → AllPairs (λ a b. a ≢ b) (pieces_of rules slot m)
pieces_of_distinct rules slot m = distinct (filter_map (meet_of m) (writes_of rules slot))

pub pieces_of_few : (rules : List Rule) (slot : ℕ) (m : Pattern) → length (pieces_of rules slot m) ≤ count_by (is_written_by slot) rules
pieces_of_few rules slot m =
    let writes = writes_of rules slot in
    let kept = without_repeats_length (filter_map (meet_of m) writes) in
    let given = filter_map_length (meet_of m) writes in
    let mapped = length-map (filter (is_written_by slot) rules) (λ (r : Rule). r.pattern) in
    let counted = length-filter (is_written_by slot) rules in
    omega arith

pub pieces_of_normal : (rules : List Rule) (slot : ℕ) (m : Pattern) → AreNormal rules → IsNormal m → All IsNormal (pieces_of rules slot m)
pieces_of_normal rules slot m normal normal_m =
    let writes = writes_of rules slot in
    let each : All IsNormal writes = All-map IsNormal (λ r. r.pattern) (filter (is_written_by slot) rules) (All-filter (is_written_by slot) (λ r. IsNormal r.pattern) rules normal) in
    All-without_repeats IsNormal (filter_map (meet_of m) writes)
    (All-filter_map IsNormal (meet_of m) writes (λ k d lt p e. IsNormal-meet m (get_or writes k d) p normal_m (each k d lt) e))

-- a normal match has a header
pub some_header : (ps : List Pattern) → All IsNormal ps → All (λ p. (h : Header) × IsHeader h × Has p h) ps
some_header ps normal k d lt = has_header (get_or ps k d) (normal k d lt).0
