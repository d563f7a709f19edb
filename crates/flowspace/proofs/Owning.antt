-- What a slice may write is what its rules have, and a match has one owner.
use Rattle.std.proofs.Common.{◌≡◌, ◌↔◌, ℕ, ◌<◌, Bool, true, leb, nat_lt, ◌==◌, is_some, IsTrue, List, length, get_or, find, slice_get, Option, Some, None, option_and_then, refl, sym, ap, ◌∙◌, arith, inl, inr}
use Rattle.std.specs.List.{list_any, position_or_len}
use Rattle.std.proofs.lemmas.Bool.{cases_lt, cases_eq, and_parts, and_from, or_cases, or_left, or_right, true≢false, cond-true, cond-false, leb-true, le-leb, lt-ltb, le-ltb, eqb-true, eq-eqb}
use Rattle.std.proofs.lemmas.List.Folds.{find_at, Any-from_list_any, list_any-from_Any}
use Rattle.std.proofs.lemmas.Option.{slice_get_past}
use Rattle.of10_model.specs.declared.pattern.Pattern.{Pattern}
use Rattle.of10_model.specs.Header.{Header, IsHeader}
use Rattle.of10_model.specs.Pattern.{Has, has, meets}
use Rattle.of10_model.specs.Normal.{IsNormal}
use Rattle.of10_model.specs.Inclusion.{includes_of}
use Rattle.of10_model.proofs.Membership.{Has-has, has-Has, Meets-meets, meets-Meets}
use Rattle.of10_model.proofs.Including.{Has-includes, includes-Includes}
use Rattle.of10_model.proofs.Inhabited.{has_header}
use Rattle.flowspace.specs.declared.slices.Slice.{Slice}
use Rattle.flowspace.specs.declared.rules.Rule.{Rule}
use Rattle.flowspace.specs.Rules.{IsInPort, Yields, is_written_by}
use Rattle.flowspace.specs.Order.{first_rule}
use Rattle.flowspace.specs.Policies.{IsSwitchPolicy, AreNormal}
use Rattle.flowspace.specs.Owners.{Writes, HasWriteRule, is_owned_by, owner_of_match, IsOwner, Owns, is_in_port, is_rule_at, has_port, HasPort}
use Rattle.flowspace.proofs.Along.{find-None, FoundAt, find-Some}
use Rattle.flowspace.proofs.Refusing.{is_value-Some, Some-is_value, on_both}

-- ---- the first of some rules

-- the first rule that passes a test has the writer of each later one that shares a header with it
first_writer : (ss : List Slice) (rs : List Rule) → IsSwitchPolicy ss rs → (p : Rule → Bool) (h : Header) → IsHeader h → ((r : Rule) → p r ≡ true → Has r.pattern h)
    → (k : ℕ) (r : Rule) (slot : ℕ) → k < length rs → get_or rs k r ≡ r → p r ≡ true → r.writer ≡ Some slot
    → (x : Rule) → FoundAt p rs x → x.writer ≡ Some slot
first_writer ss rs policy p h range having k r slot lt at passes written x found =
    elim (cases_lt found.place k) [
      | inl before ↦
          let at_x = found.is_there r in
          let yields : Yields x r = rw (at_x, at) at (policy.accepted found.place k r before lt) in
          let both = on_both x.switch r.switch (rw (at_x, at) at (policy.one_switch found.place k r before lt)) in
          yields (record {
            datapath = both.datapath;
            on_first = both.first;
            on_second = both.second;
            header = h;
            in_range = range;
            in_first = having x found.passes;
            in_second = having r passes;
          }) slot written
      | inr from ↦
          elim (cases_eq found.place k) [
            | inl same ↦
                let is : x ≡ r = sym (found.is_there r) ∙ ap (λ n. get_or rs n r) same ∙ at in
                rw is written
            | inr other ↦
                let after : k < found.place = omega arith in
                absurd (true≢false (sym passes ∙ ap p (sym at) ∙ found.is_first k r after))
          ]
    ]

-- there is a first one
some_first : (rs : List Rule) (p : Rule → Bool) (k : ℕ) (r : Rule) → k < length rs → get_or rs k r ≡ r → p r ≡ true → (o : Option Rule) → find p rs ≡ o → (x : Rule) × (o ≡ Some x)
some_first rs p k r lt at passes None e = absurd (true≢false (sym passes ∙ ap p (sym at) ∙ find-None p rs e k r lt))
some_first rs p k r lt at passes (Some x) e = (x, refl)

-- ---- headers

-- the first rule by its place is the first that is found
pub first_rule-find : (rs : List Rule) (h : Header) → first_rule rs h ≡ find (λ rule. has rule.pattern h) rs
first_rule-find rs h =
    let test = λ (rule : Rule). has rule.pattern h in
    let n = position_or_len test rs in
    elim (cases_lt n (length rs)) [
      | inl lt ↦ ap (option_and_then (slice_get rs)) (cond-true (nat_lt n (length rs)) (Some n) None (lt-ltb n (length rs) lt)) ∙ sym (find_at test rs)
      | inr le ↦ ap (option_and_then (slice_get rs)) (cond-false (nat_lt n (length rs)) (Some n) None (le-ltb n (length rs) le)) ∙ sym (find_at test rs ∙ slice_get_past rs n le)
    ]

writer_at : (o : Option Rule) (slot : ℕ) → option_and_then (λ rule. rule.writer) o ≡ Some slot → (x : Rule) × (o ≡ Some x) × (x.writer ≡ Some slot)
writer_at None slot e = absurd (cc)
writer_at (Some x) slot e = (x, refl, e)

-- what is written has a rule of its writer
HasWriteRule-Writes : (rs : List Rule) (slot : ℕ) (h : Header) → Writes rs slot h → HasWriteRule rs slot h
HasWriteRule-Writes rs slot h e =
    let test = λ (rule : Rule). has rule.pattern h in
    let x = writer_at (find test rs) slot (sym (ap (option_and_then (λ rule. rule.writer)) (first_rule-find rs h)) ∙ e) in
    let found = find-Some test rs x.0 x.1 in
    (found.place, x.0, found.within, found.is_there x.0, (x.2, Has-has x.0.pattern h found.passes))

Writes-HasWriteRule : (ss : List Slice) (rs : List Rule) → IsSwitchPolicy ss rs → (slot : ℕ) (h : Header) → IsHeader h → HasWriteRule rs slot h → Writes rs slot h
Writes-HasWriteRule ss rs policy slot h range some =
    let test = λ (rule : Rule). has rule.pattern h in
    let r = some.1 in
    let passes : test r ≡ true = has-Has r.pattern h some.4.1 in
    let x = some_first rs test some.0 r some.2 some.3 passes (find test rs) refl in
    let writer = first_writer ss rs policy test h range (λ q t. Has-has q.pattern h t) some.0 r slot some.2 some.3 passes some.4.0 x.0 (find-Some test rs x.0 x.1) in
    ap (option_and_then (λ rule. rule.writer)) (first_rule-find rs h ∙ x.1) ∙ writer

pub Writes-iff : (ss : List Slice) (rs : List Rule) → IsSwitchPolicy ss rs → (slot : ℕ) (h : Header) → IsHeader h → Writes rs slot h ↔ HasWriteRule rs slot h
Writes-iff ss rs policy slot h range = (HasWriteRule-Writes rs slot h, Writes-HasWriteRule ss rs policy slot h range)

-- ---- matches

some_writer : (o : Option ℕ) (slot : ℕ) → o ≡ Some slot → is_some o ≡ true
some_writer o slot e = rw e refl

IsOwner-owner_of_match : (rs : List Rule) (slot : ℕ) (m : Pattern) → owner_of_match rs m ≡ Some slot → IsOwner rs slot m
IsOwner-owner_of_match rs slot m e =
    let x = writer_at (find (is_owned_by m) rs) slot e in
    let found = find-Some (is_owned_by m) rs x.0 x.1 in
    let parts = and_parts (is_some x.0.writer) (includes_of x.0.pattern m) found.passes in
    (found.place, x.0, found.within, found.is_there x.0, (x.2, parts.1))

owner_of_match-IsOwner : (ss : List Slice) (rs : List Rule) → IsSwitchPolicy ss rs → (slot : ℕ) (m : Pattern) → IsNormal m → IsOwner rs slot m → owner_of_match rs m ≡ Some slot
owner_of_match-IsOwner ss rs policy slot m normal some =
    let r = some.1 in
    let passes = and_from (is_some r.writer) (includes_of r.pattern m) (some_writer r.writer slot some.4.0) some.4.1 in
    let h = has_header m normal.0 in
    let x = some_first rs (is_owned_by m) some.0 r some.2 some.3 passes (find (is_owned_by m) rs) refl in
    let writer =
    first_writer ss rs policy (is_owned_by m) h.0 h.1 (λ q t. Has-includes q.pattern m (and_parts (is_some q.writer) (includes_of q.pattern m) t).1 h.0 h.2)
    some.0 r slot some.2 some.3 passes some.4.0 x.0 (find-Some (is_owned_by m) rs x.0 x.1) in
    ap (option_and_then (λ rule. rule.writer)) x.1 ∙ writer

pub owner_of_match-iff : (ss : List Slice) (rs : List Rule) → IsSwitchPolicy ss rs → (slot : ℕ) (m : Pattern) → IsNormal m → (owner_of_match rs m ≡ Some slot) ↔ IsOwner rs slot m
owner_of_match-iff ss rs policy slot m normal = (IsOwner-owner_of_match rs slot m, owner_of_match-IsOwner ss rs policy slot m normal)

-- the test is that of headers
Owns-IsOwner : (rs : List Rule) (slot : ℕ) (m : Pattern) → IsOwner rs slot m → Owns rs slot m
Owns-IsOwner rs slot m some = (some.0, some.1, some.2, some.3, (some.4.0, λ h range in_m. Has-includes some.1.pattern m some.4.1 h in_m))

IsOwner-Owns : (rs : List Rule) → AreNormal rs → (slot : ℕ) (m : Pattern) → IsNormal m → Owns rs slot m → IsOwner rs slot m
IsOwner-Owns rs normal slot m normal_m some =
    let in_range : IsNormal some.1.pattern = rw some.3 at (normal some.0 some.1 some.2) in
    (some.0, some.1, some.2, some.3, (some.4.0, includes-Includes some.1.pattern m in_range.0 normal_m.0 some.4.1))

pub owner_of_match-Owns : (ss : List Slice) (rs : List Rule) → IsSwitchPolicy ss rs → AreNormal rs → (slot : ℕ) (m : Pattern) → IsNormal m → (owner_of_match rs m ≡ Some slot) ↔ Owns rs slot m
owner_of_match-Owns ss rs policy normal slot m normal_m =
    let iff = owner_of_match-iff ss rs policy slot m normal_m in
    (λ e. Owns-IsOwner rs slot m (iff.0 e), λ owns. iff.1 (IsOwner-Owns rs normal slot m normal_m owns))

-- ---- ports

pub IsInPort-is_in_port : (port : ℕ) → is_in_port port ≡ true → IsInPort port
IsInPort-is_in_port port e =
    elim (or_cases (leb port 0xff00) (port == 0xfffe) e) [
      | inl le ↦ inl (leb-true port 0xff00 le)
      | inr same ↦ inr (eqb-true port 0xfffe same)
    ]

pub is_in_port-IsInPort : (port : ℕ) → IsInPort port → is_in_port port ≡ true
is_in_port-IsInPort port (inl le) = or_left (leb port 0xff00) (port == 0xfffe) (le-leb port 0xff00 le)
is_in_port-IsInPort port (inr same) = or_right (leb port 0xff00) (port == 0xfffe) (eq-eqb port 0xfffe same)

pub has_port-iff : (rs : List Rule) (slot port : ℕ) → IsTrue (has_port rs slot port) ↔ HasPort rs slot port
has_port-iff rs slot port = (
  λ t.
      let parts = and_parts (is_in_port port) (list_any (is_rule_at slot port) rs) t in
      let some = Any-from_list_any (is_rule_at slot port) rs parts.1 in
      let rule = and_parts (is_written_by slot some.1) (meets some.1.pattern.in_port port) some.4 in
      (IsInPort-is_in_port port parts.0, (some.0, some.1, some.2, some.3, (is_value-Some slot some.1.writer rule.0, Meets-meets some.1.pattern.in_port port rule.1))),
  λ p.
      let some = p.1 in
      and_from (is_in_port port) (list_any (is_rule_at slot port) rs) (is_in_port-IsInPort port p.0)
      (list_any-from_Any (is_rule_at slot port) rs (some.0, some.1, some.2, some.3, and_from (is_written_by slot some.1) (meets some.1.pattern.in_port port) (Some-is_value slot some.1.writer some.4.0) (meets-Meets some.1.pattern.in_port port some.4.1))),
)

-- the test, as it is computed
pub has_port-tested : (rs : List Rule) (slot port : ℕ) (b : Bool) → b ≡ has_port rs slot port → IsTrue b ↔ HasPort rs slot port
has_port-tested rs slot port b e = rw e (has_port-iff rs slot port)
