-- There is no meet exactly where no header is in both.
use Rattle.std.proofs.Common.{IsTrue, ◌≡◌, ◌↔◌, true, false, Option, Some, None, refl, sym}
use Rattle.std.proofs.lemmas.Bool.{true≢false}
use Rattle.of10_model.specs.declared.pattern.Pattern.{Pattern}
use Rattle.of10_model.specs.Header.{Header, IsHeader}
use Rattle.of10_model.specs.Pattern.{Has}
use Rattle.of10_model.specs.Normal.{IsInRange}
use Rattle.of10_model.specs.Meet.{Disjoint, is_disjoint, meet_of}
use Rattle.of10_model.proofs.Inhabited.{has_header}
use Rattle.of10_model.proofs.Meeting.{some_meet, none_meet}
use Rattle.of10_model.proofs.MeetNormal.{IsInRange-meet}

-- a header that two matches with a meet share
pub shared : (a b r : Pattern) → IsInRange a → IsInRange b → meet_of a b ≡ Some r → (h : Header) × IsHeader h × Has a h × Has b h
shared a b r i j e =
    let found = has_header r (IsInRange-meet a b r i j e) in
    let both = (some_meet a b r e found.0).0 found.2 in
    (found.0, found.1, both.0, both.1)

pub Disjoint-none : (a b : Pattern) → meet_of a b ≡ None → Disjoint a b
Disjoint-none a b e = λ h r p q. none_meet a b e h p q

pub none-Disjoint : (a b r : Pattern) → IsInRange a → IsInRange b → meet_of a b ≡ Some r → Disjoint a b → ⊥
none-Disjoint a b r i j e d = let h = shared a b r i j e in d h.0 h.1 h.2 h.3

by_meet : (a b : Pattern) (o : Option Pattern) → IsInRange a → IsInRange b → meet_of a b ≡ o
    → IsTrue (elim o [ None ↦ true | Some r ↦ false ]) ↔ Disjoint a b
by_meet a b None i j e = (λ t. Disjoint-none a b e, λ d. refl)
by_meet a b (Some r) i j e = (λ t. absurd (true≢false (sym t)), λ d. absurd (none-Disjoint a b r i j e d))

pub is_disjoint_iff : (a b : Pattern) → IsInRange a → IsInRange b → IsTrue (is_disjoint a b) ↔ Disjoint a b
is_disjoint_iff a b i j = by_meet a b (meet_of a b) i j refl
