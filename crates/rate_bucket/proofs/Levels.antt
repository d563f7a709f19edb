-- Room for thousandths of a question, as time passes and questions are accepted.
use Rattle.std.proofs.Common.{◌≡◌, ℕ, ◌+◌, ◌-◌, ◌*◌, ◌<◌, ◌≤◌, ◌↔◌, min, max, Bool, true, false, List, [], ◌∷◌, ◌++◌, length, refl, ap, sym, ◌∙◌, inl, inr, arith}
use Rattle.std.specs.Prelude.{nat_le, if◌then◌else◌}
use Rattle.std.proofs.lemmas.Bool.{and_parts, and_from, leb-true, leb-false, le-leb, lt-leb, cases_Bool}
use Rattle.std.proofs.lemmas.Bool.Decides.{same_from_decides}
use Rattle.rate_bucket.specs.Rates.{latest, Conforms, has_room, is_conforming, accepted, is_accepted, Bucket, BucketStands}

-- each timestamp is at most t
abbrev pub Until : ℕ → List ℕ → Type 0
Until t [] = Unit {0}
Until t (a ∷ earlier) = (a ≤ t) × Until t earlier

pub Until-later : (t u : ℕ) (moments : List ℕ) → t ≤ u → Until t moments → Until u moments
Until-later t u [] tu h = tt
Until-later t u (a ∷ earlier) tu h = (omega (arith, h.0), Until-later t u earlier tu h.1)

-- no question is accepted with a later timestamp than the greatest
pub Until-accepted : (rate burst : ℕ) (questions : List ℕ) → Until (latest questions) (accepted rate burst questions)
unfolding accepted
Until-accepted rate burst [] = tt
Until-accepted rate burst (moment ∷ earlier) =
    let before : Until (max moment (latest earlier)) (accepted rate burst earlier) =
    Until-later (latest earlier) _ _ (omega arith) (Until-accepted rate burst earlier) in
    elim (is_conforming rate burst (accepted rate burst earlier) (latest (moment ∷ earlier)))
    as (λ b. Until (latest (moment ∷ earlier)) (if b then latest (moment ∷ earlier) ∷ accepted rate burst earlier else accepted rate burst earlier))
    [ true ↦ (omega arith, before) | false ↦ before ]

-- what a rate gives from a to u is what it gives from a to t and from t to u
product_along : (rate a t u : ℕ) → a ≤ t → t ≤ u → rate * (u - a) ≡ rate * (u - t) + rate * (t - a)
product_along rate a t u at tu = grind arith

-- a rate gives nothing in no time
product_now : (rate t : ℕ) → rate * (t - t) ≡ 0
product_now rate t = let e : t - t ≡ 0 = omega arith in rw e (omega arith)

-- what there is room for at one timestamp there is room for at another, more or less by what the time between gives
has_room-moves : (rate burst last t u x y : ℕ) (moments : List ℕ) → Until last moments → ((a : ℕ) → a ≤ last → y + rate * (t - a) ≤ x + rate * (u - a))
    → has_room rate burst t x moments ≡ true → has_room rate burst u y moments ≡ true
unfolding has_room
has_room-moves rate burst last t u x y [] before gives room = refl
has_room-moves rate burst last t u x y (a ∷ earlier) before gives room =
    let p = and_parts (nat_le (x + 1000) (1000 * burst + rate * (t - a))) (has_room rate burst t (x + 1000) earlier) room in
    and_from _ _ (le-leb (y + 1000) (1000 * burst + rate * (u - a)) (omega (arith, leb-true _ _ p.0, gives a before.0)))
    (has_room-moves rate burst last t u (x + 1000) (y + 1000) earlier before.1 (λ c le. omega (arith, gives c le)) p.1)

-- a level is the most for which there is room at t
abbrev pub IsLevel : (rate burst t level : ℕ) → List ℕ → Type 0
IsLevel rate burst t level moments =
    (needed : ℕ) → (needed ≤ level) ↔ ((needed ≤ 1000 * burst) × (has_room rate burst t needed moments ≡ true))

-- a level grows with time up to the burst
pub level_later : (rate burst t u level : ℕ) (moments : List ℕ) → t ≤ u → Until t moments → IsLevel rate burst t level moments
    → IsLevel rate burst u (min (level + rate * (u - t)) (1000 * burst)) moments
level_later rate burst t u level moments tu before is needed = (
  λ le. (
    omega arith,
    has_room-moves rate burst t t u (needed - rate * (u - t)) needed moments before (λ a at. omega (arith, product_along rate a t u at tu))
        ((is (needed - rate * (u - t))).0 (omega arith)).1,
  ),
  λ room. elim (cases_Bool (nat_le (rate * (u - t)) needed)) [
    | inl covered ↦ let le = leb-true (rate * (u - t)) needed covered in
        let kept : needed - rate * (u - t) ≤ level = (is (needed - rate * (u - t))).1
        (omega arith, has_room-moves rate burst t u t needed (needed - rate * (u - t)) moments before (λ a at. omega (arith, product_along rate a t u at tu)) room.1) in
        omega arith
    | inr short ↦ let lt = leb-false (rate * (u - t)) needed short in omega arith
  ],
)

-- an accepted question takes its share of the level
pub level_spent : (rate burst t level : ℕ) (moments : List ℕ) → 1000 ≤ level → IsLevel rate burst t level moments
    → IsLevel rate burst t (level - 1000) (t ∷ moments)
unfolding has_room
level_spent rate burst t level moments enough is needed = (
  λ le. let p = (is (needed + 1000)).0 (omega arith) in
      (omega (arith, p.0), and_from _ _ (le-leb (needed + 1000) (1000 * burst + rate * (t - t)) (omega (arith, p.0, product_now rate t))) p.1),
  λ room. let p = and_parts (nat_le (needed + 1000) (1000 * burst + rate * (t - t))) (has_room rate burst t (needed + 1000) moments) room.1 in
      let all = (is (needed + 1000)).1 (omega (arith, leb-true _ _ p.0, product_now rate t), p.1) in omega arith,
)

-- one question conforms where the level is a whole one
pub level_decides : (rate burst t level : ℕ) (moments : List ℕ) → 1 ≤ burst → IsLevel rate burst t level moments
    → nat_le 1000 level ≡ is_conforming rate burst moments t
unfolding is_conforming
level_decides rate burst t level moments some is =
    same_from_decides (nat_le 1000 level) (is_conforming rate burst moments t)
    (leb-true 1000 level, le-leb 1000 level)
    (λ room. (is 1000).1 (omega arith, room), λ enough. ((is 1000).0 enough).1)

-- room is room beside each accepted timestamp
pub has_room-split : (rate burst t needed : ℕ) (moments : List ℕ) → has_room rate burst t needed moments ≡ true
    → (later earlier : List ℕ) (a : ℕ) → moments ≡ later ++ (a ∷ earlier) → needed + 1000 * length (a ∷ later) ≤ 1000 * burst + rate * (t - a)
unfolding has_room
has_room-split rate burst t needed [] room [] earlier a e = cc
has_room-split rate burst t needed [] room (c ∷ later) earlier a e = cc
has_room-split rate burst t needed (b ∷ moments) room [] earlier a e =
    let p = and_parts (nat_le (needed + 1000) (1000 * burst + rate * (t - b))) (has_room rate burst t (needed + 1000) moments) room in
    let same : b ≡ a = cc in
    rw (← same) (omega (arith, leb-true _ _ p.0))
has_room-split rate burst t needed (b ∷ moments) room (c ∷ later) earlier a e =
    let p = and_parts (nat_le (needed + 1000) (1000 * burst + rate * (t - b))) (has_room rate burst t (needed + 1000) moments) room in
    let same : moments ≡ later ++ (a ∷ earlier) = cc in
    omega (arith, has_room-split rate burst t (needed + 1000) moments p.1 later earlier a same)

pub split-has_room : (rate burst t needed : ℕ) (moments : List ℕ)
    → ((later earlier : List ℕ) (a : ℕ) → moments ≡ later ++ (a ∷ earlier) → needed + 1000 * length (a ∷ later) ≤ 1000 * burst + rate * (t - a))
    → has_room rate burst t needed moments ≡ true
unfolding has_room
split-has_room rate burst t needed [] each = refl
split-has_room rate burst t needed (b ∷ moments) each =
    and_from _ _ (le-leb (needed + 1000) (1000 * burst + rate * (t - b)) (omega (arith, each [] moments b refl)))
    (split-has_room rate burst t (needed + 1000) moments (λ later earlier a e.
    omega (arith, each (b ∷ later) earlier a (ap (λ ms. b ∷ ms) e))))

-- the test says what `Conforms` says
pub conforms : (rate burst : ℕ) (moments : List ℕ) (t : ℕ) → (is_conforming rate burst moments t ≡ true) ↔ Conforms rate burst moments t
unfolding is_conforming
conforms rate burst moments t = (
  λ room later earlier a e. omega (arith, has_room-split rate burst t 1000 moments room later earlier a e),
  λ each. split-has_room rate burst t 1000 moments (λ later earlier a e. omega (arith, each later earlier a e)),
)

-- an answer by the test is an answer by `Conforms`
pub answer_conforms : (answer : Bool) (rate burst : ℕ) (questions : List ℕ) (moment : ℕ) → answer ≡ is_accepted rate burst questions moment
    → (answer ≡ true) ↔ Conforms rate burst (accepted rate burst questions) (latest (moment ∷ questions))
unfolding is_accepted
answer_conforms answer rate burst questions moment is =
    rw is (conforms rate burst (accepted rate burst questions) (latest (moment ∷ questions)))

-- what a question adds to the accepted timestamps, by its answer
accepted-by : (answer : Bool) (rate burst moment : ℕ) (earlier : List ℕ) → is_accepted rate burst earlier moment ≡ answer
    → accepted rate burst (moment ∷ earlier) ≡ (if answer then latest (moment ∷ earlier) ∷ accepted rate burst earlier else accepted rate burst earlier)
unfolding accepted is_accepted
accepted-by answer rate burst moment earlier is = rw is refl

accepted-newest : (rate burst moment : ℕ) (questions later between earlier : List ℕ) (a b : ℕ)
    → is_accepted rate burst questions moment ≡ true
    → latest (moment ∷ questions) ∷ accepted rate burst questions ≡ later ++ (b ∷ (between ++ (a ∷ earlier)))
    → ((later between earlier : List ℕ) (a b : ℕ) → accepted rate burst questions ≡ later ++ (b ∷ (between ++ (a ∷ earlier)))
    → 1000 * (length between + 2) ≤ 1000 * burst + rate * (b - a))
    → 1000 * (length between + 2) ≤ 1000 * burst + rate * (b - a)
unfolding is_accepted is_conforming
accepted-newest rate burst moment questions [] between earlier a b accepts e before =
    let t : latest (moment ∷ questions) ≡ b = cc in
    let rest : accepted rate burst questions ≡ between ++ (a ∷ earlier) = cc in
    rw (← t) (omega (arith, has_room-split rate burst (latest (moment ∷ questions)) 1000 (accepted rate burst questions) accepts between earlier a rest))
accepted-newest rate burst moment questions (c ∷ later) between earlier a b accepts e before =
    before later between earlier a b cc

-- in the time from one accepted timestamp to another no more are accepted than the rate gives
pub accepted-window : (rate burst : ℕ) (questions later between earlier : List ℕ) (a b : ℕ)
    → accepted rate burst questions ≡ later ++ (b ∷ (between ++ (a ∷ earlier)))
    → 1000 * (length between + 2) ≤ 1000 * burst + rate * (b - a)
unfolding accepted
accepted-window rate burst [] [] between earlier a b e = cc
accepted-window rate burst [] (c ∷ later) between earlier a b e = cc
accepted-window rate burst (moment ∷ questions) later between earlier a b e =
    elim (cases_Bool (is_accepted rate burst questions moment)) [
      | inl accepts ↦ accepted-newest rate burst moment questions later between earlier a b accepts
          (sym (accepted-by true rate burst moment questions accepts) ∙ e) (accepted-window rate burst questions)
      | inr refuses ↦ accepted-window rate burst questions later between earlier a b (sym (accepted-by false rate burst moment questions refuses) ∙ e)
    ]

-- a bucket to which no question was put has the room of one burst
pub BucketStands-new : (rate burst : ℕ) → 1 ≤ burst
    → BucketStands [] (record { rate = rate; burst = burst; moment = 0; level = 1000 * burst })
unfolding accepted has_room
BucketStands-new rate burst some = record {
  some_burst = some;
  moment = refl;
  level = λ needed. (λ le. (le, refl), λ p. p.0);
}

-- the level at a question's timestamp
pub BucketStands-level : (b : Bucket) (questions : List ℕ) (moment level : ℕ) → BucketStands questions b
    → level ≡ min (b.level + b.rate * (moment - b.moment)) (1000 * b.burst)
    → IsLevel b.rate b.burst (latest (moment ∷ questions)) level (accepted b.rate b.burst questions)
BucketStands-level b questions moment level s is =
    let t : ℕ = latest questions in
    let e : level ≡ min (b.level + b.rate * (max moment t - t)) (1000 * b.burst) =
    let passed : moment - b.moment ≡ max moment t - t = rw s.moment (omega arith) in
    rw (is, passed) refl in
    rw e (level_later b.rate b.burst t (max moment t) b.level (accepted b.rate b.burst questions) (omega arith)
    (Until-accepted b.rate b.burst questions) s.level)

-- whether a question is accepted shows in the level at its timestamp
pub BucketStands-decides : (b : Bucket) (questions : List ℕ) (moment level : ℕ) → BucketStands questions b
    → level ≡ min (b.level + b.rate * (moment - b.moment)) (1000 * b.burst)
    → nat_le 1000 level ≡ is_accepted b.rate b.burst questions moment
unfolding is_accepted
BucketStands-decides b questions moment level s is =
    level_decides b.rate b.burst (latest (moment ∷ questions)) level (accepted b.rate b.burst questions) s.some_burst
    (BucketStands-level b questions moment level s is)

-- a refused question leaves the level
pub BucketStands-refuse : (b : Bucket) (questions : List ℕ) (moment level next : ℕ) → BucketStands questions b
    → level ≡ min (b.level + b.rate * (moment - b.moment)) (1000 * b.burst) → next ≡ max b.moment moment → level < 1000
    → BucketStands (moment ∷ questions) (record { rate = b.rate; burst = b.burst; moment = next; level = level })
BucketStands-refuse b questions moment level next s is now less =
    let refuses : is_accepted b.rate b.burst questions moment ≡ false =
    sym (BucketStands-decides b questions moment level s is) ∙ lt-leb 1000 level less in
    record {
      some_burst = s.some_burst;
      moment = let e = s.moment in omega arith;
      level = rw (accepted-by false b.rate b.burst moment questions refuses) (BucketStands-level b questions moment level s is);
    }

-- an accepted question takes its share
pub BucketStands-accept : (b : Bucket) (questions : List ℕ) (moment level next : ℕ) → BucketStands questions b
    → level ≡ min (b.level + b.rate * (moment - b.moment)) (1000 * b.burst) → next ≡ max b.moment moment → 1000 ≤ level
    → BucketStands (moment ∷ questions) (record { rate = b.rate; burst = b.burst; moment = next; level = level - 1000 })
BucketStands-accept b questions moment level next s is now enough =
    let accepts : is_accepted b.rate b.burst questions moment ≡ true =
    sym (BucketStands-decides b questions moment level s is) ∙ le-leb 1000 level enough in
    record {
      some_burst = s.some_burst;
      moment = let e = s.moment in omega arith;
      level = rw (accepted-by true b.rate b.burst moment questions accepts)
          (level_spent b.rate b.burst (latest (moment ∷ questions)) level (accepted b.rate b.burst questions) enough
          (BucketStands-level b questions moment level s is));
    }
