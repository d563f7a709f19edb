-- Which requests collect, in words of the calls.
use Rattle.std.proofs.Common.{◌≡◌, ◌≢◌, ℕ, ◌+◌, ◌<◌, ◌≤◌, not, true, false, List, [], ◌∷◌, ◌++◌, zero, suc, length, take, AllPairs, Contains, add-one, refl, ap, sym, subst, ◌∙◌, inl, inr, arith}
use Rattle.std.specs.Prelude.{◌==◌, ◌⊎◌, filter, slice_index_or}
use Rattle.std.proofs.lemmas.Bool.{cases_Bool, both_ways, eq-eqb, ne_eqb, or_parts, or_left, or_right}
use Rattle.std.proofs.lemmas.Bool.Decides.{eqb_tells}
use Rattle.std.proofs.lemmas.List.{length-take}
use Rattle.xid_map.specs.Collections.{CollectionCall, Start, Add, Sum, Finish, EndAll, is_among, collecting, begins, since}
use Rattle.xid_map.specs.Laws.{EndsCollecting, NoneOf, IsCollecting, others_started, IsStarted}
use Rattle.xid_map.proofs.Gathering.{since-goes_on}
use Rattle.xid_map.proofs.Standing.{begins_not}

-- ---- one of these numbers

among_cases : (number m : ℕ) (ms : List ℕ) → is_among number (m ∷ ms) ≡ true → (m ≡ number) ⊎ (is_among number ms ≡ true)
among_cases number m ms h = elim (eqb_tells m number) [
  | inl this ↦ inl this.1
  | inr other ↦ inr (rw other.0 at h)
]

among_here : (number : ℕ) (ms : List ℕ) → is_among number (number ∷ ms) ≡ true
among_here number ms = or_left (number == number) (is_among number ms) (eq-eqb number number refl)

among_more : (number m : ℕ) (ms : List ℕ) → is_among number ms ≡ true → is_among number (m ∷ ms) ≡ true
among_more number m ms h = or_right (m == number) (is_among number ms) h

among_taken : (count number : ℕ) (ms : List ℕ) → is_among number (take count ms) ≡ true → is_among number ms ≡ true
among_taken zero number ms h = cc
among_taken (suc count) number [] h = cc
among_taken (suc count) number (m ∷ ms) h = elim (among_cases number m (take count ms) h) [
  | inl this ↦ subst (λ n. is_among n (m ∷ ms) ≡ true) this (among_here m ms)
  | inr later ↦ among_more number m ms (among_taken count number ms later)
]

among_all : (count number : ℕ) (ms : List ℕ) → length ms ≤ count → is_among number ms ≡ true → is_among number (take count ms) ≡ true
among_all count number [] few h = cc
among_all zero number (m ∷ ms) few h = absurd (omega arith)
among_all (suc count) number (m ∷ ms) few h = elim (among_cases number m ms h) [
  | inl this ↦ subst (λ n. is_among n (m ∷ take count ms) ≡ true) this (among_here m (take count ms))
  | inr later ↦ among_more number m (take count ms) (among_all count number ms (omega arith) later)
]

among_kept : (number other : ℕ) (ms : List ℕ) → is_among number (filter (λ n. not (n == other)) ms) ≡ true → is_among number ms ≡ true
among_kept number other [] h = cc
among_kept number other (m ∷ ms) h = elim (cases_Bool (m == other)) [
  | inl out ↦ among_more number m ms (among_kept number other ms (rw out at h))
  | inr stays ↦
      let within : is_among number (m ∷ filter (λ n. not (n == other)) ms) ≡ true = rw stays at h in
      elim (among_cases number m (filter (λ n. not (n == other)) ms) within) [
        | inl this ↦ subst (λ n. is_among n (m ∷ ms) ≡ true) this (among_here m ms)
        | inr later ↦ among_more number m ms (among_kept number other ms later)
      ]
]

among_apart : (number : ℕ) (ms : List ℕ) → is_among number (filter (λ n. not (n == number)) ms) ≡ false
among_apart number [] = refl
among_apart number (m ∷ ms) = elim (cases_Bool (m == number)) [
  | inl out ↦ rw out (among_apart number ms)
  | inr stays ↦ rw (stays, stays, among_apart number ms) refl
]

among_stays : (number other : ℕ) (ms : List ℕ) → other ≢ number → is_among number ms ≡ true → is_among number (filter (λ n. not (n == other)) ms) ≡ true
among_stays number other [] apart h = cc
among_stays number other (m ∷ ms) apart h = elim (among_cases number m ms h) [
  | inl this ↦
      let stays : (m == other) ≡ false = ne_eqb m other (λ e. apart (sym e ∙ this)) in
      rw stays (subst (λ n. is_among n (m ∷ filter (λ n. not (n == other)) ms) ≡ true) this (among_here m (filter (λ n. not (n == other)) ms)))
  | inr later ↦ elim (cases_Bool (m == other)) [
    | inl out ↦ rw out (among_stays number other ms apart later)
    | inr stays ↦ rw stays (among_more number m (filter (λ n. not (n == other)) ms) (among_stays number other ms apart later))
  ]
]

-- ---- the order in which they began

-- this one began after each of those
abbrev BeganAfter : ℕ → List CollectionCall → List ℕ → Type 0
BeganAfter number calls ms = (m : ℕ) → is_among m ms ≡ true → length (since number calls) < length (since m calls)

-- of these each began after all that stand behind it
abbrev InOrder : List CollectionCall → List ℕ → Type 0
InOrder calls [] = Unit {0}
InOrder calls (m ∷ ms) = BeganAfter m calls ms × InOrder calls ms

InOrder-take : (count : ℕ) (calls : List CollectionCall) (ms : List ℕ) → InOrder calls ms → InOrder calls (take count ms)
InOrder-take zero calls ms h = tt
InOrder-take (suc count) calls [] h = tt
InOrder-take (suc count) calls (m ∷ ms) h = (λ n within. h.0 n (among_taken count n ms within), InOrder-take count calls ms h.1)

InOrder-filter : (other : ℕ) (calls : List CollectionCall) (ms : List ℕ) → InOrder calls ms → InOrder calls (filter (λ n. not (n == other)) ms)
InOrder-filter other calls [] h = tt
InOrder-filter other calls (m ∷ ms) h = elim (cases_Bool (m == other)) [
  | inl out ↦ rw out (InOrder-filter other calls ms h.1)
  | inr stays ↦ rw stays (λ n within. h.0 n (among_kept n other ms within), InOrder-filter other calls ms h.1)
]

-- a call that begins none of these leaves their order
InOrder-more : (call : CollectionCall) (calls : List CollectionCall) (ms : List ℕ) → ((m : ℕ) → is_among m ms ≡ true → begins m call calls ≡ false)
    → InOrder calls ms → InOrder (call ∷ calls) ms
InOrder-more call calls [] none h = tt
InOrder-more call calls (m ∷ ms) none h = (
  λ n within. omega (
    arith,
    h.0 n within,
    ap length (since-goes_on m call calls (none m (among_here m ms))),
    ap length (since-goes_on n call calls (none n (among_more n m ms within))),
  ),
  InOrder-more call calls ms (λ n within. none n (among_more n m ms within)) h.1,
)

pub since-begin : (number : ℕ) (calls : List CollectionCall) → is_among number (collecting calls) ≡ false → since number (Start number ∷ calls) ≡ []
unfolding since
since-begin number calls out = rw (eq-eqb number number refl, out) refl

others_go_on : (number : ℕ) (calls : List CollectionCall) → is_among number (collecting calls) ≡ false
    → (m : ℕ) → is_among m (collecting calls) ≡ true → begins m (Start number) calls ≡ false
others_go_on number calls out m within =
    let apart : (number == m) ≡ false = ne_eqb number m (λ e. both_ways (is_among number (collecting calls)) out (subst (λ n. is_among n (collecting calls) ≡ true) (sym e) within)) in
    rw apart refl

InOrder-begin : (number : ℕ) (calls : List CollectionCall) → is_among number (collecting calls) ≡ false → InOrder calls (collecting calls)
    → InOrder (Start number ∷ calls) (number ∷ collecting calls)
InOrder-begin number calls out h = (
  λ m within. omega (arith, ap length (since-begin number calls out), ap length (since-goes_on m (Start number) calls (others_go_on number calls out m within))),
  InOrder-more (Start number) calls (collecting calls) (others_go_on number calls out) h,
)

InOrder-collecting : (calls : List CollectionCall) → InOrder calls (collecting calls)
unfolding collecting
InOrder-collecting [] = tt
InOrder-collecting (Start number ∷ earlier) = elim (cases_Bool (is_among number (collecting earlier))) [
  | inl within ↦ rw within (InOrder-more (Start number) earlier (collecting earlier) (λ m _. begins_not number m earlier within) (InOrder-collecting earlier))
  | inr out ↦ rw out (InOrder-take 8 (Start number ∷ earlier) (number ∷ collecting earlier) (InOrder-begin number earlier out (InOrder-collecting earlier)))
]
InOrder-collecting (Add number entry ∷ earlier) = InOrder-more (Add number entry) earlier (collecting earlier) (λ m _. refl) (InOrder-collecting earlier)
InOrder-collecting (Sum number packets bytes ∷ earlier) = InOrder-more (Sum number packets bytes) earlier (collecting earlier) (λ m _. refl) (InOrder-collecting earlier)
InOrder-collecting (Finish number ∷ earlier) =
    InOrder-filter number (Finish number ∷ earlier) (collecting earlier) (InOrder-more (Finish number) earlier (collecting earlier) (λ m _. refl) (InOrder-collecting earlier))
InOrder-collecting (EndAll ∷ earlier) = tt

among_at : (ms : List ℕ) (k d : ℕ) → k < length ms → is_among (slice_index_or ms k d) ms ≡ true
among_at [] k d within = absurd (omega arith)
among_at (m ∷ ms) zero d within = among_here m ms
among_at (m ∷ ms) (suc k) d within = among_more (slice_index_or ms k d) m ms (among_at ms k d (omega arith))

pairs_in_order : (calls : List CollectionCall) (ms : List ℕ) → InOrder calls ms → AllPairs (λ newer older. length (since newer calls) < length (since older calls)) ms
pairs_in_order calls [] h i j d before within = absurd (omega arith)
pairs_in_order calls (m ∷ ms) h zero zero d before within = absurd (omega arith)
pairs_in_order calls (m ∷ ms) h zero (suc j) d before within = h.0 (slice_index_or ms j d) (among_at ms j d (omega arith))
pairs_in_order calls (m ∷ ms) h (suc i) zero d before within = absurd (omega arith)
pairs_in_order calls (m ∷ ms) h (suc i) (suc j) d before within = pairs_in_order calls ms h.1 i j d (omega arith) (omega arith)

pub newest-first : (calls : List CollectionCall) → AllPairs (λ newer older. length (since newer calls) < length (since older calls)) (collecting calls)
newest-first calls = pairs_in_order calls (collecting calls) (InOrder-collecting calls)

-- ---- no more than eight

fewer_kept : (other : ℕ) (ms : List ℕ) → length (filter (λ n. not (n == other)) ms) ≤ length ms
fewer_kept other [] = omega arith
fewer_kept other (m ∷ ms) = elim (cases_Bool (m == other)) [
  | inl out ↦ rw out (omega (arith, fewer_kept other ms))
  | inr stays ↦ rw stays (omega (arith, fewer_kept other ms))
]

pub length-collecting : (calls : List CollectionCall) → length (collecting calls) ≤ 8
unfolding collecting
length-collecting [] = omega arith
length-collecting (Start number ∷ earlier) = elim (cases_Bool (is_among number (collecting earlier))) [
  | inl within ↦ rw within (length-collecting earlier)
  | inr out ↦ rw out (omega (arith, length-take 8 (number ∷ collecting earlier)))
]
length-collecting (Add number entry ∷ earlier) = length-collecting earlier
length-collecting (Sum number packets bytes ∷ earlier) = length-collecting earlier
length-collecting (Finish number ∷ earlier) = omega (arith, fewer_kept number (collecting earlier), length-collecting earlier)
length-collecting (EndAll ∷ earlier) = omega arith

-- ---- the last of them

-- where one stands that isn't taken, it's the last, and each other began later
last_is_oldest : (count number : ℕ) (calls : List CollectionCall) (ms : List ℕ) → length ms ≤ suc count → InOrder calls ms → is_among number ms ≡ true → is_among number (take count ms) ≡ false
    → (length ms ≡ suc count) × ((other : ℕ) → other ≢ number → is_among other ms ≡ true → length (since other calls) < length (since number calls))
last_is_oldest count number calls [] few order within out = cc
last_is_oldest zero number calls (m ∷ []) few order within out = (
  omega arith,
  λ other apart there. absurd (elim (among_cases other m [] there) [
    | inl this ↦ elim (among_cases number m [] within) [ inl own ↦ apart (sym this ∙ own) | inr none ↦ cc ]
    | inr none ↦ cc
  ]),
)
last_is_oldest zero number calls (m ∷ n ∷ ns) few order within out = absurd (omega arith)
last_is_oldest (suc count) number calls (m ∷ ms) few order within out =
    let p = or_parts (m == number) (is_among number (take count ms)) out in
    let later : is_among number ms ≡ true = rw p.0 at within in
    let rest = last_is_oldest count number calls ms (omega arith) order.1 later p.1 in (
      omega (arith, rest.0),
      λ other apart there. elim (among_cases other m ms there) [
        | inl this ↦ subst (λ n. length (since n calls) < length (since number calls)) this (order.0 number later)
        | inr behind ↦ rest.1 other apart behind
      ],
    )

-- of so many the one that is taken isn't the oldest
taken_is_newer : (count number : ℕ) (calls : List CollectionCall) (ms : List ℕ) → length ms ≡ suc count → InOrder calls ms → is_among number (take count ms) ≡ true
    → (older : ℕ) × (is_among older ms ≡ true) × (length (since number calls) < length (since older calls))
taken_is_newer count number calls [] full order within = absurd (omega arith)
taken_is_newer zero number calls (m ∷ ms) full order within = cc
taken_is_newer (suc count) number calls (m ∷ []) full order within = absurd (omega arith)
taken_is_newer (suc count) number calls (m ∷ n ∷ ns) full order within = elim (among_cases number m (take count (n ∷ ns)) within) [
  | inl this ↦ (n, among_more n m (n ∷ ns) (among_here n ns), subst (λ k. length (since k calls) < length (since n calls)) this (order.0 n (among_here n ns)))
  | inr later ↦
      let rest = taken_is_newer count number calls (n ∷ ns) (omega arith) order.1 later in
      (rest.0, among_more rest.0 m (n ∷ ns) rest.1, rest.2)
]

-- ---- call by call

-- a request that collects goes on with a call that doesn't end it
goes_on : (number : ℕ) (call : CollectionCall) (earlier : List CollectionCall) → (EndsCollecting number call earlier → ⊥) → is_among number (collecting earlier) ≡ true
    → is_among number (collecting (call ∷ earlier)) ≡ true
unfolding collecting
goes_on number (Start other) earlier not_ended within = elim (cases_Bool (is_among other (collecting earlier))) [
  | inl collects ↦ rw collects within
  | inr out ↦ elim (cases_Bool (is_among number (take 7 (collecting earlier)))) [
    | inl stays ↦ rw out (among_more number other (take 7 (collecting earlier)) stays)
    | inr given_up ↦
        let oldest = last_is_oldest 7 number earlier (collecting earlier) (length-collecting earlier) (InOrder-collecting earlier) within given_up in
        absurd (not_ended (out, omega (arith, oldest.0), oldest.1))
  ]
]
goes_on number (Add other entry) earlier not_ended within = within
goes_on number (Sum other packets bytes) earlier not_ended within = within
goes_on number (Finish other) earlier not_ended within = among_stays number other (collecting earlier) not_ended within
goes_on number EndAll earlier not_ended within = absurd (not_ended tt)

-- what a call keeps that doesn't do this is kept through calls of which none does
pub kept_through : {C : Type 0} (Does : C → List C → Type 0) (Holds : List C → Type 0) → ((call : C) (before : List C) → (Does call before → ⊥) → Holds before → Holds (call ∷ before))
    → (later earlier : List C) → NoneOf Does later earlier → Holds earlier → Holds (later ++ earlier)
kept_through Does Holds kept [] earlier none held = held
kept_through Does Holds kept (call ∷ later) earlier none held = kept call (later ++ earlier) none.0 (kept_through Does Holds kept later earlier none.1 held)

begun : (number : ℕ) (earlier : List CollectionCall) → is_among number (collecting earlier) ≡ false → is_among number (collecting (Start number ∷ earlier)) ≡ true
unfolding collecting
begun number earlier out = rw out (among_here number (take 7 (collecting earlier)))

pub collecting-IsCollecting : (number : ℕ) (calls : List CollectionCall) → IsCollecting number calls → is_among number (collecting calls) ≡ true
collecting-IsCollecting number calls h =
    subst (λ l. is_among number (collecting l) ≡ true) (sym h.split)
    (kept_through (EndsCollecting number) (λ calls. is_among number (collecting calls) ≡ true) (goes_on number) h.later (Start number ∷ h.earlier) h.not_ended (begun number h.earlier h.began))

-- a request that collects with a call, and collected before, isn't ended by it
not_ended_by : (number : ℕ) (call : CollectionCall) (earlier : List CollectionCall) → is_among number (collecting earlier) ≡ true → is_among number (collecting (call ∷ earlier)) ≡ true
    → EndsCollecting number call earlier → ⊥
unfolding collecting
not_ended_by number (Start other) earlier before after ends =
    let within : is_among number (other ∷ take 7 (collecting earlier)) ≡ true = rw ends.0 at after in
    elim (among_cases number other (take 7 (collecting earlier)) within) [
      | inl this ↦ both_ways (is_among other (collecting earlier)) ends.0 (subst (λ n. is_among n (collecting earlier) ≡ true) (sym this) before)
      | inr taken ↦
          let newer = taken_is_newer 7 number earlier (collecting earlier) ends.1 (InOrder-collecting earlier) taken in
          elim (eqb_tells newer.0 number) [
            | inl this ↦ omega (arith, newer.2, ap (λ n. length (since n earlier)) this.1)
            | inr apart ↦ omega (arith, newer.2, ends.2 newer.0 apart.1 newer.1)
          ]
    ]
not_ended_by number (Add other entry) earlier before after ends = ends
not_ended_by number (Sum other packets bytes) earlier before after ends = ends
not_ended_by number (Finish other) earlier before after ends =
    both_ways (is_among number (collecting (Finish other ∷ earlier))) (subst (λ n. is_among number (filter (λ m. not (m == n)) (collecting earlier)) ≡ false) (sym ends) (among_apart number (collecting earlier))) after
not_ended_by number EndAll earlier before after ends = cc

-- one that collects with a call did before, or begins with it
collected : (number : ℕ) (call : CollectionCall) (earlier : List CollectionCall) → is_among number (collecting (call ∷ earlier)) ≡ true
    → (is_among number (collecting earlier) ≡ true) ⊎ ((call ≡ Start number) × (is_among number (collecting earlier) ≡ false))
unfolding collecting
collected number (Start other) earlier after = elim (cases_Bool (is_among other (collecting earlier))) [
  | inl collects ↦ inl (rw collects at after)
  | inr out ↦
      let within : is_among number (other ∷ take 7 (collecting earlier)) ≡ true = rw out at after in
      elim (among_cases number other (take 7 (collecting earlier)) within) [
        | inl this ↦ inr (ap (λ n. Start n) this, subst (λ n. is_among n (collecting earlier) ≡ false) this out)
        | inr taken ↦ inl (among_taken 7 number (collecting earlier) taken)
      ]
]
collected number (Add other entry) earlier after = inl after
collected number (Sum other packets bytes) earlier after = inl after
collected number (Finish other) earlier after = inl (among_kept number other (collecting earlier) after)
collected number EndAll earlier after = cc

none_collects : (number : ℕ) → is_among number (collecting []) ≡ false
unfolding collecting
none_collects number = refl

pub IsCollecting-collecting : (number : ℕ) (calls : List CollectionCall) → is_among number (collecting calls) ≡ true → IsCollecting number calls
IsCollecting-collecting number [] within = absurd (both_ways (is_among number (collecting [])) (none_collects number) within)
IsCollecting-collecting number (call ∷ earlier) within = elim (collected number call earlier within) [
  | inl before ↦
      let h = IsCollecting-collecting number earlier before in
      record {
        later = call ∷ h.later;
        earlier = h.earlier;
        split = ap (λ rest. call ∷ rest) h.split;
        began = h.began;
        not_ended = (subst (λ l. EndsCollecting number call l → ⊥) h.split (not_ended_by number call earlier before within), h.not_ended);
      }
  | inr begins_now ↦ record {
    later = [];
    earlier = earlier;
    split = ap (λ c. c ∷ earlier) begins_now.0;
    began = begins_now.1;
    not_ended = tt;
  }
]

-- ---- at least until eight others start

among_longer : (count number : ℕ) (ms : List ℕ) → is_among number (take count ms) ≡ true → is_among number (take (suc count) ms) ≡ true
among_longer zero number ms h = cc
among_longer (suc count) number [] h = cc
among_longer (suc count) number (m ∷ ms) h = elim (among_cases number m (take count ms) h) [
  | inl this ↦ subst (λ n. is_among n (m ∷ take (suc count) ms) ≡ true) this (among_here m (take (suc count) ms))
  | inr later ↦ among_more number m (take (suc count) ms) (among_longer count number ms later)
]

among_twice : (count most number : ℕ) (ms : List ℕ) → count ≤ most → is_among number (take count ms) ≡ true → is_among number (take count (take most ms)) ≡ true
among_twice zero most number ms le h = cc
among_twice (suc count) most number [] le h = cc
among_twice (suc count) zero number (m ∷ ms) le h = absurd (omega arith)
among_twice (suc count) (suc most) number (m ∷ ms) le h = elim (among_cases number m (take count ms) h) [
  | inl this ↦ subst (λ n. is_among n (m ∷ take count (take most ms)) ≡ true) this (among_here m (take count (take most ms)))
  | inr later ↦ among_more number m (take count (take most ms)) (among_twice count most number ms (omega arith) later)
]

-- without others a request stands no further behind
among_nearer : (count number other : ℕ) (ms : List ℕ) → other ≢ number → is_among number (take count ms) ≡ true
    → is_among number (take count (filter (λ n. not (n == other)) ms)) ≡ true
among_nearer zero number other ms apart h = cc
among_nearer (suc count) number other [] apart h = cc
among_nearer (suc count) number other (m ∷ ms) apart h = elim (among_cases number m (take count ms) h) [
  | inl this ↦
      let stays : (m == other) ≡ false = ne_eqb m other (λ e. apart (sym e ∙ this)) in
      rw stays (subst (λ n. is_among n (m ∷ take count (filter (λ k. not (k == other)) ms)) ≡ true) this (among_here m (take count (filter (λ k. not (k == other)) ms))))
  | inr later ↦
      let rest = among_nearer count number other ms apart later in
      elim (cases_Bool (m == other)) [
        | inl out ↦ rw out (among_longer count number (filter (λ n. not (n == other)) ms) rest)
        | inr stays ↦ rw stays (among_more number m (take count (filter (λ n. not (n == other)) ms)) rest)
      ]
]

-- what wasn't called with one more call wasn't before
earlier_too : (call : CollectionCall) (later : List CollectionCall) (sought : CollectionCall) → (Contains (call ∷ later) sought → ⊥) → Contains later sought → ⊥
earlier_too call later sought none h = none (suc h.0, omega (arith, h.1), h.2)

-- a request stands behind no more than so many others as were started since
near : (number : ℕ) (later earlier : List CollectionCall) → is_among number (collecting earlier) ≡ false → (Contains later (Finish number) → ⊥) → (Contains later EndAll → ⊥)
    → others_started number later < 8 → is_among number (take (suc (others_started number later)) (collecting (later ++ (Start number ∷ earlier)))) ≡ true
unfolding collecting
near number [] earlier began stays goes few = rw began (among_here number [])
near number (Start other ∷ later) earlier began stays goes few =
    let all = later ++ (Start number ∷ earlier) in
    elim (eqb_tells other number) [
      | inl this ↦
          let rest = near number later earlier began (earlier_too (Start other) later (Finish number) stays) (earlier_too (Start other) later EndAll goes) (rw this.0 at few) in
          let within : is_among other (collecting all) ≡ true = rw this.1 (among_taken (suc (others_started number later)) number (collecting all) rest) in
          rw (this.0, within) rest
      | inr apart ↦
          let count = others_started number later in
          let less : count + 1 < 8 = rw apart.0 at few in
          let rest = near number later earlier began (earlier_too (Start other) later (Finish number) stays) (earlier_too (Start other) later EndAll goes) (omega arith) in
          elim (cases_Bool (is_among other (collecting all))) [
            | inl within ↦ rw (apart.0, within, add-one count) (among_longer (suc count) number (collecting all) rest)
            | inr out ↦ rw (apart.0, out, add-one count) (among_more number other (take (suc count) (take 7 (collecting all))) (among_twice (suc count) 7 number (collecting all) (omega arith) rest))
          ]
    ]
near number (Add other entry ∷ later) earlier began stays goes few =
    near number later earlier began (earlier_too (Add other entry) later (Finish number) stays) (earlier_too (Add other entry) later EndAll goes) few
near number (Sum other packets bytes ∷ later) earlier began stays goes few =
    near number later earlier began (earlier_too (Sum other packets bytes) later (Finish number) stays) (earlier_too (Sum other packets bytes) later EndAll goes) few
near number (Finish other ∷ later) earlier began stays goes few =
    among_nearer (suc (others_started number later)) number other (collecting (later ++ (Start number ∷ earlier)))
    (λ e. stays (zero, omega arith, ap (λ n. Finish n) e))
    (near number later earlier began (earlier_too (Finish other) later (Finish number) stays) (earlier_too (Finish other) later EndAll goes) few)
near number (EndAll ∷ later) earlier began stays goes few = absurd (goes (zero, omega arith, refl))

pub collecting-IsStarted : (number : ℕ) (calls : List CollectionCall) → IsStarted number calls → is_among number (collecting calls) ≡ true
collecting-IsStarted number calls h =
    subst (λ l. is_among number (collecting l) ≡ true) (sym h.split)
    (among_taken (suc (others_started number h.later)) number (collecting (h.later ++ (Start number ∷ h.earlier)))
    (near number h.later h.earlier h.began h.not_finished h.not_all_ended (omega (arith, h.few))))
