-- What the calls say of one pair.
use Rattle.std.proofs.Common.{ℕ, ◌≡◌, ◌<◌, ◌==◌, ◌&&◌, ◌||◌, ◌⊎◌, not, List, [], ◌∷◌, zero, suc, length, map, Bool, Option, Some, None, refl, sym, ap, subst, ◌∙◌, arith, true, false, inl, inr}
use Rattle.std.specs.Prelude.{filter, find, Contains, option_map, slice_index_or}
use Rattle.std.specs.Option.{option_or}
use Rattle.std.specs.List.{list_any}
use Rattle.std.proofs.lemmas.Bool.{cases_Bool, both_ways, eqb-true, eq-eqb, and_from, and_parts, or_left, or_right}
use Rattle.std.proofs.lemmas.List.{get_or_default}
use Rattle.std.proofs.lemmas.List.Elements.{Contains-append_right}
use Rattle.std.proofs.lemmas.List.Folds.{list_any-append, list_any_at, find-append, Any-from_list_any}
use Rattle.std.proofs.lemmas.Map.Views.{any-filter_same}
use Rattle.of10_model.specs.declared.pattern.Pattern.{Pattern}
use Rattle.of10_model.specs.Normal.{IsNormal}
use Rattle.flowspace.proofs.Ranking.{find-filter}
use Rattle.xid_map.proofs.Collecting.{kept_through}
use Rattle.flow_book.specs.declared.booked.Booked.{Booked}
use Rattle.flow_book.specs.Books.{BookCall, Added, Removed, Failed, is_pair, is_booked, includes_booked, is_newcomer, first_booked, booked_again, is_first, without, book, booking}
use Rattle.flow_book.specs.Pairs.{BooksPiece, Books, Releases, IsLastBooked, IsFirstBooked}
use Rattle.of10_model.specs.Same.{is_same}
use Rattle.of10_model.proofs.Same.{one-is_same, is_same-one}
use Rattle.xid_map.proofs.Finding.{find_passes}
use Rattle.flow_book.proofs.SamePairs.{pair_parts, pair_from}
use Rattle.flow_book.proofs.Counts.{find_no}
use Rattle.flow_book.proofs.Standing.{again_pair, booked_again-booked, newcomer-unbooked, booked-included}

-- ---- which pieces a flow-mod books

piece_case : (z w o b i : Bool) → (((z || w) && not b) || (o && not i)) ≡ true → (z ≡ true) ⊎ (((o ≡ true) × (i ≡ false)) ⊎ ((w ≡ true) × (b ≡ false)))
piece_case true w o b i h = inl refl
piece_case false true o false i h = inr (inr (refl, refl))
piece_case false true true true false h = inr (inl (refl, refl))
piece_case false true true true true h = cc
piece_case false true false true i h = cc
piece_case false false true b false h = inr (inl (refl, refl))
piece_case false false true b true h = cc
piece_case false false false b i h = cc

newcomer_books : (command p : ℕ) (m : Pattern) (earlier : List BookCall) → is_newcomer command p (book earlier) m ≡ true → BooksPiece command m p earlier
newcomer_books command p m earlier h = elim (piece_case (command == 0) (command == 2) (command == 1) (is_booked m p (book earlier)) (includes_booked m (book earlier)) h) [
  | inl add ↦ inl (eqb-true command 0 add)
  | inr other ↦ elim other [
    | inl modify ↦ inr (inl (eqb-true command 1 modify.0, modify.1))
    | inr strict ↦ inr (inr (eqb-true command 2 strict.0, strict.1))
  ]
]

books_newcomer : (command p : ℕ) (m : Pattern) (earlier : List BookCall) → BooksPiece command m p earlier → (is_newcomer command p (book earlier) m ≡ true) ⊎ (is_booked m p (book earlier) ≡ true)
books_newcomer command p m earlier (inl add) = elim (cases_Bool (is_booked m p (book earlier))) [
  | inl within ↦ inr within
  | inr out ↦ inl (rw (eq-eqb command 0 add, out) refl)
]
books_newcomer command p m earlier (inr (inl modify)) =
    inl (or_right ((command == 0 || command == 2) && not (is_booked m p (book earlier))) (command == 1 && not (includes_booked m (book earlier))) (rw (eq-eqb command 1 modify.0, modify.1) refl))
books_newcomer command p m earlier (inr (inr strict)) =
    inl (or_left ((command == 0 || command == 2) && not (is_booked m p (book earlier))) (command == 1 && not (includes_booked m (book earlier)))
    (and_from (command == 0 || command == 2) (not (is_booked m p (book earlier))) (or_right (command == 0) (command == 2) (eq-eqb command 2 strict.0)) (ap not strict.1)))

-- ---- what is found

split_found : (o r : Option Booked) (b : Booked) → option_or o r ≡ Some b → (o ≡ Some b) ⊎ ((o ≡ None) × (r ≡ Some b))
split_found None r b e = inr (refl, e)
split_found (Some x) r b e = inl e

record Mapped (f : Booked → Booked) (o : Option Booked) (b : Booked) : Type 0 where
  source : Booked
  at_source : o ≡ Some source
  gives : f source ≡ b

mapped : (f : Booked → Booked) (o : Option Booked) (b : Booked) → option_map f o ≡ Some b → Mapped f o b
mapped f None b e = cc
mapped f (Some x) b e = record { source = x; at_source = refl; gives = cc }

find_map : (test : Booked → Bool) (f : Booked → Booked) → ((b : Booked) → test (f b) ≡ test b) → (xs : List Booked) → find test (map f xs) ≡ option_map f (find test xs)
find_map test f e [] = refl
find_map test f e (x ∷ xs) = elim (cases_Bool (test x)) [
  | inl passes ↦ rw (e x, passes) refl
  | inr fails ↦ rw (e x, fails) (find_map test f e xs)
]

any_found : (test : Booked → Bool) (xs : List Booked) (b : Booked) → find test xs ≡ Some b → list_any test xs ≡ true
any_found test xs b e = elim (cases_Bool (list_any test xs)) [
  | inl some ↦ some
  | inr none ↦ let missed : None ≡ Some b = sym (find_no test xs none) ∙ e in cc
]

is_first_found : (number : ℕ) (o : Option Booked) → is_first number o ≡ true → (b : Booked) × (o ≡ Some b) × (b.number ≡ number)
is_first_found number None h = cc
is_first_found number (Some b) h = (b, refl, eqb-true b.number number h)

is_first_of : (number : ℕ) (b : Booked) → b.number ≡ number → is_first number (Some b) ≡ true
is_first_of number b e = eq-eqb b.number number e

module _ (m : Pattern) (p : ℕ) where
  -- ---- pieces that come fresh

  record FoundFresh (command : ℕ) (ms : List Pattern) (q : ℕ) (asked : Bool) (number : ℕ) (xs : List Booked) (b : Booked) : Type 0 where
    at_priority : q ≡ p
    among : Contains ms m
    comes : is_newcomer command q xs m ≡ true
    so_asked : b.asked ≡ asked
    so_numbered : b.number ≡ number

  found_fresh : (command : ℕ) (ms : List Pattern) (q : ℕ) (asked : Bool) (number : ℕ) (xs : List Booked) (b : Booked)
      → find (is_pair m p) (map (first_booked q asked number) (filter (is_newcomer command q xs) ms)) ≡ Some b → FoundFresh command ms q asked number xs b
  found_fresh command [] q asked number xs b e = cc
  found_fresh command (z ∷ zs) q asked number xs b e = elim (cases_Bool (is_newcomer command q xs z)) [
    | inr stays ↦
        let f = found_fresh command zs q asked number xs b (rw stays at e) in
        record { at_priority = f.at_priority; among = Contains-append_right (z ∷ []) zs m f.among; comes = f.comes; so_asked = f.so_asked; so_numbered = f.so_numbered }
    | inl comes ↦
        let e' : find (is_pair m p) (first_booked q asked number z ∷ map (first_booked q asked number) (filter (is_newcomer command q xs) zs)) ≡ Some b = rw comes at e in
        elim (cases_Bool (is_pair m p (first_booked q asked number z))) [
          | inl same ↦
              let h = pair_parts m p (first_booked q asked number z) same in
              let it : Some (first_booked q asked number z) ≡ Some b = rw same at e' in
              let is : first_booked q asked number z ≡ b = cc in
              record {
                at_priority = h.at_priority;
                among = (zero, omega arith, h.of_match);
                comes = subst (λ y. is_newcomer command q xs y ≡ true) h.of_match comes;
                so_asked = sym (ap (λ y. y.asked) is);
                so_numbered = sym (ap (λ y. y.number) is);
              }
          | inr other ↦
              let f = found_fresh command zs q asked number xs b (rw other at e') in
              record { at_priority = f.at_priority; among = Contains-append_right (z ∷ []) zs m f.among; comes = f.comes; so_asked = f.so_asked; so_numbered = f.so_numbered }
        ]
  ]

  fresh_booked : (command : ℕ) (ms : List Pattern) (asked : Bool) (number : ℕ) (xs : List Booked) → is_newcomer command p xs m ≡ true → (k : ℕ) → k < length ms → slice_index_or ms k m ≡ m
      → list_any (is_pair m p) (map (first_booked p asked number) (filter (is_newcomer command p xs) ms)) ≡ true
  fresh_booked command [] asked number xs comes k lt at = absurd (omega arith)
  fresh_booked command (z ∷ zs) asked number xs comes zero lt at =
      rw (subst (λ y. is_newcomer command p xs y ≡ true) (sym at) comes) (
      or_left (is_pair m p (first_booked p asked number z)) (list_any (is_pair m p) (map (first_booked p asked number) (filter (is_newcomer command p xs) zs))) (pair_from m p (first_booked p asked number z) refl at))
  fresh_booked command (z ∷ zs) asked number xs comes (suc k) lt at =
      let rest = fresh_booked command zs asked number xs comes k (omega arith) at in
      elim (cases_Bool (is_newcomer command p xs z)) [
        | inl too ↦ rw too (or_right (is_pair m p (first_booked p asked number z)) (list_any (is_pair m p) (map (first_booked p asked number) (filter (is_newcomer command p xs) zs))) rest)
        | inr stays ↦ rw stays rest
      ]

  -- ---- other pairs

  same_or_other : (o : Pattern) (q : ℕ) → ((o ≡ m) × (q ≡ p)) ⊎ ((b : Booked) → is_pair m p b ≡ true → is_pair o q b ≡ false)
  same_or_other o q = elim (cases_Bool (is_same o m)) [
    | inr apart ↦ inr (λ b same. elim (cases_Bool (is_pair o q b)) [
      | inr other ↦ other
      | inl both ↦ absurd (both_ways (is_same o m) apart (subst (λ y. is_same o y ≡ true) ((pair_parts m p b same).of_match) (subst (λ y. is_same y b.pattern ≡ true) ((pair_parts o q b both).of_match) (is_same-one b.pattern))))
    ])
    | inl alike ↦ elim (cases_Bool (q == p)) [
      | inl level ↦ inl (one-is_same o m alike, eqb-true q p level)
      | inr apart ↦ inr (λ b same. elim (cases_Bool (is_pair o q b)) [
        | inr other ↦ other
        | inl both ↦ absurd (both_ways (q == p) apart (eq-eqb q p (sym (pair_parts o q b both).at_priority ∙ (pair_parts m p b same).at_priority)))
      ])
    ]
  ]

  find_without_itself : (xs : List Booked) (b : Booked) → find (is_pair m p) (without m p xs) ≡ Some b → ⊥
  find_without_itself xs b e =
      both_ways (list_any (is_pair m p) (without m p xs)) (any-filter_same (is_pair m p) (λ y. not (is_pair m p y)) false (λ y same. ap not same) xs) (any_found (is_pair m p) (without m p xs) b e)

  find_without_other : (o : Pattern) (q : ℕ) (xs : List Booked) → ((b : Booked) → is_pair m p b ≡ true → is_pair o q b ≡ false) → find (is_pair m p) (without o q xs) ≡ find (is_pair m p) xs
  find_without_other o q xs other = find-filter (is_pair m p) (λ y. not (is_pair o q y)) (λ y same. ap not (other y same)) xs

  booked_without_other : (o : Pattern) (q : ℕ) (xs : List Booked) → ((b : Booked) → is_pair m p b ≡ true → is_pair o q b ≡ false) → is_booked m p (without o q xs) ≡ is_booked m p xs
  booked_without_other o q xs other = any-filter_same (is_pair m p) (λ y. not (is_pair o q y)) true (λ y same. ap not (other y same)) xs

  -- ---- call by call

  -- the calls say of the pair what it has
  abbrev pub Said : List BookCall → Booked → Type 0
  Said calls b = IsLastBooked m p b.asked calls × IsFirstBooked m p b.number calls

  last_before : (call : BookCall) (earlier : List BookCall) (wish : Bool) → (Books m p call earlier → ⊥) → (Releases m p call earlier → ⊥) → IsLastBooked m p wish earlier → IsLastBooked m p wish (call ∷ earlier)
  last_before call earlier wish nb nr h = record {
    later = call ∷ h.later;
    command = h.command;
    pieces = h.pieces;
    number = h.number;
    earlier = h.earlier;
    split = ap (λ l. call ∷ l) h.split;
    books = h.books;
    not_booked = (subst (λ l. Books m p call l → ⊥) h.split nb, h.not_booked);
    not_released = (subst (λ l. Releases m p call l → ⊥) h.split nr, h.not_released);
  }

  first_before : (call : BookCall) (earlier : List BookCall) (number : ℕ) → (Releases m p call earlier → ⊥) → IsFirstBooked m p number earlier → IsFirstBooked m p number (call ∷ earlier)
  first_before call earlier number nr h = record {
    later = call ∷ h.later;
    command = h.command;
    pieces = h.pieces;
    wish = h.wish;
    earlier = h.earlier;
    split = ap (λ l. call ∷ l) h.split;
    books = h.books;
    unbooked = h.unbooked;
    not_released = (subst (λ l. Releases m p call l → ⊥) h.split nr, h.not_released);
  }

  last_here : (command : ℕ) (ms : List Pattern) (q : ℕ) (asked wish : Bool) (number : ℕ) (earlier : List BookCall) → q ≡ p → asked ≡ wish → Contains ms m → BooksPiece command m p earlier
      → IsLastBooked m p wish (Added command ms q asked number ∷ earlier)
  last_here command ms q asked wish number earlier level so among piece = record {
    later = [];
    command = command;
    pieces = ms;
    number = number;
    earlier = earlier;
    split = λ i. Added command ms (level i) (so i) number ∷ earlier;
    books = (refl, among, piece);
    not_booked = tt;
    not_released = tt;
  }

  first_here : (command : ℕ) (ms : List Pattern) (q : ℕ) (asked : Bool) (number of : ℕ) (earlier : List BookCall) → q ≡ p → number ≡ of → Contains ms m → BooksPiece command m p earlier → is_booked m p (book earlier) ≡ false
      → IsFirstBooked m p of (Added command ms q asked number ∷ earlier)
  first_here command ms q asked number of earlier level so among piece out = record {
    later = [];
    command = command;
    pieces = ms;
    wish = asked;
    earlier = earlier;
    split = λ i. Added command ms (level i) asked (so i) ∷ earlier;
    books = (refl, among, piece);
    unbooked = out;
    not_released = tt;
  }

  -- a pair that was booked before and isn't booked by the flow-mod is as it was; one that an ADD books again asks as the ADD does
  old_said : IsNormal m → (command : ℕ) (ms : List Pattern) (q : ℕ) (asked : Bool) (number : ℕ) (earlier : List BookCall) (c : Booked) → booking m p earlier ≡ Some c → Said earlier c
      → Said (Added command ms q asked number ∷ earlier) (booked_again command ms q asked c)
  old_said n command ms q asked number earlier c at said =
      let passes = find_passes (is_pair m p) (book earlier) c at in
      let within = any_found (is_pair m p) (book earlier) c at in
      let h = pair_parts m p c passes in
      elim (cases_Bool (command == 0 && list_any (λ piece. is_pair piece q c) ms)) [
        | inl both ↦
            let parts = and_parts (command == 0) (list_any (λ piece. is_pair piece q c) ms) both in
            let any = Any-from_list_any (λ piece. is_pair piece q c) ms parts.1 in
            let k = pair_parts any.1 q c any.4 in
            let is_m : any.1 ≡ m = sym k.of_match ∙ h.of_match in
            let among : Contains ms m = (any.0, any.2, get_or_default ms any.0 m any.1 any.2 ∙ any.3 ∙ is_m) in
            rw both (
              last_here command ms q asked asked number earlier (sym k.at_priority ∙ h.at_priority) refl among (inl (eqb-true command 0 parts.0)),
              first_before (Added command ms q asked number) earlier c.number (λ r. r) said.1,
            )
        | inr neither ↦
            let not_books : Books m p (Added command ms q asked number) earlier → ⊥ = λ b. elim b.2 [
              | inl add ↦
                  both_ways (command == 0 && list_any (λ piece. is_pair piece q c) ms) neither
                  (and_from (command == 0) (list_any (λ piece. is_pair piece q c) ms) (eq-eqb command 0 add)
                  (list_any_at (λ piece. is_pair piece q c) ms b.1.0 m b.1.1 (rw b.1.2 (pair_from m q c (h.at_priority ∙ sym b.0) h.of_match))))
              | inr other ↦ elim other [
                | inl modify ↦ both_ways (includes_booked m (book earlier)) modify.1 (booked-included m p (book earlier) n within)
                | inr strict ↦ both_ways (is_booked m p (book earlier)) strict.1 within
              ]
            ] in
            rw neither (
              last_before (Added command ms q asked number) earlier c.asked not_books (λ r. r) said.0,
              first_before (Added command ms q asked number) earlier c.number (λ r. r) said.1,
            )
      ]

  added_said : IsNormal m → (command : ℕ) (ms : List Pattern) (q : ℕ) (asked : Bool) (number : ℕ) (earlier : List BookCall) → ((c : Booked) → booking m p earlier ≡ Some c → Said earlier c)
      → (b : Booked) → booking m p (Added command ms q asked number ∷ earlier) ≡ Some b → Said (Added command ms q asked number ∷ earlier) b
  unfolding book
  added_said n command ms q asked number earlier said b e =
      let xs = book earlier in
      let fresh = map (first_booked q asked number) (filter (is_newcomer command q xs) ms) in
      let old = map (booked_again command ms q asked) xs in
      elim (split_found (find (is_pair m p) fresh) (find (is_pair m p) old) b (sym (find-append (is_pair m p) fresh old) ∙ e)) [
        | inl here ↦
            let f = found_fresh command ms q asked number xs b here in
            let comes : is_newcomer command p xs m ≡ true = subst (λ r. is_newcomer command r xs m ≡ true) f.at_priority f.comes in
            let piece = newcomer_books command p m earlier comes in (
              last_here command ms q asked b.asked number earlier f.at_priority (sym f.so_asked) f.among piece,
              first_here command ms q asked number b.number earlier f.at_priority (sym f.so_numbered) f.among piece (newcomer-unbooked command p xs m n comes),
            )
        | inr there ↦
            let o = mapped (booked_again command ms q asked) (find (is_pair m p) xs) b (sym (find_map (is_pair m p) (booked_again command ms q asked) (again_pair command ms q asked m p) xs) ∙ there.1) in
            subst (Said (Added command ms q asked number ∷ earlier)) o.gives (old_said n command ms q asked number earlier o.source o.at_source (said o.source o.at_source))
      ]

  removed_said : (call : BookCall) (o : Pattern) (q : ℕ) (earlier : List BookCall) → (Books m p call earlier → ⊥) → (Releases m p call earlier → (o ≡ m) × (q ≡ p)) → ((c : Booked) → booking m p earlier ≡ Some c → Said earlier c)
      → (b : Booked) → find (is_pair m p) (without o q (book earlier)) ≡ Some b → Said (call ∷ earlier) b
  removed_said call o q earlier nb released said b e = elim (same_or_other o q) [
    | inl same ↦ absurd (find_without_itself (book earlier) b (subst (λ r. find (is_pair m p) (without m r (book earlier)) ≡ Some b) same.1 (subst (λ y. find (is_pair m p) (without y q (book earlier)) ≡ Some b) same.0 e)))
    | inr other ↦
        let at : booking m p earlier ≡ Some b = sym (find_without_other o q (book earlier) other) ∙ e in
        let h = pair_parts m p b (find_passes (is_pair m p) (book earlier) b at) in
        let nr : Releases m p call earlier → ⊥ = λ r. (let s = released r in both_ways (is_pair o q b) (other b (find_passes (is_pair m p) (book earlier) b at)) (pair_from o q b (h.at_priority ∙ sym s.1) (h.of_match ∙ sym s.0))) in
        (last_before call earlier b.asked nb nr (said b at).0, first_before call earlier b.number nr (said b at).1)
  ]

  first_released : (number : ℕ) (o : Pattern) (q : ℕ) (earlier : List BookCall) → Releases m p (Failed number o q) earlier → is_first number (find (is_pair o q) (book earlier)) ≡ true
  first_released number o q earlier r =
      subst (λ y. is_first number (find (is_pair y q) (book earlier)) ≡ true) (sym r.0) (subst (λ s. is_first number (find (is_pair m s) (book earlier)) ≡ true) (sym r.1) (rw r.2.1 (is_first_of number r.2.0 r.2.2)))

  pub history : IsNormal m → (calls : List BookCall) (b : Booked) → booking m p calls ≡ Some b → Said calls b
  unfolding book
  history n [] b e = cc
  history n (Added command ms q asked number ∷ earlier) b e = added_said n command ms q asked number earlier (history n earlier) b e
  history n (Removed o q ∷ earlier) b e = removed_said (Removed o q) o q earlier (λ k. k) (λ r. r) (history n earlier) b e
  history n (Failed number o q ∷ earlier) b e = elim (cases_Bool (is_first number (find (is_pair o q) (book earlier)))) [
    | inl first ↦ removed_said (Failed number o q) o q earlier (λ k. k) (λ r. (r.0, r.1)) (history n earlier) b (rw first at e)
    | inr not_first ↦
        let at : booking m p earlier ≡ Some b = rw not_first at e in
        let nr : Releases m p (Failed number o q) earlier → ⊥ = λ r. both_ways (is_first number (find (is_pair o q) (book earlier))) not_first (first_released number o q earlier r) in
        (last_before (Failed number o q) earlier b.asked (λ k. k) nr (history n earlier b at).0, first_before (Failed number o q) earlier b.number nr (history n earlier b at).1)
  ]

  -- ---- the other way round

  booked_here : (command : ℕ) (ms : List Pattern) (asked : Bool) (number : ℕ) (earlier : List BookCall) → Books m p (Added command ms p asked number) earlier → is_booked m p (book (Added command ms p asked number ∷ earlier)) ≡ true
  unfolding book
  booked_here command ms asked number earlier b =
      let xs = book earlier in
      let fresh = map (first_booked p asked number) (filter (is_newcomer command p xs) ms) in
      let old = map (booked_again command ms p asked) xs in
      list_any-append (is_pair m p) fresh old ∙ elim (books_newcomer command p m earlier b.2) [
        | inl comes ↦ or_left (list_any (is_pair m p) fresh) (list_any (is_pair m p) old) (fresh_booked command ms asked number xs comes b.1.0 b.1.1 b.1.2)
        | inr within ↦ or_right (list_any (is_pair m p) fresh) (list_any (is_pair m p) old) (booked_again-booked command ms p asked m p xs ∙ within)
      ]

  not_removed : (o : Pattern) (q : ℕ) (xs : List Booked) → ((o ≡ m) × (q ≡ p) → ⊥) → is_booked m p xs ≡ true → is_booked m p (without o q xs) ≡ true
  not_removed o q xs nr within = elim (same_or_other o q) [
    | inl same ↦ absurd (nr same)
    | inr other ↦ booked_without_other o q xs other ∙ within
  ]

  stays_booked : (call : BookCall) (earlier : List BookCall) → (Releases m p call earlier → ⊥) → is_booked m p (book earlier) ≡ true → is_booked m p (book (call ∷ earlier)) ≡ true
  unfolding book
  stays_booked (Added command ms q asked number) earlier nr within =
      let xs = book earlier in
      let fresh = map (first_booked q asked number) (filter (is_newcomer command q xs) ms) in
      let old = map (booked_again command ms q asked) xs in
      list_any-append (is_pair m p) fresh old ∙ or_right (list_any (is_pair m p) fresh) (list_any (is_pair m p) old) (booked_again-booked command ms q asked m p xs ∙ within)
  stays_booked (Removed o q) earlier nr within = not_removed o q (book earlier) nr within
  stays_booked (Failed number o q) earlier nr within = elim (cases_Bool (is_first number (find (is_pair o q) (book earlier)))) [
    | inr not_first ↦ rw not_first within
    | inl first ↦ rw first (not_removed o q (book earlier)
        (λ same.
        let f = is_first_found number (find (is_pair o q) (book earlier)) first in
        nr (same.0, same.1, (f.0, subst (λ r. find (is_pair m r) (book earlier) ≡ Some f.0) same.1 (subst (λ y. find (is_pair y q) (book earlier) ≡ Some f.0) same.0 f.1), f.2)))
        within)
  ]

  pub last_is_booked : (wish : Bool) (calls : List BookCall) → IsLastBooked m p wish calls → is_booked m p (book calls) ≡ true
  last_is_booked wish calls h =
      subst (λ l. is_booked m p (book l) ≡ true) (sym h.split)
      (kept_through (Releases m p) (λ l. is_booked m p (book l) ≡ true) stays_booked h.later (Added h.command h.pieces p wish h.number ∷ h.earlier) h.not_released (booked_here h.command h.pieces wish h.number h.earlier h.books))
