-- What comes into each queue, and the room for it.
use Rattle.std.proofs.Common.{◌≡◌, ◌≢◌, ℕ, suc, ◌+◌, ◌<◌, ◌≤◌, ◌==◌, Bool, true, false, if◌then◌else◌, List, [], ◌∷◌, ◌++◌, length, set, slice_get, refl, ap, ap₂, sym, ◌∙◌, subst, eqb-true, append-nil, inl, inr, Some, arith}
use Rattle.std.specs.Prelude.{ltb}
use Rattle.std.proofs.lemmas.Bool.{cases_Bool, eq-eqb, ne_eqb, eqb-false, cases_lt}
use Rattle.std.proofs.lemmas.List.{length-set}
use Rattle.std.proofs.lemmas.Option.{same_Some, slice_get_within}
use Rattle.flowspace.specs.declared.slices.Slice.{Slice}
use Rattle.flowspace.specs.Policies.{PolicyView}
use Rattle.outbox.specs.Queues.{Queue, no_messages, push, push_all, OutboxState, QueueStands}
use Rattle.desk_words.specs.declared.event.Timed.{Timed}
use Rattle.desk_words.specs.Openings.{KnownSwitch}
use Rattle.desk_words.specs.Histories.{SliceSide}
use Rattle.desk_words.specs.Sent.{sent_with}
use Rattle.switch_side.specs.Dispatches.{addressed, sent_to_all}
use Rattle.switch_side.specs.Changes.{of_slot}
use Rattle.proxy_core.specs.Slots.{SameQueue, HasMore, HasOnly}
use Rattle.proxy_core.specs.Handing.{HasRoomAt, HaveRoom, AreSame, AreHanded}
use Rattle.proxy_core.proofs.Lists.{there, within}
use Rattle.proxy_core.proofs.Places.{get_set, get_other}

-- ---- one queue

pub only_none : (a b : OutboxState) → ((limit : ℕ) (q : Queue) → QueueStands limit q a → QueueStands limit no_messages b) → HasOnly [] a b
unfolding push_all
only_none a b clear = clear

pub only_one : (message : List ℕ) (a b c d : OutboxState) → SameQueue a b → ((limit : ℕ) (q : Queue) → QueueStands limit q b → QueueStands limit no_messages c)
    → ((limit : ℕ) (q : Queue) → QueueStands limit q c → QueueStands limit (push limit q message) d) → HasOnly (message ∷ []) a d
unfolding push_all
only_one message a b c d same clear more = λ limit q h. more limit no_messages (clear limit q (same limit q h))

pub none_more : (a : OutboxState) → HasMore [] a a
unfolding push_all
none_more a = λ limit q h. h

one_more : (message : List ℕ) (a b : OutboxState) → ((limit : ℕ) (q : Queue) → QueueStands limit q a → QueueStands limit (push limit q message) b) → HasMore (message ∷ []) a b
unfolding push_all
one_more message a b more = more

first_more : (message : List ℕ) (later : List (List ℕ)) (a b c : OutboxState) → HasMore (message ∷ []) a b → HasMore later b c → HasMore (message ∷ later) a c
unfolding push_all
first_more message later a b c one others = λ limit q h. others limit (push limit q message) (one limit q h)

then_more : (later : List (List ℕ)) (a b c : OutboxState) → HasMore [] a b → HasMore later b c → HasMore later a c
unfolding push_all
then_more later a b c one others = λ limit q h. others limit q (one limit q h)

-- ---- all queues

same_kept : (slot : ℕ) (xs : List OutboxState) (a b : OutboxState) → slice_get xs slot ≡ Some a → slice_get xs slot ≡ Some b → a ≡ b
same_kept slot xs a b ga gb = same_Some _ _ (sym ga ∙ gb)

pub same_then : (xs ys zs : List OutboxState) → AreSame xs ys → AreSame ys zs → AreSame xs zs
same_then xs ys zs one other = record {
  count = other.count ∙ one.count;
  each = λ i a c ga gc.
      let b = there ys i (subst (λ (n : ℕ). ltb i n ≡ true) (sym one.count) (within xs i a ga)) in
      λ limit q h. other.each i b.0 c b.1 gc limit q (one.each i a b.0 ga b.1 limit q h);
}

pub none_handed : (xs : List OutboxState) → AreHanded [] xs xs
none_handed xs = record {
  count = refl;
  each = λ slot a b ga gb. subst (λ (k : OutboxState). HasMore [] a k) (same_kept slot xs a b ga gb) (none_more a);
}

slot_one : (slot i : ℕ) (message : List ℕ) (b : Bool) → (slot == i) ≡ b → of_slot i ((slot, message) ∷ []) ≡ (if b then message ∷ [] else [])
slot_one slot i message true is = rw is refl
slot_one slot i message false is = rw is refl

pub put_handed : (xs : List OutboxState) (slot : ℕ) (message : List ℕ) (x y : OutboxState) → slice_get xs slot ≡ Some x
    → ((limit : ℕ) (q : Queue) → QueueStands limit q x → QueueStands limit (push limit q message) y)
    → AreHanded ((slot, message) ∷ []) xs (set xs slot y)
put_handed xs slot message x y gx more = record {
  count = length-set xs slot y;
  each = λ i a b ga gb. elim (cases_Bool (slot == i)) [
    | inl is ↦
        let e : slot ≡ i = eqb-true slot i is in
        let is_x : x ≡ a = same_Some _ _ (sym gx ∙ subst (λ (k : ℕ). slice_get xs k ≡ Some a) (sym e) ga) in
        let is_y : y ≡ b = same_Some _ _ (sym (get_set xs slot x y gx) ∙ subst (λ (k : ℕ). slice_get (set xs slot y) k ≡ Some b) (sym e) gb) in
        subst (λ (m : List (List ℕ)). HasMore m a b) (sym (slot_one slot i message true is))
        (subst (λ (k : OutboxState). HasMore (message ∷ []) k b) is_x (subst (λ (k : OutboxState). HasMore (message ∷ []) x k) is_y (one_more message x y more)))
    | inr isnt ↦
        let far : i ≢ slot = λ e. eqb-false slot i isnt (sym e) in
        subst (λ (m : List (List ℕ)). HasMore m a b) (sym (slot_one slot i message false isnt))
        (subst (λ (k : OutboxState). HasMore [] a k) (same_Some _ _ (sym ga ∙ sym (get_other xs slot i y far) ∙ gb)) (none_more a))
  ];
}

pub none_put : (xs : List OutboxState) (slot : ℕ) (message : List ℕ) → length xs ≤ slot → AreHanded ((slot, message) ∷ []) xs xs
none_put xs slot message out = record {
  count = refl;
  each = λ i a b ga gb.
      let inside = slice_get_within xs i a ga in
      let far : slot ≢ i = λ e. absurd (omega (arith, e)) in
      subst (λ (m : List (List ℕ)). HasMore m a b) (sym (slot_one slot i message false (ne_eqb slot i far)))
      (subst (λ (k : OutboxState). HasMore [] a k) (same_kept i xs a b ga gb) (none_more a));
}

slot_first : (slot i : ℕ) (message : List ℕ) (later : List (ℕ × List ℕ)) (b : Bool) → (slot == i) ≡ b
    → of_slot i ((slot, message) ∷ later) ≡ (if b then message ∷ of_slot i later else of_slot i later)
slot_first slot i message later true is = rw is refl
slot_first slot i message later false is = rw is refl

pub handed_more : (slot : ℕ) (message : List ℕ) (later : List (ℕ × List ℕ)) (xs ys zs : List OutboxState) → AreHanded ((slot, message) ∷ []) xs ys → AreHanded later ys zs
    → AreHanded ((slot, message) ∷ later) xs zs
handed_more slot message later xs ys zs one others = record {
  count = others.count ∙ one.count;
  each = λ i a c ga gc.
      let b = there ys i (subst (λ (n : ℕ). ltb i n ≡ true) (sym one.count) (within xs i a ga)) in
      let first = one.each i a b.0 ga b.1 in
      let rest = others.each i b.0 c b.1 gc in
      elim (cases_Bool (slot == i)) [
        | inl is ↦ subst (λ (m : List (List ℕ)). HasMore m a c) (sym (slot_first slot i message later true is))
            (first_more message (of_slot i later) a b.0 c (subst (λ (m : List (List ℕ)). HasMore m a b.0) (slot_one slot i message true is) first) rest)
        | inr isnt ↦ subst (λ (m : List (List ℕ)). HasMore m a c) (sym (slot_first slot i message later false isnt))
            (then_more (of_slot i later) a b.0 c (subst (λ (m : List (List ℕ)). HasMore m a b.0) (slot_one slot i message false isnt) first) rest)
      ];
}

-- ---- room

first_room : (slot i n : ℕ) (message : List ℕ) (later : List (ℕ × List ℕ)) → length (of_slot i ((slot, message) ∷ later)) ≤ n → length (of_slot i later) ≤ n
first_room slot i n message later room = elim (cases_Bool (slot == i)) [
  | inl is ↦ (let first = ap length (slot_first slot i message later true is) in omega (arith, room))
  | inr isnt ↦ (let first = ap length (slot_first slot i message later false isnt) in omega (arith, room))
]

pub put_room : (xs : List OutboxState) (slot : ℕ) (message : List ℕ) (later : List (ℕ × List ℕ)) (x y : OutboxState) → slice_get xs slot ≡ Some x → x.room ≤ y.room + 1
    → HaveRoom ((slot, message) ∷ later) xs → HaveRoom later (set xs slot y)
put_room xs slot message later x y gx less room i b gb = elim (cases_Bool (slot == i)) [
  | inl is ↦
      let e : slot ≡ i = eqb-true slot i is in
      let is_y : y ≡ b = same_Some _ _ (sym (get_set xs slot x y gx) ∙ subst (λ (k : ℕ). slice_get (set xs slot y) k ≡ Some b) (sym e) gb) in
      let was = room i x (subst (λ (k : ℕ). slice_get xs k ≡ Some x) e gx) in
      let first = ap length (slot_first slot i message later true is) in
      subst (λ (k : OutboxState). length (of_slot i later) ≤ k.room) is_y (omega (arith, less, was, first))
  | inr isnt ↦
      let far : i ≢ slot = λ e. eqb-false slot i isnt (sym e) in
      first_room slot i b.room message later (room i b (sym (get_other xs slot i y far) ∙ gb))
]

-- without the first message
pub less_room : (xs : List OutboxState) (slot : ℕ) (message : List ℕ) (later : List (ℕ × List ℕ)) → HaveRoom ((slot, message) ∷ later) xs → HaveRoom later xs
less_room xs slot message later room i b gb = first_room slot i b.room message later (room i b gb)

pub room_of_first : (xs : List OutboxState) (slot : ℕ) (message : List ℕ) (later : List (ℕ × List ℕ)) → HaveRoom ((slot, message) ∷ later) xs → HasRoomAt slot 1 xs
room_of_first xs slot message later room b gb =
    let was = room slot b gb in
    let first = ap length (slot_first slot slot message later true (eq-eqb slot slot refl)) in
    omega (arith, was, first)

nearer : (a b : ℕ) → a < b + 1 → a ≢ b → a < b
nearer a b less far = elim (cases_lt a b) [ inl is ↦ is | inr more ↦ absurd (far (omega arith)) ]

-- one place further, where the message there has room and what had room still has
pub rooms_more : (messages : List (ℕ × List ℕ)) (at n : ℕ) (here : ℕ × List ℕ) (xs zs : List OutboxState) → slice_get messages at ≡ Some here → HasRoomAt here.0 n zs
    → ((slot : ℕ) → HasRoomAt slot n xs → HasRoomAt slot n zs)
    → ((i : ℕ) (pair : ℕ × List ℕ) → i < at → slice_get messages i ≡ Some pair → HasRoomAt pair.0 n xs)
    → (i : ℕ) (pair : ℕ × List ℕ) → i < at + 1 → slice_get messages i ≡ Some pair → HasRoomAt pair.0 n zs
rooms_more messages at n here xs zs gm room still before i pair less g = elim (cases_Bool (i == at)) [
  | inl is ↦ subst (λ (m : ℕ × List ℕ). HasRoomAt m.0 n zs) (same_Some _ _ (sym gm ∙ subst (λ (k : ℕ). slice_get messages k ≡ Some pair) (eqb-true i at is) g)) room
  | inr isnt ↦ still pair.0 (before i pair (nearer i at less (eqb-false i at isnt)) g)
]

few_of_slot : (slot : ℕ) (messages : List (ℕ × List ℕ)) → length (of_slot slot messages) ≤ length messages
few_of_slot slot [] = omega arith
few_of_slot slot (pair ∷ later) =
    let few = few_of_slot slot later in
    elim (cases_Bool (pair.0 == slot)) [
      | inl is ↦ (let first = ap length (slot_first pair.0 slot pair.1 later true is) in omega (arith, few, first))
      | inr isnt ↦ (let first = ap length (slot_first pair.0 slot pair.1 later false isnt) in omega (arith, few, first))
    ]

-- where each queue that gets a message has room for so many as there are, each has room for its own
pub room_for_own : (slot room n : ℕ) (messages : List (ℕ × List ℕ)) → length messages ≤ n
    → ((i : ℕ) (pair : ℕ × List ℕ) → slice_get messages i ≡ Some pair → pair.0 ≡ slot → n ≤ room) → length (of_slot slot messages) ≤ room
room_for_own slot room n [] few named = omega arith
room_for_own slot room n (pair ∷ later) few named =
    let all = few_of_slot slot (pair ∷ later) in
    elim (cases_Bool (pair.0 == slot)) [
      | inl is ↦ (let enough = named 0 pair refl (eqb-true pair.0 slot is) in omega (arith, few, all, enough))
      | inr isnt ↦
          let rest = room_for_own slot room n later (omega (arith, few)) (λ i one g e. named (suc i) one g e) in
          let first = ap length (slot_first pair.0 slot pair.1 later false isnt) in
          omega (arith, rest, first)
    ]

-- ---- what each slice is sent at a message of the switch

joined_if : (b : Bool) (message : List ℕ) (whole front back : List (List ℕ)) → whole ≡ front ++ back → (if b then message ∷ whole else whole) ≡ (if b then message ∷ front else front) ++ back
joined_if true message whole front back is = ap (λ (m : List (List ℕ)). message ∷ m) is
joined_if false message whole front back is = is

slot_append : (slot : ℕ) (a b : List (ℕ × List ℕ)) → of_slot slot (a ++ b) ≡ of_slot slot a ++ of_slot slot b
slot_append slot [] b = refl
slot_append slot (pair ∷ later) b =
    let own = pair.0 == slot in
    slot_first pair.0 slot pair.1 (later ++ b) own refl
    ∙ joined_if own pair.1 (of_slot slot (later ++ b)) (of_slot slot later) (of_slot slot b) (slot_append slot later b)
    ∙ ap (λ (m : List (List ℕ)). m ++ of_slot slot b) (sym (slot_first pair.0 slot pair.1 later own refl))

slot_own : (slot : ℕ) (messages : List (List ℕ)) → of_slot slot (addressed slot messages) ≡ messages
slot_own slot [] = refl
slot_own slot (message ∷ later) = slot_first slot slot message (addressed slot later) true (eq-eqb slot slot refl) ∙ ap (λ (m : List (List ℕ)). message ∷ m) (slot_own slot later)

slot_others : (other slot : ℕ) (messages : List (List ℕ)) → other ≢ slot → of_slot slot (addressed other messages) ≡ []
slot_others other slot [] far = refl
slot_others other slot (message ∷ later) far = slot_first other slot message (addressed other later) false (ne_eqb other slot far) ∙ slot_others other slot later far

further : (a b : ℕ) → a ≤ b → a ≢ b → a + 1 ≤ b
further a b low far = elim (cases_lt a b) [ inl less ↦ omega arith | inr more ↦ absurd (far (omega arith)) ]

slot_behind : (p : PolicyView) (switch : KnownSwitch) (sides : ℕ → SliceSide) (timed : Timed) (from slot : ℕ) (slices : List Slice) → slot < from
    → of_slot slot (sent_to_all p switch sides timed from slices) ≡ []
slot_behind p switch sides timed from slot [] less = refl
slot_behind p switch sides timed from slot (slice ∷ others) less =
    slot_append slot (addressed from (sent_with p from switch (sides from) timed)) (sent_to_all p switch sides timed (from + 1) others)
    ∙ ap₂ (λ (a b : List (List ℕ)). a ++ b) (slot_others from slot (sent_with p from switch (sides from) timed) (λ e. absurd (omega (arith, e))))
    (slot_behind p switch sides timed (from + 1) slot others (omega arith))

slot_here : (p : PolicyView) (switch : KnownSwitch) (sides : ℕ → SliceSide) (timed : Timed) (from : ℕ) (slice : Slice) (others : List Slice)
    → of_slot from (sent_to_all p switch sides timed from (slice ∷ others)) ≡ sent_with p from switch (sides from) timed
slot_here p switch sides timed from slice others =
    slot_append from (addressed from (sent_with p from switch (sides from) timed)) (sent_to_all p switch sides timed (from + 1) others)
    ∙ ap₂ (λ (a b : List (List ℕ)). a ++ b) (slot_own from (sent_with p from switch (sides from) timed)) (slot_behind p switch sides timed (from + 1) from others (omega arith))
    ∙ append-nil _

pub slot_sent : (p : PolicyView) (switch : KnownSwitch) (sides : ℕ → SliceSide) (timed : Timed) (from slot : ℕ) (slices : List Slice) → from ≤ slot → slot < from + length slices
    → of_slot slot (sent_to_all p switch sides timed from slices) ≡ sent_with p slot switch (sides slot) timed
slot_sent p switch sides timed from slot [] low high = absurd (omega arith)
slot_sent p switch sides timed from slot (slice ∷ others) low high = elim (cases_Bool (from == slot)) [
  | inl is ↦
      let e : from ≡ slot = eqb-true from slot is in
      subst (λ (k : ℕ). of_slot k (sent_to_all p switch sides timed from (slice ∷ others)) ≡ sent_with p k switch (sides k) timed) e (slot_here p switch sides timed from slice others)
  | inr isnt ↦
      let far : from ≢ slot = eqb-false from slot isnt in
      slot_append slot (addressed from (sent_with p from switch (sides from) timed)) (sent_to_all p switch sides timed (from + 1) others)
      ∙ ap₂ (λ (a b : List (List ℕ)). a ++ b) (slot_others from slot (sent_with p from switch (sides from) timed) far)
      (slot_sent p switch sides timed (from + 1) slot others (further from slot low far) (omega arith))
]
