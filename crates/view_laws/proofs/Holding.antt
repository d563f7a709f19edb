-- Which packets a slice holds, in words of its items.
use Rattle.std.proofs.Common.{◌≡◌, ℕ, ◌+◌, ◌%◌, ◌≤◌, ◌⊎◌, not, Bool, true, false, if◌then◌else◌, List, [], ◌∷◌, ◌++◌, zero, suc, filter, Contains, refl, sym, ap, subst, ◌∙◌, true≢false, inl, inr, arith, Some}
use Rattle.std.specs.Prelude.{◌==◌, ◌||◌, ◌^◌, find}
use Rattle.std.specs.List.{list_any}
use Rattle.std.proofs.lemmas.Bool.{cases_Bool, eq-eqb, le-leb, or_parts}
use Rattle.std.proofs.lemmas.Bool.Decides.{eqb_tells}
use Rattle.std.proofs.lemmas.List.Elements.{All-filter, All-contains, All-contains_itself, Contains-append_right, filter_passes}
use Rattle.slice_words.specs.Messages.{is_dismissing}
use Rattle.slice_words.specs.Items.{Settings, Share, Writer, Reader, Probe, Packet, Item, Opened, Up, Down, Msg, Lost, Handed, Removed, Status, Fault, Barrier, Queues, Entry, Last, End, is_forgetting, is_buffered, buffered_count}
use Rattle.slice_words.specs.Pasts.{view_in}
use Rattle.slice_words.specs.Answers.{answer}
use Rattle.slice_words.specs.Buffers.{HeldPacket, packet_header, is_named, is_recent_packet, held_after}
use Rattle.slice_words.specs.Alone.{answer_to}
use Rattle.slice_words.specs.Standing.{past_of}
use Rattle.slice_words.proofs.Holding.{IsRecent, recent, found_holds, one_of_number, view_in-played}
use Rattle.view_laws.specs.Packets.{held_in, held_at, is_loss_of, is_use_of, is_used, IsHeldIn}

-- ---- what a list and a filter contain

contains_cases : {X : Type 0} (y : X) (ys : List X) (x : X) → Contains (y ∷ ys) x → (y ≡ x) ⊎ Contains ys x
contains_cases y ys x (zero, within, e) = inl e
contains_cases y ys x (suc k, within, e) = inr (k, omega (arith, within), e)

contains_first : {X : Type 0} (y : X) (ys : List X) (x : X) → y ≡ x → Contains (y ∷ ys) x
contains_first y ys x e = (zero, omega arith, e)

contains_later : {X : Type 0} (y : X) (ys : List X) (x : X) → Contains ys x → Contains (y ∷ ys) x
contains_later y ys x c = Contains-append_right (y ∷ []) ys x c

contains_filter : {X : Type 0} (p : X → Bool) (xs : List X) (x : X) → Contains xs x → p x ≡ true → Contains (filter p xs) x
contains_filter p [] x c passes = absurd (omega (arith, c.1))
contains_filter p (y ∷ ys) x c passes = elim (contains_cases y ys x c) [
  | inl here ↦
      let stays : p y ≡ true = subst (λ z. p z ≡ true) (sym here) passes in
      rw stays (contains_first y (filter p ys) x here)
  | inr there ↦
      let rest = contains_filter p ys x there passes in
      elim (cases_Bool (p y)) [ inl stays ↦ rw stays (contains_later y (filter p ys) x rest) | inr goes ↦ rw goes rest ]
]

filter_contains : {X : Type 0} (p : X → Bool) (xs : List X) (x : X) → Contains (filter p xs) x → (p x ≡ true) × Contains xs x
filter_contains p xs x c = (
  All-contains (λ y. p y ≡ true) (filter p xs) x (filter_passes p xs) c,
  All-contains (Contains xs) (filter p xs) x (All-filter p (Contains xs) xs (All-contains_itself xs)) c,
)

-- the only one that passes a test is the one that is found
find_only : {X : Type 0} (p : X → Bool) (xs : List X) (x : X) → Contains xs x → p x ≡ true → ((y : X) → Contains xs y → p y ≡ true → y ≡ x) → find p xs ≡ Some x
find_only p [] x c passes only = absurd (omega (arith, c.1))
find_only p (y ∷ ys) x c passes only = elim (cases_Bool (p y)) [
  | inl here ↦ rw here (ap Some (only y (contains_first y ys y refl) here))
  | inr later ↦ elim (contains_cases y ys x c) [
    | inl same ↦ absurd (true≢false (sym (subst (λ z. p z ≡ true) (sym same) passes) ∙ later))
    | inr there ↦ rw later (find_only p ys x there passes (λ z within holds. only z (contains_later y ys z within) holds))
  ]
]

neither : (a b : Bool) → a ≡ false → b ≡ false → (a || b) ≡ false
neither true b first second = absurd (true≢false first)
neither false b first second = second

untrue : (b : Bool) → not b ≡ true → b ≡ false
untrue true is = absurd (true≢false (sym is))
untrue false is = refl

-- ---- how many were given

count_given : (given : Bool) (count : ℕ) → count ≤ (if given then count + 1 else count)
count_given true count = omega arith
count_given false count = omega arith

count_more : (item : Item) (view : List Item) → buffered_count view ≤ buffered_count (item ∷ view)
count_more (Handed packet) view = count_given (is_buffered packet.share) (buffered_count view)
count_more Up view = omega arith
count_more Down view = omega arith
count_more (Msg message moment) view = omega arith
count_more (Lost k) view = omega arith
count_more (Opened features) view = omega arith
count_more (Removed entry) view = omega arith
count_more (Status status) view = omega arith
count_more (Fault x class code pair) view = omega arith
count_more (Barrier x) view = omega arith
count_more (Queues x body) view = omega arith
count_more (Entry x kind bytes) view = omega arith
count_more (Last x kind) view = omega arith
count_more End view = omega arith

count_behind : (later earlier : List Item) → buffered_count earlier ≤ buffered_count (later ++ earlier)
count_behind [] earlier = omega arith
count_behind (item ∷ later) earlier = omega (arith, count_behind later earlier, count_more item (later ++ earlier))

count_one : (given : Bool) (count : ℕ) → given ≡ true → (if given then count + 1 else count) ≡ count + 1
count_one true count is = refl
count_one false count is = absurd (true≢false (sym is))

-- one that stands behind a packet that was given doesn't have as many before it
count_past : (later : List Item) (packet : Packet) (earlier : List Item) → is_buffered packet.share ≡ true → buffered_count earlier + 1 ≤ buffered_count (later ++ (Handed packet ∷ earlier))
count_past later packet earlier given =
    omega (arith, count_behind later (Handed packet ∷ earlier), count_one (is_buffered packet.share) (buffered_count earlier) given)

-- ---- what an item leaves

held_next : (s : Settings) (item : Item) (view : List Item) → held_in s (item ∷ view) ≡ held_after (buffered_count view) item (answer_to s view item) (held_in s view)
held_next s item view = ap (λ (items : List Item). held_after (buffered_count items) item (answer_to s view item) (held_in s view)) (view_in-played (answer s) view)

as_held : (held other : HeldPacket) → held.ordinal ≡ other.ordinal → held.header ≡ other.header → other ≡ held
as_held held other ordinal header = rw (← ordinal, ← header) refl

-- the item gives the packet
record IsGiven (view : List Item) (item : Item) (held : HeldPacket) : Type 0 where
  packet : Packet
  is_item : item ≡ Handed packet
  given : packet.share ≡ Writer true
  counted : held.ordinal ≡ buffered_count view
  header : held.header ≡ packet_header packet

-- the item leaves it as it was
record IsLeft (s : Settings) (view : List Item) (item : Item) (ordinal : ℕ) : Type 0 where
  not_forgotten : is_forgetting item ≡ false
  not_lost : is_loss_of ordinal item ≡ false
  not_used : is_use_of s ordinal view item ≡ false

as_writer : (share : Share) → is_buffered share ≡ true → share ≡ Writer true
as_writer (Writer true) is = refl
as_writer (Writer false) is = absurd (true≢false (sym is))
as_writer Reader is = absurd (true≢false (sym is))
as_writer Probe is = absurd (true≢false (sym is))

after_message : (dismissing : Bool) (p : HeldPacket → Bool) (packets : List HeldPacket) (held : HeldPacket) → Contains (if dismissing then [] else filter p packets) held
    → (dismissing ≡ false) × (p held ≡ true) × Contains packets held
after_message true p packets held c = absurd (omega (arith, c.1))
after_message false p packets held c = (let kept = filter_contains p packets held c in (refl, kept.0, kept.1))

after_packet : (given : Bool) (own : HeldPacket) (p : HeldPacket → Bool) (packets : List HeldPacket) (held : HeldPacket) → Contains (if given then own ∷ filter p packets else packets) held
    → ((given ≡ true) × (own ≡ held)) ⊎ Contains packets held
after_packet true own p packets held c = elim (contains_cases own (filter p packets) held c) [
  | inl here ↦ inl (refl, here)
  | inr there ↦ inr (filter_contains p packets held there).1
]
after_packet false own p packets held c = inr c

given_or_left : (s : Settings) (view : List Item) (item : Item) (held : HeldPacket) → Contains (held_after (buffered_count view) item (answer_to s view item) (held_in s view)) held
    → IsGiven view item held ⊎ (Contains (held_in s view) held × IsLeft s view item held.ordinal)
given_or_left s view Up held c = absurd (omega (arith, c.1))
given_or_left s view Down held c = absurd (omega (arith, c.1))
given_or_left s view (Msg message moment) held c =
    let named = (λ (packet : HeldPacket). not (is_named packet.ordinal (answer_to s view (Msg message moment)).to_switch)) in
    let parts = after_message (is_dismissing message) named (held_in s view) held c in
    inr (
      parts.2,
      record {
        not_forgotten = parts.0;
        not_lost = refl;
        not_used = untrue (is_named held.ordinal (answer_to s view (Msg message moment)).to_switch) parts.1;
      },
    )
given_or_left s view (Lost k) held c =
    let kept = filter_contains (λ (packet : HeldPacket). not (packet.ordinal == k)) (held_in s view) held c in
    inr (kept.1, record { not_forgotten = refl; not_lost = untrue (held.ordinal == k) kept.0; not_used = refl })
given_or_left s view (Handed packet) held c =
    let own : HeldPacket = record { ordinal = buffered_count view; header = packet_header packet } in
    elim (after_packet (is_buffered packet.share) own (is_recent_packet (buffered_count view + 1)) (held_in s view) held c) [
      | inl here ↦ inl (record {
        packet = packet;
        is_item = refl;
        given = as_writer packet.share here.0;
        counted = sym (ap (λ (h : HeldPacket). h.ordinal) here.1);
        header = sym (ap (λ (h : HeldPacket). h.header) here.1);
      })
      | inr there ↦ inr (there, record { not_forgotten = refl; not_lost = refl; not_used = refl })
    ]
given_or_left s view (Opened features) held c = inr (c, record { not_forgotten = refl; not_lost = refl; not_used = refl })
given_or_left s view (Removed entry) held c = inr (c, record { not_forgotten = refl; not_lost = refl; not_used = refl })
given_or_left s view (Status status) held c = inr (c, record { not_forgotten = refl; not_lost = refl; not_used = refl })
given_or_left s view (Fault x class code pair) held c = inr (c, record { not_forgotten = refl; not_lost = refl; not_used = refl })
given_or_left s view (Barrier x) held c = inr (c, record { not_forgotten = refl; not_lost = refl; not_used = refl })
given_or_left s view (Queues x body) held c = inr (c, record { not_forgotten = refl; not_lost = refl; not_used = refl })
given_or_left s view (Entry x kind bytes) held c = inr (c, record { not_forgotten = refl; not_lost = refl; not_used = refl })
given_or_left s view (Last x kind) held c = inr (c, record { not_forgotten = refl; not_lost = refl; not_used = refl })
given_or_left s view End held c = inr (c, record { not_forgotten = refl; not_lost = refl; not_used = refl })

-- ---- what is held was given

is_late : (s : Settings) (view : List Item) (held : HeldPacket) → Contains (held_in s view) held → IsRecent (buffered_count view) held
is_late s view held c =
    subst (λ (items : List Item). IsRecent (buffered_count items) held) (view_in-played (answer s) view)
    (All-contains (IsRecent (buffered_count (view_in (past_of s view)))) (held_in s view) held (recent (past_of s view)) c)

pub contained-IsHeld : (s : Settings) (view : List Item) (held : HeldPacket) → Contains (held_in s view) held → IsHeldIn s view held
contained-IsHeld s [] held c = absurd (omega (arith, c.1))
contained-IsHeld s (item ∷ view) held c = elim (given_or_left s view item held (subst (λ (packets : List HeldPacket). Contains packets held) (held_next s item view) c)) [
  | inl here ↦ record {
    later = [];
    packet = here.packet;
    earlier = view;
    split = ap (λ (i : Item). i ∷ view) here.is_item;
    given = here.given;
    counted = here.counted;
    header = here.header;
    recent = (is_late s (item ∷ view) held c).1;
    not_forgotten = refl;
    not_lost = refl;
    not_used = refl;
  }
  | inr there ↦
      let h = contained-IsHeld s view held there.0 in
      record {
        later = item ∷ h.later;
        packet = h.packet;
        earlier = h.earlier;
        split = ap (λ (rest : List Item). item ∷ rest) h.split;
        given = h.given;
        counted = h.counted;
        header = h.header;
        recent = (is_late s (item ∷ view) held c).1;
        not_forgotten = neither (is_forgetting item) (list_any is_forgetting h.later) there.1.not_forgotten h.not_forgotten;
        not_lost = neither (is_loss_of held.ordinal item) (list_any (is_loss_of held.ordinal) h.later) there.1.not_lost h.not_lost;
        not_used = neither (is_use_of s held.ordinal (h.later ++ (Handed h.packet ∷ h.earlier)) item) (is_used s held.ordinal h.later (Handed h.packet ∷ h.earlier))
            (subst (λ (v : List Item). is_use_of s held.ordinal v item ≡ false) h.split there.1.not_used) h.not_used;
      }
]

-- ---- what was given is held

through_message : (dismissing : Bool) (p : HeldPacket → Bool) (packets : List HeldPacket) (held : HeldPacket) → dismissing ≡ false → p held ≡ true → Contains packets held
    → Contains (if dismissing then [] else filter p packets) held
through_message true p packets held goes_on stays c = absurd (true≢false goes_on)
through_message false p packets held goes_on stays c = contains_filter p packets held c stays

through_packet : (given : Bool) (own : HeldPacket) (count : ℕ) (packets : List HeldPacket) (held : HeldPacket) → (if given then count + 1 else count) ≤ held.ordinal + 256 → Contains packets held
    → Contains (if given then own ∷ filter (is_recent_packet (count + 1)) packets else packets) held
through_packet true own count packets held late c =
    contains_later own (filter (is_recent_packet (count + 1)) packets) held (contains_filter (is_recent_packet (count + 1)) packets held c (le-leb (count + 1) (held.ordinal + 256) late))
through_packet false own count packets held late c = c

stays_held : (s : Settings) (view : List Item) (item : Item) (held : HeldPacket) → is_forgetting item ≡ false → is_loss_of held.ordinal item ≡ false → is_use_of s held.ordinal view item ≡ false
    → buffered_count (item ∷ view) ≤ held.ordinal + 256 → Contains (held_in s view) held → Contains (held_after (buffered_count view) item (answer_to s view item) (held_in s view)) held
stays_held s view Up held kept there unused late c = absurd (true≢false kept)
stays_held s view Down held kept there unused late c = absurd (true≢false kept)
stays_held s view (Msg message moment) held kept there unused late c =
    through_message (is_dismissing message) (λ (packet : HeldPacket). not (is_named packet.ordinal (answer_to s view (Msg message moment)).to_switch)) (held_in s view) held kept (ap not unused) c
stays_held s view (Lost k) held kept there unused late c = contains_filter (λ (packet : HeldPacket). not (packet.ordinal == k)) (held_in s view) held c (ap not there)
stays_held s view (Handed packet) held kept there unused late c =
    through_packet (is_buffered packet.share) (record { ordinal = buffered_count view; header = packet_header packet }) (buffered_count view) (held_in s view) held late c
stays_held s view (Opened features) held kept there unused late c = c
stays_held s view (Removed entry) held kept there unused late c = c
stays_held s view (Status status) held kept there unused late c = c
stays_held s view (Fault x class code pair) held kept there unused late c = c
stays_held s view (Barrier x) held kept there unused late c = c
stays_held s view (Queues x body) held kept there unused late c = c
stays_held s view (Entry x kind bytes) held kept there unused late c = c
stays_held s view (Last x kind) held kept there unused late c = c
stays_held s view End held kept there unused late c = c

just_given : (given : Bool) (own : HeldPacket) (rest packets : List HeldPacket) (held : HeldPacket) → given ≡ true → own ≡ held → Contains (if given then own ∷ rest else packets) held
just_given true own rest packets held is same = contains_first own rest held same
just_given false own rest packets held is same = absurd (true≢false (sym is))

module _ (s : Settings) (packet : Packet) (earlier : List Item) (held : HeldPacket) (given : packet.share ≡ Writer true) (counted : held.ordinal ≡ buffered_count earlier) (header : held.header ≡ packet_header packet) where
  held_through : (later : List Item) → list_any is_forgetting later ≡ false → list_any (is_loss_of held.ordinal) later ≡ false → is_used s held.ordinal later (Handed packet ∷ earlier) ≡ false
      → buffered_count (later ++ (Handed packet ∷ earlier)) ≤ held.ordinal + 256 → Contains (held_in s (later ++ (Handed packet ∷ earlier))) held
  held_through [] kept there unused late =
      let own : HeldPacket = record { ordinal = buffered_count earlier; header = packet_header packet } in
      subst (λ (packets : List HeldPacket). Contains packets held) (sym (held_next s (Handed packet) earlier))
      (just_given (is_buffered packet.share) own (filter (is_recent_packet (buffered_count earlier + 1)) (held_in s earlier)) (held_in s earlier) held (ap is_buffered given) (as_held held own counted header))
  held_through (item ∷ later) kept there unused late =
      let view = later ++ (Handed packet ∷ earlier) in
      let goes_on = or_parts (is_forgetting item) (list_any is_forgetting later) kept in
      let not_lost = or_parts (is_loss_of held.ordinal item) (list_any (is_loss_of held.ordinal) later) there in
      let not_used = or_parts (is_use_of s held.ordinal view item) (is_used s held.ordinal later (Handed packet ∷ earlier)) unused in
      subst (λ (packets : List HeldPacket). Contains packets held) (sym (held_next s item view))
      (stays_held s view item held goes_on.0 not_lost.0 not_used.0 late
      (held_through later goes_on.1 not_lost.1 not_used.1 (omega (arith, late, count_more item view))))

pub IsHeld-contained : (s : Settings) (view : List Item) (held : HeldPacket) → IsHeldIn s view held → Contains (held_in s view) held
IsHeld-contained s view held h =
    subst (λ (v : List Item). Contains (held_in s v) held) (sym h.split)
    (held_through s h.packet h.earlier held h.given h.counted h.header h.later h.not_forgotten h.not_lost h.not_used
    (subst (λ (v : List Item). buffered_count v ≤ held.ordinal + 256) h.split h.recent))

-- ---- numbers

-- two packets of a view that have as many before them are one
same_packet : (later : List Item) (one : Packet) (earlier before : List Item) (other : Packet) (behind : List Item) → later ++ (Handed one ∷ earlier) ≡ before ++ (Handed other ∷ behind)
    → is_buffered one.share ≡ true → is_buffered other.share ≡ true → buffered_count earlier ≡ buffered_count behind → one ≡ other
same_packet [] one earlier [] other behind e first second same = cc
same_packet [] one earlier (item ∷ before) other behind e first second same =
    let rest : earlier ≡ before ++ (Handed other ∷ behind) = cc in
    absurd (omega (arith, same, count_past before other behind second, ap buffered_count rest))
same_packet (item ∷ later) one earlier [] other behind e first second same =
    let rest : later ++ (Handed one ∷ earlier) ≡ behind = cc in
    absurd (omega (arith, same, count_past later one earlier first, ap buffered_count rest))
same_packet (item ∷ later) one earlier (item' ∷ before) other behind e first second same =
    let rest : later ++ (Handed one ∷ earlier) ≡ before ++ (Handed other ∷ behind) = cc in
    same_packet later one earlier before other behind rest first second same

same_held : (s : Settings) (view : List Item) (one other : HeldPacket) → IsHeldIn s view one → IsHeldIn s view other → one.ordinal ≡ other.ordinal → one ≡ other
same_held s view one other h k same =
    let packet = same_packet h.later h.packet h.earlier k.later k.packet k.earlier (sym h.split ∙ k.split) (ap is_buffered h.given) (ap is_buffered k.given) (sym h.counted ∙ same ∙ k.counted) in
    as_held other one (sym same) (k.header ∙ ap packet_header (sym packet) ∙ sym h.header)

numbered : (held : HeldPacket) (number : ℕ) → (held.ordinal % 2 ^ 24 == number) ≡ true → held.ordinal % 2 ^ 24 ≡ number
numbered held number is = elim (eqb_tells (held.ordinal % 2 ^ 24) number) [ inl holds ↦ holds.1 | inr fails ↦ absurd (true≢false (sym is ∙ fails.0)) ]

pub found-IsHeld : (s : Settings) (view : List Item) (number : ℕ) (held : HeldPacket) → held_at s view number ≡ Some held → IsHeldIn s view held × (held.ordinal % 2 ^ 24 ≡ number)
found-IsHeld s view number held is =
    let this = found_holds (Contains (held_in s view)) (λ (packet : HeldPacket). packet.ordinal % 2 ^ 24 == number) (held_in s view) held (All-contains_itself (held_in s view)) is in
    (contained-IsHeld s view held this.0, numbered held number this.1)

pub IsHeld-found : (s : Settings) (view : List Item) (number : ℕ) (held : HeldPacket) → IsHeldIn s view held × (held.ordinal % 2 ^ 24 ≡ number) → held_at s view number ≡ Some held
IsHeld-found s view number held (h, own) =
    let there = IsHeld-contained s view held h in
    find_only (λ (packet : HeldPacket). packet.ordinal % 2 ^ 24 == number) (held_in s view) held there (eq-eqb (held.ordinal % 2 ^ 24) number own)
    (λ other within is.
    same_held s view other held (contained-IsHeld s view other within) h
    (one_of_number (buffered_count view) other held (is_late s view other within) (is_late s view held there) (numbered other number is ∙ sym own)))
