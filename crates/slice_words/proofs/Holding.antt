-- Which packets a slice holds, by how many it was given.
use Rattle.std.proofs.Common.{◌≡◌, ℕ, ◌+◌, ◌<◌, ◌≤◌, ◌%◌, ◌==◌, ◌||◌, not, Bool, true, false, true≢false, if◌then◌else◌, List, [], ◌∷◌, map, filter, length, get_or, refl, sym, ap, ◌∙◌, subst, inl, inr, Option, Some, None, option_map, is_some, arith}
use Rattle.std.specs.Prelude.{find}
use Rattle.std.specs.List.{All}
use Rattle.std.proofs.lemmas.Bool.{cases_Bool, eq-eqb, ne_eqb}
use Rattle.std.proofs.lemmas.Bool.Decides.{eqb_tells, leb_tells}
use Rattle.std.proofs.lemmas.List.Elements.{All-nil, All-cons, All-head, All-tail, All-filter, filter_passes}
use Rattle.of10_flow.specs.declared.flow_mod.FlowMod.{FlowMod}
use Rattle.slice_words.specs.Messages.{is_dismissing}
use Rattle.slice_words.specs.Items.{Item, Opened, Up, Down, Msg, Lost, Handed, Removed, Status, Fault, Barrier, Queues, Entry, Last, End, Packet, is_buffered, buffered_count}
use Rattle.slice_words.specs.Pasts.{Answer, Past, view_in}
use Rattle.slice_words.specs.FlowMods.{naming}
use Rattle.slice_words.specs.Alone.{Answering, played}
use Rattle.slice_words.specs.Buffers.{HeldPacket, packet_header, is_named, is_recent_packet, held_after, held_packets, packet_under}

-- ---- lists

-- what a list keeps by a test of what its elements stand for is what they stand for where they pass it
pub filter_of_map : {A B : Type 0} (p : B → Bool) (q : A → Bool) (f : A → B) (xs : List A) → All (λ x. p (f x) ≡ q x) xs → filter p (map f xs) ≡ map f (filter q xs)
filter_of_map p q f [] same = refl
filter_of_map p q f (x ∷ xs) same =
    let rest = filter_of_map p q f xs (All-tail (λ y. p (f y) ≡ q y) x xs same) in
    elim (cases_Bool (q x)) [
      | inl stays ↦ rw (All-head (λ y. p (f y) ≡ q y) x xs same, stays, rest) refl
      | inr out ↦ rw (All-head (λ y. p (f y) ≡ q y) x xs same, out) rest
    ]

-- and so the first that passes it
pub find_of_map : {A B : Type 0} (p : B → Bool) (q : A → Bool) (f : A → B) (xs : List A) → All (λ x. p (f x) ≡ q x) xs → find p (map f xs) ≡ option_map f (find q xs)
find_of_map p q f [] same = refl
find_of_map p q f (x ∷ xs) same =
    let rest = find_of_map p q f xs (All-tail (λ y. p (f y) ≡ q y) x xs same) in
    elim (cases_Bool (q x)) [
      | inl here ↦ rw (All-head (λ y. p (f y) ≡ q y) x xs same, here) refl
      | inr later ↦ rw (All-head (λ y. p (f y) ≡ q y) x xs same, later) rest
    ]

-- two tests that agree on the elements of a list keep the same
pub filter_same : {A : Type 0} (p q : A → Bool) (xs : List A) → All (λ x. p x ≡ q x) xs → filter p xs ≡ filter q xs
filter_same p q [] same = refl
filter_same p q (x ∷ xs) same = rw (All-head (λ y. p y ≡ q y) x xs same, filter_same p q xs (All-tail (λ y. p y ≡ q y) x xs same)) refl

-- a test that all elements pass keeps all
pub filter_all : {A : Type 0} (p : A → Bool) (xs : List A) → All (λ x. p x ≡ true) xs → filter p xs ≡ xs
filter_all p [] all = refl
filter_all p (x ∷ xs) all = rw (All-head (λ y. p y ≡ true) x xs all, filter_all p xs (All-tail (λ y. p y ≡ true) x xs all)) refl

abbrev or_else : {A : Type 0} → A → Option A → A
or_else y None = y
or_else y (Some z) = z

-- what is found passes the test, and is one of the list
pub found_holds : {A : Type 0} (P : A → Type 0) (p : A → Bool) (xs : List A) (x : A) → All P xs → find p xs ≡ Some x → P x × (p x ≡ true)
found_holds P p [] x all is = absurd (true≢false (sym (ap is_some is)))
found_holds P p (y ∷ ys) x all is = elim (cases_Bool (p y)) [
  | inl here ↦
      let this : Some y ≡ Some x = rw here at is in
      let same : y ≡ x = ap (or_else y) this in
      (subst P same (All-head P y ys all), subst (λ z. p z ≡ true) same here)
  | inr later ↦ found_holds P p ys x (All-tail P y ys all) (rw later at is)
]

-- ---- the last 256

-- a packet is one of the last 256 of so many
abbrev pub IsRecent : ℕ → HeldPacket → Type 0
IsRecent count packet = (packet.ordinal < count) × (count ≤ packet.ordinal + 256)

recent_more : (count : ℕ) (packet : HeldPacket) → IsRecent count packet → is_recent_packet (count + 1) packet ≡ true → IsRecent (count + 1) packet
recent_more count packet before is = elim (leb_tells (count + 1) (packet.ordinal + 256)) [
  | inl holds ↦ (omega (arith, before.0), holds.1)
  | inr fails ↦ absurd (true≢false (sym is ∙ fails.0))
]

recent_given : (count : ℕ) (given : Bool) (packet : Packet) (held : List HeldPacket) → All (IsRecent count) held
    → All (IsRecent (if given then count + 1 else count)) (if given then record { ordinal = count; header = packet_header packet } ∷ filter (is_recent_packet (count + 1)) held else held)
recent_given count false packet held all = all
recent_given count true packet held all =
    All-cons (IsRecent (count + 1)) (record { ordinal = count; header = packet_header packet }) (filter (is_recent_packet (count + 1)) held) (omega arith, omega arith)
    (λ k d within. recent_more count (get_or (filter (is_recent_packet (count + 1)) held) k d)
    (All-filter (is_recent_packet (count + 1)) (IsRecent count) held all k d within)
    (filter_passes (is_recent_packet (count + 1)) held k d within))

recent_kept : (count : ℕ) (dropped : Bool) (p : HeldPacket → Bool) (held : List HeldPacket) → All (IsRecent count) held → All (IsRecent count) (if dropped then [] else filter p held)
recent_kept count true p held all = All-nil (IsRecent count)
recent_kept count false p held all = All-filter p (IsRecent count) held all

recent_after : (view : List Item) (item : Item) (answer : Answer) (held : List HeldPacket) → All (IsRecent (buffered_count view)) held
    → All (IsRecent (buffered_count (item ∷ view))) (held_after (buffered_count view) item answer held)
recent_after view Up answer held all = All-nil (IsRecent (buffered_count view))
recent_after view Down answer held all = All-nil (IsRecent (buffered_count view))
recent_after view (Msg message moment) answer held all = recent_kept (buffered_count view) (is_dismissing message) (λ packet. not (is_named packet.ordinal answer.to_switch)) held all
recent_after view (Lost k) answer held all = All-filter (λ packet. not (packet.ordinal == k)) (IsRecent (buffered_count view)) held all
recent_after view (Handed packet) answer held all = recent_given (buffered_count view) (is_buffered packet.share) packet held all
recent_after view (Opened features) answer held all = all
recent_after view (Removed entry) answer held all = all
recent_after view (Status status) answer held all = all
recent_after view (Fault x class code pair) answer held all = all
recent_after view (Barrier x) answer held all = all
recent_after view (Queues x body) answer held all = all
recent_after view (Entry x kind bytes) answer held all = all
recent_after view (Last x kind) answer held all = all
recent_after view End answer held all = all

-- the packets that are held are among the last 256 that were given
pub recent : (past : List Past) → All (IsRecent (buffered_count (view_in past))) (held_packets past)
recent [] = All-nil (IsRecent 0)
recent (p ∷ past) = recent_after (view_in past) p.item p.answer (held_packets past) (recent past)

-- ---- numbers

-- two of the last 256 with one number are one
pub one_of_number : (count : ℕ) (a b : HeldPacket) → IsRecent count a → IsRecent count b → a.ordinal % 16777216 ≡ b.ordinal % 16777216 → a.ordinal ≡ b.ordinal
one_of_number count a b of_a of_b same = omega (arith, of_a.0, of_a.1, of_b.0, of_b.1, same)

-- of the packets that are held the one that is found under a number is the one that has it
pub number_tells : (count number : ℕ) (held : List HeldPacket) (packet : HeldPacket) → All (IsRecent count) held → packet_under number held ≡ Some packet
    → All (λ other. (other.ordinal % 16777216 == number) ≡ (other.ordinal == packet.ordinal)) held
number_tells count number held packet all is =
    let this = found_holds (IsRecent count) (λ other. other.ordinal % 16777216 == number) held packet all is in
    λ k d within.
    let other = get_or held k d in
    elim (eqb_tells (other.ordinal % 16777216) number) [
      | inl holds ↦
          let named = (elim (eqb_tells (packet.ordinal % 16777216) number) as (λ _. packet.ordinal % 16777216 ≡ number) [ inl own ↦ own.1 | inr other ↦ absurd (true≢false (sym this.1 ∙ other.0)) ]) in
          holds.0 ∙ sym (eq-eqb other.ordinal packet.ordinal (one_of_number count other packet (all k d within) this.0 (holds.1 ∙ sym named)))
      | inr fails ↦
          fails.0
          ∙ sym (ne_eqb other.ordinal packet.ordinal (λ e. true≢false (sym this.1 ∙ ap (λ n. n % 16777216 == number) (sym e) ∙ fails.0)))
    ]

-- ---- what is named

-- messages that name none
pub none_named : (ordinal place : ℕ) (ms : List FlowMod) → is_named ordinal (naming None place ms) ≡ false
none_named ordinal place [] = refl
none_named ordinal place (m ∷ ms) = none_named ordinal (place + 1) ms

past_named : (ordinal : ℕ) (own : ℕ × ℕ) (place : ℕ) (ms : List FlowMod) → own.0 < place → is_named ordinal (naming (Some own) place ms) ≡ false
past_named ordinal own place [] behind = refl
past_named ordinal own place (m ∷ ms) behind =
    let apart : (own.0 == place) ≡ false = ne_eqb own.0 place (λ e. absurd (omega (arith, behind, e))) in
    rw apart (past_named ordinal own (place + 1) ms (omega (arith, behind)))

or_none : (b : Bool) → (b || false) ≡ b
or_none true = refl
or_none false = refl

-- of messages that are counted from a place on the one at a place names a packet
pub one_named : (ordinal : ℕ) (own : ℕ × ℕ) (place : ℕ) (ms : List FlowMod) → place ≤ own.0 → own.0 < place + length ms → is_named ordinal (naming (Some own) place ms) ≡ (own.1 == ordinal)
one_named ordinal own place [] from within = absurd (omega (arith, from, within))
one_named ordinal own place (m ∷ ms) from within = elim (eqb_tells own.0 place) [
  | inl here ↦ rw (here.0, past_named ordinal own (place + 1) ms (omega (arith, here.1))) (or_none (own.1 == ordinal))
  | inr later ↦ rw later.0 (one_named ordinal own (place + 1) ms (omega (arith, from, later.1)) (omega (arith, within)))
]

-- ---- the items of a view with its answers

pub view_in-played : (answering : Answering) (view : List Item) → view_in (played answering view) ≡ view
view_in-played answering [] = refl
view_in-played answering (item ∷ view) = ap (λ (items : List Item). item ∷ items) (view_in-played answering view)
