-- Messages for a slice in which no port number stands stay as they are.
use Rattle.std.proofs.Common.{◌≡◌, ◌⊎◌, ℕ, zero, suc, ◌==◌, ◌||◌, ◌&&◌, not, eqb, leb, nat_lt, true≢false, true, false, List, [], ◌∷◌, ◌++◌, map, length, take, drop, refl, sym, ap, ap₂, ◌∙◌, inl, inr, arith}
use Rattle.std.proofs.lemmas.Bool.{cases_Bool, or_parts, lt-ltb}
use Rattle.std.proofs.lemmas.List.{take-append-drop}
use Rattle.of10_message.specs.Heads.{version_of, message_kind}
use Rattle.of10_ctl.specs.Frames.{is_bad}
use Rattle.of10_model.specs.Normal.{number_at}
use Rattle.flowspace.specs.Swaps.{Pairs}
use Rattle.port_turns.specs.declared.places.Piece.TheVariants as piece
use Rattle.port_turns.specs.declared.places.Places.{Places}
use Rattle.port_turns.specs.declared.places.Places.TheVariants as at
use Rattle.port_turns.specs.Sent.{tells_ports, has_port_entries, piece_size, turn_pieces, turn_at, places_by, places_of, ports_sorted, sorted_at, turned_numbers, turn_out}

nowhere_by : (kind : ℕ) (f : List ℕ) → tells_ports kind ≡ false → places_by kind f ≡ at.Nowhere
nowhere_by kind f none =
    let a = or_parts (kind == 10 || kind == 11 || kind == 12 || kind == 21 || kind == 17) (kind == 6) none in
    let b = or_parts (kind == 10 || kind == 11 || kind == 12 || kind == 21) (kind == 17) a.0 in
    let c = or_parts (kind == 10 || kind == 11 || kind == 12) (kind == 21) b.0 in
    let d = or_parts (kind == 10 || kind == 11) (kind == 12) c.0 in
    let e = or_parts (kind == 10) (kind == 11) d.0 in
    rw (e.0, e.1, d.1, c.1, b.1, a.1) refl

where_is : (f : List ℕ) → places_by (message_kind f) f ≡ at.Nowhere → places_of f ≡ at.Nowhere
unfolding places_of
where_is f is = elim (cases_Bool (version_of f == 1 && not (is_bad f))) [
  | inl good ↦ rw good is
  | inr bad ↦ rw bad refl
]

stays_at : (pairs : Pairs) (f : List ℕ) → turn_at pairs (places_of f) f ≡ f → sorted_at (places_of f) f ≡ f → turn_out pairs f ≡ f
unfolding turn_out turned_numbers
stays_at [] f turned sorted = refl
stays_at (pair ∷ others) f turned sorted = ap (sorted_at (places_of f)) turned ∙ sorted

pub stays : (pairs : Pairs) (f : List ℕ) → tells_ports (message_kind f) ≡ false → turn_out pairs f ≡ f
stays pairs f none =
    let nowhere : places_of f ≡ at.Nowhere = where_is f (nowhere_by (message_kind f) f none) in
    stays_at pairs f (ap (λ p. turn_at pairs p f) nowhere) (ap (λ p. sorted_at p f) nowhere)

-- entries in which no port stands
entries_stay : (pairs : Pairs) (kind n : ℕ) (bytes : List ℕ) → has_port_entries kind ≡ false → turn_pieces pairs (piece.Entry kind) n bytes ≡ bytes
unfolding turn_pieces
entries_stay pairs kind zero bytes none = refl
entries_stay pairs kind (suc n) bytes none =
    let parts = or_parts (kind == 1 || kind == 4) (kind == 5) none in
    let first = or_parts (kind == 1) (kind == 4) parts.0 in
    let size = piece_size (piece.Entry kind) bytes in
    elim (cases_Bool (eqb size 0)) [
      | inl ends ↦ rw ends refl
      | inr more ↦ rw (more, first.0, first.1, parts.1, entries_stay pairs kind n (drop size bytes) none) (take-append-drop size bytes)
    ]

pub none_stays : (f : List ℕ) → turn_out [] f ≡ f
unfolding turn_out
none_stays f = refl

-- so does each of messages for a slice that has no swaps
pub none_out : (pairs : Pairs) → nat_lt 0 (length pairs) ≡ false → (messages : List (List ℕ)) → map (turn_out pairs) messages ≡ messages
none_out [] none [] = refl
none_out [] none (message ∷ messages) = ap₂ (λ (f : List ℕ) (fs : List (List ℕ)). f ∷ fs) (none_stays message) (none_out [] none messages)
none_out (pair ∷ others) none messages = absurd (true≢false (sym (lt-ltb 0 (length (pair ∷ others)) (omega arith)) ∙ none))

-- a message that tells ports is turned, and then its ports are sorted
pub out_sorted : (pairs : Pairs) (f turned new : List ℕ) (places : Places) → nat_lt 0 (length pairs) ≡ true → places ≡ places_of f → places ≡ at.Ports → turned ≡ turn_at pairs places f → new ≡ ports_sorted turned → new ≡ turn_out pairs f
unfolding turn_out turned_numbers
out_sorted [] f turned new places some is ports by sorted = absurd (true≢false (sym some))
out_sorted (pair ∷ others) f turned new places some is ports by sorted =
    sorted
    ∙ ap ports_sorted by
    ∙ ap (λ p. ports_sorted (turn_at (pair ∷ others) p f)) is
    ∙ ap (λ p. sorted_at p (turn_at (pair ∷ others) (places_of f) f)) (sym ports ∙ is)

-- a statistics reply is looked at by the type of its entries
stats_by : (kind : ℕ) (f : List ℕ) → kind ≡ 17 → (places_by kind f ≡ at.Entries (number_at f 8 2)) ⊎ (places_by kind f ≡ at.Nowhere)
stats_by kind f is = elim (cases_Bool (leb 12 (length f))) [
  | inl long ↦ inl (rw (is, long) refl)
  | inr short ↦ inr (rw (is, short) refl)
]

stats_places : (f : List ℕ) → (places_by (message_kind f) f ≡ at.Entries (number_at f 8 2)) ⊎ (places_by (message_kind f) f ≡ at.Nowhere) → (places_of f ≡ at.Entries (number_at f 8 2)) ⊎ (places_of f ≡ at.Nowhere)
unfolding places_of
stats_places f by = elim (cases_Bool (version_of f == 1 && not (is_bad f))) [
  | inl good ↦ rw good by
  | inr bad ↦ inr (rw bad refl)
]

stats_at : (pairs : Pairs) (f : List ℕ) → has_port_entries (number_at f 8 2) ≡ false → (places_of f ≡ at.Entries (number_at f 8 2)) ⊎ (places_of f ≡ at.Nowhere) → turn_out pairs f ≡ f
stats_at pairs f none (inr nowhere) = stays_at pairs f (ap (λ p. turn_at pairs p f) nowhere) (ap (λ p. sorted_at p f) nowhere)
stats_at pairs f none (inl entries) =
    stays_at pairs f
    (ap (λ p. turn_at pairs p f) entries ∙ ap (λ (l : List ℕ). take 12 f ++ l) (entries_stay pairs (number_at f 8 2) (length (drop 12 f)) (drop 12 f) none) ∙ take-append-drop 12 f)
    (ap (λ p. sorted_at p f) entries)

pub statistics_stay : (pairs : Pairs) (f : List ℕ) → message_kind f ≡ 17 → has_port_entries (number_at f 8 2) ≡ false → turn_out pairs f ≡ f
statistics_stay pairs f is none = stats_at pairs f none (stats_places f (stats_by (message_kind f) f is))
