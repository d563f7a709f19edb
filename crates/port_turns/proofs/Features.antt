-- A message that lists a switch's ports: for a slice each port has the number that is shown, and they stand in its order.
use Rattle.std.proofs.Common.{◌≡◌, ℕ, zero, suc, ◌*◌, ◌/◌, ◌%◌, ◌-◌, ◌==◌, not, nat_lt, true, false, if◌then◌else◌, List, [], ◌∷◌, ◌++◌, map, length, take, drop, refl, sym, ap, ap₂, ◌∙◌, arith}
use Rattle.std.specs.List.{All}
use Rattle.std.specs.Simd.{first_chunks}
use Rattle.std.proofs.lemmas.Bool.{and_parts, and_from, eqb-true, eq-eqb, le-leb}
use Rattle.std.proofs.lemmas.List.{length-take-le, length-drop, nil_from_length, take_at, drop_at}
use Rattle.std.proofs.lemmas.List.Concat.{flat_map-cons}
use Rattle.std.proofs.lemmas.List.Elements.{All-head, All-tail, All-nil, All-cons}
use Rattle.of10_ctl.specs.Frames.{is_bad}
use Rattle.of10_ctl.proofs.Patched.{with_length}
use Rattle.of10_model.specs.Normal.{number_at}
use Rattle.of10_message.specs.Heads.{version_of, message_kind}
use Rattle.of10_port.specs.Ports.{IsPort, port_bytes, ports_in}
use Rattle.of10_port.specs.Features.{has_whole_ports}
use Rattle.of10_port.proofs.Pieces.{ports_again, IsPort-ports_in}
use Rattle.flowspace.specs.Swaps.{Pairs}
use Rattle.port_turns.specs.declared.places.Piece.TheVariants as piece
use Rattle.port_turns.specs.declared.places.Places.TheVariants as at
use Rattle.port_turns.specs.Turns.{written, turn_port}
use Rattle.port_turns.specs.Sent.{piece_size, turn_at, turn_all, places_by, places_of, sorted_at, in_number_order, turned_numbers, turn_out}
use Rattle.port_turns.proofs.Pieces.{all_steps, all_ends}
use Rattle.port_turns.proofs.SentLengths.{ports_long}

all_ports : (pairs : Pairs) (k : ℕ) (bytes : List ℕ) → length bytes ≡ 48 * k → turn_all pairs piece.Port bytes ≡ port_bytes (map (turn_port pairs 0) (first_chunks 48 k bytes))
all_ports pairs zero bytes size =
    let none : bytes ≡ [] = nil_from_length bytes (omega (arith, size)) in
    ap (turn_all pairs piece.Port) none ∙ all_ends pairs piece.Port [] refl
all_ports pairs (suc k) bytes size =
    let is : piece_size piece.Port bytes ≡ 48 = rw (le-leb 48 (length bytes) (omega (arith, size))) refl in
    let behind = length-drop 48 bytes in
    let later = all_ports pairs k (drop 48 bytes) (omega (arith, size, behind)) in
    all_steps pairs piece.Port bytes (omega (arith, is))
    ∙ ap (λ n. turn_port pairs 0 (take n bytes) ++ turn_all pairs piece.Port (drop n bytes)) is
    ∙ ap (λ (l : List ℕ). turn_port pairs 0 (take 48 bytes) ++ l) later
    ∙ sym (flat_map-cons (λ raw. raw) (turn_port pairs 0 (take 48 bytes)) (map (turn_port pairs 0) (first_chunks 48 k (drop 48 bytes))))

-- ports stay ports
are_ports : (pairs : Pairs) (ports : List (List ℕ)) → All IsPort ports → All IsPort (map (turn_port pairs 0) ports)
are_ports pairs [] h = All-nil IsPort
are_ports pairs (port ∷ ports) h =
    let size = All-head IsPort port ports h in
    All-cons IsPort (turn_port pairs 0 port) (map (turn_port pairs 0) ports) (with_length 0 (written pairs (number_at port 0 2)) port (omega (arith, size)) ∙ size) (are_ports pairs ports (All-tail IsPort port ports h))

by_features : (kind : ℕ) (f : List ℕ) → kind ≡ 6 → has_whole_ports f ≡ true → places_by kind f ≡ at.Ports
by_features kind f is whole = rw (is, whole) refl

module _ (f : List ℕ) (version : version_of f ≡ 1) (sized : is_bad f ≡ false) (kind : message_kind f ≡ 6) (whole : has_whole_ports f ≡ true) where
  there : places_of f ≡ at.Ports
  unfolding places_of
  there =
      ap (λ b. if b then places_by (message_kind f) f else at.Nowhere) (and_from (version_of f == 1) (not (is_bad f)) (eq-eqb (version_of f) 1 version) (ap not sized))
      ∙ by_features (message_kind f) f kind whole

  counted : length (drop 32 f) ≡ 48 * (length (drop 32 f) / 48)
  counted =
      let behind = length-drop 32 f in
      let rest = eqb-true ((length f - 32) % 48) 0 (and_parts (not (nat_lt (length f) 32)) ((length f - 32) % 48 == 0) whole).1 in
      omega (arith, behind, rest)

  module _ (pair : ℕ × ℕ) (others : Pairs) where
    abbrev pairs : Pairs
    pairs = pair ∷ others

    abbrev shown : List (List ℕ)
    shown = map (turn_port pairs 0) (ports_in (drop 32 f))

    pub features_turned : turned_numbers (pair ∷ others) f ≡ take 32 f ++ port_bytes shown
    unfolding turned_numbers ports_in
    features_turned = ap (λ p. turn_at pairs p f) there ∙ ap (λ (l : List ℕ). take 32 f ++ l) (all_ports pairs (length (drop 32 f) / 48) (drop 32 f) counted)

    front_long : length (take 32 f) ≡ 32
    front_long = length-take-le 32 f (ports_long f whole)

    cut_again : ports_in (drop 32 (turned_numbers (pair ∷ others) f)) ≡ shown
    cut_again =
        ap (λ (l : List ℕ). ports_in (drop 32 l)) features_turned
        ∙ ap ports_in (drop_at (take 32 f) (port_bytes shown) 32 front_long)
        ∙ ports_again shown (are_ports pairs (ports_in (drop 32 f)) (IsPort-ports_in (drop 32 f)))

    front_again : take 32 (turned_numbers (pair ∷ others) f) ≡ take 32 f
    front_again = ap (take 32) features_turned ∙ take_at (take 32 f) (port_bytes shown) 32 front_long

    pub features_sorted : turn_out (pair ∷ others) f ≡ take 32 f ++ port_bytes (in_number_order shown)
    unfolding turn_out
    features_sorted =
        ap (λ p. sorted_at p (turned_numbers pairs f)) there
        ∙ ap₂ (λ (front : List ℕ) (ports : List (List ℕ)). front ++ port_bytes (in_number_order ports)) front_again cut_again
