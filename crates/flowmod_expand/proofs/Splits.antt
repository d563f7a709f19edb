-- The pieces of a match, one given match after the other, and what holds of them.
use Rattle.std.proofs.Common.{◌≡◌, ℕ, ◌+◌, ◌<◌, ◌≤◌, Bool, true, false, if◌then◌else◌, List, [], ◌∷◌, ◌++◌, length, take, get_or, filter, filter_map, All, Some, None, refl, sym, ◌∙◌, ap, subst, arith}
use Rattle.std.proofs.lemmas.List.{append-nil, get_or-map, get_or_default, length-map, take_all, take_more}
use Rattle.std.proofs.lemmas.List.Elements.{All-push, filter_map-append}
use Rattle.std.proofs.lemmas.Option.{get_or_from_slice_get}
use Rattle.of10_model.specs.declared.pattern.Pattern.{Pattern}
use Rattle.of10_model.specs.Normal.{IsNormal}
use Rattle.of10_model.specs.Meet.{meet_of}
use Rattle.flowspace.specs.declared.rules.Rule.{Rule}
use Rattle.flowspace.specs.Rules.{is_written_by}
use Rattle.flowspace.specs.Places.{AreWritePlaces}
use Rattle.flowspace.proofs.Placing.{places_length, rule_at_place}
use Rattle.flowmod_expand.specs.Pieces.{without_repeats, pieces_within, writes_of}
use Rattle.flowmod_expand.specs.Marks.{AreMarked}
use Rattle.flowmod_expand.proofs.Repeats.{is_among, without_repeats_more}

meets_more : (given : List Pattern) (i : ℕ) (d : Pattern) (m : Pattern) (meets : List Pattern) → i < length given → filter_map (meet_of m) (get_or given i d ∷ []) ≡ meets
    → pieces_within (take (i + 1) given) m ≡ without_repeats (filter_map (meet_of m) (take i given) ++ meets)
meets_more given i d m meets lt is =
    ap (λ ps. pieces_within ps m) (take_more given i d lt)
    ∙ ap without_repeats (filter_map-append (meet_of m) (take i given) (get_or given i d ∷ []) ∙ ap (λ zs. filter_map (meet_of m) (take i given) ++ zs) is)

no_meet : (p m : Pattern) → meet_of m p ≡ None → filter_map (meet_of m) (p ∷ []) ≡ []
no_meet p m none = rw none refl

one_meet : (p m q : Pattern) → meet_of m p ≡ Some q → filter_map (meet_of m) (p ∷ []) ≡ q ∷ []
one_meet p m q some = rw some refl

-- a given match that shares no header with the match adds no piece
no_piece : (given : List Pattern) (i : ℕ) (d m : Pattern) → i < length given → meet_of m (get_or given i d) ≡ None → pieces_within (take (i + 1) given) m ≡ pieces_within (take i given) m
no_piece given i d m lt none =
    meets_more given i d m [] lt (no_meet (get_or given i d) m none) ∙ ap without_repeats (append-nil (filter_map (meet_of m) (take i given)))

-- what another shares with it is a further piece, unless it is one already
one_piece : (given : List Pattern) (i : ℕ) (d m p : Pattern) → i < length given → meet_of m (get_or given i d) ≡ Some p
    → pieces_within (take (i + 1) given) m ≡ (if is_among (pieces_within (take i given) m) p then pieces_within (take i given) m else pieces_within (take i given) m ++ p ∷ [])
one_piece given i d m p lt some =
    meets_more given i d m (p ∷ []) lt (one_meet (get_or given i d) m p some) ∙ without_repeats_more (filter_map (meet_of m) (take i given)) p

-- what a walk over the given matches has found
pub record Found (given : List Pattern) (m : Pattern) (found : List Pattern) (marks : List Bool) (i : ℕ) : Type 0 where
  pub so_far : found ≡ pieces_within (take i given) m
  pub normal : All IsNormal found
  pub marked : AreMarked marks found

all_added : (found : List Pattern) (p : Pattern) → All IsNormal found → IsNormal p → (b : Bool) → All IsNormal (if b then found else found ++ p ∷ [])
all_added found p normal normal_p true = normal
all_added found p normal normal_p false = All-push IsNormal found p normal normal_p

-- a step of it
pub found_more : (given : List Pattern) (i : ℕ) (own m p : Pattern) (found new : List Pattern) (marks after : List Bool) → i < length given → own ≡ get_or given i own → meet_of m own ≡ Some p → IsNormal p
    → Found given m found marks i → new ≡ (if is_among found p then found else found ++ p ∷ []) → AreMarked after new → Found given m new after (i + 1)
found_more given i own m p found new marks after lt is some normal_p walk added marked =
    let part : meet_of m (get_or given i own) ≡ Some p = subst (λ q. meet_of m q ≡ Some p) is some in
    record {
      so_far = added ∙ ap (λ ps. if is_among ps p then ps else ps ++ p ∷ []) walk.so_far ∙ sym (one_piece given i own m p lt part);
      normal = subst (All IsNormal) (sym added) (all_added found p walk.normal normal_p (is_among found p));
      marked = marked;
    }

pub found_same : (given : List Pattern) (i : ℕ) (own m : Pattern) (found : List Pattern) (marks : List Bool) → i < length given → own ≡ get_or given i own → meet_of m own ≡ None
    → Found given m found marks i → Found given m found marks (i + 1)
found_same given i own m found marks lt is none walk =
    let part : meet_of m (get_or given i own) ≡ None = subst (λ q. meet_of m q ≡ None) is none in
    record {
      so_far = walk.so_far ∙ sym (no_piece given i own m lt part);
      normal = walk.normal;
      marked = walk.marked;
    }

-- at its end it has found all pieces
pub found_all : (given : List Pattern) (m : Pattern) (found : List Pattern) (marks : List Bool) (i : ℕ) → length given ≤ i → Found given m found marks i → found ≡ pieces_within given m
found_all given m found marks i all walk = walk.so_far ∙ ap (λ ps. pieces_within ps m) (take_all i given all)

-- there are as many places of write rules as matches of them
pub writes_length : (rules : List Rule) (slot : ℕ) (places : List ℕ) → AreWritePlaces rules slot places → length (writes_of rules slot) ≡ length places
writes_length rules slot places at_places = length-map (filter (is_written_by slot) rules) (λ r. r.pattern) ∙ sym (places_length rules slot places at_places)

-- and the rule at each has the one in its turn
pub write_at_place : (rules : List Rule) (slot : ℕ) (places : List ℕ) (i place : ℕ) (rule : Rule) → AreWritePlaces rules slot places → i < length places → place ≡ get_or places i 0 → rule ≡ get_or rules place rule
    → rule.pattern ≡ get_or (writes_of rules slot) i rule.pattern
write_at_place rules slot places i place rule at_places lt at is =
    let same = places_length rules slot places at_places in
    let own = filter (is_written_by slot) rules in
    let within : i < length own = omega arith in
    ap (λ (r : Rule). r.pattern) (is ∙ get_or_from_slice_get rules place (get_or own i rule) rule (rule_at_place rules slot places i place rule at_places lt (at ∙ get_or_default places i 0 place lt)))
    ∙ sym (get_or-map (λ (r : Rule). r.pattern) own i rule rule.pattern within)
