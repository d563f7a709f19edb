-- What a packet-in makes of the packets that a slice's state holds.
use Rattle.std.proofs.Common.{◌≡◌, ℕ, ◌+◌, ◌==◌, ◌||◌, not, Bool, true, false, List, [], ◌∷◌, ◌++◌, map, filter, length, get_or, refl, ap, ap₂, subst, sym, ◌∙◌, arith, Option, Some, None}
use Rattle.std.specs.List.{All, list_any}
use Rattle.std.proofs.lemmas.List.Elements.{All-head, All-tail, All-filter}
use Rattle.of10_model.specs.Header.{Header}
use Rattle.of10_flow.specs.declared.packet_in.PacketIn.{PacketIn}
use Rattle.buffer_map.specs.declared.held.Held.{Held}
use Rattle.buffer_map.specs.Buffers as buffers
use Rattle.flow_book.specs.declared.state.SliceState.{SliceState}
use Rattle.slice_words.specs.Items.{Settings, Sight, Share, Writer, Item, Lost, is_buffered, buffered_count}
use Rattle.slice_words.specs.Pasts.{view_in}
use Rattle.slice_words.specs.Buffers.{HeldPacket, is_recent_packet, held_packets}
use Rattle.slice_words.specs.Answers.{answer}
use Rattle.slice_words.specs.Alone.{with_items, number_it_came_with}
use Rattle.slice_words.specs.Standing.{SliceStands, past_of, held_as}
use Rattle.slice_words.proofs.Holding.{filter_of_map, filter_all, IsRecent, recent, view_in-played}
use Rattle.desk_words.specs.Histories.{header_in, handed, is_any_given, seen_with}
use Rattle.desk_words.proofs.Numbering.{lost_of, number_earlier, number_newest}
use Rattle.switch_side.specs.Changes.{is_lost, IsLost, IsLoss, IsGift}
use Rattle.switch_side.proofs.Standing.{Holds, stands_again, same_none, same_lost, same_handed, shares_stand}

-- ---- what is lost

abbrev held_in : Settings → List Item → List HeldPacket
held_in s view = held_packets (past_of s view)

-- of what the state holds that stays which hasn't the number
pub left : (s : Settings) (sight : Sight) (physical : ℕ) (lost : Option ℕ) → IsLost s sight physical lost
    → filter (λ (b : Held). not (b.physical == physical)) (map (held_as sight.came) (held_in s sight.view)) ≡ map (held_as sight.came) (filter (λ packet. not (is_lost lost packet)) (held_in s sight.view))
left s sight physical lost only =
    filter_of_map (λ (b : Held). not (b.physical == physical)) (λ packet. not (is_lost lost packet)) (held_as sight.came) (held_in s sight.view) (λ k d within. ap not (only k d within))

-- the state after what is lost
lost_stands : (s : Settings) (sight : Sight) (old new : SliceState) (physical : ℕ) (lost : Option ℕ) → IsLost s sight physical lost → Holds old new → SliceStands s sight old
    → new.buffers.given ≡ old.buffers.given → new.buffers.held ≡ filter (λ (b : Held). not (b.physical == physical)) old.buffers.held
    → SliceStands s (record { view = with_items (lost_of lost) sight.view; came = sight.came }) new
lost_stands s sight old new physical None only same stands given held =
    stands_again s sight sight old new (same_none s sight.view) same stands (given ∙ stands.given)
    (held ∙ ap (filter (λ (b : Held). not (b.physical == physical))) stands.held ∙ left s sight physical None only
    ∙ ap (map (held_as sight.came)) (filter_all (λ packet. true) (held_in s sight.view) (λ k d within. refl)))
lost_stands s sight old new physical (Some k) only same stands given held =
    stands_again s sight (record { view = Lost k ∷ sight.view; came = sight.came }) old new (same_lost s sight.view k) same stands (given ∙ stands.given)
    (held ∙ ap (filter (λ (b : Held). not (b.physical == physical))) stands.held ∙ left s sight physical (Some k) only)

-- none of the packets with these shares is given by number
shares_given : (packet : PacketIn) (shares : List Share) → is_any_given (map (λ share. handed share packet) shares) ≡ list_any is_buffered shares
shares_given packet [] = refl
shares_given packet (share ∷ others) = ap (λ (any : Bool). is_buffered share || any) (shares_given packet others)

loss_seen : (s : Settings) (physical : ℕ) (sight : Sight) (lost : Option ℕ) (later : List Item) (state : SliceState) → is_any_given later ≡ false
    → SliceStands s (record { view = with_items later (with_items (lost_of lost) sight.view); came = sight.came }) state → SliceStands s (seen_with (Some physical) (lost_of lost ++ later) sight) state
loss_seen s physical sight None later state none stands = rw none stands
loss_seen s physical sight (Some k) later state none stands = rw none stands

-- what was held under a number is lost
pub loss_stands : (s : Settings) (number : Option ℕ) (sight : Sight) (items : List Item) (physical : ℕ) (old new : SliceState) → (number ≡ Some physical) × IsLoss s sight items physical → Holds old new → SliceStands s sight old
    → new.buffers.given ≡ old.buffers.given → new.buffers.held ≡ filter (λ (b : Held). not (b.physical == physical)) old.buffers.held → SliceStands s (seen_with number items sight) new
loss_stands s number sight items physical old new (some, is) same stands given held =
    subst (λ (n : Option ℕ). SliceStands s (seen_with n items sight) new) (sym some)
    (subst (λ (all : List Item). SliceStands s (seen_with (Some physical) all sight) new) (sym is.shown)
    (loss_seen s physical sight is.lost (map (λ share. handed share is.packet) is.shares) new (shares_given is.packet is.shares ∙ is.none_given)
    (shares_stand s (with_items (lost_of is.lost) sight.view) sight.came new is.packet is.shares is.none_given (lost_stands s sight old new physical is.lost is.only same stands given held))))

-- ---- what is given

map_same : {A B : Type 0} (f g : A → B) (xs : List A) → All (λ x. f x ≡ g x) xs → map f xs ≡ map g xs
map_same f g [] same = refl
map_same {B = B} f g (x ∷ xs) same = ap₂ (λ (y : B) (ys : List B). y ∷ ys) (All-head (λ x. f x ≡ g x) x xs same) (map_same f g xs (All-tail (λ x. f x ≡ g x) x xs same))

-- a packet that is held
abbrev pub held_packet : ℕ → ℕ → Header → Held
held_packet ordinal physical header = record { ordinal = ordinal; physical = physical; header = header }

-- the numbers of those that were held before stay
older : (s : Settings) (view : List Item) (came : List ℕ) (physical count : ℕ) → buffered_count (view_in (past_of s view)) ≡ length came
    → map (held_as came) (filter (is_recent_packet count) (held_in s view)) ≡ map (held_as (physical ∷ came)) (filter (is_recent_packet count) (held_in s view))
older s view came physical count counted =
    map_same (held_as came) (held_as (physical ∷ came)) (filter (is_recent_packet count) (held_in s view))
    (λ k d within.
    let packet = get_or (filter (is_recent_packet count) (held_in s view)) k d in
    let young = All-filter (is_recent_packet count) (IsRecent (buffered_count (view_in (past_of s view)))) (held_in s view) (recent (past_of s view)) k d within in
    ap (λ n. held_packet packet.ordinal n packet.header) (sym (number_earlier physical came packet.ordinal (omega (arith, young.0, counted)))))

-- the state after a packet that is given by number
gift_handed : (s : Settings) (sight : Sight) (old new : SliceState) (physical : ℕ) (header : Header) (packet : PacketIn) → Holds old new → SliceStands s sight old
    → length sight.came ≡ buffered_count sight.view → header_in packet ≡ header → new.buffers.given ≡ old.buffers.given + 1
    → new.buffers.held ≡ held_packet old.buffers.given physical header ∷ filter (buffers.is_recent (old.buffers.given + 1)) old.buffers.held
    → SliceStands s (record { view = handed (Writer true) packet ∷ sight.view; came = physical ∷ sight.came }) new
gift_handed s sight old new physical header packet same stands counted is given held =
    let own = buffered_count (view_in (past_of s sight.view)) in
    let view_count : own ≡ buffered_count sight.view = ap buffered_count (view_in-played (answer s) sight.view) in
    let count : old.buffers.given ≡ own = stands.given ∙ sym view_count in
    let newest : number_it_came_with (physical ∷ sight.came) own ≡ physical = ap (number_it_came_with (physical ∷ sight.came)) (view_count ∙ sym counted) ∙ number_newest physical sight.came in
    stands_again s sight (record { view = handed (Writer true) packet ∷ sight.view; came = physical ∷ sight.came }) old new (same_handed s sight.view (Writer true) packet) same stands
    (given ∙ ap (λ n. n + 1) stands.given)
    (held
    ∙ ap₂ (λ (first : Held) (rest : List Held). first ∷ rest)
    (ap (λ n. held_packet n physical header) count ∙ ap (λ n. held_packet own n header) (sym newest) ∙ ap (held_packet own (number_it_came_with (physical ∷ sight.came) own)) (sym is))
    (ap₂ (λ (n : ℕ) (all : List Held). filter (buffers.is_recent (n + 1)) all) count stands.held
    ∙ filter_of_map (buffers.is_recent (own + 1)) (is_recent_packet (own + 1)) (held_as sight.came) (held_in s sight.view) (λ k d within. refl)
    ∙ older s sight.view sight.came physical (own + 1) (view_count ∙ sym counted)))

lost_count : (lost : Option ℕ) (view : List Item) → buffered_count (with_items (lost_of lost) view) ≡ buffered_count view
lost_count None view = refl
lost_count (Some k) view = refl

gift_seen : (s : Settings) (physical : ℕ) (sight : Sight) (lost : Option ℕ) (packet : PacketIn) (later : List Item) (state : SliceState)
    → SliceStands s (record { view = with_items later (handed (Writer true) packet ∷ with_items (lost_of lost) sight.view); came = physical ∷ sight.came }) state
    → SliceStands s (seen_with (Some physical) (lost_of lost ++ (handed (Writer true) packet ∷ later)) sight) state
gift_seen s physical sight None packet later state stands = stands
gift_seen s physical sight (Some k) packet later state stands = stands

-- what was held under a number is lost, and the packet that came under it is given
pub gift_stands : (s : Settings) (number : Option ℕ) (sight : Sight) (items : List Item) (physical : ℕ) (header : Header) (old mid new : SliceState) → (number ≡ Some physical) × IsGift s sight items physical header
    → Holds old mid → Holds mid new → SliceStands s sight old
    → mid.buffers.given ≡ old.buffers.given → mid.buffers.held ≡ filter (λ (b : Held). not (b.physical == physical)) old.buffers.held
    → new.buffers.given ≡ mid.buffers.given + 1 → new.buffers.held ≡ held_packet mid.buffers.given physical header ∷ filter (buffers.is_recent (mid.buffers.given + 1)) mid.buffers.held
    → SliceStands s (seen_with number items sight) new
gift_stands s number sight items physical header old mid new (some, is) first then_ stands mid_given mid_held given held =
    let after_loss : Sight = record { view = with_items (lost_of is.lost) sight.view; came = sight.came } in
    subst (λ (n : Option ℕ). SliceStands s (seen_with n items sight) new) (sym some)
    (subst (λ (all : List Item). SliceStands s (seen_with (Some physical) all sight) new) (sym is.shown)
    (gift_seen s physical sight is.lost is.packet (map (λ share. handed share is.packet) is.shares) new
    (shares_stand s (handed (Writer true) is.packet ∷ after_loss.view) (physical ∷ sight.came) new is.packet is.shares is.none_given
    (gift_handed s after_loss mid new physical header is.packet then_
    (lost_stands s sight old mid physical is.lost is.only first stands mid_given mid_held)
    (is.counted ∙ sym (lost_count is.lost sight.view)) is.same_header given held))))
