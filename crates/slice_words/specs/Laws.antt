-- Statements about views and answers. `src/laws.rt` has a function for each, which is proved.
use Rattle.std.specs.Prelude.{ℕ, ◌≡◌, ◌≤◌, ◌⊎◌, ◌&&◌, ◌||◌, Bool, true, false, List, [], ◌∷◌, ◌++◌, filter, All, Contains, Some, is_some}
use Rattle.std.specs.List.{list_any}
use Rattle.flowspace.specs.declared.slices.Slice.{Slice}
use Rattle.flowspace.specs.declared.rules.Rule.{Rule}
use Rattle.flowspace.specs.declared.swaps.Swap.{Swap}
use Rattle.flowmod_expand.specs.Pieces.{writes_of}
use Rattle.slice_words.specs.Items.{Settings, settings_of, Item, Up, Msg, is_up, miss_send_len, moments, latest_moment, is_forgetting}
use Rattle.slice_words.specs.Messages.{is_dismissing, length_set}
use Rattle.slice_words.specs.Pasts.{no_answer}
use Rattle.slice_words.specs.Alone.{answer_to, alone, with_items, sent_for}

-- rules with which a slice writes the same matches, in rule order, give it the same settings under the same swaps, whatever their priorities are, whoever reads, and whatever others write
abbrev pub AreOfWhatItWrites : Slice → ℕ → List Swap → List Rule → List Rule → Type 0
AreOfWhatItWrites slice slot swaps rules other = writes_of rules slot ≡ writes_of other slot → settings_of slice slot rules swaps ≡ settings_of slice slot other swaps

-- what is sent for items is what is sent over the view with them, less what was sent over the view before
abbrev pub AreJoined : Settings → List Item → List Item → Type 0
AreJoined s view items = alone s (with_items items view) ≡ alone s view ++ sent_for s view items

-- the slice's controller connects
abbrev pub is_coming : Item → Bool
is_coming Up = true
is_coming item = false

-- nothing follows from an item other than an up while the slice isn't up
abbrev pub IsSilentWhileDown : Settings → List Item → Item → Type 0
IsSilentWhileDown s view item = is_up view ≡ false → is_coming item ≡ false → answer_to s view item ≡ no_answer

-- the newest item of these that says so is an up
abbrev pub is_last_up : List Item → Bool
is_last_up [] = false
is_last_up (item ∷ others) = is_coming item

-- a slice is up where the last of its items that say so is an up
abbrev pub IsUpByTheLast : List Item → Type 0
IsUpByTheLast view = is_up view ≡ is_last_up (filter is_forgetting view)

-- an item is a message that ends its connection
abbrev pub is_dismissal : Item → Bool
is_dismissal (Msg message moment) = is_dismissing message
is_dismissal item = false

-- the connection ends with an item exactly where the slice is up and the item is such a message
abbrev pub EndsExactly : Settings → List Item → Item → Type 0
EndsExactly s view item = (answer_to s view item).dismissed ≡ (is_up view && is_dismissal item)

-- an item is a SET_CONFIG that is taken (section 5.3.2)
abbrev pub is_set : Item → Bool
is_set (Msg message moment) = is_some (length_set message)
is_set item = false

-- an item says how much of a packet the controller wants: it sets that, or forgets what was set
abbrev pub tells_length : Item → Bool
tells_length item = is_forgetting item || is_set item

-- how much of a packet the controller wants is what it set last, where it forgot nothing since
abbrev pub IsSetByTheLast : List Item → List ℕ → ℕ → ℕ → List Item → Type 0
IsSetByTheLast later message moment wanted earlier =
    length_set message ≡ Some wanted → list_any tells_length later ≡ false
    → miss_send_len (later ++ Msg message moment ∷ earlier) ≡ wanted

-- it is 128 where nothing was set since an item that forgets (section 4.1.2)
abbrev pub IsForgotten : List Item → Item → List Item → Type 0
IsForgotten later item earlier = is_forgetting item ≡ true → list_any is_set later ≡ false → miss_send_len (later ++ item ∷ earlier) ≡ 128

-- and where nothing was ever set
abbrev pub IsNeverSet : List Item → Type 0
IsNeverSet view = list_any is_set view ≡ false → miss_send_len view ≡ 128

-- the latest timestamp of a view is at least each of its timestamps
abbrev pub IsAtLeastEach : List Item → Type 0
IsAtLeastEach view = All (λ moment. moment ≤ latest_moment view) (moments view)

-- it is one of them, or zero where there is none
abbrev pub IsOneOrZero : List Item → Type 0
IsOneOrZero view = Contains (moments view) (latest_moment view) ⊎ ((moments view ≡ []) × (latest_moment view ≡ 0))
