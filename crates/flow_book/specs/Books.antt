-- What is booked for a slice: the flow entries that it asked of a switch. A pair is a match and a priority, by which the standard knows an entry (OpenFlow 1.0.0, section 4.6). All of this is this proxy's own rule.
-- Lists of calls have the newest first.
use Rattle.std.specs.Prelude.{ℕ, ◌≡◌, ◌+◌, ◌==◌, ◌&&◌, ◌||◌, nat_le, not, Bool, false, if◌then◌else◌, List, [], ◌∷◌, ◌++◌, length, filter, map, find, count_by, Option}
use Rattle.std.specs.List.{list_any}
use Rattle.std.specs.Option.{option_map_or}
use Rattle.of10_model.specs.declared.pattern.Pattern.{Pattern}
use Rattle.of10_model.specs.Same.{is_same}
use Rattle.of10_model.specs.Inclusion.{includes_of}
use Rattle.of10_model.specs.Meet.{is_disjoint}
use Rattle.of10_flow.specs.declared.protocol.TheConstants.{ADD, MODIFY, MODIFY_STRICT}
use Rattle.flow_book.specs.declared.booked.Booked.{Booked}

-- what can be done to the book: a flow-mod with its command, pieces, priority, wish for reports of removals and number; the removal of a pair; and a failure of the request of a number for a pair
pub data BookCall : Type 0 where
  Added : ℕ → List Pattern → ℕ → Bool → ℕ → BookCall
  Removed : Pattern → ℕ → BookCall
  Failed : ℕ → Pattern → ℕ → BookCall

-- a booked pair is the one of this match and priority
abbrev pub is_pair : Pattern → ℕ → Booked → Bool
is_pair pattern priority b = b.priority == priority && is_same b.pattern pattern

-- the pair of this match and priority is among those booked
abbrev pub is_booked : Pattern → ℕ → List Booked → Bool
is_booked pattern priority booked = list_any (is_pair pattern priority) booked

-- a match includes a booked one, of any priority
abbrev pub includes_booked : Pattern → List Booked → Bool
includes_booked pattern booked = list_any (λ b. includes_of pattern b.pattern) booked

-- a piece comes to the book by a flow-mod: an ADD and a MODIFY_STRICT book a pair that isn't booked, a MODIFY a match that includes no booked one, and deletes nothing
abbrev pub is_newcomer : ℕ → ℕ → List Booked → Pattern → Bool
is_newcomer command priority booked piece =
    ((command == ADD || command == MODIFY_STRICT) && not (is_booked piece priority booked)) || (command == MODIFY && not (includes_booked piece booked))

-- how many pieces come to the book
abbrev pub newcomers_in : ℕ → List Pattern → ℕ → List Booked → ℕ
newcomers_in command pieces priority booked = count_by (is_newcomer command priority booked) pieces

-- what is booked stays within a quota when the pieces have come to it
abbrev pub fits_in : ℕ → List Pattern → ℕ → ℕ → List Booked → Bool
fits_in command pieces priority quota booked = nat_le (length booked + newcomers_in command pieces priority booked) quota

-- a piece shares a header with a booked match of the priority
abbrev pub overlaps_in : List Pattern → ℕ → List Booked → Bool
overlaps_in pieces priority booked = list_any (λ piece. list_any (λ b. b.priority == priority && not (is_disjoint b.pattern piece)) booked) pieces

-- a piece as it is booked first
abbrev pub first_booked : ℕ → Bool → ℕ → Pattern → Booked
first_booked priority asked number piece = record { pattern = piece; priority = priority; asked = asked; number = number }

-- a booked pair after a flow-mod: where an ADD books it again it asks as the ADD does, and stays the request's that booked it first
abbrev pub booked_again : ℕ → List Pattern → ℕ → Bool → Booked → Booked
booked_again command pieces priority asked b =
    if command == ADD && list_any (λ piece. is_pair piece priority b) pieces then record b { asked = asked } else b

-- the request of this number booked the pair first
abbrev pub is_first : ℕ → Option Booked → Bool
is_first number booking = option_map_or (λ b. b.number == number) booking false

-- what is booked without the pair
abbrev pub without : Pattern → ℕ → List Booked → List Booked
without pattern priority booked = filter (λ b. not (is_pair pattern priority b)) booked

-- what is booked after these calls, each pair once, in no order that counts
unfoldable pub book : List BookCall → List Booked
book [] = []
book (Added command pieces priority asked number ∷ earlier) =
    map (first_booked priority asked number) (filter (is_newcomer command priority (book earlier)) pieces)
    ++ map (booked_again command pieces priority asked) (book earlier)
book (Removed pattern priority ∷ earlier) = without pattern priority (book earlier)
book (Failed number pattern priority ∷ earlier) =
    if is_first number (find (is_pair pattern priority) (book earlier)) then without pattern priority (book earlier) else book earlier

-- the pair as it is booked after these calls, none where it isn't
abbrev pub booking : Pattern → ℕ → List BookCall → Option Booked
booking pattern priority calls = find (is_pair pattern priority) (book calls)

-- what a book keeps: the booked pairs, and for how many more memory was taken
pub record Book : Type 0 where
  pub booked : List Booked
  pub room : ℕ

-- two lists have the same pairs, each as often, in any order: whatever is asked of a pair, of both as many pass
abbrev pub HaveSame : List Booked → List Booked → Type 0
HaveSame xs ys = (test : Booked → Bool) → length (filter test xs) ≡ length (filter test ys)

-- the book was called so: it keeps what is booked after these calls
pub record BookStands (calls : List BookCall) (kept : Book) : Type 0 where
  pub same : HaveSame (book calls) kept.booked
