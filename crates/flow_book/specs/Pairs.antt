-- What becomes of one pair of a match and a priority, call by call. Lists of calls have the newest first.
use Rattle.std.specs.Prelude.{ℕ, ◌≡◌, ◌≢◌, ◌⊎◌, false, Bool, List, ◌∷◌, ◌++◌, All, AllPairs, Contains, Some}
use Rattle.of10_model.specs.declared.pattern.Pattern.{Pattern}
use Rattle.of10_model.specs.Normal.{IsNormal}
use Rattle.of10_flow.specs.declared.protocol.TheConstants.{ADD, MODIFY, MODIFY_STRICT}
use Rattle.xid_map.specs.Laws.{NoneOf}
use Rattle.flow_book.specs.declared.booked.Booked.{Booked}
use Rattle.flow_book.specs.Books.{BookCall, Added, Removed, Failed, is_booked, includes_booked, book, booking}

-- a flow-mod with this command books a piece: an ADD any, a MODIFY one that includes no match booked before, of any priority, and a MODIFY_STRICT one whose pair wasn't booked before
abbrev pub BooksPiece : ℕ → Pattern → ℕ → List BookCall → Type 0
BooksPiece command piece priority earlier =
    (command ≡ ADD) ⊎ (((command ≡ MODIFY) × (includes_booked piece (book earlier) ≡ false)) ⊎ ((command ≡ MODIFY_STRICT) × (is_booked piece priority (book earlier) ≡ false)))

-- a call books the pair: it is a flow-mod at this priority that books this match as one of its pieces
abbrev pub Books : Pattern → ℕ → BookCall → List BookCall → Type 0
Books pattern priority (Added command pieces at_priority asked number) earlier = (at_priority ≡ priority) × Contains pieces pattern × BooksPiece command pattern priority earlier
Books pattern priority (Removed other at_priority) earlier = ⊥
Books pattern priority (Failed number other at_priority) earlier = ⊥

-- a call releases the pair: it was removed, or the request failed for it that booked it first
abbrev pub Releases : Pattern → ℕ → BookCall → List BookCall → Type 0
Releases pattern priority (Added command pieces at_priority asked number) earlier = ⊥
Releases pattern priority (Removed other at_priority) earlier = (other ≡ pattern) × (at_priority ≡ priority)
Releases pattern priority (Failed number other at_priority) earlier =
    (other ≡ pattern) × (at_priority ≡ priority) × ((b : Booked) × (booking pattern priority earlier ≡ Some b) × (b.number ≡ number))

-- of the calls that book or release the pair the last one books it, and it asks so for a report of the removal
pub record IsLastBooked (pattern : Pattern) (priority : ℕ) (wish : Bool) (calls : List BookCall) : Type 0 where
  pub later : List BookCall
  pub command : ℕ
  pub pieces : List Pattern
  pub number : ℕ
  pub earlier : List BookCall
  pub split : calls ≡ later ++ (Added command pieces priority wish number ∷ earlier)
  pub books : Books pattern priority (Added command pieces priority wish number) earlier
  pub not_booked : NoneOf (Books pattern priority) later (Added command pieces priority wish number ∷ earlier)
  pub not_released : NoneOf (Releases pattern priority) later (Added command pieces priority wish number ∷ earlier)

-- the request of this number made the first call that books the pair since it was last released: then it wasn't booked, and nothing has released it
pub record IsFirstBooked (pattern : Pattern) (priority : ℕ) (of_number : ℕ) (calls : List BookCall) : Type 0 where
  pub later : List BookCall
  pub command : ℕ
  pub pieces : List Pattern
  pub wish : Bool
  pub earlier : List BookCall
  pub split : calls ≡ later ++ (Added command pieces priority wish of_number ∷ earlier)
  pub books : Books pattern priority (Added command pieces priority wish of_number) earlier
  pub unbooked : is_booked pattern priority (book earlier) ≡ false
  pub not_released : NoneOf (Releases pattern priority) later (Added command pieces priority wish of_number ∷ earlier)

-- matches of which no two are the same, each in its normal form
pub record ArePieces (pieces : List Pattern) : Type 0 where
  pub distinct : AllPairs (λ a b. a ≢ b) pieces
  pub normal : All IsNormal pieces

-- a call that is a flow-mod has such pieces
abbrev pub HasPieces : BookCall → Type 0
HasPieces (Added command pieces priority asked number) = ArePieces pieces
HasPieces (Removed pattern priority) = Unit {0}
HasPieces (Failed number pattern priority) = Unit {0}

-- two booked pairs have one match and one priority
abbrev pub IsSamePair : Booked → Booked → Type 0
IsSamePair a b = (a.pattern ≡ b.pattern) × (a.priority ≡ b.priority)
