-- Which pairs of a match and a priority are booked for a slice, in words of its view. Views have the newest item first. All of this is this proxy's own rule.
use Rattle.std.specs.Prelude.{ℕ, ◌≡◌, ◌⊎◌, Bool, true, false, IsTrue, List, ◌∷◌, ◌++◌, Contains, Option, Some, Ok}
use Rattle.of10_model.specs.declared.pattern.Pattern.{Pattern}
use Rattle.of10_model.specs.Inclusion.{includes_of}
use Rattle.of10_flow.specs.declared.protocol.TheConstants.{ADD, MODIFY, MODIFY_STRICT, SEND_FLOW_REM}
use Rattle.of10_flow.specs.declared.flow_mod.FlowMod.{FlowMod}
use Rattle.of10_flow.specs.Tables.{has_flag}
use Rattle.of10_message.specs.declared.controller.FromController.TheVariants as said
use Rattle.flowmod_expand.specs.Pieces.{pieces_within}
use Rattle.xid_map.specs.declared.asked.Issued.{Issued}
use Rattle.xid_map.specs.Laws.{NoneOf}
use Rattle.flow_book.specs.declared.booked.Booked.{Booked}
use Rattle.flow_book.specs.Books.{is_booked, book, booking}
use Rattle.slice_words.specs.Items.{Settings, message_read, Item, Msg, Removed, Fault}
use Rattle.slice_words.specs.Calls.{book_calls}
use Rattle.slice_words.specs.Standing.{past_of}
use Rattle.view_laws.specs.Requests.{is_request, next_number, IsRemembered}

-- ---- what the answers go by

-- a pair as it is booked after a view, none where it isn't
abbrev pub booking_after : Settings → Pattern → ℕ → List Item → Option Booked
booking_after s pattern priority view = booking pattern priority (book_calls s (past_of s view))

-- a pair is booked after a view
abbrev pub IsBooked : Settings → Pattern → ℕ → List Item → Type 0
IsBooked s pattern priority view = IsTrue (is_booked pattern priority (book (book_calls s (past_of s view))))

-- the request of this number is the one that booked the pair first
abbrev pub IsOfRequest : Settings → Pattern → ℕ → ℕ → List Item → Type 0
IsOfRequest s pattern priority number view = (b : Booked) × (booking_after s pattern priority view ≡ Some b) × (b.number ≡ number)

-- ---- what books, and what releases

-- a piece includes no match that is booked, of any priority
abbrev pub IncludesNoBooked : Settings → Pattern → List Item → Type 0
IncludesNoBooked s piece view = (pattern : Pattern) (priority : ℕ) → IsBooked s pattern priority view → includes_of piece pattern ≡ false

-- a command books a piece: ADD any, MODIFY one that includes no match booked before, and MODIFY_STRICT one whose pair wasn't booked before
abbrev pub CommandBooks : Settings → ℕ → Pattern → ℕ → List Item → Type 0
CommandBooks s command piece priority view =
    (command ≡ ADD) ⊎ (((command ≡ MODIFY) × IncludesNoBooked s piece view) ⊎ ((command ≡ MODIFY_STRICT) × (IsBooked s piece priority view → ⊥)))

-- a message after a view is this flow-mod, is sent on, and books the pair as one of its pieces
pub record IsBookedBy (s : Settings) (pattern : Pattern) (priority : ℕ) (m : FlowMod) (message : List ℕ) (moment : ℕ) (view : List Item) : Type 0 where
  pub read : message_read s message ≡ Ok (said.FlowMod m)
  pub asks : is_request s view (Msg message moment) ≡ true
  pub at_priority : m.priority ≡ priority
  pub among : Contains (pieces_within s.patterns m.pattern) pattern
  pub piece : CommandBooks s m.command pattern priority view

-- an item after a view books the pair: no other than such a message does
abbrev pub ItemBooks : Settings → Pattern → ℕ → Item → List Item → Type 0
ItemBooks s pattern priority (Msg message moment) view = (m : FlowMod) × IsBookedBy s pattern priority m message moment view
ItemBooks s pattern priority item view = ⊥

-- an item after a view releases the pair: its entry was removed, or an error names it, and the request that is remembered for that is the one that booked it first
abbrev pub ItemReleases : Settings → Pattern → ℕ → Item → List Item → Type 0
ItemReleases s pattern priority (Removed entry) view = (entry.pattern ≡ pattern) × (entry.priority ≡ priority)
ItemReleases s pattern priority (Fault x class code (Some pair)) view =
    (pair.0 ≡ pattern) × (pair.1 ≡ priority) × ((request : Issued) × IsRemembered s view x request × IsOfRequest s pattern priority request.number view)
ItemReleases s pattern priority item view = ⊥

-- ---- what is booked

-- of the items that book or release the pair the last one books it, and it asks so, by SEND_FLOW_REM, for a report of the removal
pub record IsLastBookedIn (s : Settings) (pattern : Pattern) (priority : ℕ) (wish : Bool) (view : List Item) : Type 0 where
  pub later : List Item
  pub message : List ℕ
  pub moment : ℕ
  pub earlier : List Item
  pub m : FlowMod
  pub split : view ≡ later ++ (Msg message moment ∷ earlier)
  pub books : IsBookedBy s pattern priority m message moment earlier
  pub wishes : has_flag SEND_FLOW_REM m ≡ wish
  pub not_booked : NoneOf (ItemBooks s pattern priority) later (Msg message moment ∷ earlier)
  pub not_released : NoneOf (ItemReleases s pattern priority) later (Msg message moment ∷ earlier)

-- the request of this number booked the pair first since it was last released: before it the pair wasn't booked, and no later item releases it
pub record IsFirstBookedIn (s : Settings) (pattern : Pattern) (priority : ℕ) (number : ℕ) (view : List Item) : Type 0 where
  pub later : List Item
  pub message : List ℕ
  pub moment : ℕ
  pub earlier : List Item
  pub m : FlowMod
  pub split : view ≡ later ++ (Msg message moment ∷ earlier)
  pub books : IsBookedBy s pattern priority m message moment earlier
  pub numbered : next_number s earlier ≡ number
  pub unbooked : IsBooked s pattern priority earlier → ⊥
  pub not_released : NoneOf (ItemReleases s pattern priority) later (Msg message moment ∷ earlier)
