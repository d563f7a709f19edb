-- Which requests for statistics collect, in words of a slice's view. Views have the newest item first. All of this is this proxy's own rule.
use Rattle.std.specs.Prelude.{ℕ, ◌≡◌, ◌≤◌, ◌⊎◌, true, IsTrue, List, ◌∷◌, ◌++◌, length, Ok}
use Rattle.of10_stats.specs.declared.request.StatsRequest.{StatsRequest}
use Rattle.of10_message.specs.declared.controller.FromController.TheVariants as said
use Rattle.xid_map.specs.declared.asked.Issued.{Issued}
use Rattle.xid_map.specs.Collections.{is_among, collecting}
use Rattle.xid_map.specs.Laws.{NoneOf}
use Rattle.slice_words.specs.Messages.{is_dismissing}
use Rattle.slice_words.specs.Items.{Settings, message_read, Item, Up, Down, Msg, Fault, Last}
use Rattle.slice_words.specs.Pasts.{is_any}
use Rattle.slice_words.specs.Alone.{answer_to}
use Rattle.slice_words.specs.Calls.{collection_calls}
use Rattle.slice_words.specs.Standing.{past_of}
use Rattle.view_laws.specs.Requests.{is_request, next_number, IsRemembered}

-- ---- what the answers go by

-- the numbers of the requests that collect after a view
abbrev pub collecting_after : Settings → List Item → List ℕ
collecting_after s view = collecting (collection_calls s (past_of s view))

-- the request of a number collects after a view
abbrev pub Collects : Settings → ℕ → List Item → Type 0
Collects s number view = IsTrue (is_among number (collecting_after s view))

-- ---- what begins to collect, and what ends that

-- a message after a view is a request for statistics; those of tables are answered at once, and are no requests
pub record IsStatistics (s : Settings) (message : List ℕ) (moment : ℕ) (view : List Item) : Type 0 where
  pub request : StatsRequest
  pub read : message_read s message ≡ Ok (said.StatsRequest request)
  pub asks : is_request s view (Msg message moment) ≡ true

-- the request that is remembered for the low 24 bits of a transaction id has this number
abbrev pub IsFor : Settings → ℕ → ℕ → List Item → Type 0
IsFor s x number view = (request : Issued) × IsRemembered s view x request × (request.number ≡ number)

-- eight requests collect, and of them this one was made first
pub record IsFirstOfEight (s : Settings) (number : ℕ) (view : List Item) : Type 0 where
  pub collects : Collects s number view
  pub eight : length (collecting_after s view) ≡ 8
  pub is_first : (other : ℕ) → Collects s other view → number ≤ other

-- an item after a view ends what a request collects. The request is forgotten, or an error comes for it. Or the last part of its reply comes, and the slice is sent what was collected. Or another request for statistics is made while eight collect, of which this one was made first
abbrev pub ItemEndsCollecting : Settings → ℕ → Item → List Item → Type 0
ItemEndsCollecting s number Up view = Unit {0}
ItemEndsCollecting s number Down view = Unit {0}
ItemEndsCollecting s number (Msg message moment) view = (is_dismissing message ≡ true) ⊎ (IsStatistics s message moment view × IsFirstOfEight s number view)
ItemEndsCollecting s number (Fault x class code pair) view = IsFor s x number view
ItemEndsCollecting s number (Last x kind) view = (is_any (answer_to s view (Last x kind)).to_slice ≡ true) × IsFor s x number view
ItemEndsCollecting s number item view = ⊥

-- ---- which collect

-- the request is a message of the view for statistics, and its number is how many requests came before it; no later item ended what it collects
pub record IsCollectingIn (s : Settings) (number : ℕ) (view : List Item) : Type 0 where
  pub later : List Item
  pub message : List ℕ
  pub moment : ℕ
  pub earlier : List Item
  pub split : view ≡ later ++ (Msg message moment ∷ earlier)
  pub asks : IsStatistics s message moment earlier
  pub numbered : number ≡ next_number s earlier
  pub not_ended : NoneOf (ItemEndsCollecting s number) later (Msg message moment ∷ earlier)
