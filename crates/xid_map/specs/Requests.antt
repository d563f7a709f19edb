-- The requests of a slice under the transaction ids of this proxy. All of this is this proxy's own rule.
-- Lists have the newest first.
use Rattle.std.specs.Prelude.{ℕ, ◌≡◌, ◌+◌, ◌*◌, ◌%◌, ◌^◌, ◌==◌, true, false, if◌then◌else◌, List, [], ◌∷◌, take, map, find, Option}
use Rattle.xid_map.specs.declared.asked.Asked.{Asked}
use Rattle.xid_map.specs.declared.asked.Issued.{Issued}

-- what can be done to the requests
pub data RequestCall : Type 0 where
  Issue : Asked → RequestCall
  MarkError : ℕ → RequestCall
  MarkDone : ℕ → RequestCall
  Forget : RequestCall

-- how many requests were issued
abbrev pub issued : List RequestCall → ℕ
issued [] = 0
issued (Issue asked ∷ earlier) = issued earlier + 1
issued (MarkError number ∷ earlier) = issued earlier
issued (MarkDone number ∷ earlier) = issued earlier
issued (Forget ∷ earlier) = issued earlier

-- a mark is set on the request of one number
abbrev pub with_mark : (Issued → Issued) → ℕ → Issued → Issued
with_mark mark number request = if request.number == number then mark request else request

-- the request has failed
abbrev pub with_error : Issued → Issued
with_error request = record request { failed = true }

-- the request has its reply
abbrev pub with_reply : Issued → Issued
with_reply request = record request { done = true }

-- the requests that were issued since they were last forgotten, with the marks that were set since
unfoldable pub requests : List RequestCall → List Issued
requests [] = []
requests (Issue asked ∷ earlier) = record { number = issued earlier; asked = asked; failed = false; done = false } ∷ requests earlier
requests (MarkError number ∷ earlier) = map (with_mark with_error number) (requests earlier)
requests (MarkDone number ∷ earlier) = map (with_mark with_reply number) (requests earlier)
requests (Forget ∷ earlier) = []

-- the last 4,096 of them are remembered
unfoldable pub remembered : List RequestCall → List Issued
remembered calls = take 4096 (requests calls)

-- the transaction id under which the switch sees a request: the slice's slot in the top byte, the low 24 bits of the number below
abbrev pub physical_of : ℕ → ℕ → ℕ
physical_of slot number = slot * 2 ^ 24 + number % 2 ^ 24

-- the remembered request that the switch sees under a transaction id
unfoldable pub found : ℕ → ℕ → List RequestCall → Option Issued
found slot physical calls = find (λ request. physical_of slot request.number == physical) (remembered calls)

-- what a map of requests keeps
pub record Requests : Type 0 where
  pub slot : ℕ
  pub issued : ℕ
  pub remembered : List Issued

-- the map of the slice in this slot was called so
pub record RequestsStand (slot : ℕ) (calls : List RequestCall) (kept : Requests) : Type 0 where
  pub same_slot : kept.slot ≡ slot
  pub same_issued : kept.issued ≡ issued calls
  pub same_remembered : kept.remembered ≡ remembered calls
