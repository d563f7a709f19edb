-- What the definitions say, in words of the calls. Lists of calls have the newest first.
use Rattle.std.specs.Prelude.{ℕ, ◌≡◌, ◌≢◌, ◌+◌, ◌<◌, ◌==◌, ◌↔◌, false, if◌then◌else◌, IsTrue, List, [], ◌∷◌, ◌++◌, length, Contains}
use Rattle.xid_map.specs.declared.asked.Issued.{Issued}
use Rattle.xid_map.specs.Requests.{RequestCall, Issue, MarkError, MarkDone, Forget, issued, physical_of}
use Rattle.xid_map.specs.Collections.{CollectionCall, Start, Add, Sum, Finish, EndAll, is_among, collecting, since}

-- the request was issued, its number is how many were issued before it, and the switch sees it under this transaction id. Since then nothing was forgotten, fewer than 4,096 others were issued, and its marks are those that were set
pub record IsFoundRequest (slot physical : ℕ) (calls : List RequestCall) (request : Issued) : Type 0 where
  pub later : List RequestCall
  pub earlier : List RequestCall
  pub split : calls ≡ later ++ (Issue request.asked ∷ earlier)
  pub numbered : request.number ≡ issued earlier
  pub seen : physical_of slot request.number ≡ physical
  pub not_forgotten : Contains later Forget → ⊥
  pub recent : issued later < 4096
  pub failed : IsTrue request.failed ↔ Contains later (MarkError request.number)
  pub done : IsTrue request.done ↔ Contains later (MarkDone request.number)

-- it began before each other request that collects: more calls came since
abbrev pub IsOldest : ℕ → List CollectionCall → Type 0
IsOldest number calls = (other : ℕ) → other ≢ number → IsTrue (is_among other (collecting calls)) → length (since other calls) < length (since number calls)

-- a call after these ends what the request collects: it finishes this one or ends all, or it begins another while eight collect, of which this is the oldest
abbrev pub EndsCollecting : ℕ → CollectionCall → List CollectionCall → Type 0
EndsCollecting number (Start other) earlier = (is_among other (collecting earlier) ≡ false) × (length (collecting earlier) ≡ 8) × IsOldest number earlier
EndsCollecting number (Add other entry) earlier = ⊥
EndsCollecting number (Sum other packets bytes) earlier = ⊥
EndsCollecting number (Finish other) earlier = other ≡ number
EndsCollecting number EndAll earlier = Unit {0}

-- none of these calls, which come after earlier ones, does this
abbrev pub NoneOf : {C : Type 0} → (C → List C → Type 0) → List C → List C → Type 0
NoneOf Does [] earlier = Unit {0}
NoneOf Does (call ∷ later) earlier = (Does call (later ++ earlier) → ⊥) × NoneOf Does later earlier

-- the request was started while it didn't collect, and no call ended that since
pub record IsCollecting (number : ℕ) (calls : List CollectionCall) : Type 0 where
  pub later : List CollectionCall
  pub earlier : List CollectionCall
  pub split : calls ≡ later ++ (Start number ∷ earlier)
  pub began : is_among number (collecting earlier) ≡ false
  pub not_ended : NoneOf (EndsCollecting number) later (Start number ∷ earlier)

-- how many of these calls start another request
abbrev pub others_started : ℕ → List CollectionCall → ℕ
others_started number [] = 0
others_started number (Start other ∷ earlier) = if other == number then others_started number earlier else others_started number earlier + 1
others_started number (Add other entry ∷ earlier) = others_started number earlier
others_started number (Sum other packets bytes ∷ earlier) = others_started number earlier
others_started number (Finish other ∷ earlier) = others_started number earlier
others_started number (EndAll ∷ earlier) = others_started number earlier

-- the request was started while it didn't collect, and since then it wasn't finished, not all were ended, and at most seven starts of others came
pub record IsStarted (number : ℕ) (calls : List CollectionCall) : Type 0 where
  pub later : List CollectionCall
  pub earlier : List CollectionCall
  pub split : calls ≡ later ++ (Start number ∷ earlier)
  pub began : is_among number (collecting earlier) ≡ false
  pub not_finished : Contains later (Finish number) → ⊥
  pub not_all_ended : Contains later EndAll → ⊥
  pub few : others_started number later < 8
