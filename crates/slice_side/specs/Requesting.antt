-- What a request changes in a slice's state.
use Rattle.std.specs.Prelude.{ℕ, ◌≡◌, not, max, filter, List, ◌∷◌, Option}
use Rattle.xid_map.specs.declared.asked.Asked.{Asked}
use Rattle.xid_map.specs.Requests.{RequestCall, Issue, RequestsStand}
use Rattle.rate_bucket.specs.Rates.{BucketStands}
use Rattle.flow_book.specs.declared.state.SliceState.{SliceState}
use Rattle.slice_side.specs.Reactions.{without_physical, is_used_up}

-- a request of a timestamp is remembered, has asked the rate at the greatest of the slice's timestamps, and uses up the packet of a number, where there is one. All else stays as it is
pub record IsRequested (at : ℕ) (asked : Asked) (used : Option ℕ) (old new : SliceState) : Type 0 where
  pub moment : new.moment ≡ max at old.moment
  pub bucket : (questions : List ℕ) → BucketStands questions old.bucket → BucketStands (new.moment ∷ questions) new.bucket
  pub rate : new.bucket.rate ≡ old.bucket.rate
  pub burst : new.bucket.burst ≡ old.bucket.burst
  pub xids : (slot : ℕ) (calls : List RequestCall) → RequestsStand slot calls old.xids → RequestsStand slot (Issue asked ∷ calls) new.xids
  pub given : new.buffers.given ≡ old.buffers.given
  pub held : new.buffers.held ≡ filter (λ packet. not (is_used_up used (without_physical packet))) old.buffers.held
  pub same_up : new.up ≡ old.up
  pub same_length : new.miss_send_len ≡ old.miss_send_len
  pub same_collections : new.collections ≡ old.collections
  pub same_book : new.book ≡ old.book
