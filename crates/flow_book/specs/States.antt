-- What one slice has at one switch, before anything came from it. All of this is this proxy's own rule.
use Rattle.std.specs.Prelude.{ℕ, ◌≡◌, false, []}
use Rattle.flowspace.specs.declared.slices.Slice.{Slice}
use Rattle.xid_map.specs.Requests.{RequestsStand}
use Rattle.xid_map.specs.Collections.{CollectionsStand, HasRoomToCollect}
use Rattle.buffer_map.specs.Buffers.{BuffersStand}
use Rattle.rate_bucket.specs.Rates.{BucketStands}
use Rattle.flow_book.specs.declared.state.SliceState.{SliceState}
use Rattle.flow_book.specs.Books.{BookStands}

-- each part was called in no way yet, the rate is the slice's, and its controller isn't connected
pub record IsFreshState (slot : ℕ) (of : Slice) (state : SliceState) : Type 0 where
  pub xids : RequestsStand slot [] state.xids
  pub issued : state.xids.issued ≡ 0
  pub collections : CollectionsStand [] state.collections
  pub room : (number bytes : ℕ) → HasRoomToCollect number bytes state.collections
  pub buffers : BuffersStand [] state.buffers
  pub given : state.buffers.given ≡ 0
  pub held : state.buffers.held ≡ []
  pub bucket : BucketStands [] state.bucket
  pub rate : state.bucket.rate ≡ of.rate
  pub burst : state.bucket.burst ≡ of.burst
  pub book : BookStands [] state.book
  pub unbooked : state.book.booked ≡ []
  pub up : state.up ≡ false
  pub miss_send_len : state.miss_send_len ≡ 128
  pub moment : state.moment ≡ 0
