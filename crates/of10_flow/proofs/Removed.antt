-- What 88 bytes say of a removed entry lies in range.
use Rattle.std.proofs.Common.{ℕ, ◌<◌, List, take, drop, slice_index}
use Rattle.of10_model.proofs.Ranges.{bytes-drop, bytes-take, number_at-lt}
use Rattle.of10_model.proofs.Applied.{IsNormal-Norm}
use Rattle.of10_flow.specs.FlowRemoveds.{IsFlowRemoved, removal_in}

pub IsFlowRemoved-removal_in : (bytes : List ℕ) → ((k : ℕ) → slice_index bytes k < 256) → IsFlowRemoved (removal_in bytes)
IsFlowRemoved-removal_in bytes h = record {
  xid = number_at-lt bytes 4 4 h;
  pattern = IsNormal-Norm (take 40 (drop 8 bytes)) (bytes-take 40 (drop 8 bytes) (bytes-drop bytes 8 h));
  cookie = number_at-lt bytes 48 8 h;
  priority = number_at-lt bytes 56 2 h;
  reason = number_at-lt bytes 58 1 h;
  seconds = number_at-lt bytes 60 4 h;
  nanos = number_at-lt bytes 64 4 h;
  idle = number_at-lt bytes 68 2 h;
  packets = number_at-lt bytes 72 8 h;
  bytes = number_at-lt bytes 80 8 h;
}
