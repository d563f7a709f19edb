use Rattle.xid_map.proofs.Collecting.{IsCollecting-collecting, collecting-IsCollecting}
use Rattle.xid_map.proofs.laws.request_collects_until_a_call_ends_it.Goals as goal

pub returns : goal.returns
returns c number calls = (IsCollecting-collecting number calls, collecting-IsCollecting number calls)
