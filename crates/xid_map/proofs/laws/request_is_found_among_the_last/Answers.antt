use Rattle.xid_map.proofs.Finding.{IsFound-found, found-IsFound}
use Rattle.xid_map.proofs.laws.request_is_found_among_the_last.Goals as goal

pub returns : goal.returns
returns c slot physical calls request = (IsFound-found slot physical calls request, found-IsFound slot physical calls request)
