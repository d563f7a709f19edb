use Rattle.std.proofs.Common.{ap}
use Rattle.slice_side.proofs.Changing.{inquired}
use Rattle.slice_side.proofs.applying.inquire.Goals as goal

pub returns : goal.returns
returns c s sight item stands is =
    inquired s sight item c.next-number.result.0 c.args.moment c.args.asked c.args.state.now c.request.new.state c.begin.new.collections c.request.ensures (λ slot calls h. ap (λ p. p.0) (c.next-number.ensures.value slot calls h)) c.begin.ensures stands is
