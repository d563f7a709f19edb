use Rattle.std.proofs.Common.{refl, sym, true}
use Rattle.slice_words.proofs.Holding.{filter_all}
use Rattle.slice_side.proofs.applying.use_up.Goals as goal

pub returns-in-None-clause-held : goal.returns-in-None-clause-held
returns-in-None-clause-held c = rw c.in-None.is (sym (filter_all (λ packet. true) c.args.buffers.now.held (λ k d within. refl)))
