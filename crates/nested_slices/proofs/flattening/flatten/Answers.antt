use Rattle.std.proofs.Common.{IfSome, slice_get}
use Rattle.flowspace.specs.Policies.{IsPolicy}
use Rattle.nested_slices.specs.Space.{WritesWhatBothWrite, OthersWriteAsBefore, HasPiecesOfBoth, GoesOnToWriters, GoesOnToReaders}
use Rattle.nested_slices.specs.Refused.{shares_of, AreWithin}
use Rattle.nested_slices.proofs.Writing.{inner_write, other_write, inner_pieces}
use Rattle.nested_slices.proofs.Beyond.{goes_on_writer, goes_on_readers}
use Rattle.nested_slices.proofs.Flattened.{of_answer, within_holder}
use Rattle.nested_slices.proofs.flattening.flatten.Goals as goal

pub returns : goal.returns
returns c =
    let o = c.args.outer.now in
    let s = c.args.slot in
    let i = c.args.inner.now in
    let r = c.flattened.result in
    let given = c.flattened.ensures.given in
    let answer = c.flattened.ensures.answer in
    record {
      answer = answer;
      accepted = of_answer (λ p. IsPolicy p.slices p.rules) o s i r given answer (λ none is policy. policy);
      few = c.flattened.ensures.few;
      inner = of_answer (WritesWhatBothWrite o s i) o s i r given answer (λ none is policy. λ datapath t h range. inner_write o s i is policy datapath t h range);
      others = of_answer (OthersWriteAsBefore o s i) o s i r given answer (λ none is policy. λ datapath slot lt differs h range. other_write o s i is policy datapath slot lt differs h range);
      pieces = of_answer (HasPiecesOfBoth o s i) o s i r given answer (λ none is policy. λ datapath t m h. inner_pieces o s i is datapath t m h);
      beyond_writers = of_answer (GoesOnToWriters o s i) o s i r given answer (λ none is policy. λ datapath h free. goes_on_writer o s i datapath h free);
      beyond_readers = of_answer (GoesOnToReaders o s i) o s i r given answer (λ none is policy. λ datapath h free. goes_on_readers o s i datapath h free);
      sums = of_answer (λ p. IfSome (slice_get o.slices s) (AreWithin (shares_of i.slices))) o s i r given answer (λ none is policy. within_holder o s i none);
    }
