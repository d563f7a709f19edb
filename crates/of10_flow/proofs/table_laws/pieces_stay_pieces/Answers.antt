use Rattle.of10_flow.proofs.Faithful.{stay_pieces}
use Rattle.of10_flow.proofs.table_laws.pieces_stay_pieces.Goals as goal

pub returns : goal.returns
returns c = stay_pieces
