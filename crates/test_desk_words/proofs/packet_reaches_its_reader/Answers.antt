use Rattle.test_desk_words.proofs.Shown.{writer_is_told_alone_shown, reader_is_told_shown}
use Rattle.test_desk_words.proofs.packet_reaches_its_reader.Goals as goal

pub returns-clause-writer : goal.returns-clause-writer
returns-clause-writer c = writer_is_told_alone_shown

pub returns-clause-reader : goal.returns-clause-reader
returns-clause-reader c = reader_is_told_shown
