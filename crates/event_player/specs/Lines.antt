-- Lines as the code has them (this proxy's own rule).
use Rattle.desk_words.specs.Reports.{LinePlace, Line, Saying}
use Rattle.desk_words.specs.Reports as report
use Rattle.event_player.specs.declared.teller.LinePlace as code
use Rattle.event_player.specs.declared.teller.Said.{Said}
use Rattle.event_player.specs.declared.teller.Said.TheVariants.{Lane, To, Close, Down}

abbrev pub place_of : code.LinePlace → LinePlace
place_of place = record { number = place.number; switch = place.switch }

abbrev pub saying_of : Said → Saying
saying_of (Lane message) = report.Lane message.now
saying_of (To slot name message) = report.To slot name.now message.now
saying_of (Close name) = report.Close name.now
saying_of Down = report.SwitchEnd

abbrev pub line_of : code.LinePlace → Said → Line
line_of place said = record { place = place_of place; saying = saying_of said }
