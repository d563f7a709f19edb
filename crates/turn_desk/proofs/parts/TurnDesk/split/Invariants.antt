use Rattle.turn_desk.proofs.parts.TurnDesk.split.Given as goal

abbrev pub ghosts-cut : goal.ghosts-cut
ghosts-cut g a = record { calls = a.calls }
