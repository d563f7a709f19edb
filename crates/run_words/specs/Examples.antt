-- Worked examples: the summaries of made recordings.
use Rattle.std.specs.Prelude.{◌≡◌, codes}
use Rattle.fv_generator.specs.Policies.{the_policy}
use Rattle.fv_generator.specs.Made.{records_of}
use Rattle.run_words.specs.Summaries.{summary}

-- without a round the switch is sent five messages, and each slice a HELLO
abbrev pub NoRound : Type 0
NoRound = summary the_policy (records_of 1 0) ≡ codes "events 4\nlane 5 108\nalice 1 8\nbob 1 8\n"

-- the first round of seed 1 is a packet-out of bob for alice's packets, which he is refused
abbrev pub OneRound : Type 0
OneRound = summary the_policy (records_of 1 1) ≡ codes "events 5\nlane 5 108\nalice 1 8\nbob 2 84\n"
