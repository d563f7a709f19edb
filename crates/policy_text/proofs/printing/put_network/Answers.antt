use Rattle.std.proofs.Common.{string_bytes}
use Rattle.policy_text.specs.Printing.{network_entries}
use Rattle.policy_text.proofs.Appending.{after_all}
use Rattle.policy_text.proofs.printing.put_network.Goals as goal

pub returns : goal.returns
returns c = rw (c.in_ok-put_number16-2.ensures, c.in_ok-put_number16.ensures, c.in_ok-put_prefix-2.ensures, c.in_ok-put_prefix.ensures, c.in_ok-put_number8-2.ensures, c.in_ok-put_number8.ensures) (after_all (string_bytes c.args.out.now) (network_entries c.args.m.now))
