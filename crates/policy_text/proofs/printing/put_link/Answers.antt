use Rattle.std.proofs.Common.{string_bytes}
use Rattle.policy_text.specs.Printing.{link_entries}
use Rattle.policy_text.proofs.Appending.{after_all}
use Rattle.policy_text.proofs.printing.put_link.Goals as goal

pub returns : goal.returns
returns c = rw (c.in_ok-put_number16-3.ensures, c.in_ok-put_number8.ensures, c.in_ok-put_number16-2.ensures, c.in_ok-put_hardware-2.ensures, c.in_ok-put_hardware.ensures, c.in_ok-put_number16.ensures) (after_all (string_bytes c.args.out.now) (link_entries c.args.m.now))
