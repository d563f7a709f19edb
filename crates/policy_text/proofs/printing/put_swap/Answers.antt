use Rattle.std.proofs.Common.{◌++◌, ◌∙◌, append_assoc, codes, string_bytes}
use Rattle.policy_text.specs.Printing.{entries_text, swap_entries, swap_text}
use Rattle.policy_text.proofs.Appending.{after_all}
use Rattle.policy_text.proofs.printing.put_swap.Goals as goal

pub returns-clause-text : goal.returns-clause-text
unfolding swap_text
returns-clause-text c =
    let before = string_bytes c.args.out.now in
    let entries = swap_entries c.args.slices.now c.args.swap.now in
    rw (c.in_ok-put_number16-2.ensures, c.in_ok-put_number16.ensures, c.in_ok-put_datapath.ensures.text, c.in_ok-put_text.ensures, c.in_ok-push_str.ensures.bytes, c.name_at.ensures)
    (after_all (before ++ codes "\n[[port]]\n") entries ∙ append_assoc before (codes "\n[[port]]\n") (entries_text entries))
