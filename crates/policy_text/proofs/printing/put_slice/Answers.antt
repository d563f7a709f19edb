use Rattle.std.proofs.Common.{◌++◌, ◌∙◌, append_assoc, codes, string_bytes}
use Rattle.policy_text.specs.Printing.{entries_text, slice_entries, slice_text}
use Rattle.policy_text.proofs.Appending.{after_all}
use Rattle.policy_text.proofs.printing.put_slice.Goals as goal

pub returns : goal.returns
unfolding slice_text
returns c =
    let before = string_bytes c.args.out.now in
    let entries = slice_entries c.args.slice.now in
    rw (c.in_ok-put_unless-3.ensures, c.in_ok-put_unless-2.ensures, c.in_ok-put_unless.ensures, c.in_ok-put_text-2.ensures, c.in_ok-put_text.ensures, c.in_ok-push_str.ensures.bytes, c.as_str.ensures, c.as_str-2.ensures)
    (after_all (before ++ codes "\n[[slice]]\n") entries ∙ append_assoc before (codes "\n[[slice]]\n") (entries_text entries))
