use Rattle.std.proofs.Common.{arith}
use Rattle.std.proofs.lemmas.List.{take_all}
use Rattle.of10_model.specs.Spelling.{Spell}
use Rattle.of10_match.proofs.Written.{written}
use Rattle.of10_match.proofs.writing.spell.Goals as goal

pub returns : goal.returns
unfolding Spell
returns c =
    written c.put_word.new.out c.put_field.new.out c.put_address.new.out c.put_address-2.new.out c.put_field-2.new.out c.put_small.new.out c.put_small-2.new.out c.put_field-3.new.out
    c.put_small-3.new.out c.put_small-4.new.out c.put_field-4.new.out c.put_prefix.new.out c.put_prefix-2.new.out c.put_field-5.new.out c.put_field-6.new.out
    _ _ _ _ _ _ _ _ _ _ _ _ _ _ _
    c.put_word.ensures c.put_field.ensures c.put_address.ensures c.put_address-2.ensures c.put_field-2.ensures c.put_small.ensures c.put_small-2.ensures c.put_field-3.ensures
    c.put_small-3.ensures c.put_small-4.ensures c.put_field-4.ensures c.put_prefix.ensures c.put_prefix-2.ensures c.put_field-5.ensures c.put_field-6.ensures
    (take_all 40 c.put_field-6.new.out (omega arith))
