use Rattle.codec_write_fast.proofs.TerseLaws.{number_small, seven_stored}
use borrow.Author.Rules.{rules}
use Rattle.codec_write_fast.proofs.put_confirm.Goals as goal

pub overflow_mul-out : goal.overflow_mul-out
overflow_mul-out c = let h = number_small c.requires in search rules

pub overflow_add-out : goal.overflow_add-out
overflow_add-out c = let h = number_small c.requires in search rules

pub overflow_cast-out : goal.overflow_cast-out
overflow_cast-out c = let h = number_small c.requires in search rules

pub returns : goal.returns
returns c = seven_stored c.args.out.now c.requires.has_room _ _ _ _ _ _ _
