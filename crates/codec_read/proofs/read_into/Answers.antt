use mathlib.Core.Path.{sym}
use Rattle.codec_read.proofs.HeldLaws.{refused_is, reads_as}
use Rattle.codec_read.proofs.RowLaws.{decode_none, decode_over, decode_no, number_left, decode_is}
use borrow.Author.Rules.{rules}
use Rattle.codec_read.proofs.read_into.Goals as goal

pub returns-then-s-eq0 : goal.returns-then-s-eq0
returns-then-s-eq0 c = search (rules, refused_is, decode_none)

pub returns-then-s-gt-MESSAGE_LIMIT : goal.returns-then-s-gt-MESSAGE_LIMIT
returns-then-s-gt-MESSAGE_LIMIT c = search (rules, refused_is, decode_over)

pub returns-in_err-number : goal.returns-in_err-number
returns-in_err-number c = search (rules, refused_is, decode_no)

pub decode_row-requires : goal.decode_row-requires
decode_row-requires c = (c.in_ok-number.ensures.inside, search rules, number_left _ c.if-s-eq0.false c.if-s-gt-MESSAGE_LIMIT.false _ c.in_ok-number.ensures)

pub returns : goal.returns
returns c = reads_as _ _ _ c.decode_row.ensures (sym (decode_is _ c.if-s-eq0.false c.if-s-gt-MESSAGE_LIMIT.false _ c.in_ok-number.ensures))
