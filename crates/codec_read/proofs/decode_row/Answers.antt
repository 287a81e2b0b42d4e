use mathlib.Core.Path.{◌∙◌}
use Rattle.codec_table.proofs.ColumnLaws.{count_at_lem}
use Rattle.codec_read.proofs.HeldLaws.{refused_is, reads_as}
use Rattle.codec_read.proofs.RowLaws.{on_no}
use borrow.Author.Rules.{rules}
use Rattle.codec_read.proofs.decode_row.Goals as goal

pub returns-in_err-more : goal.returns-in_err-more
returns-in_err-more c = search (rules, refused_is, on_no)

pub decode_body-requires : goal.decode_body-requires
decode_body-requires c = let g = c.in_ok-more.ensures in (g.inside, search rules, rw (c.count_in-count.ensures ∙ count_at_lem _ _ c.entry_of-line.ensures) g.few, c.entry_of-line.ensures)

pub returns : goal.returns
returns c = reads_as _ _ _ c.decode_body.ensures (rw (c.count_in-count.ensures ∙ count_at_lem _ _ c.entry_of-line.ensures) c.in_ok-more.ensures.same)
