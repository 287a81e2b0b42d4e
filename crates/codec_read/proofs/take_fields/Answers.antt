use mathlib.Core.Path.{◌∙◌}
use borrow.Author.Rules.{rules}
use Rattle.codec_table.proofs.ColumnLaws.{kind_at_lem}
use Rattle.codec_read.proofs.Loop.{sofar_none, fields_no, fields_more, fields_all}
use Rattle.codec_read.proofs.take_fields.Goals as goal

pub loop-i-init : goal.loop-i-init
loop-i-init c = search (rules, sofar_none)

pub returns-in_err-g : goal.returns-in_err-g
returns-in_err-g c = search (rules, fields_no, kind_at_lem)

pub loop-i-preserved : goal.loop-i-preserved
loop-i-preserved c = fields_more _ c.loop-i.invariant (search rules) c.loop-i-test.true _ (c.kind_in.ensures ∙ kind_at_lem _ _ c.requires.3 _) _ c.in_ok-g.ensures

pub returns : goal.returns
returns c = fields_all _ c.loop-i.invariant (search rules) c.loop-i-test.false
