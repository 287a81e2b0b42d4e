use mathlib.Core.Path.{◌∙◌}
use Rattle.codec_table.proofs.ColumnLaws.{tail_at_lem}
use borrow.Author.Rules.{rules}
use Rattle.codec_read.proofs.HeldLaws.{refused_is}
use Rattle.codec_read.proofs.BodyLaws.{body_no, body_pad, body_tail_no, body_over, body_is}
use Rattle.codec_read.proofs.decode_body.Goals as goal

pub returns-in_err-f : goal.returns-in_err-f
returns-in_err-f c = search (rules, refused_is, body_no)

pub returns-then-not-is_clear : goal.returns-then-not-is_clear
returns-then-not-is_clear c = refused_is _ _ _ (body_pad _ _ _ _ _ c.in_ok-f.ensures _ c.bits_at-is_clear.ensures.0 c.if-not-is_clear.true)

pub returns-in_err-t : goal.returns-in_err-t
returns-in_err-t c = search (rules, refused_is, body_tail_no, tail_at_lem)

pub returns-then-not-is_whole : goal.returns-then-not-is_whole
returns-then-not-is_whole c =
    refused_is _ _ _ (body_over _ _ _ _ _ c.in_ok-f.ensures _ c.bits_at-is_clear.ensures.0 c.if-not-is_clear.false _ (c.tail_in.ensures ∙ tail_at_lem _ _ c.requires.3) _ _ _ c.in_ok-t.ensures c.if-not-is_whole.true)

pub returns : goal.returns
returns c = body_is _ _ _ _ _ c.in_ok-f.ensures _ c.bits_at-is_clear.ensures.0 c.if-not-is_clear.false _ (c.tail_in.ensures ∙ tail_at_lem _ _ c.requires.3) _ _ _ c.in_ok-t.ensures c.if-not-is_whole.false
