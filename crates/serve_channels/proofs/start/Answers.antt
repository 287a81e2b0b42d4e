use mathlib.Core.Path.{sym, ap, ◌∙◌}
use Rattle.domain.specs.Cells.{channel_of}
use Rattle.domain.specs.Tables.{add_channel}
use Rattle.serve_reply.proofs.Sending.{did_refuse, did}
use Rattle.serve_channels.proofs.start.Goals as goal

pub returns-then-refused : goal.returns-then-refused
returns-then-refused c = did_refuse _ _ c.confirm-a.ensures _ _ (sym c.refused.ensures ∙ c.if-refused.true)

pub returns : goal.returns
returns c = did _ _ c.confirm-a.ensures _ _ _ (c.add.ensures ∙ ap (add_channel _ _) (c.new_channel-ch.ensures ∙ ap (channel_of c.args.k) c.only.ensures)) (sym c.refused.ensures ∙ c.if-refused.false)
