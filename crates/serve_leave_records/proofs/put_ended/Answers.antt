use mathlib.Core.Path.{sym, ◌∙◌}
use Rattle.serve_leave_records.proofs.Parts.{ended_some, ended_none, ended_other}
use Rattle.serve_leave_records.proofs.put_ended.Goals as goal

pub returns-then-has : goal.returns-then-has
returns-then-has c = rw c.in-Private.is
    (ended_some _ _ _ _ _ _ (sym c.has.ensures ∙ c.if-has.true) c.disband_indication-m.ensures c.requires c.meet-told.result
    (rw (← c.with.ensures, ← c.hosts-held.ensures) c.meet-told.ensures) c.tell.ensures)

pub returns-else-has : goal.returns-else-has
returns-else-has c = rw c.in-Private.is (ended_none _ _ _ _ _ _ _ _ (sym c.has.ensures ∙ c.if-has.false))

pub returns-in_default : goal.returns-in_default
returns-in_default c = ended_other _ _ _ _ c.args.k c.in_default.not-Private _ _
