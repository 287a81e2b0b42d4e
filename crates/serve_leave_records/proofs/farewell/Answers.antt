use Rattle.domain_tables.specs.Held.{domain_in}
use Rattle.serve_leave_records.proofs.Parts.{farewell_put}
use Rattle.serve_leave_records.proofs.farewell.Goals as goal

pub returns-clause-told : goal.returns-clause-told
returns-clause-told c = let a = c.args in farewell_put (domain_in a.d.now) a.gone a.live a.reason _ c.put_first-a.ensures.0 c.put_any_ends-b.ensures.0 c.put_any_returns.ensures.0
