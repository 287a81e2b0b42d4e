use native.Mathlib.Omega.{arith}
use Rattle.serve_private_tell.proofs.Hearing.{put_user, put_no_user}
use borrow.Author.Rules.{rules}
use Rattle.serve_private_tell.proofs.put_one.Goals as goal

pub returns-then-counts : goal.returns-then-counts
returns-then-counts c = put_user _ _ c.if-counts.true (search rules) c.put_ids.ensures

pub returns : goal.returns
returns c = (put_no_user _ _ c.if-counts.false, omega arith)
