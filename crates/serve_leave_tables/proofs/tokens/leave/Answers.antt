-- The loop goes from one place in use to the next.
use Prim.Native.Nat.{◌+◌}
use native.Mathlib.Omega.{arith}
use borrow.Author.Rules.{rules}
use mathlib.Core.Path.{ap, ◌∙◌}
use Rattle.cols_spec.proofs.Busy.{busy_is}
use Rattle.cols_spec.proofs.Sweeps.{sweeps_next, sweeps_step}
use Rattle.domain.specs.Cells.{no_token}
use Rattle.domain.specs.Tokens.{lose}
use Rattle.domain_tables.specs.Held.{tokens_in}
use Rattle.serve_leave_tables.specs.Fates.{loses}
use Rattle.serve_leave_tables.proofs.StoreLaws.{token_turns, tokens_start, tokens_swept}
use Rattle.serve_leave_tables.proofs.tokens.leave.Goals as goal

pub loop-j-init : goal.loop-j-init
loop-j-init c = let ts = c.args.tokens.now in
    record {
      in_use = λ h. (busy_is ts.ids 0 _ c.used_from-j.ensures).in_use (omega arith);
      swept = (sweeps_next no_token (loses _) (tokens_start c.args.gone ts.ids ts.states ts.values (search rules) (search rules) (search rules)) _ c.used_from-j.ensures).1;
    }

pub loop-j-smaller : goal.loop-j-smaller
loop-j-smaller c = omega (arith, (busy_is c.put_at.new.self.ids (c.loop-j.j + 1) _ c.used_from-j-in-loop-j.ensures).behind (omega arith))

pub loop-j-preserved : goal.loop-j-preserved
loop-j-preserved c =
    let b = c.loop-j in
    let h = c.lose-h.ensures ∙ ap (lose c.args.gone) c.state_at.ensures in
    let turn = token_turns c.args.gone b.j (tokens_in b.tokens) (λ e. omega (arith, b.invariant.in_use)) (tokens_in c.put_at.new.self) c.lose-h.result h (rw c.from.ensures at c.put_at.ensures) in
    record {
      in_use = λ h. (busy_is c.put_at.new.self.ids _ _ c.used_from-j-in-loop-j.ensures).in_use (omega arith);
      swept = (sweeps_step no_token (loses _) b.invariant.swept (search rules) turn _ c.used_from-j-in-loop-j.ensures).1;
    }

pub returns : goal.returns
returns c = tokens_swept _ _ _ _ _ _ _ _ c.loop-j.invariant.swept (search rules)
