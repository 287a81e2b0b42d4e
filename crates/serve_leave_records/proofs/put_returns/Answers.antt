-- What the ids above the last one bring is still to come.
use native.Mathlib.Nat.{sub-zero}
use native.Mathlib.Omega.{arith}
use lib.ListN.{length}
use borrow.Author.Rules.{rules}
use Rattle.out_records.proofs.Laying.{onward_start, onward_step, onward_end}
use Rattle.domain_tables.specs.Held.{users_in, tokens_in}
use Rattle.serve_leave_records.specs.Parts.{return_at}
use Rattle.serve_leave_records.proofs.Rounds.{coming_next, coming_end, coming_none}
use Rattle.serve_leave_records.proofs.Parts.{returns_length}
use Rattle.serve_leave_records.proofs.Quiet.{returns_coming}
use Rattle.serve_leave_records.proofs.put_returns.Goals as goal

pub ids-init : goal.ids-init
ids-init c = let a = c.args in
    let ts = a.tokens.now in
    record { few = search rules; laid = rw (sub-zero (length ts.ids), returns_coming (users_in a.users.now) ts.ids ts.states ts.values a.gone) (onward_start _ _ _) }

pub returns-then-k-eq0 : goal.returns-then-k-eq0
returns-then-k-eq0 c = let a = c.args in
    let f = return_at (users_in a.users.now) (tokens_in a.tokens.now) a.gone in
    let p = onward_end c.ids.invariant.laid (coming_end f _ _ c.next_where-k.result c.next_where-k.ensures _ c.if-k-eq0.true) in
    (p, omega (arith, p.next, returns_length (users_in a.users.now) (tokens_in a.tokens.now) a.gone c.ids.invariant.few))

pub put_returned-at-requires : goal.put_returned-at-requires
put_returned-at-requires c = let a = c.args in
    omega (arith, c.ids.invariant.laid.next, returns_length (users_in a.users.now) (tokens_in a.tokens.now) a.gone c.ids.invariant.few)

pub ids-preserved : goal.ids-preserved
ids-preserved c = let a = c.args in
    let b = c.ids in
    let f = return_at (users_in a.users.now) (tokens_in a.tokens.now) a.gone in
    record {
      few = b.invariant.few;
      laid = onward_step _ _ b.invariant.laid (coming_next f _ _ c.next_where-k.result c.next_where-k.ensures _ _ (omega arith) c.if-k-eq0.false) (rw c.state.ensures at c.put_returned-at.ensures);
    }

pub returns : goal.returns
returns c = let a = c.args in
    let f = return_at (users_in a.users.now) (tokens_in a.tokens.now) a.gone in
    let p = onward_end c.ids.invariant.laid (coming_none f _ _ _ (omega arith)) in
    (p, omega (arith, p.next, returns_length (users_in a.users.now) (tokens_in a.tokens.now) a.gone c.ids.invariant.few))
