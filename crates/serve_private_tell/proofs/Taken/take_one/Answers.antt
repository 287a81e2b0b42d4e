-- Where the id is found, counts and is new it is taken; it goes to a place that is passed.
use mathlib.Core.Path.{sym, ◌∙◌}
use native.Mathlib.Omega.{arith}
use Rattle.cols_spec.proofs.Answers.{find_at, find_nowhere}
use Rattle.cols_spec.proofs.Rows.{get_d_any}
use Rattle.domain.specs.Tables.{link}
use Rattle.serve_private_tell.proofs.Sieving.{pass_nowhere, pass_uncounted, pass_seen, store_new}
use borrow.Author.Rules.{rules}
use Rattle.serve_private_tell.proofs.Taken.take_one.Goals as goal

pub returns-then-not-has-clause-takes : goal.returns-then-not-has-clause-takes
unfolding link
returns-then-not-has-clause-takes c = let a = c.args in
    let r = c.find-j in
    let s = c.add_share.ensures in
    λ passed t. rw s.spots (store_new a.list.now a.self.now.count t _ r.result (find_at a.users.now.ids _ r.result r.ensures (search rules)) (omega arith) (sym c.counts.ensures ∙ c.if-counts.true) (sym c.has.ensures ∙ c.if-not-has.true) (omega arith) (omega arith) (search rules) (search rules) _ (get_d_any a.users.now.links r.result 0 16 (search rules)) _ _ _ s.shares s.firsts (rw s.seats at c.with-self.ensures))

pub returns-else-not-has-clause-takes : goal.returns-else-not-has-clause-takes
returns-else-not-has-clause-takes c = let r = c.find-j in
    λ passed t. pass_seen t _ r.result (find_at c.args.users.now.ids _ r.result r.ensures (search rules)) (omega arith) (sym c.counts.ensures ∙ c.if-counts.true) (sym c.has.ensures ∙ c.if-not-has.false)

pub returns-else-counts-clause-takes : goal.returns-else-counts-clause-takes
returns-else-counts-clause-takes c = let r = c.find-j in
    λ passed t. pass_uncounted t _ r.result (find_at c.args.users.now.ids _ r.result r.ensures (search rules)) (omega arith) (sym c.counts.ensures ∙ c.if-counts.false)

pub returns-else-j-lt64-clause-takes : goal.returns-else-j-lt64-clause-takes
returns-else-j-lt64-clause-takes c = let r = c.find-j in
    λ passed t. pass_nowhere t _ (find_nowhere c.args.users.now.ids _ r.result r.ensures (search rules))
