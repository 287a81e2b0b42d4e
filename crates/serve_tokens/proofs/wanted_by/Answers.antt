use mathlib.Core.Path.{refl}
use native.Mathlib.Omega.{arith}
use borrow.Author.Tests.{ne_eqb, lt-ltb, le-ltb}
use Rattle.domain.specs.Events.{act, tokens_full}
use Rattle.serve_read.specs.Requests.{pass_request, token_request}
use Rattle.serve_tokens.proofs.wanted_by.Goals as goal

pub returns-in-41-to-4294967295 : goal.returns-in-41-to-4294967295
unfolding token_request pass_request act tokens_full
returns-in-41-to-4294967295 c = λ u k new d p. let n = c.args.number in
    rw (lt-ltb 40 n (omega arith)) refl

pub returns-in_default : goal.returns-in_default
unfolding token_request pass_request act tokens_full
returns-in_default c = λ u k new d p. let n = c.args.number in
    rw (le-ltb 40 n (omega arith), ne_eqb n 37 (λ e. omega arith), ne_eqb n 29 (λ e. omega arith), ne_eqb n 31 (λ e. omega arith), ne_eqb n 33 (λ e. omega arith), ne_eqb n 35 (λ e. omega arith)) refl
