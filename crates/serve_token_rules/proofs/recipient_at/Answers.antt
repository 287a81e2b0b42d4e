use mathlib.Core.Path.{◌≡◌, sym}
use native.Mathlib.Omega.{arith}
use lib.ListN.{length}
use Rattle.cols_spec.proofs.Answers.{find_at, find_nowhere}
use borrow.Author.Rules.{rules}
use Rattle.serve_token_rules.proofs.recipient_at.Goals as goal

pub returns-then-j-lt64 : goal.returns-then-j-lt64
returns-then-j-lt64 c =
    let a = c.args in
    let l : length a.users.now.ids ≡ 64 = search rules in
    rw (← c.has_grabbed.ensures, c.if-not-has_grabbed.false) (sym (find_at a.users.now.ids a.recipient c.find-j.result c.find-j.ensures (omega arith)))

pub returns-else-j-lt64 : goal.returns-else-j-lt64
returns-else-j-lt64 c =
    let a = c.args in
    let l : length a.users.now.ids ≡ 64 = search rules in
    rw (← c.has_grabbed.ensures, c.if-not-has_grabbed.false) (sym (find_nowhere a.users.now.ids a.recipient c.find-j.result c.find-j.ensures (omega arith)))
