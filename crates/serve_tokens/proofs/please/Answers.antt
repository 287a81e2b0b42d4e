use mathlib.Core.Path.{◌≡◌}
use native.Mathlib.Omega.{arith}
use lib.ListN.{length}
use Rattle.codec_table.specs.Named.{TPin}
use Rattle.domain.specs.Passing.{please}
use Rattle.domain_tables.specs.Held.{users_in}
use Rattle.serve_tokens.proofs.Settling.{asks_done, all_told}
use borrow.Author.Rules.{rules}
use Rattle.serve_tokens.proofs.please.Goals as goal

pub returns : goal.returns
unfolding please
returns c = λ ts p i is here. let a = c.args in
    let m = c.please_indication-m in
    let l : length m.result ≡ 5 = search rules in
    asks_done (users_in a.users.now) p a.u _ i here ts a.out.now
    (rw (c.hosts-mask.ensures, c.party.ensures, is) at (all_told ts (TPin a.u a.k) a.out.now m.ensures (omega arith) _ c.tell.ensures))
