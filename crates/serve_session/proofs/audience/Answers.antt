use Prim.Native.Nat.{ℕ}
use mathlib.Core.Path.{◌≡◌, sym, ap, ◌∙◌}
use lib.ListN.{length}
use native.Mathlib.Omega.{arith}
use Rattle.cols_spec.specs.Sets.{listed, connections}
use Rattle.serve_session.proofs.Heard.{audience_at, audience_none}
use Rattle.serve_session.proofs.audience.Goals as goal

-- the links of a mask, by its number
counted : {r k m : ℕ} → r ≡ length (listed connections k) → k ≡ m → r ≡ length (listed connections m)
counted e same = e ∙ ap (λ q. length (listed connections q)) same

pub returns-in-Some : goal.returns-in-Some
returns-in-Some c = let a = c.args in
    audience_at a.d.now.channels.ids _ a.c _ _ _ (sym c.in-Some.ensures) c.at.ensures (counted c.count_links.ensures (omega arith))

pub returns-in-None : goal.returns-in-None
returns-in-None c = let a = c.args in
    audience_none a.d.now.channels.ids _ a.c (sym c.in-None.ensures)
