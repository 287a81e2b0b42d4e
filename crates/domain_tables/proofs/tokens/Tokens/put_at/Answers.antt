use mathlib.Core.Path.{refl, ap, sym, ◌∙◌}
use Rattle.cols_spec.specs.Places.{At, spare, store, found}
use native.Mathlib.Omega.{arith}
use borrow.Author.Rules.{rules}
use Rattle.domain_tables.specs.Held.{tokens_in, token_cells_in}
use Rattle.domain_tables.specs.Numbered.{placed}
use Rattle.domain_tables.proofs.TokenLaws.{set_free, set_held, stored, token_cells_few}
use Rattle.domain_tables.proofs.tokens.Tokens.put_at.Goals as goal
use Rattle.domain_tables.proofs.tokens.Tokens.put_at.Goals.{in-Some-place, in-None}

pub returns-in-Some : goal.returns-in-Some
unfolding store
returns-in-Some c = let a = c.args in
    set_free (tokens_in a.self.now) (placed a.place) a.k a.t c.store.new.self.ids (token_cells_in c.store.new.self) c.if-t-eq0.true
    (rw c.in-Some.is c.store.ensures.ids) (rw c.in-Some.is c.store.ensures.cells)

pub returns-in_default : goal.returns-in_default
unfolding store
returns-in_default c = let a = c.args in
    set_free (tokens_in a.self.now) (placed a.place) a.k a.t a.self.now.ids (token_cells_in a.self.now) c.if-t-eq0.true
    (rw c.in_default.is refl) (rw c.in_default.is refl)

pub returns : goal.returns
unfolding store found
returns c =
    let a = c.args in
    let s = c.store-2 in
    let held = set_held (tokens_in a.self.now) (placed a.place) a.k a.t s.new.self.ids (token_cells_in s.new.self) in
    elim c.match-place-2.branch [
      | in-Some-place w ↦ held (At c.match-place-2.j) (rw (w.in-Some-place.is, w.j-is) refl) c.if-t-eq0.false s.ensures.ids s.ensures.cells
      | in-None w ↦ held (spare a.self.now.ids) (rw w.in-None.is refl) c.if-t-eq0.false
          (s.ensures.ids ∙ stored (spare a.self.now.ids) a.self.now.ids _ _ a.k (w.j-is ∙ w.spare-j.ensures) (omega arith))
          (s.ensures.cells ∙ stored (spare a.self.now.ids) (token_cells_in a.self.now) _ _ a.t (w.j-is ∙ w.spare-j.ensures) (token_cells_few a.self.now.states a.self.now.values _ (search rules)))
    ]
