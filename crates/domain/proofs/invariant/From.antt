-- A request by an attached user: who asks is seated, on that connection. Assumes nothing.
use Rattle.std.specs.Prelude.{if◌then◌else◌}
use mathlib.Core.Path.{◌≡◌, refl, ◌∙◌}
use mathlib.Core.Bool.{Bool, true, false}
use Prim.Native.Nat.{ℕ}
use native.Mathlib.Omega.{arith}
use lib.Dec.{eqb}
use lib.ListN.{get_or}
use borrow.Author.Tests.{eqb-true}
use Rattle.cols_spec.specs.Places.{Place, At, Nowhere, find}
use Rattle.cols_spec.proofs.Rows.{find_holds, get_d_any}
use Rattle.domain.specs.Tables.{Users, Domain, link, attached}
use Rattle.domain.specs.Effects.{Effect, ignored, from, within}
use Rattle.domain.proofs.invariant.Sound.{Seated, Sound, Fine}

module _ {A : Type 0} where
  -- whatever is said of effects: it is enough where u is found, on p
  pub from_by : (F : (Effect A → Type 0)) → F ignored → (us : Users) (p u : ℕ) (act : (ℕ → Effect A))
      → ((i : ℕ) → find us.ids u ≡ At i → link us i ≡ p → F (act i)) → F (from us p u act)
  unfolding from attached
  from_by F z us p u act f = go (find us.ids u) refl
    where
      on : (i : ℕ) → find us.ids u ≡ At i → (b : Bool) → eqb (link us i) p ≡ b
          → F (elim (if b then At i else Nowhere) as (λ (_ : Place). Effect A) [ At i ↦ act i | Nowhere ↦ ignored ])
      on i q true r = f i q (eqb-true (link us i) p r)
      on i q false r = z

      go : (x : Place) → find us.ids u ≡ x
          → F (elim (elim x as (λ (_ : Place). Place) [ At i ↦ if eqb (link us i) p then At i else Nowhere | Nowhere ↦ Nowhere ]) as (λ (_ : Place). Effect A) [ At i ↦ act i | Nowhere ↦ ignored ])
      go (At i) q = on i q (eqb (link us i) p) refl
      go Nowhere q = z

-- user u is at place i, on connection p
pub record Sits (us : Users) (p u i : ℕ) : Type 0 where
  pub is : get_or us.ids i 0 ≡ u
  pub seated : Seated us i
  pub on : get_or us.at i 0 ≡ p

-- a request about some tables, put back into the domain by `put`: it is enough where who asks sits on p
pub from_fine : {A : Type 0} (put : (A → Domain)) (d : Domain) → Sound d → (p u : ℕ) (act : (ℕ → Effect A))
    → ((i : ℕ) → Sits d.users p u i → Fine (within put (act i))) → Fine (within put (from d.users p u act))
unfolding link within
from_fine put d s p u act f = from_by (λ x. Fine (within put x)) tt d.users p u act (λ i e l.
    let r = find_holds d.users.ids u i e in
    f i (record { is = r.0; seated = rw r.0 r.2; on = get_d_any d.users.at i 0 16 (omega (arith, r.1, s.users_are.ids_size, s.users_are.cells_size)) ∙ l }))
