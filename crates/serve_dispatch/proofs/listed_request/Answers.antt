use Rattle.std.specs.Prelude.{if◌then◌else◌}
use mathlib.Core.Logic.{◌⊎◌, inl, inr}
use mathlib.Core.Path.{◌≡◌, refl, sym, ◌∙◌}
use mathlib.Core.Bool.{Bool, true, false}
use mathlib.Core.List.{List}
use Prim.Native.Nat.{ℕ, ◌%◌}
use native.Mathlib.Nat.{min-le_left, min-le_right}
use native.Mathlib.Omega.{arith}
use borrow.Author.Tests.{ne_eqb}
use lib.Dec.{eqb}
use lib.ListN.{length, take, length-take}
use lib.Seq.{take_all}
use Rattle.cols_spec.proofs.Firsts.{take_least}
use Rattle.codec_table.specs.Named.{CArq, CErq}
use Rattle.domain.specs.Tables.{Domain, grant}
use Rattle.domain.specs.Leaving.{detach, close}
use Rattle.domain.specs.Effects.{settle}
use Rattle.domain.specs.Events.{act}
use Rattle.domain_tables.specs.Held.{domain_in}
use Rattle.domain.proofs.Effects.{delivers_none}
use Rattle.serve_read.specs.Requests.{listed_request}
use Rattle.serve_dispatch.proofs.listed_request.Goals as goal
use Rattle.serve_dispatch.proofs.listed_request.Goals.{then-number-eq21, else-number-eq21, then-is_detach, else-is_detach}

-- 21 admits those listed, and 23 expels them
admits : (n a b : ℕ) (ids : List ℕ) → n ≡ 21 → listed_request n a b ids ≡ CArq a b ids
unfolding listed_request
admits n a b ids e = rw e refl

expels : (n a b : ℕ) (ids : List ℕ) → (n ≡ 21) ⊎ (n ≡ 23) → (n ≡ 21 → ⊥) → listed_request n a b ids ≡ CErq a b ids
unfolding listed_request
expels n a b ids (inl e) z = absurd (z e)
expels n a b ids (inr e) z = rw e refl

-- any other number leaves: 12 those listed, and all others the connection
leaves : (new : ℕ) (d : Domain) (p n a b : ℕ) (ids : List ℕ) → (n ≡ 1 → ⊥) → (n ≡ 16 → ⊥) → (n ≡ 21 → ⊥) → (n ≡ 23 → ⊥)
    → act new d p (listed_request n a b ids) ≡ (if eqb n 12 then detach d p (a % 8 % 8) ids else close d p)
unfolding listed_request act
leaves new d p n a b ids e1 e16 e21 e23 = go (eqb n 12) refl
  where
    z : a % 8 % 8 ≡ a % 8
    z = omega arith

    go : (t : Bool) → eqb n 12 ≡ t → act new d p (listed_request n a b ids) ≡ (if eqb n 12 then detach d p (a % 8 % 8) ids else close d p)
    go true q = rw (q, z, ne_eqb n 1 e1) refl
    go false q = rw (q, ne_eqb n 1 e1, ne_eqb n 16 e16, ne_eqb n 21 e21, ne_eqb n 23 e23) refl

pub returns-in-1 : goal.returns-in-1
unfolding listed_request act settle
returns-in-1 c = rw c.in-1.is (delivers_none 0 _ _ _)

pub returns-in-16 : goal.returns-in-16
unfolding listed_request
returns-in-16 c = let l = c.args.listed.now in
    rw c.in-16.is (rw (take_least l c.args.count 64 c.min-n.result (sym c.told-listed) c.min-n.ensures) at c.leave_channels.ensures)

pub returns-after-number-eq21 : goal.returns-after-number-eq21
returns-after-number-eq21 c =
    let a = c.args in
    let l = a.listed.now in
    let r = c.min-n.result in
    let few = take_all 64 (take r l) (omega (arith, length-take r l, min-le_left r (length l), min-le_right a.count 64, c.min-n.ensures)) in
    let e = few ∙ take_least l a.count 64 r (sym c.told-listed) c.min-n.ensures in
    elim c.if-number-eq21.branch [
      | then-number-eq21 w ↦ rw (admits _ a.first a.second _ w.if-number-eq21.true) (rw (e, w.s-is) at c.revise.ensures)
      | else-number-eq21 w ↦ rw (expels _ a.first a.second _ c.in-21.is w.if-number-eq21.false) (rw (e, w.s-is) at c.revise.ensures)
    ]

pub returns-after-is_detach : goal.returns-after-is_detach
returns-after-is_detach c =
    let a = c.args in
    let r = c.in_default.in_default-own.rest in
    rw (leaves (grant (domain_in a.d.now).channels)
    (domain_in a.d.now)
    a.p a.number a.first a.second (take a.count a.listed.now) r.0.0.1 r.0.1 (λ e. r.1 (inl e)) (λ e. r.1 (inr e)))
    (elim c.if-is_detach.branch [
      | then-is_detach w ↦ rw w.if-is_detach.true (rw w.departure-is at c.depart.ensures)
      | else-is_detach w ↦ rw (ne_eqb a.number 12 w.if-is_detach.false) (rw w.departure-is at c.depart.ensures)
    ])
