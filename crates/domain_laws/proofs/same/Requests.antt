-- Requests on tables that say the same: an attached user asks in both, or in neither; what is done sends the same. Assumes nothing.
use Rattle.std.specs.Prelude.{if◌then◌else◌}
use mathlib.Core.Path.{◌≡◌, refl, sym, ap, ◌∙◌}
use mathlib.Core.Bool.{Bool, true, false, not, true≢false, false≢true}
use mathlib.Core.List.{List}
use Prim.Native.Nat.{ℕ, zero, suc, ◌<◌}
use native.Mathlib.Omega.{arith}
use lib.Dec.{eqb}
use lib.ListN.{get_or}
use borrow.Author.Tests.{eqb-true, eqb-false, ne_eqb}
use Rattle.cols_spec.specs.Sets.{member}
use Rattle.cols_spec.specs.Places.{Place, At, Nowhere, find, found, used, unused}
use Rattle.cols_spec.proofs.Bools.{and_parts, and_both}
use Rattle.cols_spec.proofs.Rows.{Apart, find_holds}
use Rattle.cols_spec.proofs.Answers.{stands_found, found_somewhere}
use Rattle.cols_spec.proofs.Turns.{unused_here, unused_later}
use Rattle.cols_spec.proofs.Members.{member_at, member_where}
use Rattle.out_records.specs.Records.{Sent}
use Rattle.domain.specs.Tables.{Users, link, attached}
use Rattle.domain.specs.Effects.{Effect, ignored, done, from, within}
use Rattle.domain.proofs.invariant.Tests.{apart_distinct}
use Rattle.domain.proofs.holders.Counting.{in_use, count_ids, count_same}
use Rattle.domain_laws.proofs.same.Twins.{bool_ext, Twins, Where, there, nowhere, where_is}

-- two effects: both ignored, or both done with the same records, and what they leave is related
pub data Both {A B : Type 0} (R : A → B → Type 0) : Effect A → Effect B → Type 0 where
  skip : Both R ignored ignored
  both : {a : A} {b : B} {rs ss : List Sent} → rs ≡ ss → R a b → Both R (done a rs) (done b ss)

-- what they leave becomes part of the tables
pub both_within : {A B C D : Type 0} {R : A → B → Type 0} (S : (C → D → Type 0)) (f : (A → C)) (g : (B → D)) → ((a : A) (b : B) → R a b → S (f a) (g b))
    → {x : Effect A} {y : Effect B} → Both R x y → Both S (within f x) (within g y)
unfolding within
both_within S f g h skip = skip
both_within S f g h (both {a} {b} e r) = both e (h a b r)

-- what a request does where its user is found
module _ {A : Type 0} (us : Users) (p u : ℕ) (act : ℕ → Effect A) where
  from_there : (i : ℕ) → find us.ids u ≡ At i → from us p u act ≡ (if eqb (link us i) p then act i else ignored)
  unfolding from attached
  from_there i e = ap (λ (w : Place). elim (elim w as (λ (_ : Place). Place) [ At i ↦ if eqb (link us i) p then At i else Nowhere | Nowhere ↦ Nowhere ]) as (λ (_ : Place). Effect A) [ At i ↦ act i | Nowhere ↦ ignored ]) e
      ∙ go (eqb (link us i) p)
    where
      go : (b : Bool) → (elim (if b then At i else Nowhere) as (λ (_ : Place). Effect A) [ At i ↦ act i | Nowhere ↦ ignored ]) ≡ (if b then act i else ignored)
      go true = refl
      go false = refl

  from_nowhere : find us.ids u ≡ Nowhere → from us p u act ≡ ignored
  unfolding from attached
  from_nowhere e = ap (λ (w : Place). elim (elim w as (λ (_ : Place). Place) [ At i ↦ if eqb (link us i) p then At i else Nowhere | Nowhere ↦ Nowhere ]) as (λ (_ : Place). Effect A) [ At i ↦ act i | Nowhere ↦ ignored ]) e

-- a request by user u from p: ignored in both, or made by one user in both
pub from_both : {A B : Type 0} (R : (A → B → Type 0)) (us vs : Users) → Twins us vs → (p u : ℕ) (f : (ℕ → Effect A)) (g : (ℕ → Effect B))
    → ((i j : ℕ) → find us.ids u ≡ At i → find vs.ids u ≡ At j → link us i ≡ p → link vs j ≡ p → Both R (f i) (g j))
    → Both R (from us p u f) (from vs p u g)
from_both R us vs t p u f g h = go (where_is us vs t u)
  where
    on : (i j : ℕ) → find us.ids u ≡ At i → find vs.ids u ≡ At j → link us i ≡ link vs j → (b : Bool) → eqb (link us i) p ≡ b
        → Both R (if b then f i else ignored) (if b then g j else ignored)
    on i j e k l true q = h i j e k (eqb-true (link us i) p q) (sym l ∙ eqb-true (link us i) p q)
    on i j e k l false q = skip

    go : Where us vs u → Both R (from us p u f) (from vs p u g)
    go (there {i} {j} e k l) = rw (from_there us p u f i e, from_there vs p u g j k, ← l) (on i j e k l (eqb (link us i) p) refl)
    go (nowhere e k) = rw (from_nowhere us p u f e, from_nowhere vs p u g k) skip

-- ---- ids in use

-- a listed id is found, and the reverse
pub in_use_found : (ids : List ℕ) (k : ℕ) → in_use ids k ≡ found (find ids k)
unfolding found
in_use_found ids k = bool_ext (in_use ids k) (found (find ids k)) to_find from_find
  where
    to_find : in_use ids k ≡ true → found (find ids k) ≡ true
    to_find h =
        let r = and_parts (not (eqb k 0)) (member k ids) h in
        let w = member_where ids k r.1 in
        stands_found ids k w.0 (pos (eqb k 0) refl r.0) w.1
      where
        pos : (b : Bool) → eqb k 0 ≡ b → not b ≡ true → 0 < k
        pos true e q = absurd (false≢true q)
        pos false e q = omega (arith, eqb-false k 0 e)

    from_find : found (find ids k) ≡ true → in_use ids k ≡ true
    from_find h =
        let w = found_somewhere (find ids k) h in
        let r = find_holds ids k w.0 w.1 in
        and_both (ap not (ne_eqb k 0 (λ e. omega (arith, r.2, e)))) (rw r.0 at (member_at ids w.0 r.1))

differ : (i : ℕ) → found (At i) ≡ found Nowhere → ⊥
unfolding found
differ i e = true≢false e

-- ids that are all below n
pub ids_under : (xs : List ℕ) (n : ℕ) → 0 < n → ((i : ℕ) → 0 < get_or xs i 0 → get_or xs i 0 < n) → (k : ℕ) → member k xs ≡ true → k < n
ids_under xs n nz f k h = let w = member_where xs k h in go (eqb k 0) refl w.0 w.1
  where
    go : (b : Bool) → eqb k 0 ≡ b → (j : ℕ) → get_or xs j 0 ≡ k → k < n
    go true e j q = omega (arith, nz, eqb-true k 0 e)
    go false e j q = rw q at (f j (omega (arith, q, eqb-false k 0 e)))

module _ (ids ids' : List ℕ) (same : (k : ℕ) → found (find ids k) ≡ found (find ids' k)) where
  -- as many are in use
  pub used_same : Apart ids → Apart ids' → (n : ℕ) → ((i : ℕ) → 0 < get_or ids i 0 → get_or ids i 0 < n) → ((i : ℕ) → 0 < get_or ids' i 0 → get_or ids' i 0 < n) → 0 < n → used ids ≡ used ids'
  used_same a b n l m nz =
      sym (count_ids n ids (apart_distinct ids a) (ids_under ids n nz l)) ∙ count_same (in_use ids) (in_use ids') (λ k. in_use_found ids k ∙ same k ∙ sym (in_use_found ids' k)) n
      ∙ count_ids n ids' (apart_distinct ids' b) (ids_under ids' n nz m)

  -- the lowest free id is the same
  pub unused_same : (n x : ℕ) → unused n ids x ≡ unused n ids' x
  unfolding unused
  unused_same zero x = refl
  unused_same (suc n) x = go (find ids x) refl (find ids' x) refl (unused_same n (suc x))
    where
      go : (v : Place) → find ids x ≡ v → (w : Place) → find ids' x ≡ w → unused n ids (suc x) ≡ unused n ids' (suc x) → unused (suc n) ids x ≡ unused (suc n) ids' x
      go (At i) e (At j) f rec = unused_later n ids x i e ∙ rec ∙ sym (unused_later n ids' x j f)
      go (At i) e Nowhere f rec = absurd (differ i (ap found (sym e) ∙ same x ∙ ap found f))
      go Nowhere e (At j) f rec = absurd (differ j (sym (ap found (sym e) ∙ same x ∙ ap found f)))
      go Nowhere e Nowhere f rec = unused_here n ids x e ∙ sym (unused_here n ids' x f)
