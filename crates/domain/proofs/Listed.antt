-- The places of listed users: the place at which a user is found is among them where the user is listed. Assumes nothing.
use mathlib.Core.Path.{◌≡◌, refl, sym, ap, ◌∙◌}
use mathlib.Core.List.{List}
use Prim.Native.Nat.{ℕ, ◌<◌}
use lib.Dec.{eqb}
use borrow.Author.Tests.{ne_eqb}
use Rattle.cols_spec.specs.Sets.{any, member, has}
use Rattle.cols_spec.specs.Places.{Place, At, Nowhere, find}
use Rattle.cols_spec.proofs.Below.{any_same}
use Rattle.cols_spec.proofs.Digits.{has_those}
use Rattle.cols_spec.proofs.Rows.{At≢Nowhere, same_place}
use Rattle.domain.specs.Tables.{Users}
use Rattle.domain.specs.Channels.{stands, places}

-- the place at which u is found is that of no other id
stands_is : (ids : List ℕ) (u i : ℕ) → find ids u ≡ At i → (v : ℕ) → stands i (find ids v) ≡ eqb u v
stands_is ids u i here v = go (find ids v) refl
  where
    go : (w : Place) → find ids v ≡ w → stands i w ≡ eqb u v
    go (At j) e = same_place ids v u j i e here
    go Nowhere e = sym (ne_eqb u v (λ q. At≢Nowhere (sym e ∙ ap (find ids) (sym q) ∙ here)))

pub places_has : (us : Users) (u i : ℕ) → find us.ids u ≡ At i → i < 64 → (ids : List ℕ) → has (places us ids) i ≡ member u ids
unfolding places member
places_has us u i here l ids =
    has_those 64 (λ j. any (λ v. stands j (find us.ids v)) ids) i l ∙ any_same (λ v. stands i (find us.ids v)) (eqb u) (stands_is us.ids u i here) ids
