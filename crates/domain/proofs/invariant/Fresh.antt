-- A fresh domain is good. Assumes nothing.
use mathlib.Core.Path.{refl}
use lib.Dec.{leb-zero}
use Rattle.domain.specs.Claims.{GoodFresh}
use Rattle.domain.proofs.Opened.{opened}

-- every test computes, for any limits in range
pub fresh_good : GoodFresh
unfolding opened
fresh_good l h = record {
  limits_ok = h;
  shape_ok = refl;
  users_ok = refl;
  channels_ok = refl;
  tokens_ok = refl;
  counts_ok = simp leb-zero;
  blank_ok = refl;
}
