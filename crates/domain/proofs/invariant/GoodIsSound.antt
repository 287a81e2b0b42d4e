-- `Good`'s tests and the rules place by place say the same. Assumes nothing.
use mathlib.Core.Path.{◌≡◌, refl}
use mathlib.Core.Bool.{true, and-eq-true_iff}
use Prim.Native.Nat.{◌^◌}
use lib.Dec.{eqb}
use borrow.Author.Tests.{eqb-true, leb-true, ltb-true, lt-ltb, le-leb}
use Rattle.cols_spec.proofs.Bools.{and_both}
use Rattle.domain.specs.Cells.{no_channel, no_token, token_of}
use Rattle.domain.specs.Tables.{Domain}
use Rattle.domain.specs.Good.{same_channel, same_token, users_sound, channels_sound, tokens_sound, counts_sound, free_blank, shaped, Good, good}
use Rattle.domain.proofs.invariant.Sound.{Sound}
use Rattle.domain.proofs.invariant.Tests.{table_of, rows_of, free_of, distinct_apart, apart_distinct}
use Rattle.domain.proofs.invariant.RowTests.{same_channel_is, is_same_channel, same_token_is, is_same_token, user_test, user_row, row_user, channel_test, channel_row, row_channel, token_test, token_row, row_token}

-- every test passes: every rule holds
pub good_sound : (d : Domain) → Good d → Sound d
unfolding shaped users_sound channels_sound tokens_sound counts_sound free_blank token_of
good_sound d g =
    let z = simp and-eq-true_iff at g.shape_ok in
    let u = simp and-eq-true_iff at g.users_ok in
    let c = simp and-eq-true_iff at g.channels_ok in
    let t = simp and-eq-true_iff at g.tokens_ok in
    let n = simp and-eq-true_iff at g.counts_ok in
    let b = simp and-eq-true_iff at g.blank_ok in
    let names = eqb-true _ 64 z.0.0.0.0.0.0 in
    let homes = eqb-true _ 64 z.0.0.0.0.0.1 in
    record {
      limits_ok = g.limits_ok;
      links_fit = ltb-true d.links (2 ^ 16) z.1;
      users_are = table_of (user_test d.links d.channels) (λ p. eqb p 0) names homes u.0 (leb-true _ _ n.0.0) u.1 b.0.0
          (λ i x p l. user_row d.links d.channels i x p) (λ p. eqb-true p 0);
      channels_are = table_of (channel_test d.users d.links) (λ ch. same_channel ch no_channel)
          (eqb-true _ 128 z.0.0.0.0.1) (eqb-true _ 128 z.0.0.0.1) c.0 (leb-true _ _ n.0.1) c.1 b.0.1
          (λ j x ch l. channel_row d.users d.links names homes (distinct_apart d.users.ids u.0) j x ch) (λ ch. same_channel_is ch no_channel);
      tokens_are = table_of (token_test d.users) (λ t. same_token t no_token)
          (eqb-true _ 64 z.0.0.1) (eqb-true _ 64 z.0.1) t.0 (leb-true _ _ n.1) t.1 b.1
          (λ i x k l. token_row d.users i x k) (λ t. same_token_is t no_token);
    }

-- and the other way
pub sound_good : (d : Domain) → Sound d → Good d
unfolding shaped users_sound channels_sound tokens_sound counts_sound free_blank token_of
sound_good d s =
    let u = s.users_are in
    let c = s.channels_are in
    let t = s.tokens_are in
    record {
      limits_ok = s.limits_ok;
      shape_ok = rw (u.ids_size, u.cells_size, c.ids_size, c.cells_size, t.ids_size, t.cells_size) (lt-ltb d.links (2 ^ 16) s.links_fit);
      users_ok = and_both (apart_distinct d.users.ids u.apart) (rows_of u (user_test d.links d.channels) (row_user d.links d.channels c.apart));
      channels_ok = and_both (apart_distinct d.channels.ids c.apart) (rows_of c (channel_test d.users d.links)
          (λ j x ch l. row_channel d.users d.links u.ids_size u.cells_size u.apart j x ch));
      tokens_ok = and_both (apart_distinct d.tokens.ids t.apart) (rows_of t (token_test d.users) (λ i x k l. row_token d.users i x k));
      counts_ok = and_both (and_both (le-leb _ _ u.counted) (le-leb _ _ c.counted)) (le-leb _ _ t.counted);
      blank_ok = and_both (and_both (free_of u (λ p. eqb p 0) refl) (free_of c (λ ch. same_channel ch no_channel) (is_same_channel no_channel _ refl)))
          (free_of t (λ k. same_token k no_token) (is_same_token no_token _ refl));
    }

-- the one test is the seven, and the other way
pub good_is : (d : Domain) → good d ≡ true → Good d
unfolding good
good_is d h = let r = simp and-eq-true_iff at h in
    record { limits_ok = r.0.0.0.0.0.0; shape_ok = r.0.0.0.0.0.1; users_ok = r.0.0.0.0.1; channels_ok = r.0.0.0.1; tokens_ok = r.0.0.1; counts_ok = r.0.1; blank_ok = r.1 }

pub is_good : (d : Domain) → Good d → good d ≡ true
unfolding good
is_good d g = rw (g.limits_ok, g.shape_ok, g.users_ok, g.channels_ok, g.tokens_ok, g.counts_ok) g.blank_ok
