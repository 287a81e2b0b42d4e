-- An image of good tables is octets. Assumes nothing.
use mathlib.Core.Bool.{So}
use mathlib.Core.List.{List, [], ◌∷◌, ◌++◌}
use Prim.Native.Nat.{ℕ, zero, suc, ◌<◌, ◌≤◌, ◌%◌, ◌^◌}
use native.Mathlib.Nat.{mod-lt, one-le-pow, div-lt_iff_lt-mul, pow-succ'}
use native.Mathlib.Omega.{arith}
use lib.ListN.{length}
use Rattle.codec_octets.specs.Octets.{octets_of, Bytes}
use lib.Dec.{leb}
use borrow.Author.Tests.{leb-true}
use Rattle.cols_spec.specs.Sets.{each, listed}
use Rattle.domain.specs.Tables.{Domain, in_range}
use Rattle.domain_laws.specs.Same.{Role, static, user_id, assigned, private_of, Standing, nobody, grabbed, inhibited, giving, given}
use Rattle.domain_laws.specs.View.{view}
use Rattle.domain.proofs.invariant.Sound.{Sound, limits_le}
use Rattle.domain_laws.proofs.restored.Again.{users_few}
use Rattle.domain_laws.proofs.restored.Ascending.{all_member}
use Rattle.imaging.proofs.Links.{listed_low}
use Rattle.imaging.specs.Image.{one, two, rows, user_row, kind_number, club, channel_row, state_number, parties, token_row, limit_octets, link_rows, contents, body, image}
use Rattle.imaging.proofs.Parts.{All, all_of}
use Rattle.imaging.proofs.Rows.{FitsTwo}
use Rattle.imaging.proofs.Fitting.{Ids, RoleOf, StandingOf, role_wider, standing_wider, crowd, users_fit, channels_fit, tokens_fit, channels_few, tokens_few, all_members}
use Rattle.imaging.proofs.Sizes.{links_few, body_length}

bytes_append : (xs ys : List ℕ) → Bytes xs → Bytes ys → Bytes (xs ++ ys)
bytes_append [] ys a b = b
bytes_append (x ∷ xs) ys a b = (a.0, bytes_append xs ys a.1 b)

-- a number that fits k octets gives k of them
number_bytes : (k v : ℕ) → v < 256 ^ k → Bytes (octets_of k v)
number_bytes zero v h = tt
number_bytes (suc k) v h = ((div-lt_iff_lt-mul (one-le-pow k 256 (omega arith))).1 (rw (pow-succ' 256 k) at h), number_bytes k (v % 256 ^ k) (mod-lt v (one-le-pow k 256 (omega arith))))

-- a count below 256, and rows of octets
rows_bytes : {A : Type 0} (f : A → List ℕ) (xs : List A) → length xs < 256 → All (λ x. Bytes (f x)) xs → Bytes (rows f xs)
unfolding rows each
rows_bytes {A} f xs h k = (h, go xs k)
  where
    go : (xs : List A) → All (λ x. Bytes (f x)) xs → Bytes (each f xs)
    go [] k = tt
    go (x ∷ xs) k = bytes_append (f x) (each f xs) k.0 (go xs k.1)

two_bytes : (n : ℕ) → FitsTwo n → Bytes (two n)
two_bytes n h = number_bytes 2 n h

ids_bytes : (is : List ℕ) → Ids 64 is → Bytes (rows two is)
ids_bytes is h = rows_bytes two is (omega (arith, h.few)) (all_of two_bytes is h.short)

-- ---- the parts of a row

role_bytes : (k : Role) → RoleOf 64 k → (kind_number k < 256) × Bytes (club k)
unfolding kind_number club
role_bytes static h = (omega arith, tt)
role_bytes user_id h = (omega arith, tt)
role_bytes (private_of g is) h = (omega arith, bytes_append (two g) (rows two is) (two_bytes g h.0) (ids_bytes is h.1))
role_bytes assigned h = (omega arith, tt)

standing_bytes : (t : Standing) → StandingOf 64 t → (state_number t < 256) × Bytes (parties t)
unfolding state_number parties
standing_bytes nobody h = absurd h
standing_bytes (grabbed g) h = (omega arith, two_bytes g h)
standing_bytes (inhibited is) h = (omega arith, ids_bytes is h)
standing_bytes (giving g r) h = (omega arith, bytes_append (two g) (two r) (two_bytes g h.0) (two_bytes r h.1))
standing_bytes (given r) h = (omega arith, two_bytes r h)

-- ---- the rows

user_bytes : (r : ℕ × ℕ) → FitsTwo r.0 × (r.1 < 16) → Bytes (user_row r)
unfolding user_row
user_bytes r h = bytes_append (two r.0) (r.1 ∷ []) (two_bytes r.0 h.0) (omega (arith, h.1), tt)

channel_bytes : (r : ℕ × (Role × ℕ)) → FitsTwo r.0 × RoleOf 64 r.1.0 × FitsTwo r.1.1 → Bytes (channel_row r)
unfolding channel_row
channel_bytes r h =
    let k = role_bytes r.1.0 h.1 in
    bytes_append (two r.0) (one (kind_number r.1.0) ++ (two r.1.1 ++ club r.1.0)) (two_bytes r.0 h.0) (k.0, bytes_append (two r.1.1) (club r.1.0) (two_bytes r.1.1 h.2) k.1)

token_bytes : (r : ℕ × Standing) → FitsTwo r.0 × StandingOf 64 r.1 → Bytes (token_row r)
unfolding token_row
token_bytes r h = bytes_append (two r.0) (one (state_number r.1) ++ parties r.1) (two_bytes r.0 h.0) (standing_bytes r.1 h.1)

low_bytes : (xs : List ℕ) → All (λ x. x ≤ 15) xs → All (λ x. Bytes (x ∷ [])) xs
low_bytes xs h = all_of (λ x l. (omega arith, tt)) xs h

module _ (d : Domain) (s : Sound d) where
  links_bytes : (m : ℕ) → Bytes (link_rows m)
  unfolding link_rows
  links_bytes m = rows_bytes (λ n. n ∷ []) (listed 16 m) (omega (arith, links_few d s m))
      (low_bytes (listed 16 m) (all_members (λ x. x ≤ 15) (listed 16 m) (λ u h. leb-true u 15 (all_member (λ q. leb q 15) (listed 16 m) u (listed_low m) h))))

  limits_in : So (in_range (view d).limits)
  unfolding view
  limits_in = s.limits_ok

  body_bytes : Bytes (body (view d))
  unfolding body contents limit_octets
  body_bytes =
      let l = limits_le (view d).limits limits_in in
      let n : crowd d s ≤ 64 = users_few d s in (
        omega arith,
        (
          omega (arith, l.0),
          (
            omega (arith, l.1),
            (
              omega (arith, l.2),
              bytes_append (link_rows (view d).links) (rows user_row (view d).users ++ (rows channel_row (view d).channels ++ rows token_row (view d).tokens)) (links_bytes (view d).links)
                  (bytes_append (rows user_row (view d).users) (rows channel_row (view d).channels ++ rows token_row (view d).tokens)
                  (rows_bytes user_row (view d).users (omega arith) (all_of user_bytes (view d).users (users_fit d s)))
                  (bytes_append (rows channel_row (view d).channels) (rows token_row (view d).tokens)
                  (rows_bytes channel_row (view d).channels (omega (arith, channels_few d s)) (all_of (λ r h. channel_bytes r (h.0, role_wider (crowd d s) n r.1.0 h.1, h.2)) (view d).channels (channels_fit d s)))
                  (rows_bytes token_row (view d).tokens (omega (arith, tokens_few d s)) (all_of (λ r h. token_bytes r (h.0, standing_wider (crowd d s) n r.1 h.1)) (view d).tokens (tokens_fit d s))))),
            ),
          ),
        ),
      )

  pub image_bytes : Bytes (image (view d))
  unfolding image
  image_bytes = bytes_append (octets_of 4 (length (body (view d)))) (body (view d)) (number_bytes 4 _ (omega (arith, body_length d s))) body_bytes
