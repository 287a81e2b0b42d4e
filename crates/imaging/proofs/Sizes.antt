-- How long an image is: at most 17,692 octets. Assumes nothing.
use Rattle.std.specs.Prelude.{if◌then◌else◌}
use mathlib.Core.Path.{◌≡◌, refl, ap, ◌∙◌}
use mathlib.Core.Bool.{Bool, true, false, ◌&&◌, false≢true, or-true}
use mathlib.Core.List.{List, [], ◌∷◌, ◌++◌}
use mathlib.Core.Option.{Option, none, some}
use Prim.Native.Nat.{ℕ, suc, ◌+◌, ◌-◌, ◌*◌, ◌<◌, ◌≤◌}
use native.Mathlib.Nat.{suc-mul, mul-le-mul_right}
use native.Mathlib.Omega.{arith}
use lib.Dec.{eqb, ltb}
use lib.ListN.{length, get_or, length-append}
use borrow.Author.Tests.{eq-eqb, eqb-true, eqb-false, lt-ltb}
use Rattle.cols_spec.specs.Places.{At, find, in_order}
use Rattle.cols_spec.specs.Sets.{keep, any, each, has, member, listed, below, upto}
use Rattle.cols_spec.proofs.Answers.{found_somewhere}
use Rattle.cols_spec.proofs.Bools.{and_parts, and_both, or_elim}
use Rattle.cols_spec.proofs.Members.{member_keep, member_at}
use Rattle.cols_spec.proofs.Order.{keep_le, in_order_has}
use Rattle.cols_spec.proofs.Rows.{find_holds, find_there}
use Rattle.domain.specs.Tables.{Domain, channel}
use Rattle.domain_laws.specs.Same.{Role, static, user_id, assigned, private_of, role_of, channel_at, Standing, nobody, grabbed, inhibited, giving, given}
use Rattle.domain_laws.specs.View.{row, view}
use Rattle.domain_laws.specs.Built.{ascending}
use Rattle.domain.proofs.invariant.Sound.{Sound}
use Rattle.domain_laws.proofs.restored.Ascending.{up_member, up_keep, up_in_order}
use Rattle.domain_laws.proofs.restored.Again.{in_order_found, users_few}
use Rattle.imaging.specs.Image.{two, rows, user_row, club, channel_row, parties, token_row, limit_octets, link_rows, contents, body, image}
use Rattle.imaging.proofs.Parts.{All, all_of, any_of}
use Rattle.imaging.proofs.Fitting.{Ids, RoleOf, StandingOf, standing_wider, crowd, crowd_is, user_row_of, channels_fit, tokens_fit, channels_few, tokens_few}

-- ---- of ascending lists, one within the other

-- the one within is no longer
sub_length : (low : ℕ) (ys xs : List ℕ) → ascending low ys ≡ true → ascending low xs ≡ true → ((z : ℕ) → member z xs ≡ true → member z ys ≡ true) → length xs ≤ length ys
unfolding member any ascending
sub_length low [] [] b a f = omega arith
sub_length low [] (x ∷ xs) b a f = absurd (false≢true (f x (rw (eq-eqb x x refl))))
sub_length low (y ∷ ys) [] b a f = omega arith
sub_length low (y ∷ ys) (x ∷ xs) b a f = go (eqb x y) refl (sub_length y ys xs b'.1) (sub_length y ys (x ∷ xs) b'.1)
  where
    a' : (ltb low x ≡ true) × (ascending x xs ≡ true)
    a' = and_parts (ltb low x) (ascending x xs) a

    b' : (ltb low y ≡ true) × (ascending y ys ≡ true)
    b' = and_parts (ltb low y) (ascending y ys) b

    go : (c : Bool) → eqb x y ≡ c → (ascending y xs ≡ true → ((z : ℕ) → member z xs ≡ true → member z ys ≡ true) → length xs ≤ length ys)
        → (ascending y (x ∷ xs) ≡ true → ((z : ℕ) → member z (x ∷ xs) ≡ true → member z ys ≡ true) → length (x ∷ xs) ≤ length ys) → length (x ∷ xs) ≤ length (y ∷ ys)
    go true e rec more =
        let l : length xs ≤ length ys = rec (rw (eqb-true x y e) at a'.1) (λ z m.
        or_elim (eqb z y) (member z ys) (f z (rw m (or-true (eqb z x)))) (λ q. absurd (omega (arith, eqb-true x y e, eqb-true z y q, up_member x xs z a'.1 m))) (λ q. q)) in
        omega arith
    go false e rec more =
        let under : y < x = or_elim (eqb x y) (member x ys) (f x (rw (eq-eqb x x refl))) (λ q. absurd (eqb-false x y e (eqb-true x y q))) (λ q. up_member y ys x b'.1 q) in
        let l : length (x ∷ xs) ≤ length ys = more (and_both (lt-ltb y x under) a'.1) (λ z m.
        or_elim (eqb z y) (member z ys) (f z m)
        (λ q. absurd (or_elim (eqb z x) (member z xs) m (λ r. omega (arith, under, eqb-true z x r, eqb-true z y q)) (λ r. omega (arith, under, eqb-true z y q, up_member x xs z a'.1 r)))) (λ q. q)) in
        omega (arith, l)

-- ---- rows

-- rows of at most n octets each
each_length : {A : Type 0} (f : A → List ℕ) (n : ℕ) (xs : List A) → All (λ x. length (f x) ≤ n) xs → length (each f xs) ≤ length xs * n
unfolding each
each_length f n [] h = omega arith
each_length f n (x ∷ xs) h = rw (length-append (f x) (each f xs), suc-mul) (omega (arith, each_length f n xs h.1, h.0))

ids_length : (n : ℕ) (is : List ℕ) → Ids n is → length (rows two is) ≤ 1 + 2 * n
unfolding rows
ids_length n is h = omega (arith, each_length two 2 is (any_of (λ a. omega arith) is), h.few)

-- ---- channels: each user has one of the short ones

is_user_id : Role → Bool
is_user_id static = false
is_user_id user_id = true
is_user_id (private_of g is) = false
is_user_id assigned = false

abbrev is_user_row : ℕ × (Role × ℕ) → Bool
is_user_row r = is_user_id r.1.0

its_user : Option (Role × ℕ) → Bool
its_user none = false
its_user (some a) = is_user_id a.0

-- the rows of user ids are as many as the channels that are user ids
rows_kept : (f : ℕ → Option (Role × ℕ)) (xs : List ℕ) → length (keep is_user_row (each (λ x. row x (f x)) xs)) ≡ length (keep (λ x. its_user (f x)) xs)
unfolding each keep its_user
rows_kept f [] = refl
rows_kept f (x ∷ xs) = go (f x) (rows_kept f xs)
  where
    last : (b : Bool) (r : ℕ × (Role × ℕ)) → length (keep is_user_row (each (λ x. row x (f x)) xs)) ≡ length (keep (λ x. its_user (f x)) xs)
        → length (if b then r ∷ keep is_user_row (each (λ x. row x (f x)) xs) else keep is_user_row (each (λ x. row x (f x)) xs)) ≡ length (if b then x ∷ keep (λ x. its_user (f x)) xs else keep (λ x. its_user (f x)) xs)
    last true r h = ap suc h
    last false r h = h

    go : (o : Option (Role × ℕ)) → length (keep is_user_row (each (λ x. row x (f x)) xs)) ≡ length (keep (λ x. its_user (f x)) xs)
        → length (keep is_user_row (row x o ++ each (λ x. row x (f x)) xs)) ≡ length (if its_user o then x ∷ keep (λ x. its_user (f x)) xs else keep (λ x. its_user (f x)) xs)
    go none h = h
    go (some a) h = last (is_user_id a.0) (x, a) h

-- a row of a user id has 5 octets, every other at most 8 + 2 n
row_length : (n : ℕ) (c : ℕ) (k : Role) (m : ℕ) → RoleOf n k → length (channel_row (c, (k, m))) + (if is_user_id k then 3 + 2 * n else 0) ≤ 8 + 2 * n
unfolding channel_row club is_user_id
row_length n c static m h = omega arith
row_length n c user_id m h = omega arith
row_length n c (private_of g is) m h = omega (arith, ids_length n is h.1)
row_length n c assigned m h = omega arith

-- so of all channels: as many octets as 8 + 2 n each, less 3 + 2 n for each user id
channels_length : (n : ℕ) (rs : List (ℕ × (Role × ℕ))) → All (λ r. RoleOf n r.1.0) rs
    → length (each channel_row rs) + length (keep is_user_row rs) * (3 + 2 * n) ≤ length rs * (8 + 2 * n)
unfolding each keep
channels_length n [] h = omega arith
channels_length n (r ∷ rs) h =
    rw (length-append (channel_row r) (each channel_row rs), suc-mul (length rs) (8 + 2 * n))
    (go (is_user_row r) (length (channel_row r)) (row_length n r.0 r.1.0 r.1.1 h.0) (channels_length n rs h.1))
  where
    go : (b : Bool) (l : ℕ) → l + (if b then 3 + 2 * n else 0) ≤ 8 + 2 * n
        → length (each channel_row rs) + length (keep is_user_row rs) * (3 + 2 * n) ≤ length rs * (8 + 2 * n)
        → l + length (each channel_row rs) + length (if b then r ∷ keep is_user_row rs else keep is_user_row rs) * (3 + 2 * n) ≤ length rs * (8 + 2 * n) + (8 + 2 * n)
    go true l x y = rw (suc-mul (length (keep is_user_row rs)) (3 + 2 * n)) (omega arith)
    go false l x y = omega arith

-- (64 - u) squared is not below 0
square : (u x : ℕ) → u + x ≡ 64 → 128 * u ≤ u * u + 4096
square u x e =
    let p : (u + x) * u ≡ 64 * u = ap (λ (z : ℕ). z * u) e in
    let q : (u + x) * x ≡ 64 * x = ap (λ (z : ℕ). z * x) e in
    omega arith

-- u users, c channels of which k are user ids, with n octets; the other parts
largest : (u k c n l a t : ℕ) → u ≤ 64 → u ≤ k → c ≤ 128 → n + k * (3 + 2 * u) ≤ c * (8 + 2 * u) → l ≤ 17 → a ≤ 1 + 3 * u → t ≤ 8449
    → suc (suc (suc (suc (l + (a + (suc n + t)))))) ≤ 17688
largest u k c n l a t hu hk hc h hl ha ht =
    let e : u + (64 - u) ≡ 64 = omega arith in
    omega (arith, mul-le-mul_right (3 + 2 * u) hk, mul-le-mul_right (8 + 2 * u) hc, square u (64 - u) e)

module _ (d : Domain) (s : Sound d) where
  -- the rows of user ids, by their channels
  user_rows : length (keep is_user_row (view d).channels) ≡ length (keep (λ c. its_user (channel_at d.users d.channels c)) (in_order d.channels.ids))
  unfolding view
  user_rows = rows_kept (channel_at d.users d.channels) (in_order d.channels.ids)

  -- each user has a channel of its own
  own_channel : (u : ℕ) → member u (in_order d.users.ids) ≡ true → (its_user (channel_at d.users d.channels u) && member u (in_order d.channels.ids)) ≡ true
  unfolding channel_at channel role_of is_user_id its_user
  own_channel u m =
      let w = found_somewhere (find d.users.ids u) (in_order_found d.users.ids u m) in
      let r = user_row_of d s u w.0 w.1 in
      let o = r.owned in
      let pos : 0 < get_or d.channels.ids o.spot 0 = omega (arith, o.id_is, r.low) in
      let f : find d.channels.ids u ≡ At o.spot = rw o.id_is at (find_there d.channels.ids s.channels_are.apart o.spot pos) in
      let h = find_holds d.channels.ids u o.spot f in
      let k : its_user (channel_at d.users d.channels u) ≡ true = rw (f, o.kind_is) in
      and_both k (in_order_has d.channels.ids u (rw h.0 at (member_at d.channels.ids o.spot h.1)) h.2)

  -- so there are as many user ids as users
  users_own : crowd d s ≤ length (keep is_user_row (view d).channels)
  users_own =
      let l = sub_length 0 (keep (λ c. its_user (channel_at d.users d.channels c)) (in_order d.channels.ids)) (in_order d.users.ids) (up_keep _ 0 _ (up_in_order d.channels.ids)) (up_in_order d.users.ids)
      (λ z m. member_keep (λ c. its_user (channel_at d.users d.channels c)) z (in_order d.channels.ids) ∙ own_channel z m) in
      omega (arith, l, user_rows, crowd_is d s)

  -- ---- the parts, and the whole

  users_length : length (rows user_row (view d).users) ≤ 1 + 3 * crowd d s
  unfolding rows user_row
  users_length = omega (arith, each_length user_row 3 (view d).users (any_of (λ r. omega arith) (view d).users))

  pub links_few : (m : ℕ) → length (listed 16 m) ≤ 16
  unfolding listed upto
  links_few m = keep_le (has m) (below 16)

  links_length : (m : ℕ) → length (link_rows m) ≤ 17
  unfolding link_rows rows
  links_length m = omega (arith, each_length (λ n. n ∷ []) 1 (listed 16 m) (any_of (λ q. omega arith) (listed 16 m)), links_few m)

  standing_length : (k : ℕ) (t : Standing) → StandingOf 64 t → length (token_row (k, t)) ≤ 132
  unfolding token_row parties
  standing_length k nobody h = absurd h
  standing_length k (grabbed g) h = omega arith
  standing_length k (inhibited is) h = omega (arith, ids_length 64 is h)
  standing_length k (giving g r) h = omega arith
  standing_length k (given r) h = omega arith

  tokens_length : length (rows token_row (view d).tokens) ≤ 8449
  unfolding rows
  tokens_length = omega (arith, each_length token_row 132 (view d).tokens (all_of (λ r h. standing_length r.0 r.1 (standing_wider (crowd d s) (users_few d s) r.1 h.1)) (view d).tokens (tokens_fit d s)), tokens_few d s)

  pub body_length : length (body (view d)) ≤ 17688
  unfolding body contents limit_octets rows
  body_length =
      rw (
        length-append (link_rows (view d).links) (rows user_row (view d).users ++ (rows channel_row (view d).channels ++ rows token_row (view d).tokens)),
        length-append (rows user_row (view d).users) (rows channel_row (view d).channels ++ rows token_row (view d).tokens),
        length-append (rows channel_row (view d).channels) (rows token_row (view d).tokens),
      )
      (largest (crowd d s) (length (keep is_user_row (view d).channels)) (length (view d).channels) (length (each channel_row (view d).channels))
      (length (link_rows (view d).links)) (length (rows user_row (view d).users)) (length (rows token_row (view d).tokens)) (users_few d s) users_own (channels_few d s)
      (channels_length (crowd d s) (view d).channels (all_of (λ r h. h.1) (view d).channels (channels_fit d s))) (links_length (view d).links) users_length tokens_length)

  -- the largest image has 17,692 octets
  pub image_length : length (image (view d)) ≤ 17692
  unfolding image
  image_length = omega (arith, body_length)
