-- Two tables of users that say the same (twins): the places of one user in both are a pair, and masks of places that name the same users match. Assumes nothing.
use mathlib.Core.Path.{◌≡◌, refl, sym, ap, ap₂, ◌∙◌, fun_ext}
use mathlib.Core.Bool.{Bool, true, false, ◌&&◌, false≢true, and-true}
use mathlib.Core.List.{List, []}
use mathlib.Core.Option.{Option, none, some}
use Prim.Native.Nat.{ℕ, ◌<◌}
use native.Mathlib.Omega.{arith}
use lib.Dec.{eqb}
use lib.ListN.{length, get_or}
use borrow.Author.Tests.{eq-eqb, eqb-true}
use Rattle.cols_spec.specs.Sets.{keep, any, member, has, those, with, without, minus, union, only, seats, connections, upto}
use Rattle.cols_spec.specs.Places.{Place, At, Nowhere, find, found, in_order}
use Rattle.cols_spec.proofs.Bools.{and_parts, and_both, some_is, none≢some}
use Rattle.cols_spec.proofs.Below.{any_upto, any_hit}
use Rattle.cols_spec.proofs.Digits.{has_those, mask_ext}
use Rattle.cols_spec.proofs.Marks.{Marks, marks_none, marks_only, marks_with, marks_without, marks_minus, marks_union, has_none}
use Rattle.cols_spec.proofs.Members.{member_keep}
use Rattle.cols_spec.proofs.Rows.{At≢Nowhere, Apart, find_holds, find_there, same_place}
use Rattle.domain.specs.Tables.{Users, Domain, name, link, hosts, seen}
use Rattle.domain.specs.Channels.{places}
use Rattle.domain_laws.specs.Same.{home_of, among, ids_of, Same}
use Rattle.domain.proofs.Listed.{places_has}
use Rattle.domain.proofs.invariant.Sound.{Seated, Sound}
use Rattle.domain.proofs.invariant.Joins.{places_seated}
use Rattle.domain_laws.proofs.same.Orders.{found_in_order, in_order_same}

-- tests that pass together are equal
pub bool_ext : (a b : Bool) → (a ≡ true → b ≡ true) → (b ≡ true → a ≡ true) → a ≡ b
bool_ext true b f g = sym (f refl)
bool_ext false true f g = g refl
bool_ext false false f g = refl

-- a table of users: 64 places, no id twice
pub record Crowd (us : Users) : Type 0 where
  pub ids_size : length us.ids ≡ 64
  pub at_size : length us.at ≡ 64
  pub apart : Apart us.ids

pub crowd_of : (d : Domain) → Sound d → Crowd d.users
crowd_of d s = record { ids_size = s.users_are.ids_size; at_size = s.users_are.cells_size; apart = s.users_are.apart }

-- tables of users that say the same
pub record Twins (us vs : Users) : Type 0 where
  pub left : Crowd us
  pub right : Crowd vs
  pub homes : (u : ℕ) → home_of us u ≡ home_of vs u

pub twins_of : (d e : Domain) → Sound d → Sound e → Same d e → Twins d.users e.users
twins_of d e s t x = record { left = crowd_of d s; right = crowd_of e t; homes = x.users }

twins_sym : {us vs : Users} → Twins us vs → Twins vs us
twins_sym t = record { left = t.right; right = t.left; homes = λ u. sym (t.homes u) }

-- the places of one user
pub record Pair (us vs : Users) (i j : ℕ) : Type 0 where
  pub id : ℕ
  pub left : find us.ids id ≡ At i
  pub right : find vs.ids id ≡ At j

pair_sym : {us vs : Users} {i j : ℕ} → Pair us vs i j → Pair vs us j i
pair_sym p = record { id = p.id; left = p.right; right = p.left }

-- user u has a place in both, with the same connection, or in neither
pub data Where (us vs : Users) (u : ℕ) : Type 0 where
  there : {i j : ℕ} → find us.ids u ≡ At i → find vs.ids u ≡ At j → link us i ≡ link vs j → Where us vs u
  nowhere : find us.ids u ≡ Nowhere → find vs.ids u ≡ Nowhere → Where us vs u

where_by : (us vs : Users) (u : ℕ) → home_of us u ≡ home_of vs u → Where us vs u
unfolding home_of
where_by us vs u h = go (find us.ids u) refl (find vs.ids u) refl
  where
    home : Users → Place → Option ℕ
    home ws w = seen w none (λ i. some (link ws i))

    go : (w : Place) → find us.ids u ≡ w → (x : Place) → find vs.ids u ≡ x → Where us vs u
    go (At i) e (At j) f = there e f (sym (some_is (ap (home us) (sym e) ∙ h ∙ ap (home vs) f)))
    go (At i) e Nowhere f = absurd (none≢some (sym (ap (home us) (sym e) ∙ h ∙ ap (home vs) f)))
    go Nowhere e (At j) f = absurd (none≢some (ap (home us) (sym e) ∙ h ∙ ap (home vs) f))
    go Nowhere e Nowhere f = nowhere e f

pub home_there : (us : Users) (u i : ℕ) → find us.ids u ≡ At i → home_of us u ≡ some (link us i)
unfolding home_of
home_there us u i e = rw e

pub home_nowhere : (us : Users) (u : ℕ) → find us.ids u ≡ Nowhere → home_of us u ≡ none
unfolding home_of
home_nowhere us u e = rw e

module _ (us vs : Users) where
  -- two pairs are of one user in both tables, or in neither
  pub pair_eqb : {i j a b : ℕ} → Pair us vs i j → Pair us vs a b → eqb i a ≡ eqb j b
  pair_eqb {i} {j} {a} {b} p q = same_place us.ids p.id q.id i a p.left q.left ∙ sym (same_place vs.ids p.id q.id j b p.right q.right)

  pub pair_name : {i j : ℕ} → Pair us vs i j → name us i ≡ name vs j
  unfolding name
  pair_name {i} {j} p = (find_holds us.ids p.id i p.left).0 ∙ sym (find_holds vs.ids p.id j p.right).0

  module _ (t : Twins us vs) where
    pub where_is : (u : ℕ) → Where us vs u
    where_is u = where_by us vs u (t.homes u)

    pub twins_found : (u : ℕ) → found (find us.ids u) ≡ found (find vs.ids u)
    unfolding found
    twins_found u = go (where_is u)
      where
        go : Where us vs u → found (find us.ids u) ≡ found (find vs.ids u)
        go (there f g l) = rw (f, g)
        go (nowhere f g) = rw (f, g)

    pub pair_link : {i j : ℕ} → Pair us vs i j → link us i ≡ link vs j
    pair_link {i} {j} p = some_is (sym (home_there vs p.id j p.right) ∙ sym (t.homes p.id) ∙ home_there us p.id i p.left)

    pub pair_low : {i j : ℕ} → Pair us vs i j → i < 64
    pair_low {i} p = omega (arith, (find_holds us.ids p.id i p.left).1, t.left.ids_size)

    pair_high : {i j : ℕ} → Pair us vs i j → j < 64
    pair_high {i} {j} p = omega (arith, (find_holds vs.ids p.id j p.right).1, t.right.ids_size)

    -- who is seated in one is seated in the other
    pub partner : (i : ℕ) → Seated us i → (j : ℕ) × Pair us vs i j
    partner i h = go (where_is (get_or us.ids i 0))
      where
        here : find us.ids (get_or us.ids i 0) ≡ At i
        here = find_there us.ids t.left.apart i h

        go : Where us vs (get_or us.ids i 0) → (j : ℕ) × Pair us vs i j
        go (there {i = a} {j = b} e f l) = (b, record { id = get_or us.ids i 0; left = here; right = f })
        go (nowhere e f) = absurd (At≢Nowhere (sym e ∙ here))

-- the ids of a mask's users are those among them
pub ids_has : (us : Users) (m u : ℕ) → member u (ids_of us m) ≡ among us m u
unfolding ids_of among
ids_has us m u = member_keep (among us m) u (in_order us.ids) ∙ go (find us.ids u) refl
  where
    go : (w : Place) → find us.ids u ≡ w → (seen (find us.ids u) false (has m) && member u (in_order us.ids)) ≡ seen (find us.ids u) false (has m)
    go (At i) e = rw (found_in_order us.ids u i e) (and-true (seen (find us.ids u) false (has m)))
    go Nowhere e = rw e

-- masks of places that name the same users
pub record Match (us vs : Users) (m n : ℕ) : Type 0 where
  pub left : Marks 64 m (Seated us)
  pub right : Marks 64 n (Seated vs)
  pub same : (i j : ℕ) → Pair us vs i j → has m i ≡ has n j

match_sym : {us vs : Users} {m n : ℕ} → Match us vs m n → Match vs us n m
match_sym x = record { left = x.right; right = x.left; same = λ i j p. sym (x.same j i (pair_sym p)) }

-- the mask operations
module _ (us vs : Users) where
  pub match_none : Match us vs 0 0
  match_none = record { left = marks_none 64; right = marks_none 64; same = λ i j p. has_none i ∙ sym (has_none j) }

  module _ (t : Twins us vs) where
    -- both places of a pair are in use
    pub found_left : {i j : ℕ} → Pair us vs i j → Seated us i
    found_left {i} p = let r = find_holds us.ids p.id i p.left in rw r.0 r.2

    found_right : {i j : ℕ} → Pair us vs i j → Seated vs j
    found_right {i} {j} p = let r = find_holds vs.ids p.id j p.right in rw r.0 r.2

    -- digit by digit
    both_have : {i j : ℕ} (f g : ℕ → Bool) → Pair us vs i j → f i ≡ g j → has (those seats f) i ≡ has (those seats g) j
    both_have {i} {j} f g p e = has_those 64 f i (pair_low us vs t p) ∙ e ∙ sym (has_those 64 g j (pair_high us vs t p))

    pub match_only : {a b : ℕ} → Pair us vs a b → Match us vs (only seats a) (only seats b)
    unfolding only
    match_only {a} {b} q = record {
      left = marks_only 64 a (found_left q);
      right = marks_only 64 b (found_right q);
      same = λ i j p. both_have (eqb a) (eqb b) p (pair_eqb us vs q p);
    }

    module _ (m n : ℕ) (x : Match us vs m n) where
      pub match_with : {a b : ℕ} → Pair us vs a b → Match us vs (with seats m a) (with seats n b)
      unfolding with
      match_with {a} {b} q = record {
        left = marks_with 64 m a x.left (found_left q);
        right = marks_with 64 n b x.right (found_right q);
        same = λ i j p. both_have _ _ p (rw (x.same i j p, pair_eqb us vs p q));
      }

      pub match_without : {a b : ℕ} → Pair us vs a b → Match us vs (without seats m a) (without seats n b)
      unfolding without
      match_without {a} {b} q = record {
        left = marks_without 64 m a (λ k h z. x.left.are k h);
        right = marks_without 64 n b (λ k h z. x.right.are k h);
        same = λ i j p. both_have _ _ p (rw (x.same i j p, pair_eqb us vs p q));
      }

      pub match_minus : (a b : ℕ) → ((i j : ℕ) → Pair us vs i j → has a i ≡ has b j) → Match us vs (minus seats m a) (minus seats n b)
      unfolding minus
      match_minus a b y = record {
        left = marks_minus 64 m a (λ k h z. x.left.are k h);
        right = marks_minus 64 n b (λ k h z. x.right.are k h);
        same = λ i j p. both_have _ _ p (rw (x.same i j p, y i j p));
      }

      pub match_union : {a b : ℕ} → Match us vs a b → Match us vs (union seats m a) (union seats n b)
      unfolding union
      match_union {a} {b} y = record {
        left = marks_union 64 m a x.left y.left;
        right = marks_union 64 n b x.right y.right;
        same = λ i j p. both_have _ _ p (rw (x.same i j p, y.same i j p));
      }

      -- the same set, by ids
      match_among : (u : ℕ) → among us m u ≡ among vs n u
      unfolding among
      match_among u = go (where_is us vs t u)
        where
          go : Where us vs u → seen (find us.ids u) false (has m) ≡ seen (find vs.ids u) false (has n)
          go (there {i} {j} e f l) = rw (e, f) (x.same i j (record { id = u; left = e; right = f }))
          go (nowhere e f) = rw (e, f)

      pub match_ids : ids_of us m ≡ ids_of vs n
      unfolding ids_of
      match_ids = ap₂ keep (fun_ext match_among) (in_order_same us.ids vs.ids (twins_found us vs t))

      -- the connections that have a user of the set
      has_host : (q : ℕ) → any (λ i. has m i && eqb (link us i) q) (upto 64 []) ≡ true → any (λ i. has n i && eqb (link vs i) q) (upto 64 []) ≡ true
      unfolding any
      has_host q h = any_upto (λ i. has m i && eqb (link us i) q) 64 [] h
          (λ i l e.
          let r = and_parts (has m i) (eqb (link us i) q) e in
          let w = partner us vs t i (x.left.are i r.0) in
          any_hit (λ i. has n i && eqb (link vs i) q) 64 [] w.0 (pair_high us vs t w.1)
          (and_both (sym (x.same i w.0 w.1) ∙ r.0) (eq-eqb (link vs w.0) q (sym (pair_link us vs t w.1) ∙ eqb-true (link us i) q r.1))))
          (λ e. absurd (false≢true e))

      -- equal masks match equal masks
      match_eq : {a b : ℕ} → Match us vs a b → m ≡ a → n ≡ b
      match_eq {a} {b} y e = mask_ext 64 n b x.right.fits y.right.fits (λ k l. bool_ext (has n k) (has b k)
          (λ h. let w = partner vs us (twins_sym t) k (x.right.are k h) in
          sym (y.same w.0 k (pair_sym w.1)) ∙ ap (λ (z : ℕ). has z w.0) (sym e) ∙ x.same w.0 k (pair_sym w.1) ∙ h)
          (λ h. let w = partner vs us (twins_sym t) k (y.right.are k h) in
          sym (x.same w.0 k (pair_sym w.1)) ∙ ap (λ (z : ℕ). has z w.0) e ∙ y.same w.0 k (pair_sym w.1) ∙ h))

module _ (us vs : Users) (t : Twins us vs) where
  -- the connections that have a user of the set
  pub match_hosts : {m n : ℕ} → Match us vs m n → hosts us m ≡ hosts vs n
  unfolding hosts
  match_hosts {m} {n} x = ap (those connections) (fun_ext (λ q. bool_ext _ _ (has_host us vs t m n x q) (has_host vs us (twins_sym t) n m (match_sym x) q)))

  pub match_eqb : {m n a b : ℕ} → Match us vs m n → Match us vs a b → eqb m a ≡ eqb n b
  match_eqb {m} {n} {a} {b} x y = bool_ext (eqb m a) (eqb n b) (λ h. eq-eqb n b (match_eq us vs t m n x y (eqb-true m a h)))
      (λ h. eq-eqb m a (match_eq vs us (twins_sym t) n m (match_sym x) (match_sym y) (eqb-true n b h)))

  -- sets that say the same by ids
  pub match_by : {m n : ℕ} → Marks 64 m (Seated us) → Marks 64 n (Seated vs) → ids_of us m ≡ ids_of vs n → Match us vs m n
  unfolding among
  match_by {m} {n} a b e = record {
    left = a;
    right = b;
    same = λ i j p. ap (λ (w : Place). seen w false (has m)) (sym p.left) ∙ sym (ids_has us m p.id) ∙ ap (member p.id) e ∙ ids_has vs n p.id ∙ ap (λ (w : Place). seen w false (has n)) p.right;
  }

  -- the places of listed users
  pub match_places : (ids : List ℕ) → Match us vs (places us ids) (places vs ids)
  match_places ids = record {
    left = places_seated us ids;
    right = places_seated vs ids;
    same = λ i j p. places_has us p.id i p.left (pair_low us vs t p) ids ∙ sym (places_has vs p.id j p.right (pair_high us vs t p) ids);
  }

  -- two places of the same name, both seated
  pub pair_by : (i j : ℕ) → Seated us i → Seated vs j → name us i ≡ name vs j → Pair us vs i j
  unfolding name
  pair_by i j h k e = record { id = get_or us.ids i 0; left = find_there us.ids t.left.apart i h; right = rw (sym e) at (find_there vs.ids t.right.apart j k) }
