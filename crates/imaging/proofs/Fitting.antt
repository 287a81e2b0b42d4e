-- The lists of good tables fit the octets of an image, and how many rows and users they have. Assumes nothing.
use mathlib.Core.Path.{◌≡◌, refl, sym, ◌∙◌}
use mathlib.Core.Bool.{true, false, or-true, true≢false}
use mathlib.Core.List.{List, [], ◌∷◌, ◌++◌}
use mathlib.Core.Option.{Option, none, some}
use Prim.Native.Nat.{ℕ, ◌<◌, ◌≤◌}
use native.Mathlib.Omega.{arith}
use lib.Dec.{eqb}
use lib.ListN.{length, get_or}
use borrow.Author.Tests.{eq-eqb, not-true}
use Rattle.cols_spec.specs.Places.{Place, At, Nowhere, find, in_order}
use Rattle.cols_spec.specs.Sets.{any, each, member}
use Rattle.cols_spec.proofs.Answers.{found_somewhere}
use Rattle.cols_spec.proofs.Bools.{and_parts, none≢some}
use Rattle.cols_spec.proofs.Marks.{has_low}
use Rattle.cols_spec.proofs.Members.{member_keep}
use Rattle.cols_spec.proofs.Order.{keep_le, in_order_length}
use Rattle.cols_spec.proofs.Rows.{find_holds, get_d_any}
use Rattle.domain.specs.declared.channel.Kind.{Kind}
use Rattle.domain.specs.declared.channel.Kind.TheVariants.{Static, User, Private, Assigned}
use Rattle.domain.specs.declared.token.Holding.{Holding}
use Rattle.domain.specs.declared.token.Holding.TheVariants.{Free, Grabbed, Inhibited, Giving, Given}
use Rattle.domain.specs.Cells.{kind}
use Rattle.domain.specs.Tables.{Users, Domain, name, link, channel, state, is_free, seen}
use Rattle.domain_laws.specs.Same.{home_of, among, ids_of, Role, static, user_id, assigned, private_of, role_of, channel_at, Standing, nobody, grabbed, inhibited, giving, given, standing, token_at}
use Rattle.domain_laws.specs.View.{row, view}
use Rattle.domain.proofs.invariant.Sound.{Seated, Held, UserRow, Sound}
use Rattle.domain.proofs.invariant.Held.{state_held}
use Rattle.domain_laws.proofs.same.Kinds.{Named, row_named, row_high}
use Rattle.domain_laws.proofs.same.Passing.{token_found}
use Rattle.domain_laws.proofs.restored.Listing.{rows_size}
use Rattle.domain_laws.proofs.restored.Again.{in_order_found, user_names}
use Rattle.domain_laws.proofs.restored.Restored.{channel_names, token_names}
use Rattle.imaging.proofs.Parts.{All}
use Rattle.imaging.proofs.Rows.{FitsTwo}

-- ---- lists of which each element is so

-- where every member is so
pub all_members : (P : ℕ → Type 0) (xs : List ℕ) → ((u : ℕ) → member u xs ≡ true → P u) → All P xs
unfolding member any
all_members P [] f = tt
all_members P (x ∷ xs) f = (f x (rw (eq-eqb x x refl)), all_members P xs (λ u h. f u (rw h (or-true (eqb u x)))))

-- where every row that is listed is so
pub all_rows : {A : Type 0} (P : ℕ × A → Type 0) (f : ℕ → Option A) (xs : List ℕ) → ((x : ℕ) → member x xs ≡ true → (a : A) → f x ≡ some a → P (x, a)) → All P (each (λ x. row x (f x)) xs)
unfolding each member any
all_rows P f [] h = tt
all_rows {A} P f (x ∷ xs) h = go (f x) refl (all_rows P f xs (λ u m. h u (rw m (or-true (eqb u x)))))
  where
    go : (o : Option A) → f x ≡ o → All P (each (λ x. row x (f x)) xs) → All P (row x o ++ each (λ x. row x (f x)) xs)
    go none e r = r
    go (some a) e r = (h x (rw (eq-eqb x x refl)) a e, r)

-- what is said of a place that is found
at_place : {A : Type 0} (w : Place) (f : ℕ → A) (a : A) → seen w none (λ j. some (f j)) ≡ some a → (j : ℕ) × (w ≡ At j) × (f j ≡ a)
at_place (At j) f a e = (j, refl, cc)
at_place Nowhere f a e = absurd (none≢some e)

-- ids of at most n users
pub record Ids (n : ℕ) (is : List ℕ) : Type 0 where
  pub short : All FitsTwo is
  pub few : length is ≤ n

-- what a channel's row names: ids in two octets, and at most n users admitted
abbrev pub RoleOf : ℕ → Role → Type 0
RoleOf n static = Unit {0}
RoleOf n user_id = Unit {0}
RoleOf n (private_of g is) = FitsTwo g × Ids n is
RoleOf n assigned = Unit {0}

-- what a token's row names: ids in two octets, and at most n inhibitors
abbrev pub StandingOf : ℕ → Standing → Type 0
StandingOf n nobody = ⊥
StandingOf n (grabbed g) = FitsTwo g
StandingOf n (inhibited is) = Ids n is
StandingOf n (giving g r) = FitsTwo g × FitsTwo r
StandingOf n (given r) = FitsTwo r

-- at most n users are at most 64
module _ (n : ℕ) (l : n ≤ 64) where
  ids_wider : (is : List ℕ) → Ids n is → Ids 64 is
  ids_wider is h = record { short = h.short; few = omega (arith, h.few) }

  pub role_wider : (k : Role) → RoleOf n k → RoleOf 64 k
  role_wider static h = h
  role_wider user_id h = h
  role_wider (private_of g is) h = (h.0, ids_wider is h.1)
  role_wider assigned h = h

  pub standing_wider : (t : Standing) → StandingOf n t → StandingOf 64 t
  standing_wider nobody h = h
  standing_wider (grabbed g) h = h
  standing_wider (inhibited is) h = ids_wider is h
  standing_wider (giving g r) h = h
  standing_wider (given r) h = h

module _ (d : Domain) (s : Sound d) where
  abbrev us : Users
  us = d.users

  -- how many users there are
  abbrev pub crowd : ℕ
  crowd = length (view d).users

  pub crowd_is : crowd ≡ length (in_order us.ids)
  crowd_is = rows_size (view d).users _ (user_names d s)

  -- the rules of a user that is found
  pub user_row_of : (u i : ℕ) → find us.ids u ≡ At i → UserRow d.links d.channels i u (get_or us.at i 0)
  user_row_of u i e = let r = find_holds us.ids u i e in rw r.0 at (s.users_are.rows i (rw r.0 r.2))

  user_short : (u : ℕ) → member u (in_order us.ids) ≡ true → FitsTwo u
  user_short u h = let w = found_somewhere (find us.ids u) (in_order_found us.ids u h) in omega (arith, (user_row_of u w.0 w.1).high)

  name_short : (g : ℕ) → Seated us g → FitsTwo (name us g)
  unfolding name
  name_short g h = omega (arith, (s.users_are.rows g h).high)

  -- the users at the places of a mask
  ids_fit : (m : ℕ) → Ids crowd (ids_of us m)
  unfolding ids_of
  ids_fit m = record {
    short = all_members FitsTwo _ (λ u h. user_short u (and_parts (among us m u) _ (sym (member_keep (among us m) u (in_order us.ids)) ∙ h)).1);
    few = omega (arith, crowd_is, keep_le (among us m) (in_order us.ids));
  }

  role_fits : (k : Kind) → Named us k → RoleOf crowd (role_of us k)
  unfolding role_of
  role_fits Static x = tt
  role_fits User x = tt
  role_fits (Private g adm) x = (name_short g x.0, ids_fit adm)
  role_fits Assigned x = tt

  standing_fits : (h : Holding) → Held us h → is_free h ≡ false → StandingOf crowd (standing us h)
  unfolding standing is_free
  standing_fits Free x e = absurd (true≢false e)
  standing_fits (Grabbed g) x e = name_short g x
  standing_fits (Inhibited m) x e = ids_fit m
  standing_fits (Giving g r) x e = (name_short g x.0, name_short r x.1)
  standing_fits (Given r) x e = name_short r x

  -- ---- the three lists

  pub users_fit : All (λ (r : ℕ × ℕ). FitsTwo r.0 × (r.1 < 16)) (view d).users
  unfolding view home_of link
  users_fit = all_rows (λ r. FitsTwo r.0 × (r.1 < 16)) (home_of us) (in_order us.ids) (λ u m p e.
      let w = at_place (find us.ids u) (link us) p e in
      let h = find_holds us.ids u w.0 w.1 in
      let q = get_d_any us.at w.0 0 16 (omega (arith, h.1, s.users_are.ids_size, s.users_are.cells_size)) in
      (user_short u m, has_low 16 d.links p s.links_fit (rw (← w.2, ← q) (user_row_of u w.0 w.1).linked)))

  pub channels_fit : All (λ (r : ℕ × (Role × ℕ)). FitsTwo r.0 × RoleOf crowd r.1.0 × FitsTwo r.1.1) (view d).channels
  unfolding view channel_at channel
  channels_fit = all_rows (λ r. FitsTwo r.0 × RoleOf crowd r.1.0 × FitsTwo r.1.1) (channel_at us d.channels) (in_order d.channels.ids) (λ c m a e.
      let w = at_place (find d.channels.ids c) (λ j. (role_of us (kind (channel d.channels j)), (channel d.channels j).marks)) a e in
      let h = find_holds d.channels.ids c w.0 w.1 in
      let r = s.channels_are.rows w.0 (rw h.0 h.2) in
      rw (← w.2) (omega (arith, row_high r, h.0), role_fits _ (row_named r), r.joins.fits))

  pub tokens_fit : All (λ (r : ℕ × Standing). FitsTwo r.0 × StandingOf crowd r.1) (view d).tokens
  unfolding view token_at
  tokens_fit = all_rows (λ r. FitsTwo r.0 × StandingOf crowd r.1) (λ k. some (token_at us d.tokens k)) (in_order d.tokens.ids) (λ k m a e.
      let w = found_somewhere (find d.tokens.ids k) (in_order_found d.tokens.ids k m) in
      let h = find_holds d.tokens.ids k w.0 w.1 in
      let z : standing us (state d.tokens k) ≡ a = cc in
      rw (← z) (
        omega (arith, (s.tokens_are.rows w.0 (rw h.0 h.2)).small, h.0),
        standing_fits (state d.tokens k) (state_held d s k) (not-true (is_free (state d.tokens k)) (sym (token_found d s k) ∙ in_order_found d.tokens.ids k m)),
      ))

  pub channels_few : length (view d).channels ≤ 128
  channels_few = omega (arith, rows_size (view d).channels _ (channel_names d s), in_order_length d.channels.ids, s.channels_are.ids_size)

  pub tokens_few : length (view d).tokens ≤ 64
  tokens_few = omega (arith, rows_size (view d).tokens _ (token_names d s), in_order_length d.tokens.ids, s.tokens_are.ids_size)
