-- What the lists of a view say of each id is what the tables say. So tables say the same exactly where their lists are equal. Assumes nothing.
use Rattle.std.specs.Prelude.{if◌then◌else◌}
use mathlib.Core.Path.{◌≡◌, refl, sym, ap, ◌∙◌}
use mathlib.Core.Bool.{Bool, true, false, ◌||◌}
use mathlib.Core.List.{List, [], ◌∷◌, ◌++◌}
use mathlib.Core.Option.{Option, none, some}
use Prim.Native.Nat.{ℕ}
use lib.Dec.{eqb}
use borrow.Author.Tests.{eqb-true}
use Rattle.cols_spec.specs.Sets.{any, each, member}
use Rattle.cols_spec.specs.Places.{Place, At, Nowhere, find, in_order, load}
use Rattle.domain.specs.Cells.{no_token, hold}
use Rattle.domain.specs.Tables.{Domain, state}
use Rattle.domain_laws.specs.Same.{home_of, channel_at, Standing, nobody, standing, token_at, Same}
use Rattle.domain_laws.specs.View.{View, row, view, pick, or_nobody, ViewsEqual}
use Rattle.domain.proofs.invariant.Sound.{Sound}
use Rattle.domain.proofs.invariant.GoodIsSound.{good_sound}
use Rattle.domain_laws.proofs.same.Orders.{found_in_order, each_in_order}
use Rattle.domain_laws.proofs.same.Passing.{tokens_found}
use Rattle.domain_laws.proofs.same.Kinds.{channels_found}
use Rattle.domain_laws.proofs.same.Leaving.{users_found}

-- ---- what a list says of an id

if_same : {A : Type 0} (b : Bool) {x y : A} → y ≡ x → (if b then x else y) ≡ x
if_same true e = refl
if_same false e = e

module _ {A : Type 0} where
  -- of rows for some ids
  pub pick_row : (x : ℕ) (f : ℕ → Option A) (xs : List ℕ) → pick x (each (λ u. row u (f u)) xs) ≡ (if member x xs then f x else none)
  unfolding pick each member any
  pick_row x f [] = refl
  pick_row x f (y ∷ xs) = go (eqb x y) refl (f y) refl (pick_row x f xs)
    where
      rest : List (ℕ × A)
      rest = each (λ u. row u (f u)) xs

      go : (b : Bool) → eqb x y ≡ b → (o : Option A) → f y ≡ o → pick x rest ≡ (if member x xs then f x else none) → pick x (row y o ++ rest) ≡ (if b || member x xs then f x else none)
      go true e none q h = h ∙ if_same (member x xs) (sym (ap f (eqb-true x y e) ∙ q))
      go true e (some a) q h = rw e (sym (ap f (eqb-true x y e) ∙ q))
      go false e none q h = h
      go false e (some a) q h = rw e h

  -- of rows for every id in use, where nothing is said of any other
  pick_all : (ids : List ℕ) (f : ℕ → Option A) (x : ℕ) → (find ids x ≡ Nowhere → f x ≡ none) → pick x (each (λ u. row u (f u)) (in_order ids)) ≡ f x
  pick_all ids f x none_else = pick_row x f (in_order ids) ∙ go (find ids x) refl
    where
      go : (w : Place) → find ids x ≡ w → (if member x (in_order ids) then f x else none) ≡ f x
      go (At i) e = rw (found_in_order ids x i e)
      go Nowhere e = if_same (member x (in_order ids)) (sym (none_else e))

-- ---- what the lists of a view say

module _ (d : Domain) where
  pub users_picked : (u : ℕ) → pick u (view d).users ≡ home_of d.users u
  unfolding view home_of
  users_picked u = pick_all d.users.ids (home_of d.users) u (λ e. rw e)

  pub channels_picked : (c : ℕ) → pick c (view d).channels ≡ channel_at d.users d.channels c
  unfolding view channel_at
  channels_picked c = pick_all d.channels.ids (channel_at d.users d.channels) c (λ e. rw e)

  pub tokens_picked : (k : ℕ) → or_nobody (pick k (view d).tokens) ≡ token_at d.users d.tokens k
  unfolding view or_nobody token_at state load hold standing
  tokens_picked k = ap or_nobody (pick_row k (λ k. some (token_at d.users d.tokens k)) (in_order d.tokens.ids)) ∙ go (find d.tokens.ids k) refl
    where
      unlisted : (b : Bool) → token_at d.users d.tokens k ≡ nobody → or_nobody (if b then some (token_at d.users d.tokens k) else none) ≡ token_at d.users d.tokens k
      unlisted true q = refl
      unlisted false q = sym q

      go : (w : Place) → find d.tokens.ids k ≡ w → or_nobody (if member k (in_order d.tokens.ids) then some (token_at d.users d.tokens k) else none) ≡ token_at d.users d.tokens k
      go (At i) e = rw (found_in_order d.tokens.ids k i e)
      go Nowhere e = unlisted (member k (in_order d.tokens.ids)) (ap (λ (w : Place). standing d.users (hold (load d.tokens.cells w no_token))) e)

-- ---- both ways

same_view : (d e : Domain) → Sound d → Sound e → Same d e → view d ≡ view e
unfolding view
same_view d e s r x = λ i. record {
  limits = x.limits i;
  links = x.links i;
  users = each_in_order d.users.ids e.users.ids (users_found d e s r x) _ _ (λ u. ap (row u) (x.users u)) i;
  channels = each_in_order d.channels.ids e.channels.ids (channels_found d e s r x) _ _ (λ c. ap (row c) (x.channels c)) i;
  tokens = each_in_order d.tokens.ids e.tokens.ids (tokens_found d e s r x) _ _ (λ k. ap (λ (s : Standing). row k (some s)) (x.tokens k)) i;
}

-- the tables need not even be good
view_same : (d e : Domain) → view d ≡ view e → Same d e
unfolding view
view_same d e q = record {
  limits = ap (λ (v : View). v.limits) q;
  links = ap (λ (v : View). v.links) q;
  users = λ u. sym (users_picked d u) ∙ ap (λ (v : View). pick u v.users) q ∙ users_picked e u;
  channels = λ c. sym (channels_picked d c) ∙ ap (λ (v : View). pick c v.channels) q ∙ channels_picked e c;
  tokens = λ k. sym (tokens_picked d k) ∙ ap (λ (v : View). or_nobody (pick k v.tokens)) q ∙ tokens_picked e k;
}

pub views : ViewsEqual
views d e g h = (same_view d e (good_sound d g) (good_sound e h), view_same d e)
