-- The tables of the image of d say what d says. Assumes nothing.
use mathlib.Core.Path.{◌≡◌, refl, sym, ap, ap₂, ◌∙◌}
use mathlib.Core.Bool.{Bool, true, false, false≢true}
use mathlib.Core.List.{List, map}
use mathlib.Core.Option.{Option, none, some}
use Prim.Native.Nat.{ℕ, ◌≤◌}
use native.Mathlib.Omega.{arith}
use lib.ListN.{length, get_or}
use Rattle.cols_spec.specs.Sets.{has, member}
use Rattle.cols_spec.specs.Places.{Place, At, Nowhere, find, found, in_order, number, load}
use Rattle.cols_spec.proofs.Marks.{Marks}
use Rattle.cols_spec.proofs.Rows.{At≢Nowhere, find_holds, find_there}
use Rattle.domain.specs.declared.channel.Kind.{Kind}
use Rattle.domain.specs.declared.channel.Kind.TheVariants.{Static, User, Private, Assigned}
use Rattle.domain.specs.declared.token.Holding.{Holding}
use Rattle.domain.specs.declared.token.Holding.TheVariants.{Free, Grabbed, Inhibited, Giving, Given}
use Rattle.domain.specs.declared.token.Token.{Token}
use Rattle.domain.specs.Cells.{no_channel, no_token, kind, hold}
use Rattle.domain.specs.Tables.{Users, Domain, name, link, channel, state, seen}
use Rattle.domain.specs.Channels.{places}
use Rattle.domain_laws.specs.Same.{home_of, among, ids_of, Role, role_of, channel_at, Standing, nobody, standing, token_at, Same}
use Rattle.domain_laws.specs.View.{View, view, pick, or_nobody}
use Rattle.domain_laws.specs.Built.{users_built, place, kind_built, channel_built, channels_built, holding_built, token_built, tokens_built, built}
use Rattle.domain.proofs.Listed.{places_has}
use Rattle.domain.proofs.invariant.Sound.{Seated, Held, Sound}
use Rattle.domain.proofs.invariant.Seats.{kind_of, marks_of, Low, hold_of}
use Rattle.domain.proofs.invariant.Joins.{places_seated}
use Rattle.domain.proofs.invariant.Held.{state_held}
use Rattle.domain_laws.proofs.same.Orders.{in_list_found}
use Rattle.domain_laws.proofs.same.Twins.{Crowd, crowd_of, Twins, Pair, Match, Where, there, nowhere, where_is, pair_low, ids_has}
use Rattle.domain_laws.proofs.same.Holdings.{Twin, both_free, both_grabbed, both_inhibited, both_giving, both_given, twin_says}
use Rattle.domain_laws.proofs.same.Kinds.{KindTwin, both_static, both_user, both_private, both_assigned, Named, row_named, kind_says, said_of}
use Rattle.domain_laws.proofs.same.Views.{pick_row, users_picked, channels_picked, tokens_picked}
use Rattle.domain_laws.proofs.restored.Listing.{mapped, rows_found, in_order_in, names_of, rows_few, built_table}

-- ---- small facts

pub in_order_found : (ids : List ℕ) (x : ℕ) → member x (in_order ids) ≡ true → found (find ids x) ≡ true
in_order_found ids x h = let r = in_order_in ids x h in in_list_found ids x r.1 r.0

no_zero : (ids : List ℕ) → member 0 (in_order ids) ≡ false
no_zero ids = go (member 0 (in_order ids)) refl
  where
    go : (b : Bool) → member 0 (in_order ids) ≡ b → b ≡ false
    go true q = absurd (omega (arith, (in_order_in ids 0 q).1))
    go false q = refl

free_says : (us : Users) → standing us (hold no_token) ≡ nobody
unfolding hold standing
free_says us = refl

pub mapped_same : {A : Type 0} (o : Option A) → mapped (λ a. a) o ≡ o
mapped_same none = refl
mapped_same (some a) = refl

pub seen_mapped : {A B : Type 0} (f : (A → B)) (g : (ℕ → A)) (w : Place) → seen w none (λ j. some (f (g j))) ≡ mapped f (seen w none (λ j. some (g j)))
seen_mapped f g (At i) = refl
seen_mapped f g Nowhere = refl

-- something is said of what is found
pub some_there : {A : Type 0} (w : Place) (f : ℕ → A) → found w ≡ true → seen w none (λ i. some (f i)) ≡ none → ⊥
unfolding found
some_there (At i) f h e = let z : ◌≡◌ {A = ℕ} 0 1 = cc in omega (arith, z)
some_there Nowhere f h e = false≢true h

-- what is said, else z
abbrev pub or_else : {A : Type 0} → A → Option A → A
or_else z none = z
or_else z (some a) = a

pub load_seen : {A : Type 0} (cells : List A) (w : Place) (z : A) → load cells w z ≡ or_else z (seen w none (λ j. some (get_or cells j z)))
unfolding load
load_seen cells (At i) z = refl
load_seen cells Nowhere z = refl

-- ---- no row has the id 0

module _ (d : Domain) where
  users_none : pick 0 (view d).users ≡ none
  unfolding home_of find
  users_none = users_picked d 0

  pub channels_none : pick 0 (view d).channels ≡ none
  unfolding channel_at find
  channels_none = channels_picked d 0

  pub tokens_none : pick 0 (view d).tokens ≡ none
  unfolding view
  tokens_none = pick_row 0 (λ k. some (token_at d.users d.tokens k)) (in_order d.tokens.ids) ∙ rw (no_zero d.tokens.ids)

-- ---- the tables of the image of d

module _ (d : Domain) (s : Sound d) where
  abbrev us : Users
  us = d.users

  abbrev v : View
  v = view d

  abbrev us' : Users
  us' = users_built v.users

  -- ---- users

  home_again : (u : ℕ) → home_of us' u ≡ home_of us u
  unfolding home_of users_built link
  home_again u = rows_found (λ (p : ℕ). p) 64 0 16 v.users (users_none d) u ∙ mapped_same (pick u v.users) ∙ users_picked d u

  pub user_names : map (λ r. r.0) v.users ≡ in_order us.ids
  unfolding view home_of
  user_names = names_of (home_of us) (in_order us.ids) (λ x m e. some_there (find us.ids x) (link us) (in_order_found us.ids x m) e)

  pub users_few : length v.users ≤ 64
  users_few = rows_few (λ (p : ℕ). p) 64 0 v.users us.ids user_names s.users_are.ids_size

  crowd_again : Crowd us'
  unfolding users_built
  crowd_again =
      let w = built_table (λ (p : ℕ). p) 64 0 v.users us.ids user_names s.users_are.ids_size d.limits.users (λ i u p. Unit {0}) s.users_are.counted (λ i h. tt) in
      record { ids_size = w.ids_size; at_size = w.cells_size; apart = w.apart }

  pub twins_again : Twins us' us
  twins_again = record { left = crowd_again; right = crowd_of d s; homes = home_again }

  -- the places of one user, and of a set of users, in both
  pub pair_again : (g : ℕ) → Seated us g → Pair us' us (place us' (name us g)) g
  unfolding place name number
  pair_again g h = go (where_is us' us twins_again (get_or us.ids g 0))
    where
      here : find us.ids (get_or us.ids g 0) ≡ At g
      here = find_there us.ids s.users_are.apart g h

      go : Where us' us (get_or us.ids g 0) → Pair us' us (number 64 (find us'.ids (get_or us.ids g 0))) g
      go (there e f l) = record { id = get_or us.ids g 0; left = e ∙ ap At (sym (ap (number 64) e)); right = here }
      go (nowhere e f) = absurd (At≢Nowhere (sym f ∙ here))

  pub match_again : (m : ℕ) → Marks 64 m (Seated us) → Match us' us (places us' (ids_of us m)) m
  unfolding among
  match_again m x = record {
    left = places_seated us' (ids_of us m);
    right = x;
    same = λ i j p. places_has us' p.id i p.left (pair_low us' us twins_again p) (ids_of us m) ∙ ids_has us m p.id ∙ ap (λ (w : Place). seen w false (has m)) p.right;
  }

  -- ---- channels

  kind_again : (k : Kind) → Named us k → KindTwin us' us (kind_built us' (role_of us k)) k
  unfolding kind_built role_of
  kind_again Static x = both_static
  kind_again User x = both_user
  kind_again (Private g m) x = both_private (pair_again g x.0) (match_again m x.1)
  kind_again Assigned x = both_assigned

  pub channel_again : (c : ℕ) → channel_at us' (channels_built us' v.channels) c ≡ channel_at us d.channels c
  unfolding channel_at channels_built channel
  channel_again c =
      seen_mapped (said_of us') (λ j. get_or (channels_built us' v.channels).cells j no_channel) (find (channels_built us' v.channels).ids c)
      ∙ ap (mapped (said_of us')) (rows_found (channel_built us') 128 no_channel no_channel v.channels (channels_none d) c)
      ∙ ap (λ (o : Option (Role × ℕ)). mapped (said_of us') (mapped (channel_built us') o)) (channels_picked d c) ∙ go (find d.channels.ids c) refl
    where
      go : (w : Place) → find d.channels.ids c ≡ w
          → mapped (said_of us') (mapped (channel_built us') (seen (find d.channels.ids c) none (λ j. some (said_of us (channel d.channels j))))) ≡ seen (find d.channels.ids c) none (λ j. some (said_of us (channel d.channels j)))
      go (At j) e =
          let h = find_holds d.channels.ids c j e in
          let k = kind (channel d.channels j) in
          let n : Named us (kind (get_or d.channels.cells j no_channel)) = row_named (s.channels_are.rows j (rw h.0 h.2)) in
          rw e (ap some (ap₂ (λ (z : Role) (m : ℕ). (z, m)) (ap (role_of us') (kind_of (kind_built us' (role_of us k)) _) ∙ kind_says us' us twins_again (kind_again k n)) (marks_of (kind_built us' (role_of us k)) _)))
      go Nowhere e = rw e

  -- ---- tokens

  pub hold_again : (h : Holding) → Held us h → Twin us' us (holding_built us' (standing us h)) h
  unfolding holding_built standing
  hold_again Free x = both_free
  hold_again (Grabbed g) x = both_grabbed (pair_again g x)
  hold_again (Inhibited m) x = both_inhibited (match_again m x.1)
  hold_again (Giving g r) x = both_giving (pair_again g x.0) (pair_again r x.1)
  hold_again (Given r) x = both_given (pair_again r x)

  twin_low : {h k : Holding} → Twin us' us h k → Low h
  twin_low both_free = tt
  twin_low (both_grabbed p) = pair_low us' us twins_again p
  twin_low (both_inhibited x) = tt
  twin_low (both_giving p q) = (pair_low us' us twins_again p, pair_low us' us twins_again q)
  twin_low (both_given p) = pair_low us' us twins_again p

  kept_again : (h : Holding) → Held us h → standing us' (hold (token_built us' (standing us h))) ≡ standing us h
  kept_again h x = let w = hold_again h x in ap (standing us') (hold_of (holding_built us' (standing us h)) (twin_low w)) ∙ twin_says us' us twins_again w

  token_again : (k : ℕ) → token_at us' (tokens_built us' v.tokens) k ≡ token_at us d.tokens k
  unfolding token_at state tokens_built or_nobody
  token_again k =
      ap (λ (t : Token). standing us' (hold t)) (load_seen (tokens_built us' v.tokens).cells (find (tokens_built us' v.tokens).ids k) no_token
      ∙ ap (or_else no_token) (rows_found (token_built us') 64 no_token no_token v.tokens (tokens_none d) k))
      ∙ go (pick k v.tokens) (tokens_picked d k) ∙ tokens_picked d k
    where
      go : (o : Option Standing) → or_nobody o ≡ token_at us d.tokens k → standing us' (hold (or_else no_token (mapped (token_built us') o))) ≡ or_nobody o
      go none q = free_says us'
      go (some st) q = rw q (kept_again (state d.tokens k) (state_held d s k))

  -- the tables as a whole
  pub same_again : Same (built (view d)) d
  unfolding built view
  same_again = record { limits = refl; links = refl; users = home_again; channels = channel_again; tokens = token_again }
