-- The images that are taken are exactly those of good tables. Assumes nothing.
use Rattle.std.specs.Prelude.{if◌then◌else◌}
use mathlib.Core.Path.{◌≡◌, refl, sym, ap, ap₂, ◌∙◌}
use mathlib.Core.Bool.{Bool, true, false, ◌||◌, and-eq-true_iff, true≢false, false≢true}
use mathlib.Core.List.{List, [], ◌∷◌, ◌++◌, map}
use mathlib.Core.Option.{Option, none, some}
use Prim.Native.Nat.{ℕ, ◌<◌, ◌≤◌, ◌-◌}
use native.Mathlib.Omega.{arith}
use lib.Dec.{eqb}
use lib.ListN.{length, get_or, length-map, replicate}
use borrow.Author.Tests.{leb-true, le-leb, not-true}
use Rattle.cols_spec.specs.Sets.{has, any, all, each, member}
use Rattle.cols_spec.specs.Places.{Place, At, Nowhere, find, found, in_order, number}
use Rattle.cols_spec.proofs.Bools.{and_parts, and_both, or_elim, none≢some}
use Rattle.cols_spec.proofs.Members.{member_append}
use Rattle.cols_spec.proofs.Order.{in_order_has}
use Rattle.cols_spec.proofs.Rows.{find_holds, find_there}
use Rattle.cols_spec.proofs.Answers.{found_somewhere}
use Rattle.domain.specs.declared.channel.Kind.{Kind}
use Rattle.domain.specs.declared.channel.Kind.TheVariants.{Static, User, Private, Assigned}
use Rattle.domain.specs.declared.token.Holding.{Holding}
use Rattle.domain.specs.declared.token.Holding.TheVariants.{Free, Grabbed, Inhibited, Giving, Given}
use Rattle.domain.specs.declared.token.Token.{Token}
use Rattle.domain.specs.Cells.{no_channel, no_token, kind, hold}
use Rattle.domain.specs.Tables.{Users, Domain, name, link, channel, state, is_free, seen}
use Rattle.domain.specs.Channels.{places}
use Rattle.domain.specs.Good.{good}
use Rattle.domain_laws.specs.Same.{home_of, among, ids_of, Role, static, user_id, assigned, private_of, role_of, channel_at, Standing, nobody, grabbed, inhibited, giving, given, standing, token_at}
use Rattle.domain_laws.specs.View.{View, row, view, pick}
use Rattle.domain_laws.specs.Built.{padded, users_built, place, kind_built, channel_built, channels_built, holding_built, token_built, tokens_built, built, ascending, is_there, are_there, role_proper, standing_proper, proper, takes, TakenExactly}
use Rattle.domain.proofs.Listed.{places_has}
use Rattle.domain.proofs.invariant.Sound.{Seated, Held, Sound}
use Rattle.domain.proofs.invariant.Seats.{kind_of, marks_of, Low, hold_of}
use Rattle.domain.proofs.invariant.GoodIsSound.{good_sound, good_is, is_good}
use Rattle.domain_laws.proofs.same.Twins.{bool_ext, ids_has, twins_found}
use Rattle.domain_laws.proofs.same.Kinds.{Named, row_named, said_of}
use Rattle.domain_laws.proofs.same.Passing.{token_found}
use Rattle.domain.proofs.invariant.Held.{state_held}
use Rattle.domain_laws.proofs.restored.Listing.{mapped, rows_found, padded_size, in_order_in, zeros_none}
use Rattle.domain_laws.proofs.restored.Again.{mapped_same, seen_mapped, load_seen, or_else, in_order_found, user_names, users_few, twins_again}
use Rattle.domain_laws.proofs.restored.Restored.{channel_names, token_names, restored}
use Rattle.domain_laws.proofs.restored.Ascending.{up_member, up_keep, up_in_order, up_ext, pick_none, each_picked, all_pick, all_member, member_all, each_all}

-- the ids in use of a column that starts with ascending ids and is free from there on
names_in_order : (n : ℕ) (xs : List ℕ) → ascending 0 xs ≡ true → in_order (padded n 0 xs) ≡ xs
unfolding padded
names_in_order n xs a = up_ext 0 _ xs (up_in_order (xs ++ replicate (n - length xs) 0)) a (λ z. bool_ext _ _ (there z) (back z))
  where
    there : (z : ℕ) → member z (in_order (xs ++ replicate (n - length xs) 0)) ≡ true → member z xs ≡ true
    there z h =
        let r = in_order_in (xs ++ replicate (n - length xs) 0) z h in
        or_elim (member z xs) (member z (replicate (n - length xs) 0)) (sym (member_append z xs _) ∙ r.0) (λ q. q) (λ q. absurd (true≢false (sym q ∙ zeros_none z (n - length xs) r.1)))

    back : (z : ℕ) → member z xs ≡ true → member z (in_order (xs ++ replicate (n - length xs) 0)) ≡ true
    back z h = in_order_has (xs ++ replicate (n - length xs) 0) z (member_append z xs _ ∙ rw h) (up_member 0 xs z a h)

-- no row has the id 0; an id that has a row is picked
zero_none : {A : Type 0} (rs : List (ℕ × A)) → ascending 0 (map (λ r. r.0) rs) ≡ true → pick 0 rs ≡ none
zero_none rs a = pick_none 0 rs (go (member 0 (map (λ r. r.0) rs)) refl)
  where
    go : (b : Bool) → member 0 (map (λ r. r.0) rs) ≡ b → b ≡ false
    go true q = absurd (omega (arith, up_member 0 (map (λ r. r.0) rs) 0 a q))
    go false q = refl

picked_there : {A : Type 0} (x : ℕ) (rs : List (ℕ × A)) → member x (map (λ r. r.0) rs) ≡ true → pick x rs ≡ none → ⊥
unfolding pick member any
picked_there x [] m e = false≢true m
picked_there x (r ∷ rs) m e = go (eqb x r.0) m e (picked_there x rs)
  where
    go : (b : Bool) → (b || member x (map (λ r. r.0) rs)) ≡ true → (if b then some r.1 else pick x rs) ≡ none → (member x (map (λ r. r.0) rs) ≡ true → pick x rs ≡ none → ⊥) → ⊥
    go true m e rec = none≢some (sym e)
    go false m e rec = rec m e

-- ---- attached users, by their places and again by their ids

module _ (us : Users) (sized : length us.ids ≡ 64) where
  name_place : (g : ℕ) → is_there us g ≡ true → (name us (place us g) ≡ g) × (place us g < 64)
  unfolding is_there place name number
  name_place g h =
      let w = found_somewhere (find us.ids g) h in
      let r = find_holds us.ids g w.0 w.1 in
      rw w.1 (r.0, omega (arith, r.1, sized))

  ids_places : (is : List ℕ) → are_there us is ≡ true → ids_of us (places us is) ≡ is
  unfolding are_there ids_of is_there among found
  ids_places is h = up_ext 0 _ is (up_keep (among us (places us is)) 0 (in_order us.ids) (up_in_order us.ids)) q.0 (λ u. ids_has us (places us is) u ∙ go u (find us.ids u) refl)
    where
      q : (ascending 0 is ≡ true) × (all (λ u. found (find us.ids u)) is ≡ true)
      q = and_parts (ascending 0 is) _ h

      go : (u : ℕ) (w : Place) → find us.ids u ≡ w → among us (places us is) u ≡ member u is
      go u (At i) e = rw e (places_has us u i e (omega (arith, (find_holds us.ids u i e).1, sized)) is)
      go u Nowhere e = rw e (sym (none_there (member u is) refl))
        where
          none_there : (b : Bool) → member u is ≡ b → b ≡ false
          none_there true m = absurd (false≢true (sym (ap found e) ∙ all_member (λ u. found (find us.ids u)) is u q.1 m))
          none_there false m = refl

  role_back : (r : Role) → role_proper us r ≡ true → role_of us (kind_built us r) ≡ r
  unfolding role_proper role_of kind_built
  role_back static h = refl
  role_back user_id h = refl
  role_back assigned h = refl
  role_back (private_of g is) h = let q = and_parts (is_there us g) (are_there us is) h in ap₂ private_of (name_place g q.0).0 (ids_places is q.1)

  standing_back : (st : Standing) → standing_proper us st ≡ true → (standing us (holding_built us st) ≡ st) × Low (holding_built us st)
  unfolding standing_proper standing holding_built
  standing_back nobody h = absurd (false≢true h)
  standing_back (grabbed g) h = let a = name_place g h in (ap grabbed a.0, a.1)
  standing_back (inhibited is) h = (ap inhibited (ids_places is h), tt)
  standing_back (giving g r) h =
      let q = and_parts (is_there us g) (is_there us r) h in
      let a = name_place g q.0 in
      let b = name_place r q.1 in
      (ap₂ giving a.0 b.0, (a.1, b.1))
  standing_back (given r) h = let a = name_place r h in (ap given a.0, a.1)

-- ---- what is taken is the image of its tables

module _ (v : View) (small : length v.users ≤ 64) (a : ascending 0 (map (λ r. r.0) v.users) ≡ true) (b : ascending 0 (map (λ r. r.0) v.channels) ≡ true)
    (c : ascending 0 (map (λ r. r.0) v.tokens) ≡ true) (roles : all (λ r. role_proper (users_built v.users) r.1.0) v.channels ≡ true)
    (states : all (λ r. standing_proper (users_built v.users) r.1) v.tokens ≡ true) where
  abbrev us' : Users
  us' = users_built v.users

  sized : length us'.ids ≡ 64
  unfolding users_built
  sized = padded_size 64 0 (map (λ r. r.0) v.users) (omega (arith, length-map v.users (λ r. r.0), small))

  home_is : (u : ℕ) → home_of us' u ≡ pick u v.users
  unfolding home_of users_built link
  home_is u = rows_found (λ (p : ℕ). p) 64 0 16 v.users (zero_none v.users a) u ∙ mapped_same (pick u v.users)

  users_back : each (λ u. row u (home_of us' u)) (in_order us'.ids) ≡ v.users
  unfolding users_built
  users_back = ap (each (λ u. row u (home_of us' u))) (names_in_order 64 (map (λ r. r.0) v.users) a) ∙ each_picked (home_of us') 0 v.users a (λ u m. home_is u)

  -- channels
  put_back : (r : Role × ℕ) → role_proper us' r.0 ≡ true → said_of us' (channel_built us' r) ≡ r
  put_back r h = ap₂ (λ (z : Role) (m : ℕ). (z, m)) (ap (role_of us') (kind_of (kind_built us' r.0) r.1) ∙ role_back us' sized r.0 h) (marks_of (kind_built us' r.0) r.1)

  channel_is : (x : ℕ) → channel_at us' (channels_built us' v.channels) x ≡ pick x v.channels
  unfolding channel_at channels_built channel
  channel_is x =
      seen_mapped (said_of us') (λ j. get_or (channels_built us' v.channels).cells j no_channel) (find (channels_built us' v.channels).ids x)
      ∙ ap (mapped (said_of us')) (rows_found (channel_built us') 128 no_channel no_channel v.channels (zero_none v.channels b) x) ∙ go (pick x v.channels) refl
    where
      go : (o : Option (Role × ℕ)) → pick x v.channels ≡ o → mapped (said_of us') (mapped (channel_built us') o) ≡ o
      go none q = refl
      go (some r) q = ap some (put_back r (all_pick (λ r. role_proper us' r.0) x v.channels r roles q))

  channels_back : each (λ x. row x (channel_at us' (channels_built us' v.channels) x)) (in_order (channels_built us' v.channels).ids) ≡ v.channels
  unfolding channels_built
  channels_back =
      ap (each (λ x. row x (channel_at us' (channels_built us' v.channels) x))) (names_in_order 128 (map (λ r. r.0) v.channels) b)
      ∙ each_picked (channel_at us' (channels_built us' v.channels)) 0 v.channels b (λ x m. channel_is x)

  -- tokens
  token_is : (k : ℕ) (st : Standing) → pick k v.tokens ≡ some st → token_at us' (tokens_built us' v.tokens) k ≡ st
  unfolding token_at state tokens_built
  token_is k st q =
      let w = standing_back us' sized st (all_pick (standing_proper us') k v.tokens st states q) in
      ap (λ (t : Token). standing us' (hold t)) (load_seen (tokens_built us' v.tokens).cells (find (tokens_built us' v.tokens).ids k) no_token
      ∙ ap (or_else no_token) (rows_found (token_built us') 64 no_token no_token v.tokens (zero_none v.tokens c) k ∙ ap (mapped (token_built us')) q))
      ∙ ap (standing us') (hold_of (holding_built us' st) w.1) ∙ w.0

  tokens_back : each (λ k. row k (some (token_at us' (tokens_built us' v.tokens) k))) (in_order (tokens_built us' v.tokens).ids) ≡ v.tokens
  unfolding tokens_built
  tokens_back =
      ap (each (λ k. row k (some (token_at us' (tokens_built us' v.tokens) k)))) (names_in_order 64 (map (λ r. r.0) v.tokens) c)
      ∙ each_picked (λ k. some (token_at us' (tokens_built us' v.tokens) k)) 0 v.tokens c (λ k m. is k m (pick k v.tokens) refl)
    where
      is : (k : ℕ) → member k (map (λ r. r.0) v.tokens) ≡ true → (o : Option Standing) → pick k v.tokens ≡ o → some (token_at us' (tokens_built us' v.tokens) k) ≡ pick k v.tokens
      is k m none q = absurd (picked_there k v.tokens m q)
      is k m (some st) q = ap some (token_is k st q) ∙ sym q

  view_back : view (built v) ≡ v
  unfolding view built
  view_back = λ i. record { limits = v.limits; links = v.links; users = users_back i; channels = channels_back i; tokens = tokens_back i }

reads_back : (v : View) → proper v ≡ true → view (built v) ≡ v
unfolding proper
reads_back v h = let r = simp and-eq-true_iff at h in view_back v (leb-true _ _ r.0.0.0.0.0) r.0.0.0.0.1 r.0.0.0.1 r.0.0.1 r.0.1 r.1

-- ---- every good domain's image is taken

seen_found : (w : Place) (f : ℕ → Bool) → seen w false f ≡ true → found w ≡ true
unfolding found
seen_found (At i) f h = refl
seen_found Nowhere f h = h

module _ (d : Domain) (s : Sound d) where
  abbrev us : Users
  us = d.users

  abbrev vs : Users
  vs = users_built (view d).users

  there_again : (u : ℕ) → found (find us.ids u) ≡ true → is_there vs u ≡ true
  unfolding is_there
  there_again u h = twins_found vs us (twins_again d s) u ∙ h

  seated_again : (g : ℕ) → Seated us g → is_there vs (name us g) ≡ true
  unfolding name found
  seated_again g h = there_again (get_or us.ids g 0) (ap found (find_there us.ids s.users_are.apart g h))

  are_again : (m : ℕ) → are_there vs (ids_of us m) ≡ true
  unfolding are_there ids_of among
  are_again m = and_both (up_keep (among us m) 0 (in_order us.ids) (up_in_order us.ids))
      (member_all (is_there vs) (ids_of us m) (λ u h. there_again u (seen_found (find us.ids u) (has m) (sym (ids_has us m u) ∙ h))))

  role_again : (k : Kind) → Named us k → role_proper vs (role_of us k) ≡ true
  unfolding role_proper role_of
  role_again Static x = refl
  role_again User x = refl
  role_again (Private g m) x = and_both (seated_again g x.0) (are_again m)
  role_again Assigned x = refl

  standing_again : (h : Holding) → Held us h → is_free h ≡ false → standing_proper vs (standing us h) ≡ true
  unfolding standing_proper standing is_free
  standing_again Free x e = absurd (true≢false e)
  standing_again (Grabbed g) x e = seated_again g x
  standing_again (Inhibited m) x e = are_again m
  standing_again (Giving g r) x e = and_both (seated_again g x.0) (seated_again r x.1)
  standing_again (Given r) x e = seated_again r x

  roles_again : all (λ r. role_proper vs r.1.0) (view d).channels ≡ true
  unfolding view channel_at channel all
  roles_again = each_all (λ r. role_proper (users_built (view d).users) r.1.0) (λ c. row c (channel_at us d.channels c)) (in_order d.channels.ids) (λ c m. go c (find d.channels.ids c) refl)
    where
      go : (c : ℕ) (w : Place) → find d.channels.ids c ≡ w
          → all (λ (r : ℕ × (Role × ℕ)). role_proper vs r.1.0) (row c (seen (find d.channels.ids c) none (λ j. some (role_of us (kind (channel d.channels j)), (channel d.channels j).marks)))) ≡ true
      go c (At j) e = let h = find_holds d.channels.ids c j e in rw e (and_both (role_again _ (row_named (s.channels_are.rows j (rw h.0 h.2)))) refl)
      go c Nowhere e = rw e

  states_again : all (λ r. standing_proper vs r.1) (view d).tokens ≡ true
  unfolding view token_at all
  states_again = each_all (λ r. standing_proper (users_built (view d).users) r.1) (λ k. row k (some (token_at us d.tokens k))) (in_order d.tokens.ids) (λ k m.
      and_both (standing_again (state d.tokens k) (state_held d s k) (not-true (is_free (state d.tokens k)) (sym (token_found d s k) ∙ in_order_found d.tokens.ids k m))) refl)

  proper_again : proper (view d) ≡ true
  unfolding proper
  proper_again = and_both (and_both (and_both (and_both (and_both (le-leb _ _ (users_few d s)) (ap (ascending 0) (user_names d s) ∙ up_in_order us.ids)) (ap (ascending 0) (channel_names d s) ∙ up_in_order d.channels.ids)) (ap (ascending 0) (token_names d s) ∙ up_in_order d.tokens.ids)) roles_again) states_again

pub taken : TakenExactly
unfolding takes
taken = (
  λ v h. let q = and_parts (proper v) (good (built v)) h in (good_is (built v) q.1, reads_back v q.0),
  λ d g. and_both (proper_again d (good_sound d g)) (is_good (built (view d)) (restored d g).good),
)
