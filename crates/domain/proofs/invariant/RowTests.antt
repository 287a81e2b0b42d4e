-- The test of one place of a table and its rule say the same. Assumes nothing.
use mathlib.Core.Path.{◌≡◌, refl, sym, ap, ◌∙◌, subst}
use mathlib.Core.Bool.{Bool, true, false, not, ◌&&◌, ◌||◌, true≢false, false≢true, and-eq-true_iff}
use mathlib.Core.List.{[]}
use Prim.Native.Nat.{ℕ, ◌≤◌, ◌<◌, ◌^◌}
use native.Mathlib.Omega.{arith}
use lib.Dec.{eqb, leb, ltb}
use lib.ListN.{length}
use borrow.Author.Tests.{eq-eqb, eqb-true, leb-true, ltb-true, lt-ltb, le-leb}
use Rattle.cols_spec.specs.Sets.{all, below, has, with, only, meet, connections, seats}
use Rattle.cols_spec.specs.Places.{Place, At, Nowhere, find, load}
use Rattle.cols_spec.proofs.Bools.{and_parts, and_both}
use Rattle.cols_spec.proofs.Below.{all_upto, all_hit, any_hit}
use Rattle.cols_spec.proofs.Digits.{mask_ext, has_those, those_lt}
use Rattle.cols_spec.proofs.Marks.{Marks, has_low, in_meet, in_only, only_self, marks_map}
use Rattle.cols_spec.proofs.Rows.{Apart, find_holds, find_is, in_list, get_d_any}
use Rattle.domain.specs.declared.channel.Kind.{Kind}
use Rattle.domain.specs.declared.channel.Kind.TheVariants.{Static, User, Private, Assigned}
use Rattle.domain.specs.declared.channel.Channel.{Channel}
use Rattle.domain.specs.declared.token.Holding.{Holding}
use Rattle.domain.specs.declared.token.Holding.TheVariants.{Free, Grabbed, Inhibited, Giving, Given}
use Rattle.domain.specs.declared.token.Token.{Token}
use Rattle.domain.specs.Cells.{no_channel, kind, channel_of, hold, token_of}
use Rattle.domain.specs.Tables.{Users, Channels, name, link, hosts, is_free, between}
use Rattle.domain.specs.Good.{inside, seated, all_seated, channel_sound, token_sound, is_user, same_channel, same_token}
use Rattle.domain.proofs.invariant.Sound.{Seated, Host, Owned, UserRow, Home, Sort, ChannelRow, Held, TokenRow, between_is, is_between}
use Rattle.domain.proofs.invariant.Rooms.{in_hosts}

-- ---- the numbers of a place

-- a number is itself
self : (n : ℕ) → eqb n n ≡ true
self n = eq-eqb n n refl

-- the same numbers are the same channel, and the other way
pub same_channel_is : (a b : Channel) → same_channel a b ≡ true → a ≡ b
unfolding same_channel
same_channel_is a b h =
    let r = simp and-eq-true_iff at h in
    λ i. record {
      role = eqb-true a.role b.role r.0.0.0 i;
      chair = eqb-true a.chair b.chair r.0.0.1 i;
      guests = eqb-true a.guests b.guests r.0.1 i;
      marks = eqb-true a.marks b.marks r.1 i;
    }

pub is_same_channel : (a b : Channel) → a ≡ b → same_channel a b ≡ true
unfolding same_channel
is_same_channel a b e = rw e (simp self)

-- the same numbers are the same token, and the other way
pub same_token_is : (a b : Token) → same_token a b ≡ true → a ≡ b
unfolding same_token
same_token_is a b h = let r = simp and-eq-true_iff at h in λ i. record { mode = eqb-true a.mode b.mode r.0 i; value = eqb-true a.value b.value r.1 i }

pub is_same_token : (a b : Token) → a ≡ b → same_token a b ≡ true
unfolding same_token
is_same_token a b e = rw e (simp self)

-- an id within a range, and a further test
ranged : (a b c : ℕ) (t : Bool) → (between a b c && t) ≡ true → (a ≤ c) × (c ≤ b) × (t ≡ true)
ranged a b c t h = let r = and_parts (between a b c) t h in let q = between_is a b c r.0 in (q.0, q.1, r.1)

-- ---- masks

-- a mask with nothing but what n has, and the other way
inside_is : (m n : ℕ) → inside m n ≡ true → Marks 16 m (λ q. has n q ≡ true)
unfolding inside meet
inside_is m n h = let e : meet connections m n ≡ m = eqb-true (meet connections m n) m h in
    record { fits = subst (λ (x : ℕ). x < 2 ^ 16) e (those_lt 16 _); are = λ q k. (in_meet 16 m q n (ap (λ (x : ℕ). has x q) e ∙ k)).1 }

is_inside : (m n : ℕ) → Marks 16 m (λ q. has n q ≡ true) → inside m n ≡ true
unfolding inside meet
is_inside m n x = eq-eqb (meet connections m n) m (mask_ext 16 _ m (those_lt 16 _) x.fits (λ q l. has_those 16 _ q l ∙ go q (has m q) refl))
  where
    go : (q : ℕ) (b : Bool) → has m q ≡ b → (b && has n q) ≡ b
    go q true e = x.are q e
    go q false e = refl

module _ (us : Users) where
  -- a user at a place, and the other way
  seated_is : (i : ℕ) → seated us i ≡ true → Seated us i
  unfolding seated name
  seated_is i h = ltb-true 0 _ h

  is_seated : (i : ℕ) → Seated us i → seated us i ≡ true
  unfolding seated name
  is_seated i h = lt-ltb 0 _ h

  -- a user at each place of a mask, and the other way
  all_seated_is : (m : ℕ) → all_seated us m ≡ true → Marks 64 m (Seated us)
  unfolding all_seated all
  all_seated_is m h =
      let r = and_parts (ltb m (2 ^ 64)) (all (λ i. not (has m i) || seated us i) (below seats)) h in
      let fit : m < 2 ^ 64 = ltb-true m (2 ^ 64) r.0 in
      record { fits = fit; are = λ i k. seated_is i (rw k at ((all_upto (λ j. not (has m j) || seated us j) 64 [] r.1).0 i (has_low 64 m i fit k))) }

  is_all_seated : (m : ℕ) → Marks 64 m (Seated us) → all_seated us m ≡ true
  unfolding all_seated all
  is_all_seated m x = and_both (lt-ltb m (2 ^ 64) x.fits) (all_hit (λ j. not (has m j) || seated us j) 64 [] (λ i l. go i (has m i) refl) refl)
    where
      go : (i : ℕ) (b : Bool) → has m i ≡ b → (not b || seated us i) ≡ true
      go i true e = is_seated i (x.are i e)
      go i false e = refl

  -- ---- one token

  -- a token in use with its users seated, and the other way
  held_is : (h : Holding) → token_sound us h ≡ true → (is_free h ≡ false) × Held us h
  unfolding token_sound is_free
  held_is Free e = absurd (false≢true e)
  held_is (Grabbed g) e = (refl, seated_is g e)
  held_is (Inhibited is) e = let r = and_parts (ltb 0 is) (all_seated us is) e in (refl, (ltb-true 0 is r.0, all_seated_is is r.1))
  held_is (Giving g r) e = let x = and_parts (seated us g) (seated us r) e in (refl, (seated_is g x.0, seated_is r x.1))
  held_is (Given r) e = (refl, seated_is r e)

  is_held : (h : Holding) → is_free h ≡ false → Held us h → token_sound us h ≡ true
  unfolding token_sound is_free
  is_held Free e x = absurd (true≢false e)
  is_held (Grabbed g) e x = is_seated g x
  is_held (Inhibited is) e x = and_both (lt-ltb 0 is x.0) (is_all_seated is x.1)
  is_held (Giving g r) e x = and_both (is_seated g x.0) (is_seated r x.1)
  is_held (Given r) e x = is_seated r x

  -- what `Good` asks of a token's place
  abbrev pub token_test : ℕ → Token → Bool
  token_test k t = leb k 65535 && same_token t (token_of (hold t)) && token_sound us (hold t)

  -- it gives the rule, and the other way
  pub token_row : (i k : ℕ) (t : Token) → token_test k t ≡ true → TokenRow us i k t
  token_row i k t h =
      let r = simp and-eq-true_iff at h in
      let q = held_is (hold t) r.1 in
      record { small = leb-true _ _ r.0.0; plain = same_token_is t _ r.0.1; busy = q.0; held = q.1 }

  pub row_token : (i k : ℕ) (t : Token) → TokenRow us i k t → token_test k t ≡ true
  row_token i k t r = and_both (and_both (le-leb k 65535 r.small) (is_same_token t _ r.plain)) (is_held (hold t) r.busy r.held)

  -- ---- one channel

  -- what `Good` asks of a channel's place
  abbrev pub channel_test : ℕ → ℕ → Channel → Bool
  channel_test live c ch = same_channel ch (channel_of (kind ch) ch.marks) && inside ch.marks live && channel_sound us c (kind ch) ch.marks

  module _ (live : ℕ) (sized : length us.ids ≡ 64) (sized' : length us.at ≡ 64) (apart : Apart us.ids) where
    -- the connection of a user of a mask is among its hosts
    host_in : (who q : ℕ) → who < 2 ^ 64 → q < 16 → Host us who q → has (hosts us who) q ≡ true
    unfolding hosts link
    host_in who q f l o =
        let low : o.place < 64 = has_low 64 who o.place f o.in_mask in
        has_those 16 _ q l
        ∙ any_hit (λ i. has who i && eqb (link us i) q) 64 [] o.place low (and_both o.in_mask (eq-eqb _ q (get_d_any us.at o.place 16 0 (rw sized' low) ∙ o.there)))

    -- the marks of a user id channel: its user's connection
    abbrev at_home : ℕ → Place → Bool
    at_home m w = elim w as (λ (_ : Place). Bool) [ At i ↦ inside m (only connections (link us i)) | Nowhere ↦ false ]

    -- a place in use has a connection
    linked : (i : ℕ) → i < length us.ids → i < length us.at
    linked i l = rw (sized ∙ sym sized') at l

    -- a user id channel with its user's connection joined at most, and the other way
    home_is : (c m : ℕ) → at_home m (find us.ids c) ≡ true → Home us c m
    unfolding link
    home_is c m h = go (find us.ids c) refl h
      where
        go : (w : Place) → find us.ids c ≡ w → at_home m w ≡ true → Home us c m
        go (At i) e k = let r = find_holds us.ids c i e in
            record { who = i; named = r.0; marks = marks_map 16 (inside_is m _ k) (λ q f. get_d_any us.at i 0 16 (linked i r.1) ∙ in_only 16 _ q f) }
        go Nowhere e k = absurd (false≢true k)

    is_home : (c m : ℕ) → 0 < c → Home us c m → at_home m (find us.ids c) ≡ true
    unfolding link
    is_home c m cz o =
        ap (at_home m) (find_is us.ids apart c o.who cz o.named)
        ∙ is_inside m _ (record { fits = o.marks.fits; are = λ q h. rw (get_d_any us.at o.who 16 0 there ∙ o.marks.are q h) (only_self 16 q (has_low 16 m q o.marks.fits h)) })
      where
        there : o.who < length us.at
        there = linked o.who (in_list us.ids o.who (rw o.named cz))

    -- a channel by its kind, and the other way
    sort_is : (c : ℕ) (k : Kind) (m : ℕ) → channel_sound us c k m ≡ true → Sort us c k m
    unfolding channel_sound
    sort_is c Static m h = let r = ranged 1 1000 c (ltb 0 m) h in (r.0, r.1, ltb-true 0 m r.2)
    sort_is c User m h = let r = ranged 1001 65535 c _ h in (r.0, r.1, home_is c m r.2)
    sort_is c (Private g adm) m h =
        let r = simp and-eq-true_iff at h in
        let b = between_is 1001 65535 c r.0.0.0 in (
          b.0,
          b.1,
          record { manager = seated_is g r.0.0.1; admitted = all_seated_is adm r.0.1; marks = marks_map 16 (inside_is m _ r.1) (λ q f. in_hosts us _ q sized' f) },
        )
    sort_is c Assigned m h = let r = ranged 1001 65535 c (ltb 0 m) h in (r.0, r.1, ltb-true 0 m r.2)

    is_sort : (c : ℕ) (k : Kind) (m : ℕ) → Sort us c k m → channel_sound us c k m ≡ true
    unfolding channel_sound with
    is_sort c Static m x = and_both (is_between 1 1000 c x.0 x.1) (lt-ltb 0 m x.2)
    is_sort c User m x = and_both (is_between 1001 65535 c x.0 x.1) (is_home c m (omega (arith, x.0)) x.2)
    is_sort c (Private g adm) m x =
        and_both (and_both (and_both (is_between 1001 65535 c x.0 x.1) (is_seated g x.2.manager)) (is_all_seated adm x.2.admitted))
        (is_inside m _ (record { fits = x.2.marks.fits; are = λ q h. host_in _ q (those_lt 64 _) (has_low 16 m q x.2.marks.fits h) (x.2.marks.are q h) }))
    is_sort c Assigned m x = and_both (is_between 1001 65535 c x.0 x.1) (lt-ltb 0 m x.2)

    -- the test gives the rule, and the other way
    pub channel_row : (j c : ℕ) (ch : Channel) → channel_test live c ch ≡ true → ChannelRow live us j c ch
    channel_row j c ch h = let r = simp and-eq-true_iff at h in
        record { plain = same_channel_is ch _ r.0.0; joins = inside_is ch.marks live r.0.1; sort = sort_is c (kind ch) ch.marks r.1 }

    pub row_channel : (j c : ℕ) (ch : Channel) → ChannelRow live us j c ch → channel_test live c ch ≡ true
    row_channel j c ch r = and_both (and_both (is_same_channel ch _ r.plain) (is_inside ch.marks live r.joins)) (is_sort c (kind ch) ch.marks r.sort)

-- ---- one user

-- the kind of a user's own channel
user_is : (k : Kind) → is_user k ≡ true → k ≡ User
unfolding is_user
user_is Static e = absurd (false≢true e)
user_is User e = refl
user_is (Private g us) e = absurd (false≢true e)
user_is Assigned e = absurd (false≢true e)

module _ (live : ℕ) (cs : Channels) where
  -- a user has its own channel, and the other way
  owned_is : (u : ℕ) → is_user (kind (load cs.cells (find cs.ids u) no_channel)) ≡ true → Owned cs u
  unfolding load is_user kind
  owned_is u h = go (find cs.ids u) refl h
    where
      go : (w : Place) → find cs.ids u ≡ w → is_user (kind (load cs.cells w no_channel)) ≡ true → Owned cs u
      go (At j) e k = record { spot = j; id_is = (find_holds cs.ids u j e).0; kind_is = user_is _ k }
      go Nowhere e k = absurd (false≢true k)

  is_owned : (u : ℕ) → Apart cs.ids → 0 < u → Owned cs u → is_user (kind (load cs.cells (find cs.ids u) no_channel)) ≡ true
  unfolding load is_user
  is_owned u apart uz o =
      ap (λ (w : Place). is_user (kind (load cs.cells w no_channel))) (find_is cs.ids apart u o.spot uz o.id_is)
      ∙ ap is_user o.kind_is

  -- what `Good` asks of a user's place
  abbrev pub user_test : ℕ → ℕ → Bool
  user_test u p = between 1001 65535 u && has live p && is_user (kind (load cs.cells (find cs.ids u) no_channel))

  -- it gives the rule, and the other way
  pub user_row : (i u p : ℕ) → user_test u p ≡ true → UserRow live cs i u p
  user_row i u p h =
      let r = simp and-eq-true_iff at h in
      let b = between_is 1001 65535 u r.0.0 in
      record { low = b.0; high = b.1; linked = r.0.1; owned = owned_is u r.1 }

  pub row_user : Apart cs.ids → (i u p : ℕ) → 0 < u → UserRow live cs i u p → user_test u p ≡ true
  row_user apart i u p uz r = and_both (and_both (is_between 1001 65535 u r.low r.high) r.linked) (is_owned u apart uz r.owned)
