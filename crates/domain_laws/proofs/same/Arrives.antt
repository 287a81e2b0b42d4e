-- A new user, on tables that say the same: the same records, and tables that say the same. Assumes nothing.
use Rattle.std.specs.Prelude.{if◌then◌else◌}
use mathlib.Core.Path.{◌≡◌, refl, sym, ap, ap₂, ◌∙◌}
use mathlib.Core.Bool.{Bool, true, false, true≢false}
use mathlib.Core.Option.{Option, none, some}
use Prim.Native.Nat.{ℕ, ◌<◌, ◌≤◌}
use native.Mathlib.Omega.{arith}
use lib.Dec.{eqb}
use lib.ListN.{length, get_or}
use lib.Seq.{get_or-set_same, get_or-set_other}
use borrow.Author.Tests.{ne_eqb, leb-false}
use Rattle.cols_spec.specs.Sets.{has}
use Rattle.cols_spec.specs.Places.{Place, At, Nowhere, find, spare, used, store}
use Rattle.cols_spec.proofs.Marks.{marks_map}
use Rattle.cols_spec.proofs.Rows.{At≢Nowhere, At_inj, find_holds, find_gone, find_there, first_holds, spare_there}
use Rattle.cols_spec.proofs.Table.{table_add}
use Rattle.cols_spec.proofs.Found.{find_added}
use Rattle.domain.specs.declared.channel.Kind.{Kind}
use Rattle.domain.specs.declared.channel.Kind.TheVariants.{User}
use Rattle.domain.specs.declared.token.Holding.{Holding}
use Rattle.domain.specs.Cells.{channel_of}
use Rattle.domain.specs.Tables.{Users, Channels, Domain, link, add_user, add_channel, put_both, at_limit, seen}
use Rattle.domain.specs.Effects.{Effect, within}
use Rattle.domain.specs.Channels.{attach}
use Rattle.domain.specs.Events.{users_full, channels_full}
use Rattle.domain_laws.specs.Same.{home_of, Role, role_of, channel_at, token_at, Same}
use Rattle.domain.proofs.invariant.Sound.{Seated, Sound, limits_le}
use Rattle.domain.proofs.invariant.Seats.{kind_of}
use Rattle.domain.proofs.holders.Known.{found_seated}
use Rattle.domain_laws.proofs.same.Twins.{bool_ext, Crowd, Twins, Pair, Match, twins_of}
use Rattle.domain_laws.proofs.same.Holdings.{either_by, Twin, both_free, both_grabbed, both_inhibited, both_giving, both_given, twin_says}
use Rattle.domain_laws.proofs.same.Requests.{Both, both, used_same}
use Rattle.domain_laws.proofs.same.Passing.{states}
use Rattle.domain_laws.proofs.same.Kinds.{KindTwin, both_static, both_user, both_private, both_assigned, kind_says, said_of, ChannelWhere, there as channel_there, nowhere as channel_nowhere, channels_where, channels_full_same}
use Rattle.domain_laws.proofs.same.Leaving.{users_found}
use Rattle.domain_laws.proofs.same.Joins.{channel_added, channels_few}

-- one more user, at a free place; all others stay
record Came (us us' : Users) (new p : ℕ) : Type 0 where
  spot : ℕ
  blank : get_or us.ids spot 0 ≡ 0
  finds : (u : ℕ) → find us'.ids u ≡ (if eqb u new then At spot else find us.ids u)
  here : link us' spot ≡ p
  stay : (u i : ℕ) → find us.ids u ≡ At i → link us' i ≡ link us i
  absent : find us.ids new ≡ Nowhere
  crowd : Crowd us'

module _ (d : Domain) (s : Sound d) (new p : ℕ) (nz : 0 < new) (away : (j : ℕ) → get_or d.channels.ids j 0 ≡ new → ⊥) (below : users_full d ≡ false) where
  came : Came d.users (add_user d.users new p) new p
  unfolding users_full at_limit spare add_user store link
  came = record {
    spot = at.0;
    blank = (first_holds us.ids 0 at.0 at.1).0;
    finds = λ u. find_added s.users_are few fits new p nz alone u ∙ rw at.1;
    here = rw at.1 (get_or-set_same us.at at.0 p 16 inside);
    stay = λ u i q. rw at.1 (get_or-set_other us.at at.0 i p 16
        (λ e. omega (arith, (find_holds us.ids u i q).2, (find_holds us.ids u i q).0, ap (λ (n : ℕ). get_or us.ids n 0) e, (first_holds us.ids 0 at.0 at.1).0)));
    absent = find_gone us.ids new (λ z. alone);
    crowd = let w = table_add s.users_are (λ i u q. Unit {0}) few fits new p nz alone (λ j. tt) (λ i h q. tt) in
        record { ids_size = w.ids_size; at_size = w.cells_size; apart = w.apart };
  }
    where
      us : Users
      us = d.users

      few : used us.ids < d.limits.users
      few = leb-false _ _ below

      fits : d.limits.users ≤ 64
      fits = (limits_le d.limits s.limits_ok).1

      alone : (i : ℕ) → get_or us.ids i 0 ≡ new → ⊥
      alone i e = let o = (s.users_are.rows i (rw e nz)).owned in away o.spot (o.id_is ∙ e)

      at : (j : ℕ) × (spare us.ids ≡ At j)
      at = spare_there us.ids (omega (arith, few, fits, s.users_are.ids_size))

      inside : at.0 < length us.at
      inside = omega (arith, (first_holds us.ids 0 at.0 at.1).1, s.users_are.ids_size, s.users_are.cells_size)

module _ {us us' : Users} {new p : ℕ} (a : Came us us' new p) where
  stays_at : (u i : ℕ) → find us.ids u ≡ At i → find us'.ids u ≡ At i
  stays_at u i e = a.finds u ∙ rw (ne_eqb u new (λ q. At≢Nowhere (sym a.absent ∙ ap (find us.ids) (sym q) ∙ e))) e

  home_came : (u : ℕ) → home_of us' u ≡ (if eqb u new then some p else home_of us u)
  unfolding home_of
  home_came u = rw (a.finds u) (go (eqb u new) (find us.ids u) refl)
    where
      go : (b : Bool) (w : Place) → find us.ids u ≡ w
          → seen (if b then At a.spot else find us.ids u) none (λ i. some (link us' i)) ≡ (if b then some p else seen (find us.ids u) none (λ i. some (link us i)))
      go true w e = ap some a.here
      go false (At i) e = rw e (ap some (a.stay u i e))
      go false Nowhere e = rw e

  -- who is found then was there before, or is the new one
  found_then : {C : Type 0} (u i : ℕ) → find us'.ids u ≡ At i → (eqb u new ≡ true → get_or us.ids i 0 ≡ 0 → C) → (eqb u new ≡ false → find us.ids u ≡ At i → C) → C
  found_then {C} u i e f g = go (eqb u new) refl (sym (a.finds u) ∙ e)
    where
      go : (b : Bool) → eqb u new ≡ b → (if b then At a.spot else find us.ids u) ≡ At i → C
      go true q h = f q (rw (At_inj h) at a.blank)
      go false q h = g q h

  -- places in use stay so
  seat_keeps : Crowd us → (i : ℕ) → Seated us i → Seated us' i
  seat_keeps c i h = found_seated us' _ i (stays_at (get_or us.ids i 0) i (find_there us.ids c.apart i h))

module _ (us vs us' vs' : Users) (new p : ℕ) (t : Twins us vs) (a : Came us us' new p) (b : Came vs vs' new p) where
  twins' : Twins us' vs'
  twins' = record { left = a.crowd; right = b.crowd; homes = λ u. home_came a u ∙ rw (t.homes u) refl ∙ sym (home_came b u) }

  pair_keeps : {i j : ℕ} → Pair us vs i j → Pair us' vs' i j
  pair_keeps {i} {j} q = record { id = q.id; left = stays_at a q.id i q.left; right = stays_at b q.id j q.right }

  match_keeps : {m n : ℕ} → Match us vs m n → Match us' vs' m n
  match_keeps {m} {n} y = record {
    left = marks_map 64 y.left (seat_keeps a t.left);
    right = marks_map 64 y.right (seat_keeps b t.right);
    same = λ i j q. found_then a q.id i q.left
        (λ e z. found_then b q.id j q.right
        (λ f w. bool_ext (has m i) (has n j) (λ h. absurd (omega (arith, z, y.left.are i h))) (λ h. absurd (omega (arith, w, y.right.are j h))))
        (λ f w. absurd (true≢false (sym e ∙ f))))
        (λ e z. found_then b q.id j q.right (λ f w. absurd (true≢false (sym f ∙ e))) (λ f w. y.same i j (record { id = q.id; left = z; right = w })));
  }

  twin_keeps : {h k : Holding} → Twin us vs h k → Twin us' vs' h k
  twin_keeps both_free = both_free
  twin_keeps (both_grabbed q) = both_grabbed (pair_keeps q)
  twin_keeps (both_inhibited y) = both_inhibited (match_keeps y)
  twin_keeps (both_giving q w) = both_giving (pair_keeps q) (pair_keeps w)
  twin_keeps (both_given q) = both_given (pair_keeps q)

  kind_keeps : {k l : Kind} → KindTwin us vs k l → KindTwin us' vs' k l
  kind_keeps both_static = both_static
  kind_keeps both_user = both_user
  kind_keeps (both_private q y) = both_private (pair_keeps q) (match_keeps y)
  kind_keeps both_assigned = both_assigned

module _ (d e : Domain) (s : Sound d) (r : Sound e) (x : Same d e) where
  users_full_same : users_full d ≡ users_full e
  unfolding users_full at_limit
  users_full_same = rw (
    x.limits,
    used_same d.users.ids e.users.ids (users_found d e s r x) s.users_are.apart r.users_are.apart 65536
        (λ i h. omega (arith, (s.users_are.rows i h).high)) (λ i h. omega (arith, (r.users_are.rows i h).high)) (omega arith),
  )

  module _ (new p : ℕ) (nz : 0 < new) (away : (j : ℕ) → get_or d.channels.ids j 0 ≡ new → ⊥) (away' : (j : ℕ) → get_or e.channels.ids j 0 ≡ new → ⊥) where
    come_same : users_full d ≡ false → channels_full d ≡ false
        → Same (put_both d (add_user d.users new p, add_channel d.channels new (channel_of User 0))) (put_both e (add_user e.users new p, add_channel e.channels new (channel_of User 0)))
    unfolding token_at channel_at
    come_same uf cf = record {
      limits = x.limits;
      links = x.links;
      users = then_twins.homes;
      channels = λ c.
          channel_added us' d.channels s.channels_are c (channels_few d cf) (limits_le d.limits s.limits_ok).0 new _ nz away
          ∙ ap₂ (λ (y z : Option (Role × ℕ)). if eqb c new then y else z) (ap some made) (others c)
          ∙ sym (channel_added vs' e.channels r.channels_are c (channels_few e (sym (channels_full_same d e s r x) ∙ cf)) (limits_le e.limits r.limits_ok).0 new _ nz away');
      tokens = λ k. twin_says us' vs' then_twins (twin_keeps d.users e.users us' vs' new p now left_came right_came (states d e s r x k));
    }
      where
        us' : Users
        us' = add_user d.users new p

        vs' : Users
        vs' = add_user e.users new p

        now : Twins d.users e.users
        now = twins_of d e s r x

        left_came : Came d.users us' new p
        left_came = came d s new p nz away uf

        right_came : Came e.users vs' new p
        right_came = came e r new p nz away' (sym users_full_same ∙ uf)

        then_twins : Twins us' vs'
        then_twins = twins' d.users e.users us' vs' new p now left_came right_came

        made : said_of us' (channel_of User 0) ≡ said_of vs' (channel_of User 0)
        made = ap (λ (z : Role). (z, (channel_of User 0).marks)) (ap (role_of us') (kind_of User 0) ∙ kind_says us' vs' then_twins both_user ∙ sym (ap (role_of vs') (kind_of User 0)))

        others : (c : ℕ) → channel_at us' d.channels c ≡ channel_at vs' e.channels c
        others c = go (channels_where d e s r x c)
          where
            go : ChannelWhere d.users e.users d.channels e.channels c → channel_at us' d.channels c ≡ channel_at vs' e.channels c
            go (channel_there f g m) = rw (f, g, channel_at) (ap some (ap₂ (λ (z : Role) (n : ℕ). (z, n)) (kind_says us' vs' then_twins (kind_keeps d.users e.users us' vs' new p now left_came right_came m.kinds)) m.marks))
            go (channel_nowhere f g) = rw (f, g, channel_at)

    pub attach_both : Both Same (within (put_both d) (attach new (users_full d) (channels_full d) d.users d.channels p)) (within (put_both e) (attach new (users_full e) (channels_full e) e.users e.channels p))
    unfolding attach within
    attach_both = either_by Done (users_full d) (users_full e) users_full_same (λ a. both refl x)
        (λ a. either_by Done (channels_full d) (channels_full e) (channels_full_same d e s r x) (λ b. both refl x) (λ b. both refl (come_same a b)))
      where
        Done : Effect (Users × Channels) → Effect (Users × Channels) → Type 0
        Done y z = Both Same (within (put_both d) y) (within (put_both e) z)
