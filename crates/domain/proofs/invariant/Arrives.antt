-- A new user, and a new connection, leave the tables sound. Assumes nothing.
use Rattle.std.specs.Prelude.{if◌then◌else◌}
use mathlib.Core.Path.{◌≡◌, refl, ap, ◌∙◌}
use mathlib.Core.Bool.{Bool, true, false}
use mathlib.Core.List.{[], ◌∷◌}
use mathlib.Core.Option.{none, some}
use Prim.Native.Nat.{ℕ, ◌≤◌, ◌<◌}
use native.Mathlib.Omega.{arith}
use lib.ListN.{get_or}
use borrow.Author.Tests.{leb-false}
use Rattle.cols_spec.specs.Sets.{has, with, connections}
use Rattle.cols_spec.specs.Places.{used}
use Rattle.cols_spec.proofs.Digits.{those_lt}
use Rattle.cols_spec.proofs.Marks.{in_with, has_low, with_old, marks_map, marks_none}
use Rattle.cols_spec.proofs.Table.{table_by, table_add, add_keeps, add_there}
use Rattle.codec_table.specs.Named.{AUcf, successful, too_many_channels, too_many_users}
use Rattle.out_records.specs.Records.{to}
use Rattle.domain.specs.declared.channel.Kind.{Kind}
use Rattle.domain.specs.declared.channel.Kind.TheVariants.{Static, User, Private, Assigned}
use Rattle.domain.specs.declared.channel.Channel.{Channel}
use Rattle.domain.specs.declared.token.Holding.{Holding}
use Rattle.domain.specs.declared.token.Holding.TheVariants.{Free, Grabbed, Inhibited, Giving, Given}
use Rattle.domain.specs.declared.token.Token.{Token}
use Rattle.domain.specs.Cells.{no_channel, kind, channel_of, hold}
use Rattle.domain.specs.Tables.{Users, Channels, Domain, add_user, add_channel, put_links, put_both, at_limit}
use Rattle.domain.specs.Effects.{done, within}
use Rattle.domain.specs.Channels.{attach}
use Rattle.domain.specs.Events.{users_full, channels_full}
use Rattle.domain.proofs.invariant.Sound.{Seated, UserRow, Sort, ChannelRow, Held, TokenRow, Sound, limits_le, Fine}
use Rattle.domain.proofs.invariant.Seats.{kind_of}
use Rattle.domain.proofs.invariant.Rooms.{row_of, room_left, add_owned, add_table}

-- ---- users keep their places and connections, and others may come: what is said of them stays true

module _ (us us' : Users) (keeps : (i : ℕ) → Seated us i → (get_or us'.ids i 0 ≡ get_or us.ids i 0) × (get_or us'.at i 0 ≡ get_or us.at i 0)) where
  pub seated_keeps : (i : ℕ) → Seated us i → Seated us' i
  seated_keeps i h = rw (keeps i h).0 h

  pub sort_keeps : (c : ℕ) (k : Kind) (m : ℕ) → Sort us c k m → Sort us' c k m
  sort_keeps c Static m x = x
  sort_keeps c User m x = let w = keeps x.2.who (rw x.2.named (omega (arith, x.0))) in
      (x.0, x.1, record { who = x.2.who; named = w.0 ∙ x.2.named; marks = marks_map 16 x.2.marks (λ q e. w.1 ∙ e) })
  sort_keeps c (Private g adm) m x = (
    x.0,
    x.1,
    record {
      manager = seated_keeps g x.2.manager;
      admitted = marks_map 64 x.2.admitted seated_keeps;
      marks = marks_map 16 x.2.marks (λ q o. record {
        place = o.place;
        in_mask = o.in_mask;
        there =
            (keeps o.place (in_with 64 adm o.place g o.in_mask (x.2.admitted.are o.place) (λ e. rw e x.2.manager))).1 ∙ o.there;
      });
    },
  )
  sort_keeps c Assigned m x = x

  pub held_keeps : (h : Holding) → Held us h → Held us' h
  held_keeps Free x = tt
  held_keeps (Grabbed g) x = seated_keeps g x
  held_keeps (Inhibited is) x = (x.0, marks_map 64 x.1 seated_keeps)
  held_keeps (Giving g r) x = (seated_keeps g x.0, seated_keeps r x.1)
  held_keeps (Given r) x = seated_keeps r x

  pub channel_keeps : {live j c : ℕ} {ch : Channel} → ChannelRow live us j c ch → ChannelRow live us' j c ch
  channel_keeps {c} {ch} r = record { plain = r.plain; joins = r.joins; sort = sort_keeps c (kind ch) ch.marks r.sort }

  pub token_keeps : {i k : ℕ} {t : Token} → TokenRow us i k t → TokenRow us' i k t
  token_keeps {t} r = record { small = r.small; plain = r.plain; busy = r.busy; held = held_keeps (hold t) r.held }

module _ (d : Domain) (s : Sound d) where
  -- ---- a user
  module _ (new : ℕ) (lo : 1001 ≤ new) (hi : new ≤ 65535) (away : (j : ℕ) → get_or d.channels.ids j 0 ≡ new → ⊥) (p : ℕ) (open_p : has d.links p ≡ true) where
    -- below both limits
    attached_sound : users_full d ≡ false → channels_full d ≡ false → Sound (put_both d (add_user d.users new p, add_channel d.channels new (channel_of User 0)))
    unfolding add_user add_channel users_full at_limit
    attached_sound uf cf = record {
      limits_ok = s.limits_ok;
      links_fit = s.links_fit;
      users_are = table_add s.users_are _ few fits new p nz alone
          (λ j. record { low = lo; high = hi; linked = open_p; owned = record { spot = own.0; id_is = own.1; kind_is = ap kind own.2 ∙ kind_of User 0 } })
          (λ i h r. record { low = r.low; high = r.high; linked = r.linked; owned = add_owned d s new nz away cf (channel_of User 0) _ h r.owned });
      channels_are = add_table d s new nz away cf (channel_of User 0) _
          (λ j. row_of d.links us' j new User 0 (marks_none 16) (lo, hi, record { who = seat.0; named = seat.1; marks = marks_none 16 }))
          (λ j h r. channel_keeps d.users us' keeps r);
      tokens_are = table_by s.tokens_are _ (λ i h r. token_keeps d.users us' keeps r);
    }
      where
        us' : Users
        us' = add_user d.users new p

        cs' : Channels
        cs' = add_channel d.channels new (channel_of User 0)

        nz : 0 < new
        nz = omega arith

        few : used d.users.ids < d.limits.users
        few = leb-false _ _ uf

        fits : d.limits.users ≤ 64
        fits = (limits_le d.limits s.limits_ok).1

        alone : (i : ℕ) → get_or d.users.ids i 0 ≡ new → ⊥
        alone i e = let o = (s.users_are.rows i (rw e nz)).owned in away o.spot (o.id_is ∙ e)

        keeps : (i : ℕ) → Seated d.users i → (get_or us'.ids i 0 ≡ get_or d.users.ids i 0) × (get_or us'.at i 0 ≡ get_or d.users.at i 0)
        keeps i h = add_keeps s.users_are (UserRow d.links d.channels) few fits new p nz i h

        seat : (j : ℕ) × (get_or us'.ids j 0 ≡ new) × (get_or us'.at j 0 ≡ p)
        seat = add_there s.users_are (UserRow d.links d.channels) few fits new p nz

        own : (j : ℕ) × (get_or cs'.ids j 0 ≡ new) × (get_or cs'.cells j no_channel ≡ channel_of User 0)
        own = add_there s.channels_are (ChannelRow d.links d.users) (room_left d s new nz away cf (channel_of User 0)) (limits_le d.limits s.limits_ok).0 new (channel_of User 0) nz

    -- AUrq
    pub attach_fine : Fine (within (put_both d) (attach new (users_full d) (channels_full d) d.users d.channels p))
    unfolding attach within
    attach_fine = go (users_full d) refl (channels_full d) refl
      where
        go : (a : Bool) → users_full d ≡ a → (b : Bool) → channels_full d ≡ b
            → Fine (within (put_both d) (if a then done (d.users, d.channels) (to p (AUcf too_many_users none) ∷ [])
            else if b then done (d.users, d.channels) (to p (AUcf too_many_channels none) ∷ [])
            else done (add_user d.users new p, add_channel d.channels new (channel_of User 0)) (to p (AUcf successful (some new)) ∷ [])))
        go true e b f = s
        go false e true f = s
        go false e false f = attached_sound e f

  -- ---- a connection
  pub open_sound : (p : ℕ) → Sound (put_links d (with connections d.links p))
  unfolding with
  open_sound p = record {
    limits_ok = s.limits_ok;
    links_fit = those_lt 16 _;
    users_are = table_by s.users_are _ (λ i h r. record { low = r.low; high = r.high; linked = more _ r.linked; owned = r.owned });
    channels_are = table_by s.channels_are _ (λ j h r. record { plain = r.plain; joins = marks_map 16 r.joins more; sort = r.sort });
    tokens_are = s.tokens_are;
  }
    where
      more : (q : ℕ) → has d.links q ≡ true → has (with connections d.links p) q ≡ true
      more q h = with_old 16 d.links q p (has_low 16 d.links q s.links_fit h) h
