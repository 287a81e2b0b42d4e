-- AUrq: a new user is attached for history as it is in the table, and holds nothing. Assumes nothing.
use Rattle.std.specs.Prelude.{if◌then◌else◌}
use mathlib.Core.Path.{◌≡◌, refl, sym, ap, ◌∙◌}
use mathlib.Core.Bool.{Bool, true, false, ◌&&◌, and-false, and-true, or-false}
use mathlib.Core.List.{[], ◌∷◌}
use mathlib.Core.Option.{none, some}
use Prim.Native.Nat.{ℕ, ◌<◌}
use native.Mathlib.Omega.{arith}
use lib.Dec.{eqb, leb}
use lib.ListN.{get_or}
use lib.Seq.{get_or-set_same, get_or-set_other}
use borrow.Author.Tests.{ne_eqb, eqb-true, leb-false}
use Rattle.cols_spec.specs.Places.{Place, At, Nowhere, find, spare, used, store}
use Rattle.cols_spec.specs.Sets.{has, all, any, member}
use Rattle.codec_table.specs.Named.{AUrq, AUcf, successful, too_many_users, too_many_channels}
use Rattle.out_records.specs.Records.{to}
use Rattle.cols_spec.proofs.Marks.{Marks}
use Rattle.cols_spec.proofs.Rows.{find_gone, spare_there, first_holds, find_holds}
use Rattle.cols_spec.proofs.Found.{find_added}
use Rattle.domain.specs.Tables.{Users, Channels, Domain, link, state, add_user, add_channel, put_both, at_limit}
use Rattle.domain.specs.declared.channel.Kind.TheVariants.{User}
use Rattle.domain.specs.declared.token.Holding.{Holding}
use Rattle.domain.specs.declared.token.Holding.TheVariants.{Free, Grabbed, Inhibited, Giving, Given}
use Rattle.domain.specs.Events.{users_full, channels_full, Event, hears, reads}
use Rattle.domain.specs.Effects.{Effect, done, within}
use Rattle.domain.specs.Cells.{channel_of}
use Rattle.domain.specs.Channels.{attach}
use Rattle.domain.specs.History.{Entry, History, ◌▹◌, attaches, grabs, inhibits, yields, offers, accepts, declines, code, same, is, sign, reading, asks, arrives, home}
use Rattle.domain.proofs.invariant.Sound.{Seated, Held, Sound, limits_le}
use Rattle.domain.proofs.invariant.Held.{state_held}
use Rattle.domain.proofs.holders.Heard.{mark, mark_step, idle, idle_unread, said_idle, leaves_idle, mute, mutes}
use Rattle.domain.proofs.holders.Agrees.{Agrees, Fine, calm, seen, nobody, stand}
use Rattle.domain.proofs.holders.Requests.{told_one}

-- nobody at a free place stands to a token
stand_unseated : (us : Users) (i : ℕ) → get_or us.ids i 0 ≡ 0 → (h : Holding) → Held us h → stand h i ≡ nobody
unfolding stand
stand_unseated us i q h x = go h x
  where
    other : (g : ℕ) → Seated us g → eqb g i ≡ false
    other g s = ne_eqb g i (λ e. omega (arith, s, q, ap (λ (n : ℕ). get_or us.ids n 0) e))

    absent : (is : ℕ) → Marks 64 is (Seated us) → (b : Bool) → has is i ≡ b → has is i ≡ false
    absent is m true e = absurd (omega (arith, m.are i e, q))
    absent is m false e = e

    go : (h : Holding) → Held us h → stand h i ≡ nobody
    go Free s = refl
    go (Grabbed g) s = rw (other g s)
    go (Inhibited is) s = rw (absent is s.1 (has is i) refl)
    go (Giving g r) s = rw (other g s.0, other r s.1)
    go (Given r) s = rw (other r s)

module _ (h : History) (d : Domain) (g : Sound d) (a : Agrees h d.users d.tokens) (new p : ℕ) (nz : 0 < new) (away : (j : ℕ) → get_or d.channels.ids j 0 ≡ new → ⊥) where
  abbrev ev : Event
  ev = hears p (reads AUrq)

  abbrev e : Entry
  e = record { event = ev; reply = 0; sent = to p (AUcf 0 (some new)) ∷ [] }

  abbrev us : Users
  us = d.users

  quiet : idle e ≡ true
  unfolding asks reading
  quiet = idle_unread e refl

  means : reading (AUcf 0 (some new)) ≡ sign attaches (new ∷ []) 0
  unfolding reading
  means = refl

  home_new : (u : ℕ) → home (e ▹ h) u ≡ (if eqb u new then some p else home h u)
  unfolding home arrives is member any same code
  home_new u = rw (leaves_idle e quiet (home h u) u, means, or-false (eqb u new), and-true (eqb u new))

  mark_new : (k u : ℕ) → mark (e ▹ h) k u ≡ mark h k u
  unfolding same code
  mark_new k u = mark_step e h k u
      ∙ rw (
        told_one ev p (AUcf 0 (some new)) attaches new 0 means grabs u k,
        told_one ev p (AUcf 0 (some new)) attaches new 0 means inhibits u k,
        told_one ev p (AUcf 0 (some new)) attaches new 0 means yields u k,
        told_one ev p (AUcf 0 (some new)) attaches new 0 means offers u k,
        said_idle e quiet (home h u) accepts u k refl,
        said_idle e quiet (home h u) declines u k refl,
        leaves_idle e quiet (home h u) u,
        and-false (eqb k 0 && eqb u new),
      )

  -- who has no channel of its id is no user
  no_user : (i : ℕ) → get_or us.ids i 0 ≡ new → ⊥
  no_user i e = let o = (g.users_are.rows i (rw e nz)).owned in away o.spot (o.id_is ∙ e)

  nowhere : find us.ids new ≡ Nowhere
  nowhere = find_gone us.ids new (λ z. no_user)

  module _ (few : used us.ids < d.limits.users) (s : ℕ) (free : spare us.ids ≡ At s) where
    placed : (u : ℕ) → find (add_user us new p).ids u ≡ (if eqb u new then At s else find us.ids u)
    unfolding add_user
    placed u = find_added g.users_are few (limits_le d.limits g.limits_ok).1 new p nz no_user u ∙ rw free

    here : link (add_user us new p) s ≡ p
    unfolding link add_user store spare
    here = rw free (get_or-set_same us.at s p 16 (omega (arith, first_holds us.ids 0 s free, g.users_are.ids_size, g.users_are.cells_size)))

    there : (u j : ℕ) → find us.ids u ≡ At j → link (add_user us new p) j ≡ link us j
    unfolding link add_user store spare
    there u j q = rw free (get_or-set_other us.at s j p 16 (λ e. omega (arith, (find_holds us.ids u j q).2, (find_holds us.ids u j q).0, ap (λ (i : ℕ). get_or us.ids i 0) e, (first_holds us.ids 0 s free).0)))

    new_agrees : Agrees (e ▹ h) (add_user us new p) d.tokens
    unfolding spare
    new_agrees = record {
      homes = λ u. home_new u ∙ rw (placed u) (house u (eqb u new) (find us.ids u) refl);
      marks = λ k u. mark_new k u ∙ rw (placed u) (hold k u (eqb u new) refl);
    }
      where
        house : (u : ℕ) (b : Bool) (x : Place) → find us.ids u ≡ x
            → (if b then some p else home h u) ≡ seen (if b then At s else find us.ids u) none (λ i. some (link (add_user us new p) i))
        house u true x q = ap some (sym here)
        house u false (At j) q = a.homes u ∙ rw q (ap some (sym (there u j q)))
        house u false Nowhere q = a.homes u ∙ rw q

        hold : (k u : ℕ) (b : Bool) → eqb u new ≡ b → mark h k u ≡ seen (if b then At s else find us.ids u) nobody (stand (state d.tokens k))
        hold k u true q = ap (mark h k) (eqb-true u new q) ∙ a.marks k new ∙ rw nowhere (sym (stand_unseated us s (first_holds us.ids 0 s free).0 (state d.tokens k) (state_held d g k)))
        hold k u false q = a.marks k u

  -- the requests that fail change nothing; else the new user is attached
  pub attach_fine : Fine h d ev (within (put_both d) (attach new (users_full d) (channels_full d) us d.channels p))
  unfolding attach users_full at_limit asks reading all mute mutes same code spare within
  attach_fine = go (users_full d) refl (channels_full d)
    where
      refused : ℕ → Effect (Users × Channels)
      refused n = done (us, d.channels) (to p (AUcf n none) ∷ [])

      refused_fine : (n : ℕ) → Fine h d ev (within (put_both d) (refused n))
      refused_fine n = calm h d a ev refl (put_both d (us, d.channels)) _ refl refl refl refl

      come : Effect (Users × Channels)
      come = done (add_user us new p, add_channel d.channels new (channel_of User 0)) (to p (AUcf successful (some new)) ∷ [])

      come_fine : used us.ids < d.limits.users → Fine h d ev (within (put_both d) come)
      come_fine few =
          let r = spare_there us.ids (omega (arith, few, (limits_le d.limits g.limits_ok).1, g.users_are.ids_size)) in
          record { agrees = new_agrees few r.0 r.1; limits = refl }

      go : (b : Bool) → leb d.limits.users (used us.ids) ≡ b → (c : Bool)
          → Fine h d ev (within (put_both d) (if b then refused too_many_users else if c then refused too_many_channels else come))
      go true q c = refused_fine too_many_users
      go false q true = refused_fine too_many_channels
      go false q false = come_fine (leb-false d.limits.users (used us.ids) q)
