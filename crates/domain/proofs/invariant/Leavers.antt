-- Users that leave together leave the tables sound. Assumes nothing.
use Rattle.std.specs.Prelude.{if◌then◌else◌}
use mathlib.Core.Path.{◌≡◌, refl, sym, ap, ◌∙◌, subst⁻¹}
use mathlib.Core.Bool.{Bool, true, false, ◌&&◌, false≢true}
use mathlib.Core.List.{List}
use mathlib.Core.Option.{Option, none, some}
use Prim.Native.Nat.{ℕ, ◌<◌, ◌^◌}
use native.Mathlib.Omega.{arith}
use lib.Dec.{eqb}
use lib.ListN.{length, get_or}
use borrow.Author.Tests.{eq-eqb}
use Rattle.cols_spec.specs.Sets.{null, once, has, with, without, minus, meet, connections, seats, member}
use Rattle.cols_spec.specs.Places.{Place, At, Nowhere, find, found, in_order, turns_to}
use Rattle.cols_spec.proofs.Bools.{some_is, none≢some}
use Rattle.cols_spec.proofs.Digits.{those_lt}
use Rattle.cols_spec.proofs.Marks.{has_low, in_with, in_meet, in_minus, without_other, marks_map, marks_meet, marks_minus}
use Rattle.cols_spec.proofs.Rows.{Apart, find_there, in_list, get_d_any, find_holds}
use Rattle.cols_spec.proofs.Table.{Table, table_sweep, sweep_used}
use Rattle.cols_spec.proofs.Members.{member_at, member_keep}
use Rattle.cols_spec.proofs.Order.{in_order_has}
use Rattle.domain.specs.declared.channel.Kind.{Kind}
use Rattle.domain.specs.declared.channel.Kind.TheVariants.{Static, User, Private, Assigned}
use Rattle.domain.specs.declared.channel.Channel.{Channel}
use Rattle.domain.specs.declared.token.Token.{Token}
use Rattle.domain.specs.Cells.{kind, channel_of, with_marks, hold, token_of}
use Rattle.domain.specs.Tables.{Users, Channels, Domain, link, attached, stays_on, remove_users, sweep_channels, narrowed, is_free, sweep_tokens}
use Rattle.domain.specs.Tokens.{lose}
use Rattle.domain.specs.Effects.{ignored}
use Rattle.domain.specs.Channels.{places, private_marks}
use Rattle.domain.specs.Leaving.{fate_of, fate, leave, those_on, detach, close}
use Rattle.domain.proofs.Listed.{places_has}
use Rattle.domain.proofs.invariant.Sound.{Seated, Host, UserRow, Sort, ChannelRow, TokenRow, Sound, Fine}
use Rattle.domain.proofs.invariant.Held.{lose_held, token_row}
use Rattle.domain.proofs.invariant.Rooms.{in_hosts, row_of, guests_changed, sweep_owned, sweep_table, marked_user, marked_row}

-- a user's own channel, by the user's place
abbrev pub own_fate : (gone : ℕ) (ch : Channel) (n : ℕ) → Place → Option Channel
own_fate gone ch n w = elim w [ At i ↦ if has gone i then none else narrowed ch n | Nowhere ↦ narrowed ch n ]

-- it stays while the user does
fate_user : (us : Users) (gone live u i : ℕ) (ch : Channel) → kind ch ≡ User → find us.ids u ≡ At i → has gone i ≡ false
    → fate us gone live u ch ≡ some (with_marks ch (meet connections ch.marks live))
unfolding fate fate_of
fate_user us gone live u i ch e f g =
    ap (fate_of us gone live u ch) e ∙ ap (own_fate gone ch (meet connections ch.marks live)) f ∙ rw g (marked_user ch (meet connections ch.marks live) e).0

module _ (us us' : Users) (sized : length us.at ≡ 64) (apart : Apart us.ids) (gone live : ℕ)
    (keeps : (i : ℕ) → Seated us i → has gone i ≡ false → (get_or us'.ids i 0 ≡ get_or us.ids i 0) × (get_or us'.at i 0 ≡ get_or us.at i 0)) where
  -- who stays is seated
  seated_then : (i : ℕ) → Seated us i → has gone i ≡ false → Seated us' i
  seated_then i h g = rw (keeps i h g).0 h

  module _ (j c : ℕ) (ch : Channel) (new : Channel) where
    -- with the marks of the connections that remain
    fewer_row : (k : Kind) → ch ≡ channel_of k ch.marks → Sort us' c k ch.marks → narrowed ch (meet connections ch.marks live) ≡ some new → ChannelRow live us' j c new
    fewer_row k p x e =
        marked_row live us' j c ch.marks (meet connections ch.marks live) (marks_meet 16 ch.marks live (λ q a b. b)) (λ q h. (in_meet 16 ch.marks q live h).0) k ch p x new e

    -- what becomes of a channel
    fate_row : (k : Kind) → ch ≡ channel_of k ch.marks → Sort us c k ch.marks → fate_of us gone live c ch k ≡ some new → ChannelRow live us' j c new
    unfolding fate_of private_marks
    fate_row Static p x e = fewer_row Static p x e
    fate_row User p x e = go (has gone who) refl (sym (ap (own_fate gone ch (meet connections ch.marks live)) at_who) ∙ e)
      where
        who : ℕ
        who = x.2.who

        here : Seated us who
        here = rw x.2.named (omega (arith, x.0))

        at_who : find us.ids c ≡ At who
        at_who = rw x.2.named at (find_there us.ids apart who here)

        go : (b : Bool) → has gone who ≡ b → (if b then none else narrowed ch (meet connections ch.marks live)) ≡ some new → ChannelRow live us' j c new
        go true q f = absurd (none≢some f)
        go false q f = let w = keeps who here q in
            fewer_row User p (x.0, x.1, record { who = who; named = w.0 ∙ x.2.named; marks = marks_map 16 x.2.marks (λ r e. w.1 ∙ e) }) f
    fate_row (Private g adm) p x e = go (has gone g) refl e
      where
        stays : has gone g ≡ false → (q : ℕ) → Host us (with seats (minus seats adm gone) g) q → Host us' (with seats (minus seats adm gone) g) q
        stays z q o = record {
          place = o.place;
          in_mask = o.in_mask;
          there =
              in_with 64 (minus seats adm gone) o.place g o.in_mask
              (λ h. let r = in_minus 64 adm o.place gone h in (keeps o.place (x.2.admitted.are o.place r.0) r.1).1)
              (λ e. (keeps o.place (rw e x.2.manager) (rw e z)).1)
              ∙ o.there;
        }

        go : (b : Bool) → has gone g ≡ b → (if b then none else some (private_marks us ch g (minus seats adm gone) (meet connections ch.marks live))) ≡ some new → ChannelRow live us' j c new
        go true z f = absurd (none≢some f)
        go false z f = subst⁻¹ (ChannelRow live us' j c) (some_is f ∙ guests_changed ch g adm _ p _ _) (row_of live us' j c (Private g (minus seats adm gone)) _
            (marks_meet 16 (meet connections ch.marks live) _ (λ q a b. (in_meet 16 ch.marks q live a).1)) (
              x.0,
              x.1,
              record {
                manager = seated_then g x.2.manager z;
                admitted = marks_minus 64 adm gone (λ i a b. seated_then i (x.2.admitted.are i a) b);
                marks = marks_meet 16 (meet connections ch.marks live) _ (λ q a b. stays z q (in_hosts us _ q sized b));
              },
            ))
    fate_row Assigned p x e = fewer_row Assigned p x e

-- who leaves: the user u at place i, where it is on p and listed
module _ (d : Domain) (s : Sound d) (p u i : ℕ) (here : find d.users.ids u ≡ At i) (ids : List ℕ) where
  pub gone_is : has (places d.users (those_on d.users p ids)) i ≡ (eqb (link d.users i) p && member u ids)
  unfolding those_on attached found
  gone_is =
      places_has d.users u i here (omega (arith, (find_holds d.users.ids u i here).1, s.users_are.ids_size)) (those_on d.users p ids)
      ∙ member_keep (λ v. found (attached d.users p v)) u ids
      ∙ rw (here, attached) (on (eqb (link d.users i) p))
    where
      on : (b : Bool) → (found (if b then At i else Nowhere) && member u ids) ≡ (b && member u ids)
      on true = refl
      on false = refl

module _ (d : Domain) (s : Sound d) where
  -- the places `gone` leave, where all others are on connections that remain
  left_sound : (gone live : ℕ) → live < 2 ^ 16 → ((i : ℕ) → Seated d.users i → has gone i ≡ false → has live (get_or d.users.at i 0) ≡ true)
      → Sound (record {
        limits = d.limits;
        links = live;
        users = remove_users d.users gone;
        channels = sweep_channels (fate d.users gone live) d.channels;
        tokens = sweep_tokens (lose gone) d.tokens;
      })
  unfolding remove_users stays_on sweep_tokens turns_to fate
  left_sound gone live fits stay = record {
    limits_ok = s.limits_ok;
    links_fit = fits;
    users_are = stayed;
    channels_are = sweep_table d.channels s.channels_are _ (fate us gone live)
        (λ j h r ch e. fate_row us us' s.users_are.cells_size s.users_are.apart gone live keeps j _ _ ch _ r.plain r.sort e);
    tokens_are = table_sweep s.tokens_are _ _ (λ i h r t e. lost_row i _ _ r t (is_free (lose gone _)) refl e);
  }
    where
      us : Users
      us = d.users

      us' : Users
      us' = remove_users us gone

      cs' : Channels
      cs' = sweep_channels (fate us gone live) d.channels

      keeps : (i : ℕ) → Seated us i → has gone i ≡ false → (get_or us'.ids i 0 ≡ get_or us.ids i 0) × (get_or us'.at i 0 ≡ get_or us.at i 0)
      keeps i h g = sweep_used s.users_are (UserRow live cs') (stays_on gone) i h (some (get_or us.at i 0)) (rw g)

      user_row : (i : ℕ) → Seated us i → UserRow d.links d.channels i (get_or us.ids i 0) (get_or us.at i 0)
          → (c : ℕ) (b : Bool) → has gone i ≡ b → (if b then none else some (get_or us.at i 0)) ≡ some c → UserRow live cs' i (get_or us.ids i 0) c
      user_row i h r c true q e = absurd (none≢some e)
      user_row i h r c false q e = rw (some_is e) (record {
        low = r.low;
        high = r.high;
        linked = stay i h q;
        owned = sweep_owned d.channels s.channels_are (ChannelRow live us') (fate us gone live) (get_or us.ids i 0) h r.owned _
            (fate_user us gone live (get_or us.ids i 0) i _ r.owned.kind_is (find_there us.ids s.users_are.apart i h) q) (marked_user _ _ r.owned.kind_is).1;
      })

      stayed : Table 64 d.limits.users 0 (UserRow live cs') us'.ids us'.at
      stayed = table_sweep s.users_are _ (stays_on gone) (λ i h r c e. user_row i h r c (has gone i) refl e)

      lost_row : (i k : ℕ) (t : Token) → TokenRow us i k t → (n : Token) (b : Bool) → is_free (lose gone (hold t)) ≡ b
          → (if b then none else some (token_of (lose gone (hold t)))) ≡ some n → TokenRow us' i k n
      lost_row i k t r n true q e = absurd (none≢some e)
      lost_row i k t r n false q e = rw (some_is e) (token_row us' stayed.ids_size i k (lose gone (hold t)) r.small q (lose_held us us' gone (λ j a b. rw (keeps j a b).0 a) (hold t) r.held))

  -- DUrq: the connections stay
  pub detach_fine : (p reason : ℕ) (ids : List ℕ) → Fine (detach d p reason ids)
  unfolding detach leave
  detach_fine p reason ids = go (null (those_on d.users p (once ids)))
    where
      go : (b : Bool) → Fine (if b then ignored else leave d d.links reason (those_on d.users p (once ids)))
      go true = tt
      go false = left_sound (places d.users (those_on d.users p (once ids))) d.links s.links_fit (λ i h g. (s.users_are.rows i h).linked)

  -- everyone on p is among those who leave when p closes
  all_gone : (p i : ℕ) → Seated d.users i → get_or d.users.at i 0 ≡ p → has (places d.users (those_on d.users p (in_order d.users.ids))) i ≡ true
  unfolding link
  all_gone p i h e =
      gone_is d s p (get_or d.users.ids i 0) i (find_there d.users.ids s.users_are.apart i h) (in_order d.users.ids)
      ∙ rw (eq-eqb (link d.users i) p (get_d_any d.users.at i 16 0 (omega (arith, inside, s.users_are.ids_size, s.users_are.cells_size)) ∙ e))
      (in_order_has d.users.ids _ (member_at d.users.ids i inside) h)
    where
      inside : i < length d.users.ids
      inside = in_list d.users.ids i h

  -- DPum, RJum, loss
  pub close_fine : (p : ℕ) → Fine (close d p)
  unfolding close leave without
  close_fine p = left_sound (places d.users (those_on d.users p (in_order d.users.ids))) (without connections d.links p) (those_lt 16 _)
      (λ i h g. let l = (s.users_are.rows i h).linked in
      without_other 16 d.links (get_or d.users.at i 0) p (has_low 16 d.links _ s.links_fit l) l (λ e. false≢true (sym g ∙ all_gone p i h e)))
