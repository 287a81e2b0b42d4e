-- DUrq, DPum, RJum and loss: those who leave, for history, are those whose places are swept. Assumes nothing.
use Rattle.std.specs.Prelude.{if◌then◌else◌}
use mathlib.Core.Path.{◌≡◌, refl, sym, ap, ◌∙◌}
use mathlib.Core.Bool.{Bool, true, false, not, ◌&&◌, true≢false, and-false, and-true, or-false}
use mathlib.Core.List.{List, []}
use mathlib.Core.Option.{Option, none, some}
use Prim.Native.Nat.{ℕ, ◌<◌}
use native.Mathlib.Omega.{arith}
use lib.Dec.{eqb}
use borrow.Author.Tests.{ne_eqb}
use Rattle.cols_spec.specs.Places.{Place, At, Nowhere, find, in_order}
use Rattle.cols_spec.specs.Sets.{has, minus, seats, connections, without, all, any, null, member, once}
use Rattle.codec_table.specs.Named.{DUrq}
use Rattle.out_records.specs.Records.{Sent}
use Rattle.cols_spec.proofs.Digits.{has_those, eqb_sym}
use Rattle.cols_spec.proofs.Rows.{find_holds}
use Rattle.cols_spec.proofs.Members.{member_at, member_once}
use Rattle.cols_spec.proofs.Order.{in_order_has}
use Rattle.domain.specs.Tables.{Domain, link, state, sweep_tokens, remove_users}
use Rattle.domain.specs.declared.token.Holding.{Holding}
use Rattle.domain.specs.declared.token.Holding.TheVariants.{Free, Grabbed, Inhibited, Giving, Given}
use Rattle.domain.specs.Tokens.{lose, lose_offer}
use Rattle.domain.specs.Events.{Event, hears, reads}
use Rattle.domain.specs.Effects.{ignored}
use Rattle.domain.specs.Leaving.{farewell, leave, those_on, detach, close}
use Rattle.domain.specs.Channels.{places}
use Rattle.domain.specs.History.{Entry, History, ◌▹◌, Word, detaches, closes, accepts, declines, code, same, is, sign, reading, asks, link_of, said, closed, leaves}
use Rattle.domain.specs.History.{home, nothing, by_grab}
use Rattle.domain.proofs.Sending.{farewell_all}
use Rattle.domain.proofs.invariant.Sound.{Sound}
use Rattle.domain.proofs.invariant.Leavers.{gone_is}
use Rattle.domain.proofs.invariant.Held.{lose_held}
use Rattle.domain.proofs.holders.Known.{state_swept, unless, find_left, link_left}
use Rattle.domain.proofs.holders.Heard.{Mark, mark_mute, leaves_none, mute, mutes, arrives_none}
use Rattle.domain.proofs.holders.Agrees.{Agrees, Fine, seen, nobody, stand}
use Rattle.domain.proofs.holders.Requests.{stand_inhibited}

-- ---- the records are not read

farewell_mute : (d : Domain) (gone live reason : ℕ) (ids : List ℕ) → all mute (farewell d gone live reason ids) ≡ true
unfolding mute mutes reading same code
farewell_mute = farewell_all mute (λ p n ids. refl) (λ p c. refl) (λ p u k s. refl)

-- ---- a token keeps those who stay

stand_lose : (gone i : ℕ) → i < 64 → has gone i ≡ false → (h : Holding) → stand (lose gone h) i ≡ stand h i
unfolding stand lose lose_offer minus
stand_lose gone i l q h = go h
  where
    stays : (g : ℕ) → has gone g ≡ true → eqb g i ≡ false
    stays g e = ne_eqb g i (λ r. true≢false (sym e ∙ ap (has gone) r ∙ q))

    holder : (g : ℕ) (b : Bool) → has gone g ≡ b → stand (if b then Free else Grabbed g) i ≡ (if eqb g i then by_grab else nothing, false)
    holder g true e = rw (stays g e)
    holder g false e = refl

    recipient : (r : ℕ) (b : Bool) → has gone r ≡ b → stand (if b then Free else Given r) i ≡ (nothing, eqb r i)
    recipient r true e = rw (stays r e)
    recipient r false e = refl

    both : (g r : ℕ) (b : Bool) → has gone g ≡ b → (c : Bool) → has gone r ≡ c → stand (lose_offer b c g r) i ≡ (if eqb g i then by_grab else nothing, eqb r i)
    both g r true e true f = rw (stays g e, stays r f)
    both g r true e false f = rw (stays g e)
    both g r false e true f = rw (stays r f)
    both g r false e false f = refl

    go : (h : Holding) → stand (lose gone h) i ≡ stand h i
    go Free = refl
    go (Grabbed g) = holder g (has gone g) refl
    go (Inhibited us) = stand_inhibited (minus seats us gone) i ∙ rw (has_those 64 (λ j. has us j && not (has gone j)) i l, q, and-true (has us i))
    go (Giving g r) = both g r (has gone g) refl (has gone r) refl
    go (Given r) = recipient r (has gone r) refl

lose_free : (gone : ℕ) → lose gone Free ≡ Free
unfolding lose
lose_free gone = refl

-- ---- the event: history's leavers are those of the mask

module _ (h : History) (d : Domain) (g : Sound d) (a : Agrees h d.users d.tokens) (ev : Event) (gone : ℕ) (rs : List Sent) (dull : all mute rs ≡ true) where
  abbrev e : Entry
  e = record { event = ev; reply = 0; sent = rs }

  -- where history hears that exactly the users at these places leave, the relation holds after they are swept
  pub left_agrees : ((w : Word) → same w detaches ≡ false → (u k : ℕ) → said e (home h u) w u k ≡ false)
      → ((u : ℕ) → leaves e (home h u) u ≡ seen (find d.users.ids u) false (has gone))
      → Agrees (e ▹ h) (remove_users d.users gone) (sweep_tokens (lose gone) d.tokens)
  unfolding same code home
  left_agrees unsaid away = record {
    homes = λ u. arrives_none rs dull u (if leaves e (home h u) u then none else home h u)
        ∙ rw (away u, a.homes u, find_left d g gone u) (house u (find d.users.ids u) refl);
    marks = λ k u. mark_mute e h dull k u
        ∙ rw (unsaid accepts refl u k, unsaid declines refl u k, away u, a.marks k u, state_swept d g (lose gone) (lose_free gone) (lose_held d.users d.users gone (λ i s q. s)) k, find_left d g gone u)
        (hold k u (find d.users.ids u) refl);
  }
    where
      house : (u : ℕ) (p : Place) → find d.users.ids u ≡ p → (if seen p false (has gone) then none else seen p none (λ i. some (link d.users i)))
          ≡ seen (unless gone p) none (λ i. some (link (remove_users d.users gone) i))
      house u (At i) q = on (has gone i) refl
        where
          on : (b : Bool) → has gone i ≡ b → (if b then none else some (link d.users i)) ≡ seen (if b then Nowhere else At i) none (λ i. some (link (remove_users d.users gone) i))
          on true r = refl
          on false r = ap some (sym (link_left d g gone u i q r))
      house u Nowhere q = refl

      hold : (k u : ℕ) (p : Place) → find d.users.ids u ≡ p
          → (if seen p false (has gone) then nothing else (seen p nobody (stand (state d.tokens k))).0, if seen p false (has gone) then false else (seen p nobody (stand (state d.tokens k))).1)
          ≡ seen (unless gone p) nobody (stand (lose gone (state d.tokens k)))
      hold k u (At i) q = on (has gone i) refl
        where
          on : (b : Bool) → has gone i ≡ b → ◌≡◌ {A = Mark} (if b then nothing else (stand (state d.tokens k) i).0, if b then false else (stand (state d.tokens k) i).1)
              (seen (if b then Nowhere else At i) nobody (stand (lose gone (state d.tokens k))))
          on true r = refl
          on false r = sym (stand_lose gone i (omega (arith, (find_holds d.users.ids u i q).1, g.users_are.ids_size)) r (state d.tokens k))
      hold k u Nowhere q = refl

-- ---- who leaves

module _ (h : History) (d : Domain) (g : Sound d) (a : Agrees h d.users d.tokens) where
  leave_fine : (ev : Event) (live reason : ℕ) (ids : List ℕ)
      → ((rs : List Sent) (w : Word) → same w detaches ≡ false → (u k : ℕ) → said (record { event = ev; reply = 0; sent = rs }) (home h u) w u k ≡ false)
      → ((rs : List Sent) (u : ℕ) → leaves (record { event = ev; reply = 0; sent = rs }) (home h u) u ≡ seen (find d.users.ids u) false (has (places d.users ids)))
      → Fine h d ev (leave d live reason ids)
  unfolding leave
  leave_fine ev live reason ids unsaid away = record {
    agrees = left_agrees h d g a ev (places d.users ids) (farewell d (places d.users ids) live reason ids) (farewell_mute d _ live reason ids) (unsaid _) (away _);
    limits = refl;
  }

  -- those on p who are listed leave, where history says so of each user that is found
  gone_away : (e : Entry) (p : ℕ) (ids : List ℕ) → ((u i x : ℕ) → find d.users.ids u ≡ At i → leaves e (some x) u ≡ (eqb p x && member u ids))
      → (u : ℕ) → leaves e (home h u) u ≡ seen (find d.users.ids u) false (has (places d.users (those_on d.users p ids)))
  gone_away e p ids law u = ap (λ (at : Option ℕ). leaves e at u) (a.homes u) ∙ go (find d.users.ids u) refl
    where
      go : (x : Place) → find d.users.ids u ≡ x
          → leaves e (seen x none (λ i. some (link d.users i))) u ≡ seen x false (has (places d.users (those_on d.users p ids)))
      go (At i) q = law u i (link d.users i) q ∙ ap (λ (b : Bool). b && member u ids) (eqb_sym p (link d.users i)) ∙ sym (gone_is d g p u i q ids)
      go Nowhere q = leaves_none e u

  -- DUrq
  module _ (p n : ℕ) (ids : List ℕ) (rs : List Sent) where
    abbrev asked : Entry
    asked = record { event = hears p (reads (DUrq n ids)); reply = 0; sent = rs }

    said_detach : (at : Option ℕ) (w : Word) (u k : ℕ) → same w detaches ≡ false → said asked at w u k ≡ false
    unfolding said is asks reading link_of
    said_detach none w u k q = refl
    said_detach (some x) w u k q = rw (q, and-false (eqb k 0 && member u ids)) (and-false (eqb p x))

    leaves_detach : (x u : ℕ) → leaves asked (some x) u ≡ (eqb p x && member u (once ids))
    unfolding leaves said closed is asks reading link_of same code
    leaves_detach x u = rw (and-false (eqb p x), and-true (member u ids), member_once u ids) (or-false (eqb p x && member u ids))

  -- those listed who are on its connection leave
  pub detach_fine : (p n : ℕ) (ids : List ℕ) → Fine h d (hears p (reads (DUrq n ids))) (detach d p n ids)
  unfolding detach
  detach_fine p n ids = go (null (those_on d.users p (once ids)))
    where
      go : (b : Bool) → Fine h d (hears p (reads (DUrq n ids))) (if b then ignored else leave d d.links n (those_on d.users p (once ids)))
      go true = tt
      go false =
          leave_fine _ d.links n (those_on d.users p (once ids)) (λ rs w q u k. said_detach p n ids rs (home h u) w u k q)
          (λ rs. gone_away (asked p n ids rs) p (once ids) (λ u i x q. leaves_detach p n ids rs x u))

  -- DPum, RJum, loss
  module _ (ev : Event) (p : ℕ) (closing : asks ev ≡ sign closes [] 0) (on : link_of ev ≡ p) where
    module _ (rs : List Sent) where
      abbrev shut : Entry
      shut = record { event = ev; reply = 0; sent = rs }

      said_close : (at : Option ℕ) (w : Word) (u k : ℕ) → said shut at w u k ≡ false
      unfolding said is member any
      said_close none w u k = refl
      said_close (some x) w u k = rw (closing, and-false (eqb k 0)) (and-false (eqb (link_of ev) x))

      leaves_close : (u i x : ℕ) → find d.users.ids u ≡ At i → leaves shut (some x) u ≡ (eqb p x && member u (in_order d.users.ids))
      unfolding leaves closed same code
      leaves_close u i x q =
          let r = find_holds d.users.ids u i q in
          rw (said_close (some x) detaches u 0, closing, on, in_order_has d.users.ids u (rw r.0 at (member_at d.users.ids i r.1)) r.2)

    -- those on the connection leave
    pub close_fine : Fine h d ev (close d p)
    unfolding close
    close_fine =
        leave_fine ev (without connections d.links p) 0 (those_on d.users p (in_order d.users.ids)) (λ rs w q u k. said_close rs (home h u) w u k)
        (λ rs. gone_away (shut rs) p (in_order d.users.ids) (leaves_close rs))
