-- TVrq and TVrs: an offer opens and closes for history as it does in the table. Assumes nothing.
use Rattle.std.specs.Prelude.{if◌then◌else◌}
use mathlib.Core.Path.{◌≡◌, refl, sym, ap, ◌∙◌, subst}
use mathlib.Core.Bool.{Bool, true, false, ◌&&◌, ◌||◌, and-false, false≢true}
use mathlib.Core.List.{List, [], ◌∷◌}
use mathlib.Core.Option.{Option, none, some, some-injective}
use Prim.Native.Nat.{ℕ, ◌≤◌}
use native.Mathlib.Omega.{arith}
use lib.Dec.{eqb}
use borrow.Author.Tests.{eq-eqb, eqb-true}
use Rattle.cols_spec.specs.Places.{Place, At, Nowhere, find}
use Rattle.cols_spec.specs.Sets.{all, any, member}
use Rattle.codec_table.specs.Named.{Message, TVrq, TVrs, TVcf, TVin, successful, no_such_user, token_not_possessed}
use Rattle.out_records.specs.Records.{Sent, to}
use Rattle.cols_spec.proofs.Bools.{none≢some}
use Rattle.domain.specs.declared.token.Holding.{Holding}
use Rattle.domain.specs.declared.token.Holding.TheVariants.{Free, Grabbed, Inhibited, Giving, Given}
use Rattle.domain.specs.Tables.{Tokens, Domain, name, link, state, is_free, set_token, put_tokens}
use Rattle.domain.specs.Tokens.{grabbed_by, offered_to, responded, status}
use Rattle.domain.specs.Events.{Event, hears, reads}
use Rattle.domain.specs.Effects.{Effect, ignored, done, within}
use Rattle.domain.specs.Passing.{offer, answer, informed}
use Rattle.domain.specs.History.{Entry, History, ◌▹◌, Word, attaches, yields, offers, accepts, declines, other, code, same, is, reading, asks, link_of, told, said}
use Rattle.domain.specs.History.{closed, leaves, arrives, home, nothing, by_grab}
use Rattle.domain.proofs.invariant.Sound.{Held, Sound}
use Rattle.domain.proofs.invariant.Held.{answered_held, state_held}
use Rattle.domain.proofs.holders.Known.{found_seated, seated_at, state_then}
use Rattle.domain.proofs.holders.Heard.{mute, mutes}
use Rattle.domain.proofs.holders.Agrees.{Agrees, Fine, calm, from_fine, stand, shifts, ReadWord, token_agrees}
use Rattle.domain.proofs.holders.Requests.{written, told_one, home_one}

-- ---- TVrq

-- who has grabbed it
grabbed_is : (h : Holding) (i : ℕ) → grabbed_by h i ≡ true → h ≡ Grabbed i
unfolding grabbed_by
grabbed_is Free i e = absurd (false≢true e)
grabbed_is (Grabbed g) i e = ap Grabbed (eqb-true g i e)
grabbed_is (Inhibited us) i e = absurd (false≢true e)
grabbed_is (Giving g r) i e = absurd (false≢true e)
grabbed_is (Given r) i e = absurd (false≢true e)

-- the giver keeps it, and the offer is open
offer_places : (b c : Bool) → shifts offers other c b (if b then by_grab else nothing, false) ≡ (if b then by_grab else nothing, c)
unfolding same code
offer_places true true = refl
offer_places true false = refl
offer_places false true = refl
offer_places false false = refl

module _ (h : History) (d : Domain) (g : Sound d) (a : Agrees h d.users d.tokens) (p u k r : ℕ) (kz : 1 ≤ k) where
  -- TVin opens the offer; a refused TVrq says nothing
  pub offer_fine : Fine h d (hears p (reads (TVrq u k r))) (within (put_tokens d) (offer d.users d.tokens p u k r))
  unfolding offer asks reading all mute mutes same code stand is_free within
  offer_fine = from_fine h d a ev (put_tokens d) p u _ (λ i mine on. go i mine (grabbed_by (state d.tokens k) i) refl)
    where
      ev : Event
      ev = hears p (reads (TVrq u k r))

      refused : (i n : ℕ) → Effect Tokens
      refused i n = done d.tokens (to p (TVcf n u k (status (state d.tokens k) i)) ∷ [])

      refused_fine : (i n : ℕ) → eqb n successful ≡ false → Fine h d ev (within (put_tokens d) (refused i n))
      refused_fine i n q = calm h d a ev refl (put_tokens d d.tokens) _ refl refl refl (rw q)

      -- the recipient
      chosen : ℕ → Place → Effect Tokens
      chosen i x = elim x [ At j ↦ done (set_token d.tokens k (Giving i j)) (to (link d.users j) (TVin u k r) ∷ []) | Nowhere ↦ refused i no_such_user ]

      to_whom : (i : ℕ) → find d.users.ids u ≡ At i → state d.tokens k ≡ Grabbed i → (x : Place) → find d.users.ids r ≡ x → Fine h d ev (within (put_tokens d) (chosen i x))
      to_whom i mine s (At j) q =
          written h d g a ev refl (link d.users j) k r j u i (TVin u k r) offers (Giving i j) refl refl kz q mine
          (λ n l. rw s (offer_places (eqb i n) (eqb j n)))
          ((found_seated d.users u i mine, found_seated d.users r j q), λ z y. absurd (false≢true (rw s at z)))
      to_whom i mine s Nowhere q = refused_fine i no_such_user refl

      go : (i : ℕ) → find d.users.ids u ≡ At i → (b : Bool) → grabbed_by (state d.tokens k) i ≡ b
          → Fine h d ev (within (put_tokens d) (if b then chosen i (find d.users.ids r) else refused i token_not_possessed))
      go i mine true q = to_whom i mine (grabbed_is (state d.tokens k) i q) (find d.users.ids r) refl
      go i mine false q = refused_fine i token_not_possessed refl

-- ---- TVrs

-- what u's answer on the connection p says
module _ (p n r k : ℕ) (rs : List Sent) where
  abbrev reply_word : Word
  reply_word = if eqb n 0 then accepts else declines

  abbrev answers : Entry
  answers = record { event = hears p (reads (TVrs n r k)); reply = 0; sent = rs }

  said_answer : (w : Word) (u j : ℕ) (at : Option ℕ) → (u ≡ r → at ≡ some p) → said answers at w u j ≡ (eqb j k && eqb u r && same w reply_word)
  unfolding said is asks reading link_of member any
  said_answer w u j at on = go (eqb u r) refl at on
    where
      away : (b c : Bool) → (b && false && c) ≡ false
      away true c = refl
      away false c = refl

      go : (b : Bool) → eqb u r ≡ b → (at : Option ℕ) → (u ≡ r → at ≡ some p) → said answers at w u j ≡ (eqb j k && b && same w reply_word)
      go true q none o = absurd (none≢some (o (eqb-true u r q)))
      go true q (some x) o = rw (eq-eqb p x (sym (some-injective x p (o (eqb-true u r q)))), q)
      go false q none o = sym (away (eqb j k) (same w reply_word))
      go false q (some x) o = rw (q, away (eqb j k) (same w reply_word)) (and-false (eqb p x))

  leaves_answer : (at : Option ℕ) (u : ℕ) → leaves answers at u ≡ false
  unfolding leaves said closed is asks reading link_of same code
  leaves_answer none u = refl
  leaves_answer (some x) u = go (eqb n 0)
    where
      go : (b : Bool) → (eqb p x && (eqb 0 k && member u (r ∷ []) && eqb 1 (code (if b then accepts else declines))) || eqb p x && eqb 2 (code (if b then accepts else declines))) ≡ false
      go true = rw (and-false (eqb 0 k && member u (r ∷ [])), and-false (eqb p x))
      go false = rw (and-false (eqb 0 k && member u (r ∷ [])), and-false (eqb p x))

-- the state that an answer leaves stands to each place as history hears
giving_law : (b : Bool) (x i j : ℕ)
    → shifts (if b then yields else other) (if b then accepts else declines) (eqb x j) (eqb i j) (stand (Giving x i) j) ≡ stand (responded b (Giving x i) i) j
unfolding stand responded same code
giving_law b x i j = go b (eqb x j) (eqb i j) refl refl
  where
    go : (b c f : Bool) → eqb x j ≡ c → eqb i j ≡ f
        → shifts (if b then yields else other) (if b then accepts else declines) (eqb x j) (eqb i j) (if eqb x j then by_grab else nothing, eqb i j) ≡ stand (responded b (Giving x i) i) j
    go true true true q r = rw (q, r)
    go true true false q r = rw (q, r)
    go true false true q r = rw (q, r)
    go true false false q r = rw (q, r)
    go false true true q r = rw (q, r)
    go false true false q r = rw (q, r)
    go false false true q r = rw (q, r)
    go false false false q r = rw (q, r)

given_law : (b : Bool) (i j : ℕ) → shifts other (if b then accepts else declines) (eqb i j) (eqb i j) (stand (Given i) j) ≡ stand (responded b (Given i) i) j
unfolding stand responded same code
given_law b i j = go b (eqb i j) refl
  where
    go : (b f : Bool) → eqb i j ≡ f → shifts other (if b then accepts else declines) (eqb i j) (eqb i j) (nothing, eqb i j) ≡ stand (responded b (Given i) i) j
    go true true r = rw r
    go true false r = rw r
    go false true r = rw r
    go false false r = rw r

module _ (h : History) (d : Domain) (g : Sound d) (a : Agrees h d.users d.tokens) (p n r k : ℕ) (kz : 1 ≤ k) where
  abbrev ev : Event
  ev = hears p (reads (TVrs n r k))

  module _ (i : ℕ) (mine : find d.users.ids r ≡ At i) (on : link d.users i ≡ p) where
    at_home : (u : ℕ) → u ≡ r → home h u ≡ some p
    at_home u e = ap (home h) e ∙ a.homes r ∙ rw (mine, on)

    -- the token comes from the state `was` to what the answer makes of it; a record may say sw of a user x at place c
    settles : (was : Holding) (rs : List Sent) (x c : ℕ) (sw : Word)
        → state d.tokens k ≡ was → is_free was ≡ false → find d.users.ids x ≡ At c
        → ((u : ℕ) → leaves (answers p n r k rs) (home h u) u ≡ false → home (answers p n r k rs ▹ h) u ≡ home h u)
        → ((w : Word) → ReadWord w → (u j : ℕ) → told (answers p n r k rs) w u j ≡ (eqb j k && eqb u x && same w sw))
        → ((j : ℕ) → shifts sw (reply_word p n r k rs) (eqb c j) (eqb i j) (stand was j) ≡ stand (responded (eqb n successful) was i) j)
        → Fine h d ev (done (put_tokens d (set_token d.tokens k (responded (eqb n successful) was i))) rs)
    settles was rs x c sw s busy theirs homely tells law = record {
      agrees = token_agrees h d.users d.tokens a (omega (arith, g.users_are.ids_size)) (answers p n r k rs) (set_token d.tokens k now) k x r sw (reply_word p n r k rs) was now
          s (state_then d g k now kz seated (λ z y. absurd (false≢true (sym busy ∙ ap is_free (sym s) ∙ z)))) c i theirs mine here (λ u. homely u (here u)) tells
          (λ v q u j. said_answer p n r k rs v u j (home h u) (at_home u))
          (λ j l. law j);
      limits = refl;
    }
      where
        now : Holding
        now = responded (eqb n successful) was i

        here : (u : ℕ) → leaves (answers p n r k rs) (home h u) u ≡ false
        here u = leaves_answer p n r k rs (home h u) u

        seated : Held d.users now
        seated = answered_held d.users g.users_are.ids_size i (found_seated d.users r i mine) (eqb n successful) was (subst (Held d.users) s (state_held d g k))

    no_newcomer : (b : Bool) → same attaches (if b then yields else other) ≡ false
    unfolding same code
    no_newcomer true = refl
    no_newcomer false = refl

    abbrev effect : Holding → Effect Tokens
    effect s = done (set_token d.tokens k (responded (eqb n successful) s i)) (informed d.users n k s (responded (eqb n successful) s i))

    from_giving : (x : ℕ) → state d.tokens k ≡ Giving x i → Fine h d ev (within (put_tokens d) (effect (Giving x i)))
    unfolding reading is_free informed within
    from_giving x s =
        settles (Giving x i) (to (link d.users x) m ∷ []) (name d.users x) x (if eqb n successful then yields else other)
        s refl (seated_at d g x (subst (Held d.users) s (state_held d g k)).0)
        (λ u l. home_one ev (link d.users x) m _ (name d.users x) k refl h u l (no_newcomer (eqb n successful)))
        (λ v q u j. told_one ev (link d.users x) m _ (name d.users x) k refl v u j)
        (λ j. giving_law (eqb n successful) x i j)
      where
        m : Message
        m = TVcf n (name d.users x) k (status (responded (eqb n successful) (Giving x i) i) x)

    from_given : state d.tokens k ≡ Given i → Fine h d ev (within (put_tokens d) (effect (Given i)))
    unfolding told any home arrives is_free mutes same code informed within
    from_given s =
        settles (Given i) [] r i other s refl mine
        (λ u l. rw l)
        (λ v q u j. sym (ap (λ (b : Bool). eqb j k && eqb u r && b) (q other refl) ∙ and-false (eqb j k && eqb u r)))
        (λ j. given_law (eqb n successful) i j)

    -- from a state that names the recipient y
    from_offer : (make : (ℕ → Holding)) → (state d.tokens k ≡ make i → Fine h d ev (within (put_tokens d) (effect (make i))))
        → (y : ℕ) → state d.tokens k ≡ make y → (b : Bool) → eqb y i ≡ b → Fine h d ev (within (put_tokens d) (if b then effect (make y) else ignored))
    unfolding within
    from_offer make f y s true q = rw (eqb-true y i q) (f (s ∙ ap make (eqb-true y i q)))
    from_offer make f y s false q = tt

    from_state : (s : Holding) → state d.tokens k ≡ s → Fine h d ev (within (put_tokens d) (if offered_to s i then effect s else ignored))
    unfolding offered_to within
    from_state Free s = tt
    from_state (Grabbed x) s = tt
    from_state (Inhibited us) s = tt
    from_state (Giving x y) s = from_offer (Giving x) (from_giving x) y s (eqb y i) refl
    from_state (Given y) s = from_offer Given from_given y s (eqb y i) refl

  -- the answer closes the offer, and TVcf takes the token from the giver
  pub answer_fine : Fine h d ev (within (put_tokens d) (answer d.users d.tokens p n r k))
  unfolding answer
  answer_fine = from_fine h d a ev (put_tokens d) p r _ (λ i mine on. from_state i mine on (state d.tokens k) refl)
