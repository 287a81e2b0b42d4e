-- What the relation says: history's holders are the table's, one who holds alone is alone, and the tokens in use are counted. Assumes nothing.
use Rattle.std.specs.Prelude.{if◌then◌else◌}
use mathlib.Core.Path.{◌≡◌, refl, sym, ap, ◌∙◌}
use mathlib.Core.Bool.{Bool, true, false, not, ◌&&◌, ◌||◌, true≢false, false≢true}
use mathlib.Core.List.{[]}
use Prim.Native.Nat.{ℕ, zero, suc, ◌<◌}
use native.Mathlib.Nat.{add-zero, zero-lt-suc}
use native.Mathlib.Omega.{arith}
use lib.Dec.{eqb}
use lib.ListN.{get_or}
use borrow.Author.Tests.{eq-eqb, eqb-true, eqb-false}
use Rattle.cols_spec.specs.Places.{Place, At, Nowhere, find, used, load}
use Rattle.cols_spec.specs.Sets.{has, any, keep, below, member}
use Rattle.cols_spec.proofs.Below.{any_hit, any_none, Search, hit, miss, seek_first}
use Rattle.cols_spec.proofs.Digits.{mask_ext}
use Rattle.cols_spec.proofs.Marks.{has_none}
use Rattle.cols_spec.proofs.Rows.{find_none, find_holds}
use Rattle.cols_spec.proofs.Members.{member_at, member_where}
use Rattle.domain.specs.Tables.{Users, Domain, name, state, is_free}
use Rattle.domain.specs.declared.token.Holding.{Holding}
use Rattle.domain.specs.declared.token.Holding.TheVariants.{Free, Grabbed, Inhibited, Giving, Given}
use Rattle.domain.specs.Cells.{no_token, hold}
use Rattle.domain.specs.History.{History, gain, open_offer, Gain, nothing, by_grab, by_inhibit, by_offer, held, alone, busy, count, every_id}
use Rattle.domain.specs.Claims.{holds, holder}
use Rattle.domain.proofs.invariant.Sound.{free_is, Seated, Held, Sound}
use Rattle.domain.proofs.invariant.Held.{state_held}
use Rattle.domain.proofs.holders.Known.{tokens_distinct, seated_at}
use Rattle.domain.proofs.holders.Heard.{Mark, mark, flat}
use Rattle.domain.proofs.holders.Agrees.{Agrees, seen, nobody, stand}
use Rattle.domain.proofs.holders.Counting.{count_to, count_upto, count_same, count_ids, in_use}

held_flat : (g : Gain) → held (flat g) ≡ held g
unfolding held flat
held_flat nothing = refl
held_flat by_grab = refl
held_flat by_inhibit = refl
held_flat by_offer = refl

alone_flat : (g : Gain) → alone (flat g) ≡ alone g
unfolding alone flat
alone_flat nothing = refl
alone_flat by_grab = refl
alone_flat by_inhibit = refl
alone_flat by_offer = refl

-- ---- one token

held_if : (x : Gain) → held x ≡ true → (b : Bool) → held (if b then x else nothing) ≡ b
unfolding held
held_if x e true = e
held_if x e false = refl

stand_holds : (h : Holding) (i : ℕ) → held (stand h i).0 ≡ holds h i
unfolding held stand holds
stand_holds Free i = refl
stand_holds (Grabbed g) i = held_if by_grab refl (eqb g i)
stand_holds (Inhibited us) i = held_if by_inhibit refl (has us i)
stand_holds (Giving g r) i = held_if by_grab refl (eqb g i)
stand_holds (Given r) i = refl

-- who stands alone is the only one
one_grabber : (g i j : ℕ) → alone (if eqb g i then by_grab else nothing) ≡ true → eqb g j ≡ true → j ≡ i
unfolding alone
one_grabber g i j p q = go (eqb g i) refl p
  where
    go : (b : Bool) → eqb g i ≡ b → alone (if b then by_grab else nothing) ≡ true → j ≡ i
    go true e r = sym (eqb-true g j q) ∙ eqb-true g i e
    go false e r = absurd (false≢true r)

stand_alone : (h : Holding) (i j : ℕ) → alone (stand h i).0 ≡ true → holds h j ≡ true → j ≡ i
unfolding alone stand holds
stand_alone Free i j p q = absurd (false≢true p)
stand_alone (Grabbed g) i j p q = one_grabber g i j p q
stand_alone (Inhibited us) i j p q = go (has us i) p
  where
    go : (b : Bool) → alone (if b then by_inhibit else nothing) ≡ true → j ≡ i
    go true r = absurd (false≢true r)
    go false r = absurd (false≢true r)
stand_alone (Giving g x) i j p q = one_grabber g i j p q
stand_alone (Given r) i j p q = absurd (false≢true p)

-- what makes a token busy
unfoldable pub active : Mark → Bool
active m = held m.0 || m.1

record Party (us : Users) (h : Holding) : Type 0 where
  who : ℕ
  there : Seated us who
  acts : active (stand h who) ≡ true

-- a state in use has a user that makes it busy
party_of : (us : Users) (h : Holding) → is_free h ≡ false → Held us h → Party us h
unfolding stand active held is_free
party_of us Free f s = absurd (true≢false f)
party_of us (Grabbed g) f s = record { who = g; there = s; acts = rw (eq-eqb g g refl) }
party_of us (Inhibited is) f s = go (seek_first (has is) 64)
  where
    none_there : ((i : ℕ) → i < 64 → has is i ≡ false) → is ≡ 0
    none_there h = mask_ext 64 is 0 s.1.fits (omega arith) (λ i l. h i l ∙ sym (has_none i))

    go : Search (has is) 64 → Party us (Inhibited is)
    go (hit i l q) = record { who = i; there = s.1.are i q; acts = rw q }
    go (miss h) = absurd (omega (arith, s.0, none_there h))
party_of us (Giving g r) f s = record { who = g; there = s.0; acts = rw (eq-eqb g g refl) }
party_of us (Given r) f s = record { who = r; there = s; acts = eq-eqb r r refl }

-- ---- of sound tables that agree with a history

module _ (h : History) (d : Domain) (g : Sound d) (a : Agrees h d.users d.tokens) where
  -- (i)
  pub holders_same : (k u : ℕ) → held (gain h k u) ≡ holder d k u
  unfolding holder mark held
  holders_same k u = sym (held_flat (gain h k u)) ∙ ap (λ (m : Mark). held m.0) (a.marks k u) ∙ go (find d.users.ids u)
    where
      go : (p : Place) → held (seen p nobody (stand (state d.tokens k))).0 ≡ elim p as (λ (_ : Place). Bool) [ At i ↦ holds (state d.tokens k) i | Nowhere ↦ false ]
      go (At i) = stand_holds (state d.tokens k) i
      go Nowhere = refl

  -- (ii)
  pub holder_alone : (k u v : ℕ) → alone (gain h k u) ≡ true → held (gain h k v) ≡ true → v ≡ u
  unfolding holder mark alone
  holder_alone k u v p q =
      go (find d.users.ids u) refl (find d.users.ids v) refl
      (sym (ap (λ (m : Mark). alone m.0) (a.marks k u)) ∙ alone_flat (gain h k u) ∙ p) (sym (holders_same k v) ∙ q)
    where
      go : (x : Place) → find d.users.ids u ≡ x → (y : Place) → find d.users.ids v ≡ y
          → alone (seen (find d.users.ids u) nobody (stand (state d.tokens k))).0 ≡ true
          → elim (find d.users.ids v) as (λ (_ : Place). Bool) [ At i ↦ holds (state d.tokens k) i | Nowhere ↦ false ] ≡ true → v ≡ u
      go (At i) e (At j) f r s =
          sym (find_holds d.users.ids v j f).0
          ∙ ap (λ (n : ℕ). get_or d.users.ids n 0) (stand_alone (state d.tokens k) i j (rw e at r) (rw f at s))
          ∙ (find_holds d.users.ids u i e).0
      go (At i) e Nowhere f r s = absurd (false≢true (rw f at s))
      go Nowhere e y f r s = absurd (false≢true (rw e at r))

  -- a user's id is below 65536
  user_small : (i : ℕ) → Seated d.users i → name d.users i < 65536
  unfolding name
  user_small i s = omega (arith, (g.users_are.rows i s).high)

  -- a token has a holder or an open offer exactly where it is not free
  pub busy_state : (k : ℕ) → busy h k ≡ not (is_free (state d.tokens k))
  unfolding busy active mark held stand
  busy_state k = go (is_free (state d.tokens k)) refl
    where
      some_user : is_free (state d.tokens k) ≡ false → Party d.users (state d.tokens k)
      some_user f = party_of d.users (state d.tokens k) f (state_held d g k)

      test : ℕ → Bool
      test u = held (gain h k u) || open_offer h k u

      reads : (u : ℕ) → test u ≡ active (seen (find d.users.ids u) nobody (stand (state d.tokens k)))
      reads u = ap (λ (b : Bool). b || open_offer h k u) (sym (held_flat (gain h k u))) ∙ ap active (a.marks k u)

      idle : (p : Place) → active (seen p nobody (stand Free)) ≡ false
      idle (At i) = refl
      idle Nowhere = refl

      go : (b : Bool) → is_free (state d.tokens k) ≡ b → any test (below every_id) ≡ not b
      go true f = any_none test (λ u. reads u ∙ rw (free_is (state d.tokens k) f) (idle (find d.users.ids u))) (below every_id)
      go false f = any_hit test 65536 [] (name d.users (some_user f).who) (user_small (some_user f).who (some_user f).there) (reads (name d.users (some_user f).who) ∙ rw (seated_at d g (some_user f).who (some_user f).there) (some_user f).acts)

  -- the tokens in use
  pub state_in_use : (k : ℕ) → not (is_free (state d.tokens k)) ≡ in_use d.tokens.ids k
  unfolding state load is_free hold
  state_in_use k = go (find d.tokens.ids k) refl (eqb k 0) refl (member k d.tokens.ids) refl
    where
      go : (w : Place) → find d.tokens.ids k ≡ w → (b : Bool) → eqb k 0 ≡ b → (m : Bool) → member k d.tokens.ids ≡ m
          → not (is_free (hold (load d.tokens.cells (find d.tokens.ids k) no_token))) ≡ (not b && m)
      go (At i) e true z m p = absurd (omega (arith, (find_holds d.tokens.ids k i e).2, eqb-true k 0 z))
      go (At i) e false z true p = let r = find_holds d.tokens.ids k i e in rw e (ap not (g.tokens_are.rows i (rw r.0 r.2)).busy)
      go (At i) e false z false p = let r = find_holds d.tokens.ids k i e in absurd (true≢false (sym (rw r.0 at (member_at d.tokens.ids i r.1)) ∙ p))
      go Nowhere e true z m p = rw e
      go Nowhere e false z true p =
          let r = member_where d.tokens.ids k p in absurd (find_none d.tokens.ids k e (omega (arith, eqb-false k 0 z)) r.0 r.1)
      go Nowhere e false z false p = rw e

  -- (iii)
  pub tokens_counted : count h ≡ used d.tokens.ids
  unfolding count keep
  tokens_counted =
      count_upto (busy h) 65536 [] ∙ add-zero (count_to (busy h) 65536)
      ∙ count_same (busy h) (in_use d.tokens.ids) (λ k. busy_state k ∙ state_in_use k) 65536
      ∙ count_ids 65536 d.tokens.ids (tokens_distinct d g) small
    where
      small : (k : ℕ) → member k d.tokens.ids ≡ true → k < 65536
      small zero m = omega arith
      small (suc k) m =
          let r = member_where d.tokens.ids (suc k) m in
          omega (arith, r.1, (g.tokens_are.rows r.0 (rw r.1 (zero-lt-suc k))).small)
