-- Tokens whose states name the same users: what each request makes of them, and what is sent. Assumes nothing.
use Rattle.std.specs.Prelude.{if◌then◌else◌}
use mathlib.Core.Path.{◌≡◌, refl, ap}
use mathlib.Core.Bool.{Bool, true, false, true≢false, false≢true}
use mathlib.Core.List.{List, []}
use Prim.Native.Nat.{ℕ}
use native.Mathlib.Omega.{arith}
use lib.Dec.{eqb}
use Rattle.cols_spec.specs.Sets.{has, only, seats}
use Rattle.codec_table.specs.Named.{self_recipient, other_giving}
use Rattle.domain.specs.declared.token.Holding.{Holding}
use Rattle.domain.specs.declared.token.Holding.TheVariants.{Free, Grabbed, Inhibited, Giving, Given}
use Rattle.domain.specs.Tables.{Users, is_free}
use Rattle.domain.specs.Tokens.{Turned, fails, turns, status, grab, inhibit, release, inhibited, grabbed_by, offered_to, responded, party}
use Rattle.domain_laws.specs.Same.{Standing, nobody, grabbed, inhibited as inhibited_by, giving, given, standing}
use Rattle.domain.proofs.invariant.Sound.{Held}
use Rattle.domain_laws.proofs.same.Twins.{Twins, Pair, Match, pair_eqb, pair_name, match_none, match_only, match_with, match_without, match_ids, match_eqb, match_by, pair_by}

-- a choice by tests that agree, between things that are related; each case with what it knows
pub either_by : {A B : Type 0} (R : (A → B → Type 0)) (b c : Bool) {x y : A} {v w : B} → b ≡ c → (b ≡ true → R x v) → (b ≡ false → R y w) → R (if b then x else y) (if c then v else w)
either_by R true true e p q = p refl
either_by R true false e p q = absurd (true≢false e)
either_by R false true e p q = absurd (false≢true e)
either_by R false false e p q = q refl

pub either : {A B : Type 0} (R : (A → B → Type 0)) (b c : Bool) {x y : A} {v w : B} → b ≡ c → R x v → R y w → R (if b then x else y) (if c then v else w)
either R b c e p q = either_by R b c e (λ z. p) (λ z. q)

-- states that name the same users
pub data Twin (us vs : Users) : Holding → Holding → Type 0 where
  both_free : Twin us vs Free Free
  both_grabbed : {g h : ℕ} → Pair us vs g h → Twin us vs (Grabbed g) (Grabbed h)
  both_inhibited : {m n : ℕ} → Match us vs m n → Twin us vs (Inhibited m) (Inhibited n)
  both_giving : {g h r s : ℕ} → Pair us vs g h → Pair us vs r s → Twin us vs (Giving g r) (Giving h s)
  both_given : {r s : ℕ} → Pair us vs r s → Twin us vs (Given r) (Given s)

-- the parts of what is said of a state
tag : Standing → ℕ
tag nobody = 0
tag (grabbed g) = 1
tag (inhibited_by is) = 2
tag (giving g r) = 3
tag (given r) = 4

who : Standing → ℕ
who nobody = 0
who (grabbed g) = g
who (inhibited_by is) = 0
who (giving g r) = g
who (given r) = r

whom : Standing → ℕ
whom nobody = 0
whom (grabbed g) = 0
whom (inhibited_by is) = 0
whom (giving g r) = r
whom (given r) = 0

those_of : Standing → List ℕ
those_of nobody = []
those_of (grabbed g) = []
those_of (inhibited_by is) = is
those_of (giving g r) = []
those_of (given r) = []

module _ (us vs : Users) (t : Twins us vs) where
  -- states of which the same is said by ids, and the reverse
  pub twin_of : (h k : Holding) → Held us h → Held vs k → standing us h ≡ standing vs k → Twin us vs h k
  unfolding standing tag who whom those_of
  twin_of Free Free x y e = both_free
  twin_of (Grabbed g) (Grabbed h) x y e = both_grabbed (pair_by us vs t g h x y (ap who e))
  twin_of (Inhibited m) (Inhibited n) x y e = both_inhibited (match_by us vs t x.1 y.1 (ap those_of e))
  twin_of (Giving g r) (Giving h s) x y e = both_giving (pair_by us vs t g h x.0 y.0 (ap who e)) (pair_by us vs t r s x.1 y.1 (ap whom e))
  twin_of (Given r) (Given s) x y e = both_given (pair_by us vs t r s x y (ap who e))
  twin_of Free (Grabbed h) x y e = absurd (omega (arith, ap tag e))
  twin_of Free (Inhibited n) x y e = absurd (omega (arith, ap tag e))
  twin_of Free (Giving h s) x y e = absurd (omega (arith, ap tag e))
  twin_of Free (Given s) x y e = absurd (omega (arith, ap tag e))
  twin_of (Grabbed g) Free x y e = absurd (omega (arith, ap tag e))
  twin_of (Grabbed g) (Inhibited n) x y e = absurd (omega (arith, ap tag e))
  twin_of (Grabbed g) (Giving h s) x y e = absurd (omega (arith, ap tag e))
  twin_of (Grabbed g) (Given s) x y e = absurd (omega (arith, ap tag e))
  twin_of (Inhibited m) Free x y e = absurd (omega (arith, ap tag e))
  twin_of (Inhibited m) (Grabbed h) x y e = absurd (omega (arith, ap tag e))
  twin_of (Inhibited m) (Giving h s) x y e = absurd (omega (arith, ap tag e))
  twin_of (Inhibited m) (Given s) x y e = absurd (omega (arith, ap tag e))
  twin_of (Giving g r) Free x y e = absurd (omega (arith, ap tag e))
  twin_of (Giving g r) (Grabbed h) x y e = absurd (omega (arith, ap tag e))
  twin_of (Giving g r) (Inhibited n) x y e = absurd (omega (arith, ap tag e))
  twin_of (Giving g r) (Given s) x y e = absurd (omega (arith, ap tag e))
  twin_of (Given r) Free x y e = absurd (omega (arith, ap tag e))
  twin_of (Given r) (Grabbed h) x y e = absurd (omega (arith, ap tag e))
  twin_of (Given r) (Inhibited n) x y e = absurd (omega (arith, ap tag e))
  twin_of (Given r) (Giving h s) x y e = absurd (omega (arith, ap tag e))

  pub twin_says : {h k : Holding} → Twin us vs h k → standing us h ≡ standing vs k
  unfolding standing
  twin_says both_free = refl
  twin_says (both_grabbed p) = ap grabbed (pair_name us vs p)
  twin_says (both_inhibited {m} {n} x) = ap inhibited_by (match_ids us vs t m n x)
  twin_says (both_giving p q) = rw (pair_name us vs p, pair_name us vs q)
  twin_says (both_given p) = ap given (pair_name us vs p)

  pub twin_free : {h k : Holding} → Twin us vs h k → is_free h ≡ is_free k
  unfolding is_free
  twin_free both_free = refl
  twin_free (both_grabbed p) = refl
  twin_free (both_inhibited x) = refl
  twin_free (both_giving p q) = refl
  twin_free (both_given p) = refl

  pub twin_party : {h k : Holding} → Twin us vs h k → Match us vs (party h) (party k)
  unfolding party
  twin_party both_free = match_none us vs
  twin_party (both_grabbed p) = match_only us vs t p
  twin_party (both_inhibited x) = x
  twin_party (both_giving p q) = match_with us vs t _ _ (match_only us vs t p) q
  twin_party (both_given p) = match_only us vs t p

  -- a set of users, free if it is empty
  pub twin_set : {m n : ℕ} → Match us vs m n → Twin us vs (inhibited m) (inhibited n)
  unfolding inhibited
  twin_set {m} {n} x = either (Twin us vs) (eqb m 0) (eqb n 0) (match_eqb us vs t x (match_none us vs)) both_free (both_inhibited x)

  -- requests by one user
  module _ {i j : ℕ} (q : Pair us vs i j) where
    pub twin_status : {h k : Holding} → Twin us vs h k → status h i ≡ status k j
    unfolding status
    twin_status both_free = refl
    twin_status (both_grabbed p) = rw (pair_eqb us vs p q)
    twin_status (both_inhibited x) = rw (x.same i j q)
    twin_status (both_giving p r) = rw (pair_eqb us vs p q, pair_eqb us vs r q)
    twin_status (both_given p) = ap (λ (b : Bool). if b then self_recipient else other_giving) (pair_eqb us vs p q)

    pub twin_grabbed_by : {h k : Holding} → Twin us vs h k → grabbed_by h i ≡ grabbed_by k j
    unfolding grabbed_by
    twin_grabbed_by both_free = refl
    twin_grabbed_by (both_grabbed p) = pair_eqb us vs p q
    twin_grabbed_by (both_inhibited x) = refl
    twin_grabbed_by (both_giving p r) = refl
    twin_grabbed_by (both_given p) = refl

    pub twin_offered_to : {h k : Holding} → Twin us vs h k → offered_to h i ≡ offered_to k j
    unfolding offered_to
    twin_offered_to both_free = refl
    twin_offered_to (both_grabbed p) = refl
    twin_offered_to (both_inhibited x) = refl
    twin_offered_to (both_giving p r) = pair_eqb us vs r q
    twin_offered_to (both_given p) = pair_eqb us vs p q

    pub twin_answered : (b : Bool) {h k : Holding} → Twin us vs h k → Twin us vs (responded b h i) (responded b k j)
    unfolding responded
    twin_answered true x = both_grabbed q
    twin_answered false both_free = both_free
    twin_answered false (both_grabbed p) = both_grabbed p
    twin_answered false (both_inhibited x) = both_inhibited x
    twin_answered false (both_giving p r) = both_grabbed p
    twin_answered false (both_given p) = both_free

-- what a request makes of such states: it fails alike, or turns them into such states
pub data TwinTurns (us vs : Users) : Turned → Turned → Type 0 where
  fail : (n : ℕ) → TwinTurns us vs (fails n) (fails n)
  turn_to : {h k : Holding} → Twin us vs h k → TwinTurns us vs (turns h) (turns k)

module _ (us vs : Users) (t : Twins us vs) {i j : ℕ} (q : Pair us vs i j) where
  pub twin_grab : (full : Bool) {h k : Holding} → Twin us vs h k → TwinTurns us vs (grab full h i) (grab full k j)
  unfolding grab
  twin_grab full both_free = either (TwinTurns us vs) full full refl (fail _) (turn_to (both_grabbed q))
  twin_grab full (both_grabbed p) = fail _
  twin_grab full (both_inhibited {m} {n} x) = either (TwinTurns us vs) (eqb m (only seats i)) (eqb n (only seats j)) (match_eqb us vs t x (match_only us vs t q)) (turn_to (both_grabbed q)) (fail _)
  twin_grab full (both_giving p r) = fail _
  twin_grab full (both_given p) = fail _

  pub twin_inhibit : (full : Bool) {h k : Holding} → Twin us vs h k → TwinTurns us vs (inhibit full h i) (inhibit full k j)
  unfolding inhibit
  twin_inhibit full both_free = either (TwinTurns us vs) full full refl (fail _) (turn_to (both_inhibited (match_only us vs t q)))
  twin_inhibit full (both_grabbed {g} {h} p) = either (TwinTurns us vs) (eqb g i) (eqb h j) (pair_eqb us vs p q) (turn_to (both_inhibited (match_only us vs t q))) (fail _)
  twin_inhibit full (both_inhibited x) = turn_to (both_inhibited (match_with us vs t _ _ x q))
  twin_inhibit full (both_giving p r) = fail _
  twin_inhibit full (both_given p) = fail _

  pub twin_release : {h k : Holding} → Twin us vs h k → TwinTurns us vs (release h i) (release k j)
  unfolding release
  twin_release both_free = fail _
  twin_release (both_grabbed {g} {h} p) = either (TwinTurns us vs) (eqb g i) (eqb h j) (pair_eqb us vs p q) (turn_to both_free) (fail _)
  twin_release (both_inhibited {m} {n} x) = either (TwinTurns us vs) (has m i) (has n j) (x.same i j q) (turn_to (twin_set us vs t (match_without us vs t m n x q))) (fail _)
  twin_release (both_giving {g} {h} p r) = either (TwinTurns us vs) (eqb g i) (eqb h j) (pair_eqb us vs p q) (turn_to (both_given r)) (fail _)
  twin_release (both_given p) = fail _
