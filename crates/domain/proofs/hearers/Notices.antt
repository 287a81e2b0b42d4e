-- What is known after messages sent: of lists of them one by one, of messages that say nothing, and of lists that each connection gets of its own. Assumes
-- nothing.
use Rattle.std.specs.Prelude.{if◌then◌else◌}
use mathlib.Core.Path.{◌≡◌, refl, ap, ◌∙◌}
use mathlib.Core.Bool.{Bool, true, false, ◌&&◌, ◌||◌, false≢true, and-false}
use mathlib.Core.List.{List, [], ◌∷◌, ◌++◌}
use Prim.Native.Nat.{ℕ, ◌<◌}
use lib.Dec.{eqb}
use borrow.Author.Tests.{eq-eqb}
use Rattle.cols_spec.specs.Sets.{any, all, each, keep, null, below, member, connections}
use Rattle.cols_spec.specs.Places.{At, Nowhere, find, found}
use Rattle.cols_spec.proofs.Bools.{and_parts}
use Rattle.cols_spec.proofs.Below.{any_same, any_hit, any_none}
use Rattle.cols_spec.proofs.Members.{member_keep}
use Rattle.codec_table.specs.Named.{Message}
use Rattle.out_records.specs.Records.{Sent, to}
use Rattle.domain.specs.Tables.{Users, link, attached}
use Rattle.domain.specs.Channels.{own}
use Rattle.domain.specs.History.{Entry, History, ◌▹◌}
use Rattle.domain.specs.Hearers.{Notice, comes, convenes, joins, admits, expels, silent, notice, through, convening, convened, link_opened, joining, told_joined, admitting, admitted}

-- ---- messages that say nothing

-- nothing is heard in it
unfoldable pub says_nothing : Notice → Bool
says_nothing (comes u) = false
says_nothing (convenes c u) = false
says_nothing (joins a c) = false
says_nothing (admits c us) = false
says_nothing (expels c us) = false
says_nothing silent = true

-- a record of such a message
unfoldable pub hushed : Sent → Bool
hushed (to p m) = says_nothing (notice m)

silent_is : (n : Notice) → says_nothing n ≡ true → n ≡ silent
unfolding says_nothing
silent_is (comes u) e = absurd (false≢true e)
silent_is (convenes c u) e = absurd (false≢true e)
silent_is (joins a c) e = absurd (false≢true e)
silent_is (admits c us) e = absurd (false≢true e)
silent_is (expels c us) e = absurd (false≢true e)
silent_is silent e = refl

module _ {A : Type 0} (hear : ℕ → Notice → A → A) where
  through_append : (xs ys : List Sent) (a : A) → through hear (xs ++ ys) a ≡ through hear ys (through hear xs a)
  unfolding through
  through_append [] ys a = refl
  through_append (to p m ∷ xs) ys a = through_append xs ys (hear p (notice m) a)

  -- nothing is known after them that was not known before
  through_silent : ((p : ℕ) (a : A) → hear p silent a ≡ a) → (rs : List Sent) → all hushed rs ≡ true → (a : A) → through hear rs a ≡ a
  unfolding through all hushed
  through_silent law [] q a = refl
  through_silent law (to p m ∷ rs) q a =
      let r = and_parts (says_nothing (notice m)) _ q in
      ap (through hear rs) (ap (λ (n : Notice). hear p n a) (silent_is (notice m) r.0) ∙ law p a) ∙ through_silent law rs r.1 a

-- an entry of which nothing is heard
module _ (e : Entry) (h : History) (q : all hushed e.sent ≡ true) where
  pub convened_silent : (c : ℕ) → convened (e ▹ h) c ≡ convened h c
  unfolding convened convening
  convened_silent c = through_silent (convening c) (λ p a. refl) e.sent q (convened h c)

  pub admitted_silent : (c u : ℕ) → admitted (e ▹ h) c u ≡ admitted h c u
  unfolding admitted admitting
  admitted_silent c u = through_silent (admitting c u) (λ p a. refl) e.sent q (admitted h c u)

  pub joined_silent : (c p : ℕ) → told_joined (e ▹ h) c p ≡ (if link_opened e p then false else told_joined h c p)
  unfolding told_joined joining
  joined_silent c p = through_silent (joining c p) (λ p a. refl) e.sent q (if link_opened e p then false else told_joined h c p)

-- ---- each connection's own ids of a list

nobody_listed : (v : ℕ) → member v [] ≡ false
unfolding member any
nobody_listed v = refl

module _ {A : Type 0} (hear : ℕ → Notice → A → A) where
  last_of : (t a : A) (b c : Bool) → (if c then t else (if b then t else a)) ≡ (if b || c then t else a)
  last_of t a true true = refl
  last_of t a true false = refl
  last_of t a false c = refl

  -- lists of which each that passes brings t
  through_each : (f : (ℕ → List Sent)) (test : (ℕ → Bool)) (t : A) → ((x : ℕ) (a : A) → through hear (f x) a ≡ (if test x then t else a))
      → (xs : List ℕ) (a : A) → through hear (each f xs) a ≡ (if any test xs then t else a)
  unfolding through each any
  through_each f test t law [] a = refl
  through_each f test t law (x ∷ xs) a =
      through_append hear (f x) (each f xs) a
      ∙ ap (through hear (each f xs)) (law x a)
      ∙ through_each f test t law xs (if test x then t else a)
      ∙ last_of t a (test x) (any test xs)

  module _ (us : Users) (say : (List ℕ → Message)) where
    -- messages that are not about it
    pub own_same : ((p : ℕ) (xs : List ℕ) (a : A) → hear p (notice (say xs)) a ≡ a) → (ids : List ℕ) (a : A) → through hear (own us ids say) a ≡ a
    unfolding own through
    own_same law ids a =
        through_each _ (λ q. false) a (λ q b. go q b (keep (λ u. found (attached us q u)) ids) (null (keep (λ u. found (attached us q u)) ids))) (below connections) a
        ∙ rw (any_none (λ q. false) (λ q. refl) (below connections))
      where
        go : (q : ℕ) (b : A) (xs : List ℕ) (n : Bool) → through hear (if n then [] else to q (say xs) ∷ []) b ≡ b
        go q b xs true = refl
        go q b xs false = law q xs b

    -- messages that bring t for a user v who is listed: v, attached at place i, is listed to its own connection
    pub own_names : (v i : ℕ) → find us.ids v ≡ At i → link us i < 16 → (z : Bool) (t : A)
        → ((p : ℕ) (xs : List ℕ) (a : A) → hear p (notice (say xs)) a ≡ (if z && member v xs then t else a))
        → (ids : List ℕ) (a : A) → through hear (own us ids say) a ≡ (if z && member v ids then t else a)
    unfolding own through null found attached
    own_names v i here low z t law ids a =
        through_each _ (λ q. z && member v (keep (λ u. found (attached us q u)) ids)) t (λ q b. go q b (keep (λ u. found (attached us q u)) ids)) (below connections) a
        ∙ ap (λ (b : Bool). if b then t else a) (any_same _ _ (λ q. ap (λ (b : Bool). z && b) (mine q)) (below connections) ∙ hosted z (member v ids))
      where
        go : (q : ℕ) (b : A) (xs : List ℕ) → through hear (if null xs then [] else to q (say xs) ∷ []) b ≡ (if z && member v xs then t else b)
        go q b [] = rw (nobody_listed v, and-false z)
        go q b (x ∷ xs) = law q (x ∷ xs) b

        on : (q : ℕ) (b : Bool) → found (if b then At i else Nowhere) ≡ b
        on q true = refl
        on q false = refl

        mine : (q : ℕ) → member v (keep (λ u. found (attached us q u)) ids) ≡ (eqb (link us i) q && member v ids)
        mine q = member_keep (λ u. found (attached us q u)) v ids ∙ rw (here, attached) (ap (λ (b : Bool). b && member v ids) (on q (eqb (link us i) q)))

        hosted : (b c : Bool) → any (λ q. b && (eqb (link us i) q && c)) (below connections) ≡ (b && c)
        hosted true true = any_hit _ 16 [] (link us i) low (rw (eq-eqb (link us i) (link us i) refl))
        hosted true false = any_none _ (λ q. and-false (eqb (link us i) q)) (below connections)
        hosted false c = any_none _ (λ q. refl) (below connections)
