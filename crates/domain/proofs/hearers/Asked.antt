-- Who could have heard, in T-14's own words: it follows, of every history, from the sharper claim. Assumes nothing.
use Rattle.std.specs.Prelude.{if◌then◌else◌}
use mathlib.Core.Path.{◌≡◌}
use mathlib.Core.Bool.{Bool, true, false, ◌&&◌, ◌||◌, false≢true, or-true}
use mathlib.Core.List.{List, [], ◌∷◌}
use mathlib.Core.Option.{Option, none, some}
use Prim.Native.Nat.{ℕ}
use lib.Dec.{eqb}
use Rattle.cols_spec.specs.Sets.{member}
use Rattle.cols_spec.proofs.Bools.{or_elim}
use Rattle.out_records.specs.Records.{Sent, to}
use Rattle.domain.specs.History.{History, begins, ◌▹◌}
use Rattle.domain.specs.Hearers.{Notice, comes, convenes, joins, admits, expels, silent, notice, through, known_as, convening, convened, link_opened, joining, told_joined, admitting, admitted}
use Rattle.domain.specs.Hearers.{entitled, Hearer, last_convening, last_convened, sent_joined, last_naming, last_admitted, Asked}

-- what is known by one way of hearing is known by another, if each message keeps it so
module _ {A B : Type 0} (R : A → B → Type 0) (hear : ℕ → Notice → A → A) (more : ℕ → Notice → B → B)
    (law : (p : ℕ) (n : Notice) (a : A) (b : B) → R a b → R (hear p n a) (more p n b)) where
  through_both : (rs : List Sent) (a : A) (b : B) → R a b → R (through hear rs a) (through more rs b)
  unfolding through
  through_both [] a b r = r
  through_both (to p m ∷ rs) a b r = through_both rs (hear p (notice m) a) (more p (notice m) b) (law p (notice m) a b r)

-- where the first holds the second does
abbrev Below : Bool → Bool → Type 0
Below a b = a ≡ true → b ≡ true

-- of a test, the same on both sides, or false on the first
both_ways : (t : Bool) (x a b : Bool) → Below a b → Below (if t then x else a) (if t then x else b)
both_ways true x a b r = λ h. h
both_ways false x a b r = r

first_false : (t a b : Bool) → Below a b → Below (if t then false else a) b
first_false true a b r = λ h. absurd (false≢true h)
first_false false a b r = r

-- ---- the manager

-- whoever is known by the first is known by the second
abbrev Knows : Option ℕ → Option ℕ → Type 0
Knows g k = (u : ℕ) → Below (known_as g u) (known_as k u)

forgets : (t : Bool) (g k : Option ℕ) → Knows g k → Knows (if t then none else g) k
unfolding known_as
forgets true g k r = λ u h. absurd (false≢true h)
forgets false g k r = r

learns : (t : Bool) (u : ℕ) (g k : Option ℕ) → Knows g k → Knows (if t then some u else g) (if t then some u else k)
learns true u g k r = λ v h. h
learns false u g k r = r

convening_both : (c p : ℕ) (n : Notice) (g k : Option ℕ) → Knows g k → Knows (convening c p n g) (last_convening c p n k)
unfolding convening last_convening
convening_both c p (comes u) g k r = forgets (eqb c u || known_as g u) g k r
convening_both c p (convenes d u) g k r = learns (eqb c d) u g k r
convening_both c p (joins a d) g k r = forgets (eqb a 0 && eqb c d) g k r
convening_both c p (admits d us) g k r = r
convening_both c p (expels d us) g k r = r
convening_both c p silent g k r = r

manager_both : (h : History) (c : ℕ) → Knows (convened h c) (last_convened h c)
unfolding convened last_convened
manager_both (begins s) c = λ u h. h
manager_both (e ▹ h) c = through_both Knows (convening c) (last_convening c) (convening_both c) e.sent _ _ (manager_both h c)

-- ---- the connection

joining_both : (c q p : ℕ) (n : Notice) (a b : Bool) → Below a b → Below (joining c q p n a) (joining c q p n b)
unfolding joining
joining_both c q p (comes u) a b r = r
joining_both c q p (convenes d u) a b r = both_ways (eqb c d) false a b r
joining_both c q p (joins x d) a b r = both_ways (eqb c d && eqb q p) true a b r
joining_both c q p (admits d us) a b r = r
joining_both c q p (expels d us) a b r = r
joining_both c q p silent a b r = r

joined_both : (h : History) (c q : ℕ) → Below (told_joined h c q) (sent_joined h c q)
unfolding told_joined sent_joined
joined_both (begins s) c q = λ h. h
joined_both (e ▹ h) c q = through_both Below (joining c q) (joining c q) (joining_both c q) e.sent _ _ (first_false (link_opened e q) (told_joined h c q) (sent_joined h c q) (joined_both h c q))

-- ---- the user

admitting_both : (c u p : ℕ) (n : Notice) (a b : Bool) → Below a b → Below (admitting c u p n a) (last_naming c u p n b)
unfolding admitting last_naming
admitting_both c u p (comes v) a b r = first_false (eqb u v) a b r
admitting_both c u p (convenes d v) a b r = first_false (eqb c d) a b r
admitting_both c u p (joins x d) a b r = r
admitting_both c u p (admits d us) a b r = both_ways (eqb c d && member u us) true a b r
admitting_both c u p (expels d us) a b r = both_ways (eqb c d && member u us) false a b r
admitting_both c u p silent a b r = r

admitted_both : (h : History) (c u : ℕ) → Below (admitted h c u) (last_admitted h c u)
unfolding admitted last_admitted
admitted_both (begins s) c u = λ h. h
admitted_both (e ▹ h) c u = through_both Below (admitting c u) (last_naming c u) (admitting_both c u) e.sent _ _ (admitted_both h c u)

-- ---- who could have heard

-- of every history
pub hearer_asked : (h : History) (c q : ℕ) → Hearer h c q → Asked h c q
unfolding entitled
hearer_asked h c q x = record {
  told = joined_both h c q x.told;
  user = x.user;
  carried = x.carried;
  may = or_elim (known_as (convened h c) x.user) (admitted h c x.user) x.may
      (λ m. rw (manager_both h c x.user m))
      (λ m. rw (admitted_both h c x.user m) (or-true (known_as (last_convened h c) x.user)));
}
