-- Choices, lists and masks. A mask is a number that stands for a set of small numbers: its binary digit k is 1 where k is in the set.
use Rattle.std.specs.Prelude.{ℕ, zero, suc, ◌+◌, ◌*◌, ◌/◌, ◌%◌, ◌^◌, ◌≤◌, ◌<◌, ◌≡◌, Bool, true, false, not, ◌&&◌, ◌||◌, List, [], ◌∷◌, ◌++◌, eqb, cond, if◌then◌else◌}

module _ {ℓ} {A : Type ℓ} where
  -- the elements that pass, in their order
  unfoldable pub keep : (A → Bool) → List A → List A
  keep f [] = []
  keep f (x ∷ xs) = let r = keep f xs in cond (f x) (x ∷ r) r

  -- some element passes
  unfoldable pub any : (A → Bool) → List A → Bool
  any f [] = false
  any f (x ∷ xs) = let r = any f xs in f x || r

  -- every element passes
  unfoldable pub all : (A → Bool) → List A → Bool
  all f [] = true
  all f (x ∷ xs) = let r = all f xs in f x && r

  unfoldable pub null : List A → Bool
  null [] = true
  null (x ∷ xs) = false

  unfoldable pub each {κ} : {B : Type κ} → (A → List B) → List A → List B
  each f [] = []
  each f (x ∷ xs) = f x ++ each f xs

-- 0, 1, .. n - 1, behind which stands `rest`
unfoldable pub upto : ℕ → List ℕ → List ℕ
upto zero rest = rest
upto (suc n) rest = upto n (n ∷ rest)

abbrev pub below : ℕ → List ℕ
below n = upto n []

unfoldable pub member : ℕ → List ℕ → Bool
member x xs = any (eqb x) xs

-- each id once, where it stands first: those that are not among the ones before them
unfoldable pub firsts : List ℕ → List ℕ → List ℕ
firsts before [] = []
firsts before (x ∷ xs) = let r = firsts (x ∷ before) xs in if member x before then r else x ∷ r

unfoldable pub once : List ℕ → List ℕ
once xs = firsts [] xs

-- k is in the mask's set
unfoldable pub has : ℕ → ℕ → Bool
has m k = eqb (m / 2 ^ k % 2) 1

-- the mask of those below w that pass: digit k is 1 where i + k passes
unfoldable pub those_from : (i n : ℕ) (f : (ℕ → Bool)) → ℕ
those_from i zero f = 0
those_from i (suc w) f = those_from (suc i) w f * 2 + (if f i then 1 else 0)

unfoldable pub those : ℕ → (ℕ → Bool) → ℕ
those w f = those_from 0 w f

-- the numbers of connections and of user places: the widths of the two kinds of mask
abbrev pub connections : ℕ
connections = 16

abbrev pub seats : ℕ
seats = 64

-- a mask of width w with k, without k, without those of another mask, with only those of another, and with those of another
unfoldable pub with : (w m k : ℕ) → ℕ
with w m k = those w λ j. has m j || eqb j k

unfoldable pub without : (w m k : ℕ) → ℕ
without w m k = those w λ j. has m j && not (eqb j k)

unfoldable pub minus : (w m n : ℕ) → ℕ
minus w m n = those w λ j. has m j && not (has n j)

unfoldable pub meet : (w m n : ℕ) → ℕ
meet w m n = those w λ j. has m j && has n j

unfoldable pub union : (w m n : ℕ) → ℕ
union w m n = those w λ j. has m j || has n j

-- the mask of k alone
unfoldable pub only : ℕ → ℕ → ℕ
only w k = those w (eqb k)

-- the set, ascending
unfoldable pub listed : ℕ → ℕ → List ℕ
listed w m = keep (has m) (below w)

-- the mask of those of the 64 ids above `low` that are in a list
unfoldable pub ids_above : (low : ℕ) (xs : List ℕ) → ℕ
ids_above low xs = those seats λ k. member (low + 1 + k) xs

-- r is the first number below n that does not pass, or n
pub record Gap (f : (ℕ → Bool)) (n r : ℕ) : Type 0 where
  pub within : r ≤ n
  pub before : (k : ℕ) → k < r → f k ≡ true
  pub here : r < n → f r ≡ false

-- the first number of the set from `from` on is r; 64 where there is none
pub record NextIn (m from r : ℕ) : Type 0 where
  pub within : r ≤ seats
  pub passed : (k : ℕ) → from ≤ k → k < r → has m k ≡ false
  pub here : r < seats → (from ≤ r) × (has m r ≡ true)
