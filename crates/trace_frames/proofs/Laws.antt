-- The claims of specs/Claims. Every front either breaks a rule or keeps them all, and each of the two decides what stands there.
use Prim.Native.Nat.{ℕ, zero, suc, ◌+◌, ◌-◌, ◌*◌, ◌/◌, ◌%◌, ◌<◌, ◌≤◌}
use mathlib.Core.Path.{◌≡◌, refl, sym, ap, ◌∙◌}
use mathlib.Core.Logic.{◌≢◌, ◌⊎◌, inl, inr, ⊎_elim}
use mathlib.Core.Bool.{Bool, true, false, ◌&&◌, cond, and-false, or-true}
use mathlib.Core.List.{List, [], ◌∷◌, ◌++◌}
use native.Mathlib.Omega.{arith}
use borrow.Author.Tests.{leb-true, leb-false, eqb-true, eqb-false, le-leb, lt-leb, eq-eqb, ne_eqb}
use lib.Dec.{leb, eqb}
use lib.ListN.{length, get_or, take, drop, length-append, length-take, get_or-append}
use Rattle.trace_frames.specs.declared.Kind.{Kind}
use Rattle.trace_frames.specs.declared.Kind.TheVariants.{Open, Loss, Message}
use Rattle.trace_frames.specs.declared.Frame.{Frame}
use Rattle.trace_frames.specs.declared.Frame.TheVariants.{End, Good, Bad}
use Rattle.trace_frames.specs.Frames.{Front, over, frame, refused, of_kind, front, meaning, length_of, size_of, version_of, kind_of, connection_of}
use Rattle.trace_frames.specs.Claims.{Breaks, no_length, length_below_3, octets_missing, other_version, other_kind, octets_behind, frame_octets, OctetsBelow256}
use Rattle.trace_frames.specs.Claims.{BadExactly, GoodStands, GoodInside, GoodFound, WholeStays, OneAnswer}

-- all the rules
pub record Keeps (s : List ℕ) : Type 0 where
  pub whole : size_of s ≤ length s
  pub long : 5 ≤ size_of s
  pub version : version_of s ≡ 1
  pub kind : kind_of s ≤ 2
  pub bare : (kind_of s ≡ 2) ⊎ (size_of s ≡ 5)

test : {C : Type 0} (t : Bool) → (t ≡ true → C) → (t ≡ false → C) → C
test true f g = f refl
test false f g = g refl

pub judge : (s : List ℕ) → Breaks s ⊎ Keeps s
judge s =
    test (leb (size_of s) (length s))
    (λ a. test (leb 5 (size_of s))
    (λ b. test (eqb (version_of s) 1)
    (λ c. test (leb (kind_of s) 2)
    (λ d. test (eqb (kind_of s) 2)
    (λ e. inr (kept a b c d (inl (eqb-true (kind_of s) 2 e))))
    (λ e. test (eqb (size_of s) 5)
    (λ f. inr (kept a b c d (inr (eqb-true (size_of s) 5 f))))
    (λ f. inl (behind (leb-true 5 (size_of s) b) (eqb-false (kind_of s) 2 e) (eqb-false (size_of s) 5 f)))))
    (λ d. inl (other_kind (leb-false (kind_of s) 2 d))))
    (λ c. inl (other_version (eqb-false (version_of s) 1 c))))
    (λ b. inl (length_below_3 (short (leb-false 5 (size_of s) b)))))
    (λ a. inl (octets_missing (leb-false (size_of s) (length s) a)))
  where
    kept : leb (size_of s) (length s) ≡ true → leb 5 (size_of s) ≡ true → eqb (version_of s) 1 ≡ true → leb (kind_of s) 2 ≡ true → (kind_of s ≡ 2) ⊎ (size_of s ≡ 5) → Keeps s
    kept a b c d e =
        record {
          whole = leb-true (size_of s) (length s) a;
          long = leb-true 5 (size_of s) b;
          version = eqb-true (version_of s) 1 c;
          kind = leb-true (kind_of s) 2 d;
          bare = e;
        }

    short : size_of s < 5 → length_of s < 3
    short h = omega arith

    behind : 5 ≤ size_of s → kind_of s ≢ 2 → size_of s ≢ 5 → Breaks s
    behind b e f = octets_behind e (omega arith)

pub over_is : (s : List ℕ) → length s ≡ 0 → front s ≡ over
unfolding front
over_is s h = simp (eq-eqb (length s) 0 h)

same : {A : Type 0} (t : Bool) (a : A) → cond t a a ≡ a
same true a = refl
same false a = refl

some : {n : ℕ} → 0 < n → n ≢ 0
some h e = omega arith

pub kind_bad : (k p n : ℕ) → (2 < k) ⊎ ((k ≢ 2) × (n ≢ 5)) → of_kind k p n ≡ refused 11
unfolding of_kind
kind_bad k p n (inl h) = simp (lt-leb k 2 h)
kind_bad k p n (inr h) = simp (ne_eqb k 2 h.0, ne_eqb n 5 h.1, and-false)

kind_good : (k p n : ℕ) → k ≤ 2 → (k ≡ 2) ⊎ (n ≡ 5) → of_kind k p n ≡ frame k p 5 n
unfolding of_kind
kind_good k p n h (inl e) = simp (le-leb k 2 h, eq-eqb k 2 e)
kind_good k p n h (inr e) = simp (le-leb k 2 h, eq-eqb n 5 e, or-true)

-- the same, where the kind is known
pub kind_known : (j k p n : ℕ) → k ≡ j → j ≤ 2 → (j ≡ 2) ⊎ (n ≡ 5) → frame j p 5 n ≡ of_kind k p n
kind_known j k p n e h b = rw e (sym (kind_good j p n h b))

-- a front of a bad kind is bad, also where it breaks another rule
kind_refused : (s : List ℕ) → 0 < length s → of_kind (kind_of s) (connection_of s) (size_of s) ≡ refused 11 → front s ≡ refused 11
unfolding front
kind_refused s h e =
    simp (ne_eqb (length s) 0 (some h), e)
    (same (leb (size_of s) (length s) && leb 5 (size_of s) && eqb (version_of s) 1) (refused 11))

-- a front that breaks a rule
pub bad_is : (s : List ℕ) → 0 < length s → Breaks s → front s ≡ refused 11
unfolding front
bad_is s h (no_length a) = simp (ne_eqb (length s) 0 (some h), lt-leb (size_of s) (length s) (omega arith))
bad_is s h (length_below_3 a) = simp (ne_eqb (length s) 0 (some h), lt-leb 5 (size_of s) (omega arith), and-false)
bad_is s h (octets_missing a) = simp (ne_eqb (length s) 0 (some h), lt-leb (size_of s) (length s) a)
bad_is s h (other_version a) = simp (ne_eqb (length s) 0 (some h), ne_eqb (version_of s) 1 a, and-false)
bad_is s h (other_kind a) = kind_refused s h (kind_bad (kind_of s) (connection_of s) (size_of s) (inl a))
bad_is s h (octets_behind a b) = kind_refused s h (kind_bad (kind_of s) (connection_of s) (size_of s) (inr (a, λ e. omega arith)))

-- a front that keeps version and size is judged by its kind
pub kind_is : (s : List ℕ) → size_of s ≤ length s → 5 ≤ size_of s → version_of s ≡ 1 → front s ≡ of_kind (kind_of s) (connection_of s) (size_of s)
unfolding front
kind_is s a b c = simp (ne_eqb (length s) 0 (some (omega arith)), le-leb (size_of s) (length s) a, le-leb 5 (size_of s) b, eq-eqb (version_of s) 1 c)

-- a front that keeps them all
pub good_is : (s : List ℕ) → Keeps s → front s ≡ frame (kind_of s) (connection_of s) 5 (size_of s)
good_is s k = kind_is s k.whole k.long k.version ∙ kind_good (kind_of s) (connection_of s) (size_of s) k.kind k.bare

apart : {k p start size n : ℕ} {A : Type 0} → frame k p start size ≡ refused n → A
apart e = absurd (let z : ◌≡◌ {A = ℕ} 0 1 = cc in omega arith)

none : {k p start size : ℕ} {A : Type 0} → over ≡ frame k p start size → A
none e = absurd (let z : ◌≡◌ {A = ℕ} 0 1 = cc in omega arith)

pub bad : BadExactly
bad s h = (λ e. ⊎_elim (λ b. b) (λ k. apart (sym (good_is s k) ∙ e)) (judge s), bad_is s h)

-- fewer octets than the least frame has
pub short_bad : (s : List ℕ) → 0 < length s → length s < 5 → front s ≡ refused 11
short_bad s h l = ⊎_elim (bad_is s h) (λ k. absurd (omega arith)) (judge s)

take_five : (a b c d e m size : ℕ) (t : List ℕ) → size ≡ suc (suc (suc (suc (suc m)))) → take size (a ∷ b ∷ c ∷ d ∷ e ∷ t) ≡ a ∷ b ∷ c ∷ d ∷ e ∷ take m t
take_five a b c d e m size t q = rw q

front_stands : (s : List ℕ) → Keeps s → OctetsBelow256 s → take (size_of s) s ≡ frame_octets (kind_of s) (connection_of s) (take (size_of s - 5) (drop 5 s))
front_stands [] g low = absurd (omega arith)
front_stands (a ∷ []) g low = absurd (omega arith)
front_stands (a ∷ b ∷ []) g low = absurd (omega arith)
front_stands (a ∷ b ∷ c ∷ []) g low = absurd (omega arith)
front_stands (a ∷ b ∷ c ∷ d ∷ []) g low = absurd (omega arith)
front_stands (a ∷ b ∷ c ∷ d ∷ e ∷ t) g low =
    let size = 2 + (a * 256 + b) in
    let n : length (take (size - 5) t) ≡ size - 5 = omega (arith, length-take (size - 5) t) in
    let x : a ≡ (3 + length (take (size - 5) t)) / 256 = omega (arith, low 1) in
    let y : b ≡ (3 + length (take (size - 5) t)) % 256 = omega (arith, low 1) in
    let z : c ≡ 1 = g.version in
    take_five a b c d e (size - 5) size t (omega arith) ∙ cc

-- a front that is a frame keeps the rules
frame_keeps : (s : List ℕ) (k p start size : ℕ) → front s ≡ frame k p start size → Keeps s
frame_keeps s k p start size e = ⊎_elim broken (λ g. g) (judge s)
  where
    broken : Breaks s → Keeps s
    broken b =
        test (eqb (length s) 0)
        (λ t. none (sym (over_is s (eqb-true (length s) 0 t)) ∙ e))
        (λ t. let n : length s ≢ 0 = eqb-false (length s) 0 t in apart (sym e ∙ bad_is s (omega arith) b))

pub stands : GoodStands
stands s k p start size low e =
    let g = frame_keeps s k p start size e in
    let q : frame (kind_of s) (connection_of s) 5 (size_of s) ≡ frame k p start size = sym (good_is s g) ∙ e in
    let x : kind_of s ≡ k = cc in
    let y : connection_of s ≡ p = cc in
    let z : 5 ≡ start = cc in
    let w : size_of s ≡ size = cc in
    rw (← x, ← y, ← z, ← w) (front_stands s g low)

pub inside : GoodInside
inside s k p start size e =
    let g = frame_keeps s k p start size e in
    let q : frame (kind_of s) (connection_of s) 5 (size_of s) ≡ frame k p start size = sym (good_is s g) ∙ e in
    let z : 5 ≡ start = cc in
    let w : size_of s ≡ size = cc in
    (omega (arith, g.long), omega (arith, g.whole))

pub found : GoodFound
found k p os rest h b =
    good_is (frame_octets k p os ++ rest)
    (record {
      whole = omega (arith, length-append os rest);
      long = omega arith;
      version = refl;
      kind = h;
      bare = test (eqb k 2) (λ t. inl (eqb-true k 2 t)) (λ t. inr (bare (b (eqb-false k 2 t))));
    })
    ∙ ap (λ n. frame k p 5 n) (omega arith)
  where
    bare : os ≡ [] → size_of (frame_octets k p os ++ rest) ≡ 5
    bare e = let z : length os ≡ 0 = ap length e in omega arith

pub stays : WholeStays
unfolding front
stays s more h w = test (leb 5 (size_of s)) (λ t. long (leb-true 5 (size_of s) t)) (λ t. short (leb-false 5 (size_of s) t))
  where
    at : (i : ℕ) → i < length s → get_or (s ++ more) i 0 ≡ get_or s i 0
    at i l = get_or-append s more 0 i l

    both : length (s ++ more) ≡ length s + length more
    both = length-append s more

    size : size_of (s ++ more) ≡ size_of s
    size = rw (at 0 (omega arith), at 1 (omega arith)) refl

    long : 5 ≤ size_of s → front (s ++ more) ≡ front s
    long l =
        simp (
          ne_eqb (length (s ++ more)) 0 (some (omega (arith, both))),
          ne_eqb (length s) 0 (some (omega arith)),
          at 0 (omega arith),
          at 1 (omega arith),
          at 2 (omega arith),
          at 3 (omega arith),
          at 4 (omega arith),
          le-leb (size_of s) (length (s ++ more)) (omega (arith, both)),
          le-leb (size_of s) (length s) w,
        )

    short : size_of s < 5 → front (s ++ more) ≡ front s
    short l =
        bad_is (s ++ more) (omega (arith, both)) (length_below_3 (omega (arith, size)))
        ∙ sym (bad_is s (omega arith) (length_below_3 (omega arith)))

kind_back : ℕ → Kind
kind_back zero = Open
kind_back (suc zero) = Loss
kind_back (suc (suc n)) = Message

back : Front → Frame
back over = End
back (frame k p start size) = Good (kind_back k) p start size
back (refused n) = Bad

back_meaning : (f : Frame) → back (meaning f) ≡ f
unfolding back kind_back
back_meaning End = refl
back_meaning (Good Open p start size) = refl
back_meaning (Good Loss p start size) = refl
back_meaning (Good Message p start size) = refl
back_meaning Bad = refl

pub one : OneAnswer
one s f g a b = sym (back_meaning f) ∙ ap back (a ∙ sym b) ∙ back_meaning g
