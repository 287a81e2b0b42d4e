-- The claims of specs/Good: a good frame lies in the octets, has at least 5 of them and at most 65,537, and no other octet counts. Assumes nothing.
use Rattle.std.specs.Prelude.{Some, None}
use Prim.Native.Nat.{ℕ, zero, suc, ◌≤◌, ◌<◌}
use mathlib.Core.Path.{◌≡◌, refl, sym, ap, ◌∙◌}
use mathlib.Core.Logic.{◌⊎◌, inl, inr, ⊎_elim}
use mathlib.Core.List.{List, [], ◌∷◌, ◌++◌}
use native.Mathlib.Omega.{arith}
use Rattle.std.specs.Option.{is_some}
use borrow.Author.Tests.{lt-ltb}
use lib.Dec.{ltb}
use lib.ListN.{length, take, drop, get_or, take-append-drop}
use lib.Seq.{length-take-le, get_or-take}
use Rattle.trace_frames.specs.Frames.{over, frame, refused, front, size_of}
use Rattle.trace_frames.specs.Claims.{Breaks, OctetsBelow256}
use Rattle.trace_frames.specs.Good.{size_in, good_size, some_size, SizeWithin, SizeLeast, SizeAlone, longest, SizeMost, SizeStays}
use Rattle.trace_frames.proofs.Laws.{Keeps, judge, over_is, bad_is, good_is, stays}

pub broken : (s : List ℕ) → Breaks s → good_size s ≡ 0
unfolding good_size
broken [] b = ap size_in (over_is [] refl)
broken (o ∷ s) b = ap size_in (bad_is (o ∷ s) (omega arith) b)

pub keeping : (s : List ℕ) → Keeps s → good_size s ≡ size_of s
unfolding good_size
keeping s k = ap size_in (good_is s k)

-- no good frame begins at the front of s, or the rules are kept there
sizes : (s : List ℕ) → (good_size s ≡ 0) ⊎ Keeps s
sizes s = ⊎_elim (λ b. inl (broken s b)) (λ k. inr k) (judge s)

pub within : SizeWithin
within s = ⊎_elim (λ e. omega arith) (λ k. omega (arith, keeping s k)) (sizes s)

pub least : SizeLeast
least s h = ⊎_elim (λ e. absurd (omega arith)) (λ k. omega (arith, keeping s k)) (sizes s)

alone_kept : (s more : List ℕ) → Keeps s → good_size (take (size_of s) s ++ more) ≡ good_size s
unfolding good_size
alone_kept s more k =
    let f = take (size_of s) s in
    let n : length f ≡ size_of s = length-take-le (size_of s) s k.whole in
    let a : get_or f 0 0 ≡ get_or s 0 0 = get_or-take (size_of s) s 0 0 (omega arith) in
    let b : get_or f 1 0 ≡ get_or s 1 0 = get_or-take (size_of s) s 1 0 (omega arith) in
    let two : 2 ≤ length f = omega arith in
    let all : size_of f ≤ length f = omega arith in
    ap size_in (stays f more two all ∙ sym (stays f (drop (size_of s) s) two all) ∙ ap front (take-append-drop (size_of s) s))

pub alone : SizeAlone
alone s more h =
    ⊎_elim
    (λ e. absurd (omega arith))
    (λ k. ap (λ n. good_size (take n s ++ more)) (keeping s k) ∙ alone_kept s more k)
    (sizes s)

-- a frame says its length in two octets
pub size_says : (s : List ℕ) → OctetsBelow256 s → size_of s ≤ longest
size_says s low = omega (arith, low 0, low 1)

pub most : SizeMost
most s low = ⊎_elim (λ e. omega arith) (λ k. omega (arith, keeping s k, size_says s low)) (sizes s)

pub stays_good : SizeStays
unfolding good_size
stays_good w more low h = ap size_in (stays w more (omega arith) (omega (arith, size_says w low)))

-- ---- the size as the code has it

pub some_is : (n : ℕ) → 0 < n → Some n ≡ some_size n
some_is zero h = absurd (omega arith)
some_is (suc n) h = refl

pub none_over : (s : List ℕ) → over ≡ front s → None ≡ some_size (good_size s)
unfolding good_size
none_over s e = rw (← e) refl

pub none_refused : (s : List ℕ) (n : ℕ) → refused n ≡ front s → None ≡ some_size (good_size s)
unfolding good_size
none_refused s n e = rw (← e) refl

frame_long : (s : List ℕ) (kind connection start size : ℕ) → frame kind connection start size ≡ front s → Breaks s ⊎ Keeps s → 0 < size
frame_long [] kind connection start size e (inl b) = absurd (cc (over_is [] refl))
frame_long (o ∷ s) kind connection start size e (inl b) = absurd (cc (bad_is (o ∷ s) (omega arith) b))
frame_long s kind connection start size e (inr k) = omega (arith, ap size_in (e ∙ good_is s k), k.long)

pub some_frame : (s : List ℕ) (kind connection start size : ℕ) → frame kind connection start size ≡ front s → Some size ≡ some_size (good_size s)
unfolding good_size
some_frame s kind connection start size e = some_is size (frame_long s kind connection start size e (judge s)) ∙ ap (λ f. some_size (size_in f)) e

pub size_of_none : (n : ℕ) → None ≡ some_size n → n ≡ 0
size_of_none zero e = refl
size_of_none (suc n) e = absurd (cc)

pub size_of_some : (n size : ℕ) → Some size ≡ some_size n → (size ≡ n) × (0 < size)
size_of_some zero size e = absurd (cc)
size_of_some (suc n) size e = let i : size ≡ suc n = cc in (i, omega arith)

pub is_some_size : (n : ℕ) → is_some (some_size n) ≡ ltb 0 n
is_some_size zero = refl
is_some_size (suc n) = sym (lt-ltb 0 (suc n) (omega arith))
