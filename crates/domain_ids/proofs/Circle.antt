-- The circle of ids 1001 to 65535. Between two grants of one id lie at least 64,407 others; where at most 128 ids are in use, the search finds a free one. Of the
-- 64,534 other ids of a round each was handed out since, or was in use all the while, and those are at most 127. Assumes nothing.
use Rattle.std.specs.Prelude.{if◌then◌else◌}
use mathlib.Core.Path.{◌≡◌, refl, sym, ap, ap₂, ◌∙◌}
use mathlib.Core.Bool.{Bool, true, false, ◌&&◌}
use mathlib.Core.List.{[]}
use Prim.Native.Nat.{ℕ, zero, suc, ◌+◌, ◌-◌, ◌≤◌, ◌<◌}
use native.Mathlib.Nat.{add-suc, add-zero}
use native.Mathlib.Omega.{arith}
use lib.Dec.{eqb, ltb}
use borrow.Author.Tests.{eqb-true, lt-ltb, ltb-true, ltb-false}
use Rattle.cols_spec.specs.Sets.{keep}
use Rattle.cols_spec.proofs.Bools.{or_elim}
use Rattle.domain_ids.specs.Rolling.{next_id, Reaches, stops, passes, search_from, how_many, SearchFinds, Since, just_now, freed, another, FarApart}
use Rattle.domain.proofs.holders.Counting.{count_to, count_upto}

-- ---- how many below a bound pass a test

count_more : (f : ℕ → Bool) (n : ℕ) → count_to f n ≤ count_to f (suc n)
unfolding count_to
count_more f n = go (f n)
  where
    go : (b : Bool) → count_to f n ≤ (if b then suc (count_to f n) else count_to f n)
    go true = omega arith
    go false = omega arith

count_hit : (f : ℕ → Bool) (n : ℕ) → f n ≡ true → count_to f (suc n) ≡ suc (count_to f n)
unfolding count_to
count_hit f n e = rw e

count_mono : (f : ℕ → Bool) (m k : ℕ) → count_to f m ≤ count_to f (m + k)
count_mono f m zero = rw (add-zero m) (omega arith)
count_mono f m (suc k) = rw (add-suc m k) (omega (arith, count_mono f m k, count_more f (m + k)))

-- tests that agree below n
count_alike : (f g : ℕ → Bool) (n : ℕ) → ((k : ℕ) → k < n → f k ≡ g k) → count_to f n ≡ count_to g n
unfolding count_to
count_alike f g zero e = refl
count_alike f g (suc n) e = rw (e n (omega arith), count_alike f g n (λ k l. e k (omega arith)))

-- below m, and from m on
count_parts : (f : ℕ → Bool) (m n : ℕ) → count_to f (m + n) ≡ count_to f m + count_to (λ k. f (m + k)) n
unfolding count_to
count_parts f m zero = rw (add-zero m) (omega arith)
count_parts f m (suc n) = rw (add-suc m n) (go (f (m + n)) (count_parts f m n))
  where
    go : (b : Bool) → count_to f (m + n) ≡ count_to f m + count_to (λ k. f (m + k)) n
        → (if b then suc (count_to f (m + n)) else count_to f (m + n)) ≡ count_to f m + (if b then suc (count_to (λ k. f (m + k)) n) else count_to (λ k. f (m + k)) n)
    go true e = omega arith
    go false e = e

pub how_many_is : (f : ℕ → Bool) → how_many f ≡ count_to f 65536
unfolding how_many keep
how_many_is f = let e = count_upto f 65536 [] in omega (arith, e)

-- ---- the circle from x: the id k steps after it

after : ℕ → ℕ → ℕ
after x zero = x
after x (suc k) = next_id (after x k)

-- a test of the id k steps after x
around : (x : ℕ) (f : ℕ → Bool) → ℕ → Bool
around x f k = f (after x k)

next_id_low : (x : ℕ) → 1001 ≤ x → x < 65535 → next_id x ≡ suc x
unfolding next_id
next_id_low x m l = ap₂ (λ (a b : Bool). if a && b then suc x else 1001) (lt-ltb 1000 x m) (lt-ltb x 65535 l)

next_id_top : (x : ℕ) → x ≡ 65535 → next_id x ≡ 1001
unfolding next_id
next_id_top x e = rw e

pub next_id_between : (x : ℕ) → (1001 ≤ next_id x) × (next_id x ≤ 65535)
unfolding next_id
next_id_between x = go (ltb 1000 x) refl (ltb x 65535) refl
  where
    go : (a : Bool) → ltb 1000 x ≡ a → (b : Bool) → ltb x 65535 ≡ b → (1001 ≤ (if a && b then suc x else 1001)) × ((if a && b then suc x else 1001) ≤ 65535)
    go true p true q = (omega (arith, ltb-true 1000 x p), omega (arith, ltb-true x 65535 q))
    go true p false q = (omega arith, omega arith)
    go false p b q = (omega arith, omega arith)

module _ (x : ℕ) (lo : 1001 ≤ x) (hi : x ≤ 65535) where
  -- up to 65535, and then from 1001 on
  after_up : (k : ℕ) → x + k ≤ 65535 → after x k ≡ x + k
  unfolding after
  after_up zero l = sym (add-zero x)
  after_up (suc k) l = ap next_id (after_up k (omega arith)) ∙ next_id_low (x + k) (omega arith) (omega arith) ∙ omega arith

  after_round : (k : ℕ) → 65535 < x + k → k ≤ 64535 → after x k + 64535 ≡ x + k
  unfolding after
  after_round zero l m = absurd (omega arith)
  after_round (suc k) l m = go (ltb 65535 (x + k)) refl (after_round k)
    where
      go : (b : Bool) → ltb 65535 (x + k) ≡ b → (65535 < x + k → k ≤ 64535 → after x k + 64535 ≡ x + k) → next_id (after x k) + 64535 ≡ x + suc k
      go true q rec =
          let n : 65535 < x + k = ltb-true 65535 (x + k) q in
          let e : after x k + 64535 ≡ x + k = rec n (omega arith) in
          let b : next_id (after x k) ≡ suc (after x k) = next_id_low (after x k) (omega arith) (omega arith) in
          omega arith
      go false q rec =
          let n : x + k ≤ 65535 = ltb-false 65535 (x + k) q in
          let b : next_id (after x k) ≡ 1001 = next_id_top (after x k) (after_up k n ∙ omega arith) in
          omega arith

  -- no id comes twice within a round
  after_apart : (j k : ℕ) → j < k → k < 64535 → after x j ≡ after x k → ⊥
  after_apart j k l m e = go (ltb 65535 (x + j)) refl (ltb 65535 (x + k)) refl
    where
      go : (b : Bool) → ltb 65535 (x + j) ≡ b → (c : Bool) → ltb 65535 (x + k) ≡ c → ⊥
      go true p true q = omega (arith, e, after_round j (ltb-true 65535 (x + j) p) (omega arith), after_round k (ltb-true 65535 (x + k) q) (omega arith))
      go true p false q = omega (arith, ltb-true 65535 (x + j) p, ltb-false 65535 (x + k) q)
      go false p true q = omega (arith, e, after_up j (ltb-false 65535 (x + j) p), after_round k (ltb-true 65535 (x + k) q) (omega arith))
      go false p false q = omega (arith, e, after_up j (ltb-false 65535 (x + j) p), after_up k (ltb-false 65535 (x + k) q))

  after_between : (k : ℕ) → k < 64535 → (1001 ≤ after x k) × (after x k ≤ 65535)
  after_between k m = go (ltb 65535 (x + k)) refl
    where
      go : (b : Bool) → ltb 65535 (x + k) ≡ b → (1001 ≤ after x k) × (after x k ≤ 65535)
      go true p = let e = after_round k (ltb-true 65535 (x + k) p) (omega arith) in let l = ltb-true 65535 (x + k) p in (omega arith, omega arith)
      go false p = let e = after_up k (ltb-false 65535 (x + k) p) in let l = ltb-false 65535 (x + k) p in (omega arith, omega arith)

  -- of a whole round no more are in use than of all ids
  module _ (f : ℕ → Bool) where
    abbrev turn : ℕ → Bool
    turn = around x f

    round_count : count_to turn 64535 ≤ count_to f 65536
    unfolding around
    round_count =
        let up : ℕ = 65536 - x in
        let low : ℕ = x - 1001 in
        let whole : 64535 ≡ up + low = omega arith in
        let all : 65536 ≡ 1001 + (low + up) = omega arith in
        let a : count_to turn 64535 ≡ count_to turn up + count_to (λ k. turn (up + k)) low = ap (count_to turn) whole ∙ count_parts turn up low in
        let b : count_to turn up ≡ count_to (λ k. f (x + k)) up = count_alike turn (λ k. f (x + k)) up (λ k l. ap f (after_up k (omega arith))) in
        let c : count_to (λ k. turn (up + k)) low ≡ count_to (λ k. f (1001 + k)) low
        = count_alike (λ k. turn (up + k)) (λ k. f (1001 + k)) low (λ k l. ap f (let e = after_round (up + k) (omega arith) (omega arith) in omega arith)) in
        let g : count_to f 65536 ≡ count_to f 1001 + count_to (λ k. f (1001 + k)) (low + up) = ap (count_to f) all ∙ count_parts f 1001 (low + up) in
        let h : count_to (λ k. f (1001 + k)) (low + up) ≡ count_to (λ k. f (1001 + k)) low + count_to (λ k. f (1001 + (low + k))) up = count_parts (λ k. f (1001 + k)) low up in
        let i : count_to (λ k. f (1001 + (low + k))) up ≡ count_to (λ k. f (x + k)) up = count_alike (λ k. f (1001 + (low + k))) (λ k. f (x + k)) up (λ k l. ap f (omega arith)) in
        omega arith

    round_few : count_to f 65536 ≤ 128 → count_to turn 64535 ≤ 128
    round_few h = omega (arith, h, round_count)

-- ---- since x was handed out

module _ (start : ℕ → Bool) (x : ℕ) (lo : 1001 ≤ x) (hi : x ≤ 65535) (itself : start x ≡ true) (few : count_to start 65536 ≤ 128) where
  -- the id k steps after x was in use then
  abbrev old : ℕ → Bool
  old = around x start

  old_few : count_to old 64535 ≤ 128
  old_few = round_few x lo hi start few

  -- the last id handed out is r steps after x. Each id up to it was handed out since or was in use then, so n and those are enough; each id that follows it in
  -- the round and is in use was so then
  record Going (now : ℕ → Bool) (last n r : ℕ) : Type 0 where
    within : r < 64535
    is : last ≡ after x r
    each : suc r ≤ n + count_to old (suc r)
    rest : (k : ℕ) → r < k → k < 64535 → now (after x k) ≡ true → old k ≡ true

  -- the search is on its first round, or has come round
  data Phase (now : ℕ → Bool) (last n : ℕ) : Type 0 where
    going : (r : ℕ) → Going now last n r → Phase now last n
    round : 64407 ≤ n → Phase now last n

  -- a search on its way, k steps after x: it ends at an id before x comes again, or comes round
  data Ends (n k y : ℕ) : Type 0 where
    at : (r : ℕ) → k < r → r < 64535 → y ≡ after x r → suc r ≤ suc n + count_to old (suc r) → Ends n k y
    came : 64407 ≤ n → Ends n k y

  ends_later : {n k y : ℕ} → Ends n (suc k) y → Ends n k y
  ends_later (at r l m e c) = at r (omega arith) m e c
  ends_later (came h) = came h

  -- a search from the id k + 1 steps after x
  walk : (now : ℕ → Bool) (n : ℕ) {a y : ℕ} → Reaches now a y → (k : ℕ) → k < 64535 → a ≡ after x (suc k) → suc k ≤ n + count_to old (suc k)
      → ((j : ℕ) → k < j → j < 64535 → now (after x j) ≡ true → old j ≡ true) → Ends n k y
  unfolding after around
  walk now n {a} (stops f) k l e c rest = go (ltb (suc k) 64535) refl
    where
      go : (b : Bool) → ltb (suc k) 64535 ≡ b → Ends n k a
      go true q = at (suc k) (omega arith) (ltb-true (suc k) 64535 q) e (let m = count_more old (suc k) in omega arith)
      go false q = came (let m : 64535 ≤ suc k = ltb-false (suc k) 64535 q in let s : suc k ≡ 64535 = omega arith in
          omega (arith, c, old_few, ap (count_to old) s))
  walk now n {a} {y} (passes f w) k l e c rest = go (ltb (suc k) 64535) refl (λ m c. walk now n w (suc k) m (ap next_id e) c (λ j h. rest j (omega arith)))
    where
      go : (b : Bool) → ltb (suc k) 64535 ≡ b → (suc k < 64535 → suc (suc k) ≤ n + count_to old (suc (suc k)) → Ends n (suc k) y) → Ends n k y
      go true q rec =
          let m = ltb-true (suc k) 64535 q in
          let h : old (suc k) ≡ true = rest (suc k) (omega arith) m (rw e at f) in
          ends_later (rec m (omega (arith, c, count_hit old (suc k) h)))
      go false q rec = came (let m : 64535 ≤ suc k = ltb-false (suc k) 64535 q in let s : suc k ≡ 64535 = omega arith in
          omega (arith, c, old_few, ap (count_to old) s))

  -- each grant takes the search further, or round
  phase : {now : ℕ → Bool} {last n : ℕ} → Since start x now last n → Phase now last n
  unfolding after around
  phase just_now = going 0 (record { within = omega arith; is = refl; each = omega (arith, count_hit old 0 itself); rest = λ k l m h. h })
  phase (freed {now} {after = less} {last} {n} s f) = go (phase s)
    where
      go : Phase now last n → Phase less last n
      go (going r g) = going r (record { within = g.within; is = g.is; each = g.each; rest = λ k l m h. g.rest k l m (f (after x k) (after_between x lo hi k m).0 h) })
      go (round h) = round h
  phase (another {now} {after = more} {last} {n} {y} s w new) = go (phase s)
    where
      go : Phase now last n → Phase more y (suc n)
      go (round h) = round (omega arith)
      go (going r g) = on (walk now n w r g.within (ap next_id g.is) g.each g.rest)
        where
          on : Ends n r y → Phase more y (suc n)
          on (came h) = round (omega arith)
          on (at q l m e c) = going q (record {
            within = m;
            is = e;
            each = c;
            rest = λ k o i h. or_elim (now (after x k)) (eqb (after x k) y) (new (after x k) (after_between x lo hi k i).0 h) (g.rest k (omega arith) i)
                (λ t. absurd (after_apart x lo hi q k o i (sym e ∙ sym (eqb-true (after x k) y t))));
          })

  -- x is handed out again only when the search has come round
  again : {now : ℕ → Bool} {last n : ℕ} → Since start x now last n → Reaches now (next_id last) x → 64407 ≤ n
  unfolding after
  again {now} {last} {n} s w = go (phase s)
    where
      go : Phase now last n → 64407 ≤ n
      go (round h) = h
      go (going r g) = on (walk now n w r g.within (ap next_id g.is) g.each g.rest)
        where
          on : Ends n r x → 64407 ≤ n
          on (came h) = h
          on (at q l m e c) = absurd (after_apart x lo hi 0 q (omega arith) m e)

-- the count
pub apart_ids : FarApart
apart_ids start x lo hi itself few now last n s w = again start x lo hi itself (omega (arith, few, how_many_is start)) s w

-- ---- the bounded search

module _ (f : ℕ → Bool) (x : ℕ) (lo : 1001 ≤ x) (hi : x ≤ 65535) (few : count_to f 65536 ≤ 128) where
  -- the id k steps after x is in use
  abbrev busy : ℕ → Bool
  busy = around x f

  busy_few : count_to busy 64535 ≤ 128
  busy_few = round_few x lo hi f few

  -- k ids were in use, and n more may be passed over
  search_on : (n k : ℕ) → n + k ≡ 128 → count_to busy k ≡ k → Reaches f (after x k) (search_from n f (after x k)) × (1001 ≤ search_from n f (after x k)) × (search_from n f (after x k) ≤ 65535)
  unfolding search_from after around
  search_on zero k e c = go (f (after x k)) refl
    where
      go : (b : Bool) → f (after x k) ≡ b → Reaches f (after x k) (after x k) × (1001 ≤ after x k) × (after x k ≤ 65535)
      go true q = absurd (let m = count_mono busy (suc k) (64534 - k) in let s : suc k + (64534 - k) ≡ 64535 = omega arith in omega (arith, m, c, count_hit busy k q, ap (count_to busy) s, busy_few))
      go false q = let r = after_between x lo hi k (omega arith) in (stops q, r.0, r.1)
  search_on (suc n) k e c = go (f (after x k)) refl (λ d. search_on n (suc k) (omega arith) d)
    where
      Found : ℕ → Type 0
      Found y = Reaches f (after x k) y × (1001 ≤ y) × (y ≤ 65535)

      go : (b : Bool) → f (after x k) ≡ b
          → (count_to busy (suc k) ≡ suc k → Reaches f (after x (suc k)) (search_from n f (after x (suc k))) × (1001 ≤ search_from n f (after x (suc k))) × (search_from n f (after x (suc k)) ≤ 65535))
          → Found (if b then search_from n f (next_id (after x k)) else after x k)
      go true q rec = let r = rec (count_hit busy k q ∙ ap suc c) in (passes q r.0, r.1, r.2)
      go false q rec = let r = after_between x lo hi k (omega arith) in (stops q, r.0, r.1)

pub search_free : SearchFinds
unfolding after count_to
search_free f x lo hi few = search_on f x lo hi (omega (arith, few, how_many_is f)) 128 0 refl refl
