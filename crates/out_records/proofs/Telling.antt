-- A message to each connection of a mask. Assumes nothing.
use Rattle.std.specs.Prelude.{if◌then◌else◌}
use mathlib.Core.Path.{◌≡◌, refl, sym, ap, ap₂, ◌∙◌}
use mathlib.Core.Bool.{Bool, true, false}
use mathlib.Core.List.{List, [], ◌∷◌, ◌++◌, map, append-nil, append_assoc}
use Prim.Native.Nat.{ℕ, zero, suc, ◌+◌, ◌-◌, ◌*◌, ◌≤◌, ◌<◌}
use native.Mathlib.Nat.{add-zero, add-suc, suc-add, zero-add, zero-mul, mul-zero, suc-mul}
use native.Mathlib.Numerals.{add-one}
use native.Mathlib.Omega.{arith}
use lib.Dec.{ltb}
use lib.ListN.{length, length-append}
use borrow.Author.Tests.{ltb-true, ltb-false}
use Rattle.cols_spec.specs.Sets.{keep, each, upto, below, has, listed, connections, NextIn}
use Rattle.cols_spec.proofs.Nexts.{next_behind, next_keeps}
use Rattle.codec_table.specs.Limits.{message_limit}
use Rattle.codec_table.specs.Named.{Message}
use Rattle.out_records.specs.Records.{Sent, to, tell, wire, record_of, octets, records}
use Rattle.out_records.specs.Out.{Puts, allowed, guarded, told_to, told}
use Rattle.out_records.proofs.Laying.{framed_length, guarded_in, guarded_all, guarded_none, allowed_parts, put_none, put_then, Onward, onward_start, onward_step, onward_end}

-- k, k + 1, .. k + n - 1
unfoldable pub run : (k n : ℕ) → List ℕ
run k zero = []
run k (suc n) = k ∷ run (suc k) n

run_snoc : (k n : ℕ) (rest : List ℕ) → run k (suc n) ++ rest ≡ run k n ++ ((k + n) ∷ rest)
unfolding run
run_snoc k zero rest = rw (add-zero k) refl
run_snoc k (suc n) rest = ap (λ (l : List ℕ). k ∷ l) (run_snoc (suc k) n rest ∙ rw (suc-add k n, add-suc k n) refl)

upto_run : (n : ℕ) (rest : List ℕ) → upto n rest ≡ run 0 n ++ rest
unfolding upto run
upto_run zero rest = refl
upto_run (suc n) rest = upto_run n (n ∷ rest) ∙ sym (run_snoc 0 n rest ∙ rw (zero-add n) refl)

pub below_run : (n : ℕ) → below n ≡ run 0 n
below_run n = upto_run n [] ∙ append-nil (run 0 n)

-- ---- a loop over the connections: what is still to come
abbrev pub telling : (mask : ℕ) (m : List ℕ) (q : ℕ) → List ℕ
telling mask m q = each (told_to mask m) (run q (16 - q))

module _ (mask : ℕ) (m : List ℕ) where
  telling_all : telling mask m 0 ≡ told mask m
  unfolding told
  telling_all = ap (each (told_to mask m)) (sym (below_run 16))

  telling_next : (q : ℕ) → q < 16 → telling mask m q ≡ told_to mask m q ++ telling mask m (q + 1)
  unfolding each run
  telling_next q h =
      let e : 16 - q ≡ suc (16 - (q + 1)) = omega arith in
      rw (e, add-one q) refl

  telling_end : (q : ℕ) → 16 ≤ q → telling mask m q ≡ []
  unfolding each run
  telling_end q h =
      let e : 16 - q ≡ 0 = omega arith in
      rw e refl

  told_one : (q : ℕ) → has mask q ≡ true → told_to mask m q ≡ record_of m q
  unfolding told_to
  told_one q e = rw e refl

  told_none : (q : ℕ) → has mask q ≡ false → told_to mask m q ≡ []
  unfolding told_to
  told_none q e = rw e refl

  -- to the next connection of the mask: those between tell nothing
  telling_skip : (q : ℕ) → has mask q ≡ false → telling mask m q ≡ telling mask m (q + 1)
  telling_skip q e = go (ltb q 16) refl
    where
      go : (b : Bool) → ltb q 16 ≡ b → telling mask m q ≡ telling mask m (q + 1)
      go true l = telling_next q (ltb-true q 16 l) ∙ ap (λ (os : List ℕ). os ++ telling mask m (q + 1)) (told_none q e)
      go false l = let h = ltb-false q 16 l in telling_end q h ∙ sym (telling_end (q + 1) (omega arith))

  telling_past : {from r : ℕ} → NextIn mask from r → from ≤ 64 → telling mask m from ≡ telling mask m r
  telling_past {from} x l = next_keeps x l (λ (k : ℕ). telling mask m from ≡ telling mask m k) (λ k a e p. p ∙ telling_skip k e) refl

  telling_on : (q : ℕ) → q < 16 → has mask q ≡ true → {r : ℕ} → NextIn mask (q + 1) r → telling mask m q ≡ record_of m q ++ telling mask m r
  telling_on q h e x = telling_next q h ∙ ap₂ (λ (os ps : List ℕ). os ++ ps) (told_one q e) (telling_past x (omega arith))

  told_most : (q : ℕ) → length (told_to mask m q) ≤ length m + 4
  told_most q = go (has mask q) refl
    where
      go : (b : Bool) → has mask q ≡ b → length (told_to mask m q) ≤ length m + 4
      go true e = omega (arith, ap length (told_one q e), framed_length m q)
      go false e = omega (arith, ap length (told_none q e))

-- the loop has come to connection q, of the mask or behind it, and to place `at`
pub record Told (mask : ℕ) (m s₀ : List ℕ) (from : ℕ) (s : List ℕ) (at q : ℕ) : Type 0 where
  pub here : q < 64 → has mask q ≡ true
  pub near : at ≤ from + q * 1028
  pub onward : Onward s₀ from (told mask m) s at (telling mask m q)

module _ (mask : ℕ) (m : List ℕ) {s₀ : List ℕ} {from : ℕ} where
  pub told_start : {q : ℕ} → NextIn mask 0 q → Told mask m s₀ from s₀ from q
  told_start x = record {
    here = λ h. (x.here h).1;
    near = omega arith;
    onward = rw (← telling_past mask m x (omega arith), telling_all mask m) (onward_start _ _ _);
  }

  -- a turn: the record for q is put, however it is laid, and r is the next
  pub told_turn : {s : List ℕ} {at q : ℕ} {t : List ℕ} {n r : ℕ} → length m ≤ message_limit → q < 16
      → Told mask m s₀ from s at q → Puts s at (record_of m q) t n → NextIn mask (q + 1) r → Told mask m s₀ from t n r
  told_turn {q = q} l h w p x = record {
    here = λ h. (x.here h).1;
    near = omega (arith, w.near, p.next, framed_length m q, next_behind x (omega arith));
    onward = onward_step _ _ w.onward (telling_on mask m q h (w.here (omega arith)) x) p;
  }

  pub told_end : {s : List ℕ} {at q : ℕ} → 16 ≤ q → Told mask m s₀ from s at q → Puts s₀ from (told mask m) s at
  told_end {q = q} h w = onward_end w.onward (telling_end mask m q h)

-- ---- the records of a list
pub records_append : (rs ts : List Sent) → records (rs ++ ts) ≡ records rs ++ records ts
unfolding records
records_append [] ts = refl
records_append (r ∷ rs) ts = rw (records_append rs ts) (sym (append_assoc (octets r) (records rs) (records ts)))

pub records_none : records [] ≡ []
unfolding records
records_none = refl

pub records_one : (q : ℕ) (s : Message) → records (to q s ∷ []) ≡ record_of (wire s) q
unfolding records octets
records_one q s = append-nil (record_of (wire s) q)

-- what is told is the records of the message to the mask's connections
told_step : (q : ℕ) (s : Message) (b : Bool) (l : List ℕ)
    → (if b then record_of (wire s) q else []) ++ records (map (λ q. to q s) l) ≡ records (map (λ q. to q s) (if b then q ∷ l else l))
unfolding records octets
told_step q s true l = refl
told_step q s false l = refl

told_each : (mask : ℕ) (s : Message) (l : List ℕ) → each (told_to mask (wire s)) l ≡ records (map (λ q. to q s) (keep (has mask) l))
unfolding each keep told_to
told_each mask s [] = sym records_none
told_each mask s (q ∷ l) = ap (λ (r : List ℕ). told_to mask (wire s) q ++ r) (told_each mask s l) ∙ told_step q s (has mask q) (keep (has mask) l)

pub told_is : (mask : ℕ) (s : Message) → told mask (wire s) ≡ records (tell mask s)
unfolding told tell listed
told_is mask s = told_each mask s (below connections)

-- ---- what a caller knows: a message's octets are put as its records
module _ {s : List ℕ} {at : ℕ} {t : List ℕ} {n : ℕ} (x : Message) (m : List ℕ) (e : m ≡ wire x) (h : at ≤ 65535) (l : length m ≤ message_limit) where
  pub put_sent : (q : ℕ) → Puts s at (guarded at m (record_of m q)) t n → Puts s at (records (to q x ∷ [])) t n
  put_sent q p = rw (records_one q x, ← e) (rw (guarded_in at m (record_of m q) h l) at p)

  pub put_told : (mask : ℕ) → Puts s at (guarded at m (told mask m)) t n → Puts s at (records (tell mask x)) t n
  put_told mask p = rw (← told_is mask x, ← e) (rw (guarded_in at m (told mask m) h l) at p)

-- records behind records, and none
pub put_more : {s : List ℕ} {at : ℕ} (rs : List Sent) {t : List ℕ} {n : ℕ} (ts : List Sent) {u : List ℕ} {k : ℕ}
    → Puts s at (records rs) t n → Puts t n (records ts) u k → Puts s at (records (rs ++ ts)) u k
put_more rs ts p q = rw (records_append rs ts) (put_then p q)

pub put_nobody : (s : List ℕ) (at : ℕ) → Puts s at (records []) s at
put_nobody s at = rw records_none (put_none s at)

-- how many octets they take
pub sent_length : (q : ℕ) (x : Message) → length (records (to q x ∷ [])) ≡ length (wire x) + 4
sent_length q x = ap length (records_one q x) ∙ framed_length (wire x) q

telling_length : (mask : ℕ) (m : List ℕ) (k n : ℕ) → length (each (told_to mask m) (run k n)) ≤ n * (length m + 4)
unfolding each run
telling_length mask m k zero = omega arith
telling_length mask m k (suc n) =
    omega (arith, length-append (told_to mask m k) (each (told_to mask m) (run (suc k) n)), told_most mask m k, telling_length mask m (suc k) n, suc-mul n (length m + 4))

-- a record for each connection of the mask
told_more : (b : Bool) (q n : ℕ) (m l rest : List ℕ) → length rest ≡ length l * n → length m + 4 ≡ n
    → length ((if b then record_of m q else []) ++ rest) ≡ length (if b then q ∷ l else l) * n
told_more true q n m l rest e k = omega (arith, length-append (record_of m q) rest, framed_length m q, suc-mul (length l) n)
told_more false q n m l rest e k = e

told_count : (mask : ℕ) (m l : List ℕ) → length (each (told_to mask m) l) ≡ length (keep (has mask) l) * (length m + 4)
unfolding each keep told_to
told_count mask m [] = sym (zero-mul (length m + 4))
told_count mask m (q ∷ l) = told_more (has mask q) q (length m + 4) m (keep (has mask) l) (each (told_to mask m) l) (told_count mask m l) refl

pub told_size : (mask : ℕ) (m : List ℕ) → length (told mask m) ≡ length (listed connections mask) * (length m + 4)
unfolding told listed
told_size mask m = told_count mask m (below connections)

-- as many times the size of one record, which may be put or not
module _ (m : List ℕ) (n : ℕ) (size : (q : ℕ) → n ≡ length (guarded 0 m (record_of m q))) where
  pub size_most : n ≤ message_limit + 4
  size_most = go (allowed 0 (length m)) refl
    where
      go : (b : Bool) → b ≡ allowed 0 (length m) → n ≤ message_limit + 4
      go true e = omega (arith, size 0, ap length (guarded_all true 0 m (record_of m 0) e refl), framed_length m 0, (allowed_parts true 0 (length m) e refl).1)
      go false e = omega (arith, size 0, ap length (guarded_none false 0 m (record_of m 0) e refl))

  pub size_told : (mask : ℕ) → length (listed connections mask) * n ≡ length (guarded 0 m (told mask m))
  size_told mask = go (allowed 0 (length m)) refl
    where
      go : (b : Bool) → b ≡ allowed 0 (length m) → length (listed connections mask) * n ≡ length (guarded 0 m (told mask m))
      go true e =
          rw (guarded_all true 0 m (told mask m) e refl, told_size mask m)
          (ap (λ (k : ℕ). length (listed connections mask) * k) (size 0 ∙ ap length (guarded_all true 0 m (record_of m 0) e refl) ∙ framed_length m 0))
      go false e =
          rw (guarded_none false 0 m (told mask m) e refl)
          (ap (λ (k : ℕ). length (listed connections mask) * k) (size 0 ∙ ap length (guarded_none false 0 m (record_of m 0) e refl)) ∙ mul-zero (length (listed connections mask)))

pub told_length : (mask : ℕ) (x : Message) → length (records (tell mask x)) ≤ 16 * (length (wire x) + 4)
told_length mask x = rw (← told_is mask x, ← telling_all mask (wire x)) (telling_length mask (wire x) 0 16)
