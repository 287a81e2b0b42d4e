-- Octets laid one behind the other into an answer's room. Assumes nothing.
use mathlib.Core.Path.{◌≡◌, refl, sym, ap, ◌∙◌}
use mathlib.Core.Bool.{Bool, true, false}
use mathlib.Core.List.{List, [], ◌∷◌, ◌++◌, append-nil}
use Prim.Native.Nat.{ℕ, zero, suc, ◌+◌, ◌-◌, ◌*◌, ◌/◌, ◌%◌, ◌≤◌, ◌<◌, min}
use native.Mathlib.Nat.{add-zero, add-suc, suc-add, zero-add, add_assoc, suc-min-suc, min-zero, zero-min}
use native.Mathlib.Numerals.{add-one, towards_suc}
use native.Mathlib.Omega.{arith}
use borrow.Author.Tests.{le-leb, leb-true}
use lib.Dec.{leb}
use lib.ListN.{length, take, drop, get_or, set, length-append, length-drop, drop_of_length-le}
use lib.Seq.{take_at, sets, sets-eq, length-sets, take_all, drop-cons}
use Rattle.std.specs.Int.{w16, to_be_bytes}
use Rattle.cols_spec.proofs.Bools.{and_parts}
use Rattle.codec_table.specs.Limits.{message_limit}
use Rattle.out_records.specs.Records.{two, record_of}
use Rattle.out_records.specs.Out.{Puts, allowed, guarded, each_two}

-- ---- one put behind another

-- two runs of octets
sets_append : (s : List ℕ) (at : ℕ) (xs ys : List ℕ) → sets (sets s at xs) (at + length xs) ys ≡ sets s at (xs ++ ys)
sets_append s at [] ys = ap (λ (n : ℕ). sets s n ys) (add-zero at)
sets_append s at (x ∷ xs) ys =
    ap (λ (n : ℕ). sets (sets s at (x ∷ xs)) n ys) (add-suc at (length xs) ∙ sym (suc-add at (length xs)))
    ∙ sets_append (set s at x) (suc at) xs ys

pub put_none : (s : List ℕ) (at : ℕ) → Puts s at [] s at
put_none s at = record { laid = refl; next = sym (add-zero at) }

pub put_then : {s : List ℕ} {at : ℕ} {xs : List ℕ} {t : List ℕ} {n : ℕ} {ys : List ℕ} {u : List ℕ} {k : ℕ} → Puts s at xs t n → Puts t n ys u k → Puts s at (xs ++ ys) u k
put_then {s} {at} {xs} {t} {n} {ys} {u} {k} p q =
    record {
      laid = q.laid ∙ rw (p.laid, p.next) (sets_append s at xs ys);
      next = q.next ∙ rw (p.next, length-append xs ys) (add_assoc at (length xs) (length ys));
    }

pub put_size : {s : List ℕ} {at : ℕ} {os t : List ℕ} {n : ℕ} → Puts s at os t n → length t ≡ length s
put_size {s} {at} {os} p = ap length p.laid ∙ length-sets s at os

-- ---- the guard
pub guarded_in : (at : ℕ) (m os : List ℕ) → at ≤ 65535 → length m ≤ message_limit → guarded at m os ≡ os
unfolding guarded allowed
guarded_in at m os h k = rw (le-leb at 65535 h, le-leb (length m) message_limit k) refl

-- what the guard's test lets through, and what not
module _ (b : Bool) (at : ℕ) (m os : List ℕ) (e : b ≡ allowed at (length m)) where
  pub guarded_all : b ≡ true → guarded at m os ≡ os
  unfolding guarded
  guarded_all h = rw (sym e ∙ h) refl

  pub guarded_none : b ≡ false → guarded at m os ≡ []
  unfolding guarded
  guarded_none h = rw (sym e ∙ h) refl

-- a put that it lets through, and none
module _ (b : Bool) (s : List ℕ) (at : ℕ) (m os : List ℕ) (e : b ≡ allowed at (length m)) where
  pub put_allowed : {t : List ℕ} {n : ℕ} → b ≡ true → Puts s at os t n → Puts s at (guarded at m os) t n
  put_allowed h p = rw (guarded_all b at m os e h) p

  pub put_refused : b ≡ false → Puts s at (guarded at m os) s at
  put_refused h = rw (guarded_none b at m os e h) (put_none s at)

pub allowed_parts : (b : Bool) (at count : ℕ) → b ≡ allowed at count → b ≡ true → (at ≤ 65535) × (count ≤ message_limit)
unfolding allowed
allowed_parts b at count e h =
    let r = and_parts (leb at 65535) (leb count message_limit) (sym e ∙ h) in
    (leb-true at 65535 r.0, leb-true count message_limit r.1)

-- ---- the rest of the room

sets_nil : (at : ℕ) (os : List ℕ) → sets [] at os ≡ []
sets_nil at [] = refl
sets_nil at (o ∷ os) = sets_nil (suc at) os

sets_behind : (x : ℕ) (s : List ℕ) (at : ℕ) (os : List ℕ) → sets (x ∷ s) (suc at) os ≡ x ∷ sets s at os
sets_behind x s at [] = refl
sets_behind x s at (o ∷ os) = sets_behind x (set s at o) (suc at) os

rest_laid : (s : List ℕ) (at : ℕ) (os : List ℕ) → take (min at (length s)) s ++ sets (drop (min at (length s)) s) 0 os ≡ sets s at os
rest_laid [] at os = rw (min-zero at) (sets_nil 0 os ∙ sym (sets_nil at os))
rest_laid (x ∷ s) zero os = rw (zero-min (suc (length s))) refl
rest_laid (x ∷ s) (suc at) os = rw (suc-min-suc at (length s)) (ap (λ (l : List ℕ). x ∷ l) (rest_laid s at os) ∙ sym (sets_behind x s at os))

-- a put into the part from a place on, which may lie behind the end
pub put_rest : (s : List ℕ) (at from : ℕ) (os t : List ℕ) (n : ℕ) → from ≡ min at (length s)
    → Puts (take (length s - from) (drop from s)) 0 os t n → Puts s at os (take from s ++ (t ++ drop (length s - from) (drop from s))) (at + n)
put_rest s at from os t n e p =
    let all : length (drop from s) ≤ length s - from = omega (arith, length-drop from s) in
    record {
      laid = rw (drop_of_length-le (drop from s) all, append-nil t, p.laid, take_all (length s - from) (drop from s) all, e) (rest_laid s at os);
      next = rw (p.next, zero-add (length os)) refl;
    }

-- ---- a run of puts: laying `rest` from here is laying `all` from the start
pub record Onward (s₀ : List ℕ) (at₀ : ℕ) (all s : List ℕ) (at : ℕ) (rest : List ℕ) : Type 0 where
  pub size : length s ≡ length s₀
  pub laid : sets s at rest ≡ sets s₀ at₀ all
  pub next : at + length rest ≡ at₀ + length all

pub onward_start : (s : List ℕ) (at : ℕ) (os : List ℕ) → Onward s at os s at os
onward_start s at os = record { size = refl; laid = refl; next = refl }

pub onward_step : {s₀ : List ℕ} {at₀ : ℕ} {all s : List ℕ} {at : ℕ} {rest : List ℕ} (xs ys : List ℕ) {t : List ℕ} {n : ℕ}
    → Onward s₀ at₀ all s at rest → rest ≡ xs ++ ys → Puts s at xs t n → Onward s₀ at₀ all t n ys
onward_step {s₀} {at₀} {all} {s} {at} {rest} xs ys {t} {n} o e p =
    record {
      size = put_size p ∙ o.size;
      laid = rw (p.laid, p.next) (sets_append s at xs ys) ∙ ap (λ (l : List ℕ). sets s at l) (sym e) ∙ o.laid;
      next = rw p.next (add_assoc at (length xs) (length ys) ∙ ap (λ (k : ℕ). at + k) (sym (length-append xs ys) ∙ ap length (sym e))) ∙ o.next;
    }

pub onward_end : {s₀ : List ℕ} {at₀ : ℕ} {all s : List ℕ} {at : ℕ} {rest : List ℕ} → Onward s₀ at₀ all s at rest → rest ≡ [] → Puts s₀ at₀ all s at
onward_end {s₀} {at₀} {all} {s} {at} {rest} o e =
    record {
      laid = ap (λ (l : List ℕ). sets s at l) (sym e) ∙ o.laid;
      next = sym (add-zero at) ∙ ap (λ (l : List ℕ). at + length l) (sym e) ∙ o.next;
    }

-- ---- what fits stands in front of the rest
pub put_fits : {s os t : List ℕ} {n : ℕ} → Puts s 0 os t n → length os ≤ length s → t ≡ os ++ drop (length os) s
put_fits {s} {os} p h = p.laid ∙ sets-eq os s 0 (omega (arith, zero-add (length os))) ∙ rw (zero-add (length os)) refl

-- what was put into a list of one's own that is long enough
module _ {s os t : List ℕ} {n : ℕ} (p : Puts s 0 os t n) (h : length os ≤ length s) where
  pub held_length : n ≡ length os
  held_length = p.next ∙ zero-add (length os)

  pub held : take n t ≡ os
  held = rw (put_fits p h) (take_at os (drop (length os) s) n (sym held_length))

  pub held_inside : n ≤ length t
  held_inside = omega (arith, held_length, put_size p)

  pub held_count : n ≡ length (take n t)
  held_count = held_length ∙ ap length (sym held)

-- ---- a loop over octets: what is still to come
pub sets_on : (s : List ℕ) (at i : ℕ) (os t : List ℕ) → i < length os → t ≡ set s (at + i) (get_or os i 0)
    → sets t (at + (i + 1)) (drop (i + 1) os) ≡ sets s (at + i) (drop i os)
sets_on s at i os t h e = rw (drop-cons os i 0 h, add-one, add-suc, e) refl

pub sets_done : (s : List ℕ) (at i : ℕ) (os : List ℕ) → length os ≤ i → sets s at (drop i os) ≡ s
sets_done s at i os h = rw (drop_of_length-le os h) refl

-- ---- a number below 65,536 on two octets
pub two_octets : (n : ℕ) → n < 65536 → to_be_bytes w16 n ≡ two n
two_octets n h = let e : n / 256 % 256 ≡ n / 256 = omega arith in rw e

-- ---- a loop over ids
module _ (low : ℕ) (ids : List ℕ) (i : ℕ) where
  pub ids_on : i < length ids → each_two low (drop i ids) ≡ two (get_or ids i 0 - low) ++ each_two low (drop (i + 1) ids)
  unfolding each_two
  ids_on h = rw (drop-cons ids i 0 h, add-one) refl

  pub ids_done : length ids ≤ i → each_two low (drop i ids) ≡ []
  unfolding each_two
  ids_done h = rw (drop_of_length-le ids h) refl

pub ids_length : (low : ℕ) (ids : List ℕ) → length (each_two low ids) ≡ 2 * length ids
unfolding each_two
ids_length low [] = refl
ids_length low (x ∷ xs) = omega (arith, ids_length low xs)

pub framed_length : (m : List ℕ) (q : ℕ) → length (record_of m q) ≡ length m + 4
unfolding record_of
framed_length m q = omega arith

-- ---- a message of three octets: the octets of its record, stored one by one
three : (m : List ℕ) → length m ≡ 3 → get_or m 0 0 ∷ get_or m 1 0 ∷ get_or m 2 0 ∷ [] ≡ m
three [] h = absurd (omega arith)
three (a ∷ []) h = absurd (omega arith)
three (a ∷ b ∷ []) h = absurd (omega arith)
three (a ∷ b ∷ c ∷ []) h = refl
three (a ∷ b ∷ c ∷ d ∷ m) h = absurd (omega arith)

put_seven : (s : List ℕ) (at q a b c : ℕ)
    → Puts s at (record_of (a ∷ b ∷ c ∷ []) q) (set (set (set (set (set (set (set s at 0) (at + 1) 5) (at + 2) 1) (at + 3) q) (at + 4) a) (at + 5) b) (at + 6) c) (at + 7)
unfolding record_of
put_seven s at q a b c = record { laid = simp towards_suc; next = refl }

pub put_three : (s : List ℕ) (at q : ℕ) (m : List ℕ) {n : ℕ} → length m ≡ 3 → n ≡ at + 7
    → Puts s at (record_of m q) (set (set (set (set (set (set (set s at 0) (at + 1) 5) (at + 2) 1) (at + 3) q) (at + 4) (get_or m 0 0)) (at + 5) (get_or m 1 0)) (at + 6) (get_or m 2 0)) n
put_three s at q m h e = rw (e, ← three m h) (put_seven s at q (get_or m 0 0) (get_or m 1 0) (get_or m 2 0))
