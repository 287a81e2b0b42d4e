-- Octets laid into a room one behind the other, where they fit. Assumes nothing.
use Prim.Native.Nat.{ℕ, suc, ◌+◌, ◌^◌, ◌≤◌, ◌<◌}
use mathlib.Core.Path.{◌≡◌, refl, sym, ap, ◌∙◌}
use mathlib.Core.List.{List, [], ◌∷◌, ◌++◌}
use native.Mathlib.Nat.{add-zero, add-suc, suc-add, zero-add, div-one}
use native.Mathlib.Numerals.{add-one}
use native.Mathlib.Omega.{arith}
use lib.ListN.{length, drop, set, get_or, length-append, drop_of_length-le}
use lib.Seq.{sets, drop-cons}
use Rattle.std.specs.Int.{w64, to_be_bytes}
use Rattle.codec_octets.specs.Octets.{octets_of}
use Rattle.salvage.specs.Answer.{entry}
use Rattle.salvage.specs.Steps.{Lays}

-- ---- octet by octet
pub sets_on : (s : List ℕ) (at i : ℕ) (os : List ℕ) → i < length os
    → sets (set s (at + i) (get_or os i 0)) (at + (i + 1)) (drop (i + 1) os) ≡ sets s (at + i) (drop i os)
sets_on s at i os h = rw (drop-cons os i 0 h, add-one, add-suc) refl

pub sets_done : (s : List ℕ) (at i : ℕ) (os : List ℕ) → length os ≤ i → sets s at (drop i os) ≡ s
sets_done s at i os h = rw (drop_of_length-le os h) refl

-- ---- two runs of octets are one
pub sets_append : (s : List ℕ) (at : ℕ) (xs ys : List ℕ) → sets (sets s at xs) (at + length xs) ys ≡ sets s at (xs ++ ys)
sets_append s at [] ys = ap (λ n. sets s n ys) (add-zero at)
sets_append s at (x ∷ xs) ys =
    ap (λ n. sets (sets s at (x ∷ xs)) n ys) (add-suc at (length xs) ∙ sym (suc-add at (length xs)))
    ∙ sets_append (set s at x) (suc at) xs ys

-- ---- what does not fit is not laid
pub lays_not : (room : List ℕ) (at : ℕ) (os : List ℕ) → length room < at + length os → Lays room at os room
lays_not room at os h = record { laid = λ l. absurd (omega arith) }

pub lays_nothing : (room : List ℕ) (at : ℕ) → Lays room at [] room
lays_nothing room at = record { laid = λ l. refl }

-- ---- an entry of the list of cuts
pub entry_length : (start size : ℕ) → length (entry start size) ≡ 16
unfolding entry
entry_length start size = refl

-- eight octets as they are written
next_octet : {a b : ℕ} {os ps : List ℕ} → a ≡ b → os ≡ ps → a ∷ os ≡ b ∷ ps
next_octet e f = rw (e, f)

pub eight : (n : ℕ) → n < 2 ^ 64 → to_be_bytes w64 n ≡ octets_of 8 n
eight n h =
    next_octet (omega arith)
    (next_octet (omega arith)
    (next_octet (omega arith)
    (next_octet (omega arith) (next_octet (omega arith) (next_octet (omega arith) (next_octet (omega arith) (next_octet (omega (arith, div-one)) refl)))))))

pub lays_both : (room : List ℕ) (at start size : ℕ) {mid room' : List ℕ} → mid ≡ sets room at (octets_of 8 start) → room' ≡ sets mid (at + 8) (octets_of 8 size)
    → Lays room at (entry start size) room'
unfolding entry
lays_both room at start size e f =
    record { laid = λ l. f ∙ ap (λ m. sets m (at + 8) (octets_of 8 size)) e ∙ sets_append room at (octets_of 8 start) (octets_of 8 size) }

-- ---- a run of puts: laying `rest` from here on is laying `all` from the start, if all of it fits
pub record Onward (room₀ all room : List ℕ) (at : ℕ) (rest : List ℕ) : Type 0 where
  pub size : length room ≡ length room₀
  pub next : at + length rest ≡ length all
  pub laid : length all ≤ length room₀ → sets room at rest ≡ sets room₀ 0 all

pub onward_start : (room all : List ℕ) → Onward room all room 0 all
onward_start room all = record { size = refl; next = zero-add (length all); laid = λ l. refl }

pub onward_step : {room₀ all room : List ℕ} {at : ℕ} {rest : List ℕ} (xs ys : List ℕ) {room' : List ℕ} {n : ℕ}
    → Onward room₀ all room at rest → rest ≡ xs ++ ys → Lays room at xs room' → length room' ≡ length room → n ≡ at + length xs
    → Onward room₀ all room' n ys
onward_step {room₀} {all} {room} {at} {rest} xs ys {room'} {n} o e p l m =
    let two : length rest ≡ length xs + length ys = ap length e ∙ length-append xs ys in
    record {
      size = l ∙ o.size;
      next = omega (arith, o.next);
      laid =
          λ h.
          ap (λ r. sets r n ys) (p.laid (omega (arith, o.next, o.size)))
          ∙ ap (λ k. sets (sets room at xs) k ys) m
          ∙ sets_append room at xs ys
          ∙ ap (sets room at) (sym e)
          ∙ o.laid h;
    }

pub onward_laid : {room₀ all room : List ℕ} {at : ℕ} {rest : List ℕ} → Onward room₀ all room at rest → rest ≡ [] → Lays room₀ 0 all room
onward_laid {room = room} {at = at} o e = record { laid = λ h. ap (sets room at) (sym e) ∙ o.laid (omega arith) }

pub onward_count : {room₀ all room : List ℕ} {at : ℕ} {rest : List ℕ} → Onward room₀ all room at rest → rest ≡ [] → at ≡ length all
onward_count o e = omega (arith, o.next, ap length e)
