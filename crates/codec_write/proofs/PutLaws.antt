-- What `put_bits` writes. Assumes nothing.
use mathlib.Core.Path.{◌≡◌, refl, sym, ap, ◌∙◌, subst}
use mathlib.Core.List.{List, ◌∷◌, ◌++◌, append_assoc}
use Prim.Native.Nat.{ℕ, zero, suc, ◌+◌, ◌-◌, ◌*◌, ◌/◌, ◌%◌, ◌^◌, ◌<◌, ◌≤◌}
use native.Mathlib.Nat.{div-add-mod', div-lt_iff_lt-mul, add-sub_of_le, mod-eq_of_lt, mod-lt, add-zero}
use native.Mathlib.Numerals.{add-one}
use native.Mathlib.Omega.{arith}
use lib.ListN.{length, get_or, take, set, length-set}
use lib.Seq.{take-set-le, take-suc-set, get_or-set_same, lt-length-set}
use lib.Arith.{digits_lt}
use lib.Pow.{pow_pos, pow-add, shl_exact, shr-shr, high}
use borrow.Author.Tests.{le-leb, lt-leb, eq-eqb, ne_eqb}
use Rattle.codec_octets.specs.Bits.{put_bits}
use Rattle.codec_octets.specs.Places.{left_at, placed, Puts, Clear}
use Rattle.codec_octets.proofs.Bits.{left_within, index_within, left_across, index_across}

pub shifted : (v k : ℕ) → v < 256 → k ≤ 8 → (v * 2 ^ k) % 4294967296 ≡ v * 2 ^ k
shifted v k h l = shl_exact {a = v} 8 k 32 h (omega arith)

pub within_small : (v w left : ℕ) → v < 2 ^ w → w ≤ left → v * 2 ^ (left - w) < 2 ^ left
within_small v w left h l =
    subst (λ k. v * 2 ^ (left - w) < 2 ^ k) (add-sub_of_le l)
    (rw (pow-add 2 w (left - w)) (rw add-zero at (digits_lt {r = 0} h (pow_pos (left - w)))))

index_end : (at w : ℕ) → left_at at ≡ w → 0 < w → (at + w) / 8 ≡ at / 8 + 1
unfolding left_at
index_end at w e h = omega arith

pub next_octet : (at : ℕ) → 0 < left_at at → (at + 7) / 8 ≡ at / 8 + 1
unfolding left_at
next_octet at h = omega arith

index_whole : (at w : ℕ) → left_at at ≡ 0 → w ≡ 8 → (at + w) / 8 ≡ at / 8 + 1
unfolding left_at
index_whole at w e h = omega arith

index_part : (at w : ℕ) → left_at at ≡ 0 → w < 8 → (at + w) / 8 ≡ at / 8
unfolding left_at
index_part at w e h = omega arith

-- what is to come, at a bit within an octet and at its start
pub placed_within : (s : List ℕ) (at : ℕ) (r : ℕ × List ℕ) → (left_at at ≡ 0 → ⊥) → placed s at r ≡ take (at / 8) s ++ (get_or s (at / 8) 0 + r.0) ∷ r.1
unfolding placed
placed_within s at r h = rw (ne_eqb (left_at at) 0 h)

pub placed_start : (s : List ℕ) (at : ℕ) (r : ℕ × List ℕ) → left_at at ≡ 0 → placed s at r ≡ take (at / 8) s ++ r.1
unfolding placed
placed_start s at r h = rw (eq-eqb (left_at at) 0 h)

full_within : (v w left : ℕ) → v < 2 ^ w → w ≤ left → v * 2 ^ (left - w) + 2 ^ (left - w) ≤ 2 ^ left
full_within v w left h l =
    let top : v * 2 ^ (left - w) + (2 ^ (left - w) - 1) < 2 ^ (w + (left - w)) =
    rw (pow-add 2 w (left - w)) (digits_lt {r = 2 ^ (left - w) - 1} h (omega (arith, pow_pos (left - w)))) in
    let top2 : v * 2 ^ (left - w) + (2 ^ (left - w) - 1) < 2 ^ left = rw (add-sub_of_le l) at top in
    omega (arith, pow_pos (left - w))

pub clear_at : (s : List ℕ) (at : ℕ) → Clear s at → 0 < left_at at → get_or s (at / 8) 0 + 2 ^ left_at at ≤ 256
unfolding Clear
clear_at s at c p = c p

module _ (s : List ℕ) (at w v y : ℕ) (room : at / 8 < length s) (h : w ≤ left_at at) (pos : 0 < left_at at) (e : y ≡ get_or s (at / 8) 0 + v * 2 ^ (left_at at - w)) (fit : v < 2 ^ w) (clear : Clear s at) where
  clear_within : Clear (set s (at / 8) y) (at + w)
  unfolding Clear
  clear_within p =
      let q : 0 < left_at at - w = rw (left_within at w h) at p in
      rw (left_within at w h, index_within at w (omega arith), get_or-set_same s (at / 8) y 0 room)
      (omega (arith, e, full_within v w (left_at at) fit h, clear pos))

  pub put_within : Puts s at w v (set s (at / 8) y)
  put_within = record { same = λ r b. go (left_at at - w) refl r (rw (le-leb w (left_at at) h) at b); size = length-set s (at / 8) y; clear = clear_within }
    where
      want : (r : ℕ × List ℕ) → placed s at (put_bits w (left_at at) v r) ≡ take (at / 8) s ++ (y + r.0) ∷ r.1
      want r =
          placed_within s at (put_bits w (left_at at) v r) (λ z. omega arith)
          ∙ rw (le-leb w (left_at at) h) (let z : get_or s (at / 8) 0 + (v * 2 ^ (left_at at - w) + r.0) ≡ y + r.0 = omega arith in rw z)

      go : (d : ℕ) → left_at at - w ≡ d → (r : ℕ × List ℕ) → r.0 < 2 ^ (left_at at - w) → placed (set s (at / 8) y) (at + w) r ≡ placed s at (put_bits w (left_at at) v r)
      go zero z r b =
          let z0 : r.0 ≡ 0 = let b2 = rw z at b in omega arith in
          placed_start (set s (at / 8) y) (at + w) r (left_within at w h ∙ z)
          ∙ rw (index_end at w (omega arith) (omega arith), add-one, take-suc-set s (at / 8) y room, append_assoc)
          (sym (want r ∙ rw (z0, add-zero)))
      go (suc d) z r b =
          placed_within (set s (at / 8) y) (at + w) r (λ k. omega (arith, left_within at w h))
          ∙ rw (index_within at w (omega arith), take-set-le (at / 8) s (at / 8) y (omega arith), get_or-set_same s (at / 8) y 0 room) (sym (want r))

-- bits below a multiple of 2 ^ l, across the end of an octet
pub over : (v b l : ℕ) → l ≤ 8 → b < 2 ^ l → (v * 2 ^ l + b) / 256 ≡ v * 2 ^ l / 256
over v b l h k =
    let q : (x : ℕ) → x < 2 ^ l → (v * 2 ^ l + x) / 256 ≡ v / 2 ^ (8 - l) =
    λ x m. subst (λ n. (v * 2 ^ l + x) / 2 ^ n ≡ v / 2 ^ (8 - l)) (add-sub_of_le h) (sym (shr-shr (v * 2 ^ l + x) l (8 - l)) ∙ ap (λ n. n / 2 ^ (8 - l)) (high v l m)) in
    q b k ∙ sym (rw add-zero at (q 0 (pow_pos l)))

under : (v b l : ℕ) → l ≤ 8 → b < 2 ^ l → (v * 2 ^ l + b) % 256 ≡ v * 2 ^ l % 256 + b
under v b l h k = omega (arith, over v b l h k, div-add-mod' (v * 2 ^ l + b) 256, div-add-mod' (v * 2 ^ l) 256)

low_room : (v l : ℕ) → l ≤ 8 → v * 2 ^ l % 256 + 2 ^ l ≤ 256
low_room v l h =
    let p : 0 < 2 ^ l = pow_pos l in
    omega (arith, under v (2 ^ l - 1) l h (omega arith), mod-lt (v * 2 ^ l + (2 ^ l - 1)) {m = 256} (omega arith))

module _ (s : List ℕ) (at w v : ℕ) (h : left_at at < w) (width : w ≤ 8) where
  abbrev behind_bits : ℕ
  behind_bits = left_at at + 8 - w

  module _ (pos : 0 < left_at at) (room : at / 8 + 1 < length s) where
    octet_behind : (at + 7) / 8 ≡ at / 8 + 1
    octet_behind = next_octet at pos

    clear_across : (y x : ℕ) → x ≡ v * 2 ^ behind_bits % 256 → Clear (set (set s (at / 8) y) (at / 8 + 1) x) (at + w)
    unfolding Clear
    clear_across y x f p =
        let q : 0 < behind_bits = rw (left_across at w h width) at p in
        rw (left_across at w h width, index_across at w h width q, octet_behind, get_or-set_same (set s (at / 8) y) (at / 8 + 1) x 0 (lt-length-set s (at / 8) y room), f)
        (low_room v behind_bits (omega arith))

    pub put_across : (y x : ℕ) → y ≡ get_or s (at / 8) 0 + v * 2 ^ behind_bits / 256 → x ≡ v * 2 ^ behind_bits % 256 → Puts s at w v (set (set s (at / 8) y) (at / 8 + 1) x)
    put_across y x e f =
        record {
          same = λ r b.
              let c : r.0 < 2 ^ behind_bits = rw (lt-leb w (left_at at) h) at b in
              let s1 : List ℕ = set s (at / 8) y in
              placed_within (set s1 (at / 8 + 1) x) (at + w) r (λ k. omega (arith, left_across at w h width))
              ∙ rw (index_across at w h width (omega arith), octet_behind, take-set-le (at / 8 + 1) s1 (at / 8 + 1) x (omega arith), get_or-set_same s1 (at / 8 + 1) x 0 (lt-length-set s (at / 8) y room), add-one, take-suc-set s (at / 8) y (omega arith), append_assoc)
              (sym (placed_within s at (put_bits w (left_at at) v r) (λ z. omega arith)
              ∙ rw (lt-leb w (left_at at) h, over v r.0 behind_bits (omega arith) c, under v r.0 behind_bits (omega arith) c, ← e, ← f)));
          size = length-set (set s (at / 8) y) (at / 8 + 1) x ∙ length-set s (at / 8) y;
          clear = clear_across y x f;
        }

  module _ (start : left_at at ≡ 0) (room : at / 8 < length s) where
    clear_start : (x : ℕ) → x ≡ v * 2 ^ behind_bits % 256 → Clear (set s (at / 8) x) (at + w)
    unfolding Clear
    clear_start x f p =
        let q : 0 < behind_bits = rw (left_across at w h width) at p in
        rw (left_across at w h width, index_part at w start (omega arith), get_or-set_same s (at / 8) x 0 room, f) (low_room v behind_bits (omega arith))

    pub put_start : (x : ℕ) → x ≡ v * 2 ^ behind_bits % 256 → Puts s at w v (set s (at / 8) x)
    put_start x f =
        record {
          same = λ r b. go behind_bits refl r (rw (lt-leb w (left_at at) h) at b);
          size = length-set s (at / 8) x;
          clear = clear_start x f;
        }
      where
        want : (r : ℕ × List ℕ) → r.0 < 2 ^ behind_bits → placed s at (put_bits w (left_at at) v r) ≡ take (at / 8) s ++ (x + r.0) ∷ r.1
        want r c = placed_start s at (put_bits w (left_at at) v r) start ∙ rw (lt-leb w (left_at at) h, under v r.0 behind_bits (omega arith) c, ← f)

        go : (d : ℕ) → behind_bits ≡ d → (r : ℕ × List ℕ) → r.0 < 2 ^ behind_bits → placed (set s (at / 8) x) (at + w) r ≡ placed s at (put_bits w (left_at at) v r)
        go zero z r c =
            let z0 : r.0 ≡ 0 = let c2 = rw z at c in omega arith in
            placed_start (set s (at / 8) x) (at + w) r (left_across at w h width ∙ z)
            ∙ rw (index_whole at w start (omega arith), add-one, take-suc-set s (at / 8) x room, append_assoc)
            (sym (want r c ∙ rw (z0, add-zero)))
        go (suc d) z r c =
            placed_within (set s (at / 8) x) (at + w) r (λ k. omega (arith, left_across at w h width))
            ∙ rw (index_part at w start (omega arith), take-set-le (at / 8) s (at / 8) x (omega arith), get_or-set_same s (at / 8) x 0 room) (sym (want r c))

pub clear_none : (s : List ℕ) (at : ℕ) → left_at at ≡ 0 → Clear s at
unfolding Clear
clear_none s at z p = absurd (omega arith)

pub put_none : (s : List ℕ) (at w v : ℕ) → w ≤ left_at at → left_at at ≡ 0 → Puts s at w v s
put_none s at w v h z =
    let n : w ≡ 0 = omega arith in
    record {
      same = λ r b.
          placed_start s (at + w) r (left_within at w h ∙ omega arith)
          ∙ sym (placed_start s at (put_bits w (left_at at) v r) z ∙ rw (le-leb w (left_at at) h, n, add-zero));
      size = refl;
      clear = clear_none s (at + w) (left_within at w h ∙ omega arith);
    }

-- the same, as `put_bits` computes it
room_at : (at w n : ℕ) → at + w ≤ n * 8 → 0 < left_at at → at / 8 < n
unfolding left_at
room_at at w n h p = omega arith

room_next : (at w n : ℕ) → at + w ≤ n * 8 → 0 < left_at at → left_at at < w → at / 8 + 1 < n
unfolding left_at
room_next at w n h p q = omega arith

room_start : (at w n : ℕ) → at + w ≤ n * 8 → left_at at < w → left_at at ≡ 0 → at / 8 < n
unfolding left_at
room_start at w n h p q = omega arith

across_small : (v w left : ℕ) → v < 2 ^ w → left < w → w ≤ 8 → v * 2 ^ (left + 8 - w) / 256 < 2 ^ left
across_small v w left h l m =
    let width : w + (left + 8 - w) ≡ left + 8 = add-sub_of_le (omega arith) in
    let whole : v * 2 ^ (left + 8 - w) < 2 ^ (left + 8) =
    subst (λ k. v * 2 ^ (left + 8 - w) < 2 ^ k) width (rw (pow-add 2 w (left + 8 - w)) (rw add-zero at (digits_lt {r = 0} h (pow_pos (left + 8 - w))))) in
    (div-lt_iff_lt-mul {k = 256} (omega arith)).1 (rw (pow-add 2 left 8) at whole)

module _ (s : List ℕ) (at w v left : ℕ) (e : left ≡ left_at at) (small : left < 8) (room : at + w ≤ length s * 8) (width : w ≤ 8) (byte : v < 256) (fit : v < 2 ^ w) (clear : Clear s at) where
  module _ (h : w ≤ left) (p : 0 < left) where
    shown : (v * 2 ^ (left - w)) % 4294967296 % 256 ≡ v * 2 ^ (left - w)
    shown =
        let l : v * 2 ^ (left - w) < 2 ^ left = within_small v w left fit h in
        let c : get_or s (at / 8) 0 + 2 ^ left ≤ 256 = rw e (clear_at s at clear (omega arith)) in
        rw (shifted v (left - w) byte (omega arith)) (mod-eq_of_lt (omega arith))

    pub sum_within : get_or s (at / 8) 0 + (v * 2 ^ (left - w)) % 4294967296 % 256 < 256
    sum_within =
        let l : v * 2 ^ (left - w) < 2 ^ left = within_small v w left fit h in
        let c : get_or s (at / 8) 0 + 2 ^ left ≤ 256 = rw e (clear_at s at clear (omega arith)) in
        rw shown (omega arith)

    pub at_within : at / 8 < length s
    at_within = room_at at w (length s) room (omega arith)

    pub puts_within : Puts s at w v (set s (at / 8) (get_or s (at / 8) 0 + (v * 2 ^ (left - w)) % 4294967296 % 256))
    puts_within = put_within s at w v _ at_within (omega arith) (omega arith) (rw (shown, e)) fit clear

  pub puts_none : w ≤ left → left ≤ 0 → Puts s at w v s
  puts_none h p = put_none s at w v (omega arith) (omega arith)

  module _ (h : left < w) where
    shown_high : 0 < left → (v * 2 ^ (left + 8 - w)) % 4294967296 / 256 % 256 ≡ v * 2 ^ (left + 8 - w) / 256
    shown_high p =
        let l : v * 2 ^ (left + 8 - w) / 256 < 2 ^ left = across_small v w left fit h width in
        let c : get_or s (at / 8) 0 + 2 ^ left ≤ 256 = rw e (clear_at s at clear (omega arith)) in
        rw (shifted v (left + 8 - w) byte (omega arith)) (mod-eq_of_lt (omega arith))

    pub sum_across : 0 < left → get_or s (at / 8) 0 + (v * 2 ^ (left + 8 - w)) % 4294967296 / 256 % 256 < 256
    sum_across p =
        let l : v * 2 ^ (left + 8 - w) / 256 < 2 ^ left = across_small v w left fit h width in
        let c : get_or s (at / 8) 0 + 2 ^ left ≤ 256 = rw e (clear_at s at clear (omega arith)) in
        rw (shown_high p) (omega arith)

    pub at_across : 0 < left → at / 8 + 1 < length s
    at_across p = room_next at w (length s) room (omega arith) (omega arith)

    pub puts_across : 0 < left → Puts s at w v (set (set s (at / 8) (get_or s (at / 8) 0 + (v * 2 ^ (left + 8 - w)) % 4294967296 / 256 % 256)) (at / 8 + 1) ((v * 2 ^ (left + 8 - w)) % 4294967296 % 256))
    puts_across p = put_across s at w v (omega arith) width (omega arith) (at_across p) _ _ (rw (shown_high p, e)) (rw (shifted v (left + 8 - w) byte (omega arith), e))

    pub puts_start : left ≤ 0 → Puts s at w v (set s (at / 8) ((v * 2 ^ (left + 8 - w)) % 4294967296 % 256))
    puts_start p = put_start s at w v (omega arith) width (omega arith) (room_start at w (length s) room (omega arith) (omega arith)) _ (rw (shifted v (left + 8 - w) byte (omega arith), e))
