-- What follows the fields, written: `put_tail`, by the same loop for every kind of list. Assumes nothing.
use mathlib.Core.Path.{◌≡◌, refl, sym, ap, ◌∙◌}
use mathlib.Core.Bool.{Bool, true, false, ◌&&◌}
use mathlib.Core.List.{List, [], ◌∷◌, ◌++◌, append_assoc, append-nil}
use Prim.Native.Nat.{ℕ, suc, ◌+◌, ◌<◌, ◌≤◌}
use native.Mathlib.Numerals.{add-one}
use native.Mathlib.Omega.{arith}
use lib.ListN.{length, get_or, take, drop, drop_of_length-le, length-append}
use lib.Seq.{drop-cons, take_all}
use lib.Dec.{leb, eqb}
use borrow.Author.Tests.{leb-true}
use Rattle.codec_octets.specs.Octets.{length_octets, fits_item, write_item, fits_items, write_items, fits_tail, write_tail}
use Rattle.codec_octets.proofs.OctetLaws.{both_left, both_right}
use Rattle.codec_table.specs.Columns.{tail_of}
use Rattle.codec_size.specs.Sizes.{item_of, limit_of}
use Rattle.codec_size.proofs.TailSizes.{tail_none, tail_list}
use Rattle.codec_write.specs.Writing.{Lays}

-- i of the items are written, since s₀ and the place at₀
pub record Listing (s₀ : List ℕ) (at₀ k : ℕ) (items s : List ℕ) (at i : ℕ) : Type 0 where
  pub within : i ≤ length items
  pub fits : fits_items (item_of k) (drop i items) ≡ true
  pub same : take at s ++ write_items (item_of k) (drop i items) ≡ take at₀ s₀ ++ write_items (item_of k) items
  pub room : at + length (write_items (item_of k) (drop i items)) ≡ length s
  pub size : length s ≡ length s₀

limit_small : (k : ℕ) → limit_of k < 16384
unfolding limit_of
limit_small k = go (eqb k 3) refl
  where
    go : (t : Bool) → eqb k 3 ≡ t → limit_of k < 16384
    go true e = rw e (omega arith)
    go false e = rw e (omega arith)

module _ (s₀ : List ℕ) (from k : ℕ) (items : List ℕ) (f : fits_tail (tail_of k) items ≡ true) (r : from + length (write_tail (tail_of k) items) ≡ length s₀) where
  pub listing_nothing : k ≡ 0 → s₀ ≡ take from s₀ ++ write_tail (tail_of k) items
  listing_nothing z =
      let e : from + 0 ≡ length s₀ = rw (tail_none k z) at r in
      rw (tail_none k z, append-nil, take_all from s₀ (omega arith))

  module _ (nz : k ≡ 0 → ⊥) (n : ℕ) (c : n ≡ length items) where
    is_list : write_tail (tail_of k) items ≡ length_octets n ++ write_items (item_of k) items
    is_list = rw (tail_list k nz, c)

    fits_list : leb (length items) (limit_of k) && fits_items (item_of k) items ≡ true
    fits_list = rw (tail_list k nz) at f

    pub listing_room : (from + length (length_octets n) ≤ length s₀) × (n < 16384)
    listing_room = (
      omega (arith, r, ap length is_list, length-append (length_octets n) (write_items (item_of k) items)),
      omega (arith, limit_small k, leb-true (length items) (limit_of k) (both_left (leb (length items) (limit_of k)) (fits_items (item_of k) items) fits_list)),
    )

    module _ {s : List ℕ} {at : ℕ} (l : Lays s₀ from (length_octets n) s at) where
      pub listing_start : Listing s at k items s at 0
      listing_start =
          record {
            within = omega arith;
            fits = both_right (leb (length items) (limit_of k)) (fits_items (item_of k) items) fits_list;
            same = refl;
            room = omega (arith, l.ends, l.size, r, ap length is_list, length-append (length_octets n) (write_items (item_of k) items));
            size = refl;
          }

      pub listing_whole : {s1 : List ℕ} → s1 ≡ take at s ++ write_items (item_of k) items → s1 ≡ take from s₀ ++ write_tail (tail_of k) items
      listing_whole e = e ∙ rw (l.lays, append_assoc, is_list)

module _ {s₀ : List ℕ} {at₀ k : ℕ} {items s : List ℕ} {at i : ℕ} (o : Listing s₀ at₀ k items s at i) where
  module _ (h : i < length items) (v : ℕ) (e : v ≡ get_or items i 0) where
    split : drop i items ≡ v ∷ drop (suc i) items
    split = rw e (drop-cons items i 0 h)

    pub listing_fits : fits_item (item_of k) v ≡ true
    listing_fits = both_left (fits_item (item_of k) v) (fits_items (item_of k) (drop (suc i) items)) (rw split at o.fits)

    rest_room : at + (length (write_item (item_of k) v) + length (write_items (item_of k) (drop (suc i) items))) ≡ length s
    rest_room = rw (← length-append (write_item (item_of k) v) (write_items (item_of k) (drop (suc i) items))) (rw split at o.room)

    pub listing_next : at + length (write_item (item_of k) v) ≤ length s
    listing_next = omega (arith, rest_room)

    pub listing_more : {s' : List ℕ} {next : ℕ} → Lays s at (write_item (item_of k) v) s' next → Listing s₀ at₀ k items s' next (i + 1)
    listing_more l =
        record {
          within = omega arith;
          fits = rw add-one (both_right (fits_item (item_of k) v) (fits_items (item_of k) (drop (suc i) items)) (rw split at o.fits));
          same = rw (add-one, l.lays, append_assoc) (rw split at o.same);
          room = rw add-one (omega (arith, l.ends, l.size, rest_room));
          size = l.size ∙ o.size;
        }

  pub listing_all : length items ≤ i → s ≡ take at₀ s₀ ++ write_items (item_of k) items
  listing_all h =
      let z : drop i items ≡ [] = drop_of_length-le items {i = i} h in
      let e : at + 0 ≡ length s = rw z at o.room in
      sym (take_all at s (omega arith)) ∙ sym (append-nil (take at s)) ∙ rw z at o.same
