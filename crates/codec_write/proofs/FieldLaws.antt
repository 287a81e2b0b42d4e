-- A message's fields, written one after the other: `put_fields`. Assumes nothing.
use mathlib.Core.Path.{◌≡◌, refl, sym, ap, ◌∙◌}
use mathlib.Core.Bool.{true}
use mathlib.Core.List.{List, [], ◌∷◌, ◌++◌, append_assoc}
use Prim.Native.Nat.{ℕ, zero, suc, ◌+◌, ◌*◌, ◌/◌, ◌^◌, ◌<◌, ◌≤◌}
use native.Mathlib.Nat.{add-zero}
use native.Mathlib.Numerals.{add-one}
use native.Mathlib.Omega.{arith}
use lib.ListN.{length, get_or, take, drop, drop_of_length-le}
use lib.Seq.{take-suc}
use lib.Dec.{leb}
use borrow.Author.Tests.{leb-true}
use Rattle.codec_table.specs.Limits.{message_limit}
use Rattle.codec_octets.specs.Octets.{Item, an_id, a_number, write_item}
use Rattle.codec_octets.proofs.OctetLaws.{both_left, both_right}
use Rattle.codec_table.specs.Messages.{Field, code, item}
use Rattle.codec_table.specs.Columns.{field_of, kind_at, fields_of}
use Rattle.codec_table.specs.Codec.{left_after, fits_field, fits_fields, put_fields}
use Rattle.codec_table.proofs.CodecLaws.{sound_field, sound_fields, fields_bound}
use Rattle.codec_octets.specs.Places.{left_at, placed, Puts, Clear}
use Rattle.codec_octets.proofs.Bits.{octet_left}
use Rattle.codec_table.proofs.ColumnLaws.{length_fields}
use Rattle.codec_size.specs.Sizes.{field_end, fields_end}
use Rattle.codec_size.proofs.FieldEnds.{sound_kind, sound_these, field_grows, fields_grow, left_end, fields_split, values_split}
use Rattle.codec_write.specs.Writing.{Lays, MayPut, PutsField, PutsFields}
use Rattle.codec_write.proofs.PutLaws.{placed_within, placed_start, next_octet, clear_none}

-- the fields from i on are sound
sound_drop : (i : ℕ) (fs : List Field) → sound_fields fs ≡ true → sound_fields (drop i fs) ≡ true
unfolding sound_fields
sound_drop zero fs h = h
sound_drop (suc i) [] h = h
sound_drop (suc i) (f ∷ fs) h = sound_drop i fs (both_right (sound_field f) (sound_fields fs) h)

-- a code and an item are written
pub code_puts : {s : List ℕ} {at w v : ℕ} {s' : List ℕ} (m next : ℕ) → Puts s at w v s' × (next ≡ at + w) → PutsField s at (code w m) v s' next
code_puts {s} {at} {w} {v} {s'} m next p =
    record { same = λ r b. rw p.1 (p.0.same r b); ends = p.1; size = p.0.size; clear = rw p.1 p.0.clear }

whole_octets : (at : ℕ) → left_at at ≡ 0 → (at + 7) / 8 ≡ at / 8
unfolding left_at
whole_octets at e = omega arith

pub placed_zero : (s : List ℕ) (at : ℕ) (os : List ℕ) → (at + 7) / 8 ≤ length s → placed s at (0, os) ≡ take ((at + 7) / 8) s ++ os
placed_zero s at os h = go (left_at at) refl
  where
    go : (l : ℕ) → left_at at ≡ l → placed s at (0, os) ≡ take ((at + 7) / 8) s ++ os
    go zero e = placed_start s at (0, os) e ∙ rw (whole_octets at e)
    go (suc l) e =
        let n : (at + 7) / 8 ≡ at / 8 + 1 = next_octet at (omega arith) in
        placed_within s at (0, os) (λ z. omega arith) ∙ rw (n, add-one, take-suc s (at / 8) 0 (omega arith), append_assoc, add-zero)

pub item_puts : {s : List ℕ} {at : ℕ} {i : Item} {v : ℕ} {s' : List ℕ} (k : ℕ) → Lays s ((at + 7) / 8) (write_item i v) s' k → (at + 7) / 8 ≤ length s → PutsField s at (item i) v s' (k * 8)
item_puts {s} {at} {i} {v} {s'} k l h =
    record {
      same = λ r b.
          let q : k * 8 / 8 ≡ k = omega arith in
          placed_start s' (k * 8) r (octet_left k)
          ∙ rw (q, l.lays, append_assoc) (sym (placed_zero s at (write_item i v ++ r.1) h));
      ends = ap (λ n. n * 8) l.ends;
      size = l.size;
      clear = clear_none s' (k * 8) (octet_left k);
    }

-- i of the fields are written
pub record Putting (s₀ : List ℕ) (from : ℕ) (fs : List Field) (vs s : List ℕ) (at i : ℕ) : Type 0 where
  pub within : i ≤ length vs
  pub fits : fits_fields (drop i fs) (drop i vs) ≡ true
  pub ends : fields_end (drop i fs) (drop i vs) at ≡ fields_end fs vs from
  pub same : (os : List ℕ) → placed s at (put_fields (drop i fs) (left_at at) (drop i vs) (0, os)) ≡ placed s₀ from (put_fields fs (left_at from) vs (0, os))
  pub size : length s ≡ length s₀
  pub clear : Clear s at

pub putting_none : (s : List ℕ) (from : ℕ) (fs : List Field) (vs : List ℕ) → fits_fields fs vs ≡ true → Clear s from → Putting s from fs vs s from 0
putting_none s from fs vs f c = record { within = omega arith; fits = f; ends = refl; same = λ os. refl; size = refl; clear = c }

module _ {s₀ : List ℕ} {from : ℕ} {vs s : List ℕ} {at i : ℕ} (row : ℕ) (o : Putting s₀ from (fields_of row (length vs)) vs s at i) (c : length vs ≤ 4)
    (room : fields_end (fields_of row (length vs)) vs from ≤ length s₀ * 8) where
  module _ (h : i < length vs) where
    fs1 : List Field
    fs1 = drop (suc i) (fields_of row (length vs))

    fits_here : fits_fields (field_of (kind_at row i) ∷ fs1) (get_or vs i 0 ∷ drop (suc i) vs) ≡ true
    unfolding fs1
    fits_here = rw (fields_split row i vs c h, values_split vs i h) at o.fits

    ends_here : fields_end (field_of (kind_at row i) ∷ fs1) (get_or vs i 0 ∷ drop (suc i) vs) at ≡ fields_end (fields_of row (length vs)) vs from
    unfolding fs1
    ends_here = rw (fields_split row i vs c h, values_split vs i h) at o.ends

    pub putting_fits : fits_field (field_of (kind_at row i)) (get_or vs i 0) ≡ true
    putting_fits = both_left (fits_field (field_of (kind_at row i)) (get_or vs i 0)) (fits_fields fs1 (drop (suc i) vs)) fits_here

    pub putting_room : field_end (field_of (kind_at row i)) (get_or vs i 0) at ≤ length s * 8
    putting_room =
        omega (arith, ends_here, o.size, fields_grow fs1 (drop (suc i) vs) (field_end (field_of (kind_at row i)) (get_or vs i 0) at))

    sound_rest : sound_fields fs1 ≡ true
    unfolding fs1
    sound_rest = sound_drop (suc i) (fields_of row (length vs)) (sound_these row (length vs))

    pub putting_more : {s' : List ℕ} (next : ℕ) → PutsField s at (field_of (kind_at row i)) (get_or vs i 0) s' next → Putting s₀ from (fields_of row (length vs)) vs s' next (i + 1)
    unfolding fs1
    putting_more {s'} next p =
        let f : Field = field_of (kind_at row i) in
        let left : left_at next ≡ left_after f (left_at at) = rw p.ends (left_end f (get_or vs i 0) at (sound_kind (kind_at row i))) in
        let fits1 : fits_fields fs1 (drop (suc i) vs) ≡ true = both_right (fits_field f (get_or vs i 0)) (fits_fields fs1 (drop (suc i) vs)) fits_here in
        record {
          within = omega arith;
          fits = rw add-one fits1;
          ends = rw (add-one, p.ends) ends_here;
          same = λ os.
              rw (add-one, left)
              (p.same (put_fields fs1 (left_after f (left_at at)) (drop (suc i) vs) (0, os)) (fields_bound fs1 (left_after f (left_at at)) (drop (suc i) vs) os sound_rest fits1)
              ∙ rw (fields_split row i vs c h, values_split vs i h) at (o.same os));
          size = p.size ∙ o.size;
          clear = p.clear;
        }

  pub putting_near : length s₀ ≤ message_limit → at ≤ 8192
  putting_near h = omega (arith, o.ends, fields_grow (drop i (fields_of row (length vs))) (drop i vs) at)

  pub putting_all : length vs ≤ i → PutsFields s₀ from (fields_of row (length vs)) vs s ((at + 7) / 8)
  putting_all h =
      let nf : drop i (fields_of row (length vs)) ≡ [] = drop_of_length-le (fields_of row (length vs)) {i = i} (rw (length_fields row (length vs) c) h) in
      let nv : drop i vs ≡ [] = drop_of_length-le vs {i = i} h in
      let e : at ≡ fields_end (fields_of row (length vs)) vs from = rw nf at o.ends in
      record {
        same = λ os. sym (placed_zero s at os (omega (arith, o.size))) ∙ rw nf at (o.same os);
        ends = rw e;
        size = o.size;
      }

-- what the arms of `put_field` ask
module _ {s : List ℕ} {at : ℕ} {f : Field} {v : ℕ} (a : MayPut s at f v) where
  pub field_near : at ≤ 8192
  field_near = omega (arith, field_grows f v at, a.room, a.short)

  pub code_asks : (w m : ℕ) → f ≡ code w m → w ≤ 8 → m < 2 ^ w → (at + w ≤ length s * 8) × (length s ≤ message_limit) × (w ≤ 8) × (v < 2 ^ w) × Clear s at
  code_asks w m e h l =
      let b : MayPut s at (code w m) v = rw e at a in
      (b.room, b.short, h, omega (arith, leb-true v m b.fits), b.clear)

  pub id_asks : (low : ℕ) → f ≡ item (an_id low) → ((at + 7) / 8 + 2 ≤ length s) × (low ≤ v) × (v ≤ 65535)
  id_asks low e =
      let b : MayPut s at (item (an_id low)) v = rw e at a in
      (omega (arith, b.room), leb-true low v (both_left (leb low v) (leb v 65535) b.fits), leb-true v 65535 (both_right (leb low v) (leb v 65535) b.fits))

  pub number_asks : f ≡ item a_number → (at + 7) / 8 + length (write_item a_number v) ≤ length s
  number_asks e =
      let b : MayPut s at (item a_number) v = rw e at a in
      omega (arith, b.room)

  pub item_field : (i : Item) → f ≡ item i → {s' : List ℕ} {k : ℕ} → Lays s ((at + 7) / 8) (write_item i v) s' k → PutsField s at f v s' (k * 8)
  item_field i e l =
      let b : MayPut s at (item i) v = rw e at a in
      rw e (item_puts _ l (omega (arith, b.room)))
