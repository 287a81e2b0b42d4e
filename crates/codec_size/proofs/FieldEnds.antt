-- A message's fields, measured one after the other: `fields_end`. Assumes nothing.
use mathlib.Core.Path.{◌≡◌, refl, sym, ap, ◌∙◌}
use mathlib.Core.Bool.{Bool, true, false, cond}
use mathlib.Core.List.{List, [], ◌∷◌, map}
use Prim.Native.Nat.{ℕ, zero, suc, ◌+◌, ◌*◌, ◌/◌, ◌^◌, ◌<◌, ◌≤◌}
use native.Mathlib.Nat.{le_trans}
use native.Mathlib.Numerals.{add-one}
use native.Mathlib.Omega.{arith}
use lib.ListN.{length, get_or, take, drop, drop_of_length-le}
use lib.Seq.{drop-cons}
use lib.Dec.{leb, ltb}
use Rattle.std.specs.Prelude.{Result, Ok, Err}
use borrow.Author.Tests.{lt-ltb, leb-true, leb-false}
use Rattle.codec_octets.specs.Octets.{a_number, write_item, size}
use Rattle.codec_octets.specs.Refusals.{refusal_number}
use Rattle.codec_octets.specs.declared.refusal.Refusal.{Refusal}
use Rattle.codec_octets.proofs.OctetLaws.{both_left}
use Rattle.codec_table.specs.Messages.{Field, code, item}
use Rattle.codec_table.specs.Columns.{field_of, kind_at, fields_of, kinds_at}
use Rattle.codec_octets.specs.Bits.{after}
use Rattle.codec_table.specs.Codec.{left_after, fits_field, Outcome, ok, refuse}
use Rattle.codec_table.proofs.CodecLaws.{sound_field, sound_fields}
use Rattle.codec_octets.specs.Places.{left_at}
use Rattle.codec_octets.proofs.Bits.{left_within, left_across, octet_left}
use Rattle.codec_table.proofs.ColumnLaws.{kind_rest, length_fields, field_at}
use Rattle.codec_table.specs.Answers.{outcome_of}
use Rattle.codec_size.specs.Sizes.{Below, field_end, fields_end, field_upto, fields_upto}
use Rattle.codec_size.proofs.LengthLaws.{number_length}

pub number_upto : (v at k : ℕ) → v < 4294967296 → k ≡ size v → k ≤ 4
    → ◌≡◌ {A = Outcome ℕ} (ok (((at + 7) / 8 + (1 + k)) * 8)) (field_upto (item a_number) v at) × (((at + 7) / 8 + (1 + k)) * 8 ≤ at + 48)
unfolding field_upto
number_upto v at k h e l = (simp (lt-ltb v (256 ^ 4) h, number_length v h, e), omega arith)

-- every kind of field is sound
pub sound_kind : (k : ℕ) → sound_field (field_of k) ≡ true
unfolding field_of sound_field
sound_kind zero = refl
sound_kind (suc zero) = refl
sound_kind (suc (suc zero)) = refl
sound_kind (suc (suc (suc zero))) = refl
sound_kind (suc (suc (suc (suc zero)))) = refl
sound_kind (suc (suc (suc (suc (suc zero))))) = refl
sound_kind (suc (suc (suc (suc (suc (suc zero)))))) = refl
sound_kind (suc (suc (suc (suc (suc (suc (suc k))))))) = ap sound_field (kind_rest (suc (suc (suc (suc (suc (suc (suc k))))))) (omega arith))

sound_kinds : (ks : List ℕ) → sound_fields (map field_of ks) ≡ true
unfolding sound_fields
sound_kinds [] = refl
sound_kinds (k ∷ ks) = rw (sound_kind k) (sound_kinds ks)

pub sound_these : (row count : ℕ) → sound_fields (fields_of row count) ≡ true
unfolding fields_of
sound_these row count = sound_kinds (take count (kinds_at row))

-- a field ends behind its start, with so many bits left
pub field_grows : (f : Field) (v at : ℕ) → at ≤ field_end f v at
field_grows (code w m) v at = omega arith
field_grows (item i) v at = omega arith

pub fields_grow : (fs : List Field) (vs : List ℕ) (at : ℕ) → at ≤ fields_end fs vs at
fields_grow [] vs at = omega arith
fields_grow (f ∷ fs) [] at = omega arith
fields_grow (f ∷ fs) (v ∷ vs) at = le_trans (field_grows f v at) (fields_grow fs vs (field_end f v at))

pub left_end : (f : Field) (v at : ℕ) → sound_field f ≡ true → left_at (field_end f v at) ≡ left_after f (left_at at)
unfolding sound_field
left_end (code w m) v at s = go (leb w (left_at at)) refl
  where
    go : (t : Bool) → leb w (left_at at) ≡ t → left_at (at + w) ≡ after w (left_at at)
    go true e = rw e (left_within at w (leb-true w (left_at at) e))
    go false e = rw e (left_across at w (leb-false w (left_at at) e) (leb-true w 8 (both_left (leb w 8) (ltb m (2 ^ w)) s)))
left_end (item i) v at s = octet_left ((at + 7) / 8 + length (write_item i v))

-- the fields from i on
module _ (row i : ℕ) (vs : List ℕ) (c : length vs ≤ 4) (h : i < length vs) where
  abbrev here : Field
  here = field_of (kind_at row i)

  pub fields_split : drop i (fields_of row (length vs)) ≡ here ∷ drop (suc i) (fields_of row (length vs))
  fields_split =
      drop-cons (fields_of row (length vs)) i (field_of 7) (rw (length_fields row (length vs) c) h)
      ∙ ap (λ g. g ∷ drop (suc i) (fields_of row (length vs))) (field_at row (length vs) i h)

pub values_split : (vs : List ℕ) (i : ℕ) → i < length vs → drop i vs ≡ get_or vs i 0 ∷ drop (suc i) vs
values_split vs i h = drop-cons vs i 0 h

-- i of the fields are measured
pub record Ending (fs : List Field) (vs : List ℕ) (from at i : ℕ) : Type 0 where
  pub within : i ≤ length vs
  pub low : at ≤ 8 + 48 * i
  pub same : fields_upto fs vs from ≡ fields_upto (drop i fs) (drop i vs) at

upto_not : (f : Field) (fs : List Field) (v : ℕ) (vs : List ℕ) (at n : ℕ) → refuse n ≡ field_upto f v at → fields_upto (f ∷ fs) (v ∷ vs) at ≡ refuse n
unfolding field_upto fields_upto
upto_not f fs v vs at n e = go (fits_field f v) refl e
  where
    go : (t : Bool) → fits_field f v ≡ t → refuse n ≡ cond t (ok (field_end f v at)) (refuse 8) → cond (fits_field f v) (fields_upto fs vs (field_end f v at)) (refuse 8) ≡ refuse n
    go true k e = cc
    go false k e = rw k (sym e)

upto_next : (f : Field) (fs : List Field) (v : ℕ) (vs : List ℕ) (at n : ℕ) → ok n ≡ field_upto f v at → fields_upto (f ∷ fs) (v ∷ vs) at ≡ fields_upto fs vs n
unfolding field_upto fields_upto
upto_next f fs v vs at n e = go (fits_field f v) refl e
  where
    go : (t : Bool) → fits_field f v ≡ t → ok n ≡ cond t (ok (field_end f v at)) (refuse 8) → cond (fits_field f v) (fields_upto fs vs (field_end f v at)) (refuse 8) ≡ fields_upto fs vs n
    go true k e = let z : n ≡ field_end f v at = cc in rw (k, z)
    go false k e = cc

pub below_upto : (g : Result ℕ Refusal) (n most : ℕ) → g ≡ Ok n → Below most g → n ≤ most
below_upto g n most e b = rw e at b

module _ {from at i : ℕ} {vs : List ℕ} (row : ℕ) (o : Ending (fields_of row (length vs)) vs from at i) (c : length vs ≤ 4) where
  module _ (h : i < length vs) (g : Result ℕ Refusal) (e : (outcome_of g ≡ field_upto (field_of (kind_at row i)) (get_or vs i 0) at) × Below (at + 48) g) where
    now_at : fields_upto (fields_of row (length vs)) vs from ≡ fields_upto (field_of (kind_at row i) ∷ drop (suc i) (fields_of row (length vs))) (get_or vs i 0 ∷ drop (suc i) vs) at
    now_at =
        o.same ∙ ap (λ l. fields_upto l (drop i vs) at) (fields_split row i vs c h)
        ∙ ap (λ l. fields_upto (field_of (kind_at row i) ∷ drop (suc i) (fields_of row (length vs))) l at) (values_split vs i h)

    pub ending_not : (r : Refusal) → g ≡ Err r → (refuse (refusal_number r) ≡ fields_upto (fields_of row (length vs)) vs from) × Unit {0}
    ending_not r k = (sym (now_at ∙ upto_not _ _ _ _ at (refusal_number r) (sym (ap outcome_of k) ∙ e.0)), tt)

    pub ending_more : (n : ℕ) → g ≡ Ok n → Ending (fields_of row (length vs)) vs from n (i + 1)
    ending_more n k =
        record {
          within = omega arith;
          low = omega (arith, below_upto g n (at + 48) k e.1, o.low);
          same = rw add-one (now_at ∙ upto_next _ _ _ _ at n (sym (ap outcome_of k) ∙ e.0));
        }

  pub ending_all : length vs ≤ i → (ok at ≡ fields_upto (fields_of row (length vs)) vs from) × (at ≤ 200)
  unfolding fields_upto
  ending_all h = (
    sym (o.same ∙ rw (drop_of_length-le (fields_of row (length vs)) {i = i} (rw (length_fields row (length vs) c) h), drop_of_length-le vs {i = i} h)),
    omega (arith, o.low, o.within),
  )
