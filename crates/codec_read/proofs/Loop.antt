-- A message's fields, one after the other: the invariant of `take_fields`. Assumes nothing.
use mathlib.Core.Path.{◌≡◌, refl, sym, ap, ◌∙◌, subst}
use mathlib.Core.List.{List, [], ◌∷◌, ◌++◌, append_assoc, append-nil}
use Prim.Native.Nat.{ℕ, suc, ◌+◌, ◌-◌, ◌*◌, ◌<◌, ◌≤◌}
use native.Mathlib.Numerals.{add-one}
use native.Mathlib.Omega.{arith}
use lib.ListN.{length, get_or, take, drop, set, length-set, drop_of_length-le, replicate}
use lib.Seq.{drop-cons, take-suc-set, length-take-le}
use Rattle.codec_octets.specs.Octets.{Read, got, no, follow, give}
use Rattle.codec_table.specs.Messages.{Field}
use Rattle.codec_table.specs.Columns.{field_of, kind_at, fields_of}
use Rattle.codec_table.specs.Codec.{take_field, take_fields, left_after}
use Rattle.codec_octets.specs.Places.{left_at, bits_at, behind}
use Rattle.codec_read.specs.Reading.{TakesField, TakesFields}
use Rattle.codec_read.specs.Held.{padded}
use Rattle.codec_read.proofs.HeldLaws.{clear_more, padded_all}
use Rattle.std.specs.Prelude.{Ok, Err}
use Rattle.codec_octets.specs.declared.Got.{Got}
use Rattle.codec_octets.specs.declared.refusal.Refusal.{Refusal}
use Rattle.codec_table.proofs.ColumnLaws.{length_fields, field_at}

pub prepend : List ℕ → Read (List ℕ × ℕ) → Read (List ℕ × ℕ)
prepend vs r = follow r (λ u. give (vs ++ u.0, u.1))

prepend_none : (r : Read (List ℕ × ℕ)) → prepend [] r ≡ r
unfolding prepend
prepend_none (got u os) = refl
prepend_none (no n) = refl

prepend_one : (vs : List ℕ) (v : ℕ) (r : Read (List ℕ × ℕ)) → prepend vs (follow r (λ u. give (v ∷ u.0, u.1))) ≡ prepend (vs ++ v ∷ []) r
unfolding prepend
prepend_one vs v (got u os) = ap {B = Read (List ℕ × ℕ)} (λ l. got (l, u.1) os) (sym (append_assoc vs (v ∷ []) u.0))
prepend_one vs v (no n) = refl

-- i of the fields are read, up to the bit at
pub record Sofar (s : List ℕ) (from : ℕ) (fs : List Field) (values : List ℕ) (at i : ℕ) : Type 0 where
  pub within : i ≤ length fs
  pub inside : at ≤ length s * 8
  pub places : length values ≡ 4
  pub clear : drop i values ≡ replicate (4 - i) 0
  pub read : take_fields fs (left_at from) (bits_at s from) (behind s from) ≡ prepend (take i values) (take_fields (drop i fs) (left_at at) (bits_at s at) (behind s at))

pub sofar_none : (s : List ℕ) (from : ℕ) (fs : List Field) (values : List ℕ) → from ≤ length s * 8 → values ≡ replicate 4 0 → Sofar s from fs values from 0
sofar_none s from fs values h p =
    record { within = omega arith; inside = h; places = ap length p; clear = p; read = sym (prepend_none (take_fields fs (left_at from) (bits_at s from) (behind s from))) }

module _ {s : List ℕ} {from : ℕ} {fs : List Field} {values : List ℕ} {at i : ℕ} (f : Field) (o : Sofar s from fs values at i) (more : i < length fs) (e : get_or fs i (field_of 7) ≡ f) where
  step : take_fields (drop i fs) (left_at at) (bits_at s at) (behind s at)
      ≡ follow (take_field f (left_at at) (bits_at s at) (behind s at)) (λ v. λ os. follow (take_fields (drop (suc i) fs) (left_after f (left_at at)) v.1 os) (λ r. give (v.0 ∷ r.0, r.1)))
  step = ap (λ l. take_fields l (left_at at) (bits_at s at) (behind s at)) (drop-cons fs i (field_of 7) more ∙ ap (λ g. g ∷ drop (suc i) fs) e)

  pub sofar_no : (r : Refusal) → TakesField s at f (Err r) → (count : ℕ) → TakesFields s from fs count (Err r)
  unfolding prepend
  sofar_no r t count =
      record {
        same = sym (o.read ∙ ap (λ x. prepend (take i values) x) (step ∙ ap (λ x. follow x (λ v. λ os. follow (take_fields (drop (suc i) fs) (left_after f (left_at at)) v.1 os) (λ r. give (v.0 ∷ r.0, r.1)))) (sym t.same)));
        inside = tt;
        cells = tt;
      }

  pub sofar_more : (g : Got) → TakesField s at f (Ok g) → i < 4 → Sofar s from fs (set values i g.value) g.next (i + 1)
  sofar_more g t h =
      record {
        within = omega arith;
        inside = t.inside;
        places = length-set values i g.value ∙ o.places;
        clear = clear_more 4 i values o.clear g.value h;
        read = rw (add-one, take-suc-set values i g.value (omega (arith, o.places)), t.leaves)
            (o.read
            ∙ ap (λ x. prepend (take i values) x) (step ∙ ap (λ x. follow x (λ v. λ os. follow (take_fields (drop (suc i) fs) (left_after f (left_at at)) v.1 os) (λ r. give (v.0 ∷ r.0, r.1)))) (sym t.same))
            ∙ prepend_one (take i values) g.value (take_fields (drop (suc i) fs) (left_after f (left_at at)) (bits_at s g.next) (behind s g.next)));
      }

pub sofar_all : {s : List ℕ} {from : ℕ} {fs : List Field} {values : List ℕ} {at i : ℕ} → Sofar s from fs values at i → (count : ℕ) → length fs ≡ count → count ≤ i → count ≤ 4
    → TakesFields s from fs count (Ok (record { values = values; at = at }))
unfolding prepend
sofar_all {fs = fs} {values = values} {i = i} o count c h small =
    let z : i ≡ count = omega (arith, o.within) in
    let four : i ≤ length values = omega (arith, o.places) in
    record {
      same = sym (o.read ∙ rw (drop_of_length-le fs {i = i} (omega arith), append-nil, z));
      inside = o.inside;
      cells = subst (λ j. (values ≡ padded 4 (take j values)) × (length (take j values) ≡ j)) z (padded_all 4 i values o.clear four, length-take-le i values four);
    }

-- the same at a message's fields, as the table of messages has them
module _ {s : List ℕ} {from count : ℕ} {values : List ℕ} {at i : ℕ} (row : ℕ) (o : Sofar s from (fields_of row count) values at i) (c : count ≤ 4) where
  module _ (m : i < count) (k : ℕ) (same : k ≡ kind_at row i) where
    more : i < length (fields_of row count)
    more = rw (length_fields row count c) m

    here : get_or (fields_of row count) i (field_of 7) ≡ field_of k
    here = field_at row count i m ∙ ap field_of (sym same)

    pub fields_no : (r : Refusal) → TakesField s at (field_of k) (Err r) → TakesFields s from (fields_of row count) count (Err r)
    fields_no r t = sofar_no (field_of k) o more here r t count

    pub fields_more : (g : Got) → TakesField s at (field_of k) (Ok g) → Sofar s from (fields_of row count) (set values i g.value) g.next (i + 1)
    fields_more g t = sofar_more (field_of k) o more here g t (omega arith)

  pub fields_all : count ≤ i → TakesFields s from (fields_of row count) count (Ok (record { values = values; at = at }))
  fields_all h = sofar_all o count (length_fields row count c) h c
