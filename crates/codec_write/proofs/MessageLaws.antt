-- A whole message, written: what `put_head`, `put_message` and `encode` answer and write. Assumes nothing.
use mathlib.Core.Path.{◌≡◌, refl, sym, ap, ◌∙◌}
use mathlib.Core.Bool.{Bool, true, false, cond, ◌&&◌}
use mathlib.Core.List.{List, ◌++◌}
use Prim.Native.Nat.{ℕ, ◌+◌, ◌-◌, ◌*◌, ◌/◌, ◌^◌, ◌<◌, ◌≤◌}
use native.Mathlib.Nat.{le_trans, pow-le-pow_right}
use native.Mathlib.Omega.{arith}
use lib.ListN.{length, take, drop}
use lib.Dec.{leb, ltb}
use Rattle.std.specs.Prelude.{Result, Ok, Err}
use Rattle.codec_octets.specs.declared.refusal.Refusal.{Refusal}
use Rattle.codec_octets.specs.declared.refusal.Refusal.TheVariants.{NoRoom}
use borrow.Author.Tests.{lt-ltb, le-leb, lt-leb, leb-true, leb-false}
use Rattle.codec_table.specs.Limits.{message_limit}
use Rattle.codec_octets.specs.Octets.{Tail, fits_tail, write_tail}
use Rattle.codec_octets.proofs.OctetLaws.{both}
use Rattle.codec_table.specs.Messages.{Field}
use Rattle.codec_octets.specs.Bits.{put_bits}
use Rattle.codec_table.specs.Codec.{fits_fields, put_fields, Msg, bit, Outcome, ok, refuse, in_tail, encode}
use Rattle.codec_table.proofs.CodecLaws.{fields_bound, tail_in}
use Rattle.codec_octets.specs.Places.{left_at, placed, Puts, Clear}
use Rattle.codec_table.specs.Columns.{fields_of, tail_of, tail_at, count_at, form_at}
use Rattle.codec_table.proofs.ColumnLaws.{known}
use Rattle.codec_table.specs.Answers.{outcome_of}
use Rattle.codec_size.specs.Sizes.{fields_end, items_for, given, extent, headed, at_most, body_upto}
use Rattle.codec_size.proofs.TailSizes.{short_fits}
use Rattle.codec_size.proofs.FieldEnds.{sound_these}
use Rattle.codec_size.proofs.MessageSizes.{whole_by, answer, said, length_whole, some_octets, msg, encode_uncovered, few_fields, too_few, too_many, encode_said, size_is}
use Rattle.codec_write.specs.Writing.{PutsFields, PutsHead, filled, Encodes}
use Rattle.codec_write.proofs.PutLaws.{clear_none}

-- the head
pub small_code : (v w : ℕ) → v < 2 ^ w → w ≤ 8 → v < 256
small_code v w h l = le_trans h (pow-le-pow_right {n = 2} (omega arith) {i = w} {j = 8} l)

pub clear_first : (s : List ℕ) → Clear s 0
unfolding left_at
clear_first s = clear_none s 0 refl

module _ {s s1 : List ℕ} {n form present : ℕ} (p : Puts s 0 6 n s1) where
  pub head_plain : form ≡ 0 → PutsHead n form present s s1 6
  unfolding left_at placed
  head_plain z = record { same = λ r b. rw z (p.same r b); ends = rw z; size = p.size; clear = p.clear }

  pub head_optional : {s2 : List ℕ} → Puts s1 6 1 present s2 → present < 2 → (form ≡ 0 → ⊥) → form ≤ 1 → PutsHead n form present s s2 7
  unfolding left_at placed
  head_optional q small nz most =
      let z : form ≡ 1 = omega arith in
      record {
        same = λ r b. rw z (q.same r b ∙ p.same (put_bits 1 2 present r) (omega arith));
        ends = rw z;
        size = q.size ∙ p.size;
        clear = q.clear;
      }

-- what is read off a size
said_fine : {fits : Bool} {os : List ℕ} → fits ≡ true → 0 < length os → length os ≤ message_limit → answer fits os ≡ ok os
unfolding answer
said_fine {fits} {os} e a b = simp (e, lt-ltb 0 (length os) a, le-leb (length os) message_limit b)

opened : (at : ℕ) (fs : List Field) (t : Tail) (vs items : List ℕ) {w : Outcome ℕ} → body_upto at fs t vs items ≡ w
    → cond (fits_fields fs vs && in_tail t items) (at_most ((fields_end fs vs at + 7) / 8 + length (write_tail t items))) (refuse 8) ≡ w
unfolding body_upto
opened at fs t vs items e = e

-- a message that has a size
pub record Fine (n : ℕ) (vs items : List ℕ) (size : ℕ) : Type 0 where
  pub below : n < 64
  pub form : form_at n ≤ 1
  pub least : count_at n ≤ length vs
  pub most : length vs ≤ count_at n + form_at n
  pub fits : fits_fields (fields_of n (length vs)) vs ≡ true
  pub tail : fits_tail (tail_of (tail_at n)) items ≡ true
  pub takes : (fields_end (fields_of n (length vs)) vs (6 + form_at n) + 7) / 8 + length (write_tail (tail_of (tail_at n)) items) ≡ size
  pub short : size ≤ message_limit

module _ (n : ℕ) (vs items : List ℕ) (size : ℕ) where
  no_size : {k : ℕ} → encode (msg n vs items) ≡ refuse k → extent (encode (msg n vs items)) ≡ ok size → ⊥
  no_size e f = let c = sym f ∙ ap extent e in cc

  fine : extent (encode (msg n vs items)) ≡ ok size → Fine n vs items size
  fine e = at_form (leb (form_at n) 1) refl
    where
      at_end : (l : form_at n ≤ 1) (a : count_at n ≤ length vs) (b : length vs ≤ count_at n + form_at n)
          (f g m : Bool) → fits_fields (fields_of n (length vs)) vs ≡ f → in_tail (tail_of (tail_at n)) items ≡ g
          → leb ((fields_end (fields_of n (length vs)) vs (6 + form_at n) + 7) / 8 + length (write_tail (tail_of (tail_at n)) items)) message_limit ≡ m
          → cond (f && g) (cond m (ok ((fields_end (fields_of n (length vs)) vs (6 + form_at n) + 7) / 8 + length (write_tail (tail_of (tail_at n)) items))) (refuse 4)) (refuse 8) ≡ ok size
          → Fine n vs items size
      at_end l a b true true true p q r e =
          let z : (fields_end (fields_of n (length vs)) vs (6 + form_at n) + 7) / 8 + length (write_tail (tail_of (tail_at n)) items) ≡ size = cc in
          let few = leb-true ((fields_end (fields_of n (length vs)) vs (6 + form_at n) + 7) / 8 + length (write_tail (tail_of (tail_at n)) items)) message_limit r in
          record { below = omega (arith, known n (omega arith)); form = l; least = a; most = b; fits = p; tail = short_fits (tail_at n) items q (omega arith); takes = z; short = omega arith }
      at_end l a b true true false p q r e = cc
      at_end l a b true false m p q r e = cc
      at_end l a b false g m p q r e = cc

      at_most_lem : (l : form_at n ≤ 1) (a : count_at n ≤ length vs) (t : Bool) → leb (length vs) (count_at n + form_at n) ≡ t → Fine n vs items size
      at_most_lem l a true k =
          let b = leb-true (length vs) (count_at n + form_at n) k in
          at_end l a b _ _ _ refl refl refl (opened (6 + form_at n) (fields_of n (length vs)) (tail_of (tail_at n)) vs items (sym (size_is n vs items l a b) ∙ e))
      at_most_lem l a false k = absurd (no_size (too_many n vs items l (leb-false (length vs) (count_at n + form_at n) k)) e)

      at_least : (l : form_at n ≤ 1) (t : Bool) → leb (count_at n) (length vs) ≡ t → Fine n vs items size
      at_least l true k = at_most_lem l (leb-true (count_at n) (length vs) k) (leb (length vs) (count_at n + form_at n)) refl
      at_least l false k = absurd (no_size (too_few n vs items l (leb-false (count_at n) (length vs) k)) e)

      at_form : (t : Bool) → leb (form_at n) 1 ≡ t → Fine n vs items size
      at_form true k = at_least (leb-true (form_at n) 1 k) (leb (count_at n) (length vs)) refl
      at_form false k = absurd (no_size (encode_uncovered n vs items (leb-false (form_at n) 1 k)) e)

pub fine_given : (n : ℕ) (vs ids octets : List ℕ) (size : ℕ) → extent (encode (given n vs ids octets)) ≡ ok size → Fine n vs (items_for (tail_at n) ids octets) size
unfolding given
fine_given n vs ids octets size e = fine n vs (items_for (tail_at n) ids octets) size e

left_head : (form : ℕ) → form ≤ 1 → left_at (6 + form) ≡ 2 - form
unfolding left_at
left_head form h = omega arith

module _ {n : ℕ} {vs items : List ℕ} {size : ℕ} (o : Fine n vs items size) where
  pub fine_four : length vs ≤ 4
  fine_four = omega (arith, o.most, few_fields n vs items o.form)

  pub fine_some : 0 < size
  fine_some = omega (arith, o.takes, some_octets (6 + form_at n) 0 (fields_of n (length vs)) vs (omega arith))

  fine_encode : encode (msg n vs items) ≡ ok (whole_by n (form_at n) (ltb (count_at n) (length vs)) (fields_of n (length vs)) (tail_of (tail_at n)) vs items)
  unfolding said answer
  fine_encode =
      let l = length_whole n (form_at n) (ltb (count_at n) (length vs)) (fields_of n (length vs)) (tail_of (tail_at n)) vs items o.form (sound_these n (length vs)) o.fits in
      encode_said n vs items o.form o.least o.most
      ∙ said_fine (both o.fits (tail_in (tail_of (tail_at n)) items o.tail)) (omega (arith, l, o.takes, fine_some)) (omega (arith, l, o.takes, o.short))

  module _ {form present : ℕ} {s s1 : List ℕ} {at : ℕ} (f : form ≡ form_at n) (p : PutsHead n form present s s1 at) where
    pub fine_room : length s ≡ size → fields_end (fields_of n (length vs)) vs at ≤ length s1 * 8
    fine_room e = let a : at ≡ 6 + form_at n = p.ends ∙ rw f in rw a (omega (arith, o.takes, e, p.size))

    module _ {s2 : List ℕ} {next : ℕ} (q : PutsFields s1 at (fields_of n (length vs)) vs s2 next) where
      pub fine_tail : length s ≡ size → next + length (write_tail (tail_of (tail_at n)) items) ≡ length s2
      fine_tail e =
          let a : at ≡ 6 + form_at n = p.ends ∙ rw f in
          let b : next ≡ (fields_end (fields_of n (length vs)) vs (6 + form_at n) + 7) / 8 = rw a at q.ends in
          omega (arith, o.takes, e, p.size, q.size)

      pub fine_same : present ≡ bit (ltb (count_at n) (length vs)) → {s3 : List ℕ} → s3 ≡ take next s2 ++ write_tail (tail_of (tail_at n)) items → encode (msg n vs items) ≡ ok s3
      unfolding whole_by
      fine_same b {s3} e =
          let fs : List Field = fields_of n (length vs) in
          let tl : List ℕ = write_tail (tail_of (tail_at n)) items in
          let left : left_at at ≡ 2 - form_at n = ap left_at p.ends ∙ left_head form (rw f o.form) ∙ rw f in
          let chain : s3 ≡ (put_bits 6 0 n (headed form present (put_fields fs (left_at at) vs (0, tl)))).1 =
          e ∙ q.same tl ∙ p.same (put_fields fs (left_at at) vs (0, tl)) (fields_bound fs (left_at at) vs tl (sound_these n (length vs)) o.fits) in
          fine_encode
          ∙ ap ok (sym (chain
          ∙ ap (λ k. (put_bits 6 0 n (headed form present (put_fields fs k vs (0, tl)))).1) left
          ∙ ap (λ k. (put_bits 6 0 n (headed form k (put_fields fs (2 - form_at n) vs (0, tl)))).1) b
          ∙ ap (λ k. (put_bits 6 0 n (headed k (bit (ltb (count_at n) (length vs))) (put_fields fs (2 - form_at n) vs (0, tl)))).1) f))

-- the room
module _ (m : Msg) (s : List ℕ) (n : ℕ) where
  pub filled_not : refuse n ≡ extent (encode m) → (w : Result ℕ Refusal) → outcome_of w ≡ refuse n → Encodes m s w s
  filled_not e w f = rw f (go (encode m) e)
    where
      go : (o : Outcome (List ℕ)) → refuse n ≡ extent o → ◌≡◌ {A = Outcome ℕ × List ℕ} (refuse n, s) (filled o s)
      go (ok os) e = cc
      go (refuse k) e = rw e

  pub filled_short : ok n ≡ extent (encode m) → length s < n → Encodes m s (Err NoRoom) s
  filled_short e h = go (encode m) e
    where
      go : (o : Outcome (List ℕ)) → ok n ≡ extent o → ◌≡◌ {A = Outcome ℕ × List ℕ} (refuse 9, s) (filled o s)
      go (ok os) e = let z : n ≡ length os = cc in rw (lt-leb (length os) (length s) (omega arith))
      go (refuse k) e = cc

  pub filled_whole : ok n ≡ extent (encode m) → n ≤ length s → (os : List ℕ) → encode m ≡ ok os → Encodes m s (Ok n) (os ++ drop n s)
  filled_whole e h os k =
      let f : ok n ≡ ok (length os) = e ∙ ap extent k in
      let z : n ≡ length os = cc in
      rw (k, ← z, le-leb n (length s) h)
