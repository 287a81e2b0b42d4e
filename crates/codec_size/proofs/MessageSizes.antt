-- A whole message, measured: what `body_size` and `message_size` answer. Assumes nothing.
use mathlib.Core.Path.{◌≡◌, refl, sym, ap, ◌∙◌}
use mathlib.Core.Bool.{Bool, true, false, cond, ◌&&◌}
use mathlib.Core.List.{List, [], ◌∷◌, ◌++◌}
use Prim.Native.Nat.{ℕ, zero, suc, ◌+◌, ◌-◌, ◌/◌, ◌^◌, ◌<◌, ◌≤◌}
use native.Mathlib.Omega.{arith}
use lib.ListN.{length, length-append}
use lib.Dec.{leb, ltb, eqb}
use borrow.Author.Tests.{eq-eqb, ne_eqb, lt-ltb, le-ltb, ltb-true, ltb-false, le-leb, lt-leb, leb-true, leb-false}
use Rattle.codec_table.specs.Limits.{message_limit}
use Rattle.codec_octets.specs.Octets.{Tail, nothing, fits_tail, write_tail, write_item}
use Rattle.codec_octets.proofs.OctetLaws.{both_left, both_right}
use Rattle.codec_table.specs.Messages.{Field, code, item, kind, Row, plain, optional, uncovered, unknown, row, covers}
use Rattle.codec_octets.specs.Bits.{put_bits}
use Rattle.codec_table.specs.Codec.{left_after, fits_field, put_field, fits_fields, put_fields, Msg, chosen, bit, put_row, octets_of_msg, Outcome, ok, refuse, sized, in_tail, in_range, encode}
use Rattle.codec_table.proofs.CodecLaws.{sound_field, sound_fields, fits_length}
use Rattle.codec_octets.specs.Places.{left_at}
use Rattle.codec_table.specs.Columns.{fields_of, tail_of, tail_at, count_at, form_at, row_from, last_field}
use Rattle.codec_octets.proofs.Bits.{next_within, next_across}
use Rattle.codec_table.proofs.ColumnLaws.{length_fields, row_from_lem, one_more, no_tail, count_few, count_one_more}
use Rattle.codec_size.specs.Sizes.{field_end, fields_end, fields_upto, tail_upto, items_for, given, extent, headed, at_most, body_upto}
use Rattle.codec_size.proofs.TailSizes.{long_string}
use Rattle.codec_size.proofs.FieldEnds.{left_end, sound_these, fields_grow}

-- the size of the fields and what follows them
joined : Outcome ℕ → Outcome ℕ → Outcome ℕ
joined (refuse n) t = refuse n
joined (ok e) (refuse n) = refuse n
joined (ok e) (ok k) = at_most ((e + 7) / 8 + k)

pick_both : (a b : Bool) (x y : Outcome ℕ) → x ≡ cond b y (refuse 8) → cond a x (refuse 8) ≡ cond (a && b) y (refuse 8)
pick_both true b x y e = e
pick_both false b x y e = refl

fields_upto_lem : (fs : List Field) (vs : List ℕ) (at : ℕ) → fields_upto fs vs at ≡ cond (fits_fields fs vs) (ok (fields_end fs vs at)) (refuse 8)
unfolding fields_upto
fields_upto_lem [] [] at = refl
fields_upto_lem [] (v ∷ vs) at = refl
fields_upto_lem (f ∷ fs) [] at = refl
fields_upto_lem (f ∷ fs) (v ∷ vs) at = pick_both (fits_field f v) (fits_fields fs vs) _ _ (fields_upto_lem fs vs (field_end f v at))

module _ (at : ℕ) (fs : List Field) (k : ℕ) (vs items : List ℕ) where
  joined_is : joined (fields_upto fs vs at) (tail_upto (tail_of k) items) ≡ body_upto at fs (tail_of k) vs items
  unfolding joined body_upto tail_upto
  joined_is = rw (fields_upto_lem fs vs at) (go (fits_fields fs vs) (in_tail (tail_of k) items) (fits_tail (tail_of k) items) refl refl refl)
    where
      go : (a b c : Bool) → fits_fields fs vs ≡ a → in_tail (tail_of k) items ≡ b → fits_tail (tail_of k) items ≡ c
          → joined (cond (fits_fields fs vs) (ok (fields_end fs vs at)) (refuse 8))
          (cond (in_tail (tail_of k) items) (cond (fits_tail (tail_of k) items) (ok (length (write_tail (tail_of k) items))) (refuse 4)) (refuse 8))
          ≡ cond (fits_fields fs vs && in_tail (tail_of k) items) (at_most ((fields_end fs vs at + 7) / 8 + length (write_tail (tail_of k) items))) (refuse 8)
      go true true true p q r = simp (p, q, r)
      go true true false p q r =
          simp (p, q, r, lt-leb ((fields_end fs vs at + 7) / 8 + length (write_tail (tail_of k) items)) message_limit (omega (arith, long_string k items q r)))
      go true false c p q r = simp (p, q)
      go false b c p q r = simp p

  module _ (f : Outcome ℕ) (e : f ≡ fields_upto fs vs at) where
    pub body_not : (n : ℕ) → f ≡ refuse n → {w : Outcome ℕ} → w ≡ f → w ≡ body_upto at fs (tail_of k) vs items
    unfolding joined
    body_not n g h = h ∙ g ∙ ap (λ x. joined x (tail_upto (tail_of k) items)) (sym g ∙ e) ∙ joined_is

    module _ (u : Outcome ℕ) (g : u ≡ tail_upto (tail_of k) items) (end : ℕ) (to : f ≡ ok end) where
      pub body_tail_not : (n : ℕ) → u ≡ refuse n → {w : Outcome ℕ} → w ≡ u → w ≡ body_upto at fs (tail_of k) vs items
      unfolding joined
      body_tail_not n l h = h ∙ l ∙ ap (λ x. joined (ok end) x) (sym l ∙ g) ∙ ap (λ x. joined x (tail_upto (tail_of k) items)) (sym to ∙ e) ∙ joined_is

      body_both : (n : ℕ) → u ≡ ok n → at_most ((end + 7) / 8 + n) ≡ body_upto at fs (tail_of k) vs items
      unfolding joined
      body_both n l = ap (λ x. joined (ok end) x) (sym l ∙ g) ∙ ap (λ x. joined x (tail_upto (tail_of k) items)) (sym to ∙ e) ∙ joined_is

      pub body_fine : (n : ℕ) → u ≡ ok n → (end + 7) / 8 + n ≤ message_limit → ok ((end + 7) / 8 + n) ≡ body_upto at fs (tail_of k) vs items
      body_fine n l m = rw (le-leb ((end + 7) / 8 + n) message_limit m) at (body_both n l)

      pub body_over : (n : ℕ) → u ≡ ok n → message_limit < (end + 7) / 8 + n → refuse 4 ≡ body_upto at fs (tail_of k) vs items
      body_over n l m = rw (lt-leb ((end + 7) / 8 + n) message_limit m) at (body_both n l)

-- how many octets the fields take
field_length : (f : Field) (v at : ℕ) (r : ℕ × List ℕ) → sound_field f ≡ true
    → (at + 7) / 8 + length (put_field f (left_at at) v r).1 ≡ (field_end f v at + 7) / 8 + length r.1
unfolding sound_field
field_length (code w m) v at r s = go (leb w (left_at at)) refl
  where
    go : (t : Bool) → leb w (left_at at) ≡ t → (at + 7) / 8 + length (put_bits w (left_at at) v r).1 ≡ (at + w + 7) / 8 + length r.1
    go true e = simp e (ap (λ k. k + length r.1) (sym (next_within at w (leb-true w (left_at at) e))))
    go false e =
        let n : (at + w + 7) / 8 ≡ (at + 7) / 8 + 1 = next_across at w (leb-false w (left_at at) e) (leb-true w 8 (both_left (leb w 8) (ltb m (2 ^ w)) s)) in
        simp e (omega arith)
field_length (item i) v at r s = omega (arith, length-append (write_item i v) r.1)

fields_length : (fs : List Field) (vs : List ℕ) (at : ℕ) (os : List ℕ) → sound_fields fs ≡ true → fits_fields fs vs ≡ true
    → (at + 7) / 8 + length (put_fields fs (left_at at) vs (0, os)).1 ≡ (fields_end fs vs at + 7) / 8 + length os
unfolding sound_fields
fields_length [] vs at os s h = refl
fields_length (f ∷ fs) [] at os s h = refl
fields_length (f ∷ fs) (v ∷ vs) at os s h =
    let s1 : sound_field f ≡ true = both_left (sound_field f) (sound_fields fs) s in
    field_length f v at (put_fields fs (left_after f (left_at at)) vs (0, os)) s1
    ∙ rw (← left_end f v at s1)
    (fields_length fs vs (field_end f v at) os (both_right (sound_field f) (sound_fields fs) s) (both_right (fits_field f v) (fits_fields fs vs) h))

-- a message's octets, by the tables of src/
unfoldable pub whole_by : ℕ → ℕ → Bool → List Field → Tail → List ℕ → List ℕ → List ℕ
whole_by n form present fs t vs items = (put_bits 6 0 n (headed form (bit present) (put_fields fs (2 - form) vs (0, write_tail t items)))).1

unfoldable pub answer : Bool → List ℕ → Outcome (List ℕ)
answer fits os = cond fits (cond (sized os) (ok os) (refuse 4)) (refuse 8)

unfoldable pub said : ℕ → ℕ → Bool → List Field → Tail → List ℕ → List ℕ → Outcome (List ℕ)
said n form present fs t vs items = answer (fits_fields fs vs && in_tail t items) (whole_by n form present fs t vs items)

outcome : ℕ → Row → List ℕ → List ℕ → Outcome (List ℕ)
outcome n R vs items =
    cond (covers R) (answer (in_range R vs items) (put_field kind 0 n (put_row R vs items)).1) (refuse 7)

pub length_whole : (n form : ℕ) (present : Bool) (fs : List Field) (t : Tail) (vs items : List ℕ) → form ≤ 1 → sound_fields fs ≡ true → fits_fields fs vs ≡ true
    → length (whole_by n form present fs t vs items) ≡ (fields_end fs vs (6 + form) + 7) / 8 + length (write_tail t items)
unfolding whole_by left_at
length_whole n zero present fs t vs items l s h = omega (arith, fields_length fs vs 6 (write_tail t items) s h)
length_whole n (suc zero) present fs t vs items l s h = omega (arith, fields_length fs vs 7 (write_tail t items) s h)
length_whole n (suc (suc form)) present fs t vs items l s h = absurd (omega arith)

pub some_octets : (at n : ℕ) (fs : List Field) (vs : List ℕ) → 6 ≤ at → 0 < (fields_end fs vs at + 7) / 8 + n
some_octets at n fs vs h = omega (arith, fields_grow fs vs at)

extent_answer : (fits : Bool) (os : List ℕ) (n : ℕ) → (fits ≡ true → length os ≡ n) → 0 < n → extent (answer fits os) ≡ cond fits (at_most n) (refuse 8)
unfolding answer
extent_answer false os n e p = refl
extent_answer true os n e p = go (leb (length os) message_limit) refl
  where
    go : (t : Bool) → leb (length os) message_limit ≡ t → extent (cond (sized os) (ok os) (refuse 4)) ≡ at_most n
    go true k = simp (lt-ltb 0 (length os) (omega (arith, e refl)), k, ← e refl)
    go false k = simp (lt-ltb 0 (length os) (omega (arith, e refl)), k, ← e refl)

misfit : (fs : List Field) (vs : List ℕ) → (length vs ≡ length fs → ⊥) → fits_fields fs vs ≡ false
misfit fs vs k = go (fits_fields fs vs) refl
  where
    go : (t : Bool) → fits_fields fs vs ≡ t → fits_fields fs vs ≡ false
    go true e = absurd (k (fits_length fs vs e))
    go false e = e

said_misfit : (n form : ℕ) (p : Bool) (fs : List Field) (t : Tail) (vs items : List ℕ) → (length vs ≡ length fs → ⊥) → said n form p fs t vs items ≡ refuse 8
unfolding said answer
said_misfit n form p fs t vs items k = ap (λ b. answer (b && in_tail t items) (whole_by n form p fs t vs items)) (misfit fs vs k)

-- what is read off a size
data Form : ℕ → Type 0 where
  form_plain : Form 0
  form_optional : Form 1

form_is : (f : ℕ) → f ≤ 1 → Form f
form_is zero l = form_plain
form_is (suc zero) l = form_optional
form_is (suc (suc f)) l = absurd (omega arith)

module _ (n : ℕ) (vs items : List ℕ) where
  abbrev pub msg : Msg
  msg = record { number = n; values = vs; items = items }

  by_row : (R : Row) → row n ≡ R → encode msg ≡ outcome n R vs items
  unfolding encode octets_of_msg outcome answer
  by_row R e = ap (λ r. outcome n r vs items) e

  pub encode_uncovered : 1 < form_at n → encode msg ≡ refuse 7
  unfolding row_from outcome
  encode_uncovered u = go (eqb (form_at n) 2) refl
    where
      go : (t : Bool) → eqb (form_at n) 2 ≡ t → encode msg ≡ refuse 7
      go true e = by_row uncovered (row_from_lem n ∙ simp (ne_eqb (form_at n) 0 (λ z. omega arith), ne_eqb (form_at n) 1 (λ z. omega arith), e))
      go false e = by_row unknown (row_from_lem n ∙ simp (ne_eqb (form_at n) 0 (λ z. omega arith), ne_eqb (form_at n) 1 (λ z. omega arith), e))

  pub few_fields : form_at n ≤ 1 → count_at n + form_at n ≤ 4
  few_fields l = go (form_at n) refl (form_is (form_at n) l)
    where
      go : (f : ℕ) → form_at n ≡ f → Form f → count_at n + f ≤ 4
      go zero e w = omega (arith, count_few n)
      go (suc zero) e w = count_one_more n e
      go (suc (suc _)) e w = elim w [ ]

  module _ (l : form_at n ≤ 1) where
    plain_row : form_at n ≡ 0 → row n ≡ plain (fields_of n (count_at n)) (tail_of (tail_at n))
    unfolding row_from
    plain_row z = row_from_lem n ∙ rw (eq-eqb (form_at n) 0 z)

    optional_row : form_at n ≡ 1 → row n ≡ optional (fields_of n (count_at n)) (last_field n)
    unfolding row_from
    optional_row z = row_from_lem n ∙ simp (ne_eqb (form_at n) 0 (λ e. omega arith), eq-eqb (form_at n) 1 z)

    size_of : length (fields_of n (count_at n)) ≡ count_at n
    size_of = length_fields n (count_at n) (omega (arith, few_fields l))

    tail_nothing : form_at n ≡ 1 → tail_of (tail_at n) ≡ nothing
    tail_nothing z = no_tail n z

    encode_plain : form_at n ≡ 0 → encode msg ≡ said n 0 (ltb (count_at n) (length vs)) (fields_of n (count_at n)) (tail_of (tail_at n)) vs items
    unfolding outcome said whole_by
    encode_plain z = by_row _ (plain_row z)

    encode_optional : form_at n ≡ 1 → (p : Bool) → ltb (count_at n) (length vs) ≡ p
        → encode msg ≡ said n 1 p (chosen p (fields_of n (count_at n)) (last_field n)) (tail_of (tail_at n)) vs items
    unfolding outcome said whole_by
    encode_optional z p e =
        by_row _ (optional_row z)
        ∙ ap (λ k. said n 1 (ltb k (length vs)) (chosen (ltb k (length vs)) (fields_of n (count_at n)) (last_field n)) nothing vs items) size_of
        ∙ ap (λ k. said n 1 k (chosen k (fields_of n (count_at n)) (last_field n)) nothing vs items) e
        ∙ ap (λ t. said n 1 p (chosen p (fields_of n (count_at n)) (last_field n)) t vs items) (sym (tail_nothing z))

    -- a wrong number of values
    pub too_few : length vs < count_at n → encode msg ≡ refuse 8
    too_few k = go (form_at n) refl (form_is (form_at n) l)
      where
        go : (f : ℕ) → form_at n ≡ f → Form f → encode msg ≡ refuse 8
        go zero z w = encode_plain z ∙ said_misfit _ _ _ (fields_of n (count_at n)) _ vs items (λ e. omega (arith, size_of))
        go (suc zero) z w =
            encode_optional z false (le-ltb (count_at n) (length vs) (omega arith))
            ∙ said_misfit _ _ _ (fields_of n (count_at n)) _ vs items (λ e. omega (arith, size_of))
        go (suc (suc _)) z w = elim w [ ]

    pub too_many : count_at n + form_at n < length vs → encode msg ≡ refuse 8
    too_many k = go (form_at n) refl (form_is (form_at n) l)
      where
        go : (f : ℕ) → form_at n ≡ f → Form f → encode msg ≡ refuse 8
        go zero z w = encode_plain z ∙ said_misfit _ _ _ (fields_of n (count_at n)) _ vs items (λ e. omega (arith, size_of))
        go (suc zero) z w =
            encode_optional z true (lt-ltb (count_at n) (length vs) (omega arith))
            ∙ said_misfit _ _ _ (fields_of n (count_at n) ++ last_field n ∷ []) _ vs items
            (λ e. omega (arith, size_of, length-append (fields_of n (count_at n)) (last_field n ∷ [])))
        go (suc (suc _)) z w = elim w [ ]

    module _ (least : count_at n ≤ length vs) (most : length vs ≤ count_at n + form_at n) where
      pub encode_said : encode msg ≡ said n (form_at n) (ltb (count_at n) (length vs)) (fields_of n (length vs)) (tail_of (tail_at n)) vs items
      encode_said = go (form_at n) refl (form_is (form_at n) l)
        where
          go : (f : ℕ) → form_at n ≡ f → Form f
              → encode msg ≡ said n (form_at n) (ltb (count_at n) (length vs)) (fields_of n (length vs)) (tail_of (tail_at n)) vs items
          go zero z w =
              let e : count_at n ≡ length vs = omega arith in
              encode_plain z
              ∙ ap (λ k. said n 0 (ltb (count_at n) (length vs)) (fields_of n k) (tail_of (tail_at n)) vs items) e
              ∙ ap (λ f. said n f (ltb (count_at n) (length vs)) (fields_of n (length vs)) (tail_of (tail_at n)) vs items) (sym z)
          go (suc zero) z w = pick (ltb (count_at n) (length vs)) refl
            where
              pick : (p : Bool) → ltb (count_at n) (length vs) ≡ p
                  → encode msg ≡ said n (form_at n) (ltb (count_at n) (length vs)) (fields_of n (length vs)) (tail_of (tail_at n)) vs items
              pick true e =
                  let c : count_at n + 1 ≡ length vs = omega (arith, ltb-true (count_at n) (length vs) e) in
                  encode_optional z true e
                  ∙ ap (λ fs. said n 1 true fs (tail_of (tail_at n)) vs items) (sym (one_more n z) ∙ ap (λ k. fields_of n k) c)
                  ∙ ap (λ f. said n f true (fields_of n (length vs)) (tail_of (tail_at n)) vs items) (sym z)
                  ∙ ap (λ p. said n (form_at n) p (fields_of n (length vs)) (tail_of (tail_at n)) vs items) (sym e)
              pick false e =
                  let c : count_at n ≡ length vs = omega (arith, ltb-false (count_at n) (length vs) e) in
                  encode_optional z false e
                  ∙ ap (λ fs. said n 1 false fs (tail_of (tail_at n)) vs items) (ap (λ k. fields_of n k) c)
                  ∙ ap (λ f. said n f false (fields_of n (length vs)) (tail_of (tail_at n)) vs items) (sym z)
                  ∙ ap (λ p. said n (form_at n) p (fields_of n (length vs)) (tail_of (tail_at n)) vs items) (sym e)
          go (suc (suc _)) z w = elim w [ ]

      pub size_is : extent (encode msg) ≡ body_upto (6 + form_at n) (fields_of n (length vs)) (tail_of (tail_at n)) vs items
      unfolding said body_upto
      size_is =
          ap extent encode_said
          ∙ extent_answer (fits_fields (fields_of n (length vs)) vs && in_tail (tail_of (tail_at n)) items) _ _
          (λ f. length_whole n (form_at n) _ (fields_of n (length vs)) (tail_of (tail_at n)) vs items l (sound_these n (length vs)) (both_left (fits_fields (fields_of n (length vs)) vs) (in_tail (tail_of (tail_at n)) items) f))
          (some_octets (6 + form_at n) _ (fields_of n (length vs)) vs (omega arith))

-- the size of a message as the caller gives it
module _ (n : ℕ) (vs ids octets : List ℕ) where
  module _ (form : ℕ) (e : form ≡ form_at n) where
    pub size_uncovered : 1 < form → refuse 7 ≡ extent (encode (given n vs ids octets))
    unfolding given
    size_uncovered l = sym (ap extent (encode_uncovered n vs (items_for (tail_at n) ids octets) (rw e at l)))

    module _ (l : form ≤ 1) (count : ℕ) (c : count ≡ count_at n) where
      pub size_few : length vs < count → refuse 8 ≡ extent (encode (given n vs ids octets))
      unfolding given
      size_few k = sym (ap extent (too_few n vs (items_for (tail_at n) ids octets) (rw e at l) (rw c at k)))

      pub size_many : count + form < length vs → refuse 8 ≡ extent (encode (given n vs ids octets))
      unfolding given
      size_many k = sym (ap extent (too_many n vs (items_for (tail_at n) ids octets) (rw e at l) (rw (c, e) at k)))

      module _ (least : count ≤ length vs) (most : length vs ≤ count + form) where
        pub size_four : length vs ≤ 4
        size_four = omega (arith, few_fields n vs ids (rw e at l))

        pub size_body : {w : Outcome ℕ} → w ≡ body_upto (6 + form) (fields_of n (length vs)) (tail_of (tail_at n)) vs (items_for (tail_at n) ids octets) → w ≡ extent (encode (given n vs ids octets))
        unfolding given
        size_body b = (rw e at b) ∙ sym (size_is n vs (items_for (tail_at n) ids octets) (rw e at l) (rw c at least) (rw (c, e) at most))
