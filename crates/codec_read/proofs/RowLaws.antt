-- A message by its number: what `decode_row` and `decode` answer. Assumes nothing.
use mathlib.Core.Path.{◌≡◌, refl, sym, ap, ◌∙◌, subst}
use mathlib.Core.Bool.{Bool, true, false, cond, false≢true}
use mathlib.Core.List.{List, [], ◌∷◌}
use Prim.Native.Nat.{ℕ, suc, ◌+◌, ◌*◌, ◌<◌, ◌≤◌}
use native.Mathlib.Nat.{add-zero, mod-one}
use native.Mathlib.Omega.{arith}
use lib.ListN.{length, get_or}
use lib.Dec.{leb, ltb, eqb}
use borrow.Author.Tests.{eq-eqb, ne_eqb, eqb-true, eqb-false, lt-ltb, le-leb, lt-leb, leb-true}
use Rattle.codec_table.specs.Limits.{message_limit}
use Rattle.codec_octets.specs.Octets.{Bytes, Read, follow, give, need, nothing}
use Rattle.codec_octets.specs.Bits.{take_bits}
use Rattle.codec_octets.proofs.OctetLaws.{both_right, followed, needed}
use Rattle.codec_table.specs.Messages.{code, kind, Row, plain, optional, uncovered, unknown, row}
use Rattle.codec_table.specs.Codec.{take_field, take_body, take_row, fits_fields, fits_row, chosen, Msg, Outcome, ok, refuse, ending, decode}
use Rattle.codec_octets.specs.Places.{left_at, bits_at, behind, at_bit}
use Rattle.codec_read.specs.Reading.{TakesField, message, body_at, row_at, GoesOn}
use Rattle.codec_table.specs.Columns.{form_at, count_at, tail_at, fields_of, tail_of, last_field, row_from}
use Rattle.std.specs.Prelude.{Result, Ok, Err}
use Rattle.codec_octets.specs.declared.Got.{Got}
use Rattle.codec_octets.specs.declared.refusal.Refusal.{Refusal}
use Rattle.codec_octets.specs.declared.refusal.Refusal.TheVariants.{BadEncoding, NotServed}
use Rattle.codec_octets.specs.Refusals.{refusal_number}
use Rattle.codec_table.proofs.NamedLaws.{read_fits}
use Rattle.codec_table.proofs.ColumnLaws.{row_from_lem, one_more, no_tail, count_few, count_one_more}

of_presence : ℕ → Read (ℕ × ℕ) → Outcome Msg
of_presence n x = ending (follow (follow x (λ p. take_body (chosen (eqb p.0 1) (fields_of n (count_at n)) (last_field n)) nothing 1 p.1)) (message n))

module _ (s : List ℕ) (at n : ℕ) where
  by_row : (R : Row) → row n ≡ R → row_at s at n ≡ ending (follow (take_row R (bits_at s at) (behind s at)) (message n))
  unfolding row_at
  by_row R e = ap (λ r. ending (follow (take_row r (bits_at s at) (behind s at)) (message n))) e

  row_unknown : 2 < form_at n → row_at s at n ≡ refuse 5
  unfolding row_from
  row_unknown u = by_row unknown (row_from_lem n ∙ simp (ne_eqb (form_at n) 0 (λ e. omega arith), ne_eqb (form_at n) 1 (λ e. omega arith), ne_eqb (form_at n) 2 (λ e. omega arith)))

  row_uncovered : form_at n ≡ 2 → row_at s at n ≡ refuse 7
  unfolding row_from
  row_uncovered u = by_row uncovered (row_from_lem n ∙ simp u)

  row_plain : form_at n ≡ 0 → left_at at ≡ 2 → row_at s at n ≡ body_at s at (count_at n) n
  unfolding row_from body_at
  row_plain z l = by_row (plain (fields_of n (count_at n)) (tail_of (tail_at n))) (row_from_lem n ∙ rw (eq-eqb (form_at n) 0 z)) ∙ rw l

  module _ (z : form_at n ≡ 1) (l : left_at at ≡ 2) (g : Result Got Refusal) (t : TakesField s at (code 1 1) g) where
    optional_row : row_at s at n ≡ of_presence n (at_bit s g)
    unfolding row_from of_presence
    optional_row =
        by_row (optional (fields_of n (count_at n)) (last_field n)) (row_from_lem n ∙ simp (ne_eqb (form_at n) 0 (λ e. omega arith), eq-eqb (form_at n) 1 z))
        ∙ ap (λ x. of_presence n x) (subst (λ k. take_field (code 1 1) k (bits_at s at) (behind s at) ≡ at_bit s g) l (sym t.same))

  module _ (z : form_at n ≡ 1) (l : left_at at ≡ 2) where
    row_no : (r : Refusal) → TakesField s at (code 1 1) (Err r) → row_at s at n ≡ refuse (refusal_number r)
    unfolding of_presence
    row_no r t = optional_row z l (Err r) t

    module _ (g : Got) (t : TakesField s at (code 1 1) (Ok g)) where
      left_one : left_at g.next ≡ 1
      left_one = rw l at t.leaves

      row_present : g.value ≡ 1 → row_at s at n ≡ body_at s g.next (count_at n + 1) n
      unfolding body_at of_presence
      row_present k = optional_row z l (Ok g) t ∙ rw (eq-eqb g.value 1 k, one_more n z, no_tail n z, left_one)

      row_absent : (g.value ≡ 1 → ⊥) → row_at s at n ≡ body_at s g.next (count_at n) n
      unfolding body_at of_presence
      row_absent k = optional_row z l (Ok g) t ∙ rw (ne_eqb g.value 1 k, no_tail n z, left_one)

  -- what `presence` answers
  pub on_unknown : 2 < form_at n → GoesOn s at n (Err BadEncoding)
  on_unknown u = record { same = sym (row_unknown u); inside = tt; few = tt }

  pub on_uncovered : form_at n ≡ 2 → GoesOn s at n (Err NotServed)
  on_uncovered u = record { same = sym (row_uncovered u); inside = tt; few = tt }

  pub on_plain : form_at n ≡ 0 → left_at at ≡ 2 → at ≤ length s * 8 → GoesOn s at n (Ok (record { value = 0; next = at }))
  on_plain z l h = record { same = rw add-zero (sym (row_plain z l)); inside = h; few = omega (arith, count_few n) }

  one_bit : (g : Got) → TakesField s at (code 1 1) (Ok g) → g.value ≤ 1
  unfolding take_field
  one_bit g t =
      followed (take_bits 1 (left_at at) (bits_at s at) (behind s at)) (λ u. need (leb u.0 1) 5 (give u)) (sym t.same) λ u rest read then.
      needed (leb u.0 1) 5 (give u) rest then λ most same.
      let p : u ≡ (g.value, bits_at s g.next) = cc in
      let z : u.0 ≡ g.value = ap (λ (q : ℕ × ℕ). q.0) p in
      omega (arith, leb-true u.0 1 most)

  pub on_optional : form_at n ≡ 1 → left_at at ≡ 2 → (g : Result Got Refusal) → TakesField s at (code 1 1) g → GoesOn s at n g
  on_optional z l (Err r) t = record { same = sym (row_no z l r t); inside = tt; few = tt }
  on_optional z l (Ok g) t =
      let b : g.value ≤ 1 = one_bit g t in
      record { same = sym (go (eqb g.value 1) refl); inside = t.inside; few = omega (arith, count_one_more n z) }
    where
      go : (k : Bool) → eqb g.value 1 ≡ k → row_at s at n ≡ body_at s g.next (count_at n + g.value) n
      go true e = let o : g.value ≡ 1 = eqb-true g.value 1 e in row_present z l g t o ∙ rw o
      go false e =
          let b : g.value ≤ 1 = one_bit g t in
          let no : g.value ≡ 1 → ⊥ = eqb-false g.value 1 e in
          let o : g.value ≡ 0 = omega (arith, no) in
          row_absent z l g t no ∙ rw (o, add-zero)

  pub on_no : (r : Refusal) → GoesOn s at n (Err r) → row_at s at n ≡ refuse (refusal_number r)
  on_no r o = sym o.same

-- a message that nothing follows has no items
items_none : (items : List ℕ) → eqb (length items) 0 ≡ true → items ≡ []
items_none [] e = refl
items_none (v ∷ vs) e = absurd (let z : suc (length vs) ≡ 0 = eqb-true (suc (length vs)) 0 e in omega arith)

none_fit : (n : ℕ) (vs items : List ℕ) → tail_at n ≡ 0 → fits_row (row_from n) vs items ≡ true → items ≡ []
unfolding row_from tail_of
none_fit n vs items z fits = go (eqb (form_at n) 0) (eqb (form_at n) 1) (eqb (form_at n) 2) (rw z at fits)
  where
    go : (a b c : Bool) → fits_row (cond a (plain (fields_of n (count_at n)) nothing) (cond b (optional (fields_of n (count_at n)) (last_field n)) (cond c uncovered unknown))) vs items ≡ true → items ≡ []
    go true b c e = items_none items (both_right (fits_fields (fields_of n (count_at n)) vs) (eqb (length items) 0) e)
    go false true c e = items_none items (both_right (fits_fields (chosen (ltb (length (fields_of n (count_at n))) (length vs)) (fields_of n (count_at n)) (last_field n)) vs) (eqb (length items) 0) e)
    go false false true e = absurd (false≢true e)
    go false false false e = absurd (false≢true e)

pub none_read : (s : List ℕ) → Bytes s → (m : Msg) → decode s ≡ ok m → tail_at m.number ≡ 0 → m.items ≡ []
none_read s y m e z = none_fit m.number m.values m.items z (rw row_from_lem at (read_fits s y m e))

-- a whole message
of_number : Read (ℕ × ℕ) → Outcome Msg
of_number x = ending (follow x (λ n os. follow (take_row (row n.0) n.1 os) (message n.0)))

module _ (s : List ℕ) where
  pub decode_none : length s ≡ 0 → decode s ≡ refuse 4
  unfolding decode
  decode_none h = rw h

  pub decode_over : message_limit < length s → decode s ≡ refuse 4
  unfolding decode
  decode_over h = simp (lt-ltb 0 (length s) (omega arith), lt-leb (length s) message_limit h)

  module _ (some : length s ≡ 0 → ⊥) (most : length s ≤ message_limit) where
    by_number : (g : Result Got Refusal) → TakesField s 0 kind g → decode s ≡ of_number (at_bit s g)
    unfolding decode of_number left_at bits_at behind
    by_number g t =
        let first : take_field kind 0 0 s ≡ at_bit s g = subst (λ k. take_field kind 0 k s ≡ at_bit s g) (mod-one (get_or s 0 0)) (sym t.same) in
        simp (lt-ltb 0 (length s) (omega arith), le-leb (length s) message_limit most) (ap of_number first)

    pub decode_no : (r : Refusal) → TakesField s 0 kind (Err r) → decode s ≡ refuse (refusal_number r)
    unfolding of_number
    decode_no r t = by_number (Err r) t

    module _ (g : Got) (t : TakesField s 0 kind (Ok g)) where
      pub number_left : left_at g.next ≡ 2
      unfolding left_at
      number_left = t.leaves

      pub decode_is : decode s ≡ row_at s g.next g.value
      unfolding of_number row_at
      decode_is = by_number (Ok g) t
