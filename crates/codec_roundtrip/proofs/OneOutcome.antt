-- Two outcomes that a promise of the codec allows are equal. Assumes nothing.
use mathlib.Core.Path.{◌≡◌, refl, sym, ap, ◌∙◌}
use mathlib.Core.Bool.{cond}
use mathlib.Core.List.{List}
use Prim.Native.Nat.{ℕ, ◌+◌, ◌*◌, ◌/◌, ◌≤◌}
use native.Mathlib.Omega.{arith}
use lib.ListN.{length, drop, length-drop}
use lib.Dec.{eqb}
use Rattle.std.specs.Prelude.{Result, Ok, Err}
use Rattle.codec_octets.specs.Octets.{Read}
use Rattle.codec_octets.specs.Places.{left_at, bits_at, behind, at_octet, at_bit, EndsAt, Leaves, Octetwise, Bitwise}
use Rattle.codec_octets.specs.declared.Got.{Got}
use Rattle.codec_octets.proofs.OctetLaws.{refused}
use Rattle.codec_table.specs.Messages.{Field}
use Rattle.codec_table.specs.Codec.{Msg, Outcome, decode}
use Rattle.codec_read.specs.Held.{decoded}
use Rattle.codec_read.specs.Fields.{FieldAt}
use Rattle.codec_cursor.specs.Steps.{reached, Steps}
use Rattle.codec_read.specs.declared.Decoded.{Decoded}
use Rattle.codec_write.specs.Writing.{Encodes}
use Rattle.codec_octets.specs.Refusals.{refusal_number}
use Rattle.codec_octets.specs.declared.refusal.Refusal.{Refusal}
use Rattle.codec_octets.specs.declared.refusal.Refusal.TheVariants.{WrongLength, BadEncoding, NotServed, TooLong, NoRoom}
use Rattle.codec_table.specs.Answers.{outcome_of}
use Rattle.codec_roundtrip.specs.RoundTrip.{ReadBack}

-- a place is known by what is behind it
same_octet : (s : List ℕ) (i j : ℕ) → drop i s ≡ drop j s → i ≤ length s → j ≤ length s → i ≡ j
same_octet s i j e a b = omega (arith, ap length e, length-drop i s, length-drop j s)

same_got : (g h : Got) → g.value ≡ h.value → g.next ≡ h.next → ◌≡◌ {A = Result Got Refusal} (Ok g) (Ok h)
same_got g h e f = ap (λ v. Ok (record { value = v; next = g.next })) e ∙ ap (λ i. Ok (record { value = h.value; next = i })) f

same_bit : (s : List ℕ) (i j : ℕ) → behind s i ≡ behind s j → i ≤ length s * 8 → j ≤ length s * 8 → left_at i ≡ left_at j → i ≡ j
unfolding behind left_at
same_bit s i j e a b l = let o : (i + 7) / 8 ≡ (j + 7) / 8 = same_octet s ((i + 7) / 8) ((j + 7) / 8) e (omega arith) (omega arith) in omega arith

-- a refusal is known by its number, and an answer by its outcome
refusal_of : ℕ → Refusal
refusal_of n = cond (eqb n 4) WrongLength (cond (eqb n 5) BadEncoding (cond (eqb n 7) NotServed (cond (eqb n 8) TooLong NoRoom)))

known_again : (r : Refusal) → refusal_of (refusal_number r) ≡ r
unfolding refusal_of
known_again WrongLength = refl
known_again BadEncoding = refl
known_again NotServed = refl
known_again TooLong = refl
known_again NoRoom = refl

pub same_refusal : (r r' : Refusal) → refusal_number r ≡ refusal_number r' → r ≡ r'
same_refusal r r' e = sym (known_again r) ∙ ap refusal_of e ∙ known_again r'

same_outcome : {T : Type 0} (r r' : Result T Refusal) → outcome_of r ≡ outcome_of r' → r ≡ r'
same_outcome (Ok n) (Ok k) e = cc
same_outcome (Ok n) (Err k) e = cc
same_outcome (Err n) (Ok k) e = cc
same_outcome (Err n) (Err k) e = let z : refusal_number n ≡ refusal_number k = cc in rw (same_refusal n k z)

at_octet_lem : (s : List ℕ) (r r' : Result Got Refusal) → at_octet s r ≡ at_octet s r' → EndsAt (length s) r → EndsAt (length s) r' → r ≡ r'
at_octet_lem s (Err n) (Err k) e a b = let z : refusal_number n ≡ refusal_number k = cc in rw (same_refusal n k z)
at_octet_lem s (Err n) (Ok g) e a b = absurd (refused e)
at_octet_lem s (Ok g) (Err n) e a b = absurd (refused (sym e))
at_octet_lem s (Ok g) (Ok h) e a b =
    let y : g.value ≡ h.value = cc in
    let z : drop g.next s ≡ drop h.next s = cc in
    same_got g h y (same_octet s g.next h.next z a b)

at_bit_lem : (s : List ℕ) (left : ℕ) (r r' : Result Got Refusal) → at_bit s r ≡ at_bit s r' → Leaves left r → Leaves left r' → EndsAt (length s * 8) r → EndsAt (length s * 8) r' → r ≡ r'
at_bit_lem s left (Err n) (Err k) e c d a b = let z : refusal_number n ≡ refusal_number k = cc in rw (same_refusal n k z)
at_bit_lem s left (Err n) (Ok g) e c d a b = absurd (refused e)
at_bit_lem s left (Ok g) (Err n) e c d a b = absurd (refused (sym e))
at_bit_lem s left (Ok g) (Ok h) e c d a b =
    let x : ◌≡◌ {A = ℕ × ℕ} (g.value, bits_at s g.next) (h.value, bits_at s h.next) = cc in
    let y : g.value ≡ h.value = ap (λ (p : ℕ × ℕ). p.0) x in
    let z : behind s g.next ≡ behind s h.next = cc in
    same_got g h y (same_bit s g.next h.next z a b (c ∙ sym d))

-- of `read_length`, `read_id` and `read_number`, and of a field at a bit
pub octet_outcome : (s : List ℕ) (r r' : Result Got Refusal) (spec : Read ℕ) → Octetwise s r spec → Octetwise s r' spec → r ≡ r'
octet_outcome s r r' spec a b = at_octet_lem s r r' (a.same ∙ sym b.same) a.inside b.inside

pub bit_outcome : (s : List ℕ) (left : ℕ) (r r' : Result Got Refusal) (spec : Read (ℕ × ℕ)) → Bitwise s left r spec → Bitwise s left r' spec → r ≡ r'
bit_outcome s left r r' spec a b = at_bit_lem s left r r' (a.same ∙ sym b.same) a.leaves b.leaves a.inside b.inside

-- of `decode`
pub decode_outcome : (s : List ℕ) (r r' : Result Decoded Refusal) → outcome_of r ≡ decoded s (decode s) → outcome_of r' ≡ decoded s (decode s) → r ≡ r'
decode_outcome s r r' a b = same_outcome r r' (a ∙ sym b)

-- of `field` and `field_of`, and of `advance`
pub field_outcome : (s : List ℕ) (at : ℕ) (f : Field) (g g' : Result Got Refusal) → FieldAt s at f g → FieldAt s at f g' → g ≡ g'
field_outcome s at f g g' a b = bit_outcome s _ g g' _ a b

pub step_outcome : (s : List ℕ) (at : ℕ) (f : Field) (r r' : Result Got Refusal) (b b' : ℕ) → Steps s at f r b → Steps s at f r' b' → (r ≡ r') × (b ≡ b')
step_outcome s at f r r' b b' x y =
    let e : r ≡ r' = field_outcome s at f r r' x.reads y.reads in
    (e, x.ends ∙ ap (λ g. reached g at) e ∙ sym y.ends)

-- of `encode`: the answer and the room behind it
pub encode_outcome : (m : Msg) (s : List ℕ) (r r' : Result ℕ Refusal) (t t' : List ℕ) → Encodes m s r t → Encodes m s r' t' → ◌≡◌ {A = Result ℕ Refusal × List ℕ} (r, t) (r', t')
encode_outcome m s r r' t t' a b =
    let e : ◌≡◌ {A = Outcome ℕ × List ℕ} (outcome_of r, t) (outcome_of r', t') = a ∙ sym b in
    let f : outcome_of r ≡ outcome_of r' = ap (λ (p : Outcome ℕ × List ℕ). p.0) e in
    let g : t ≡ t' = ap (λ (p : Outcome ℕ × List ℕ). p.1) e in
    rw (same_outcome r r' f, g)

-- of `encode_decode`
pub back_outcome : (m : Msg) (s : List ℕ) (r r' : Result Decoded Refusal) (t t' : List ℕ) → ReadBack m s r t → ReadBack m s r' t' → (r ≡ r') × (t ≡ t')
back_outcome m s r r' t t' a b = (same_outcome r r' (a.same ∙ sym b.same), a.room ∙ sym b.room)
