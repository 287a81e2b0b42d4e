-- What is written is read back, and nothing else is read: of each field, of a message's fields, and of a message.
use mathlib.Core.Path.{◌≡◌, refl, sym, ap, ◌∙◌, subst}
use mathlib.Core.Bool.{Bool, true, false, cond, ◌&&◌}
use mathlib.Core.List.{List, [], ◌∷◌, ◌++◌, append-nil}
use Prim.Native.Nat.{ℕ, zero, suc, ◌^◌, ◌<◌, ◌≤◌}
use native.Mathlib.Nat.{le_trans}
use native.Mathlib.Omega.{arith}
use lib.ListN.{length, get_or, length-append, get_or-eq_default}
use lib.Dec.{leb, ltb, eqb}
use lib.Pow.{pow_pos}
use borrow.Author.Tests.{ltb-true, leb-true, leb-false, eqb-true, eqb-false, lt-ltb, le-ltb, le-leb}
use Rattle.codec_octets.specs.Octets.{Read, got, no, ◌>>=◌, give, need, an_octet, an_id, a_number, length_octets, fits_items, write_item, write_items, read_item, Tail, nothing, list, fits_tail, write_tail, read_tail, Bytes}
use Rattle.codec_octets.proofs.OctetLaws.{bytes_behind, refused, followed, needed, go_on, both, both_left, both_right, item_exact, sound_tail, tail_exact}
use Rattle.codec_table.specs.Messages.{Field, code, item, Row, plain, optional, uncovered, unknown, kind, presence, Way, down, table, entry, row, covers}
use Rattle.codec_table.specs.Limits.{message_limit}
use Rattle.codec_octets.specs.Bits.{put_bits, take_bits}
use Rattle.codec_table.specs.Codec.{left_after, fits_field, put_field, take_field, fits_fields, put_fields, take_fields, fits_body, put_body, take_body, Msg, chosen, bit, fits_row, put_row, take_row, octets_of_msg, read_msg, Outcome, ok, refuse, ending, sized, decode, within, in_tail, in_range, encode}
use Rattle.codec_octets.proofs.BitLaws.{bits_back, bits_bound, bits_only}

-- fields
unfoldable pub sound_field : Field → Bool
sound_field (code width most) = leb width 8 && ltb most (2 ^ width)
sound_field (item i) = true

field_back : (f : Field) (j v : ℕ) (r : ℕ × List ℕ) → fits_field f v ≡ true → r.0 < 2 ^ left_after f j
    → take_field f j (put_field f j v r).0 (put_field f j v r).1 ≡ got (v, r.0) r.1
unfolding take_field
field_back (code w m) j v r f h = go_on (λ t. need (leb t.0 m) 5 (give t)) (bits_back w j v r h) ∙ simp f
field_back (item i) j v r f h =
    let z : 0 ≡ r.0 = omega arith in
    go_on (λ u. give (u, 0)) ((item_exact i).back v f r.1) ∙ rw z

field_bound : (f : Field) (j v : ℕ) (r : ℕ × List ℕ) → sound_field f ≡ true → fits_field f v ≡ true → r.0 < 2 ^ left_after f j → (put_field f j v r).0 < 2 ^ j
unfolding sound_field
field_bound (code w m) j v r s f h =
    bits_bound w j v r (leb-true w 8 (both_left (leb w 8) (ltb m (2 ^ w)) s))
    (omega (arith, leb-true v m f, ltb-true m (2 ^ w) (both_right (leb w 8) (ltb m (2 ^ w)) s))) h
field_bound (item i) j v r s f h = pow_pos j

field_only : (f : Field) (j b : ℕ) (t : ℕ × ℕ) (xs os : List ℕ) → Bytes xs → take_field f j b xs ≡ got t os
    → (fits_field f t.0 ≡ true) × Bytes os × ◌≡◌ {A = ℕ × List ℕ} (b, xs) (put_field f j t.0 (t.1, os))
unfolding take_field
field_only (code w m) j b t xs os y e =
    followed (take_bits w j b xs) (λ t. need (leb t.0 m) 5 (give t)) e λ u rest read then.
    needed (leb u.0 m) 5 (give u) rest then λ most same.
    let p : u ≡ t = cc in
    let q : rest ≡ os = cc in
    let r = bits_only w j b u xs rest y read in
    rw (← p, ← q) (most, r.0, r.1)
field_only (item i) j b t xs os y e =
    needed (eqb b 0) 5 (read_item i >>= λ v. give (v, 0)) xs e λ zeros then.
    followed (read_item i xs) (λ v. give (v, 0)) then λ v rest read same.
    let p : ◌≡◌ {A = ℕ × ℕ} (v, 0) t = cc in
    let q : rest ≡ os = cc in
    let r = (item_exact i).only v xs rest y read in
    let z : b ≡ 0 = eqb-true b 0 zeros in
    rw (← p, ← q) (r.0, bytes_behind (write_item i v) rest (rw r.1 at y), rw z (ap {B = ℕ × List ℕ} (λ l. (0, l)) r.1))

-- a message's fields, with what follows them
unfoldable pub sound_fields : List Field → Bool
sound_fields [] = true
sound_fields (f ∷ fs) = sound_field f && sound_fields fs

pub fields_bound : (fs : List Field) (j : ℕ) (vs xs : List ℕ) → sound_fields fs ≡ true → fits_fields fs vs ≡ true → (put_fields fs j vs (0, xs)).0 < 2 ^ j
unfolding sound_fields
fields_bound [] j vs xs s h = pow_pos j
fields_bound (f ∷ fs) j [] xs s h = pow_pos j
fields_bound (f ∷ fs) j (v ∷ vs) xs s h =
    field_bound f j v (put_fields fs (left_after f j) vs (0, xs)) (both_left (sound_field f) (sound_fields fs) s) (both_left (fits_field f v) (fits_fields fs vs) h)
    (fields_bound fs (left_after f j) vs xs (both_right (sound_field f) (sound_fields fs) s) (both_right (fits_field f v) (fits_fields fs vs) h))

fields_back : (fs : List Field) (j : ℕ) (vs xs : List ℕ) → sound_fields fs ≡ true → fits_fields fs vs ≡ true
    → take_fields fs j (put_fields fs j vs (0, xs)).0 (put_fields fs j vs (0, xs)).1 ≡ got (vs, 0) xs
unfolding sound_fields
fields_back [] j [] xs s h = refl
fields_back [] j (v ∷ vs) xs s h = absurd (let z : ◌≡◌ {A = ℕ} 0 1 = cc in omega arith)
fields_back (f ∷ fs) j [] xs s h = absurd (let z : ◌≡◌ {A = ℕ} 0 1 = cc in omega arith)
fields_back (f ∷ fs) j (v ∷ vs) xs s h =
    let s1 : sound_fields fs ≡ true = both_right (sound_field f) (sound_fields fs) s in
    let h1 : fits_fields fs vs ≡ true = both_right (fits_field f v) (fits_fields fs vs) h in
    go_on (λ t. take_fields fs (left_after f j) t.1 >>= λ r. give (t.0 ∷ r.0, r.1))
    (field_back f j v (put_fields fs (left_after f j) vs (0, xs)) (both_left (fits_field f v) (fits_fields fs vs) h) (fields_bound fs (left_after f j) vs xs s1 h1))
    ∙ go_on (λ r. give (v ∷ r.0, r.1)) (fields_back fs (left_after f j) vs xs s1 h1)

fields_only : (fs : List Field) (j b : ℕ) (u : List ℕ × ℕ) (xs os : List ℕ) → Bytes xs → take_fields fs j b xs ≡ got u os
    → (fits_fields fs u.0 ≡ true) × Bytes os × ◌≡◌ {A = ℕ × List ℕ} (b, xs) (put_fields fs j u.0 (u.1, os))
fields_only [] j b u xs os y e =
    let p : ◌≡◌ {A = List ℕ × ℕ} ([], b) u = cc in
    let q : xs ≡ os = cc in
    rw (← p, ← q) (refl, y, refl)
fields_only (f ∷ fs) j b u xs os y e =
    followed (take_field f j b xs) (λ v. take_fields fs (left_after f j) v.1 >>= λ r. give (v.0 ∷ r.0, r.1)) e λ v rest read then.
    followed (take_fields fs (left_after f j) v.1 rest) (λ r. give (v.0 ∷ r.0, r.1)) then λ r end reads same.
    let p : ◌≡◌ {A = List ℕ × ℕ} (v.0 ∷ r.0, r.1) u = cc in
    let q : end ≡ os = cc in
    let a = field_only f j b v xs rest y read in
    let c = fields_only fs (left_after f j) v.1 r rest end a.1 reads in
    rw (← p, ← q) (both a.0 c.0, c.1, a.2 ∙ ap (λ l. put_field f j v.0 l) c.2)

-- with what follows them, to the end of the message
module _ (fs : List Field) (t : Tail) (j : ℕ) (s : sound_tail t ≡ true) where
  body_back : (vs items : List ℕ) → sound_fields fs ≡ true → fits_body fs t vs items ≡ true
      → take_body fs t j (put_body fs t j vs items).0 (put_body fs t j vs items).1 ≡ got (vs, items) []
  body_back vs items k h =
      go_on (λ r. need (eqb r.1 0) 5 (read_tail t >>= λ items. give (r.0, items)))
      (fields_back fs j vs (write_tail t items) k (both_left (fits_fields fs vs) (fits_tail t items) h))
      ∙ go_on (λ items. give (vs, items)) (rw append-nil at ((tail_exact t s).back items (both_right (fits_fields fs vs) (fits_tail t items) h) []))

  body_only : (b : ℕ) (r : List ℕ × List ℕ) (xs : List ℕ) → Bytes xs → take_body fs t j b xs ≡ got r []
      → (fits_body fs t r.0 r.1 ≡ true) × ◌≡◌ {A = ℕ × List ℕ} (b, xs) (put_body fs t j r.0 r.1)
  body_only b r xs y e =
      followed (take_fields fs j b xs) (λ r. need (eqb r.1 0) 5 (read_tail t >>= λ items. give (r.0, items))) e λ u rest read then.
      needed (eqb u.1 0) 5 (read_tail t >>= λ items. give (u.0, items)) rest then λ zeros then.
      followed (read_tail t rest) (λ items. give (u.0, items)) then λ items end reads same.
      let p : ◌≡◌ {A = List ℕ × List ℕ} (u.0, items) r = cc in
      let q : end ≡ [] = cc in
      let a = fields_only fs j b u xs rest y read in
      let c = (tail_exact t s).only items rest [] a.1 (rw q at reads) in
      let o : rest ≡ write_tail t items = c.1 ∙ append-nil (write_tail t items) in
      let z : u.1 ≡ 0 = eqb-true u.1 0 zeros in
      rw (← p) (both a.0 c.0, rw (z, o) at a.2)

pub fits_length : (fs : List Field) (vs : List ℕ) → fits_fields fs vs ≡ true → length vs ≡ length fs
fits_length [] [] h = refl
fits_length [] (v ∷ vs) h = absurd (let z : ◌≡◌ {A = ℕ} 0 1 = cc in omega arith)
fits_length (f ∷ fs) [] h = absurd (let z : ◌≡◌ {A = ℕ} 0 1 = cc in omega arith)
fits_length (f ∷ fs) (v ∷ vs) h = ap suc (fits_length fs vs (both_right (fits_field f v) (fits_fields fs vs) h))

-- an OPTIONAL last field
bit_of : (p : Bool) → eqb (bit p) 1 ≡ p
bit_of true = refl
bit_of false = refl

pub bit_fits : (p : Bool) → leb (bit p) 1 ≡ true
bit_fits true = refl
bit_fits false = refl

of_bit : (n : ℕ) → leb n 1 ≡ true → bit (eqb n 1) ≡ n
of_bit n h = go (eqb n 1) refl
  where
    go : (t : Bool) → eqb n 1 ≡ t → bit (eqb n 1) ≡ n
    go true e = rw e (sym (eqb-true n 1 e))
    go false e = rw e (omega (arith, leb-true n 1 h, eqb-false n 1 e))

present_is : (p : Bool) (fs : List Field) (f : Field) (vs : List ℕ) → length vs ≡ length (chosen p fs f) → ltb (length fs) (length vs) ≡ p
present_is true fs f vs h = lt-ltb (length fs) (length vs) (omega (arith, simp length-append at h))
present_is false fs f vs h = le-ltb (length fs) (length vs) (omega arith)

-- a row
unfoldable pub sound_row : Row → Bool
sound_row (plain fs t) = sound_fields fs && sound_tail t
sound_row (optional fs f) = sound_fields fs && sound_fields (fs ++ f ∷ [])
sound_row uncovered = true
sound_row unknown = true

chosen_sound : (p : Bool) (fs : List Field) (f : Field) → sound_row (optional fs f) ≡ true → sound_fields (chosen p fs f) ≡ true
unfolding sound_row
chosen_sound true fs f s = both_right (sound_fields fs) (sound_fields (fs ++ f ∷ [])) s
chosen_sound false fs f s = both_left (sound_fields fs) (sound_fields (fs ++ f ∷ [])) s

row_bound : (R : Row) (vs items : List ℕ) → sound_row R ≡ true → fits_row R vs items ≡ true → (put_row R vs items).0 < 2 ^ 2
unfolding sound_row sound_field
row_bound (plain fs t) vs items s h =
    fields_bound fs 2 vs (write_tail t items) (both_left (sound_fields fs) (sound_tail t) s) (both_left (fits_fields fs vs) (fits_tail t items) h)
row_bound (optional fs f) vs items s h =
    let p : Bool = ltb (length fs) (length vs) in
    field_bound presence 2 (bit p) (put_body (chosen p fs f) nothing 1 vs items) refl (bit_fits p)
    (fields_bound (chosen p fs f) 1 vs [] (chosen_sound p fs f s) (both_left (fits_fields (chosen p fs f) vs) (fits_tail nothing items) h))
row_bound uncovered vs items s h = pow_pos 2
row_bound unknown vs items s h = pow_pos 2

row_back : (R : Row) (vs items : List ℕ) → sound_row R ≡ true → fits_row R vs items ≡ true
    → take_row R (put_row R vs items).0 (put_row R vs items).1 ≡ got (vs, items) []
unfolding sound_row sound_tail
row_back (plain fs t) vs items s h =
    body_back fs t 2 (both_right (sound_fields fs) (sound_tail t) s) vs items (both_left (sound_fields fs) (sound_tail t) s) h
row_back (optional fs f) vs items s h =
    let p : Bool = ltb (length fs) (length vs) in
    let q : ℕ × List ℕ = put_body (chosen p fs f) nothing 1 vs items in
    go_on (λ t. take_body (chosen (eqb t.0 1) fs f) nothing 1 t.1)
    (field_back presence 2 (bit p) q (bit_fits p) (fields_bound (chosen p fs f) 1 vs [] (chosen_sound p fs f s) (both_left (fits_fields (chosen p fs f) vs) (fits_tail nothing items) h)))
    ∙ subst (λ k. take_body (chosen k fs f) nothing 1 q.0 q.1 ≡ got (vs, items) []) (sym (bit_of p))
    (body_back (chosen p fs f) nothing 1 refl vs items (chosen_sound p fs f s) h)
row_back uncovered vs items s h = absurd (let z : ◌≡◌ {A = ℕ} 0 1 = cc in omega arith)
row_back unknown vs items s h = absurd (let z : ◌≡◌ {A = ℕ} 0 1 = cc in omega arith)

row_only : (R : Row) (b : ℕ) (r : List ℕ × List ℕ) (xs : List ℕ) → sound_row R ≡ true → Bytes xs → take_row R b xs ≡ got r []
    → (fits_row R r.0 r.1 ≡ true) × ◌≡◌ {A = ℕ × List ℕ} (b, xs) (put_row R r.0 r.1)
unfolding sound_row sound_tail
row_only (plain fs t) b r xs s y e = body_only fs t 2 (both_right (sound_fields fs) (sound_tail t) s) b r xs y e
row_only (optional fs f) b r xs s y e =
    followed (take_field presence 2 b xs) (λ t. take_body (chosen (eqb t.0 1) fs f) nothing 1 t.1) e λ p rest read then.
    let a = field_only presence 2 b p xs rest y read in
    let q : Bool = eqb p.0 1 in
    let c = body_only (chosen q fs f) nothing 1 refl p.1 r rest a.1 then in
    let fits = both_left (fits_fields (chosen q fs f) r.0) (fits_tail nothing r.1) c.0 in
    let z : ltb (length fs) (length r.0) ≡ q = present_is q fs f r.0 (fits_length (chosen q fs f) r.0 fits) in
    rw (z, of_bit p.0 a.0) (c.0, a.2 ∙ ap (λ l. put_field presence 2 p.0 l) c.1)
row_only uncovered b r xs s y e = absurd (refused e)
row_only unknown b r xs s y e = absurd (refused e)

-- the table: what a test says of each row holds at every number
unfoldable pub all_rows : (Row → Bool) → List (Way × Row) → Bool
all_rows p [] = p unknown
all_rows p (e ∷ es) = p e.1 && all_rows p es

at_row : (p : Row → Bool) (es : List (Way × Row)) → all_rows p es ≡ true → (n : ℕ) → p (get_or es n (down, unknown)).1 ≡ true
unfolding all_rows
at_row p [] s n = s
at_row p (e ∷ es) s zero = both_left (p e.1) (all_rows p es) s
at_row p (e ∷ es) s (suc n) = at_row p es (both_right (p e.1) (all_rows p es) s) n

row_sound : (n : ℕ) → sound_row (row n) ≡ true
unfolding row entry all_rows sound_row sound_fields sound_field sound_tail
row_sound n = at_row sound_row table refl n

row_number : (n : ℕ) (vs items : List ℕ) → fits_row (row n) vs items ≡ true → leb n 63 ≡ true
unfolding row entry
row_number n vs items h = go (leb n 63) refl
  where
    go : (t : Bool) → leb n 63 ≡ t → leb n 63 ≡ true
    go true e = e
    go false e =
        let z : get_or table n (down, unknown) ≡ (down, unknown) = get_or-eq_default table (down, unknown) {n = n} (omega (arith, leb-false n 63 e)) in
        absurd (let f = rw z at h in let z : ◌≡◌ {A = ℕ} 0 1 = cc in omega arith)

-- a message
pub octets_read : (m : Msg) → within m ≡ true → decode (octets_of_msg m) ≡ ok m
unfolding decode octets_of_msg sound_field
octets_read m h =
    let n = m.number in
    let Q : ℕ × List ℕ = put_row (row n) m.values m.items in
    let fits : fits_row (row n) m.values m.items ≡ true = both_left (fits_row (row n) m.values m.items) (sized (octets_of_msg m)) h in
    let number : leb n 63 ≡ true = row_number n m.values m.items fits in
    let small : Q.0 < 2 ^ 2 = row_bound (row n) m.values m.items (row_sound n) fits in
    let zeros : (put_field kind 0 n Q).0 ≡ 0 = omega (arith, field_bound kind 0 n Q refl number small) in
    let read : read_msg (octets_of_msg m) ≡ got m [] =
    go_on (λ t. take_row (row t.0) t.1 >>= λ r. give (record { number = t.0; values = r.0; items = r.1 }))
    (subst (λ k. take_field kind 0 k (octets_of_msg m) ≡ got (n, Q.0) Q.1) zeros (field_back kind 0 n Q number small))
    ∙ go_on (λ r. give (record { number = n; values = r.0; items = r.1 })) (row_back (row n) m.values m.items (row_sound n) fits) in
    ap (λ t. cond t (ending (read_msg (octets_of_msg m))) (refuse 4)) (both_right (fits_row (row n) m.values m.items) (sized (octets_of_msg m)) h)
    ∙ ap ending read

pub wrong : {A : Type 0} {n : ℕ} {a : A} → refuse n ≡ ok a → ⊥
wrong e = let z : ◌≡◌ {A = ℕ} 0 1 = cc in omega arith

pub taken : {A G : Type 0} (t : Bool) (o : Outcome A) (n : ℕ) {a : A} → cond t o (refuse n) ≡ ok a → (t ≡ true → o ≡ ok a → G) → G
taken true o n e g = g refl e
taken false o n e g = absurd (wrong e)

pub ended : {A : Type 0} (r : Read A) {a : A} → ending r ≡ ok a → r ≡ got a []
ended (got a []) e = cc
ended (got a (o ∷ os)) e = absurd (wrong e)
ended (no n) e = absurd (wrong e)

pub octets_only : (os : List ℕ) (m : Msg) → Bytes os → decode os ≡ ok m → (within m ≡ true) × (os ≡ octets_of_msg m)
unfolding decode octets_of_msg
octets_only os m y e =
    taken (sized os) (ending (read_msg os)) 4 e λ size some.
    followed (take_field kind 0 0 os) (λ t. take_row (row t.0) t.1 >>= λ r. give (record { number = t.0; values = r.0; items = r.1 }))
    (ended (read_msg os) some) λ t rest number then.
    followed (take_row (row t.0) t.1 rest) (λ r. give (record { number = t.0; values = r.0; items = r.1 })) then λ r end fields same.
    let p : ◌≡◌ {A = Msg} (record { number = t.0; values = r.0; items = r.1 }) m = cc in
    let q : end ≡ [] = cc in
    let a = field_only kind 0 0 t os rest y number in
    let c = row_only (row t.0) t.1 r rest (row_sound t.0) a.1 (rw q at fields) in
    let all : os ≡ octets_of_msg (record { number = t.0; values = r.0; items = r.1 }) = ap (λ x. x.1) (a.2 ∙ ap (λ l. put_field kind 0 t.0 l) c.1) in
    rw (← p) (both c.0 (ap sized (sym all) ∙ size), all)

-- a string's limit is no less than a message's
unfoldable pub roomy_tail : Tail → Bool
roomy_tail nothing = true
roomy_tail (list an_octet limit) = leb message_limit limit
roomy_tail (list (an_id low) limit) = true
roomy_tail (list a_number limit) = true

unfoldable pub roomy_row : Row → Bool
roomy_row (plain fs t) = roomy_tail t
roomy_row (optional fs f) = true
roomy_row uncovered = true
roomy_row unknown = true

row_roomy : (n : ℕ) → roomy_row (row n) ≡ true
unfolding row entry all_rows roomy_row roomy_tail
row_roomy n = at_row roomy_row table refl n

string_length : (vs : List ℕ) → length (write_items an_octet vs) ≡ length vs
string_length [] = refl
string_length (v ∷ vs) = ap suc (string_length vs)

-- what is in range and no longer than a message fits; what fits is in range
pub tail_fits : (t : Tail) (items : List ℕ) → roomy_tail t ≡ true → in_tail t items ≡ true → length (write_tail t items) ≤ message_limit → fits_tail t items ≡ true
unfolding roomy_tail
tail_fits nothing items r h l = h
tail_fits (list (an_id low) limit) items r h l = h
tail_fits (list a_number limit) items r h l = h
tail_fits (list an_octet limit) items r h l =
    both (le-leb (length items) limit (omega (arith, leb-true message_limit limit r, string_length items, length-append (length_octets (length items)) (write_items an_octet items)))) h

pub tail_in : (t : Tail) (items : List ℕ) → fits_tail t items ≡ true → in_tail t items ≡ true
tail_in nothing items h = h
tail_in (list (an_id low) limit) items h = h
tail_in (list a_number limit) items h = h
tail_in (list an_octet limit) items h = both_right (leb (length items) limit) (fits_items an_octet items) h

field_grows : (f : Field) (j v : ℕ) (r : ℕ × List ℕ) → length r.1 ≤ length (put_field f j v r).1
field_grows (code w m) j v r = go (leb w j) refl
  where
    go : (t : Bool) → leb w j ≡ t → length r.1 ≤ length (put_bits w j v r).1
    go true e = simp e (omega arith)
    go false e = simp e (omega arith)
field_grows (item i) j v r = omega (arith, length-append (write_item i v) r.1)

fields_grow : (fs : List Field) (j : ℕ) (vs : List ℕ) (r : ℕ × List ℕ) → length r.1 ≤ length (put_fields fs j vs r).1
fields_grow [] j vs r = omega arith
fields_grow (f ∷ fs) j [] r = omega arith
fields_grow (f ∷ fs) j (v ∷ vs) r =
    le_trans (fields_grow fs (left_after f j) vs r) (field_grows f j v (put_fields fs (left_after f j) vs r))

row_fits : (R : Row) (vs items : List ℕ) → roomy_row R ≡ true → in_range R vs items ≡ true → length (put_row R vs items).1 ≤ message_limit → fits_row R vs items ≡ true
unfolding roomy_row
row_fits (plain fs t) vs items r h l =
    both (both_left (fits_fields fs vs) (in_tail t items) h)
    (tail_fits t items r (both_right (fits_fields fs vs) (in_tail t items) h) (le_trans (fields_grow fs 2 vs (0, write_tail t items)) l))
row_fits (optional fs f) vs items r h l = h
row_fits uncovered vs items r h l = h
row_fits unknown vs items r h l = h

row_in : (R : Row) (vs items : List ℕ) → fits_row R vs items ≡ true → (covers R ≡ true) × (in_range R vs items ≡ true)
row_in (plain fs t) vs items h = (refl, both (both_left (fits_fields fs vs) (fits_tail t items) h) (tail_in t items (both_right (fits_fields fs vs) (fits_tail t items) h)))
row_in (optional fs f) vs items h = (refl, h)
row_in uncovered vs items h = (h, h)
row_in unknown vs items h = (h, h)

-- what is written is within the limits, and what is within them is written
pub ok_within : (m : Msg) (os : List ℕ) → encode m ≡ ok os → (within m ≡ true) × (octets_of_msg m ≡ os)
unfolding encode octets_of_msg
ok_within m os e =
    taken (covers (row m.number)) _ 7 e λ known then.
    taken (in_range (row m.number) m.values m.items) _ 8 then λ range then.
    taken (sized (octets_of_msg m)) _ 4 then λ size same.
    let Q : ℕ × List ℕ = put_row (row m.number) m.values m.items in
    let few = leb-true (length (octets_of_msg m)) message_limit (both_right (ltb 0 (length (octets_of_msg m))) (leb (length (octets_of_msg m)) message_limit) size) in
    (both (row_fits (row m.number) m.values m.items (row_roomy m.number) range (le_trans (field_grows kind 0 m.number Q) few)) size, cc)

pub within_ok : (m : Msg) → within m ≡ true → encode m ≡ ok (octets_of_msg m)
unfolding encode
within_ok m h =
    let r = row_in (row m.number) m.values m.items (both_left (fits_row (row m.number) m.values m.items) (sized (octets_of_msg m)) h) in
    simp (r.0, r.1, both_right (fits_row (row m.number) m.values m.items) (sized (octets_of_msg m)) h)
