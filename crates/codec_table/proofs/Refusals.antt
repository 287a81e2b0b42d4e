-- What octets are refused with: only 4, 5, 7 or 8. And of what is read, the number is that of the first octet. Assumes nothing.
use mathlib.Core.Path.{◌≡◌, refl, sym, ap, ◌∙◌}
use mathlib.Core.Bool.{Bool, true, false, cond, ◌||◌}
use mathlib.Core.List.{List, [], ◌∷◌}
use Prim.Native.Nat.{ℕ, zero, suc, ◌+◌, ◌-◌, ◌*◌, ◌/◌, ◌%◌, ◌^◌, ◌<◌}
use native.Mathlib.Omega.{arith}
use lib.Dec.{leb, ltb, eqb}
use lib.ListN.{get_or}
use Rattle.codec_octets.specs.Octets.{Bytes, Read, got, no, Reader, follow, ◌>>=◌, give, need, octet, number_from, number, two_octets, read_length, size, fewest, counted, Item, an_octet, an_id, a_number, read_item, read_items, Tail, nothing, list, read_tail}
use Rattle.codec_octets.specs.Bits.{after, cut, take_bits}
use Rattle.codec_octets.proofs.OctetLaws.{followed, needed}
use Rattle.codec_table.specs.Messages.{Field, code, item, Row, plain, optional, uncovered, unknown, kind, presence, row}
use Rattle.codec_table.specs.Codec.{left_after, take_field, take_fields, take_body, chosen, take_row, Msg, read_msg, ok, refuse, ending, sized, decode}
use Rattle.codec_table.proofs.CodecLaws.{taken, ended}

-- the codec's refusals
unfoldable pub refusal : ℕ → Bool
refusal n = eqb n 4 || eqb n 5 || eqb n 7 || eqb n 8

-- a reading that refuses with one of these, or gives a value
abbrev Only : {A : Type 0} → Read A → Type 0
Only (got a os) = Unit {0}
Only (no n) = refusal n ≡ true

module _ {A B : Type 0} where
  only_follow : (r : Read A) (k : A → Reader B) → Only r → ((a : A) (os : List ℕ) → Only (k a os)) → Only (follow r k)
  only_follow (got a os) k h f = f a os
  only_follow (no n) k h f = h

module _ {A : Type 0} where
  only_need : (t : Bool) (n : ℕ) (r : Reader A) (os : List ℕ) → refusal n ≡ true → Only (r os) → Only (need t n r os)
  only_need true n r os e h = h
  only_need false n r os e h = e

  only_either : (t : Bool) (r s : Reader A) (os : List ℕ) → Only (r os) → Only (s os) → Only (cond t r s os)
  only_either true r s os h k = h
  only_either false r s os h k = k

five : refusal 5 ≡ true
unfolding refusal
five = refl

eight : refusal 8 ≡ true
unfolding refusal
eight = refl

only_octet : (os : List ℕ) → Only (octet os)
only_octet [] = five
only_octet (o ∷ os) = tt

only_number : (k v : ℕ) (os : List ℕ) → Only (number_from k v os)
only_number zero v os = tt
only_number (suc k) v os = only_follow (octet os) (λ o. number_from k (v * 256 + o)) (only_octet os) λ o rest. only_number k (v * 256 + o) rest

only_length : (os : List ℕ) → Only (read_length os)
unfolding read_length
only_length os =
    only_follow (octet os) (λ o. cond (ltb o 128) (give o) (need (ltb o 192) 8 (two_octets o))) (only_octet os) λ o rest.
    only_either (ltb o 128) (give o) (need (ltb o 192) 8 (two_octets o)) rest tt
    (only_need (ltb o 192) 8 (two_octets o) rest eight
    (only_follow (octet rest) (λ p. need (leb 128 ((o - 128) * 256 + p)) 5 (give ((o - 128) * 256 + p))) (only_octet rest) λ p end.
    only_need (leb 128 ((o - 128) * 256 + p)) 5 (give ((o - 128) * 256 + p)) end five tt))

only_fewest : (k : ℕ) (os : List ℕ) → Only (fewest k os)
unfolding fewest
only_fewest k os =
    only_follow (number k os) (λ v. need (eqb (size v) k) 5 (give v)) (only_number k 0 os) λ v rest. only_need (eqb (size v) k) 5 (give v) rest five tt

only_counted : (k : ℕ) (os : List ℕ) → Only (counted k os)
unfolding counted
only_counted k os = only_need (ltb 0 k) 5 (need (leb k 4) 8 (fewest k)) os five (only_need (leb k 4) 8 (fewest k) os eight (only_fewest k os))

only_item : (i : Item) (os : List ℕ) → Only (read_item i os)
unfolding read_item
only_item an_octet os = only_octet os
only_item (an_id low) os =
    only_follow (number 2 os) (λ v. need (leb (v + low) 65535) 5 (give (v + low))) (only_number 2 0 os) λ v rest.
    only_need (leb (v + low) 65535) 5 (give (v + low)) rest five tt
only_item a_number os = only_follow (read_length os) (λ k. counted k) (only_length os) λ k rest. only_counted k rest

only_items : (i : Item) (n : ℕ) (os : List ℕ) → Only (read_items i n os)
only_items i zero os = tt
only_items i (suc n) os =
    only_follow (read_item i os) (λ v. read_items i n >>= λ vs. give (v ∷ vs)) (only_item i os) λ v rest.
    only_follow (read_items i n rest) (λ vs. give (v ∷ vs)) (only_items i n rest) λ vs end. tt

only_tail : (t : Tail) (os : List ℕ) → Only (read_tail t os)
only_tail nothing os = tt
only_tail (list i limit) os =
    only_follow (read_length os) (λ n. need (leb n limit) 8 (read_items i n)) (only_length os) λ n rest.
    only_need (leb n limit) 8 (read_items i n) rest eight (only_items i n rest)

only_bits : (width left bits : ℕ) (os : List ℕ) → Only (take_bits width left bits os)
unfolding take_bits
only_bits width left bits os =
    only_either (leb width left) (cut (after width left) bits) (octet >>= λ o. cut (after width left) (bits * 256 + o)) os tt
    (only_follow (octet os) (λ o. cut (after width left) (bits * 256 + o)) (only_octet os) λ o rest. tt)

only_field : (f : Field) (left bits : ℕ) (os : List ℕ) → Only (take_field f left bits os)
unfolding take_field
only_field (code width most) left bits os =
    only_follow (take_bits width left bits os) (λ t. need (leb t.0 most) 5 (give t)) (only_bits width left bits os) λ t rest.
    only_need (leb t.0 most) 5 (give t) rest five tt
only_field (item i) left bits os =
    only_need (eqb bits 0) 5 (read_item i >>= λ v. give (v, 0)) os five
    (only_follow (read_item i os) (λ v. give (v, 0)) (only_item i os) λ v rest. tt)

only_fields : (fs : List Field) (left bits : ℕ) (os : List ℕ) → Only (take_fields fs left bits os)
only_fields [] left bits os = tt
only_fields (f ∷ fs) left bits os =
    only_follow (take_field f left bits os) (λ v. take_fields fs (left_after f left) v.1 >>= λ r. give (v.0 ∷ r.0, r.1)) (only_field f left bits os) λ v rest.
    only_follow (take_fields fs (left_after f left) v.1 rest) (λ r. give (v.0 ∷ r.0, r.1)) (only_fields fs (left_after f left) v.1 rest) λ r end. tt

only_body : (fs : List Field) (t : Tail) (left bits : ℕ) (os : List ℕ) → Only (take_body fs t left bits os)
only_body fs t left bits os =
    only_follow (take_fields fs left bits os) (λ r. need (eqb r.1 0) 5 (read_tail t >>= λ items. give (r.0, items))) (only_fields fs left bits os) λ r rest.
    only_need (eqb r.1 0) 5 (read_tail t >>= λ items. give (r.0, items)) rest five
    (only_follow (read_tail t rest) (λ items. give (r.0, items)) (only_tail t rest) λ items end. tt)

only_row : (R : Row) (bits : ℕ) (os : List ℕ) → Only (take_row R bits os)
unfolding refusal
only_row (plain fs t) bits os = only_body fs t 2 bits os
only_row (optional fs f) bits os =
    only_follow (take_field presence 2 bits os) (λ p. take_body (chosen (eqb p.0 1) fs f) nothing 1 p.1) (only_field presence 2 bits os) λ p rest.
    only_body (chosen (eqb p.0 1) fs f) nothing 1 p.1 rest
only_row uncovered bits os = refl
only_row unknown bits os = refl

only_msg : (os : List ℕ) → Only (read_msg os)
only_msg os =
    only_follow (take_field kind 0 0 os) (λ n. take_row (row n.0) n.1 >>= λ r. give (record { number = n.0; values = r.0; items = r.1 }))
    (only_field kind 0 0 os) λ n rest.
    only_follow (take_row (row n.0) n.1 rest) (λ r. give (record { number = n.0; values = r.0; items = r.1 })) (only_row (row n.0) n.1 rest) λ r end. tt

only_ending : {A : Type 0} (r : Read A) (n : ℕ) → Only r → ending r ≡ refuse n → refusal n ≡ true
only_ending (got a []) n h e = absurd (let z : ◌≡◌ {A = ℕ} 0 1 = cc in omega arith)
only_ending (got a (o ∷ os)) n h e = let z : 5 ≡ n = cc in rw (← z) five
only_ending (no k) n h e = let z : k ≡ n = cc in rw (← z) h

pub refusals : (os : List ℕ) (n : ℕ) → decode os ≡ refuse n → refusal n ≡ true
unfolding decode refusal
refusals os n e = go (sized os) e
  where
    go : (t : Bool) → cond t (ending (read_msg os)) (refuse 4) ≡ refuse n → refusal n ≡ true
    go true e = only_ending (read_msg os) n (only_msg os) e
    go false e = let z : 4 ≡ n = cc in rw (← z) refl

-- the first 6 bits are the number
pub number_read : (o : ℕ) (os : List ℕ) (m : Msg) → decode (o ∷ os) ≡ ok m → m.number ≡ o / 4
unfolding decode take_field take_bits
number_read o os m e =
    taken (sized (o ∷ os)) (ending (read_msg (o ∷ os))) 4 e λ size some.
    followed (take_field kind 0 0 (o ∷ os)) (λ t. take_row (row t.0) t.1 >>= λ r. give (record { number = t.0; values = r.0; items = r.1 }))
    (ended (read_msg (o ∷ os)) some) λ t rest number then.
    followed (take_row (row t.0) t.1 rest) (λ r. give (record { number = t.0; values = r.0; items = r.1 })) then λ r end fields same.
    needed (leb ((0 * 256 + o) / 2 ^ 2) 63) 5 (give ((0 * 256 + o) / 2 ^ 2, (0 * 256 + o) % 2 ^ 2)) os number λ most taken.
    let p : ◌≡◌ {A = Msg} (record { number = t.0; values = r.0; items = r.1 }) m = cc in
    let q : ◌≡◌ {A = ℕ × ℕ} ((0 * 256 + o) / 2 ^ 2, (0 * 256 + o) % 2 ^ 2) t = cc in
    ap (λ (x : Msg). x.number) (sym p) ∙ ap (λ (x : ℕ × ℕ). x.0) (sym q) ∙ omega arith

-- a list of octets, by its places
pub bytes_at : (os : List ℕ) → ((i : ℕ) → get_or os i 0 < 256) → Bytes os
bytes_at [] h = tt
bytes_at (o ∷ os) h = (h 0, bytes_at os (λ i. h (suc i)))
