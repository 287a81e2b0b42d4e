-- What follows the fields, measured: `tail_size`, by the same loop for every kind of list. Assumes nothing.
use mathlib.Core.Path.{◌≡◌, refl, sym, ap, ◌∙◌}
use mathlib.Core.Bool.{Bool, true, false, cond, ◌&&◌, not}
use mathlib.Core.List.{List, [], ◌∷◌}
use Prim.Native.Nat.{ℕ, suc, ◌+◌, ◌*◌, ◌<◌, ◌≤◌}
use native.Mathlib.Nat.{zero-mul, mul-le-mul_left}
use native.Mathlib.Omega.{arith}
use lib.ListN.{length, get_or, drop, drop_of_length-le, length-append}
use lib.Seq.{drop-cons}
use lib.Dec.{leb, eqb}
use borrow.Author.Tests.{eq-eqb, ne_eqb, lt-ltb, le-leb, lt-leb, leb-true, leb-false}
use Rattle.codec_octets.specs.Octets.{Item, an_octet, an_id, a_number, length_octets, fits_item, write_item, fits_items, write_items, Tail, nothing, list, fits_tail, write_tail}
use Rattle.codec_octets.proofs.OctetLaws.{both}
use Rattle.codec_table.specs.Limits.{message_limit}
use Rattle.codec_table.specs.Columns.{tail_of}
use Rattle.codec_table.specs.Codec.{ok, refuse, in_tail}
use Rattle.codec_table.proofs.CodecLaws.{roomy_tail, tail_fits, tail_in}
use Rattle.codec_size.specs.Sizes.{tail_upto, item_of, limit_of, width_of}

pub tail_none : (k : ℕ) → k ≡ 0 → tail_of k ≡ nothing
unfolding tail_of
tail_none k e = rw (eq-eqb k 0 e)

pub tail_list : (k : ℕ) → (k ≡ 0 → ⊥) → tail_of k ≡ list (item_of k) (limit_of k)
unfolding tail_of item_of limit_of
tail_list k n = go (eqb k 3) (eqb k 1) refl refl
  where
    go : (a b : Bool) → eqb k 3 ≡ a → eqb k 1 ≡ b → tail_of k ≡ list (item_of k) (limit_of k)
    go true b p q = simp (ne_eqb k 0 n, p)
    go false true p q = simp (ne_eqb k 0 n, p, q)
    go false false p q = simp (ne_eqb k 0 n, p, q)

pub item_width : (k v : ℕ) → length (write_item (item_of k) v) ≡ width_of k
unfolding item_of width_of
item_width k v = go (eqb k 3) (eqb k 1) refl refl
  where
    go : (a b : Bool) → eqb k 3 ≡ a → eqb k 1 ≡ b → length (write_item (item_of k) v) ≡ width_of k
    go true b p q = simp p
    go false true p q = simp (p, q)
    go false false p q = simp (p, q)

items_width : (k : ℕ) (vs : List ℕ) → length (write_items (item_of k) vs) ≡ length vs * width_of k
items_width k [] = sym (zero-mul (width_of k))
items_width k (v ∷ vs) =
    length-append (write_item (item_of k) v) (write_items (item_of k) vs) ∙ rw (item_width k v, items_width k vs) (omega (arith, suc_times (length vs) (width_of k)))
  where
    suc_times : (a b : ℕ) → suc a * b ≡ b + a * b
    suc_times a b = omega arith

is_false : (t : Bool) → not t ≡ true → t ≡ false
is_false false e = refl
is_false true e = cc

no_both : (a : Bool) → a && false ≡ false
no_both true = refl
no_both false = refl

-- a string's limit is no less than a message's: what is in range beyond its limit is longer than a message
roomy_of : (k : ℕ) → roomy_tail (tail_of k) ≡ true
unfolding tail_of roomy_tail
roomy_of k = go (eqb k 0) (eqb k 3) (eqb k 1) refl refl refl
  where
    go : (a b c : Bool) → eqb k 0 ≡ a → eqb k 3 ≡ b → eqb k 1 ≡ c → roomy_tail (tail_of k) ≡ true
    go true b c p q r = simp p
    go false true c p q r = simp (p, q)
    go false false true p q r = simp (p, q, r)
    go false false false p q r = simp (p, q, r)

pub short_fits : (k : ℕ) (items : List ℕ) → in_tail (tail_of k) items ≡ true → length (write_tail (tail_of k) items) ≤ message_limit → fits_tail (tail_of k) items ≡ true
short_fits k items h l = tail_fits (tail_of k) items (roomy_of k) h l

pub long_string : (k : ℕ) (items : List ℕ) → in_tail (tail_of k) items ≡ true → fits_tail (tail_of k) items ≡ false → message_limit < length (write_tail (tail_of k) items)
long_string k items h f = go (leb (length (write_tail (tail_of k) items)) message_limit) refl
  where
    go : (t : Bool) → leb (length (write_tail (tail_of k) items)) message_limit ≡ t → message_limit < length (write_tail (tail_of k) items)
    go true e =
        let z : true ≡ false = sym (short_fits k items h (leb-true (length (write_tail (tail_of k) items)) message_limit e)) ∙ f in
        cc
    go false e = leb-false (length (write_tail (tail_of k) items)) message_limit e

upto_fits : (t : Tail) (items : List ℕ) → fits_tail t items ≡ true → ok (length (write_tail t items)) ≡ tail_upto t items
unfolding tail_upto
upto_fits t items h = simp (tail_in t items h, h)

item_bad : (i : Item) (limit : ℕ) (items : List ℕ) → fits_items i items ≡ false → refuse 8 ≡ tail_upto (list i limit) items
unfolding tail_upto
item_bad an_octet limit items h = simp h
item_bad (an_id low) limit items h = simp (h, no_both (leb (length items) limit))
item_bad a_number limit items h = simp (h, no_both (leb (length items) limit))

octets_fit : (items : List ℕ) → ((i : ℕ) → get_or items i 0 < 256) → fits_items an_octet items ≡ true
octets_fit [] g = refl
octets_fit (v ∷ vs) g = both (lt-ltb v 256 (g 0)) (octets_fit vs (λ i. g (suc i)))

module _ (k : ℕ) (items : List ℕ) where
  pub size_none : (n : ℕ) → n ≡ length items → k ≡ 0 → n ≡ 0 → (ok 0 ≡ tail_upto (tail_of k) items) × (0 ≤ 40000)
  unfolding tail_upto
  size_none n e z h = (rw (tail_none k z, eq-eqb (length items) 0 (sym e ∙ h)), omega arith)

  pub size_some : (n : ℕ) → n ≡ length items → k ≡ 0 → (n ≡ 0 → ⊥) → (refuse 8 ≡ tail_upto (tail_of k) items) × Unit {0}
  unfolding tail_upto
  size_some n e z h = (rw (tail_none k z, ne_eqb (length items) 0 (rw e at h)), tt)

  module _ (nz : k ≡ 0 → ⊥) (n limit : ℕ) (e : n ≡ length items) (f : limit ≡ limit_of k) (h : limit < n) where
    over : leb (length items) (limit_of k) ≡ false
    over = lt-leb (length items) (limit_of k) (omega arith)

    pub size_over : (k ≡ 3 → ⊥) → (refuse 8 ≡ tail_upto (tail_of k) items) × Unit {0}
    unfolding tail_upto item_of
    size_over z = (rw (tail_list k nz, ne_eqb k 3 z) (go (eqb k 1) refl), tt)
      where
        go : (t : Bool) → eqb k 1 ≡ t → refuse 8 ≡ tail_upto (list (cond (eqb k 1) (an_id 0) (an_id 1001)) (limit_of k)) items
        go true q = simp (q, over)
        go false q = simp (q, over)

    pub string_over : k ≡ 3 → ((i : ℕ) → get_or items i 0 < 256) → (refuse 4 ≡ tail_upto (tail_of k) items) × Unit {0}
    unfolding tail_upto item_of
    string_over z g = (rw (tail_list k nz, eq-eqb k 3 z) (simp (octets_fit items g, over)), tt)

-- i of the items are looked at
pub record Checking (k : ℕ) (items : List ℕ) (n i : ℕ) : Type 0 where
  pub all : n ≡ length items
  pub within : i ≤ n
  pub few : n ≤ limit_of k
  pub some : k ≡ 0 → ⊥
  pub same : fits_items (item_of k) items ≡ fits_items (item_of k) (drop i items)

module _ {k : ℕ} {items : List ℕ} {n i : ℕ} (o : Checking k items n i) where
  checking_at : i < n → i < length items
  checking_at h = omega (arith, o.all)

  next : i < n → (v : ℕ) → v ≡ get_or items i 0 → fits_items (item_of k) items ≡ fits_item (item_of k) v && fits_items (item_of k) (drop (suc i) items)
  next h v e = o.same ∙ ap (λ l. fits_items (item_of k) l) (drop-cons items i 0 (checking_at h)) ∙ rw e

  pub checking_bad : i < n → (v : ℕ) → v ≡ get_or items i 0 → (t : Bool) → t ≡ fits_item (item_of k) v → not t ≡ true → (refuse 8 ≡ tail_upto (tail_of k) items) × Unit {0}
  checking_bad h v e t f g = (rw (tail_list k o.some) (item_bad (item_of k) (limit_of k) items (next h v e ∙ rw (← f, is_false t g))), tt)

  pub checking_all : n ≤ i → (l w : ℕ) → (l ≡ length (length_octets n)) × (l ≤ 2) → (w ≡ width_of k) × (w ≤ 2) → n < 16384 → (ok (l + n * w) ≡ tail_upto (tail_of k) items) × (l + n * w ≤ 40000)
  checking_all h l w p q m =
      let few : leb (length items) (limit_of k) ≡ true = le-leb (length items) (limit_of k) (omega (arith, o.all, o.few)) in
      let fits : fits_items (item_of k) items ≡ true = o.same ∙ rw (drop_of_length-le items {i = i} (omega (arith, o.all))) in
      let size : l + n * w ≡ length (write_tail (list (item_of k) (limit_of k)) items) =
      rw (length-append (length_octets (length items)) (write_items (item_of k) items), items_width k items, p.0, q.0, o.all) in (
        rw (tail_list k o.some) (ap ok size ∙ upto_fits (list (item_of k) (limit_of k)) items (both few fits)),
        twice n w l q.1 p.1 m,
      )
    where
      twice : (n w l : ℕ) → w ≤ 2 → l ≤ 2 → n < 16384 → l + n * w ≤ 40000
      twice n w l a b c = omega (arith, mul-le-mul_left n a)
