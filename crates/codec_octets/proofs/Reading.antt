-- What a reader of src/ answers at each of its returns is what the reader of specs/ gives. Assumes nothing.
use mathlib.Core.Path.{◌≡◌, refl, sym, ap, ◌∙◌}
use mathlib.Core.List.{List, ◌∷◌}
use Prim.Native.Nat.{ℕ, ◌+◌, ◌-◌, ◌*◌, ◌<◌, ◌≤◌}
use native.Mathlib.Numerals.{add-one}
use native.Mathlib.Omega.{arith}
use lib.ListN.{length, get_or, drop, drop_of_length-le}
use lib.Seq.{drop-cons}
use lib.Dec.{leb}
use borrow.Author.Tests.{lt-ltb, le-ltb, le-leb, lt-leb}
use Rattle.codec_octets.specs.Octets.{read_length, read_item, an_id, need, give}
use Rattle.codec_octets.specs.Places.{Octetwise, EndsAt}
use Rattle.codec_octets.specs.declared.Got.{Got}
use Rattle.codec_octets.specs.declared.refusal.Refusal.{Refusal}
use Rattle.codec_octets.specs.declared.refusal.Refusal.TheVariants.{BadEncoding, TooLong}
use Rattle.std.specs.Prelude.{Result, Ok, Err}

pub octet_at : (s : List ℕ) (i o : ℕ) → i < length s → o ≡ get_or s i 0 → drop i s ≡ o ∷ drop (i + 1) s
octet_at s i o h e = rw (e, add-one, ← drop-cons s i 0 h)

-- no octet at i; an octet o at i; no octet behind it; a second octet p
module _ (s : List ℕ) (i : ℕ) where
  pub length_none : length s ≤ i → Octetwise s (Err BadEncoding) (read_length (drop i s))
  unfolding read_length
  length_none h = record { same = ap read_length (sym (drop_of_length-le s h)); inside = tt }

  module _ (o : ℕ) (h : i < length s) (e : o ≡ get_or s i 0) where
    pub length_one : o < 128 → Octetwise s (Ok (record { value = o; next = i + 1 })) (read_length (drop i s))
    unfolding read_length
    length_one l = record { same = sym (ap read_length (octet_at s i o h e) ∙ simp (lt-ltb o 128 l)); inside = omega arith }

    pub length_fragment : 192 ≤ o → Octetwise s (Err TooLong) (read_length (drop i s))
    unfolding read_length
    length_fragment l = record { same = sym (ap read_length (octet_at s i o h e) ∙ simp (le-ltb o 128 (omega arith), le-ltb o 192 l)); inside = tt }

    module _ (l : 128 ≤ o) (m : o < 192) where
      pub length_short : length s ≤ i + 1 → Octetwise s (Err BadEncoding) (read_length (drop i s))
      unfolding read_length
      length_short k =
          record {
            same = sym (ap read_length (octet_at s i o h e ∙ ap (λ r. o ∷ r) (drop_of_length-le s k)) ∙ simp (le-ltb o 128 l, lt-ltb o 192 m));
            inside = tt;
          }

      module _ (p n : ℕ) (k : i + 1 < length s) (f : p ≡ get_or s (i + 1) 0) (g : n ≡ (o - 128) * 256 + p) where
        two : drop i s ≡ o ∷ p ∷ drop (i + 1 + 1) s
        two = octet_at s i o h e ∙ ap (λ r. o ∷ r) (octet_at s (i + 1) p k f)

        pub length_long : n < 128 → Octetwise s (Err BadEncoding) (read_length (drop i s))
        unfolding read_length
        length_long b =
            record {
              same = sym (ap read_length two ∙ simp (le-ltb o 128 l, lt-ltb o 192 m, lt-leb 128 ((o - 128) * 256 + p) (omega arith)));
              inside = tt;
            }

        pub length_two : 128 ≤ n → Octetwise s (Ok (record { value = n; next = i + 1 + 1 })) (read_length (drop i s))
        unfolding read_length
        length_two b =
            record {
              same = sym (ap read_length two ∙ simp (le-ltb o 128 l, lt-ltb o 192 m, ← g, le-leb 128 n b));
              inside = omega arith;
            }

module _ (s : List ℕ) (i low : ℕ) where
  pub id_none : length s ≤ i → Octetwise s (Err BadEncoding) (read_item (an_id low) (drop i s))
  unfolding read_item
  id_none h = record { same = ap (read_item (an_id low)) (sym (drop_of_length-le s h)); inside = tt }

  module _ (h : i < length s) where
    pub id_short : length s ≤ i + 1 → Octetwise s (Err BadEncoding) (read_item (an_id low) (drop i s))
    unfolding read_item
    id_short k =
        record {
          same = sym (ap (read_item (an_id low)) (octet_at s i (get_or s i 0) h refl ∙ ap (λ r. get_or s i 0 ∷ r) (drop_of_length-le s k)));
          inside = tt;
        }

    module _ (o p n : ℕ) (e : o ≡ get_or s i 0) (k : i + 1 < length s) (f : p ≡ get_or s (i + 1) 0) (g : n ≡ o * 256 + p + low) where
      value : read_item (an_id low) (drop i s) ≡ need (leb n 65535) 5 (give n) (drop (i + 1 + 1) s)
      unfolding read_item
      value =
          let v : (0 * 256 + o) * 256 + p + low ≡ n = omega arith in
          ap (read_item (an_id low)) (octet_at s i o h e ∙ ap (λ r. o ∷ r) (octet_at s (i + 1) p k f)) ∙ simp v

      pub id_over : 65535 < n → Octetwise s (Err BadEncoding) (read_item (an_id low) (drop i s))
      id_over b = record { same = sym (value ∙ simp (lt-leb n 65535 b)); inside = tt }

      pub id_is : n ≤ 65535 → Octetwise s (Ok (record { value = n; next = i + 1 + 1 })) (read_item (an_id low) (drop i s))
      id_is b = record { same = sym (value ∙ simp (le-leb n 65535 b)); inside = omega arith }

pub ends_less : (g : Result Got Refusal) (m n : ℕ) → EndsAt m g → m ≤ n → EndsAt n g
ends_less (Err r) m n h l = tt
ends_less (Ok g) m n h l = omega arith
