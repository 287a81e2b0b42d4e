-- From what a reader on octets or on bits answers to what a field's reader does. Assumes nothing.
use mathlib.Core.Path.{◌≡◌, refl, sym, ap, ◌∙◌}
use mathlib.Core.Bool.{Bool, true, false, cond}
use mathlib.Core.List.{List}
use Prim.Native.Nat.{ℕ, ◌+◌, ◌/◌}
use native.Mathlib.Omega.{arith}
use lib.ListN.{drop}
use lib.Dec.{leb}
use borrow.Author.Tests.{eq-eqb, ne_eqb}
use Rattle.codec_octets.specs.Octets.{Read, follow, need, give, Item, read_item}
use Rattle.codec_table.specs.Messages.{code, item}
use Rattle.codec_octets.specs.Bits.{take_bits, after}
use Rattle.codec_table.specs.Codec.{take_field}
use Rattle.codec_octets.specs.Places.{left_at, bits_at, behind, Octetwise, Bitwise, capped_of, in_bits}
use Rattle.codec_read.specs.Reading.{TakesField}
use Rattle.std.specs.Prelude.{Result, Ok, Err}
use Rattle.codec_octets.specs.declared.Got.{Got}
use Rattle.codec_octets.specs.declared.refusal.Refusal.{Refusal}
use Rattle.codec_octets.specs.declared.refusal.Refusal.TheVariants.{BadEncoding}
use Rattle.codec_octets.proofs.Bits.{octet_left, octet_bits, octet_behind}

module _ (s : List ℕ) (at : ℕ) where
  code_is : (w m : ℕ) (g : Result Got Refusal) → Bitwise s (after w (left_at at)) g (take_bits w (left_at at) (bits_at s at) (behind s at)) → TakesField s at (code w m) (capped_of m g)
  unfolding take_field
  code_is w m (Err r) b = record { same = ap (λ r. follow r (λ t. need (leb t.0 m) 5 (give t))) b.same; leaves = tt; inside = tt }
  code_is w m (Ok g) b = go (leb g.value m) refl
    where
      all : need (leb g.value m) 5 (give (g.value, bits_at s g.next)) (behind s g.next) ≡ take_field (code w m) (left_at at) (bits_at s at) (behind s at)
      all = ap (λ r. follow r (λ t. need (leb t.0 m) 5 (give t))) b.same

      go : (t : Bool) → leb g.value m ≡ t → Bitwise s (after w (left_at at)) (cond (leb g.value m) (Ok g) (Err BadEncoding)) (take_field (code w m) (left_at at) (bits_at s at) (behind s at))
      go true e = rw e (record { same = rw e at all; leaves = b.leaves; inside = b.inside })
      go false e = rw e (record { same = rw e at all; leaves = tt; inside = tt })

  pub code_no : (w m : ℕ) (r : Refusal) → Bitwise s (after w (left_at at)) (Err r) (take_bits w (left_at at) (bits_at s at) (behind s at)) → TakesField s at (code w m) (Err r)
  code_no w m r b = code_is w m (Err r) b

  pub code_got : (w m : ℕ) (g : Got) (r : Result Got Refusal) → Bitwise s (after w (left_at at)) (Ok g) (take_bits w (left_at at) (bits_at s at) (behind s at)) → r ≡ capped_of m (Ok g)
      → TakesField s at (code w m) r
  code_got w m g r b e = rw e (code_is w m (Ok g) b)

  -- bits left before an octet are 0
  pub item_pad : (i : Item) (bits : ℕ) → bits ≡ bits_at s at → (bits ≡ 0 → ⊥) → TakesField s at (item i) (Err BadEncoding)
  unfolding take_field
  item_pad i bits e n = record { same = simp (ne_eqb (bits_at s at) 0 (rw e at n)); leaves = tt; inside = tt }

  item_is : (i : Item) (bits : ℕ) (g : Result Got Refusal) → bits ≡ bits_at s at → bits ≡ 0 → Octetwise s g (read_item i (drop ((at + 7) / 8) s)) → TakesField s at (item i) (in_bits g)
  unfolding take_field behind
  item_is i bits (Err r) e z b =
      record { same = simp (eq-eqb (bits_at s at) 0 (sym e ∙ z)) (ap {B = Read (ℕ × ℕ)} (λ r. follow r (λ v. give (v, 0))) b.same); leaves = tt; inside = tt }
  item_is i bits (Ok g) e z b =
      record {
        same = rw (octet_bits s g.next, octet_behind s g.next, eq-eqb (bits_at s at) 0 (sym e ∙ z)) (ap {B = Read (ℕ × ℕ)} (λ r. follow r (λ v. give (v, 0))) b.same);
        leaves = octet_left g.next;
        inside = omega (arith, b.inside);
      }

  pub item_no : (i : Item) (bits : ℕ) (r : Refusal) → bits ≡ bits_at s at → bits ≡ 0 → Octetwise s (Err r) (read_item i (drop ((at + 7) / 8) s)) → TakesField s at (item i) (Err r)
  item_no i bits r e z b = item_is i bits (Err r) e z b

  pub item_got : (i : Item) (bits : ℕ) (g h : Got) → bits ≡ bits_at s at → bits ≡ 0 → Octetwise s (Ok g) (read_item i (drop ((at + 7) / 8) s)) → Ok h ≡ in_bits (Ok g) → TakesField s at (item i) (Ok h)
  item_got i bits g h e z b k = rw k (item_is i bits (Ok g) e z b)
