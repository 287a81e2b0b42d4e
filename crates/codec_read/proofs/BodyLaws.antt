-- A message: what `decode_body`, `decode_row` and `decode` answer. Assumes nothing.
use mathlib.Core.Path.{◌≡◌, subst, sym, ap, ◌∙◌}
use mathlib.Core.List.{List}
use Prim.Native.Nat.{ℕ, ◌+◌, ◌/◌}
use native.Mathlib.Omega.{arith}
use lib.ListN.{length, take, drop, drop_of_length-le}
use lib.Seq.{drop-cons}
use lib.Dec.{eqb}
use borrow.Author.Tests.{eq-eqb, ne_eqb}
use Rattle.codec_octets.specs.Octets.{Reader, follow, need, give, Tail, read_tail}
use Rattle.codec_table.specs.Codec.{Msg, ok, refuse, ending}
use Rattle.codec_octets.specs.Places.{bits_at, behind}
use Rattle.codec_read.specs.Reading.{at_fields, TakesFields, items_of, at_items, ReadsItems, message, body_at}
use Rattle.codec_table.specs.Columns.{tail_at, fields_of, tail_of}
use Rattle.std.specs.Prelude.{Result, Ok, Err}
use Rattle.codec_octets.specs.declared.refusal.Refusal.{Refusal}
use Rattle.codec_octets.specs.Refusals.{refusal_number}
use Rattle.codec_read.specs.declared.Fields.{Fields}
use Rattle.codec_read.specs.declared.Taken.{Taken}
use Rattle.codec_read.specs.declared.Items.{Items}
use Rattle.codec_read.specs.Held.{is_string, items_held, held, decoded, has_ids, kept, Reads}

abbrev behind_at : ℕ → Tail
behind_at n = tail_of (tail_at n)

behind_fields : Tail → List ℕ × ℕ → Reader (List ℕ × List ℕ)
behind_fields t r = need (eqb r.1 0) 5 (λ os. follow (read_tail t os) (λ items. give (r.0, items)))

module _ (s : List ℕ) (at count number : ℕ) where
  whole : (r : Result Fields Refusal) → TakesFields s at (fields_of number count) count r
      → body_at s at count number ≡ ending (follow (follow (at_fields s count r) (behind_fields (behind_at number))) (message number))
  unfolding body_at behind_fields
  whole r t = ap (λ x. ending (follow (follow x (behind_fields (behind_at number))) (message number))) (sym t.same)

  pub body_no : (r : Refusal) → TakesFields s at (fields_of number count) count (Err r) → body_at s at count number ≡ refuse (refusal_number r)
  body_no r t = whole (Err r) t

  module _ (f : Fields) (t : TakesFields s at (fields_of number count) count (Ok f)) (bits : ℕ) (b : bits ≡ bits_at s f.at) where
    pub body_pad : (bits ≡ 0 → ⊥) → body_at s at count number ≡ refuse 5
    unfolding behind_fields
    body_pad n = whole (Ok f) t ∙ rw (ne_eqb (bits_at s f.at) 0 (rw b at n))

    module _ (z : bits ≡ 0) (k : ℕ) (same : k ≡ tail_at number) (before after : List ℕ) where
      rest : (u : Result Taken Refusal) → ReadsItems s (eqb k 3) (has_ids k) u before after (read_tail (tail_of k) (drop ((f.at + 7) / 8) s))
          → body_at s at count number ≡ ending (follow (follow (at_items s u after) (λ items. give (take count f.values, items))) (message number))
      unfolding behind_fields behind
      rest u i = whole (Ok f) t ∙ rw (eq-eqb (bits_at s f.at) 0 (sym b ∙ z)) (ap (λ x. ending (follow (follow x (λ items. give (take count f.values, items))) (message number))) (subst (λ n. read_tail (tail_of n) (drop ((f.at + 7) / 8) s) ≡ at_items s u after) same (sym i.same)))

      pub body_tail_no : (r : Refusal) → ReadsItems s (eqb k 3) (has_ids k) (Err r) before after (read_tail (tail_of k) (drop ((f.at + 7) / 8) s)) → body_at s at count number ≡ refuse (refusal_number r)
      body_tail_no r i = rest (Err r) i

      module _ (u : Taken) (i : ReadsItems s (eqb k 3) (has_ids k) (Ok u) before after (read_tail (tail_of k) (drop ((f.at + 7) / 8) s))) where
        pub body_over : (u.next ≡ length s → ⊥) → body_at s at count number ≡ refuse 5
        body_over n = rest (Ok u) i ∙ rw (drop-cons s u.next 0 (omega (arith, i.inside)))

        message_read : Msg
        message_read = record { number = number; values = take count f.values; items = items_of s u.items after }

        body_whole : u.next ≡ length s → body_at s at count number ≡ ok message_read
        unfolding message_read
        body_whole n = rest (Ok u) i ∙ rw (drop_of_length-le s {i = u.next} (omega arith))

        body_items : u.next ≡ length s → u.items ≡ items_held (is_string number) (length s) message_read.items
        unfolding message_read
        body_items n = i.holds.items ∙ rw (n, same)

        body_kept : after ≡ kept message_read before
        unfolding message_read kept
        body_kept = rw (← same) i.holds.cells

        pub body_is : u.next ≡ length s → Reads s (body_at s at count number) before after (Ok (record { number = number; have = count; values = f.values; items = u.items }))
        unfolding decoded held message_read
        body_is n =
            record {
              head =
                  let e : u.items ≡ items_held (is_string number) (length s) message_read.items = body_items n in
                  ap (λ (x : Items). ok (record { number = number; have = count; values = f.values; items = x })) e
                  ∙ rw (body_whole n, ← t.cells.0, t.cells.1);
              list = λ m w. let z : message_read ≡ m = cc (body_whole n, w) in body_kept ∙ ap (λ x. kept x before) z;
            }
