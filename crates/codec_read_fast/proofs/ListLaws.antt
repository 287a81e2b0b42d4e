-- What is read straight into a list that is lent: ids stored one after the other, and the message that they end. Assumes nothing.
use mathlib.Core.Path.{◌≡◌, refl, sym, ap, ◌∙◌}
use mathlib.Core.Bool.{true, false}
use mathlib.Core.List.{List, [], ◌∷◌, ◌++◌}
use Prim.Native.Nat.{ℕ, zero, suc, ◌+◌, ◌*◌, ◌/◌, ◌%◌, ◌<◌, ◌≤◌}
use native.Mathlib.Numerals.{add-one}
use native.Mathlib.Omega.{arith}
use lib.ListN.{length, get_or, take, drop, set, length-set, drop_of_length-le}
use lib.Seq.{take-suc-set, length-take-le}
use lib.Dec.{leb}
use borrow.Author.Tests.{le-leb}
use Rattle.codec_octets.specs.Octets.{got, follow, give, need, Item, an_id, read_item, read_items, list, read_tail}
use Rattle.codec_octets.proofs.OctetLaws.{followed, go_on}
use Rattle.codec_octets.proofs.Reading.{length_one}
use Rattle.codec_table.specs.Limits.{list_limit, message_limit}
use Rattle.codec_table.specs.Messages.{Field, plain, row}
use Rattle.codec_table.specs.Columns.{count_at}
use Rattle.codec_read.specs.Held.{padded, is_string, held, decoded}
use Rattle.codec_read_fast.specs.declared.lists.Head.{Head}
use Rattle.codec_read_fast.specs.Shortly.{IdAt}
use Rattle.codec_read_fast.specs.Listed.{in_list, Counts, Stored, Heads}
use Rattle.codec_read_fast.proofs.ShortLaws.{Takes, About, about, First, whole}

-- one item more
item_more : (item : Item) (i : ℕ) (xs : List ℕ) {vs rest : List ℕ} {v : ℕ} {end : List ℕ} → read_items item i xs ≡ got vs rest → read_item item rest ≡ got v end
    → read_items item (suc i) xs ≡ got (vs ++ v ∷ []) end
item_more item zero xs {v = v} {end} e f =
    let r : read_item item xs ≡ got v end = cc in
    go_on (λ v. give (v ∷ [])) r ∙ cc
item_more item (suc i) xs {v = v} {end} e f =
    followed (read_item item xs) (λ w os. follow (read_items item i os) (λ us. give (w ∷ us))) e λ w os first then.
    followed (read_items item i os) (λ us. give (w ∷ us)) then λ us last read same.
    let next : read_item item last ≡ got v end = cc in
    go_on (λ w os. follow (read_items item (suc i) os) (λ us. give (w ∷ us))) first
    ∙ go_on (λ us. give (w ∷ us)) (item_more item i os read next)
    ∙ cc

pub stored_none : (s : List ℕ) (from low : ℕ) (ids : List ℕ) → Stored s from low 0 ids
stored_none s from low ids = let k : from ≡ from + 2 * 0 = omega arith in record { room = omega arith; read = ap (λ k. got [] (drop k s)) k }

pub stored_more : {s : List ℕ} {from low i : ℕ} {ids : List ℕ} → Stored s from low i ids → (v : ℕ) → IdAt s (from + 2 * i) low v → i < length ids
    → Stored s from low (i + 1) (set ids i v)
stored_more {s} {from} {low} {i} {ids} h v e l =
    let k : from + 2 * i + 1 + 1 ≡ from + 2 * suc i = omega arith in
    rw add-one
    (record {
      room = omega (arith, length-set ids i v);
      read = rw (take-suc-set ids i v l) (item_more (an_id low) i (drop from s) h.read (e.read ∙ ap (λ k. got v (drop k s)) k));
    })

pub stored_all : {s : List ℕ} {from low i count : ℕ} {ids : List ℕ} → Stored s from low i ids → i ≡ count → Stored s from low count ids
stored_all h e = rw e at h

-- the list behind its count
module _ (s : List ℕ) (at low n : ℕ) (c : Counts s at n) (ids : List ℕ) (h : Stored s (at + 1) low n ids) where
  pub list_read : read_tail (list (an_id low) list_limit) (drop at s) ≡ got (take n ids) []
  list_read =
      go_on (λ n. need (leb n list_limit) 8 (read_items (an_id low) n)) (sym (length_one s at n (omega (arith, c.whole)) c.is (omega arith)).same)
      ∙ simp (le-leb n list_limit c.few) (h.read ∙ ap (λ l. got (take n ids) l) (drop_of_length-le s {i = at + 1 + 2 * n} (omega (arith, c.whole))))

-- what is known of a message by its first octet, and the octet's last 2 bits
abbrev pub begins : ℕ → About × ℕ
begins o = (about (o / 4), o % 4)

-- a message by its first octet and its fields, up to its list
module _ (s : List ℕ) (o : ℕ) (is : o ≡ get_or s 0 0) (some : 0 < length s) (byte : o < 256) (b : ℕ) (fs : List Field) (vs : List ℕ) (at low : ℕ) where
  pub heads : Takes s 1 2 b fs vs (drop at s) → begins o ≡ ((plain fs (list (an_id low) list_limit), false, true, length vs), b)
      → padded 4 vs ≡ get_or vs 0 0 ∷ get_or vs 1 0 ∷ 0 ∷ 0 ∷ [] → at ≤ 5 → low ≤ 65536
      → Heads s (record { at = at; low = low; number = o / 4; first = get_or vs 0 0; second = get_or vs 1 0 })
  unfolding in_list decoded held
  heads t e cells near most =
      let a = ap (λ (x : About × ℕ). x.0) e in
      let row_is : row (o / 4) ≡ plain fs (list (an_id low) list_limit) = ap (λ (x : About). x.0) a in
      let no_string : is_string (o / 4) ≡ false = ap (λ (x : About). x.1) a in
      let count : count_at (o / 4) ≡ length vs = ap (λ (x : About). x.3) a in
      let bits : o % 4 ≡ b = ap (λ (x : About × ℕ). x.1) e in
      record {
        near = near;
        low_most = most;
        with_list = λ n ids c l.
            let stored : length (take n ids) ≡ n = length-take-le n ids l.room in
            let first : First s o b = record { is = is; some = some; few = omega (arith, c.whole); byte = byte; bits = bits } in
            record {
              same = rw (whole s o b first fs vs (list (an_id low) list_limit) row_is (drop at s) (take n ids) t (list_read s at low n c ids l), no_string, count, cells, stored) refl;
              stored = stored;
              served = ap (λ (x : About). x.2) a;
            };
      }
