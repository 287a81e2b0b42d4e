-- A list's items: what `read_ids`, `read_octets`, `read_list` and `read_tail` answer. Assumes nothing.
use mathlib.Core.Path.{◌≡◌, refl, sym, ap, ◌∙◌, subst}
use mathlib.Core.Bool.{Bool, true, false, cond}
use mathlib.Core.List.{List, [], ◌∷◌, ◌++◌, append_assoc, append-nil}
use Prim.Native.Nat.{ℕ, zero, suc, ◌+◌, ◌-◌, ◌*◌, ◌%◌, ◌<◌, ◌≤◌}
use native.Mathlib.Nat.{mod-eq_of_lt, sub-zero}
use native.Mathlib.Numerals.{add-one}
use native.Mathlib.Omega.{arith}
use lib.ListN.{length, take, drop, get_or, set, length-drop, length-set, replicate}
use lib.Seq.{take-suc-set, drop-drop, length-take-le}
use lib.Dec.{leb, eqb}
use borrow.Author.Tests.{le-leb, lt-leb, ne_eqb, leb-true}
use Rattle.codec_table.specs.Limits.{list_limit, string_limit}
use Rattle.codec_octets.specs.Octets.{Read, got, no, follow, need, give, number, Item, an_octet, an_id, read_item, read_items, read_length, Tail, read_tail}
use Rattle.codec_octets.proofs.OctetLaws.{followed, needed}
use Rattle.codec_octets.proofs.Reading.{id_over, id_is}
use Rattle.codec_table.specs.Messages.{channels, users, string}
use Rattle.codec_octets.specs.Places.{Octetwise}
use Rattle.codec_table.specs.Columns.{tail_of}
use Rattle.codec_read.specs.Reading.{listed, rest_of, ReadsItems}
use Rattle.codec_read.specs.declared.Taken.{Taken}
use Rattle.codec_read.specs.declared.Items.TheVariants.{Ids, Octets}
use Rattle.codec_read.specs.Held.{padded, has_ids}
use Rattle.codec_read.proofs.HeldLaws.{clear_more, padded_all}
use Rattle.std.specs.Prelude.{Result, Ok, Err}
use Rattle.codec_octets.specs.declared.Got.{Got}
use Rattle.codec_octets.specs.declared.refusal.Refusal.{Refusal}
use Rattle.codec_octets.specs.declared.refusal.Refusal.TheVariants.{BadEncoding, TooLong}
use Rattle.codec_octets.specs.Refusals.{refusal_number}

-- octets
octets_short : (n : ℕ) (xs : List ℕ) → length xs < n → read_items an_octet n xs ≡ no 5
unfolding read_item
octets_short zero xs h = absurd (omega arith)
octets_short (suc n) [] h = refl
octets_short (suc n) (x ∷ xs) h = ap (λ r. follow r (λ us. give (x ∷ us))) (octets_short n xs (omega arith))

octets_are : (n : ℕ) (xs : List ℕ) → n ≤ length xs → read_items an_octet n xs ≡ got (take n xs) (drop n xs)
unfolding read_item
octets_are zero xs h = refl
octets_are (suc n) [] h = absurd (omega arith)
octets_are (suc n) (x ∷ xs) h = ap (λ r. follow r (λ us. give (x ∷ us))) (octets_are n xs (omega arith))

pub items_no : (s : List ℕ) (octets ids : Bool) (r : Refusal) (spec : Read (List ℕ)) {before after : List ℕ} → spec ≡ no (refusal_number r) → ReadsItems s octets ids (Err r) before after spec
items_no s octets ids r spec e = record { same = sym e; inside = tt; holds = tt }

module _ (s : List ℕ) (from count : ℕ) (h : from ≤ length s) where
  pub octets_no : (ids : List ℕ) → length s < from + count → ReadsItems s true false (Err BadEncoding) ids ids (read_items an_octet count (drop from s))
  octets_no ids l = items_no s true false BadEncoding _ (octets_short count (drop from s) (omega (arith, length-drop from s)))

  pub octets_is : (ids : List ℕ) → from + count ≤ length s
      → ReadsItems s true false (Ok (record { items = Octets from count; next = from + count })) ids ids (read_items an_octet count (drop from s))
  octets_is ids l =
      let many : length (take count (drop from s)) ≡ count = length-take-le count (drop from s) (omega (arith, length-drop from s)) in
      let start : from + count - count ≡ from = omega arith in
      record {
        same = sym (octets_are count (drop from s) (omega (arith, length-drop from s)) ∙ ap (λ k. got (take count (drop from s)) k) (drop-drop count from s));
        inside = l;
        holds = record { items = rw (many, start); cells = refl };
      }

-- ids, one after the other: the invariant of `read_ids`. It holds for items of any kind.
pub prepend : List ℕ → Read (List ℕ) → Read (List ℕ)
prepend vs r = follow r (λ us. give (vs ++ us))

prepend_none : (r : Read (List ℕ)) → prepend [] r ≡ r
unfolding prepend
prepend_none (got u os) = refl
prepend_none (no n) = refl

prepend_one : (vs : List ℕ) (v : ℕ) (r : Read (List ℕ)) → prepend vs (follow r (λ us. give (v ∷ us))) ≡ prepend (vs ++ v ∷ []) r
unfolding prepend
prepend_one vs v (got u os) = ap (λ l. got l os) (sym (append_assoc vs (v ∷ []) u))
prepend_one vs v (no n) = refl

pub record Sofar (s : List ℕ) (item : Item) (from count : ℕ) (vs : List ℕ) (at i : ℕ) : Type 0 where
  pub within : i ≤ count
  pub inside : at ≤ length s
  pub places : length vs ≡ list_limit
  pub clear : drop i vs ≡ replicate (list_limit - i) 0
  pub read : read_items item count (drop from s) ≡ prepend (take i vs) (read_items item (count - i) (drop at s))

pub sofar_none : (s : List ℕ) (item : Item) (from count : ℕ) (vs : List ℕ) → from ≤ length s → vs ≡ replicate list_limit 0 → Sofar s item from count vs from 0
sofar_none s item from count vs h p =
    record { within = omega arith; inside = h; places = ap length p; clear = p; read = rw sub-zero (sym (prepend_none (read_items item count (drop from s)))) }

id_small : (low v : ℕ) (xs os : List ℕ) → read_item (an_id low) xs ≡ got v os → v ≤ 65535
unfolding read_item
id_small low v xs os e =
    followed (number 2 xs) (λ n. need (leb (n + low) 65535) 5 (give (n + low))) e λ n rest read then.
    needed (leb (n + low) 65535) 5 (give (n + low)) rest then λ most same.
    let z : n + low ≡ v = cc in
    omega (arith, leb-true (n + low) 65535 most)

module _ {s : List ℕ} {item : Item} {from count : ℕ} {vs : List ℕ} {at i : ℕ} (o : Sofar s item from count vs at i) (m : i < count) where
  step : read_items item (count - i) (drop at s) ≡ follow (read_item item (drop at s)) (λ v os. follow (read_items item (count - (i + 1)) os) (λ us. give (v ∷ us)))
  step = let e : count - i ≡ suc (count - (i + 1)) = omega arith in rw e

  pub sofar_no : (r : Refusal) → Octetwise s (Err r) (read_item item (drop at s)) → read_items item count (drop from s) ≡ no (refusal_number r)
  unfolding prepend
  sofar_no r t = o.read ∙ ap (λ x. prepend (take i vs) x) (step ∙ ap (λ x. follow x (λ v os. follow (read_items item (count - (i + 1)) os) (λ us. give (v ∷ us)))) (sym t.same))

  pub sofar_more : (g : Got) → Octetwise s (Ok g) (read_item item (drop at s)) → i < list_limit → Sofar s item from count (set vs i g.value) g.next (i + 1)
  sofar_more g t h =
      record {
        within = omega arith;
        inside = t.inside;
        places = length-set vs i g.value ∙ o.places;
        clear = clear_more list_limit i vs o.clear g.value h;
        read =
            rw (add-one, take-suc-set vs i g.value (omega (arith, o.places)))
            (rw add-one at
            (o.read
            ∙ ap (λ x. prepend (take i vs) x) (step ∙ ap (λ x. follow x (λ v os. follow (read_items item (count - (i + 1)) os) (λ us. give (v ∷ us)))) (sym t.same))
            ∙ prepend_one (take i vs) g.value (read_items item (count - (i + 1)) (drop g.next s))));
      }

-- fewer octets than the ids take
ids_short : (low n : ℕ) (xs : List ℕ) → length xs < n * 2 → read_items (an_id low) n xs ≡ no 5
unfolding read_item
ids_short low zero xs h = absurd (omega arith)
ids_short low (suc n) [] h = refl
ids_short low (suc n) (x ∷ []) h = refl
ids_short low (suc n) (x ∷ y ∷ xs) h = go (leb ((0 * 256 + x) * 256 + y + low) 65535) (ids_short low n xs (omega arith))
  where
    go : (t : Bool) → read_items (an_id low) n xs ≡ no 5 → follow (need t 5 (give ((0 * 256 + x) * 256 + y + low)) xs) (λ v os. follow (read_items (an_id low) n os) (λ us. give (v ∷ us))) ≡ no 5
    go true e = ap (λ r. follow r (λ us. give (((0 * 256 + x) * 256 + y + low) ∷ us))) e
    go false e = refl

pub ids_few : (s : List ℕ) (low from count : ℕ) (before after : List ℕ) → from ≤ length s → length s - from < count * 2 → ReadsItems s false true (Err BadEncoding) before after (read_items (an_id low) count (drop from s))
ids_few s low from count before after h l = items_no s false true BadEncoding _ (ids_short low count (drop from s) (omega (arith, length-drop from s)))

-- the octets of the ids that are still to be read are there
pub record Owed (s : List ℕ) (low from count : ℕ) (vs : List ℕ) (at i : ℕ) : Type 0 where
  pub sofar : Sofar s (an_id low) from count vs at i
  pub there : at + (count - i) * 2 ≤ length s

pub owed_none : (s : List ℕ) (low from count : ℕ) (vs : List ℕ) → from ≤ length s → vs ≡ replicate list_limit 0 → count * 2 ≤ length s - from → Owed s low from count vs from 0
owed_none s low from count vs h p l = record { sofar = sofar_none s (an_id low) from count vs h p; there = omega arith }

pub ids_over : {s : List ℕ} {low from count : ℕ} {vs : List ℕ} {at i : ℕ} {before : List ℕ} → Owed s low from count vs at i → i < count → (o p : ℕ) → o ≡ get_or s at 0 → p ≡ get_or s (at + 1) 0
    → 65535 < o * 256 + p + low → ReadsItems s false true (Err BadEncoding) before vs (read_items (an_id low) count (drop from s))
ids_over {s} {low} {at = at} w m o p e f n =
    items_no s false true BadEncoding _ (sofar_no w.sofar m BadEncoding (id_over s at low (omega (arith, w.there)) o p (o * 256 + p + low) e (omega (arith, w.there)) f refl n))

pub ids_more : {s : List ℕ} {low from count : ℕ} {vs : List ℕ} {at i : ℕ} → Sofar s (an_id low) from count vs at i → i < count → (g : Got)
    → Octetwise s (Ok g) (read_item (an_id low) (drop at s)) → i < list_limit → Sofar s (an_id low) from count (set vs i (g.value % 65536)) g.next (i + 1)
ids_more {s} {low} {at = at} o m g t h =
    let l : g.value ≤ 65535 = id_small low g.value (drop at s) (drop g.next s) (sym t.same) in
    let z : g.value % 65536 ≡ g.value = mod-eq_of_lt (omega arith) in
    rw z (sofar_more o m g t h)

pub owed_more : {s : List ℕ} {low from count : ℕ} {vs : List ℕ} {at i : ℕ} → Owed s low from count vs at i → i < count → (o p : ℕ) → o ≡ get_or s at 0 → p ≡ get_or s (at + 1) 0
    → o * 256 + p + low ≤ 65535 → i < list_limit → Owed s low from count (set vs i ((o * 256 + p + low) % 65536)) (at + 2) (i + 1)
owed_more {s} {low} {from} {count} {vs} {at} {i} w m o p e f n h =
    let two : at + 2 ≡ at + 1 + 1 = omega arith in
    rw two
    (record {
      sofar = ids_more w.sofar m _ (id_is s at low (omega (arith, w.there)) o p (o * 256 + p + low) e (omega (arith, w.there)) f refl n) h;
      there = omega (arith, w.there);
    })

pub ids_all : {s : List ℕ} {low from count : ℕ} {before vs : List ℕ} {at i : ℕ} → Owed s low from count vs at i → count ≤ i → count ≤ list_limit
    → ReadsItems s false true (Ok (record { items = Ids count; next = at })) before vs (read_items (an_id low) count (drop from s))
unfolding prepend
ids_all {count = count} {vs = vs} {i = i} w h few =
    let o = w.sofar in
    let z : i ≡ count = omega (arith, o.within) in
    let room : i ≤ length vs = omega (arith, o.places) in
    let y : count - i ≡ 0 = omega arith in
    let many : length (take count vs) ≡ count = subst (λ j. length (take j vs) ≡ j) z (length-take-le i vs room) in
    record {
      same = sym (o.read ∙ rw (y, append-nil, z));
      inside = o.inside;
      holds = record { items = ap Ids (sym many); cells = subst (λ j. vs ≡ padded list_limit (take j vs)) z (padded_all list_limit i vs o.clear room) };
    }

-- by kind, behind the length
module _ (s : List ℕ) (from kind n : ℕ) (before after : List ℕ) where
  pub list_more : kind ≡ 3 → string_limit < n → ReadsItems s (eqb kind 3) (has_ids kind) (Err TooLong) before after (listed kind n (drop from s))
  unfolding listed tail_of
  list_more k l = items_no s (eqb kind 3) (has_ids kind) TooLong _ (rw k (simp (lt-leb n string_limit l)))

  pub list_more_ids : (kind ≡ 0 → ⊥) → (kind ≡ 3 → ⊥) → list_limit < n → ReadsItems s (eqb kind 3) (has_ids kind) (Err TooLong) before after (listed kind n (drop from s))
  unfolding listed tail_of
  list_more_ids z k l = items_no s (eqb kind 3) (has_ids kind) TooLong _ (simp (ne_eqb kind 0 z, ne_eqb kind 3 k) (go (eqb kind 1)))
    where
      go : (t : Bool) → rest_of (cond t channels users) n (drop from s) ≡ no 8
      go true = simp (lt-leb n list_limit l)
      go false = simp (lt-leb n list_limit l)

  module _ (r : Result Taken Refusal) where
    pub list_octets : kind ≡ 3 → n ≤ string_limit → ReadsItems s true false r before after (read_items an_octet n (drop from s)) → ReadsItems s (eqb kind 3) (has_ids kind) r before after (listed kind n (drop from s))
    unfolding listed tail_of
    list_octets k l b = rw k (simp (le-leb n string_limit l) b)

    pub list_channels : kind ≡ 1 → n ≤ list_limit → ReadsItems s false true r before after (read_items (an_id 0) n (drop from s)) → ReadsItems s (eqb kind 3) (has_ids kind) r before after (listed kind n (drop from s))
    unfolding listed tail_of
    list_channels k l b = rw k (simp (le-leb n list_limit l) b)

    pub list_users : (kind ≡ 0 → ⊥) → (kind ≡ 3 → ⊥) → (kind ≡ 1 → ⊥) → n ≤ list_limit → ReadsItems s false true r before after (read_items (an_id 1001) n (drop from s)) → ReadsItems s (eqb kind 3) (has_ids kind) r before after (listed kind n (drop from s))
    unfolding listed tail_of
    list_users z k j l b = simp (ne_eqb kind 0 z, ne_eqb kind 3 k, ne_eqb kind 1 j, le-leb n list_limit l) b

-- what follows the fields
tail_of_lem : (kind : ℕ) → (kind ≡ 0 → ⊥) → tail_of kind ≡ cond (eqb kind 3) string (cond (eqb kind 1) channels users)
unfolding tail_of
tail_of_lem kind z = simp (ne_eqb kind 0 z)

tail_by_length : (kind : ℕ) (xs : List ℕ) → (kind ≡ 0 → ⊥) → read_tail (tail_of kind) xs ≡ follow (read_length xs) (listed kind)
unfolding listed
tail_by_length kind xs z = go (eqb kind 3) (eqb kind 1) (tail_of kind) (tail_of_lem kind z)
  where
    go : (a b : Bool) (t : Tail) → t ≡ cond a string (cond b channels users) → read_tail t xs ≡ follow (read_length xs) (λ n. rest_of t n)
    go true b t e = rw e
    go false true t e = rw e
    go false false t e = rw e

module _ (s : List ℕ) (from kind : ℕ) where
  pub tail_none : (ids : List ℕ) → kind ≡ 0 → from ≤ length s → ReadsItems s (eqb kind 3) (has_ids kind) (Ok (record { items = Ids 0; next = from })) ids ids (read_tail (tail_of kind) (drop from s))
  unfolding tail_of
  tail_none ids z h = record { same = rw z; inside = h; holds = rw z (record { items = refl; cells = refl }) }

  module _ (z : kind ≡ 0 → ⊥) (before after : List ℕ) where
    pub tail_no : (r : Refusal) → Octetwise s (Err r) (read_length (drop from s)) → ReadsItems s (eqb kind 3) (has_ids kind) (Err r) before after (read_tail (tail_of kind) (drop from s))
    tail_no r b = items_no s (eqb kind 3) (has_ids kind) r _ (tail_by_length kind (drop from s) z ∙ ap (λ x. follow x (listed kind)) (sym b.same))

    pub tail_is : (g : Got) (r : Result Taken Refusal) → Octetwise s (Ok g) (read_length (drop from s)) → ReadsItems s (eqb kind 3) (has_ids kind) r before after (listed kind g.value (drop g.next s))
        → ReadsItems s (eqb kind 3) (has_ids kind) r before after (read_tail (tail_of kind) (drop from s))
    tail_is g r b c = record { same = c.same ∙ sym (tail_by_length kind (drop from s) z ∙ ap (λ x. follow x (listed kind)) (sym b.same)); inside = c.inside; holds = c.holds }
