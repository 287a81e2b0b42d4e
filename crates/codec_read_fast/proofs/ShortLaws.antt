-- What is read the short way: ids behind the first octet, a result or a reason before them, a list behind them. Assumes nothing.
use Rattle.std.specs.Prelude.{Option, None, Some, MatchOption, Result, Ok, Err}
use Rattle.std.specs.Result.{OkIff, result_ok}
use mathlib.Core.Path.{◌≡◌, refl, ap, ◌∙◌}
use mathlib.Core.Bool.{Bool, true, false, cond}
use mathlib.Core.List.{List, [], ◌∷◌}
use Prim.Native.Nat.{ℕ, ◌+◌, ◌*◌, ◌/◌, ◌%◌, ◌^◌, ◌<◌, ◌≤◌}
use native.Mathlib.Omega.{arith}
use lib.ListN.{length, get_or, drop, drop_of_length-le}
use lib.Dec.{eqb}
use borrow.Author.Tests.{lt-ltb, le-leb}
use Rattle.codec_octets.specs.Octets.{got, ◌>>=◌, give, need, an_id, read_item, Tail, nothing, read_tail}
use Rattle.codec_octets.specs.Bits.{take_bits}
use Rattle.codec_octets.proofs.OctetLaws.{go_on}
use Rattle.codec_octets.proofs.Reading.{octet_at}
use Rattle.codec_table.specs.Limits.{message_limit}
use Rattle.codec_table.specs.Messages.{Field, item, result, reason, kind, Row, plain, row, is_served}
use Rattle.codec_table.specs.Columns.{count_at}
use Rattle.codec_table.specs.Codec.{take_field, take_fields, take_row, read_msg, ok, ending, decode}
use Rattle.codec_read_fast.specs.declared.Short.{Short}
use Rattle.codec_read_fast.specs.declared.tokens.Wish.{Wish}
use Rattle.codec_read.specs.Held.{padded, is_string, held, decoded}
use Rattle.codec_read.specs.Reading.{decode_of}
use Rattle.codec_read_fast.specs.Shortly.{of_values, in_full, in_words, short_number, token_number, NoneRead, Shortly, Wishes, id_value, IdAt, NoIdAt, NoWish, Wished}

-- a number as an id, where it fits
pub id_fits : {E : Type 0} (s : List ℕ) (i low v : ℕ) (r : Result ℕ E) → OkIff r (v < 2 ^ 16) v → v ≡ id_value s i low
    → (v ≤ 65535 → read_item (an_id low) (drop i s) ≡ got v (drop (i + 1 + 1) s)) → MatchOption (result_ok r) (NoIdAt s i low) (IdAt s i low)
id_fits s i low v (Ok x) h e read = rw h.1 (record { is = e; fits = omega arith; read = read (omega arith) })
id_fits s i low v (Err d) h e read = omega arith

-- a request is read where its user and its token are
pub wish_read : (s : List ℕ) (at number more : ℕ) (r : Option Wish) → MatchOption r (NoWish s at) (Wished s at number more)
    → (NoWish s at → NoneRead token_number s) → ((w : Wish) → Wished s at number more w → Wishes s w) → MatchOption r (NoneRead token_number s) (Wishes s)
wish_read s at number more None h none some = none h
wish_read s at number more (Some w) h none some = some w h

-- the fields from an octet on, and the octets behind them: none, or those from a place on
pub record Takes (s : List ℕ) (i left bits : ℕ) (fs : List Field) (vs rest : List ℕ) : Type 0 where
  pub same : take_fields fs left bits (drop i s) ≡ got (vs, 0) rest

pub none_left : {s : List ℕ} {i left : ℕ} → length s ≤ i → Takes s i left 0 [] [] []
none_left {s} h = record { same = rw (drop_of_length-le s h) refl }

pub then_more : {s : List ℕ} {i left : ℕ} → Takes s i left 0 [] [] (drop i s)
then_more = record { same = refl }

-- a result in 2 bits and the first 2 of the next octet, whose others are 0
result_first : (o p : ℕ) (rest : List ℕ) → p < 256 → p % 64 ≡ 0 → take_field result 2 (o % 4) (p ∷ rest) ≡ got (o % 4 * 4 + p / 64, 0) rest
unfolding take_field take_bits
result_first o p rest b z =
    let v : (o % 4 * 256 + p) / 2 ^ 6 ≡ o % 4 * 4 + p / 64 = omega arith in
    let r : (o % 4 * 256 + p) % 2 ^ 6 ≡ 0 = omega arith in
    simp (v, r, le-leb (o % 4 * 4 + p / 64) 15 (omega arith))

-- a reason in 2 bits and the first of the next octet, whose others are 0
reason_first : (o p : ℕ) (rest : List ℕ) → p < 256 → p % 128 ≡ 0 → o % 4 * 2 + p / 128 ≤ 4 → take_field reason 2 (o % 4) (p ∷ rest) ≡ got (o % 4 * 2 + p / 128, 0) rest
unfolding take_field take_bits
reason_first o p rest b z m =
    let v : (o % 4 * 256 + p) / 2 ^ 7 ≡ o % 4 * 2 + p / 128 = omega arith in
    let r : (o % 4 * 256 + p) % 2 ^ 7 ≡ 0 = omega arith in
    simp (v, r, le-leb (o % 4 * 2 + p / 128) 4 m)

module _ {s : List ℕ} {i : ℕ} {fs : List Field} {vs rest : List ℕ} where
  pub id_before : {low v left : ℕ} → IdAt s i low v → Takes s (i + 1 + 1) 0 0 fs vs rest → Takes s i left 0 (item (an_id low) ∷ fs) (v ∷ vs) rest
  unfolding take_field
  id_before {v = v} e t =
      record {
        same =
            go_on (λ t. take_fields fs 0 t.1 >>= λ r. give (t.0 ∷ r.0, r.1)) (go_on (λ u. give (u, 0)) e.read)
            ∙ go_on (λ r. give (v ∷ r.0, r.1)) t.same;
      }

  pub result_before : (o p : ℕ) → i < length s → p ≡ get_or s i 0 → p < 256 → p % 64 ≡ 0 → Takes s (i + 1) 6 0 fs vs rest
      → Takes s i 2 (o % 4) (result ∷ fs) ((o % 4 * 4 + p / 64) ∷ vs) rest
  result_before o p h e b z t =
      record {
        same =
            rw (octet_at s i p h e)
            (go_on (λ t. take_fields fs 6 t.1 >>= λ r. give (t.0 ∷ r.0, r.1)) (result_first o p (drop (i + 1) s) b z)
            ∙ go_on (λ r. give ((o % 4 * 4 + p / 64) ∷ r.0, r.1)) t.same);
      }

  pub reason_before : (o p : ℕ) → i < length s → p ≡ get_or s i 0 → p < 256 → p % 128 ≡ 0 → o % 4 * 2 + p / 128 ≤ 4 → Takes s (i + 1) 7 0 fs vs rest
      → Takes s i 2 (o % 4) (reason ∷ fs) ((o % 4 * 2 + p / 128) ∷ vs) rest
  reason_before o p h e b z m t =
      record {
        same =
            rw (octet_at s i p h e)
            (go_on (λ t. take_fields fs 7 t.1 >>= λ r. give (t.0 ∷ r.0, r.1)) (reason_first o p (drop (i + 1) s) b z m)
            ∙ go_on (λ r. give ((o % 4 * 2 + p / 128) ∷ r.0, r.1)) t.same);
      }

-- what is known of a message by its number: its row, whether it ends in a string, whether it is served, and how many values it has
abbrev pub About : Type 0
About = Row × Bool × Bool × ℕ

abbrev pub about : ℕ → About
about n = (row n, is_string n, is_served n, count_at n)

-- and whether it has a few ids; of a request about a token, whether a result comes first
abbrev pub of_short : ℕ → About × Bool
of_short n = (about n, short_number n)

abbrev pub of_token : ℕ → About × Bool × Bool
of_token n = (about n, token_number n, eqb n 35)

-- the same by its first octet
abbrev pub begins : ℕ → About × Bool × Bool
begins o = of_token (o / 4)

-- the first octet of octets that may be a message, and its last 2 bits
pub record First (s : List ℕ) (o b : ℕ) : Type 0 where
  pub is : o ≡ get_or s 0 0
  pub some : 0 < length s
  pub few : length s ≤ message_limit
  pub byte : o < 256
  pub bits : o % 4 ≡ b

-- a message by its first octet, its fields and what follows them
module _ (s : List ℕ) (o b : ℕ) (first : First s o b) (fs : List Field) (vs : List ℕ) where
  number_first : take_field kind 0 0 s ≡ got (o / 4, b) (drop 1 s)
  unfolding take_field take_bits
  number_first =
      let n : (0 * 256 + o) / 2 ^ 2 ≡ o / 4 = omega arith in
      let l : (0 * 256 + o) % 2 ^ 2 ≡ b = omega arith in
      ap (take_field kind 0 0) (octet_at s 0 o first.some first.is) ∙ simp (n, l, le-leb (o / 4) 63 (omega arith))

  module _ (tail : Tail) (row_is : row (o / 4) ≡ plain fs tail) (rest items : List ℕ) (t : Takes s 1 2 b fs vs rest) (l : read_tail tail rest ≡ got items []) where
    fields_then : take_row (row (o / 4)) b (drop 1 s) ≡ got (vs, items) []
    fields_then =
        rw row_is
        (go_on (λ r. need (eqb r.1 0) 5 (read_tail tail >>= λ items. give (r.0, items))) t.same
        ∙ go_on (λ items. give (vs, items)) l)

    read : read_msg s ≡ got (record { number = o / 4; values = vs; items = items }) []
    read =
        go_on (λ n. take_row (row n.0) n.1 >>= λ r. give (record { number = n.0; values = r.0; items = r.1 })) number_first
        ∙ go_on (λ r. give (record { number = o / 4; values = r.0; items = r.1 })) fields_then

    pub whole : decode s ≡ ok (record { number = o / 4; values = vs; items = items })
    unfolding decode
    whole = simp (lt-ltb 0 (length s) first.some, le-leb (length s) message_limit first.few) (ap ending read)

  -- and one of values alone
  module _ (t : Takes s 1 2 b fs vs []) where
    same_values : about (o / 4) ≡ (plain fs nothing, false, true, length vs) → ok (of_values (o / 4) (padded 4 vs)) ≡ decoded s (decode_of s)
    unfolding of_values decoded held
    same_values e =
        rw (whole nothing (ap (λ (x : About). x.0) e) [] [] t refl, ap (λ (x : About). x.1) e, ap (λ (x : About). x.3) e) refl

    pub shortly : of_short (o / 4) ≡ ((plain fs nothing, false, true, length vs), true)
        → padded 4 vs ≡ get_or vs 0 0 ∷ get_or vs 1 0 ∷ 0 ∷ 0 ∷ [] → Shortly s (record { number = o / 4; first = get_or vs 0 0; second = get_or vs 1 0 })
    unfolding in_full
    shortly e cells =
        let a = ap (λ (x : About × Bool). x.0) e in
        record { same = rw (← cells) (same_values a); served = ap (λ (x : About). x.2) a; few = ap (λ (x : About × Bool). x.1) e }

    pub wishes : (result : Bool) → of_token (o / 4) ≡ ((plain fs nothing, false, true, length vs), true, result)
        → {user token more : ℕ} {w : Wish} → w ≡ record { number = o / 4; user = user; token = token; more = more }
        → padded 4 vs ≡ cond result (more ∷ user ∷ token ∷ 0 ∷ []) (user ∷ token ∷ more ∷ 0 ∷ []) → Wishes s w
    unfolding in_words
    wishes result e is cells =
        let a = ap (λ (x : About × Bool × Bool). x.0) e in
        rw is
        (record {
          same = rw (ap (λ (x : About × Bool × Bool). x.2) e, ← cells) (same_values a);
          served = ap (λ (x : About). x.2) a;
          few = ap (λ (x : About × Bool × Bool). x.1) e;
        })
