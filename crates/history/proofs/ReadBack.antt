-- The records sent are read back from their octets. Assumes nothing.
use mathlib.Core.Path.{◌≡◌, refl, ap, ◌∙◌}
use mathlib.Core.Bool.{true}
use mathlib.Core.List.{List, [], ◌∷◌, ◌++◌}
use Prim.Native.Nat.{ℕ, zero, suc, ◌+◌, ◌-◌, ◌≤◌, zero-le}
use native.Mathlib.Omega.{arith}
use borrow.Author.Tests.{le-leb}
use lib.ListN.{length, take, drop, length-append}
use lib.Seq.{take-append_seam, drop-append_seam}
use Rattle.codec_table.specs.Limits.{message_limit}
use Rattle.codec_table.specs.Codec.{ok}
use Rattle.codec_table.specs.Named.{Message, formed, heard}
use Rattle.codec_table.proofs.NamedLaws.{size_of, formed_sent, sent_heard}
use Rattle.out_records.proofs.Laying.{framed_length}
use Rattle.out_records.specs.Records.{Sent, to, wire, record_of, octets, records}
use Rattle.history.specs.Recorded.{size, is_record, inside, carried, read_some, read_records}

-- a message that the codec writes: fields in range, and not too long
pub record Readable (m : Message) : Type 0 where
  pub ranged : formed m ≡ true
  pub few : size_of m ≤ message_limit

-- and records of such
abbrev pub Readables : List Sent → Type 0
Readables [] = Unit {0}
Readables (to q m ∷ rs) = Readable m × Readables rs

-- its octets are heard as it
pub wire_heard : (m : Message) → Readable m → heard (wire m) ≡ ok m
unfolding wire
wire_heard m r = sent_heard m (wire m) (formed_sent m r.ranged r.few)

-- ---- a record from the start of octets
module _ (w : List ℕ) (q : ℕ) (rest : List ℕ) where
  -- as many octets follow as it has
  pub framed_size : size (record_of w q ++ rest) ≡ length w + 2
  unfolding size record_of
  framed_size = omega arith

  -- it is a record
  framed_is : is_record (record_of w q ++ rest) ≡ true
  unfolding is_record record_of
  framed_is =
      let there = le-leb (2 + (length w + 2)) (length (record_of w q ++ rest)) (omega (arith, length-append w rest)) in
      rw (framed_size, le-leb 2 (length w + 2) (omega arith), there) refl

  -- its message is there
  pub framed_inside : inside (record_of w q ++ rest) ≡ w
  unfolding inside record_of
  framed_inside =
      let shown : size (record_of w q ++ rest) - 2 ≡ length w = omega (arith, framed_size) in
      ap (λ (n : ℕ). take n (drop 4 (record_of w q ++ rest))) shown ∙ take-append_seam w rest

  -- and the next record behind it
  pub framed_behind : drop (2 + size (record_of w q ++ rest)) (record_of w q ++ rest) ≡ rest
  unfolding record_of
  framed_behind =
      let past : 2 + size (record_of w q ++ rest) ≡ suc (suc (suc (suc (length w)))) = omega (arith, framed_size) in
      ap (λ (n : ℕ). drop n (record_of w q ++ rest)) past ∙ drop-append_seam w rest

  -- it is read, and then the rest
  framed_read : (n : ℕ) → read_some (suc n) (record_of w q ++ rest) ≡ carried q (heard w) ++ read_some n rest
  unfolding read_some record_of
  framed_read n = rw (framed_is, framed_inside, framed_behind) refl

-- ---- all of them

-- no octets, no record
read_none : (n : ℕ) → read_some n [] ≡ []
unfolding read_some is_record size
read_none zero = refl
read_none (suc n) = refl

-- as many records as there are, or more, are read
read_all : (rs : List Sent) (n : ℕ) → length rs ≤ n → Readables rs → read_some n (records rs) ≡ rs
unfolding records octets carried
read_all [] n h r = read_none n
read_all (to q m ∷ rs) zero h r = absurd (omega arith)
read_all (to q m ∷ rs) (suc n) h r =
    framed_read (wire m) q (records rs) n
    ∙ rw (wire_heard m r.0, read_all rs n (omega arith) r.1) refl

-- a record has an octet at least
pub records_more : (rs : List Sent) → length rs ≤ length (records rs)
unfolding records octets
records_more [] = zero-le
records_more (to q m ∷ rs) = omega (arith, records_more rs, length-append (record_of (wire m) q) (records rs), framed_length (wire m) q)

-- what is sent is read
pub read_back : (rs : List Sent) → Readables rs → read_records (records rs) ≡ rs
unfolding read_records
read_back rs r = read_all rs (length (records rs)) (records_more rs) r
