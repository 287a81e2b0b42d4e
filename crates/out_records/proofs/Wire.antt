-- The octets of each message that a top provider sends, written out. Assumes nothing.
use mathlib.Core.Path.{◌≡◌, refl, sym, ap, ap₂, ◌∙◌}
use mathlib.Core.Option.{none, some}
use mathlib.Core.List.{List, [], ◌∷◌, ◌++◌}
use Prim.Native.Nat.{ℕ, zero, suc, ◌+◌, ◌-◌, ◌*◌, ◌/◌, ◌%◌, ◌≤◌, ◌<◌, min}
use native.Mathlib.Nat.{div-one, sub-zero, min-zero, zero-min, suc-min-suc, min-le_left}
use native.Mathlib.Omega.{arith}
use borrow.Author.Tests.{lt-ltb, le-leb, lt-leb}
use lib.ListN.{length, take, length-take}
use Rattle.codec_octets.specs.Octets.{an_id, an_octet, octets_of, write_items}
use Rattle.codec_table.specs.Messages.{entry, row}
use Rattle.codec_table.specs.Limits.{list_limit}
use Rattle.codec_table.specs.Codec.{octets_of_msg}
use Rattle.codec_table.specs.Named.{fields, RJum, AUcf, DUin, CJcf, CCcf, CDin, CAin, CEin, TTcf, TVin, TPin}
use Rattle.out_records.specs.Records.{two, wire, record_of}
use Rattle.out_records.specs.Out.{Puts, each_two, listing}
use Rattle.out_records.proofs.Laying.{put_none, ids_length}

octets_two : (n : ℕ) → octets_of 2 n ≡ two n
octets_two n = rw (div-one (n % 256)) refl

pub cons : {a b : ℕ} {xs ys : List ℕ} → a ≡ b → xs ≡ ys → a ∷ xs ≡ b ∷ ys
cons e f = ap₂ (λ (a : ℕ) (xs : List ℕ). a ∷ xs) e f

-- ---- tokens
pub wire_TTcf : (u k s : ℕ) → wire (TTcf u k s) ≡ 168 ∷ two (u - 1001) ++ two (k - 1) ++ (s % 8 * 32) ∷ []
unfolding wire fields row entry octets_of_msg
wire_TTcf u k s = rw (div-one ((u - 1001) % 256), div-one ((k - 1) % 256)) (ap (λ (x : List ℕ). 168 ∷ two (u - 1001) ++ two (k - 1) ++ x) (cons (omega arith) refl))

pub wire_TVin : (g k r : ℕ) → wire (TVin g k r) ≡ 136 ∷ two (g - 1001) ++ two (k - 1) ++ two (r - 1001)
unfolding wire fields row entry octets_of_msg
wire_TVin g k r = simp div-one

pub wire_TPin : (u k : ℕ) → wire (TPin u k) ≡ 152 ∷ two (u - 1001) ++ two (k - 1)
unfolding wire fields row entry octets_of_msg
wire_TPin u k = simp div-one

-- ---- users and channels
pub wire_AUcf : (u : ℕ) → wire (AUcf 0 (some u)) ≡ 46 ∷ 0 ∷ two (u - 1001)
unfolding wire fields row entry octets_of_msg
wire_AUcf u = simp div-one

pub wire_CJcf : (u a k : ℕ) → wire (CJcf 0 u a (some k)) ≡ 62 ∷ 0 ∷ two (u - 1001) ++ two a ++ two k
unfolding wire fields row entry octets_of_msg
wire_CJcf u a k = simp (div-one, sub-zero)

pub wire_CCcf : (u k : ℕ) → wire (CCcf 0 u (some k)) ≡ 74 ∷ 0 ∷ two (u - 1001) ++ two (k - 1001)
unfolding wire fields row entry octets_of_msg
wire_CCcf u k = simp div-one

-- refused: a result and no id
module _ (r : ℕ) (l : r < 256) where
  pub wire_no_user : wire (AUcf r none) ≡ (44 + r / 8) ∷ (r % 8 * 32) ∷ []
  unfolding wire fields row entry octets_of_msg
  wire_no_user = cons (omega arith) (cons (omega arith) refl)

  pub wire_no_join : (u a : ℕ) → wire (CJcf r u a none) ≡ (60 + r / 8) ∷ (r % 8 * 32) ∷ two (u - 1001) ++ two a
  unfolding wire fields row entry octets_of_msg
  wire_no_join u a = simp (div-one, sub-zero) (cons (omega arith) (cons (omega arith) refl))

  pub wire_no_channel : (u : ℕ) → wire (CCcf r u none) ≡ (72 + r / 8) ∷ (r % 8 * 32) ∷ two (u - 1001)
  unfolding wire fields row entry octets_of_msg
  wire_no_channel u = rw (div-one ((u - 1001) % 256)) (cons (omega arith) (cons (omega arith) refl))

pub wire_CDin : (k : ℕ) → wire (CDin k) ≡ 80 ∷ two (k - 1001)
unfolding wire fields row entry octets_of_msg
wire_CDin k = simp div-one

-- ---- lists
ids_written : (low : ℕ) (ids : List ℕ) → write_items (an_id low) ids ≡ each_two low ids
unfolding each_two
ids_written low [] = refl
ids_written low (x ∷ xs) = ap₂ (λ (a b : List ℕ). a ++ b) (octets_two (x - low)) (ids_written low xs)

octets_written : (os : List ℕ) → write_items an_octet os ≡ os
octets_written [] = refl
octets_written (o ∷ os) = ap (λ (l : List ℕ). o ∷ l) (octets_written os)

module _ (ids : List ℕ) (h : length ids < 128) where
  pub wire_DUin : (r : ℕ) → r < 256 → wire (DUin r ids) ≡ (52 + r / 2) ∷ (r % 2 * 128) ∷ length ids ∷ each_two 1001 ids
  unfolding wire fields row entry octets_of_msg
  wire_DUin r l = rw (lt-ltb (length ids) 128 h, ids_written 1001 ids) (cons (omega arith) (cons (omega arith) refl))

  pub wire_CAin : (u k : ℕ) → wire (CAin u k ids) ≡ 88 ∷ two (u - 1001) ++ two (k - 1001) ++ length ids ∷ each_two 1001 ids
  unfolding wire fields row entry octets_of_msg
  wire_CAin u k = rw (lt-ltb (length ids) 128 h, ids_written 1001 ids, div-one ((u - 1001) % 256), div-one ((k - 1001) % 256)) refl

  pub wire_CEin : (k : ℕ) → wire (CEin k ids) ≡ 96 ∷ two (k - 1001) ++ length ids ∷ each_two 1001 ids
  unfolding wire fields row entry octets_of_msg
  wire_CEin k = rw (lt-ltb (length ids) 128 h, ids_written 1001 ids, div-one ((k - 1001) % 256)) refl

-- the record of such a message for connection q: what stands before its n users, and they
module _ (ids : List ℕ) (n : ℕ) (e : length ids ≡ n) (h : length ids ≤ list_limit) (q : ℕ) where
  sized : (m : List ℕ) (s : ℕ) → length m + 2 ≡ s → record_of m q ≡ two s ++ 1 ∷ q ∷ m
  unfolding record_of
  sized m s l = ap (λ (k : ℕ). two k ++ 1 ∷ q ∷ m) l

  pub start_CAin : (u k : ℕ) → record_of (wire (CAin u k ids)) q ≡ two (n * 2 + 8) ++ 1 ∷ q ∷ 88 ∷ two (u - 1001) ++ two (k - 1001) ++ n ∷ each_two 1001 ids
  start_CAin u k = rw (wire_CAin ids (omega arith) u k) (sized _ (n * 2 + 8) (omega (arith, ids_length 1001 ids)) ∙ rw e)

  pub start_CEin : (k : ℕ) → record_of (wire (CEin k ids)) q ≡ two (n * 2 + 6) ++ 1 ∷ q ∷ 96 ∷ two (k - 1001) ++ n ∷ each_two 1001 ids
  start_CEin k = rw (wire_CEin ids (omega arith) k) (sized _ (n * 2 + 6) (omega (arith, ids_length 1001 ids)) ∙ rw e)

pub wire_RJum : (d : ℕ) (os : List ℕ) → d < 256 → length os < 128 → wire (RJum d os) ≡ (36 + d / 4) ∷ (d % 4 * 64) ∷ length os ∷ os
unfolding wire fields row entry octets_of_msg
wire_RJum d os l h = rw (lt-ltb (length os) 128 h, octets_written os) (cons (omega arith) (cons (omega arith) refl))

-- the first 16 octets of a message
take_min : (k : ℕ) (m : List ℕ) → take (min k (length m)) m ≡ take k m
take_min zero m = rw (zero-min (length m)) refl
take_min (suc k) [] = rw (min-zero (suc k)) refl
take_min (suc k) (x ∷ m) = rw (suc-min-suc k (length m)) (ap (λ (l : List ℕ). x ∷ l) (take_min k m))

module _ (m : List ℕ) (n : ℕ) (e : n ≡ min 16 (length m)) where
  pub first_few : n ≤ 16
  first_few = rw e (min-le_left 16 (length m))

  first_is : take n m ≡ take 16 m
  first_is = rw e (take_min 16 m)

  pub first_length : n ≡ length (take n m)
  first_length = e ∙ sym (length-take 16 m) ∙ ap length (sym first_is)

  pub wire_reject : (d : ℕ) → d < 256 → wire (RJum d (take 16 m)) ≡ (36 + d / 4) ∷ (d % 4 * 64) ∷ n ∷ take n m
  wire_reject d l =
      rw (← first_is)
      (wire_RJum d (take n m) l (omega (arith, first_length, first_few))
      ∙ ap (λ (k : ℕ). (36 + d / 4) ∷ (d % 4 * 64) ∷ k ∷ take n m) (sym first_length))

-- a message with a list is put where the list is within its limit
module _ {s : List ℕ} (ids : List ℕ) (os : List ℕ) where
  pub put_listing : {t : List ℕ} {n : ℕ} → length ids ≤ list_limit → Puts s 0 os t n → Puts s 0 (listing ids os) t n
  unfolding listing
  put_listing h p = rw (le-leb (length ids) list_limit h) p

  pub put_unlisted : list_limit < length ids → Puts s 0 (listing ids os) s 0
  unfolding listing
  put_unlisted h = rw (lt-leb (length ids) list_limit h) (put_none s 0)

pub listing_in : (ids os : List ℕ) → length ids ≤ list_limit → listing ids os ≡ os
unfolding listing
listing_in ids os h = rw (le-leb (length ids) list_limit h) refl
