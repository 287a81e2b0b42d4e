-- What stands in the octets of a message of a few ids, so that a reader which finds it otherwise declines none. Assumes nothing.
use mathlib.Core.Path.{◌≡◌, refl, sym, ap, ◌∙◌, subst}
use mathlib.Core.Bool.{Bool, true, false, ◌||◌, false≢true}
use mathlib.Core.List.{List, [], ◌∷◌}
use mathlib.Core.Logic.{◌⊎◌, inl, inr, ⊎_elim}
use Prim.Native.Nat.{ℕ, ◌+◌, ◌*◌, ◌/◌, ◌%◌, ◌≤◌, ◌<◌}
use native.Mathlib.Omega.{arith}
use lib.ListN.{length, get_or}
use borrow.Author.Tests.{ltb-true}
use mir.Syntax.{w8}
use mir.Val.{Fits}
use Rattle.codec_octets.specs.Octets.{Bytes}
use Rattle.codec_table.specs.Messages.{row, entry, is_served}
use Rattle.codec_table.specs.Codec.{Msg, ok, decode, octets_of_msg}
use Rattle.codec_table.specs.Named.{Message, EDrq, DPum, RJum, AUrq, AUcf, DUrq, DUin, CJrq, CJcf, CLrq, CCrq, CCcf, CDrq, CDin, CArq, CAin, CErq, CEin}
use Rattle.codec_table.specs.Named.{TGrq, TGcf, TIrq, TIcf, TVrq, TVin, TVrs, TVcf, TPrq, TPin, TRrq, TRcf, TTrq, TTcf}
use Rattle.codec_table.specs.Named.{fields, formed}
use Rattle.codec_table.proofs.CodecLaws.{octets_only}
use Rattle.codec_table.proofs.NamedLaws.{ranges, read_named, heard_formed}
use Rattle.codec_table.proofs.Refusals.{bytes_at}
use Rattle.codec_read_fast.specs.Shortly.{token_number, short_number, few_ids, NoneRead}

-- ids from a place on, above the lowest of their kinds: each is at most 65,535
abbrev pub IdsFrom : List ℕ → ℕ → List ℕ → Type 0
IdsFrom s i [] = Unit {0}
IdsFrom s i (low ∷ lows) = (get_or s i 0 * 256 + get_or s (i + 1) 0 + low ≤ 65535) × IdsFrom s (i + 2) lows

-- so many octets, the first of them, and ids from a place on
pub record Octets (s : List ℕ) (size o from : ℕ) (lows : List ℕ) : Type 0 where
  pub many : length s ≡ size
  pub first : get_or s 0 0 ≡ o
  pub ids : IdsFrom s from lows

-- TGrq, TIrq, TPrq, TRrq, TTrq
abbrev pub Paired : ℕ → Type 0
Paired n = (n ≡ 29) ⊎ (n ≡ 31) ⊎ (n ≡ 37) ⊎ (n ≡ 39) ⊎ (n ≡ 41)

-- by its number, what a message of a few ids has
data Shape (s : List ℕ) : ℕ → Type 0 where
  bare : Octets s 1 0x28 1 [] → Shape s 10
  joining : Octets s 5 0x38 1 (1001 ∷ 0 ∷ []) → Shape s 14
  lone : Octets s 3 0x44 1 (1001 ∷ []) → Shape s 17
  parting : Octets s 5 0x4C 1 (1001 ∷ 1001 ∷ []) → Shape s 19
  paired : {n : ℕ} → Paired n → Octets s 5 (n * 4) 1 (1001 ∷ 1 ∷ []) → Shape s n
  offer : Octets s 7 0x84 1 (1001 ∷ 1 ∷ 1001 ∷ []) → Shape s 33
  answer : get_or s 0 0 / 4 ≡ 35 → get_or s 1 0 % 64 ≡ 0 → Octets s 6 (get_or s 0 0) 2 (1001 ∷ 1 ∷ []) → Shape s 35

shape : (m : Message) → formed m ≡ true → is_served (fields m).number ≡ true → few_ids (fields m).number ≡ true → Shape (octets_of_msg (fields m)) (fields m).number
unfolding octets_of_msg row entry fields is_served few_ids token_number short_number
shape (EDrq h i) f s k = absurd (false≢true k)
shape (DPum n) f s k = absurd (false≢true k)
shape (RJum n os) f s k = absurd (false≢true k)
shape AUrq f s k = bare (record { many = refl; first = refl; ids = tt })
shape (AUcf n u) f s k = absurd (false≢true s)
shape (DUrq n us) f s k = absurd (false≢true k)
shape (DUin n us) f s k = absurd (false≢true s)
shape (CJrq u c) f s k = let r = ranges (CJrq u c) f in joining (omega arith)
shape (CJcf n u a c) f s k = absurd (false≢true s)
shape (CLrq cs) f s k = absurd (false≢true k)
shape (CCrq u) f s k = let r = ranges (CCrq u) f in lone (omega arith)
shape (CCcf n u c) f s k = absurd (false≢true s)
shape (CDrq u c) f s k = let r = ranges (CDrq u c) f in parting (omega arith)
shape (CDin c) f s k = absurd (false≢true s)
shape (CArq u c us) f s k = absurd (false≢true k)
shape (CAin u c us) f s k = absurd (false≢true s)
shape (CErq u c us) f s k = absurd (false≢true k)
shape (CEin c us) f s k = absurd (false≢true s)
shape (TGrq u t) f s k = let r = ranges (TGrq u t) f in paired (inl refl) (omega arith)
shape (TGcf n u t v) f s k = absurd (false≢true s)
shape (TIrq u t) f s k = let r = ranges (TIrq u t) f in paired (inr (inl refl)) (omega arith)
shape (TIcf n u t v) f s k = absurd (false≢true s)
shape (TVrq u t v) f s k = let r = ranges (TVrq u t v) f in offer (omega arith)
shape (TVin u t v) f s k = absurd (false≢true s)
shape (TVrs n v t) f s k = let r = ranges (TVrs n v t) f in answer (omega arith) (omega arith) (omega arith)
shape (TVcf n u t v) f s k = absurd (false≢true s)
shape (TPrq u t) f s k = let r = ranges (TPrq u t) f in paired (inr (inr (inl refl))) (omega arith)
shape (TPin u t) f s k = absurd (false≢true s)
shape (TRrq u t) f s k = let r = ranges (TRrq u t) f in paired (inr (inr (inr (inl refl)))) (omega arith)
shape (TRcf n u t v) f s k = absurd (false≢true s)
shape (TTrq u t) f s k = let r = ranges (TTrq u t) f in paired (inr (inr (inr (inr refl)))) (omega arith)
shape (TTcf u t v) f s k = absurd (false≢true s)

module _ {s : List ℕ} (y : (i : ℕ) → Fits w8 (get_or s i 0)) (x : Msg) (e : decode s ≡ ok x) (served : is_served x.number ≡ true) (few : few_ids x.number ≡ true) where
  shape_read : Shape s x.number
  shape_read =
      let o : Bytes s = bytes_at s (λ i. omega (arith, y i)) in
      read_named s o x e λ m is same.
      subst (λ l. Shape l x.number) (sym (octets_only s x o e).1)
      (subst (λ (z : Msg). Shape (octets_of_msg z) z.number) same (shape m (heard_formed s o m is) (rw same served) (rw same few)))

-- octets in which no request about a token stands; and no other message of a few ids
pub record NoToken (s : List ℕ) : Type 0 where
  pub pair : (n : ℕ) → 28 < n → Paired n → Octets s 5 (n * 4) 1 (1001 ∷ 1 ∷ []) → ⊥
  pub offer : Octets s 7 0x84 1 (1001 ∷ 1 ∷ 1001 ∷ []) → ⊥
  pub answer : get_or s 0 0 / 4 ≡ 35 → get_or s 1 0 % 64 ≡ 0 → Octets s 6 (get_or s 0 0) 2 (1001 ∷ 1 ∷ []) → ⊥

pub record NoShort (s : List ℕ) : Type 0 where
  pub bare : Octets s 1 0x28 1 [] → ⊥
  pub joining : Octets s 5 0x38 1 (1001 ∷ 0 ∷ []) → ⊥
  pub lone : Octets s 3 0x44 1 (1001 ∷ []) → ⊥
  pub parting : Octets s 5 0x4C 1 (1001 ∷ 1001 ∷ []) → ⊥

either : (a b : Bool) → b ≡ true → a || b ≡ true
either true b h = refl
either false b h = h

module _ {s : List ℕ} (y : (i : ℕ) → Fits w8 (get_or s i 0)) where
  pub no_token : NoToken s → NoneRead token_number s
  unfolding few_ids token_number
  no_token none m e served few = go (shape_read y m e served (rw few refl)) few
    where
      go : {n : ℕ} → Shape s n → token_number n ≡ true → ⊥
      go (bare h) t = false≢true t
      go (joining h) t = false≢true t
      go (lone h) t = false≢true t
      go (parting h) t = false≢true t
      go (paired k h) t = none.pair _ (ltb-true 28 _ t) k h
      go (offer h) t = none.offer h
      go (answer k p h) t = none.answer k p h

  pub no_short : NoShort s → NoneRead short_number s
  unfolding few_ids short_number
  no_short none m e served few = go (shape_read y m e served (either (token_number m.number) (short_number m.number) few)) few
    where
      go : {n : ℕ} → Shape s n → short_number n ≡ true → ⊥
      go (bare h) t = none.bare h
      go (joining h) t = none.joining h
      go (lone h) t = none.lone h
      go (parting h) t = none.parting h
      go (paired k h) t =
          let apart = ⊎_elim (ap short_number) (⊎_elim (ap short_number) (⊎_elim (ap short_number) (⊎_elim (ap short_number) (ap short_number)))) k in
          false≢true (sym apart ∙ t)
      go (offer h) t = false≢true t
      go (answer k p h) t = false≢true t

-- neither the one nor the other: none of a few ids
pub none_read : (s : List ℕ) → NoneRead token_number s → NoneRead short_number s → NoneRead few_ids s
unfolding few_ids
none_read s t q m e served few = go (token_number m.number) refl
  where
    go : (b : Bool) → token_number m.number ≡ b → ⊥
    go true h = t m e served h
    go false h = q m e served (rw h at few)
