-- What the writer leaves is what the reader reads: the writer's promise, theorem A and the reader's promise, one behind the other.
use mathlib.Core.Path.{◌≡◌, refl, sym, ap, ◌∙◌}
use mathlib.Core.Bool.{Bool, true, false, cond}
use mathlib.Core.List.{List, ◌++◌}
use Prim.Native.Nat.{ℕ, ◌≤◌}
use native.Mathlib.Omega.{arith}
use lib.ListN.{length, take, drop, length-append}
use lib.Seq.{take-append_seam}
use lib.Dec.{leb}
use borrow.Author.Tests.{leb-true, le-leb}
use Rattle.codec_table.specs.Codec.{Msg, Outcome, ok, refuse, decode, encode}
use Rattle.codec_table.proofs.Theorems.{written_is_read}
use Rattle.codec_read.specs.Held.{decoded}
use Rattle.codec_write.specs.Writing.{filled, Encodes}
use Rattle.codec_read.specs.declared.Decoded.{Decoded}
use Rattle.codec_octets.specs.Refusals.{refusal_number}
use Rattle.codec_octets.specs.declared.refusal.Refusal.{Refusal}
use Rattle.std.specs.Prelude.{Result, Ok, Err}
use Rattle.codec_table.specs.Answers.{outcome_of}
use Rattle.codec_roundtrip.specs.RoundTrip.{back_by, back, octets_by, ReadBack}

first : {a b : Outcome ℕ} {x y : List ℕ} → ◌≡◌ {A = Outcome ℕ × List ℕ} (a, x) (b, y) → a ≡ b
first e = ap (λ (p : Outcome ℕ × List ℕ). p.0) e

second : {a b : Outcome ℕ} {x y : List ℕ} → ◌≡◌ {A = Outcome ℕ × List ℕ} (a, x) (b, y) → x ≡ y
second e = ap (λ (p : Outcome ℕ × List ℕ). p.1) e

-- what the writer answers is what it left
written : (o : Outcome (List ℕ)) (s s' : List ℕ) (n : ℕ) → ◌≡◌ {A = Outcome ℕ × List ℕ} (ok n, s') (filled o s)
    → (o ≡ ok (take n s')) × (n ≤ length s') × (length (take n s') ≤ length s)
written (refuse k) s s' n f = absurd (let c = first f in cc)
written (ok os) s s' n f = go (leb (length os) (length s)) refl f
  where
    go : (t : Bool) → leb (length os) (length s) ≡ t → ◌≡◌ {A = Outcome ℕ × List ℕ} (ok n, s') (cond t (ok (length os), os ++ drop (length os) s) (refuse 9, s))
        → (ok os ≡ ok (take n s')) × (n ≤ length s') × (length (take n s') ≤ length s)
    go true k f =
        let c : ok n ≡ ok (length os) = first f in
        let a : n ≡ length os = cc in
        let b : s' ≡ os ++ drop (length os) s = second f in
        rw (a, b, take-append_seam os (drop (length os) s)) (refl, omega (arith, length-append os (drop (length os) s)), leb-true (length os) (length s) k)
    go false k f = absurd (let c = first f in cc)

module _ (m : Msg) (s s' : List ℕ) (n : ℕ) where
  pub written_within : Encodes m s (Ok n) s' → n ≤ length s'
  written_within e = (written (encode m) s s' n e).1

  -- theorem A at the octets that the writer left
  pub written_back : Encodes m s (Ok n) s' → decode (take n s') ≡ ok m
  written_back e = written_is_read m (take n s') (written (encode m) s s' n e).0

  -- what is written is read, by any reader that keeps the reader's promise
  pub round_trip : Encodes m s (Ok n) s' → (d : Result Decoded Refusal) → outcome_of d ≡ decoded (take n s') (decode (take n s')) → ReadBack m s d s'
  round_trip e d f =
      let w = written (encode m) s s' n e in
      record {
        same =
            f ∙ ap (λ o. decoded (take n s') o) (written_back e)
            ∙ ap (λ o. decoded (take n s') o) (sym (ap (λ o. back_by o m (length s)) w.0 ∙ ap (λ t. cond t (ok m) (refuse 9)) (le-leb (length (take n s')) (length s) w.2)))
            ∙ ap (λ o. decoded (octets_by o) (back m (length s))) (sym w.0);
        room = second e;
      }

pub no_trip : (m : Msg) (s s' : List ℕ) (r : Refusal) → Encodes m s (Err r) s' → ReadBack m s (Err r) s'
unfolding decoded
no_trip m s s' r e = record { same = ap (λ o. decoded (octets_by (encode m)) o) (go (encode m) e); room = second e }
  where
    go : (o : Outcome (List ℕ)) → ◌≡◌ {A = Outcome ℕ × List ℕ} (refuse (refusal_number r), s') (filled o s) → refuse (refusal_number r) ≡ back_by o m (length s)
    go (refuse k) e = let c = first e in cc
    go (ok os) e = pick (leb (length os) (length s)) refl e
      where
        pick : (t : Bool) → leb (length os) (length s) ≡ t → ◌≡◌ {A = Outcome ℕ × List ℕ} (refuse (refusal_number r), s') (cond t (ok (length os), os ++ drop (length os) s) (refuse 9, s))
            → refuse (refusal_number r) ≡ cond (leb (length os) (length s)) (ok m) (refuse 9)
        pick true k f = absurd (let c = first f in cc)
        pick false k f = let c = first f in let z : refusal_number r ≡ 9 = cc in rw (k, z)
