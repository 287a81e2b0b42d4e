-- What decode's answer says of its refusal. Assumes nothing.
use mathlib.Core.Path.{◌≡◌, refl, sym}
use mathlib.Core.Bool.{Bool, true, false, ◌||◌, false≢true}
use mathlib.Core.List.{List}
use Prim.Native.Nat.{ℕ}
use lib.Dec.{eqb}
use borrow.Author.Tests.{eqb-true}
use Rattle.std.specs.Prelude.{Result, Ok, Err, Option, Some, None}
use Rattle.std.specs.Result.{result_err}
use Rattle.codec_octets.specs.declared.refusal.Refusal.{Refusal}
use Rattle.codec_octets.specs.declared.refusal.Refusal.TheVariants.{WrongLength, BadEncoding, NotServed, TooLong}
use Rattle.codec_table.specs.Answers.{outcome_of}
use Rattle.codec_table.specs.Codec.{Msg, Outcome, ok, refuse, decode}
use Rattle.codec_table.proofs.Refusals.{refusal, refusals}
use Rattle.codec_read.specs.declared.Decoded.{Decoded}
use Rattle.codec_read.specs.Held.{decoded}
use Rattle.codec_stop.specs.Stops.{refusal_of, told}

-- the refusal that is answered
pub told_is : (s : List ℕ) (o : Outcome Msg) (d : Result Decoded Refusal) → outcome_of d ≡ decoded s o → told (result_err d) ≡ refusal_of o
unfolding decoded refusal_of
told_is s (ok m) (Ok d) h = refl
told_is s (ok m) (Err r) h = absurd (cc h)
told_is s (refuse n) (Ok d) h = absurd (cc h)
told_is s (refuse n) (Err r) h = cc h

-- what decode refuses with is told by some refusal
by_number : (n : ℕ) → refusal n ≡ true → (r : Option Refusal) × (told r ≡ n)
unfolding refusal
by_number n e = go (eqb n 4) (eqb n 5) (eqb n 7) (eqb n 8) refl refl refl refl e
  where
    go : (a b c d : Bool) → eqb n 4 ≡ a → eqb n 5 ≡ b → eqb n 7 ≡ c → eqb n 8 ≡ d → (a || b || c || d) ≡ true → (r : Option Refusal) × (told r ≡ n)
    go true b c d p q r s h = (Some WrongLength, sym (eqb-true n 4 p))
    go false true c d p q r s h = (Some BadEncoding, sym (eqb-true n 5 q))
    go false false true d p q r s h = (Some NotServed, sym (eqb-true n 7 r))
    go false false false true p q r s h = (Some TooLong, sym (eqb-true n 8 s))
    go false false false false p q r s h = absurd (false≢true h)

pub some_refusal : (os : List ℕ) → (r : Option Refusal) × (told r ≡ refusal_of (decode os))
unfolding refusal_of
some_refusal os = go (decode os) refl
  where
    go : (o : Outcome Msg) → decode os ≡ o → (r : Option Refusal) × (told r ≡ refusal_of o)
    go (ok m) e = (None, refl)
    go (refuse n) e = by_number n (refusals os n e)
