-- Any event that answers with records: refused with 9 and nothing touched, or done with the records in front of what stood there. Assumes nothing.
use mathlib.Core.Path.{◌≡◌, refl}
use mathlib.Core.List.{List, []}
use Prim.Native.Nat.{ℕ, ◌+◌, ◌≤◌, ◌<◌}
use native.Mathlib.Nat.{zero-add}
use native.Mathlib.Omega.{arith}
use borrow.Author.Tests.{lt-ltb, le-ltb}
use lib.ListN.{length}
use Rattle.out_records.specs.Records.{Sent, records}
use Rattle.out_records.specs.Out.{Puts}
use Rattle.out_records.proofs.Laying.{put_fits}
use Rattle.out_records.proofs.Telling.{records_none}
use Rattle.domain.specs.Effects.{ignored, done, settled, delivers, settle}

-- `k` is the place behind the records, as a run over a room of no octets tells it
module _ {A : Type 0} (n : ℕ) (before after : A) (rs : List Sent) (out : List ℕ) (k : ℕ) (size : k ≡ 0 + length (records rs)) where
  pub delivers_full : length out < k → settled 9 0 before out ≡ delivers n before after rs out
  unfolding delivers
  delivers_full h = rw (lt-ltb (length out) (length (records rs)) (omega (arith, zero-add (length (records rs))))) refl

  pub delivers_done : k ≤ length out → (s o : List ℕ) (m : ℕ) → s ≡ out → Puts s 0 (records rs) o m → settled n k after o ≡ delivers n before after rs out
  unfolding delivers
  delivers_done h s o m same put =
      let fits : length (records rs) ≤ length out = omega (arith, zero-add (length (records rs))) in
      rw (le-ltb (length out) (length (records rs)) fits, put_fits (rw same at put) fits, size, zero-add (length (records rs))) refl

-- done with nothing to send
pub delivers_none : {A : Type 0} (n : ℕ) (before after : A) (out : List ℕ) → settled n 0 after out ≡ delivers n before after [] out
unfolding delivers
delivers_none n before after out = rw (records_none, le-ltb (length out) 0 (omega arith)) refl

module _ {A : Type 0} (before : A) (out : List ℕ) where
  pub settle_ignored : settled 1 0 before out ≡ settle before ignored out
  unfolding settle
  settle_ignored = refl

  pub settle_done : (after : A) (rs : List Sent) → delivers 0 before after rs out ≡ settle before (done after rs) out
  unfolding settle
  settle_done after rs = refl
