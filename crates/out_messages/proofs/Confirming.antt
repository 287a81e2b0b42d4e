-- The octets of the four confirms of a token's requests. Assumes nothing.
use mathlib.Core.Path.{◌≡◌, refl, ap}
use mathlib.Core.List.{List, [], ◌∷◌, ◌++◌}
use Prim.Native.Nat.{ℕ, ◌+◌, ◌-◌, ◌*◌, ◌/◌, ◌%◌, ◌≤◌, ◌<◌}
use native.Mathlib.Nat.{div-one}
use native.Mathlib.Omega.{arith}
use Rattle.codec_octets.specs.Octets.{nothing}
use Rattle.codec_table.specs.Messages.{plain, entry, row, result, user, token, status}
use Rattle.codec_table.specs.Codec.{octets_of_msg}
use Rattle.codec_table.specs.Named.{fields, msg}
use Rattle.out_records.specs.Records.{two, wire}
use Rattle.out_records.proofs.Wire.{cons}
use Rattle.out_messages.specs.Confirms.{confirm, number}
use Rattle.out_messages.specs.declared.Confirm.{Confirm}
use Rattle.out_messages.specs.declared.Confirm.TheVariants.{Grab, Inhibit, Give, Release}

-- result, user, token, status
confirmed : (n : ℕ) → row n ≡ plain (result ∷ user ∷ token ∷ status ∷ []) nothing → n ≤ 42 → (r u k s : ℕ) → r < 256
    → octets_of_msg (msg n (r ∷ u ∷ k ∷ s ∷ []) []) ≡ (n * 4 + r / 4) ∷ (r % 4 * 64) ∷ two (u - 1001) ++ two (k - 1) ++ (s % 8 * 32) ∷ []
unfolding octets_of_msg
confirmed n e h r u k s l =
    rw (e, div-one ((u - 1001) % 256), div-one ((k - 1) % 256))
    (cons (omega arith) (cons (omega arith) (ap (λ (x : List ℕ). two (u - 1001) ++ two (k - 1) ++ x) (cons (omega arith) refl))))

pub wire_confirm : (kind : Confirm) (r u k s : ℕ) → r < 256
    → wire (confirm kind r u k s) ≡ (number kind * 4 + r / 4) ∷ (r % 4 * 64) ∷ two (u - 1001) ++ two (k - 1) ++ (s % 8 * 32) ∷ []
unfolding wire fields row entry
wire_confirm Grab r u k s l = confirmed 30 refl (omega arith) r u k s l
wire_confirm Inhibit r u k s l = confirmed 32 refl (omega arith) r u k s l
wire_confirm Give r u k s l = confirmed 36 refl (omega arith) r u k s l
wire_confirm Release r u k s l = confirmed 40 refl (omega arith) r u k s l

pub number_most : (kind : Confirm) → number kind ≤ 40
number_most Grab = omega arith
number_most Inhibit = omega arith
number_most Give = omega arith
number_most Release = omega arith
