-- The two theorems of the codec, and both in one. Assumes nothing.
use mathlib.Core.Path.{◌≡◌, sym, ap, ◌∙◌}
use mathlib.Core.List.{List}
use Prim.Native.Nat.{ℕ}
use Rattle.codec_octets.specs.Octets.{Bytes}
use Rattle.codec_table.specs.Codec.{Msg, ok, decode, encode}
use Rattle.codec_table.proofs.CodecLaws.{octets_read, octets_only, ok_within, within_ok}

-- A: a message that is written is read back
pub written_is_read : (m : Msg) (os : List ℕ) → encode m ≡ ok os → decode os ≡ ok m
written_is_read m os e = let w = ok_within m os e in rw w.1 at (octets_read m w.0)

-- B: octets that are read are what is written of the message read, so no other octets are taken
pub read_is_written : (m : Msg) (os : List ℕ) → Bytes os → decode os ≡ ok m → encode m ≡ ok os
read_is_written m os y e = let r = octets_only os m y e in within_ok m r.0 ∙ ap ok (sym r.1)

-- both: a message is written as these octets exactly when they are read as it
pub exactly : (m : Msg) (os : List ℕ) → Bytes os → (encode m ≡ ok os → decode os ≡ ok m) × (decode os ≡ ok m → encode m ≡ ok os)
exactly m os y = (written_is_read m os, read_is_written m os y)
