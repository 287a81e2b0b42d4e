-- A field at the bit that a reader has reached, and the bit that it reaches then.
use Rattle.std.specs.Prelude.{◌≡◌, List, ℕ, Result, Ok, Err}
use Rattle.codec_table.specs.Messages.{Field}
use Rattle.codec_octets.specs.declared.Got.{Got}
use Rattle.codec_octets.specs.declared.refusal.Refusal.{Refusal}
use Rattle.codec_read.specs.Fields.{FieldAt}

-- the bit reached: behind the value, or the same
abbrev pub reached : Result Got Refusal → ℕ → ℕ
reached (Ok g) at = g.next
reached (Err r) at = at

pub record Steps (s : List ℕ) (at : ℕ) (f : Field) (r : Result Got Refusal) (bit : ℕ) : Type 0 where
  pub reads : FieldAt s at f r
  pub ends : bit ≡ reached r at
