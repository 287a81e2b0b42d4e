-- Texts said to lines that wait to be written.
use Rattle.std.specs.Prelude.{ℕ, ◌+◌, ◌≡◌, cond, List, leb, length}
use Rattle.trace_io.specs.Lines.{Says}
use Rattle.trace_io.specs.declared.lines.Lines.{Lines}

-- lines with what waits, and the same once these texts are said; what is said later goes to the same descriptor
pub record SaysTo {n : ℕ} (old : Lines n) (texts : List (List ℕ)) (new : Lines n) : Type 0 where
  pub says : Says old.room old.filled texts new.room new.filled
  pub stays : new.to ≡ old.to

-- lines with room for so many octets: as they are, or with nothing that waits
abbrev pub with_room : ℕ → {n : ℕ} → Lines n → Lines n
with_room size l = cond (leb (l.filled + size) (length l.room)) l (record { room = l.room; filled = 0; to = l.to })
