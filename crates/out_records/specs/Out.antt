-- Octets into an answer's room: they are laid over what stands there; where there is no room nothing changes, and all of them are counted.
use Rattle.std.specs.Prelude.{ℕ, ◌+◌, ◌-◌, Bool, ◌&&◌, ◌≡◌, List, [], ◌∷◌, ◌++◌, leb, length, if◌then◌else◌}
use Rattle.std.proofs.lemmas.List.Edits.{sets}
use Rattle.codec_table.specs.Limits.{list_limit, message_limit}
use Rattle.cols_spec.specs.Sets.{has, below, each, connections}
use Rattle.out_records.specs.Records.{two, record_of}

-- the octets `os` are put into `s` from place `at`, which gives `t`; `n` is the place behind them, whether they fit or not
pub record Puts (s : List ℕ) (at : ℕ) (os t : List ℕ) (n : ℕ) : Type 0 where
  pub laid : t ≡ sets s at os
  pub next : n ≡ at + length os

-- no message of more than 1,024 octets is put, and nothing behind the place 65,535
unfoldable pub allowed : (at count : ℕ) → Bool
allowed at count = leb at 65535 && leb count message_limit

-- `os`, where they may be put at this place for a message, or a list of ids, `m`
unfoldable pub guarded : (at : ℕ) (m os : List ℕ) → List ℕ
guarded at m os = if allowed at (length m) then os else []

-- ids on two octets each, less the lowest of their kind, in list order
unfoldable pub each_two : (low : ℕ) (ids : List ℕ) → List ℕ
each_two low [] = []
each_two low (x ∷ xs) = two (x - low) ++ each_two low xs

-- the record of a message for connection q, where the mask has it
unfoldable pub told_to : (mask : ℕ) (m : List ℕ) (q : ℕ) → List ℕ
told_to mask m q = if has mask q then record_of m q else []

-- the records of a message for each connection of the mask, ascending
unfoldable pub told : (mask : ℕ) (m : List ℕ) → List ℕ
told mask m = each (told_to mask m) (below connections)

-- the octets of a message with a list, where the list is within its limit
unfoldable pub listing : (ids os : List ℕ) → List ℕ
listing ids os = if leb (length ids) list_limit then os else []
