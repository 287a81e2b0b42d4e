-- The size of a good frame, for those who go from frame to frame and ask nothing else.
use Rattle.std.specs.Prelude.{ℕ, zero, suc, Option, Some, None, ◌≤◌, ◌<◌, ◌≡◌, List, ◌++◌, length, take}
use Rattle.trace_frames.specs.Frames.{Front, over, frame, refused, front}
use Rattle.trace_frames.specs.Claims.{OctetsBelow256}

-- how many octets a frame has; 0 where there is none
abbrev pub size_in : Front → ℕ
size_in over = 0
size_in (frame kind connection start size) = size
size_in (refused reply) = 0

-- how many octets the good frame at the front of s has; 0 where no good frame begins there
unfoldable pub good_size : List ℕ → ℕ
good_size s = size_in (front s)

-- that size as the code has it: 0 is none
abbrev pub some_size : ℕ → Option ℕ
some_size zero = None
some_size (suc n) = Some (suc n)

-- a good frame lies in s
abbrev pub SizeWithin : Type 0
SizeWithin = (s : List ℕ) → good_size s ≤ length s

-- it has at least 5 octets
abbrev pub SizeLeast : Type 0
SizeLeast = (s : List ℕ) → 0 < good_size s → 5 ≤ good_size s

-- no octet outside it counts: its octets are a good frame whatever stands behind them
abbrev pub SizeAlone : Type 0
SizeAlone = (s more : List ℕ) → 0 < good_size s → good_size (take (good_size s) s ++ more) ≡ good_size s

-- how many octets the longest frame has: a length of 65,535, and its two octets
abbrev pub longest : ℕ
longest = 65537

-- no good frame is longer
abbrev pub SizeMost : Type 0
SizeMost = (s : List ℕ) → OctetsBelow256 s → good_size s ≤ longest

-- so what stands behind that many octets does not change whether a good frame begins, nor its size
abbrev pub SizeStays : Type 0
SizeStays = (w more : List ℕ) → OctetsBelow256 w → longest ≤ length w → good_size (w ++ more) ≡ good_size w
