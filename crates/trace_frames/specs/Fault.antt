-- Why no good frame begins at the front of a trace, for the person who is to know: the first rule that is broken, from the left.
use Rattle.std.specs.Prelude.{ℕ, ◌<◌, ◌≤◌, ◌≡◌, ◌↔◌, ◌≢◌, ◌⊎◌, ◌||◌, cond, Option, Some, None, List, ◌++◌, leb, ltb, eqb, length}
use Rattle.trace_frames.specs.declared.fault.Fault.{Fault}
use Rattle.trace_frames.specs.declared.fault.Fault.TheVariants.{Length, Version, Kind, Octets, CutOff}
use Rattle.trace_frames.specs.Frames.{length_of, size_of, version_of, kind_of}
use Rattle.trace_frames.specs.Claims.{OctetsBelow256}
use Rattle.trace_frames.specs.Good.{good_size, longest}

-- the fault of a front that breaks no rule as far as it goes
abbrev pub fault_missing : List ℕ → Option Fault
fault_missing s = cond (leb (size_of s) (length s)) None (Some CutOff)

-- an open or a loss with octets behind it is told before its end is looked for
abbrev pub fault_behind : List ℕ → Option Fault
fault_behind s = cond (eqb (kind_of s) 2 || leb (length_of s) 3) (fault_missing s) (Some Octets)

-- the fault of a front whose length is right, by its version, then its kind
abbrev pub fault_inside : List ℕ → Option Fault
fault_inside s =
    cond (ltb (length s) 3)
    (Some CutOff)
    (cond (eqb (version_of s) 1)
    (cond (ltb (length s) 4)
    (Some CutOff)
    (cond (leb (kind_of s) 2) (fault_behind s) (Some Kind)))
    (Some Version))

-- the first fault from the left: of the length, the version, the kind, octets where none may be; or octets that are missing; or none
unfoldable pub fault_of : List ℕ → Option Fault
fault_of s = cond (ltb (length s) 2) (Some CutOff) (cond (ltb (length_of s) 3) (Some Length) (fault_inside s))

-- what a fault says of the front of s: a rule of specs/Claims that is broken there, or that a good frame begins
abbrev pub Told : List ℕ → Option Fault → Type 0
Told s (Some Length) = length_of s < 3
Told s (Some Version) = version_of s ≢ 1
Told s (Some Kind) = 2 < kind_of s
Told s (Some Octets) = (kind_of s ≢ 2) × (3 < length_of s)
Told s (Some CutOff) = (length s < 2) ⊎ (length s < size_of s)
Told s None = 0 < good_size s

-- the fault that is told is there
abbrev pub FaultThere : Type 0
FaultThere = (s : List ℕ) → Told s (fault_of s)

-- no fault is told exactly where a good frame begins
abbrev pub NothingExactly : Type 0
NothingExactly = (s : List ℕ) → (fault_of s ≡ None) ↔ (0 < good_size s)

-- what stands behind as many octets as the longest frame has does not change the fault
abbrev pub FaultStays : Type 0
FaultStays = (w more : List ℕ) → OctetsBelow256 w → longest ≤ length w → fault_of (w ++ more) ≡ fault_of w
