-- What is claimed of every trace; proofs/Laws has the proofs.
use Rattle.std.specs.Prelude.{ℕ, ◌+◌, ◌-◌, ◌/◌, ◌%◌, ◌<◌, ◌≤◌, ◌≡◌, ◌↔◌, ◌≢◌, List, [], ◌∷◌, ◌++◌, length, get_or, take, drop}
use Rattle.trace_frames.specs.declared.Frame.{Frame}
use Rattle.trace_frames.specs.Frames.{frame, refused, front, meaning, length_of, size_of, version_of, kind_of}

-- a rule of document 01 that the front of s breaks
pub data Breaks (s : List ℕ) : Type 0 where
  no_length : length s < 2 → Breaks s
  length_below_3 : length_of s < 3 → Breaks s
  octets_missing : length s < size_of s → Breaks s
  other_version : version_of s ≢ 1 → Breaks s
  other_kind : 2 < kind_of s → Breaks s
  octets_behind : kind_of s ≢ 2 → 3 < length_of s → Breaks s

-- a frame is bad exactly when it breaks one of the rules
abbrev pub BadExactly : Type 0
BadExactly = (s : List ℕ) → 0 < length s → (front s ≡ refused 11) ↔ Breaks s

-- the frame of a kind on a connection with these octets
abbrev pub frame_octets : ℕ → ℕ → List ℕ → List ℕ
frame_octets kind connection os = let n = 3 + length os in n / 256 ∷ n % 256 ∷ 1 ∷ kind ∷ connection ∷ os

abbrev pub OctetsBelow256 : List ℕ → Type 0
OctetsBelow256 s = (i : ℕ) → get_or s i 0 < 256

-- a good frame's octets are where it says: the frame of just these octets is what stands there
abbrev pub GoodStands : Type 0
GoodStands = (s : List ℕ) (kind connection start size : ℕ) → OctetsBelow256 s → front s ≡ frame kind connection start size
    → take size s ≡ frame_octets kind connection (take (size - start) (drop start s))

-- they lie in s
abbrev pub GoodInside : Type 0
GoodInside = (s : List ℕ) (kind connection start size : ℕ) → front s ≡ frame kind connection start size → (start ≤ size) × (size ≤ length s)

-- and every frame that keeps the rules is found, whatever stands behind it
abbrev pub GoodFound : Type 0
GoodFound = (kind connection : ℕ) (os rest : List ℕ) → kind ≤ 2 → (kind ≢ 2 → os ≡ [])
    → front (frame_octets kind connection os ++ rest) ≡ frame kind connection 5 (5 + length os)

-- a frame that is there whole is the same whatever is read behind it, so a trace may be read in pieces
abbrev pub WholeStays : Type 0
WholeStays = (s more : List ℕ) → 2 ≤ length s → size_of s ≤ length s → front (s ++ more) ≡ front s

-- the promise of the frame reader allows one answer
abbrev pub OneAnswer : Type 0
OneAnswer = (s : List ℕ) (f g : Frame) → meaning f ≡ front s → meaning g ≡ front s → f ≡ g
