-- The octets of a trace that are read and not taken yet. What a call of the system reads no definition can say.
use Rattle.std.specs.Prelude.{ℕ, ◌-◌, ◌<◌, ◌≤◌, ◌≡◌, true, false, ◌&&◌, ◌||◌, cond, List, leb, length, take, drop}
use Rattle.trace_frames.specs.Frames.{size_of}
use Rattle.trace_io.specs.declared.input.Span.{Span}

-- nothing is read yet
abbrev pub nothing : Span
nothing = record { from = 0; to = 0; ended = false }

pub record Within (room : ℕ) (h : Span) : Type 0 where
  pub ordered : h.from ≤ h.to
  pub inside : h.to ≤ room

-- a span that does not lie in a buffer of this length is empty
abbrev pub clip : ℕ → Span → Span
clip room h = cond (leb h.from h.to && leb h.to room) h (record { from = 0; to = 0; ended = h.ended })

-- the octets that are not taken
abbrev pub unread : List ℕ → Span → List ℕ
unread s h = take (h.to - h.from) (drop h.from s)

-- the octets that are not taken are the first n of the buffer
pub record Starts (s : List ℕ) (h : Span) (s' : List ℕ) (n : ℕ) : Type 0 where
  pub inside : n ≤ length s'
  pub kept : take n s' ≡ unread s h

-- the octets that were not taken stay in front; more come behind them, or the input has ended
pub record Refills (s : List ℕ) (h : Span) (s' : List ℕ) (h' : Span) : Type 0 where
  pub within : Within (length s') h'
  pub kept : take (h.to - h.from) (unread s' h') ≡ unread s h
  pub more : h'.ended ≡ false → h.to - h.from < h'.to - h'.from
  pub least : h.to - h.from ≤ h'.to - h'.from

-- the same, until the frame in front is whole or the input has ended
pub record Ready (s : List ℕ) (h : Span) (s' : List ℕ) (h' : Span) : Type 0 where
  pub within : Within (length s') h'
  pub kept : take (h.to - h.from) (unread s' h') ≡ unread s h
  pub settled : (h'.ended || leb (size_of (unread s' h')) (length (unread s' h'))) ≡ true
