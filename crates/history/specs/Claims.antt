-- What is claimed of every run of the provider from a domain just made, or from the tables of an image, read from what can be recorded of it alone.
use Rattle.std.specs.Prelude.{ℕ, ◌≤◌, ◌≡◌, not, ◌&&◌, List, [], leb}
use Rattle.std.proofs.Math.Bool.{So}
use Rattle.std.proofs.Math.Option.{some}
use Rattle.cols_spec.specs.Places.{used}
use Rattle.codec_octets.specs.Octets.{Bytes}
use Rattle.codec_table.specs.Codec.{ok}
use Rattle.codec_table.specs.Named.{Message, TGrq, TIrq, heard}
use Rattle.domain.specs.Tables.{Domain}
use Rattle.domain.specs.History.{Start, nothing_yet, History, full, told, home, gain, held, alone, busy, count}
use Rattle.domain.specs.Good.{Good}
use Rattle.domain.specs.Claims.{holder}
use Rattle.domain_laws.specs.View.{view}
use Rattle.domain_begun.specs.Begun.{begun_by}
use Rattle.domain.specs.Outcomes.{begun}
use Rattle.imaging.specs.Claims.{restored, start_of}
use Rattle.history.specs.Recorded.{message, read_note, read}
use Rattle.history.specs.Served.{Turn, AllBytewise, Run, run, tables, notes, noted, serves, started, Calls}

-- the history that the notes of a run are, on what it begins with
abbrev pub past : Start → Run → History
past s r = read s (notes r)

module _ (s : Start) (r : Run) where
  -- (i) holders read from the history are the table's: "the grabber, the inhibitors, the giver in giving; nobody in given"
  abbrev pub SameHolders : Type 0
  SameHolders = (k u : ℕ) → held (gain (past s r) k u) ≡ holder (tables r) k u

  -- (ii) a holder whose last gain was a grab or an accepted offer is the only one
  abbrev pub OnlyHolder : Type 0
  OnlyHolder = (k u v : ℕ) → So (alone (gain (past s r) k u)) → So (held (gain (past s r) k v)) → v ≡ u

  -- (iii) the number of tokens with a holder or an open offer is the table's count, and within the limit
  abbrev pub Counted : (tokens : ℕ) → Type 0
  Counted tokens = (count (past s r) ≡ used (tables r).tokens.ids) × (count (past s r) ≤ tokens)

  -- (iv) a grab or inhibit by an attached user, answered 0, is told too-many-tokens exactly when a free token is asked for at the limit
  abbrev pub ToldFull : (tokens : ℕ) (request : (ℕ → ℕ → Message)) → Type 0
  ToldFull tokens request =
      (p u k : ℕ) (os room : List ℕ) → Bytes os
      → heard os ≡ ok (request u k)
      → home (past s r) u ≡ some p
      → (noted r (message p os, room)).reply ≡ 0
      → told (read_note (noted r (message p os, room))) full u k ≡ (not (busy (past s r) k) && leb tokens (count (past s r)))

  -- all four
  abbrev pub Claims : (tokens : ℕ) → Type 0
  Claims tokens = SameHolders × OnlyHolder × Counted tokens × ToldFull tokens TGrq × ToldFull tokens TIrq

module _ (channels users tokens : ℕ) (before : Domain) (ts : List Turn) where
  -- any limits that `start` takes, any calls with any octets and any rooms
  abbrev pub OfRuns : Type 0
  OfRuns = (begun channels users tokens before).0 ≡ 0 → AllBytewise ts → Claims nothing_yet (serves (started channels users tokens before) ts) tokens

  -- the same of what the public functions did, from the tables that `start` left with reply 0
  abbrev pub OfCalls : Type 0
  OfCalls =
      (d : Domain) → ◌≡◌ {A = ℕ × Domain} (0, d) (begun channels users tokens before) → AllBytewise ts
      → (r : Run) → Calls (run d []) ts r → Claims nothing_yet r tokens

-- of every start that is answered 0
abbrev pub Demand3 : Type 0
Demand3 = (channels users tokens : ℕ) (before : Domain) (ts : List Turn) → OfRuns channels users tokens before ts × OfCalls channels users tokens before ts

-- ---- from an image: history begins with what it says

module _ (ts : List Turn) where
  -- from any good tables, with what their image says
  abbrev pub TablesRuns : Type 0
  TablesRuns = (d : Domain) → Good d → AllBytewise ts → Claims (begun_by (view d)) (serves (run d []) ts) d.limits.tokens

  module _ (image : List ℕ) (before : Domain) where
    -- from the tables that are read from an image, with what its octets say
    abbrev pub ImageRuns : Type 0
    ImageRuns =
        (restored image before).0 ≡ 0 → Bytes image → AllBytewise ts
        → Claims (start_of image) (serves (run (restored image before).1 []) ts) (restored image before).1.limits.tokens

    -- the same of what the public functions did, from the tables that reading left with reply 0
    abbrev pub ImageCalls : Type 0
    ImageCalls =
        (d : Domain) → ◌≡◌ {A = ℕ × Domain} (0, d) (restored image before) → Bytes image → AllBytewise ts
        → (r : Run) → Calls (run d []) ts r → Claims (start_of image) r d.limits.tokens

-- of every image that is read with reply 0
abbrev pub Demand3FromImage : Type 0
Demand3FromImage = (image : List ℕ) (before : Domain) (ts : List Turn) → ImageRuns ts image before × ImageCalls ts image before
