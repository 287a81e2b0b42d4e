-- A run of the provider, read from what was noted, is the run of the domain's machine over the same events: the tables are the same, and the
-- histories say the same. Assumes nothing.
use mathlib.Core.Path.{◌≡◌, refl}
use mathlib.Core.Bool.{So}
use mathlib.Core.List.{List, [], ◌∷◌, ◌++◌, map}
use Prim.Native.Nat.{ℕ}
use lib.ListN.{length, take, drop}
use lib.Seq.{take-append_seam}
use Rattle.cols_spec.specs.Sets.{all}
use Rattle.cols_spec.proofs.Bools.{and_parts, and_both}
use Rattle.codec_table.proofs.NamedLaws.{User}
use Rattle.out_records.specs.Records.{Sent, records}
use Rattle.domain.specs.Tables.{Domain, grant, between}
use Rattle.domain.specs.Events.{step}
use Rattle.domain.specs.Good.{Good}
use Rattle.domain.specs.History.{Entry, Start, History, ◌▹◌}
use Rattle.domain.specs.Claims.{formed, Turn as EventTurn, Run as EventRun, run as event_run, now, past, next_run, goes}
use Rattle.domain.proofs.invariant.Sound.{between_is}
use Rattle.domain.proofs.invariant.GoodIsSound.{good_sound}
use Rattle.domain.proofs.invariant.Invariant.{grant_free, good_next}
use Rattle.domain.specs.Outcomes.{step_settled as answer_turned, after}
use Rattle.history.specs.Recorded.{read_note, read_records, read}
use Rattle.history.specs.Served.{Turn, event, Bytewise, AllBytewise, Run, tables, notes, noted, served, serves}
use Rattle.history.proofs.ReadBack.{Readables, read_back}
use Rattle.history.proofs.Sendable.{sent_readable}
use Rattle.history.proofs.AsHeard.{event_legible, event_formed, same_event}
use Rattle.history.proofs.Alike.{Like, Alike}

-- a turn, as the machine takes it: the event, and how much room there is
abbrev pub as_event : Turn → EventTurn
as_event t = (event t.0, length t.1)

-- the machine takes each of them
pub all_formed : (ts : List Turn) → AllBytewise ts → So (all (λ t. formed t.0) (map as_event ts))
unfolding all
all_formed [] y = refl
all_formed (t ∷ ts) y = and_both (event_formed t.0 y.0) (all_formed ts y.1)

-- the entry that the machine's run has for a turn
abbrev pub entry : Domain → Turn → Entry
entry d t = let o = step d (event t.0) (length t.1) in record { event = event t.0; reply = o.reply; sent = o.sent }

-- the id of a new user or channel is in its range
granted : (d : Domain) → Good d → User (grant d.channels)
granted d g = let b = between_is 1001 65535 (grant d.channels) (and_parts (between 1001 65535 (grant d.channels)) _ (grant_free d g)).0 in record { least = b.0; most = b.1 }

-- the records sent stand at the start of the room
sent_first : (rs : List Sent) (out : List ℕ) → Readables rs → read_records (take (length (records rs)) (records rs ++ drop (length (records rs)) out)) ≡ rs
sent_first rs out h = rw (take-append_seam (records rs) (drop (length (records rs)) out)) (read_back rs h)

-- a note is read as that entry
pub note_like : (r : Run) (t : Turn) → Good (tables r) → Bytewise t.0 → Like (read_note (noted r t)) (entry (tables r) t)
unfolding read_note after answer_turned
note_like r t g y = record {
  reply = refl;
  sent = sent_first _ t.1 (sent_readable (tables r) (good_sound (tables r) g) (granted (tables r) g) (event t.0) (length t.1) (event_legible t.0 y));
  event = same_event (tables r) t.0 (length t.1);
}

-- the same tables, and histories that say the same
pub record Follows (s : Start) (r : Run) (q : EventRun) : Type 0 where
  pub same_tables : tables r ≡ now q
  pub alike : Alike (read s (notes r)) (past q)

-- turn by turn, from any good tables and histories that say the same
pub follows : (b : Start) (ts : List Turn) (r : Run) (h : History) → Good (tables r) → Alike (read b (notes r)) h → AllBytewise ts
    → Follows b (serves r ts) (goes (event_run (tables r) h) (map as_event ts))
unfolding serves goes next_run now past served tables notes read after answer_turned
follows b [] r h g s y = record { same_tables = refl; alike = s }
follows b (t ∷ ts) r h g s y =
    follows b ts (served r t) (entry (tables r) t ▹ h) (good_next (tables r) g (event t.0) (length t.1) (event_formed t.0 y.0)) (note_like r t g y.0, s) y.1
