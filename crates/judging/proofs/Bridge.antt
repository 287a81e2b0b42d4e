-- What is recorded of a run of the provider, as a trace, conforms. Assumes nothing.
use mathlib.Core.Path.{◌≡◌, sym, ap, ◌∙◌}
use mathlib.Core.List.{List, [], ◌∷◌, ◌++◌, map, map-map, append-nil, append_assoc}
use Prim.Native.Nat.{ℕ}
use lib.ListN.{length, take, drop}
use lib.Seq.{take-append_seam}
use Rattle.out_records.specs.Records.{records}
use Rattle.domain.specs.Tables.{Domain, fresh}
use Rattle.domain.specs.Events.{Outcome, step}
use Rattle.domain.specs.Outcomes.{step_settled, after, limited, begun}
use Rattle.history.specs.Recorded.{Call}
use Rattle.history.specs.Served.{event, Turn, AllBytewise, Run, run, tables, notes, served, serves, started}
use Rattle.history.proofs.Called.{start_calls}
use Rattle.history.proofs.Runs.{begun_fresh}
use Rattle.judging.specs.Traces.{Frame, came, went}
use Rattle.judging.specs.Conforming.{shown, due}
use Rattle.judging.specs.Room.{packets}
use Rattle.judging.specs.Claims.{our_trace, Roomy, traced, None9, NotesConform, BridgeConforms}
use Rattle.judging.proofs.InRoom.{due_there}
use Rattle.judging.proofs.Own.{ours}

-- a turn as the machine takes it
abbrev sized : Turn → Call × ℕ
sized t = (t.0, length t.1)

-- the records sent, as frames
sent_frames : (o : Outcome) (out : List ℕ)
    → map went (packets (take (length (records o.sent)) (records o.sent ++ drop (length (records o.sent)) out))) ≡ map (λ s. went (shown s)) o.sent
unfolding due
sent_frames o out = rw (take-append_seam (records o.sent) (drop (length (records o.sent)) out), due_there o) (map-map went shown o.sent)

-- one turn
one_more : (r : Run) (t : Turn) (ts : List (Call × ℕ)) → traced (notes (served r t)) ++ our_trace (tables (served r t)) ts ≡ traced (notes r) ++ our_trace (tables r) ((t.0, length t.1) ∷ ts)
unfolding traced notes tables served our_trace after step_settled
one_more r t ts =
    let o : Outcome = step (tables r) (event t.0) (length t.1) in
    let os : List ℕ = take (length (records o.sent)) (records o.sent ++ drop (length (records o.sent)) t.1) in
    append_assoc (traced (notes r)) (came t.0 ∷ map went (packets os)) (our_trace o.domain ts)
    ∙ ap (λ (fs : List Frame). traced (notes r) ++ (came t.0 ∷ (fs ++ our_trace o.domain ts))) (sent_frames o t.1)

-- the trace of the notes is that of the machine
same_trace : (ts : List Turn) (r : Run) → traced (notes (serves r ts)) ≡ traced (notes r) ++ our_trace (tables r) (map sized ts)
unfolding serves our_trace
same_trace [] r = sym (append-nil (traced (notes r)))
same_trace (t ∷ ts) r = same_trace ts (served r t) ∙ one_more r t (map sized ts)

-- no later turn takes a note away
none_before : (ts : List Turn) (r : Run) → None9 (notes (serves r ts)) → None9 (notes r)
unfolding serves served notes
none_before [] r h = h
none_before (t ∷ ts) r h = (none_before ts (served r t) h).1

-- so there was room for every answer
all_roomy : (ts : List Turn) (r : Run) → AllBytewise ts → None9 (notes (serves r ts)) → Roomy (tables r) (map sized ts)
unfolding serves served notes tables after step_settled
all_roomy [] r y h = tt
all_roomy (t ∷ ts) r y h = (y.0, (none_before ts (served r t) h).0, all_roomy ts (served r t) y.1 h)

-- J2 of octets: of the run
run_conforms : (channels users tokens : ℕ) (before : Domain) (ts : List Turn) → AllBytewise ts → (begun channels users tokens before).0 ≡ 0
    → NotesConform (limited channels users tokens) (serves (started channels users tokens before) ts)
unfolding traced notes tables
run_conforms channels users tokens before ts y z h =
    let b = begun_fresh channels users tokens before z in
    let r : Run = run (fresh (limited channels users tokens)) [] in
    let n : None9 (notes (serves r ts)) = rw b.1 at h in
    rw (b.1, same_trace ts r) (ours (limited channels users tokens) (map sized ts) b.0 (all_roomy ts r y n))

-- and of what was called
pub recorded : BridgeConforms
recorded channels users tokens before ts y =
    (run_conforms channels users tokens before ts y, start_calls (NotesConform (limited channels users tokens)) channels users tokens before ts (run_conforms channels users tokens before ts y))
