-- What the public functions did, one call after another, is a run; and each one's promise is a call. Assumes nothing.
use mathlib.Core.Path.{◌≡◌, refl, sym, ap, ◌∙◌}
use mathlib.Core.List.{List, [], ◌∷◌}
use Prim.Native.Nat.{ℕ}
use Rattle.domain.specs.declared.answer.Answer.{Answer}
use Rattle.domain.specs.declared.numbers.Reply.{Reply}
use Rattle.domain.specs.Numbers.{reply_number}
use Rattle.domain.specs.Tables.{Domain, put_links}
use Rattle.domain.specs.Effects.{Settled, settled, answered}
use Rattle.domain.specs.Events.{opens, loses, hears}
use Rattle.domain.specs.Outcomes.{after, begun}
use Rattle.serve_read.specs.Understood.{understood}
use Rattle.history.specs.Recorded.{opening, losing, message, Note, note}
use Rattle.history.specs.Served.{Turn, event, Run, run, tables, notes, noting, noted, served, serves, started, Calls, no_more, then_calls}

-- call by call, by the promises alone
pub calls_run : {r : Run} {ts : List Turn} {q : Run} → Calls r ts q → q ≡ serves r ts
unfolding serves served tables notes
calls_run no_more = refl
calls_run (then_calls {ns = ns} {c = c} {ts = ts} a h rest) =
    calls_run rest ∙ ap (λ (s : Settled Domain). serves (run s.tables (noting c s ∷ ns)) ts) h

-- what holds of the run from a domain just made holds of what was called from the tables that `start` left with reply 0
pub start_calls : (P : Run → Type 0) (channels users tokens : ℕ) (before : Domain) (ts : List Turn)
    → ((begun channels users tokens before).0 ≡ 0 → P (serves (started channels users tokens before) ts))
    → (d : Domain) → ◌≡◌ {A = ℕ × Domain} (0, d) (begun channels users tokens before) → (r : Run) → Calls (run d []) ts r → P r
unfolding started
start_calls P channels users tokens before ts law d z r c =
    let e : run d [] ≡ started channels users tokens before = ap (λ (x : ℕ × Domain). run x.1 []) z in
    let q : r ≡ serves (started channels users tokens before) ts = calls_run c ∙ ap (λ (x : Run). serves x ts) e in
    rw q (law (sym (ap (λ (x : ℕ × Domain). x.0) z)))

-- `open`, `lose` and `message`, by what each promises
module _ (ns : List Note) (p : ℕ) where
  -- nothing is sent, whatever the room
  pub open_call : (d : Domain) (links left : ℕ) (room : List ℕ) (r : Reply)
      → ((d : Domain) (out : List ℕ) → settled (reply_number r) 0 (put_links d left) out ≡ after (put_links d links) (opens p) out)
      → Calls (run (put_links d links) ns) ((opening p, room) ∷ []) (run (put_links d left) (note (opening p) (reply_number r) [] ∷ ns))
  unfolding event
  open_call d links left room r h = then_calls {behind = room} (record { reply = r; sent = 0 }) (h d room) no_more

  module _ (d e : Domain) (room behind : List ℕ) (a : Answer) where
    -- a loss
    pub lose_call : answered a e behind ≡ after d (loses p) room
        → Calls (run d ns) ((losing p, room) ∷ []) (run e (noting (losing p) (answered a e behind) ∷ ns))
    unfolding event
    lose_call h = then_calls a h no_more

    -- a message of any octets
    pub message_call : (os : List ℕ) → answered a e behind ≡ after d (hears p (understood os)) room
        → Calls (run d ns) ((message p os, room) ∷ []) (run e (noting (message p os) (answered a e behind) ∷ ns))
    unfolding event
    message_call os h = then_calls a h no_more

-- what is noted of the next call is fixed by its promise
pub call_noted : (r : Run) (t : Turn) (a : Answer) (e : Domain) (behind : List ℕ) → answered a e behind ≡ after (tables r) (event t.0) t.1
    → noting t.0 (answered a e behind) ≡ noted r t
call_noted r t a e behind h = ap (noting t.0) h
