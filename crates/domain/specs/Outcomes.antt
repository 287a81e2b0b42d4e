-- What one event does to the domain and to the room lent for its answer; how a domain starts, and what is asked of it.
use Rattle.std.specs.Prelude.{ℕ, List, ◌++◌, length, drop, if◌then◌else◌}
use Rattle.cols_spec.specs.Sets.{listed, connections}
use Rattle.cols_spec.specs.Places.{find, load}
use Rattle.out_records.specs.Records.{records}
use Rattle.domain.specs.declared.Limits.{Limits}
use Rattle.domain.specs.Cells.{no_channel}
use Rattle.domain.specs.Tables.{Channels, Domain, fresh, in_range}
use Rattle.domain.specs.Effects.{Settled, settled}
use Rattle.domain.specs.Events.{Event, step, Outcome as Stepped}

-- an event: the reply, the octets sent, the tables, and the room: the records from its start, and behind them what stood there
unfoldable pub step_settled : (o : Stepped) (out : List ℕ) → Settled Domain
step_settled o out = settled o.reply (length (records o.sent)) o.domain (records o.sent ++ drop (length (records o.sent)) out)

unfoldable pub after : (d : Domain) (e : Event) (out : List ℕ) → Settled Domain
after d e out = step_settled (step d e (length out)) out

-- 10: a start limit out of range, no domain; else a fresh domain with these limits
abbrev pub limited : (channels users tokens : ℕ) → Limits
limited channels users tokens = record { channels = channels; users = users; tokens = tokens }

unfoldable pub begun : (channels users tokens : ℕ) (before : Domain) → ℕ × Domain
begun channels users tokens before = if in_range (limited channels users tokens) then (0, fresh (limited channels users tokens)) else (10, before)

-- A channel's audience, the number of connections joined (0 if not in use)
unfoldable pub audience : (cs : Channels) (c : ℕ) → ℕ
audience cs c = length (listed connections (load cs.cells (find cs.ids c) no_channel).marks)
