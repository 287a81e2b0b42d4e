-- When a trace conforms: there is a run by document 01, with some free ids, that gives it.
use Rattle.std.specs.Prelude.{ℕ, ◌≡◌}
use mathlib.Core.List.{List, [], ◌∷◌, map, Perm}
use Rattle.out_records.specs.Records.{Sent, to, wire}
use Rattle.domain.specs.declared.Limits.{Limits}
use Rattle.domain.specs.Tables.{Domain, fresh, FreeId}
use Rattle.domain.specs.Events.{Outcome, step_with}
use Rattle.history.specs.Recorded.{Call}
use Rattle.history.specs.Served.{event}
use Rattle.judging.specs.Traces.{Packet, on, Frame, Group, first_records, groups}

-- room for every answer: no other room gives more (Claims, room-for-all)
abbrev pub ample : ℕ
ample = 17200

-- one event by document 01 with room for its answer, where a new user, assigned or private channel gets the id `new`
unfoldable pub demanded : (new : ℕ) (d : Domain) (c : Call) → Outcome
demanded new d c = step_with new d (event c) ample

-- a record of the run as it stands in a trace: what goes over the wire
unfoldable pub shown : Sent → Packet
shown (to q m) = on q (wire m)

-- the records that are demanded
unfoldable pub due : Outcome → List Packet
due o = map shown o.sent

-- one event of a run with the records behind it, from tables d. There is a free id for which the group's records are those demanded, each once, in any order.
-- A free id is asked for also where the event hands out none: one is always free, and the event then goes the same way for each (Claims, same-or-one)
pub record RightGroup (d : Domain) (g : Group) : Type 0 where
  pub new : ℕ
  pub free : FreeId d new
  pub sent : Perm g.sent (due (demanded new d g.call))

-- what that event does
abbrev pub outcome : {d : Domain} {g : Group} → RightGroup d g → Outcome
outcome {d} {g} t = demanded t.new d g.call

-- a run over groups, from tables d
abbrev pub Runs : Domain → List Group → Type 0
Runs d [] = Unit {0}
Runs d (g ∷ gs) = (t : RightGroup d g) × Runs (outcome t).domain gs

-- replies, tables and records of a run, event by event
unfoldable pub outcomes : (d : Domain) (gs : List Group) (r : Runs d gs) → List Outcome
outcomes d [] r = []
outcomes d (g ∷ gs) r = outcome r.0 ∷ outcomes (outcome r.0).domain gs r.1

-- a trace that conforms: nothing is sent before the first event, and its groups are a run from a fresh domain with these limits
abbrev pub Conforms : Limits → List Frame → Type 0
Conforms l fs = (first_records fs ≡ []) × Runs (fresh l) (groups fs)
