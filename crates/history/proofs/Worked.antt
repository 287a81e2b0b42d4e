-- The trace of document 01 goes as noted, and its notes say who holds token 1: both sides compute to the same. Assumes nothing.
use mathlib.Core.Path.{◌≡◌, refl}
use mathlib.Core.Option.{Option, none, some}
use Prim.Native.Nat.{ℕ}
use Rattle.domain.specs.History.{nothing_yet, home, Gain, nothing, by_grab, gain}
use Rattle.domain.proofs.Opened.{opened}
use Rattle.domain.specs.Outcomes.{step_settled, after, begun}
use Rattle.serve_read.specs.Understood.{number_in, read_as, understood}
use Rattle.history.specs.Recorded.{read_call, size, is_record, inside, carried, read_some, read_records, read_note, read}
use Rattle.history.specs.Served.{event, tables, notes, served, serves, started}
use Rattle.history.specs.Example.{attaching, grabbing, room, turns, end, held_notes, all_notes}

-- the octets sent are those of the example
pub as_noted : notes end ≡ all_notes
unfolding opened number_in read_as understood step_settled after begun event tables notes served serves started attaching grabbing room turns end held_notes all_notes
as_noted = refl

-- 1001 is attached on 2 and holds token 1 until the loss
pub grabbed : ◌≡◌ {A = Option ℕ × Gain} (home (read nothing_yet held_notes) 1001, gain (read nothing_yet held_notes) 1 1001) (some 2, by_grab)
unfolding opened read_as read_call size is_record inside carried read_some read_records read_note read attaching grabbing held_notes
grabbed = refl

-- and then nothing
pub lost : ◌≡◌ {A = Option ℕ × Gain} (home (read nothing_yet all_notes) 1001, gain (read nothing_yet all_notes) 1 1001) (none, nothing)
unfolding opened read_as read_call size is_record inside carried read_some read_records read_note read attaching grabbing held_notes all_notes
lost = refl
