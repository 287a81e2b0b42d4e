-- The parts of a farewell, under a name each.
use Rattle.std.specs.Prelude.{ℕ, Bool, ◌&&◌, List, [], eqb, get_or, if◌then◌else◌}
use Rattle.cols_spec.specs.Sets.{null, has}
use Rattle.cols_spec.specs.Places.{find, load}
use Rattle.codec_table.specs.Named.{DUin}
use Rattle.out_records.specs.Records.{Sent, tell}
use Rattle.domain.specs.declared.channel.Kind.{Kind}
use Rattle.domain.specs.Cells.{no_channel, kind}
use Rattle.domain.specs.Tables.{Users, Channels, Tokens, state}
use Rattle.domain.specs.Leaving.{ended, returned}

-- DUin by connection, none where nobody leaves
abbrev pub parting : (live reason : ℕ) (ids : List ℕ) → List Sent
parting live reason ids = if null ids then [] else tell live (DUin reason ids)

-- the kind of channel c
abbrev pub kind_at : Channels → ℕ → Kind
kind_at cs c = kind (load cs.cells (find cs.ids c) no_channel)

-- a private channel, role 3, ends where its manager leaves
abbrev pub ends_by : (gone role chair : ℕ) → Bool
ends_by gone role chair = eqb role 3 && has gone chair

-- the channel at place j ends
abbrev pub ends_there : (gone : ℕ) (roles chairs : List ℕ) → ℕ → Bool
ends_there gone roles chairs j = ends_by gone (get_or roles j 0) (get_or chairs j 0)

-- CDin for channel c, and TVcf for token k
abbrev pub end_at : (us : Users) (cs : Channels) (gone live c : ℕ) → List Sent
end_at us cs gone live c = ended us gone live c (kind_at cs c)

abbrev pub return_at : (us : Users) (ts : Tokens) (gone k : ℕ) → List Sent
return_at us ts gone k = returned us gone k (state ts k)
