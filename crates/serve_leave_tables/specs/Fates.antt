-- What becomes of one place, under a name.
use Rattle.std.specs.Prelude.{ℕ, Bool, not, ◌&&◌, ◌||◌, List, eqb, if◌then◌else◌}
use Rattle.std.proofs.Math.Option.{Option, none, some}
use Rattle.cols_spec.specs.Sets.{member, has, with, minus, meet, connections, seats}
use Rattle.domain.specs.declared.channel.Channel.{Channel}
use Rattle.domain.specs.declared.channel.Kind.{Kind}
use Rattle.domain.specs.declared.channel.Kind.TheVariants.{Static, User, Private, Assigned}
use Rattle.domain.specs.declared.token.Token.{Token}
use Rattle.domain.specs.Cells.{kind, hold, token_of}
use Rattle.domain.specs.Tables.{Users, hosts, narrowed, is_free}
use Rattle.domain.specs.Channels.{private_marks}
use Rattle.domain.specs.Tokens.{lose}

-- a token: its state without those who leave, or none where it is free
abbrev pub loses : (gone i k : ℕ) (t : Token) → Option Token
loses gone i k t = if is_free (lose gone (hold t)) then none else some (token_of (lose gone (hold t)))

-- a channel, by the ids listed and by places: a user's channel ends where its id is listed, a private one where its manager's place is gone
unfoldable pub fate_listed : (us : Users) (list : List ℕ) (gone live c : ℕ) (ch : Channel) (k : Kind) → Option Channel
fate_listed us list gone live c ch Static = narrowed ch (meet connections ch.marks live)
fate_listed us list gone live c ch User = if member c list then none else narrowed ch (meet connections ch.marks live)
fate_listed us list gone live c ch (Private g adm) = if has gone g then none else some (private_marks us ch g (minus seats adm gone) (meet connections ch.marks live))
fate_listed us list gone live c ch Assigned = narrowed ch (meet connections ch.marks live)

unfoldable pub fate_by : (us : Users) (list : List ℕ) (gone live c : ℕ) (ch : Channel) → Option Channel
fate_by us list gone live c ch = fate_listed us list gone live c ch (kind ch)

-- the same as a test of a role and a chair, of whether the id is listed and of the connections left
unfoldable pub ends_by : (role chair : ℕ) (listed : Bool) (gone m : ℕ) → Bool
ends_by role chair listed gone m = (eqb role 2 && listed) || (eqb role 3 && has gone chair) || (not (eqb role 2) && not (eqb role 3) && eqb m 0)

-- what is left of a channel that stays, by its role: its admitted users, and its connections, a private one's only with its manager or an admitted user
unfoldable pub guests_left : (role guests gone : ℕ) → ℕ
guests_left role guests gone = if eqb role 3 then minus seats guests gone else guests

unfoldable pub marks_left : (us : Users) (role chair guests m : ℕ) → ℕ
marks_left us role chair guests m = if eqb role 3 then meet connections m (hosts us (with seats guests chair)) else m
