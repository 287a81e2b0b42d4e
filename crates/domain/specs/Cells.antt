-- What the numbers of a place mean: the kind of a channel, the state of a token.
use Rattle.std.specs.Prelude.{ℕ, ◌+◌, ◌*◌, ◌/◌, ◌%◌, eqb, if◌then◌else◌}
use Rattle.domain.specs.declared.channel.Kind.{Kind}
use Rattle.domain.specs.declared.channel.Kind.TheVariants.{Static, User, Private, Assigned}
use Rattle.domain.specs.declared.channel.Channel.{Channel}
use Rattle.domain.specs.declared.token.Holding.{Holding}
use Rattle.domain.specs.declared.token.Holding.TheVariants.{Free, Grabbed, Inhibited, Giving, Given}
use Rattle.domain.specs.declared.token.Token.{Token}

-- what a free place holds
abbrev pub no_channel : Channel
no_channel = record { role = 0; chair = 0; guests = 0; marks = 0 }

abbrev pub no_token : Token
no_token = record { mode = 0; value = 0 }

-- role 2 user id, 3 private, 4 assigned; any other reads as static
unfoldable pub kind : Channel → Kind
kind ch =
    if eqb ch.role 2 then User
    else if eqb ch.role 3 then Private ch.chair ch.guests
    else if eqb ch.role 4 then Assigned
    else Static

-- a channel of a kind with these connections joined
unfoldable pub channel_of : Kind → ℕ → Channel
channel_of Static m = record { role = 1; chair = 0; guests = 0; marks = m }
channel_of User m = record { role = 2; chair = 0; guests = 0; marks = m }
channel_of (Private g us) m = record { role = 3; chair = g; guests = us; marks = m }
channel_of Assigned m = record { role = 4; chair = 0; guests = 0; marks = m }

-- the same channel with other connections joined, and with other users admitted too
unfoldable pub with_marks : Channel → ℕ → Channel
with_marks ch m = record { role = ch.role; chair = ch.chair; guests = ch.guests; marks = m }

unfoldable pub with_guests : (ch : Channel) (us m : ℕ) → Channel
with_guests ch us m = record { role = ch.role; chair = ch.chair; guests = us; marks = m }

-- mode 1 grabbed, 2 inhibited, 3 giving, 4 given; any other reads as free
unfoldable pub hold : Token → Holding
hold t =
    if eqb t.mode 1 then Grabbed (t.value % 64)
    else if eqb t.mode 2 then Inhibited t.value
    else if eqb t.mode 3 then Giving (t.value / 64 % 64) (t.value % 64)
    else if eqb t.mode 4 then Given (t.value % 64)
    else Free

unfoldable pub token_of : Holding → Token
token_of Free = no_token
token_of (Grabbed g) = record { mode = 1; value = g }
token_of (Inhibited us) = record { mode = 2; value = us }
token_of (Giving g r) = record { mode = 3; value = g * 64 + r }
token_of (Given r) = record { mode = 4; value = r }
