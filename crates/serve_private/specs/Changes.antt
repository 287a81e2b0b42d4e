-- What CArq and CErq make of a private channel.
use Rattle.std.specs.Prelude.{ℕ, List, Option, Some, None}
use Rattle.codec_table.specs.Named.{Message, CArq, CErq}
use Rattle.cols_spec.specs.Sets.{minus, union, seats}
use Rattle.domain.specs.declared.channel.Channel.{Channel}
use Rattle.domain.specs.Cells.{with_guests}
use Rattle.domain.specs.Tables.{Users, Channels, channel, set_channel}
use Rattle.domain.specs.Effects.{Effect, ignored}
use Rattle.domain.specs.Channels.{places, private_marks}
use Rattle.serve_private_tell.specs.declared.Pick.{Pick}
use Rattle.serve_private_tell.specs.declared.Pick.TheVariants.{Attached, Admitted}
use Rattle.serve_private_tell.specs.declared.Say.{Say}
use Rattle.serve_private_tell.specs.declared.Say.TheVariants.{Admits, Expels}
use Rattle.serve_private_tell.specs.Sieve.{sieved, tells}

-- who asks for it, and of which channel; the message that asks for it
abbrev pub asker : Say → ℕ
asker (Admits u c) = u
asker (Expels u c) = u

abbrev pub asked_of : Say → ℕ
asked_of (Admits u c) = c
asked_of (Expels u c) = c

abbrev pub asks : Say → List ℕ → Message
asks (Admits u c) ids = CArq u c ids
asks (Expels u c) ids = CErq u c ids

-- what a request about a private channel comes to, where its place is known, or nobody who asks manages it
abbrev pub at_managed : (cs : Channels) (place : Option ℕ) (go : (ℕ → ℕ → ℕ → Effect Channels)) → Effect Channels
at_managed cs (Some j) go = go j (channel cs j).chair (channel cs j).guests
at_managed cs None go = ignored

-- whose ids count, where these are admitted before; and the channel once the users at these places are admitted, or expelled
unfoldable pub picks : (say : Say) (adm : ℕ) → Pick
picks (Admits u c) adm = Attached
picks (Expels u c) adm = Admitted adm

unfoldable pub changed : (us : Users) (say : Say) (ch : Channel) (mask : ℕ) → Channel
changed us (Admits u c) ch mask = with_guests ch (union seats ch.guests mask) ch.marks
changed us (Expels u c) ch mask = private_marks us ch ch.chair (minus seats ch.guests mask) ch.marks

-- all of it, for the channel at place j
unfoldable pub changes : (us : Users) (cs : Channels) (j : ℕ) (say : Say) (ids : List ℕ) → Effect Channels
changes us cs j say ids =
    let list = sieved us (picks say (channel cs j).guests) ids in
    tells us say list (set_channel cs j (changed us say (channel cs j) (places us list)))
