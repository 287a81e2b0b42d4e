-- What one call of the provider leaves where it is asked for an id: the promise that the judge needs of `message`, with one number more.
use Rattle.std.specs.Prelude.{ℕ, ◌≤◌, ◌≡◌, List, length, take}
use Rattle.out_records.specs.Records.{records}
use Rattle.domain.specs.Tables.{Domain}
use Rattle.domain.specs.Effects.{Settled}
use Rattle.domain.specs.Events.{Event, opens, loses, step_with}
use Rattle.domain.specs.Outcomes.{step_settled, after}
use Rattle.domain.specs.Good.{Good}
use Rattle.history.specs.Recorded.{Call}
use Rattle.history.specs.Served.{event, Bytewise}
use Rattle.judging.specs.Conforming.{ample, demanded}
use Rattle.judging.specs.Judge.{chosen}

-- the id `wish` is handed out where it is free and from 1001, else our own
unfoldable pub after_wished : (wish : ℕ) (d : Domain) (e : Event) (out : List ℕ) → Settled Domain
after_wished wish d e out = step_settled (step_with (chosen d.channels wish) d e (length out)) out

-- with no wish it is what is promised now
abbrev pub NoWish : Type 0
NoWish = (d : Domain) (e : Event) (out : List ℕ) → after_wished 0 d e out ≡ after d e out

-- opening and losing a connection know no wish
abbrev pub NeverWished : Type 0
NeverWished =
    (wish : ℕ) (d : Domain) (p : ℕ) (out : List ℕ)
    → (after_wished wish d (opens p) out ≡ after d (opens p) out) × (after_wished wish d (loses p) out ≡ after d (loses p) out)

-- in a room for every answer: the tables are those demanded, and the octets sent are the records demanded
pub record WishedStep (wish : ℕ) (d : Domain) (c : Call) (s : Settled Domain) : Type 0 where
  pub tables : s.tables ≡ (demanded (chosen d.channels wish) d c).domain
  pub octets : take s.sent s.room ≡ records (demanded (chosen d.channels wish) d c).sent

-- of good tables, and octets below 256
abbrev pub WishSteps : Type 0
WishSteps =
    (wish : ℕ) (d : Domain) (c : Call) (out : List ℕ) → Good d → Bytewise c → ample ≤ length out → WishedStep wish d c (after_wished wish d (event c) out)
