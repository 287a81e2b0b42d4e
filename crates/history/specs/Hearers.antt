-- Who could have heard, claimed of every run of the provider from a domain just made, or from the tables of an image, read from what can be recorded of it alone.
use Rattle.std.specs.Prelude.{ℕ}
use Rattle.std.proofs.Math.Option.{Option}
use Rattle.codec_table.specs.Named.{Message}
use Rattle.domain.specs.History.{Start}
use Rattle.domain.specs.Hearers.{Hearing, DataRight}
use Rattle.history.specs.Served.{Run, tables}
use Rattle.history.specs.Begins.{FromStart, FromTables, FromImage}
use Rattle.history.specs.Claims.{past}

-- ---- who could have heard

-- of a run: domain, Hearers.Hearing
abbrev pub Heard : Start → Run → Type 0
Heard s r = Hearing (past s r) (tables r)

-- of every start that is answered 0
abbrev pub WhoHeard : Type 0
WhoHeard = FromStart Heard

-- of all good tables
abbrev pub WhoHeardFromTables : Type 0
WhoHeardFromTables = FromTables Heard

-- of every image that is read with reply 0
abbrev pub WhoHeardFromImage : Type 0
WhoHeardFromImage = FromImage Heard

-- ---- with T-01, where data went; `data_on` is to give the channel of SDin and USin

module _ (data_on : (Message → Option ℕ)) where
  -- of a run: in each event, data on a channel that is private by the history went only to connections that could have heard
  abbrev pub HasHeardData : Start → Run → Type 0
  HasHeardData s r = DataRight data_on (past s r)

  -- of every start that is answered 0
  abbrev pub DataHeard : Type 0
  DataHeard = FromStart HasHeardData

  -- of all good tables
  abbrev pub DataHeardFromTables : Type 0
  DataHeardFromTables = FromTables HasHeardData

  -- of every image that is read with reply 0
  abbrev pub DataHeardFromImage : Type 0
  DataHeardFromImage = FromImage HasHeardData
