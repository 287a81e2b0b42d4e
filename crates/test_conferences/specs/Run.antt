-- A run of the machine over events: what it says at each, and the tables then.
use Rattle.std.specs.Prelude.{ℕ, List, [], ◌∷◌}
use Rattle.out_records.specs.Records.{Sent}
use Rattle.domain.specs.Tables.{Domain, fresh}
use Rattle.domain.specs.Events.{step}
use Rattle.domain.specs.Claims.{Turn}
use Rattle.test_conferences.specs.View.{view}

-- the reply, the records and the tables
pub data Said : Type 0 where
  says : ℕ → List Sent → List ℕ → Said

unfoldable pub run : Domain → List Turn → List Said
run d [] = []
run d (t ∷ ts) =
    let o = step d t.0 t.1 in
    says o.reply o.sent (view o.domain) ∷ run o.domain ts

unfoldable pub runs : (channels users tokens : ℕ) → List Turn → List Said
runs c u t ts = run (fresh (record { channels = c; users = u; tokens = t })) ts
