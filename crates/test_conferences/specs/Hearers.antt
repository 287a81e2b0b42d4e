-- A private channel, and who could have heard after each event: by the history alone, and marked by the table. What is said was worked out by an
-- independent model.
use Rattle.std.specs.Prelude.{ℕ, Bool, ◌&&◌, List, [], ◌∷◌}
use Rattle.cols_spec.specs.Sets.{any, keep}
use Rattle.codec_table.specs.Named.{AUrq, CArq, CCrq, CDrq, CErq, CJrq, DUrq}
use Rattle.domain.specs.Channels.{joined as marked}
use Rattle.domain.specs.Tables.{fresh}
use Rattle.domain.specs.Events.{opens, loses, hears, reads}
use Rattle.domain.specs.History.{nothing_yet, begins, home}
use Rattle.domain.specs.Claims.{Turn, Run, run, now, past, next_run}
use Rattle.domain.specs.Hearers.{known_as, told_joined, entitled}

-- q carries one of these users who may hear c, and was told that it is joined
unfoldable pub could : (r : Run) (c q : ℕ) → Bool
could r c q = told_joined (past r) c q && any (λ u. known_as (home (past r) u) q && entitled (past r) c u) (1001 ∷ 1002 ∷ [])

-- of connections 0 and 1 those who could have heard channel 1003, and those marked on it
abbrev pub Heard : Type 0
Heard = List ℕ × List ℕ

unfoldable pub heard : Run → Heard
heard r = (keep (could r 1003) (0 ∷ 1 ∷ []), keep (λ q. marked (now r).channels q 1003) (0 ∷ 1 ∷ []))

-- after each event
unfoldable pub hearings : Run → List Turn → List Heard
hearings r [] = []
hearings r (t ∷ ts) = heard (next_run r t) ∷ hearings (next_run r t) ts

unfoldable pub from_start : List Turn → List Heard
from_start ts = hearings (run (fresh (record { channels = 128; users = 64; tokens = 64 })) (begins nothing_yet)) ts

-- 1001 on 0 manages 1003; 1002 on 1 is admitted and joins, is expelled, is admitted again and joins, and leaves
unfoldable pub turns : List Turn
turns =
    (opens 0, 17200)
    ∷ (opens 1, 17200)
    ∷ (hears 0 (reads AUrq), 17200)
    ∷ (hears 1 (reads AUrq), 17200)
    ∷ (hears 0 (reads (CCrq 1001)), 17200)
    ∷ (hears 0 (reads (CArq 1001 1003 (1002 ∷ []))), 17200)
    ∷ (hears 1 (reads (CJrq 1002 1003)), 17200)
    ∷ (hears 0 (reads (CErq 1001 1003 (1002 ∷ []))), 17200)
    ∷ (hears 0 (reads (CArq 1001 1003 (1002 ∷ []))), 17200)
    ∷ (hears 1 (reads (CJrq 1002 1003)), 17200)
    ∷ (hears 1 (reads (DUrq 3 (1002 ∷ []))), 17200)
    -- the next user on 1 gets the same id: it was never admitted
    ∷ (hears 1 (reads AUrq), 17200)
    -- 1 closes and opens: it was never told that it is joined
    ∷ (loses 1, 17200)
    ∷ (opens 1, 17200)
    ∷ (hears 1 (reads AUrq), 17200)
    ∷ (hears 0 (reads (CArq 1001 1003 (1002 ∷ []))), 17200)
    ∷ (hears 1 (reads (CJrq 1002 1003)), 17200)
    ∷ (hears 0 (reads (CJrq 1001 1003)), 17200)
    -- the channel ends, and the id is convened again
    ∷ (hears 0 (reads (CDrq 1001 1003)), 17200)
    ∷ (hears 0 (reads (CCrq 1001)), 17200)
    ∷ []

-- nobody, and connections 1, and 0 and 1
abbrev nobody : Heard
nobody = ([], [])

abbrev one : Heard
one = (1 ∷ [], 1 ∷ [])

abbrev both : Heard
both = (0 ∷ 1 ∷ [], 0 ∷ 1 ∷ [])

unfoldable pub said : List Heard
said =
    nobody ∷ nobody ∷ nobody ∷ nobody ∷ nobody ∷ nobody ∷ one ∷ nobody
    -- admitted again, 1 has its old CJcf, but no mark until it joins
    ∷ (1 ∷ [], []) ∷ one ∷ nobody
    ∷ nobody
    ∷ nobody ∷ nobody ∷ nobody ∷ nobody ∷ one ∷ both
    -- no CCcf, CJcf or CEin ends what the history has of a channel that ends
    ∷ (0 ∷ 1 ∷ [], []) ∷ nobody
    ∷ []
