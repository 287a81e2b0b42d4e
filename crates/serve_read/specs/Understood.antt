-- What the provider makes of the octets of a message.
use Rattle.std.specs.Prelude.{ℕ, ◌/◌, not, List, ltb, get_or, if◌then◌else◌}
use Rattle.codec_table.specs.Messages.{may_go_up, is_served}
use Rattle.codec_table.specs.Codec.{Outcome, ok, refuse, sized}
use Rattle.codec_table.specs.Named.{Message, heard}
use Rattle.domain.specs.Events.{Reading, reads, refuses}

-- The first 6 bits are the number
unfoldable pub number_in : List ℕ → ℕ
number_in os = get_or os 0 0 / 4

-- a message that is served, or 5 or 8, whichever the reading from the left meets first
unfoldable pub read_as : (os : List ℕ) (x : Outcome Message) → Reading
read_as os (ok m) = reads m
read_as os (refuse n) = refuses n os

-- Order: 4; then by message number: 43 to 63 gives 5, then 6, then 7; then 5 or 8
unfoldable pub understood : List ℕ → Reading
understood os =
    if not (sized os) then refuses 4 os
    else if ltb 42 (number_in os) then refuses 5 os
    else if not (may_go_up (number_in os)) then refuses 6 os
    else if not (is_served (number_in os)) then refuses 7 os
    else read_as os (heard os)
