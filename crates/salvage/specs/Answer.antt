-- What salvaging a trace answers, and what stands in both rooms then: document 02, "Salvage a torn trace".
use Rattle.std.specs.Prelude.{ℕ, ◌+◌, Bool, ◌&&◌, cond, List, [], ◌∷◌, ◌++◌, leb, length, drop}
use Rattle.codec_octets.specs.Octets.{octets_of}
use Rattle.salvage.specs.declared.Salvaged.{Salvaged}
use Rattle.salvage.specs.Spans.{Span, kept, cut, spans}

-- "the frames that can be kept", one behind the other
unfoldable pub kept_in : List Span → List ℕ
kept_in [] = []
kept_in (kept os ∷ xs) = os ++ kept_in xs
kept_in (cut os ∷ xs) = kept_in xs

-- an entry of the list: start and length, 8 octets each, the most significant first
unfoldable pub entry : (start size : ℕ) → List ℕ
entry start size = octets_of 8 start ++ octets_of 8 size

-- "a list of every span cut out (start and length)", where the first of these spans starts at this place
unfoldable pub cuts_from : ℕ → List Span → List ℕ
cuts_from at [] = []
cuts_from at (kept os ∷ xs) = cuts_from (at + length os) xs
cuts_from at (cut os ∷ xs) = entry at (length os) ++ cuts_from (at + length os) xs

-- the octets that are written and the list of what is cut
unfoldable pub output : List ℕ → List ℕ
output trace = kept_in (spans trace)

unfoldable pub cut_list : List ℕ → List ℕ
cut_list trace = cuts_from 0 (spans trace)

-- octets at the front of a room; what stands behind them stays
abbrev pub over : (os room : List ℕ) → List ℕ
over os room = os ++ drop (length os) room

abbrev pub fits : (trace out list : List ℕ) → Bool
fits trace out list = leb (length (output trace)) (length out) && leb (length (cut_list trace)) (length list)

-- the answer and both rooms: 0 with both lengths; "9 where the output or the list has too little room, with both untouched"
unfoldable pub salvaged : (trace out list : List ℕ) → Salvaged × List ℕ × List ℕ
salvaged trace out list =
    cond (fits trace out list)
    (record { reply = 0; kept = length (output trace); cuts = length (cut_list trace) }, over (output trace) out, over (cut_list trace) list)
    (record { reply = 9; kept = 0; cuts = 0 }, out, list)
