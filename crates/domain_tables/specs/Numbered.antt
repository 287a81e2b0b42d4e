-- A place that code answers, and a token's cell stored where its place is known.
use Rattle.std.specs.Prelude.{ℕ, Option, Some, None, eqb, if◌then◌else◌}
use Rattle.cols_spec.specs.Places.{Place, At, Nowhere, found, spare, store}
use Rattle.domain.specs.declared.token.Token.{Token}
use Rattle.domain.specs.Tables.{Tokens}

-- a place that code answers, or none
abbrev pub placed : Option ℕ → Place
placed (Some i) = At i
placed None = Nowhere

-- token k, whose place this is, has this cell: where its mode is 0 the place is free then, else has it; nowhere it gets the spare one
unfoldable pub set_at : (ts : Tokens) (at : Place) (k : ℕ) (t : Token) → Tokens
set_at ts at k t =
    let seat = if found at then at else spare ts.ids in
    if eqb t.mode 0 then record { ids = store ts.ids at 0; cells = store ts.cells at t }
    else record { ids = store ts.ids seat k; cells = store ts.cells seat t }
