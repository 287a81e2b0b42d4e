-- What any request about a token asks for.
use Rattle.std.specs.Prelude.{ℕ, Bool}
use Rattle.domain.specs.Tables.{Users, Tokens}
use Rattle.domain.specs.Effects.{Effect}
use Rattle.domain.specs.Passing.{please, test}
use Rattle.serve_token_rules.specs.Deeds.{asked}
use Rattle.serve_tokens.specs.declared.Wanted.{Wanted}
use Rattle.serve_tokens.specs.declared.Wanted.TheVariants.{Test, Please, Change}

-- what comes of each
abbrev pub wanted : (w : Wanted) (full : Bool) (us : Users) (ts : Tokens) (p u k : ℕ) → Effect Tokens
wanted Test full us ts p u k = test us ts p u k
wanted Please full us ts p u k = please us ts p u k
wanted (Change ask) full us ts p u k = asked ask full us ts p u k
