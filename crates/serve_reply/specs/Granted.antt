-- What a confirm says: the id that is granted, or the result with which it is refused.
use Rattle.std.specs.Prelude.{ℕ, Ok, Err}
use Rattle.std.specs.Prelude.{Result as Either}
use Rattle.std.proofs.Math.Option.{Option, none, some}
use Rattle.codec_table.specs.Named.{successful}
use Rattle.domain.specs.Numbers.{result_number}
use Rattle.domain.specs.declared.numbers.Result.{Result}

abbrev pub code : Either ℕ Result → ℕ
code (Ok u) = successful
code (Err r) = result_number r

abbrev pub id : Either ℕ Result → Option ℕ
id (Ok u) = some u
id (Err r) = none
