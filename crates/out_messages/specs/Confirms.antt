-- The four confirms of a token's requests: they differ in their number alone.
use Rattle.std.specs.Prelude.{ℕ}
use Rattle.codec_table.specs.Named.{Message, TGcf, TIcf, TVcf, TRcf}
use Rattle.out_messages.specs.declared.Confirm.{Confirm}
use Rattle.out_messages.specs.declared.Confirm.TheVariants.{Grab, Inhibit, Give, Release}

abbrev pub confirm : Confirm → (result user token status : ℕ) → Message
confirm Grab = TGcf
confirm Inhibit = TIcf
confirm Give = TVcf
confirm Release = TRcf

abbrev pub number : Confirm → ℕ
number Grab = 30
number Inhibit = 32
number Give = 36
number Release = 40
