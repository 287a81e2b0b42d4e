-- The numbers of the replies that document 01 lists for what the codec refuses.
use Rattle.std.specs.Prelude.{ℕ}
use Rattle.codec_octets.specs.declared.refusal.Refusal.{Refusal}
use Rattle.codec_octets.specs.declared.refusal.Refusal.TheVariants.{WrongLength, BadEncoding, NotServed, TooLong, NoRoom}

abbrev pub refusal_number : Refusal → ℕ
refusal_number WrongLength = 4
refusal_number BadEncoding = 5
refusal_number NotServed = 7
refusal_number TooLong = 8
refusal_number NoRoom = 9
