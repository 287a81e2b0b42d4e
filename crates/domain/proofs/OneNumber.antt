-- Each reply has a number of its own. Assumes nothing.
use Rattle.std.specs.Prelude.{if◌then◌else◌}
use mathlib.Core.Path.{◌≡◌, refl, sym, ap, ◌∙◌}
use Prim.Native.Nat.{ℕ}
use lib.Dec.{eqb}
use Rattle.domain.specs.declared.numbers.Reply.{Reply}
use Rattle.domain.specs.declared.numbers.Reply.TheVariants.{Done, Ignored, NotOpen, OpenAlready, WrongLength, BadEncoding, MayNotGoUp, NotServed, TooLong, NoRoom, BadLimit, BadFrame}
use Rattle.domain.specs.Numbers.{reply_number}

reply_of : ℕ → Reply
reply_of n =
    if eqb n 0 then Done else if eqb n 1 then Ignored else if eqb n 2 then NotOpen else if eqb n 3 then OpenAlready
    else if eqb n 4 then WrongLength else if eqb n 5 then BadEncoding else if eqb n 6 then MayNotGoUp else if eqb n 7 then NotServed
    else if eqb n 8 then TooLong else if eqb n 9 then NoRoom else if eqb n 10 then BadLimit else BadFrame

reply_back : (r : Reply) → reply_of (reply_number r) ≡ r
unfolding reply_of
reply_back Done = refl
reply_back Ignored = refl
reply_back NotOpen = refl
reply_back OpenAlready = refl
reply_back WrongLength = refl
reply_back BadEncoding = refl
reply_back MayNotGoUp = refl
reply_back NotServed = refl
reply_back TooLong = refl
reply_back NoRoom = refl
reply_back BadLimit = refl
reply_back BadFrame = refl

pub same_reply : (r q : Reply) → reply_number r ≡ reply_number q → r ≡ q
same_reply r q e = sym (reply_back r) ∙ ap reply_of e ∙ reply_back q
