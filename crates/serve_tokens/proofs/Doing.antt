-- A deed that is done settles what its effect does. Assumes nothing.
use Rattle.std.specs.Prelude.{Some, None, if◌then◌else◌}
use mathlib.Core.Path.{◌≡◌, refl, sym, ap, ◌∙◌}
use mathlib.Core.List.{List, [], ◌∷◌}
use Prim.Native.Nat.{ℕ, ◌≤◌}
use lib.Dec.{eqb}
use lib.ListN.{length}
use types.Run.{OneOf, miss}
use denote.Enum.Bare.{sameb}
use denote.Enum.Declared.{tag_of}
use Rattle.out_records.specs.Records.{to, record_of}
use Rattle.out_records.specs.Out.{guarded}
use Rattle.domain.specs.declared.numbers.Reply.{Reply}
use Rattle.domain.specs.declared.numbers.Reply.TheVariants.{Done, NotOpen, OpenAlready, WrongLength, BadEncoding, MayNotGoUp, NotServed, TooLong, NoRoom, BadLimit, BadFrame}
use Rattle.domain.specs.contracts.numbers.Reply.{the_type as reply}
use Rattle.domain.specs.Numbers.{reply_number}
use Rattle.domain.specs.Tables.{Tokens}
use Rattle.domain.specs.Effects.{Effect, done, ignored, settled, settle}
use Rattle.domain.proofs.Effects.{delivers_none, settle_done}
use Rattle.serve_token_rules.specs.declared.Fate.{Fate}
use Rattle.serve_token_rules.specs.declared.Fate.TheVariants.{Ignored, Stays, Turns}
use Rattle.serve_token_rules.specs.declared.Told.{Told as ToldStruct}
use Rattle.serve_token_rules.specs.declared.Deed.{Deed}
use Rattle.serve_token_rules.specs.Deeds.{Told, Telling, Tells, fated, Doing, Does}
use Rattle.serve_token_rules.specs.contracts.Fate.{the_type}
use Rattle.serve_reply.specs.Whole.{whole}
use Rattle.serve_reply.proofs.Sending.{confirmed, did_either}

-- ---- a reply, by its name and by its number
pub no_room : (r : Reply) → sameb reply r NoRoom ≡ eqb (reply_number r) 9
no_room Done = refl
no_room Reply.Ignored = refl
no_room NotOpen = refl
no_room OpenAlready = refl
no_room WrongLength = refl
no_room BadEncoding = refl
no_room MayNotGoUp = refl
no_room NotServed = refl
no_room TooLong = refl
no_room NoRoom = refl
no_room BadLimit = refl
no_room BadFrame = refl

-- ---- who is told
module _ (d : Deed) (before after : Tokens) (e : Effect Tokens) (out : List ℕ) (t : Tells d after e) where
  told_one : (who : ToldStruct) → d.told ≡ Some who → Told who.q who.m after e
  unfolding Telling
  told_one who b = rw b at t

  pub told_sent : (who : ToldStruct) → d.told ≡ Some who → length who.m ≤ 1024 → {n k : ℕ} {o : List ℕ} → settled {A = Unit {0}} n k tt o ≡ whole (guarded 0 who.m (record_of who.m who.q)) out
      → settled n k (if eqb n 9 then before else after) o ≡ settle before e out
  told_sent who b l h =
      let one = told_one who b in
      did_either (to who.q one.message ∷ []) out (confirmed one.message who.q out one.octets l h) before after ∙ ap (λ (x : Effect Tokens). settle before x out) (sym one.effect)

  pub told_none : d.told ≡ None → settled 0 0 after out ≡ settle before e out
  unfolding Telling
  told_none b =
      let none : e ≡ done after [] = rw b at t in
      delivers_none 0 before after out ∙ settle_done before out after [] ∙ ap (λ (x : Effect Tokens). settle before x out) (sym none)

-- ---- what becomes of the token
pub unfated : (ts : Tokens) (k : ℕ) (fate : Fate) → OneOf (0 ∷ 1 ∷ []) (tag_of the_type fate) → ts ≡ fated ts k fate
unfolding fated
unfated ts k Ignored e = refl
unfated ts k Stays e = refl
unfated ts k (Turns t) e = absurd (miss (0 ∷ 1 ∷ []) 2 tt e)

goes_on : (fate : Fate) (rest : Type 0) (e : Effect Tokens) → OneOf (1 ∷ 2 ∷ []) (tag_of the_type fate) → Doing fate rest e → rest
unfolding Doing
goes_on Ignored rest e o r = absurd (miss (1 ∷ 2 ∷ []) 0 tt o)
goes_on Stays rest e o r = r
goes_on (Turns t) rest e o r = r

module _ (ts : Tokens) (k : ℕ) (d : Deed) (e : Effect Tokens) (does : Does ts k d e) where
  pub does_ignored : d.fate ≡ Ignored → e ≡ ignored
  unfolding Does Doing
  does_ignored f = rw f at does

  pub does_tell : OneOf (1 ∷ 2 ∷ []) (tag_of the_type d.fate) → Tells d (fated ts k d.fate) e
  unfolding Does
  does_tell o = goes_on d.fate (Tells d (fated ts k d.fate) e) e o does
