-- T-08, "One list of leavers or two", of what the public functions do: octets in, tables out, from any run.
use Rattle.std.specs.Prelude.{ℕ, ◌≤◌, ◌≡◌, List, [], ◌∷◌, length}
use Rattle.codec_octets.specs.Octets.{Bytes}
use Rattle.codec_table.specs.Codec.{ok}
use Rattle.codec_table.specs.Named.{DUrq, heard}
use Rattle.domain_laws.specs.LeavingInTwo.{NamesBoth}
use Rattle.history.specs.Recorded.{message}
use Rattle.history.specs.Served.{Turn, Run, tables, noted, served, serves, Calls}
use Rattle.history.specs.Begins.{FromStart, FromImage}

-- octets that are read as a DUrq, and the room lent for its answer
pub record Detaching : Type 0 where
  pub octets : List ℕ
  pub room : List ℕ
  pub reason : ℕ
  pub ids : List ℕ
  pub bytes : Bytes octets
  pub read : heard octets ≡ ok (DUrq reason ids)

-- they come on connection p
abbrev pub on : ℕ → Detaching → Turn
on p x = (message p x.octets, x.room)

-- "every answer has room"
abbrev pub HasRoom : Run → Turn → Type 0
HasRoom r t = (noted r t).reply ≡ 9 → ⊥

-- one message of all, or one of some and one of the others: "ends in the same tables", all columns, "and nothing comes between the two"
module _ (r : Run) (p : ℕ) (whole a b : Detaching) where
  abbrev pub EqualTables : Type 0
  EqualTables = tables (serves r (on p a ∷ on p b ∷ [])) ≡ tables (serves r (on p whole ∷ []))

  -- the same of what the public functions left
  abbrev pub EqualLeft : Type 0
  EqualLeft = (q z : Run) → Calls r (on p a ∷ on p b ∷ []) q → Calls r (on p whole ∷ []) z → tables q ≡ tables z

  -- where every answer has room
  abbrev pub WhereRoom : Type 0 → Type 0
  WhereRoom Claim = NamesBoth whole.ids a.ids b.ids → HasRoom r (on p whole) → HasRoom r (on p a) → HasRoom (served r (on p a)) (on p b) → Claim

  -- so it is with 17,200 octets
  abbrev pub WhereAmple : Type 0 → Type 0
  WhereAmple Claim =
      NamesBoth whole.ids a.ids b.ids → 17200 ≤ length whole.room → 17200 ≤ length a.room → 17200 ≤ length b.room → Claim

-- of a run: two lists a and b, in this order; since they are any two, in the other order too
abbrev pub InTwo : Run → Type 0
InTwo r =
    (p : ℕ) (whole a b : Detaching)
    → WhereRoom r p whole a b (EqualTables r p whole a b) × WhereAmple r p whole a b (EqualTables r p whole a b)
    × WhereRoom r p whole a b (EqualLeft r p whole a b) × WhereAmple r p whole a b (EqualLeft r p whole a b)

-- after any calls from a start that is answered 0
abbrev pub InTwoFromStart : Type 0
InTwoFromStart = FromStart (λ s r. InTwo r)

-- and from an image that is read with reply 0
abbrev pub InTwoFromImage : Type 0
InTwoFromImage = FromImage (λ s r. InTwo r)
