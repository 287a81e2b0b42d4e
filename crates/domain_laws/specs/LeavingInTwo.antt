-- T-08, "One list of leavers or two": users of one connection who leave in one DUrq, or in two.
use Rattle.std.specs.Prelude.{ℕ, ◌≡◌, ◌||◌, List}
use Rattle.cols_spec.specs.Sets.{member}
use Rattle.codec_table.specs.Named.{DUrq}
use Rattle.domain.specs.Tables.{Domain}
use Rattle.domain.specs.Events.{Outcome, hears, reads, step}
use Rattle.domain.specs.Good.{Good}

-- a DUrq: its reason and its ids; and the room for its answer
pub record Report : Type 0 where
  pub reason : ℕ
  pub ids : List ℕ
  pub room : ℕ

-- it comes on connection p
unfoldable pub reported : Domain → ℕ → Report → Outcome
reported d p q = step d (hears p (reads (DUrq q.reason q.ids))) q.room

-- "every answer has room"
abbrev pub HasRoom : Domain → ℕ → Report → Type 0
HasRoom d p q = (reported d p q).reply ≡ 9 → ⊥

-- a list names the users of two others: those of either, in any order, each as often as it likes
abbrev pub NamesBoth : (whole a b : List ℕ) → Type 0
NamesBoth whole a b = (u : ℕ) → member u whole ≡ (member u a || member u b)

-- "leaving in one message or in two .. ends in the same tables": all columns are equal, place by place. a and b are any two lists, so this is either order;
-- ids that are not on p, or stand in both, and different reasons and rooms change nothing
abbrev pub OneOrTwo : Type 0
OneOrTwo =
    (d : Domain) (p : ℕ) (whole a b : Report) → Good d → NamesBoth whole.ids a.ids b.ids
    → HasRoom d p whole → HasRoom d p a → HasRoom (reported d p a).domain p b
    → (reported (reported d p a).domain p b).domain ≡ (reported d p whole).domain
