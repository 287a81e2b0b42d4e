-- One place of a table, as a sweep of the whole table makes it.
use Rattle.std.specs.Prelude.{ℕ, ◌≡◌, List, get_or, set}
use Rattle.std.proofs.Math.Option.{Option}
use Rattle.cols_spec.specs.Places.{becomes}

-- the ids and cells `xs`, `cs` become `ys`, `ds`: place i, and no other, has what becomes of it
pub record Turns {A : Type 0} (blank : A) (fate : (ℕ → ℕ → A → Option A)) (i : ℕ) (xs : List ℕ) (cs : List A) (ys : List ℕ) (ds : List A) : Type 0 where
  pub ids : ys ≡ set xs i (becomes blank fate i (get_or xs i 0) (get_or cs i blank)).0
  pub cells : ds ≡ set cs i (becomes blank fate i (get_or xs i 0) (get_or cs i blank)).1

-- a fate that is the same at every place
abbrev pub anywhere : {A : Type 0} → (ℕ → A → Option A) → ℕ → ℕ → A → Option A
anywhere f i x c = f x c
