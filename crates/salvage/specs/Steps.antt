-- What the functions below `salvage` promise each other: a span a step, laid where it fits.
use Rattle.std.specs.Prelude.{ℕ, ◌+◌, ◌*◌, ◌≤◌, ◌<◌, ◌≡◌, List, [], ◌∷◌, length}
use Rattle.std.proofs.lemmas.List.Edits.{sets}
use Rattle.salvage.specs.declared.Place.{Place}
use Rattle.salvage.specs.Spans.{Span, octets_in}
use Rattle.salvage.specs.Answer.{kept_in, cuts_from, output, cut_list}

-- octets are laid into a room from a place on, where they fit. `sets room at os` is the room with os in it from there on.
pub record Lays (room : List ℕ) (at : ℕ) (os room' : List ℕ) : Type 0 where
  pub laid : at + length os ≤ length room → room' ≡ sets room at os

-- the place lies in the trace, and no more was kept or cut than was passed
pub record Inside (trace : List ℕ) (p : Place) : Type 0 where
  pub passed : p.at ≤ length trace
  pub kept : p.kept ≤ p.at
  pub cuts : p.cuts ≤ p.at

-- the span x was taken at place p, which leads to place q
pub record Takes (trace : List ℕ) (x : Span) (p : Place) (out list : List ℕ) (q : Place) (out' list' : List ℕ) : Type 0 where
  pub on : p.at < q.at
  pub inside : Inside trace q
  pub passed : q.at ≡ p.at + length (octets_in x)
  pub kept : q.kept ≡ p.kept + length (kept_in (x ∷ []))
  pub cuts : q.cuts * 16 ≡ p.cuts * 16 + length (cuts_from p.at (x ∷ []))
  pub laid : Lays out p.kept (kept_in (x ∷ [])) out'
  pub listed : Lays list (p.cuts * 16) (cuts_from p.at (x ∷ [])) list'

-- a place in the trace, and not its end
pub record Before (trace : List ℕ) (p : Place) : Type 0 where
  pub more : p.at < length trace
  pub inside : Inside trace p

-- all spans of the trace are passed: so many octets are kept, and so many entries of 16 octets are listed
pub record Measures (trace : List ℕ) (q : Place) : Type 0 where
  pub kept : q.kept ≡ length (output trace)
  pub cuts : q.cuts * 16 ≡ length (cut_list trace)

-- and they are laid where they fit
pub record Passes (trace out list : List ℕ) (q : Place) (out' list' : List ℕ) : Type 0 where
  pub sizes : Measures trace q
  pub laid : Lays out 0 (output trace) out'
  pub listed : Lays list 0 (cut_list trace) list'
