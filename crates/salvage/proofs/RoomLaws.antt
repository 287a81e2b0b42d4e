-- Both rooms when all is counted: left as they were, or filled. Assumes nothing.
use Prim.Native.Nat.{ℕ, ◌*◌, ◌/◌, ◌≤◌, ◌<◌}
use mathlib.Core.Path.{◌≡◌, sym, ap, ◌∙◌}
use mathlib.Core.Bool.{and-false}
use mathlib.Core.List.{List, ◌++◌}
use native.Mathlib.Nat.{zero-add}
use native.Mathlib.Omega.{arith}
use borrow.Author.Tests.{le-leb, lt-leb}
use lib.ListN.{length, drop}
use lib.Seq.{sets-eq}
use Rattle.salvage.specs.declared.Place.{Place}
use Rattle.salvage.specs.declared.Salvaged.{Salvaged}
use Rattle.salvage.specs.Answer.{output, cut_list, over, salvaged}
use Rattle.salvage.specs.Steps.{Lays, Measures, Passes}

abbrev pub refused : Salvaged
refused = record { reply = 9; kept = 0; cuts = 0 }

over_laid : (os room room' : List ℕ) → length os ≤ length room → Lays room 0 os room' → room' ≡ over os room
over_laid os room room' h l =
    let n = zero-add (length os) in
    l.laid (omega arith) ∙ sets-eq os room 0 (omega arith) ∙ ap (λ k. os ++ drop k room) n

pub salvaged_done : (trace out list : List ℕ) → length (output trace) ≤ length out → length (cut_list trace) ≤ length list
    → salvaged trace out list ≡ (record { reply = 0; kept = length (output trace); cuts = length (cut_list trace) }, over (output trace) out, over (cut_list trace) list)
unfolding salvaged
salvaged_done trace out list h l = simp (le-leb (length (output trace)) (length out) h, le-leb (length (cut_list trace)) (length list) l)

module _ (trace out list : List ℕ) (q : Place) (n : Measures trace q) where
  -- too little room
  pub no_room_kept : length out < q.kept → (refused, out, list) ≡ salvaged trace out list
  unfolding salvaged
  no_room_kept h = simp (lt-leb (length (output trace)) (length out) (omega (arith, n.kept)))

  pub no_room_cuts : length list / 16 < q.cuts → (refused, out, list) ≡ salvaged trace out list
  unfolding salvaged
  no_room_cuts h = simp (lt-leb (length (cut_list trace)) (length list) (omega (arith, n.cuts)), and-false)

  -- what fits stands in front of the rest
  pub filled : (out' list' : List ℕ) (r : Place) → q.kept ≤ length out → q.cuts ≤ length list / 16 → Passes trace out list r out' list'
      → (record { reply = 0; kept = q.kept; cuts = q.cuts * 16 }, out', list') ≡ salvaged trace out list
  filled out' list' r h k p =
      let a : length (output trace) ≤ length out = omega (arith, n.kept) in
      let b : length (cut_list trace) ≤ length list = omega (arith, n.cuts) in
      rw (n.kept, n.cuts, over_laid (output trace) out out' a p.laid, over_laid (cut_list trace) list list' b p.listed)
      (sym (salvaged_done trace out list a b))
