-- By each place where the text goes.
use Prim.Native.Nat.{ℕ, ◌+◌, ◌<◌, ◌≤◌}
use mathlib.Core.Path.{◌≡◌, sym, ◌∙◌}
use native.Mathlib.Omega.{arith}
use borrow.Author.Tests.{leb-true, leb-false}
use mathlib.Core.Bool.{Bool, true, false}
use lib.Dec.{leb}
use borrow.Author.Rules.{rules}
use lib.ListN.{length}
use Rattle.trace_io.proofs.Texts.{collected_behind, collected_alone, collected_none}
use Rattle.trace_io.proofs.Saying.{says_one}
use Rattle.trace_io.proofs.lines.Lines.say.Goals as goal

-- what the test of the room tells
has_room : (filled size room : ℕ) {fits : Bool} → fits ≡ leb (filled + size) room → fits ≡ true → filled + size ≤ room
has_room filled size room e t = leb-true (filled + size) room (sym e ∙ t)

no_room : (filled size room : ℕ) {fits : Bool} → fits ≡ leb (filled + size) room → fits ≡ false → room < filled + size
no_room filled size room e t = leb-false (filled + size) room (sym e ∙ t)

pub lay-requires : goal.lay-requires
lay-requires g c =
    let a = c.args in
    let l : length a.self.now.room ≡ g.row.N = search rules in
    omega (arith, l, has_room a.self.now.filled (length a.text.now) g.row.N c.fits.ensures c.if-fits.true)

pub returns-then-fits : goal.returns-then-fits
returns-then-fits g c =
    let s = c.args.self.now in let t = c.args.text.now in
    let l : length s.room ≡ g.row.N = search rules in
    says_one t (collected_behind s.room s.filled t c.lay.new.out (omega (arith, l, has_room s.filled (length t) g.row.N c.fits.ensures c.if-fits.true)) c.lay.ensures) (search rules)

pub returns-then-size : goal.returns-then-size
returns-then-size g c =
    let s = c.args.self.now in let t = c.args.text.now in
    let l : length s.room ≡ g.row.N = search rules in
    let laid = c.lay-then-size in
    says_one t
    (collected_alone s.room s.filled t laid.new.out (omega (arith, l, no_room s.filled (length t) g.row.N c.fits.ensures c.if-fits.false)) (omega (arith, l, c.if-size.true)) (rw c.flush.ensures.room at laid.ensures))
    c.flush.ensures.stays

pub returns : goal.returns
returns g c =
    let s = c.args.self.now in let t = c.args.text.now in
    let l : length s.room ≡ g.row.N = search rules in
    let empty = collected_none s.room s.filled t (omega (arith, l, no_room s.filled (length t) g.row.N c.fits.ensures c.if-fits.false)) (omega (arith, l, c.if-size.false)) in
    says_one t (rw (c.flush.ensures.room, c.flush.ensures.none) empty) c.flush.ensures.stays
