use native.Mathlib.Nat.{add-zero}
use borrow.Author.Rules.{rules}
use Prim.Native.Nat.{◌+◌}
use mathlib.Core.Path.{refl, sym, ◌∙◌}
use Rattle.out_records.proofs.Laying.{sets_on, sets_done}
use Rattle.out_records.proofs.lay.Goals as goal

pub loop-i-init : goal.loop-i-init
loop-i-init c = (refl, rw add-zero refl)

pub loop-i-preserved : goal.loop-i-preserved
loop-i-preserved c = (
  search rules,
  sets_on c.loop-i.s c.args.at c.loop-i.i c.args.os.now _ (search rules) c.put.ensures ∙ c.loop-i.invariant.1,
)

pub returns : goal.returns
returns c = let b = c.loop-i in
    record {
      laid = sym (sets_done b.s (c.args.at + b.i) b.i c.args.os.now (search rules)) ∙ b.invariant.1;
      next = search rules;
    }
