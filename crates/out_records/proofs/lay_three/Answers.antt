use mathlib.Core.Path.{refl}
use Rattle.out_records.proofs.Laying.{put_three}
use borrow.Author.Rules.{rules}
use Rattle.out_records.proofs.lay_three.Goals as goal

pub returns : goal.returns
returns c = put_three _ _ _ _ (search rules) refl
