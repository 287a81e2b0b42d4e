use mathlib.Core.Path.{refl}
use Rattle.explain_tokens.specs.Holders.{change_texts}
use Rattle.explain_tokens.proofs.put_changes.Goals as goal

pub returns : goal.returns
unfolding change_texts
returns g c = (rw c.changes-list.ensures at c.put_tokens.ensures, rw (c.copy_from_slice.ensures.after, c.copy_from_slice-2.ensures.after, c.copy_from_slice-3.ensures.after) refl)
