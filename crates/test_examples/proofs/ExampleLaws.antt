-- Every example of the table holds: both sides compute to the same. Assumes nothing.
use mathlib.Core.Path.{refl}
use Rattle.test_examples.specs.Examples.{All, examples, goes, on_0, heard, seen}
use Rattle.domain.proofs.Opened.{opened}

pub examples_hold : All examples
unfolding opened goes on_0 heard seen
examples_hold = (refl, (refl, (refl, (refl, (refl, (refl, (refl, (refl, (refl, (refl, (refl, (refl, (refl, (refl, tt))))))))))))))
