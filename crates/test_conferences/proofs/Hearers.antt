-- Who could have heard goes as worked out: both sides compute to the same. Assumes nothing.
use mathlib.Core.Path.{◌≡◌, refl}
use Rattle.domain.proofs.Opened.{opened}
use Rattle.test_conferences.specs.Hearers.{could, heard, hearings, from_start, turns, said}

pub hearers : from_start turns ≡ said
unfolding opened could heard hearings from_start turns said
hearers = refl
