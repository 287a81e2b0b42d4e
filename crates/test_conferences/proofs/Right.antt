-- Each conference goes as worked out: both sides compute to the same. Assumes nothing.
use mathlib.Core.Path.{◌≡◌, refl}
use Rattle.domain.proofs.Opened.{opened}
use Rattle.test_conferences.specs.View.{named, counted, kind_view, channel_view, state_view, view}
use Rattle.test_conferences.specs.Run.{run, runs}
use Rattle.test_conferences.specs.Offers.{turns as offers_turns, said as offers_said}
use Rattle.test_conferences.specs.Private.{turns as private_turns, said as private_said}
use Rattle.test_conferences.specs.Joins.{turns as joins_turns, said as joins_said}
use Rattle.test_conferences.specs.Limits.{turns as limits_turns, said as limits_said}

pub offers : runs 128 64 64 offers_turns ≡ offers_said
unfolding opened named counted kind_view channel_view state_view view run runs offers_turns offers_said
offers = refl

pub private : runs 128 64 64 private_turns ≡ private_said
unfolding opened named counted kind_view channel_view state_view view run runs private_turns private_said
private = refl

pub joins : runs 128 64 64 joins_turns ≡ joins_said
unfolding opened named counted kind_view channel_view state_view view run runs joins_turns joins_said
joins = refl

pub limits : runs 4 3 1 limits_turns ≡ limits_said
unfolding opened named counted kind_view channel_view state_view view run runs limits_turns limits_said
limits = refl
