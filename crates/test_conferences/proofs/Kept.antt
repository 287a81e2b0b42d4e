-- In every conference, after every event, the tables are good and history names the tables' holders and offers: computed. Assumes nothing.
use mathlib.Core.Path.{◌≡◌, refl}
use mathlib.Core.Bool.{true}
use Rattle.cols_spec.specs.Sets.{all}
use Rattle.domain.proofs.Opened.{opened}
use Rattle.test_conferences.specs.Watched.{conferences, all_formed, onward, always, good_now, alike, offered, agrees_on, agrees}
use Rattle.test_conferences.specs.Offers.{turns as offers}
use Rattle.test_conferences.specs.Private.{turns as private}
use Rattle.test_conferences.specs.Joins.{turns as joins}
use Rattle.test_conferences.specs.Limits.{turns as limits}

-- the events are those of which the theorems speak
pub formed : all all_formed conferences ≡ true
unfolding opened conferences all_formed offers private joins limits
formed = refl

-- the tables are good
pub good : all (always good_now) conferences ≡ true
unfolding opened conferences onward always good_now offers private joins limits
good = refl

-- held by history is held by the table, offered by history is offered by the table
pub agreed : all (always agrees) conferences ≡ true
unfolding opened conferences onward always alike offered agrees_on agrees offers private joins limits
agreed = refl
