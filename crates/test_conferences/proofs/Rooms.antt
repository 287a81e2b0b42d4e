-- A room that leaves in one message or in parts leaves the same tables and other records: both sides compute to the same. Assumes nothing.
use mathlib.Core.Path.{◌≡◌, refl}
use Rattle.domain_laws.specs.Same.{home_of, among, ids_of, role_of, channel_at, standing, token_at}
use Rattle.domain_laws.specs.View.{view}
use Rattle.domain.proofs.Opened.{opened}
use Rattle.test_conferences.specs.Rooms.{room, in_one, one_by_one, in_two, run_of, left_by, last_sent, told_by, tables_left, told_in_one, told_one_by_one, told_in_two}

pub same_tables : (left_by in_one ≡ tables_left) × (left_by one_by_one ≡ tables_left) × (left_by in_two ≡ tables_left)
unfolding opened room in_one one_by_one in_two run_of home_of among ids_of role_of channel_at standing token_at view left_by tables_left
same_tables = (refl, refl, refl)

pub other_records : (told_by in_one ≡ told_in_one) × (told_by one_by_one ≡ told_one_by_one) × (told_by in_two ≡ told_in_two)
unfolding opened room in_one one_by_one in_two run_of last_sent told_by told_in_one told_one_by_one told_in_two
other_records = (refl, refl, refl)
