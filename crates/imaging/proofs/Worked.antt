-- The images worked out: both sides compute to the same. Assumes nothing.
use mathlib.Core.Path.{◌≡◌, refl}
use mathlib.Core.Bool.{Bool, true, So, ◌&&◌}
use mathlib.Core.List.{List, [], ◌∷◌, map}
use mathlib.Core.Option.{none, some}
use Prim.Native.Nat.{ℕ, ◌+◌}
use lib.Dec.{leb}
use lib.ListN.{length}
use Rattle.cols_spec.specs.Sets.{all, below}
use Rattle.cols_spec.proofs.Bools.{and_both}
use Rattle.domain.proofs.Sending.{all_append}
use Rattle.domain.specs.Tables.{fresh}
use Rattle.domain.specs.Outcomes.{limited}
use Rattle.domain.specs.Good.{good}
use Rattle.domain_laws.specs.Same.{Role, user_id, private_of, Standing, inhibited, home_of, among, ids_of, role_of, channel_at, standing, token_at}
use Rattle.domain_laws.specs.View.{view}
use Rattle.domain_laws.specs.Built.{padded, users_built, place, kind_built, channels_built, holding_built, tokens_built, built, ascending, is_there, are_there, role_proper, standing_proper, proper, takes}
use Rattle.domain.proofs.Opened.{opened}
use Rattle.domain_laws.proofs.restored.Taken.{taken}
use Rattle.imaging.specs.Image.{rows, user_row, kind_number, club, channel_row, state_number, parties, token_row, limit_octets, link_rows, contents, body, image}
use Rattle.imaging.specs.Reading.{read_many, read_rows, read_user, read_club, read_channel, read_parties, read_token, read_limits, upward, read_links, read_contents, read_body, nothing_over, behind_length, read_image, limits_out}
use Rattle.imaging.specs.Claims.{made_or, restored, BoundMet}
use Rattle.imaging.specs.Example.{fresh_image, left_joined, left_joined_image, no_own_channel, all_users, largest, replies}

-- everything that an image computes with
abbrev with_images : ℕ
unfolding opened home_of among ids_of role_of channel_at standing token_at view padded users_built place kind_built channels_built holding_built tokens_built built ascending is_there are_there role_proper standing_proper proper takes rows user_row kind_number club channel_row state_number parties token_row limit_octets link_rows contents body image read_many read_rows read_user read_club read_channel read_parties read_token read_limits upward read_links read_contents read_body nothing_over behind_length read_image limits_out
with_images = 0

pub fresh_written : image (view (fresh (limited 128 64 64))) ≡ fresh_image
unfolding with_images fresh_image
fresh_written = refl

pub left_joined_read : read_image left_joined_image ≡ some left_joined
unfolding with_images left_joined left_joined_image
left_joined_read = refl

pub no_own_refused : read_image no_own_channel ≡ none
unfolding with_images no_own_channel
no_own_refused = refl

-- every reply of the table
pub replied : map (λ r. (restored r.0 (fresh (limited 128 64 64))).0) replies ≡ map (λ r. r.1) replies
unfolding with_images restored made_or fresh_image left_joined left_joined_image no_own_channel replies
replied = refl

-- the bound of 17,692 octets is met
pub largest_size : length (image largest) ≡ 17692
unfolding with_images all_users largest
largest_size = refl

-- a test that every row made of a list passes
all_made : {A B : Type 0} (f : B → Bool) (g : A → B) → ((x : A) → f (g x) ≡ true) → (xs : List A) → all f (map g xs) ≡ true
unfolding all
all_made f g h [] = refl
all_made f g h (x ∷ xs) = and_both (h x) (all_made f g h xs)

-- all 64 users are attached: looked at once, and not for each channel and each token that names them
largest_manager : is_there (users_built largest.users) 1001 ≡ true
unfolding with_images all_users largest
largest_manager = refl

largest_there : are_there (users_built largest.users) all_users ≡ true
unfolding with_images all_users largest
largest_there = refl

largest_ordered : (leb (length largest.users) 64
    && ascending 0 (map (λ r. r.0) largest.users)
    && ascending 0 (map (λ r. r.0) largest.channels)
    && ascending 0 (map (λ r. r.0) largest.tokens))
    ≡ true
unfolding with_images all_users largest
largest_ordered = refl

abbrev role_there : ℕ × (Role × ℕ) → Bool
role_there r = role_proper (users_built largest.users) r.1.0

abbrev standing_there : ℕ × Standing → Bool
standing_there r = standing_proper (users_built largest.users) r.1

largest_roles : all role_there largest.channels ≡ true
unfolding largest role_proper
largest_roles =
    all_append role_there _ _ (all_made role_there (λ u. (u, (user_id, 0))) (λ u. refl) all_users)
    (all_made role_there (λ k. (2001 + k, (private_of 1001 all_users, 0))) (λ k. and_both largest_manager largest_there) (below 64))

largest_standings : all standing_there largest.tokens ≡ true
unfolding largest standing_proper
largest_standings = all_made standing_there (λ k. (1 + k, inhibited all_users)) (λ k. largest_there) (below 64)

largest_good : So (good (built largest))
unfolding with_images all_users largest
largest_good = refl

pub largest_taken : So (takes largest)
unfolding takes proper
largest_taken = and_both (and_both (and_both largest_ordered largest_roles) largest_standings) largest_good

pub largest_domain : BoundMet
largest_domain = let r = taken.0 largest largest_taken in (built largest, r.0, rw r.1 largest_size)
