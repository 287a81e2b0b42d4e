-- Images worked out: of a fresh domain; of a static channel whose joined connection has no user; the largest; octets that are none; and the replies to them.
use Rattle.std.specs.Prelude.{ℕ, ◌+◌, ◌-◌, ◌^◌, List, [], ◌∷◌, ◌++◌, map}
use Rattle.cols_spec.specs.Sets.{below}
use Rattle.domain.specs.Outcomes.{limited}
use Rattle.domain_laws.specs.Same.{static, user_id, private_of, inhibited}
use Rattle.domain_laws.specs.View.{View}

-- `00000008 01 804040 00 00 00 00`
unfoldable pub fresh_image : List ℕ
fresh_image = 0 ∷ 0 ∷ 0 ∷ 8 ∷ 1 ∷ 128 ∷ 64 ∷ 64 ∷ 0 ∷ 0 ∷ 0 ∷ 0 ∷ []

-- open 0, AUrq, CJrq 5, DUrq 1001: `0000000E 01 804040 01 00 00 01 0005 00 0001 00`
unfoldable pub left_joined : View
left_joined = record { limits = limited 128 64 64; links = 1; users = []; channels = (5, (static, 1)) ∷ []; tokens = [] }

-- its octets
unfoldable pub left_joined_image : List ℕ
left_joined_image = 0 ∷ 0 ∷ 0 ∷ 14 ∷ 1 ∷ 128 ∷ 64 ∷ 64 ∷ 1 ∷ 0 ∷ 0 ∷ 1 ∷ 0 ∷ 5 ∷ 0 ∷ 0 ∷ 1 ∷ 0 ∷ []

-- user 1001 without its channel: `0000000C 01 804040 01 00 01 03E9 00 00 00`
unfoldable pub no_own_channel : List ℕ
no_own_channel = 0 ∷ 0 ∷ 0 ∷ 12 ∷ 1 ∷ 128 ∷ 64 ∷ 64 ∷ 1 ∷ 0 ∷ 1 ∷ 3 ∷ 233 ∷ 0 ∷ 0 ∷ 0 ∷ []

-- the ids of 64 users
unfoldable pub all_users : List ℕ
all_users = map (λ k. 1001 + k) (below 64)

-- 16 open connections, 64 users, 64 private channels that admit all of them, 64 tokens inhibited by all of them
unfoldable pub largest : View
largest = record {
  limits = limited 128 64 64;
  links = 2 ^ 16 - 1;
  users = map (λ u. (u, 0)) all_users;
  channels = map (λ u. (u, (user_id, 0))) all_users ++ map (λ k. (2001 + k, (private_of 1001 all_users, 0))) (below 64);
  tokens = map (λ k. (1 + k, inhibited all_users)) (below 64);
}

-- octets, and the reply to them
unfoldable pub replies : List (List ℕ × ℕ)
replies =
    (fresh_image, 0)
    ∷ (left_joined_image, 0)
    ∷ (no_own_channel, 12)
    -- nothing; seven octets; eight, with all limits 0 and nothing else right; a limit one too high each
    ∷ ([], 12)
    ∷ (0 ∷ 0 ∷ 0 ∷ 8 ∷ 1 ∷ 128 ∷ 64 ∷ [], 12)
    ∷ (255 ∷ 255 ∷ 255 ∷ 255 ∷ 1 ∷ 0 ∷ 0 ∷ 0 ∷ [], 10)
    ∷ (0 ∷ 0 ∷ 0 ∷ 8 ∷ 1 ∷ 129 ∷ 64 ∷ 64 ∷ 0 ∷ 0 ∷ 0 ∷ 0 ∷ [], 10)
    ∷ (0 ∷ 0 ∷ 0 ∷ 8 ∷ 1 ∷ 128 ∷ 65 ∷ 64 ∷ 0 ∷ 0 ∷ 0 ∷ 0 ∷ [], 10)
    ∷ (0 ∷ 0 ∷ 0 ∷ 8 ∷ 1 ∷ 128 ∷ 64 ∷ 65 ∷ 0 ∷ 0 ∷ 0 ∷ 0 ∷ [], 10)
    -- versions 0 and 2, with limits out of range
    ∷ (0 ∷ 0 ∷ 0 ∷ 8 ∷ 0 ∷ 0 ∷ 0 ∷ 0 ∷ 0 ∷ 0 ∷ 0 ∷ 0 ∷ [], 12)
    ∷ (0 ∷ 0 ∷ 0 ∷ 8 ∷ 2 ∷ 0 ∷ 0 ∷ 0 ∷ 0 ∷ 0 ∷ 0 ∷ 0 ∷ [], 12)
    -- the length off by one; an octet behind, counted and not; an octet missing
    ∷ (0 ∷ 0 ∷ 0 ∷ 9 ∷ 1 ∷ 128 ∷ 64 ∷ 64 ∷ 0 ∷ 0 ∷ 0 ∷ 0 ∷ [], 12)
    ∷ (0 ∷ 0 ∷ 0 ∷ 9 ∷ 1 ∷ 128 ∷ 64 ∷ 64 ∷ 0 ∷ 0 ∷ 0 ∷ 0 ∷ 0 ∷ [], 12)
    ∷ (0 ∷ 0 ∷ 0 ∷ 8 ∷ 1 ∷ 128 ∷ 64 ∷ 64 ∷ 0 ∷ 0 ∷ 0 ∷ 0 ∷ 0 ∷ [], 12)
    ∷ (0 ∷ 0 ∷ 0 ∷ 7 ∷ 1 ∷ 128 ∷ 64 ∷ 64 ∷ 0 ∷ 0 ∷ 0 ∷ [], 12)
    -- connections 1 and 0; connection 16; 0 twice; 0 and 15
    ∷ (0 ∷ 0 ∷ 0 ∷ 10 ∷ 1 ∷ 128 ∷ 64 ∷ 64 ∷ 2 ∷ 1 ∷ 0 ∷ 0 ∷ 0 ∷ 0 ∷ [], 12)
    ∷ (0 ∷ 0 ∷ 0 ∷ 9 ∷ 1 ∷ 128 ∷ 64 ∷ 64 ∷ 1 ∷ 16 ∷ 0 ∷ 0 ∷ 0 ∷ [], 12)
    ∷ (0 ∷ 0 ∷ 0 ∷ 10 ∷ 1 ∷ 128 ∷ 64 ∷ 64 ∷ 2 ∷ 0 ∷ 0 ∷ 0 ∷ 0 ∷ 0 ∷ [], 12)
    ∷ (0 ∷ 0 ∷ 0 ∷ 10 ∷ 1 ∷ 128 ∷ 64 ∷ 64 ∷ 2 ∷ 0 ∷ 15 ∷ 0 ∷ 0 ∷ 0 ∷ [], 0)
    ∷ []
