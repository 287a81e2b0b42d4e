-- What is written the short way: a confirm of a token's request, in range, for a room that has its 7 octets.
use Rattle.std.specs.Prelude.{◌≡◌, List, [], ◌∷◌, ℕ, ◌+◌, ◌-◌, ◌*◌, ◌/◌, ◌%◌, ◌≤◌, length, get_or}
use Rattle.out_messages.specs.Confirms.{number}
use Rattle.out_messages.specs.declared.Confirm.{Confirm}

-- the number of one of the four confirms
pub record Confirms (n : ℕ) : Type 0 where
  pub kind : Confirm
  pub is : n ≡ number kind

pub record InRange (result user token status : ℕ) : Type 0 where
  pub result_most : result ≤ 15
  pub user_least : 1001 ≤ user
  pub user_most : user ≤ 65535
  pub token_least : 1 ≤ token
  pub token_most : token ≤ 65535
  pub status_most : status ≤ 7

-- the four fields of a confirm in range, nothing behind them, and room for it
pub record Short (n : ℕ) (values ids octets : List ℕ) (room : ℕ) : Type 0 where
  pub confirms : Confirms n
  pub four : length values ≡ 4
  pub in_range : InRange (get_or values 0 0) (get_or values 1 0) (get_or values 2 0) (get_or values 3 0)
  pub no_ids : length ids ≡ 0
  pub no_octets : length octets ≡ 0
  pub has_room : 7 ≤ room

-- its octets: number and result, user, token, status
abbrev pub short_octets : (n result user token status : ℕ) → List ℕ
short_octets n result user token status =
    (n * 4 + result / 4) ∷ (result % 4 * 64) ∷ ((user - 1001) / 256) ∷ ((user - 1001) % 256) ∷ ((token - 1) / 256) ∷ ((token - 1) % 256) ∷ (status * 32) ∷ []
