-- What is read the short way: the same message as the long way gives, and one that is served and has a few ids; and that no such message is read.
use Rattle.std.specs.Prelude.{◌≡◌, Bool, true, false, cond, ◌||◌, List, [], ◌∷◌, ℕ, ◌+◌, ◌*◌, ◌<◌, ◌≤◌, max, eqb, ltb, get_or, drop}
use Rattle.codec_octets.specs.Octets.{got, an_id, read_item}
use Rattle.codec_table.specs.Limits.{list_limit}
use Rattle.codec_table.specs.Messages.{is_served}
use Rattle.codec_table.specs.Columns.{count_at}
use Rattle.codec_table.specs.Codec.{Msg, ok, decode}
use Rattle.codec_read.specs.declared.Decoded.{Decoded}
use Rattle.codec_read.specs.declared.Items.TheVariants.{Ids}
use Rattle.codec_read_fast.specs.declared.Short.{Short}
use Rattle.codec_read_fast.specs.declared.tokens.Wish.{Wish}
use Rattle.codec_read.specs.Held.{padded, decoded}
use Rattle.codec_read.specs.Reading.{decode_of}

-- a message of these values as `decode` answers it: no items, and every cell that it does not use is 0
unfoldable pub of_values : (number : ℕ) (values : List ℕ) → Decoded
of_values number values =
    record { head = record { number = number; have = count_at number; values = values; items = Ids 0 }; ids = padded list_limit [] }

unfoldable pub in_full : Short → Decoded
in_full q = of_values q.number (q.first ∷ q.second ∷ 0 ∷ 0 ∷ [])

-- a TVrs has its result before the user and the token, a TVrq its recipient behind them
unfoldable pub in_words : Wish → Decoded
in_words w =
    of_values w.number
    (cond (eqb w.number 35) (w.more ∷ w.user ∷ w.token ∷ 0 ∷ []) (w.user ∷ w.token ∷ w.more ∷ 0 ∷ []))

-- which of the served messages are those of a few ids: the tokens' requests, which are all above 28, and AUrq, CJrq, CCrq and CDrq
unfoldable pub token_number : ℕ → Bool
token_number n = ltb 28 n

unfoldable pub short_number : ℕ → Bool
short_number n = eqb n 10 || eqb n 14 || eqb n 17 || eqb n 19

unfoldable pub few_ids : ℕ → Bool
few_ids n = token_number n || short_number n

pub record Shortly (s : List ℕ) (q : Short) : Type 0 where
  pub same : ok (in_full q) ≡ decoded s (decode_of s)
  pub served : is_served q.number ≡ true
  pub few : short_number q.number ≡ true

pub record Wishes (s : List ℕ) (w : Wish) : Type 0 where
  pub same : ok (in_words w) ≡ decoded s (decode_of s)
  pub served : is_served w.number ≡ true
  pub few : token_number w.number ≡ true

-- no served message whose number is such a one is read of the octets
abbrev pub NoneRead : (ℕ → Bool) → List ℕ → Type 0
NoneRead test s = (m : Msg) → decode s ≡ ok m → is_served m.number ≡ true → test m.number ≡ true → ⊥

-- two octets as an id above the lowest of its kind, which is read there; or it is above 65,535
abbrev pub id_value : (s : List ℕ) (i low : ℕ) → ℕ
id_value s i low = get_or s i 0 * 256 + get_or s (i + 1) 0 + low

pub record IdAt (s : List ℕ) (i low v : ℕ) : Type 0 where
  pub is : v ≡ id_value s i low
  pub fits : v ≤ 65535
  pub read : read_item (an_id low) (drop i s) ≡ got v (drop (i + 1 + 1) s)

abbrev pub NoIdAt : (s : List ℕ) (i low : ℕ) → Type 0
NoIdAt s i low = 65535 < id_value s i low

-- a request about a token by its number and what it carries besides, its user and its token read from a place on; or one of the two is above 65,535
pub record Wished (s : List ℕ) (at number more : ℕ) (w : Wish) : Type 0 where
  pub is : w ≡ record { number = number; user = w.user; token = w.token; more = more }
  pub user : IdAt s at 1001 w.user
  pub token : IdAt s (at + 2) 1 w.token

abbrev pub NoWish : (s : List ℕ) (at : ℕ) → Type 0
NoWish s at = 65535 < max (id_value s at 1001) (id_value s (at + 2) 1)
