-- What is read straight into a list that is lent: the same message as the long way gives, and one that is served.
use Rattle.std.specs.Prelude.{◌≡◌, true, List, [], ◌∷◌, ℕ, ◌+◌, ◌*◌, ◌≤◌, length, get_or, take, drop}
use Rattle.codec_octets.specs.Octets.{got, an_id, read_items}
use Rattle.codec_table.specs.Limits.{list_limit}
use Rattle.codec_table.specs.Messages.{is_served}
use Rattle.codec_table.specs.Columns.{count_at}
use Rattle.codec_table.specs.Codec.{ok}
use Rattle.codec_read.specs.declared.Decoded.{Decoded}
use Rattle.codec_read.specs.declared.Items.TheVariants.{Ids}
use Rattle.codec_read.specs.Held.{padded, decoded}
use Rattle.codec_read.specs.Reading.{decode_of}
use Rattle.codec_read_fast.specs.declared.lists.Listing.{Listing}
use Rattle.codec_read_fast.specs.declared.lists.Head.{Head}

-- a message with a list as `decode` answers it: its ids are the first of those stored, and every cell that it does not use is 0
unfoldable pub in_list : Listing → List ℕ → Decoded
in_list l ids =
    record {
      head = record { number = l.number; have = count_at l.number; values = l.first ∷ l.second ∷ 0 ∷ 0 ∷ []; items = Ids l.count };
      ids = padded list_limit (take l.count ids);
    }

pub record Listed (s : List ℕ) (l : Listing) (ids : List ℕ) : Type 0 where
  pub same : ok (in_list l ids) ≡ decoded s (decode_of s)
  pub stored : length (take l.count ids) ≡ l.count
  pub served : is_served l.number ≡ true

-- an octet counts the ids behind it, which reach to the end and are not above the limit
pub record Counts (s : List ℕ) (at n : ℕ) : Type 0 where
  pub is : n ≡ get_or s at 0
  pub whole : length s ≡ at + 1 + 2 * n
  pub few : n ≤ list_limit

-- so many ids are read at an octet, and stored
pub record Stored (s : List ℕ) (from low count : ℕ) (ids : List ℕ) : Type 0 where
  pub room : count ≤ length ids
  pub read : read_items (an_id low) count (drop from s) ≡ got (take count ids) (drop (from + 2 * count) s)

-- a message but for its list, which begins at an octet: whatever ids are stored from there, the long way gives the message with them
pub record Heads (s : List ℕ) (h : Head) : Type 0 where
  pub near : h.at ≤ 5
  pub low_most : h.low ≤ 65536
  pub with_list : (n : ℕ) (ids : List ℕ) → Counts s h.at n → Stored s (h.at + 1) h.low n ids
      → Listed s (record { number = h.number; first = h.first; second = h.second; count = n }) ids
