-- T-02, reading an image: part by part as it was written. A reading that fails does not say why: whatever is no image of good tables is refused alike, with 12.
use Rattle.std.specs.Prelude.{ℕ, zero, suc, Bool, true, not, ◌&&◌, List, [], ◌∷◌, eqb, leb, length, get_or, if◌then◌else◌}
use Rattle.std.proofs.Math.Option.{Option, none, some}
use Rattle.codec_octets.specs.Octets.{Read, got, no, Reader, ◌>>=◌, give, fail, need, octet, number}
use Rattle.cols_spec.specs.Sets.{all, member, those, connections}
use Rattle.domain.specs.declared.Limits.{Limits}
use Rattle.domain.specs.Tables.{in_range}
use Rattle.domain.specs.Outcomes.{limited}
use Rattle.domain_laws.specs.Same.{Role, static, user_id, assigned, private_of, Standing, grabbed, inhibited, giving, given}
use Rattle.domain_laws.specs.View.{View}
use Rattle.domain_laws.specs.Built.{ascending, takes}

-- n rows
unfoldable pub read_many : {A : Type 0} (n : ℕ) (row : Reader A) → Reader (List A)
read_many zero row = give []
read_many (suc n) row = row >>= λ a. read_many n row >>= λ rest. give (a ∷ rest)

-- a count, then that many rows
unfoldable pub read_rows : {A : Type 0} (row : Reader A) → Reader (List A)
read_rows row = octet >>= λ n. read_many n row

-- ---- the rows

-- a user: its id and its connection
unfoldable pub read_user : Reader (ℕ × ℕ)
read_user = number 2 >>= λ u. octet >>= λ p. give (u, p)

-- what a channel of this kind is: a private one has its manager and the users admitted; a number above 3 is no kind
unfoldable pub read_club : (kind : ℕ) → Reader Role
read_club zero = give static
read_club (suc zero) = give user_id
read_club (suc (suc zero)) = number 2 >>= λ g. read_rows (number 2) >>= λ is. give (private_of g is)
read_club (suc (suc (suc zero))) = give assigned
read_club (suc (suc (suc (suc n)))) = fail 12

-- a channel: its id, its kind, the connections joined, then what its kind has besides
unfoldable pub read_channel : Reader (ℕ × (Role × ℕ))
read_channel = number 2 >>= λ c. octet >>= λ k. number 2 >>= λ m. read_club k >>= λ r. give (c, (r, m))

-- a token in this state with its users; 0 and a number above 4 are no state
unfoldable pub read_parties : (state : ℕ) → Reader Standing
read_parties zero = fail 12
read_parties (suc zero) = number 2 >>= λ g. give (grabbed g)
read_parties (suc (suc zero)) = read_rows (number 2) >>= λ is. give (inhibited is)
read_parties (suc (suc (suc zero))) = number 2 >>= λ g. number 2 >>= λ r. give (giving g r)
read_parties (suc (suc (suc (suc zero)))) = number 2 >>= λ r. give (given r)
read_parties (suc (suc (suc (suc (suc n))))) = fail 12

-- a token: its id, its state and its users
unfoldable pub read_token : Reader (ℕ × Standing)
read_token = number 2 >>= λ k. octet >>= λ n. read_parties n >>= λ s. give (k, s)

-- ---- the image

-- the limits of channels, users and tokens
unfoldable pub read_limits : Reader Limits
read_limits = octet >>= λ c. octet >>= λ u. octet >>= λ t. give (limited c u t)

-- each number is above the one before
unfoldable pub upward : List ℕ → Bool
upward [] = true
upward (x ∷ xs) = ascending x xs

-- the open connections: ascending, at most 15; as a mask
unfoldable pub read_links : Reader ℕ
read_links = read_rows octet >>= λ qs. need (upward qs && all (λ q. leb q 15) qs) 12 (give (those connections λ q. member q qs))

-- what follows the version: limits, open connections, users, channels and tokens
unfoldable pub read_contents : Reader View
read_contents =
    read_limits >>= λ l. read_links >>= λ m. read_rows read_user >>= λ us. read_rows read_channel >>= λ cs. read_rows read_token >>= λ ts.
    give (record { limits = l; links = m; users = us; channels = cs; tokens = ts })

-- what follows the length: version 1 and no other, then the rest
unfoldable pub read_body : Reader View
read_body = octet >>= λ n. need (eqb n 1) 12 read_contents

-- no octet left over, and tables that keep the rules
unfoldable pub nothing_over : Read View → Option View
nothing_over (got v []) = if takes v then some v else none
nothing_over (got v (o ∷ os)) = none
nothing_over (no n) = none

-- the length is that of the octets behind it
unfoldable pub behind_length : Read ℕ → Option View
behind_length (got n os) = if eqb n (length os) then nothing_over (read_body os) else none
behind_length (no n) = none

-- the lists of the image that the octets are, if they are one
unfoldable pub read_image : List ℕ → Option View
read_image os = behind_length (number 4 os)

-- "10 where a known version's limits can be read and one is out of range": 8 octets or more, version 1, whatever the rest is
unfoldable pub limits_out : List ℕ → Bool
limits_out os = leb 8 (length os) && eqb (get_or os 4 0) 1 && not (in_range (limited (get_or os 5 0) (get_or os 6 0) (get_or os 7 0)))
