-- T-02, the image of the tables: "4 octets of length (what follows), version 1, then limits, open connections, users with their connections, channels and
-- tokens, each list ascending by id, nothing spare". Numbers are big-endian.
use Rattle.std.specs.Prelude.{ℕ, List, [], ◌∷◌, ◌++◌, ltb, length, drop, if◌then◌else◌}
use Rattle.codec_octets.specs.Octets.{octets_of}
use Rattle.cols_spec.specs.Sets.{each, listed, connections}
use Rattle.domain.specs.declared.Limits.{Limits}
use Rattle.domain.specs.Effects.{Settled, settled}
use Rattle.domain.specs.Tables.{Domain}
use Rattle.domain_laws.specs.Same.{Role, static, user_id, assigned, private_of, Standing, nobody, grabbed, inhibited, giving, given}
use Rattle.domain_laws.specs.View.{View, view}

-- a count, a kind, a state, a limit or a connection: one octet
abbrev pub one : ℕ → List ℕ
one n = n ∷ []

-- an id, or a mask of connections: two octets
abbrev pub two : ℕ → List ℕ
two n = octets_of 2 n

-- a count, one octet, then that many rows
unfoldable pub rows : {A : Type 0} (row : (A → List ℕ)) (xs : List A) → List ℕ
rows row xs = one (length xs) ++ each row xs

-- ---- the rows

-- a user: its id and its connection
unfoldable pub user_row : ℕ × ℕ → List ℕ
user_row r = two r.0 ++ one r.1

-- 0 static, 1 user id, 2 private, 3 assigned
unfoldable pub kind_number : Role → ℕ
kind_number static = 0
kind_number user_id = 1
kind_number (private_of g is) = 2
kind_number assigned = 3

-- of a private channel its manager, then the users admitted; of other kinds nothing
unfoldable pub club : Role → List ℕ
club static = []
club user_id = []
club (private_of g is) = two g ++ rows two is
club assigned = []

-- a channel: its id, its kind, the connections joined (bit q for connection q), then its manager and the users admitted
unfoldable pub channel_row : ℕ × (Role × ℕ) → List ℕ
channel_row r = two r.0 ++ (one (kind_number r.1.0) ++ (two r.1.1 ++ club r.1.0))

-- 1 grabbed, 2 inhibited, 3 giving, 4 given; a token that nobody has is not listed
unfoldable pub state_number : Standing → ℕ
state_number nobody = 0
state_number (grabbed g) = 1
state_number (inhibited is) = 2
state_number (giving g r) = 3
state_number (given r) = 4

-- the users of a token: the grabber; the inhibitors; the giver and the recipient; the recipient
unfoldable pub parties : Standing → List ℕ
parties nobody = []
parties (grabbed g) = two g
parties (inhibited is) = rows two is
parties (giving g r) = two g ++ two r
parties (given r) = two r

-- a token: its id, its state and its users
unfoldable pub token_row : ℕ × Standing → List ℕ
token_row r = two r.0 ++ (one (state_number r.1) ++ parties r.1)

-- ---- the image

-- the limits of channels, users and tokens
unfoldable pub limit_octets : Limits → List ℕ
limit_octets l = one l.channels ++ (one l.users ++ one l.tokens)

-- the open connections, ascending
unfoldable pub link_rows : ℕ → List ℕ
link_rows m = rows one (listed connections m)

-- what follows the version: limits, open connections, users, channels and tokens
unfoldable pub contents : View → List ℕ
contents v = limit_octets v.limits ++ (link_rows v.links ++ (rows user_row v.users ++ (rows channel_row v.channels ++ rows token_row v.tokens)))

-- what follows the length: version 1, then the rest
unfoldable pub body : View → List ℕ
body v = one 1 ++ contents v

-- the whole image: 4 octets of length, then what follows
unfoldable pub image : View → List ℕ
image v = octets_of 4 (length (body v)) ++ body v

-- writing the tables to a room: "9 exactly when the image written exceeds the room, which stays untouched"; else the image, and the octets behind it stay
unfoldable pub written : (d : Domain) (room : List ℕ) → Settled Domain
written d room =
    let os = image (view d) in
    if ltb (length room) (length os) then settled 9 0 d room else settled 0 (length os) d (os ++ drop (length os) room)
