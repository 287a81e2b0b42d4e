-- The tables of an image (T-02): its rows stand at the first places, in their order, and users are named by the places that they get there. The images that are
-- taken are exactly those of tables that keep document 01's rules.
use Rattle.std.specs.Prelude.{ℕ, ◌-◌, ◌≡◌, Bool, true, false, ◌&&◌, List, [], ◌∷◌, ◌++◌, map, leb, ltb, length, replicate}
use Rattle.std.proofs.Math.Bool.{So}
use Rattle.cols_spec.specs.Sets.{all}
use Rattle.cols_spec.specs.Places.{find, found, number}
use Rattle.domain.specs.declared.channel.Kind.{Kind}
use Rattle.domain.specs.declared.channel.Kind.TheVariants.{Static, User, Private, Assigned}
use Rattle.domain.specs.declared.channel.Channel.{Channel}
use Rattle.domain.specs.declared.token.Holding.{Holding}
use Rattle.domain.specs.declared.token.Holding.TheVariants.{Free, Grabbed, Inhibited, Giving, Given}
use Rattle.domain.specs.declared.token.Token.{Token}
use Rattle.domain.specs.Cells.{no_channel, no_token, channel_of, token_of}
use Rattle.domain.specs.Tables.{Users, Channels, Tokens, Domain}
use Rattle.domain.specs.Channels.{places}
use Rattle.domain.specs.Good.{Good, good}
use Rattle.domain_laws.specs.Same.{Role, static, user_id, assigned, private_of, Standing, nobody, grabbed, inhibited, giving, given, Same}
use Rattle.domain_laws.specs.View.{View, view}

-- a list, followed by blanks up to n places
unfoldable pub padded : {A : Type 0} (n : ℕ) (blank : A) (xs : List A) → List A
padded n blank xs = xs ++ replicate (n - length xs) blank

-- the users, with their connections
unfoldable pub users_built : List (ℕ × ℕ) → Users
users_built rs = record { ids = padded 64 0 (map (λ r. r.0) rs); at = padded 64 0 (map (λ r. r.1) rs) }

-- the place of user u; 64, which is none, where u is not attached
unfoldable pub place : Users → ℕ → ℕ
place us u = number 64 (find us.ids u)

-- the kind of a channel, its users named by their places
unfoldable pub kind_built : Users → Role → Kind
kind_built us static = Static
kind_built us user_id = User
kind_built us assigned = Assigned
kind_built us (private_of g is) = Private (place us g) (places us is)

abbrev pub channel_built : Users → Role × ℕ → Channel
channel_built us r = channel_of (kind_built us r.0) r.1

-- the channels, with what they are and the connections joined
unfoldable pub channels_built : (us : Users) (rs : List (ℕ × (Role × ℕ))) → Channels
channels_built us rs = record { ids = padded 128 0 (map (λ r. r.0) rs); cells = padded 128 no_channel (map (λ r. channel_built us r.1) rs) }

-- the state of a token, its users named by their places
unfoldable pub holding_built : Users → Standing → Holding
holding_built us nobody = Free
holding_built us (grabbed g) = Grabbed (place us g)
holding_built us (inhibited is) = Inhibited (places us is)
holding_built us (giving g r) = Giving (place us g) (place us r)
holding_built us (given r) = Given (place us r)

abbrev pub token_built : Users → Standing → Token
token_built us st = token_of (holding_built us st)

-- the tokens, with their states
unfoldable pub tokens_built : (us : Users) (rs : List (ℕ × Standing)) → Tokens
tokens_built us rs = record { ids = padded 64 0 (map (λ r. r.0) rs); cells = padded 64 no_token (map (λ r. token_built us r.1) rs) }

-- the tables of an image
unfoldable pub built : View → Domain
built v = record {
  limits = v.limits;
  links = v.links;
  users = users_built v.users;
  channels = channels_built (users_built v.users) v.channels;
  tokens = tokens_built (users_built v.users) v.tokens;
}

-- the tables of d's image: they are good, and say what d says
pub record Restored (d : Domain) : Type 0 where
  pub good : Good (built (view d))
  pub same : Same (built (view d)) d

-- of all good tables
abbrev pub Restores : Type 0
Restores = (d : Domain) → Good d → Restored d

-- ---- the images that are taken

-- each id is above the one before it, and the first above `low`
unfoldable pub ascending : (low : ℕ) (xs : List ℕ) → Bool
ascending low [] = true
ascending low (x ∷ xs) = let r = ascending x xs in ltb low x && r

-- user u is attached
unfoldable pub is_there : Users → ℕ → Bool
is_there us u = found (find us.ids u)

-- ids of attached users, ascending
unfoldable pub are_there : Users → List ℕ → Bool
are_there us is = ascending 0 is && all (is_there us) is

-- the users that a channel's row names are attached
unfoldable pub role_proper : Users → Role → Bool
role_proper us static = true
role_proper us user_id = true
role_proper us assigned = true
role_proper us (private_of g is) = is_there us g && are_there us is

-- a token's row has a state, and the users that it names are attached
unfoldable pub standing_proper : Users → Standing → Bool
standing_proper us nobody = false
standing_proper us (grabbed g) = is_there us g
standing_proper us (inhibited is) = are_there us is
standing_proper us (giving g r) = is_there us g && is_there us r
standing_proper us (given r) = is_there us r

-- the users have places, each list ascends by id, and the rows name attached users only
unfoldable pub proper : View → Bool
proper v =
    leb (length v.users) 64
    && ascending 0 (map (λ r. r.0) v.users)
    && ascending 0 (map (λ r. r.0) v.channels)
    && ascending 0 (map (λ r. r.0) v.tokens)
    && all (λ r. role_proper (users_built v.users) r.1.0) v.channels
    && all (λ r. standing_proper (users_built v.users) r.1) v.tokens

-- and its tables keep the rules: ids in the range of their kind, users on open connections, marks only on open connections that may join, nothing static, assigned
-- or inhibited with nobody on it, counts within limits
unfoldable pub takes : View → Bool
takes v = proper v && good (built v)

-- an image that is taken is that of its tables, which are good; and the image of all good tables is taken
abbrev pub TakenExactly : Type 0
TakenExactly = ((v : View) → So (takes v) → Good (built v) × (view (built v) ≡ v)) × ((d : Domain) → Good d → So (takes (view d)))
