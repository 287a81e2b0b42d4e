-- T-02: what is claimed of Images.
use Rattle.std.specs.Prelude.{ℕ, ◌≤◌, ◌<◌, ◌≡◌, ◌↔◌, false, List, length, take, drop, if◌then◌else◌}
use Rattle.std.proofs.Math.Bool.{So}
use Rattle.std.proofs.Math.Option.{Option, none, some}
use Rattle.codec_octets.specs.Octets.{Bytes}
use Rattle.domain.specs.Effects.{Settled}
use Rattle.domain.specs.Tables.{Domain}
use Rattle.domain.specs.Good.{Good}
use Rattle.domain_laws.specs.Same.{Same}
use Rattle.domain_laws.specs.View.{View, view}
use Rattle.domain_laws.specs.Built.{built, takes, Restored}
use Rattle.domain.specs.History.{Start, nothing_yet}
use Rattle.domain_begun.specs.Begun.{begun_by}
use Rattle.imaging.specs.Image.{image, written}
use Rattle.imaging.specs.Reading.{read_image, limits_out}

-- the octets are the image of these lists, and the lists keep document 01's rules
pub record Image (os : List ℕ) (v : View) : Type 0 where
  pub rules : So (takes v)
  pub octets : os ≡ image v

-- an image is read as its lists; and octets that are read as some lists are their image: no other octets are taken
abbrev pub ReadExactly : Type 0
ReadExactly = ((os : List ℕ) (v : View) → Image os v → read_image os ≡ some v) × ((os : List ℕ) (v : View) → Bytes os → read_image os ≡ some v → Image os v)

-- the image of a domain's tables: one that is taken, of numbers below 256, at most 17,692 of them
pub record Imaged (d : Domain) : Type 0 where
  pub is_image : Image (image (view d)) (view d)
  pub bytes : Bytes (image (view d))
  pub size : length (image (view d)) ≤ 17692

-- every good domain has such an image
abbrev pub Images : Type 0
Images = (d : Domain) → Good d → Imaged d

-- and some good domain's image has as many octets
abbrev pub BoundMet : Type 0
BoundMet = (d : Domain) × Good d × (length (image (view d)) ≡ 17692)

-- "Equal tables have equal Images and the reverse"
abbrev pub EqualImages : Type 0
EqualImages = (d e : Domain) → Good d → Good e → (Same d e → image (view d) ≡ image (view e)) × (image (view d) ≡ image (view e) → Same d e)

-- ---- reading: the reply, and the tables

-- "Reading takes exactly Images whose tables keep document 01's rules"; "10 where a known version's limits can be read and one is out of range, else 12, bad
-- image; no domain is made"
pub data Reads (os : List ℕ) (before : Domain) : ℕ × Domain → Type 0 where
  taken : (v : View) → Image os v → Reads os before (0, built v)
  out : So (limits_out os) → Reads os before (10, before)
  bad : limits_out os ≡ false → ((v : View) → Image os v → ⊥) → Reads os before (12, before)

-- what reading leaves: the tables that are made of the lists, or 12 and the tables as they were
unfoldable pub made_or : Option View → Domain → ℕ × Domain
made_or none before = (12, before)
made_or (some v) before = (0, built v)

-- the outcome of reading, as it is computed: 10 is looked for first
unfoldable pub restored : (os : List ℕ) (before : Domain) → ℕ × Domain
restored os before = if limits_out os then (10, before) else made_or (read_image os) before

-- of any octets this outcome is right, and no other is
abbrev pub OneReading : Type 0
OneReading = (os : List ℕ) (before : Domain) → Bytes os → Reads os before (restored os before) × ((r : ℕ × Domain) → Reads os before r → r ≡ restored os before)

-- the reply in words: 0 exactly where good tables have this image, 10 exactly where a limit is out of range, 12 exactly in no such case
pub record Replies (os : List ℕ) (n : ℕ) : Type 0 where
  pub zero : (n ≡ 0 → (d : Domain) × Good d × (os ≡ image (view d))) × ((d : Domain) → Good d → os ≡ image (view d) → n ≡ 0)
  pub ten : (n ≡ 10 → So (limits_out os)) × (So (limits_out os) → n ≡ 10)
  pub twelve :
      (n ≡ 12 → (limits_out os ≡ false) × ((d : Domain) → Good d → os ≡ image (view d) → ⊥))
      × (limits_out os ≡ false → ((d : Domain) → Good d → os ≡ image (view d) → ⊥) → n ≡ 12)

-- of any octets
abbrev pub RepliesExactly : Type 0
RepliesExactly = (os : List ℕ) (before : Domain) → Bytes os → Replies os (restored os before).0

-- what was written is read again: tables that are good, and say the same (domain, Built.restores)
abbrev pub Restarts : Type 0
Restarts = (d before : Domain) → Good d → (restored (image (view d)) before ≡ (0, built (view d))) × Restored d

-- what history begins with, by the lists that were read; with nothing where none were
unfoldable pub said_by : Option View → Start
said_by none = nothing_yet
said_by (some v) = begun_by v

-- what history begins with after an image, by its octets alone
unfoldable pub start_of : List ℕ → Start
start_of os = said_by (read_image os)

-- ---- writing

-- what writing the tables d to a room leaves
pub record Writes (d : Domain) (room : List ℕ) (s : Settled Domain) : Type 0 where
  -- "9 exactly when the image written exceeds the room, which stays untouched"
  pub nine : (s.reply ≡ 9) ↔ (length room < length (image (view d)))
  pub untouched : s.reply ≡ 9 → (s.sent ≡ 0) × (s.room ≡ room)
  -- else 0: the image stands at the front of the room, and the octets behind it stay
  pub zero : (s.reply ≡ 9 → ⊥) → s.reply ≡ 0
  pub front : s.reply ≡ 0 → take s.sent s.room ≡ image (view d)
  pub behind : s.reply ≡ 0 → drop s.sent s.room ≡ drop s.sent room
  -- the tables stay
  pub tables : s.tables ≡ d

-- any tables, any room
abbrev pub WriteExactly : Type 0
WriteExactly = (d : Domain) (room : List ℕ) → Writes d room (written d room)
