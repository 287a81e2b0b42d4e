-- New ids in a circle (T-04): the search starts at the id that follows the last one handed out, 65535 is followed by 1001, and ids in use are passed over. Users,
-- assigned and private channels share the ids. Between two grants of one id lie at least 64,407 others.
use Rattle.std.specs.Prelude.{ℕ, zero, suc, ◌≤◌, ◌≡◌, Bool, true, false, ◌&&◌, ◌||◌, List, [], ◌∷◌, ◌++◌, eqb, ltb, length, if◌then◌else◌}
use Rattle.std.proofs.Math.Bool.{So}
use Rattle.cols_spec.specs.Sets.{keep, all, each, below}
use Rattle.cols_spec.specs.Places.{find, found}
use Rattle.out_records.specs.Records.{Sent, to}
use Rattle.domain.specs.declared.Limits.{Limits}
use Rattle.domain.specs.Tables.{Domain, fresh, FreeId}
use Rattle.domain.specs.Events.{Event, step_with}
use Rattle.domain.specs.Good.{Good}
use Rattle.domain.specs.Claims.{Turn, formed}
use Rattle.domain_laws.specs.Same.{Same, Alike}
use Rattle.domain.specs.Hearers.{Notice, comes, convenes, joins, admits, expels, silent, notice}

-- ---- the circle

-- 65535 is followed by 1001, and so is 0, which stands for no id
unfoldable pub next_id : ℕ → ℕ
next_id x = if ltb 1000 x && ltb x 65535 then suc x else 1001

-- from x on, over ids in use, y is the first that is free
pub data Reaches (in_use : ℕ → Bool) : ℕ → ℕ → Type 0 where
  stops : {x : ℕ} → in_use x ≡ false → Reaches in_use x x
  passes : {x y : ℕ} → in_use x ≡ true → Reaches in_use (next_id x) y → Reaches in_use x y

-- the search as it is made: at most n ids are passed over
unfoldable pub search_from : (n : ℕ) (in_use : (ℕ → Bool)) (x : ℕ) → ℕ
search_from zero in_use x = x
search_from (suc n) in_use x = let r = search_from n in_use (next_id x) in if in_use x then r else x

-- how many ids are in use
unfoldable pub how_many : (ℕ → Bool) → ℕ
how_many in_use = length (keep in_use (below 65536))

-- where at most 128 ids are in use, passing over 128 is enough
abbrev pub SearchFinds : Type 0
SearchFinds =
    (in_use : (ℕ → Bool)) (x : ℕ) → 1001 ≤ x → x ≤ 65535 → how_many in_use ≤ 128
    → Reaches in_use x (search_from 128 in_use x) × (1001 ≤ search_from 128 in_use x) × (search_from 128 in_use x ≤ 65535)

-- ---- the count

-- of the ids from 1001 on none comes into use; none but y does. (Static channels come and go below.)
abbrev pub NoNew : (before after : (ℕ → Bool)) → Type 0
NoNew before after = (z : ℕ) → 1001 ≤ z → after z ≡ true → before z ≡ true

abbrev pub OnlyNew : (before after : (ℕ → Bool)) → ℕ → Type 0
OnlyNew before after y = (z : ℕ) → 1001 ≤ z → after z ≡ true → (before z || eqb z y) ≡ true

-- x was handed out, and the ids `start` were in use then. Since then n ids were handed out, `last` is the last one, and the ids `now` are in use
pub data Since (start : ℕ → Bool) (x : ℕ) : (now : (ℕ → Bool)) (last n : ℕ) → Type 0 where
  just_now : Since start x start x 0
  -- some ids are no longer in use
  freed : {now after : ℕ → Bool} {last n : ℕ} → Since start x now last n → NoNew now after → Since start x after last n
  -- y is handed out: the first free id from the one that follows the last
  another : {now after : ℕ → Bool} {last n y : ℕ} → Since start x now last n → Reaches now (next_id last) y → OnlyNew now after y → Since start x after y (suc n)

-- at most 128 ids are in use when x is handed out, x among them: before the search ends at x again, at least 64,407 are handed out
abbrev pub FarApart : Type 0
FarApart =
    (start : (ℕ → Bool)) (x : ℕ) → 1001 ≤ x → x ≤ 65535 → start x ≡ true → how_many start ≤ 128
    → (now : (ℕ → Bool)) (last n : ℕ) → Since start x now last n → Reaches now (next_id last) x → 64407 ≤ n

-- ---- one event

-- id c is in use: a channel has it, and so every attached user's id is in use
abbrev pub uses : Domain → ℕ → Bool
uses d c = found (find d.channels.ids c)

-- the id that the next new user, assigned or private channel gets
unfoldable pub upcoming : Domain → ℕ → ℕ
upcoming d last = search_from 128 (uses d) (next_id last)

-- of good tables it is the first free id from the one that follows the last
abbrev pub UpcomingRight : Type 0
UpcomingRight = (d : Domain) (last : ℕ) → Good d → Reaches (uses d) (next_id last) (upcoming d last) × (1001 ≤ upcoming d last) × (upcoming d last ≤ 65535)

-- with such new ids too, every event treats tables that say the same alike, where the last id is the same
abbrev pub SameStepRolling : Type 0
SameStepRolling =
    (d e : Domain) (last : ℕ) (v : Event) (room : ℕ) → Good d → Good e → Same d e → So (formed v) → Alike (step_with (upcoming d last) d v room) (step_with (upcoming e last) e v room)

-- a fresh domain starts at 1001
abbrev pub FreshFirst : Type 0
FreshFirst = (l : Limits) → upcoming (fresh l) 0 ≡ 1001

-- the id that a message hands out: a successful AUcf, a successful CCcf, a successful CJcf that answers a request for channel 0
unfoldable pub hands_out : Notice → List ℕ
hands_out (comes u) = u ∷ []
hands_out (convenes c u) = c ∷ []
hands_out (joins asked c) = if eqb asked 0 then c ∷ [] else []
hands_out (admits c us) = []
hands_out (expels c us) = []
hands_out silent = []

-- the ids that an event hands out, read from what is sent
unfoldable pub handed_by : List Sent → List ℕ
handed_by rs = each (λ r. elim r [ to p m ↦ hands_out (notice m) ]) rs

-- An event hands out nothing, and no id comes into use; or it hands out `new`, which is in use then, and no other comes into use
pub data Deals (new : ℕ) (before after : ℕ → Bool) (out : List ℕ) : Type 0 where
  none_out : out ≡ [] → NoNew before after → Deals new before after out
  one_out : out ≡ new ∷ [] → after new ≡ true → OnlyNew before after new → Deals new before after out

-- what is read from the records is what the tables do
abbrev pub DealsRight : Type 0
DealsRight =
    (d : Domain) (new : ℕ) (v : Event) (room : ℕ) → Good d → FreeId d new
    → Deals new (uses d) (uses (step_with new d v room).domain) (handed_by (step_with new d v room).sent)

-- no refusal changes: whatever new id is chosen, the reply is the same, and as many ids are handed out
abbrev pub NoRefusalChanges : Type 0
NoRefusalChanges =
    (d : Domain) (a b : ℕ) (v : Event) (room : ℕ)
    → ((step_with a d v room).reply ≡ (step_with b d v room).reply) × (length (handed_by (step_with a d v room).sent) ≡ length (handed_by (step_with b d v room).sent))

-- ---- every run

-- a domain, the last id handed out (0 for none), and all ids handed out, the latest first
pub record Handing : Type 0 where
  pub domain : Domain
  pub last : ℕ
  pub handed : List ℕ

-- the last id handed out: where an event hands out nothing, the one before
unfoldable pub latest : (out : List ℕ) (last : ℕ) → ℕ
latest [] last = last
latest (x ∷ xs) last = x

-- one event
unfoldable pub hands : Handing → Turn → Handing
hands s t =
    let o = step_with (upcoming s.domain s.last) s.domain t.0 t.1 in
    record { domain = o.domain; last = latest (handed_by o.sent) s.last; handed = handed_by o.sent ++ s.handed }

-- a refused request moves nothing
abbrev pub RefusedStays : Type 0
RefusedStays = (s : Handing) (t : Turn) → ((step_with (upcoming s.domain s.last) s.domain t.0 t.1).reply ≡ 0 → ⊥) → hands s t ≡ s

-- any number of events
unfoldable pub hands_all : Handing → List Turn → Handing
hands_all s [] = s
hands_all s (t ∷ ts) = hands_all (hands s t) ts

-- between two grants of one id at least 64,407 others lie
abbrev pub Spaced : List ℕ → Type 0
Spaced gs = (us vs ws : List ℕ) (x : ℕ) → gs ≡ us ++ (x ∷ (vs ++ (x ∷ ws))) → 64407 ≤ length vs

-- any events, with any rooms, from any good tables and whatever last id: from a fresh domain with 0, and from an image's tables
abbrev pub SpacedRun : Type 0
SpacedRun = (d : Domain) (last : ℕ) (ts : List Turn) → Good d → So (all (λ t. formed t.0) ts) → Spaced (hands_all (record { domain = d; last = last; handed = [] }) ts).handed
