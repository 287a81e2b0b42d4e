-- Lists of users: which of them count, and what is said of them to each connection.
use Rattle.std.specs.Prelude.{◌≡◌, ℕ, ◌<◌, ◌≤◌, Bool, true, false, List, [], ◌∷◌, eqb, length, take, get_or, if◌then◌else◌}
use Rattle.cols_spec.specs.Sets.{keep, null, once, has, connections}
use Rattle.cols_spec.specs.Places.{At, Nowhere, find, found}
use Rattle.codec_table.specs.Named.{Message, CAin, CEin}
use Rattle.out_records.specs.Records.{Sent, to, wire, record_of}
use Rattle.out_records.specs.Out.{Puts, each_two}
use Rattle.domain.specs.Tables.{Users, link, attached}
use Rattle.domain.specs.Effects.{Effect, ignored, done}
use Rattle.domain.specs.Channels.{places, own}
use Rattle.serve_private_tell.specs.declared.Pick.{Pick}
use Rattle.serve_private_tell.specs.declared.Pick.TheVariants.{Attached, Admitted}
use Rattle.serve_private_tell.specs.declared.Say.{Say}
use Rattle.serve_private_tell.specs.declared.Say.TheVariants.{Admits, Expels}

-- the user at place i counts
unfoldable pub counted : (k : Pick) (i : ℕ) → Bool
counted Attached i = true
counted (Admitted adm) i = has adm i

-- user v is attached, or admitted by its place
unfoldable pub picked : (us : Users) (k : Pick) (v : ℕ) → Bool
picked us Attached v = found (find us.ids v)
picked us (Admitted adm) v = elim (find us.ids v) [ At i ↦ has adm i | Nowhere ↦ false ]

-- those of a list that are picked, each once, in their order
unfoldable pub sieved : (us : Users) (k : Pick) (ids : List ℕ) → List ℕ
sieved us k ids = keep (picked us k) (once ids)

-- the connection of a user, 16 where it is not attached; and those of a list's users, held beside the list
unfoldable pub home : (us : Users) (u : ℕ) → ℕ
home us u = elim (find us.ids u) [ At i ↦ link us i | Nowhere ↦ connections ]

abbrev pub Located : (us : Users) (ids spots : List ℕ) → Type 0
Located us ids spots = (i : ℕ) → i < length ids → get_or spots i 0 ≡ home us (get_or ids i 0)

-- those of a list that are on connection q
abbrev pub owned_by : (us : Users) (q : ℕ) (ids : List ℕ) → List ℕ
owned_by us q ids = keep (λ v. found (attached us q v)) ids

-- what is known of a list's users: the connection of each; how many of them each connection has, and how many stand before its first
pub record Housed (us : Users) (ids spots shares firsts : List ℕ) : Type 0 where
  pub located : Located us ids spots
  pub shared : (q : ℕ) → q < connections → get_or shares q 0 ≡ length (owned_by us q ids)
  pub led : (q : ℕ) → q < connections → (get_or firsts q 0 ≤ length ids) × (owned_by us q (take (get_or firsts q 0) ids) ≡ [])

-- with a user more, at n
unfoldable pub leads : (share first n : ℕ) → ℕ
leads share first n = if eqb share 0 then n else first

-- what a pass over `ids` takes: those picked, and what is known of them; their places are a mask
pub record Takes (us : Users) (k : Pick) (ids taken spots shares firsts : List ℕ) (mask : ℕ) : Type 0 where
  pub taken_are : taken ≡ sieved us k ids
  pub mask_is : mask ≡ places us taken
  pub housed : Housed us taken spots shares firsts

-- CAin or CEin
unfoldable pub says : Say → List ℕ → Message
says (Admits u c) ids = CAin u c ids
says (Expels u c) ids = CEin c ids

-- a record is begun: who lays its n users behind it makes it whole
abbrev pub Begins : (s : List ℕ) (at : ℕ) (say : Say) (q n : ℕ) (t : List ℕ) (next : ℕ) → Type 0
Begins s at say q n t next =
    (ids : List ℕ) → length ids ≡ n → n ≤ 64 → (u : List ℕ) (k : ℕ) → Puts t next (each_two 1001 ids) u k → Puts s at (record_of (wire (says say ids)) q) u k

-- what connection q hears: its own ids, if it has any
unfoldable pub own_to : (us : Users) (ids : List ℕ) (say : (List ℕ → Message)) (q : ℕ) → List Sent
own_to us ids say q =
    let mine = owned_by us q ids in
    if null mine then [] else to q (say mine) ∷ []

-- those listed are told, where there are any; with these tables then
abbrev pub tells : {A : Type 0} (us : Users) (say : Say) (list : List ℕ) (after : A) → Effect A
tells us say list after = if null list then ignored else done after (own us list (says say))
