-- The relation between a history and the tables: each user's connection, and what it holds and is offered of each token. What keeps it. Assumes nothing.
use Rattle.std.specs.Prelude.{if◌then◌else◌}
use mathlib.Core.Path.{◌≡◌, refl, sym, ap, ap₂, ◌∙◌}
use mathlib.Core.Bool.{Bool, true, false, ◌&&◌}
use mathlib.Core.List.{List}
use mathlib.Core.Option.{none, some}
use Prim.Native.Nat.{ℕ, ◌<◌, ◌≤◌}
use native.Mathlib.Nat.{lt_of_lt_of_le}
use lib.Dec.{eqb, ltb}
use lib.ListN.{length}
use borrow.Author.Tests.{ne_eqb, eqb-true}
use Rattle.cols_spec.specs.Places.{Place, At, Nowhere, find}
use Rattle.cols_spec.specs.Sets.{has, all}
use Rattle.out_records.specs.Records.{Sent, records}
use Rattle.cols_spec.proofs.Rows.{At≢Nowhere, find_holds, same_place}
use Rattle.domain.specs.Tables.{Users, Tokens, Domain, link, state}
use Rattle.domain.specs.declared.token.Holding.{Holding}
use Rattle.domain.specs.declared.token.Holding.TheVariants.{Free, Grabbed, Inhibited, Giving, Given}
pub use Rattle.domain.specs.Tables.{seen}
use Rattle.domain.specs.Events.{Event, Outcome, stays, sends, ends}
use Rattle.domain.specs.Effects.{Effect, ignored, done, from, within}
use Rattle.domain.specs.History.{Entry, History, ◌▹◌, Word, grabs, inhibits, yields, offers, accepts, declines, other, code, same, unread, asks, told, said, leaves}
use Rattle.domain.specs.History.{home, nothing, by_grab, by_inhibit}
use Rattle.domain.proofs.invariant.From.{from_by}
use Rattle.domain.proofs.holders.Heard.{Mark, mark, heard, mark_step, mutes, mute, hush, idle, idle_reply, idle_unread, home_silent, mark_silent}

-- how one stands who holds nothing and is offered nothing
abbrev pub nobody : Mark
nobody = (nothing, false)

-- how the user at place i stands to a token: the grabber and the giver alone, the inhibitors, the recipient
unfoldable pub stand : Holding → ℕ → Mark
stand Free i = nobody
stand (Grabbed g) i = (if eqb g i then by_grab else nothing, false)
stand (Inhibited us) i = (if has us i then by_inhibit else nothing, false)
stand (Giving g r) i = (if eqb g i then by_grab else nothing, eqb r i)
stand (Given r) i = (nothing, eqb r i)

-- history has each user where the table has it, and each holding to each token as the token's state says
pub record Agrees (h : History) (us : Users) (ts : Tokens) : Type 0 where
  pub homes : (u : ℕ) → home h u ≡ seen (find us.ids u) none (λ i. some (link us i))
  pub marks : (k u : ℕ) → mark h k u ≡ seen (find us.ids u) nobody (stand (state ts k))

-- an event and its outcome, as history keeps them
abbrev pub entry : Event → Outcome → Entry
entry ev o = record { event = ev; reply = o.reply; sent = o.sent }

-- the event went well: the relation holds after it, and the limits are the same
pub record Went (h : History) (d : Domain) (ev : Event) (o : Outcome) : Type 0 where
  pub agrees : Agrees (entry ev o ▹ h) o.domain.users o.domain.tokens
  pub limits : o.domain.limits ≡ d.limits

-- what a request does goes well; one that is ignored leaves nothing to show
abbrev pub Fine : History → Domain → Event → Effect Domain → Type 0
Fine h d ev ignored = Unit {0}
Fine h d ev (done e rs) = Went h d ev (record { reply = 0; domain = e; sent = rs })

module _ (h : History) (d : Domain) (a : Agrees h d.users d.tokens) (ev : Event) where
  -- an entry of which history reads nothing, and that leaves users and tokens alone
  pub quiet : (o : Outcome) → idle (entry ev o) ≡ true → all mute o.sent ≡ true
      → o.domain.users ≡ d.users → o.domain.tokens ≡ d.tokens → o.domain.limits ≡ d.limits → Went h d ev o
  quiet o i m us ts ls = record {
    agrees = record {
      homes = λ u. home_silent (entry ev o) i h m u ∙ a.homes u ∙ ap (λ (x : Users). seen (find x.ids u) none (λ i. some (link x i))) (sym us);
      marks = λ k u. mark_silent (entry ev o) i h m k u ∙ a.marks k u ∙ ap₂ (λ (x : Users) (t : Tokens). seen (find x.ids u) nobody (stand (state t k))) (sym us) (sym ts);
    };
    limits = ls;
  }

  -- replies 1 to 9: nothing changes
  pub stay : (n : ℕ) → eqb n 0 ≡ false → Went h d ev (stays d n)
  unfolding all
  stay n q = quiet (stays d n) (idle_reply (entry ev (stays d n)) q) refl refl refl refl

  -- records that exceed the room are reply 9, and others are sent
  pub sends_fine : (room : ℕ) (e : Domain) (rs : List Sent) → Went h d ev (record { reply = 0; domain = e; sent = rs }) → Went h d ev (sends d room 0 e rs)
  unfolding sends
  sends_fine room e rs w = go (ltb room (length (records rs)))
    where
      go : (b : Bool) → Went h d ev (if b then stays d 9 else record { reply = 0; domain = e; sent = rs })
      go true = stay 9 refl
      go false = w

  pub ends_fine : (room : ℕ) (x : Effect Domain) → Fine h d ev x → Went h d ev (ends d room x)
  unfolding ends
  ends_fine room ignored f = stay 1 refl
  ends_fine room (done e rs) f = sends_fine room e rs f

  -- a message that history does not read, answered by records that it does not read
  pub calm : asks ev ≡ unread → (e : Domain) (rs : List Sent) → e.users ≡ d.users → e.tokens ≡ d.tokens → e.limits ≡ d.limits → all mute rs ≡ true → Fine h d ev (done e rs)
  calm q e rs us ts ls m = quiet _ (idle_unread _ q) m us ts ls

  -- the place of an initiator; `put` puts the tables that the request may change back into the domain
  pub from_fine : {A : Type 0} (put : (A → Domain)) (p u : ℕ) (f : (ℕ → Effect A))
      → ((i : ℕ) → find d.users.ids u ≡ At i → link d.users i ≡ p → Fine h d ev (within put (f i))) → Fine h d ev (within put (from d.users p u f))
  unfolding within
  from_fine put p u f w = from_by (λ x. Fine h d ev (within put x)) tt d.users p u f w

-- ---- an event about one token: a record with the word sw for a user x, a request with the word aw by a user y

-- what such an event makes of a mark; x and y say whether it is this user
abbrev pub shifts : (sw aw : Word) (x y : Bool) → Mark → Mark
shifts sw aw x y m = heard (x && same grabs sw) (x && same inhibits sw) (y && same accepts aw) (y && same declines aw) (x && same yields sw) (x && same offers sw) false m

-- a word that history reads of a record
abbrev pub ReadWord : Word → Type 0
ReadWord w = (x : Word) → mutes x ≡ true → same w x ≡ false

module _ (h : History) (us : Users) (ts : Tokens) (a : Agrees h us ts) (few : length us.ids ≤ 64) (e : Entry) (after : Tokens) (k₀ x y : ℕ) (sw aw : Word) (was now : Holding) where
  -- it is enough to compare, place by place, how the state before and the state after stand
  pub token_agrees :
      state ts k₀ ≡ was
      → ((k : ℕ) → state after k ≡ (if eqb k k₀ then now else state ts k))
      → (c i : ℕ) → find us.ids x ≡ At c → find us.ids y ≡ At i
      → ((u : ℕ) → leaves e (home h u) u ≡ false)
      → ((u : ℕ) → home (e ▹ h) u ≡ home h u)
      → ((w : Word) → ReadWord w → (u k : ℕ) → told e w u k ≡ (eqb k k₀ && eqb u x && same w sw))
      → ((w : Word) → same w other ≡ false → (u k : ℕ) → said e (home h u) w u k ≡ (eqb k k₀ && eqb u y && same w aw))
      → ((j : ℕ) → j < 64 → shifts sw aw (eqb c j) (eqb i j) (stand was j) ≡ stand now j)
      → Agrees (e ▹ h) us after
  unfolding same code
  token_agrees old set c i theirs mine here homely tells says law = record {
    homes = λ u. homely u ∙ a.homes u;
    marks = λ k u. mark_step e h k u ∙ by_token k u (eqb k k₀) refl ∙ ap (λ (s : Holding). seen (find us.ids u) nobody (stand s)) (sym (set k));
  }
    where
      by_user : (u : ℕ) (p : Place) → find us.ids u ≡ p
          → shifts sw aw (eqb u x) (eqb u y) (seen p nobody (stand (state ts k₀))) ≡ seen p nobody (stand now)
      by_user u (At j) q =
          rw (← (same_place us.ids x u c j theirs q), ← (same_place us.ids y u i j mine q), old)
          (law j (lt_of_lt_of_le (find_holds us.ids u j q).1 few))
      by_user u Nowhere q =
          rw (ne_eqb u x (λ r. At≢Nowhere (sym q ∙ ap (find us.ids) r ∙ theirs)), ne_eqb u y (λ r. At≢Nowhere (sym q ∙ ap (find us.ids) r ∙ mine)))

      go : (k u : ℕ) (z : Bool) → eqb k k₀ ≡ z
          → heard (z && eqb u x && same grabs sw) (z && eqb u x && same inhibits sw) (z && eqb u y && same accepts aw) (z && eqb u y && same declines aw)
          (z && eqb u x && same yields sw) (z && eqb u x && same offers sw) false (mark h k u)
          ≡ seen (find us.ids u) nobody (stand (if z then now else state ts k))
      go k u true q = rw (eqb-true k k₀ q, a.marks k₀ u) (by_user u (find us.ids u) refl)
      go k u false q = a.marks k u

      by_token : (k u : ℕ) (z : Bool) → eqb k k₀ ≡ z
          → heard (told e grabs u k) (told e inhibits u k) (said e (home h u) accepts u k) (said e (home h u) declines u k)
          (told e yields u k) (told e offers u k) (leaves e (home h u) u) (mark h k u)
          ≡ seen (find us.ids u) nobody (stand (if eqb k k₀ then now else state ts k))
      by_token k u z q =
          rw (
            tells grabs (λ v m. (hush v m).1) u k,
            tells inhibits (λ v m. (hush v m).2) u k,
            tells yields (λ v m. (hush v m).3) u k,
            tells offers (λ v m. (hush v m).4) u k,
            says accepts refl u k,
            says declines refl u k,
            here u,
          )
          (go k u (eqb k k₀) refl)
