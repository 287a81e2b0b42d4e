-- How history names holders: what can be read of users, tokens and offers from events, replies and messages sent alone, and from what history begins with. No
-- table is looked at.
use Rattle.std.specs.Prelude.{ℕ, Bool, true, false, ◌&&◌, ◌||◌, List, [], ◌∷◌, eqb, length, if◌then◌else◌}
use Rattle.std.proofs.Math.Option.{Option, none, some}
use Rattle.cols_spec.specs.Sets.{any, keep, below, member}
use Rattle.codec_table.specs.Named.{Message, EDrq, DPum, RJum, AUrq, AUcf, DUrq, DUin, CJrq, CJcf, CLrq, CCrq, CCcf, CDrq, CDin, CArq, CAin, CErq, CEin}
use Rattle.codec_table.specs.Named.{TGrq, TGcf, TIrq, TIcf, TVrq, TVin, TVrs, TVcf, TPrq, TPin, TRrq, TRcf, TTrq, TTcf, successful, too_many_tokens}
use Rattle.out_records.specs.Records.{Sent, to}
use Rattle.domain.specs.Events.{Event, opens, loses, hears, reads, refuses}

-- an event as it was read, the reply, and the messages sent
pub record Entry : Type 0 where
  pub event : Event
  pub reply : ℕ
  pub sent : List Sent

-- how u came to hold a token
pub data Gain : Type 0 where
  nothing by_grab by_inhibit by_offer : Gain

-- what history begins with: the connection of each user that counts as attached, how each user counts as holding a token, and the offers that count as open;
-- the manager of each channel that counts as private, the users that count as admitted there, and the connections that count as told that they are joined
pub record Start : Type 0 where
  pub homes : ℕ → Option ℕ
  pub gains : (k u : ℕ) → Gain
  pub offered : (k r : ℕ) → Bool
  pub managers : (c : ℕ) → Option ℕ
  pub guests : (c u : ℕ) → Bool
  pub joins : (c q : ℕ) → Bool

-- with nothing: nobody is attached, holds anything or is offered anything, and no channel is private or joined
unfoldable pub nothing_yet : Start
nothing_yet = record {
  homes = λ u. none;
  gains = λ k u. nothing;
  offered = λ k r. false;
  managers = λ c. none;
  guests = λ c u. false;
  joins = λ c q. false;
}

-- entries on a start, the last entry first
infixr 67 ◌▹◌
pub data History : Type 0 where
  begins : Start → History
  ◌▹◌ : Entry → History → History

-- what history reads of a message: a word, the users and the token of which it is said
pub data Word : Type 0 where
  attaches detaches closes grabs inhibits yields offers accepts declines full other : Word

unfoldable pub code : Word → ℕ
code attaches = 0
code detaches = 1
code closes = 2
code grabs = 3
code inhibits = 4
code yields = 5
code offers = 6
code accepts = 7
code declines = 8
code full = 9
code other = 10

pub record Sign : Type 0 where
  pub word : Word
  pub users : List ℕ
  pub token : ℕ

abbrev pub sign : Word → List ℕ → ℕ → Sign
sign w us k = record { word = w; users = us; token = k }

abbrev pub unread : Sign
unread = sign other [] 0

-- the word for success, or none
abbrev pub if_done : ℕ → Word → Word
if_done n w = if eqb n successful then w else other

-- a successful confirm, or one that says too-many-tokens
abbrev pub if_told : ℕ → Word → Word
if_told n w = if eqb n successful then w else if eqb n too_many_tokens then full else other

unfoldable pub reading : Message → Sign
reading (AUcf n none) = unread
reading (AUcf n (some u)) = sign (if_done n attaches) (u ∷ []) 0
reading (DUrq n us) = sign detaches us 0
reading (DPum n) = sign closes [] 0
reading (RJum n octets) = sign closes [] 0
reading (TGcf n u k s) = sign (if_told n grabs) (u ∷ []) k
reading (TIcf n u k s) = sign (if_told n inhibits) (u ∷ []) k
reading (TRcf n u k s) = sign (if_done n yields) (u ∷ []) k
reading (TVcf n u k s) = sign (if_done n yields) (u ∷ []) k
reading (TVin g k r) = sign offers (r ∷ []) k
reading (TVrs n r k) = sign (if eqb n successful then accepts else declines) (r ∷ []) k
reading (EDrq h i) = unread
reading AUrq = unread
reading (DUin n us) = unread
reading (CJrq u c) = unread
reading (CJcf n u c e) = unread
reading (CLrq cs) = unread
reading (CCrq u) = unread
reading (CCcf n u c) = unread
reading (CDrq u c) = unread
reading (CDin c) = unread
reading (CArq u c us) = unread
reading (CAin u c us) = unread
reading (CErq u c us) = unread
reading (CEin c us) = unread
reading (TGrq u k) = unread
reading (TIrq u k) = unread
reading (TPrq u k) = unread
reading (TPin u k) = unread
reading (TRrq u k) = unread
reading (TTrq u k) = unread
reading (TVrq g k r) = unread
reading (TTcf u k s) = unread

unfoldable pub link_of : Event → ℕ
link_of (opens p) = p
link_of (loses p) = p
link_of (hears p m) = p

-- a lost connection is read as DPum is
unfoldable pub asks : Event → Sign
asks (opens p) = unread
asks (loses p) = sign closes [] 0
asks (hears p (reads m)) = reading m
asks (hears p (refuses n octets)) = unread

unfoldable pub same : Word → Word → Bool
same v w = eqb (code v) (code w)

-- the word w of user u and token k
unfoldable pub is : (w : Word) (u k : ℕ) (s : Sign) → Bool
is w u k s = eqb k s.token && member u s.users && same w s.word

-- a record says so
unfoldable pub told : (e : Entry) (w : Word) (u k : ℕ) → Bool
told e w u k = any (λ r. elim r [ to p m ↦ is w u k (reading m) ]) e.sent

-- the event says so, on the connection given, and was answered 0
unfoldable pub said : Entry → Option ℕ → Word → ℕ → ℕ → Bool
said e none w u k = false
said e (some p) w u k = eqb e.reply 0 && eqb (link_of e.event) p && is w u k (asks e.event)

-- the connection given closes, by an event answered 0
unfoldable pub closed : Entry → Option ℕ → Bool
closed e none = false
closed e (some p) = eqb e.reply 0 && eqb (link_of e.event) p && same closes (asks e.event).word

-- u leaves by a DUrq from its connection that lists u, or when that connection closes
unfoldable pub leaves : (e : Entry) (at : Option ℕ) (u : ℕ) → Bool
leaves e at u = said e at detaches u 0 || closed e at

-- the connection to which a successful AUcf for u goes
unfoldable pub arrives : (rs : List Sent) (u : ℕ) (at : Option ℕ) → Option ℕ
arrives [] u at = at
arrives (to p m ∷ rs) u at = let r = arrives rs u at in if is attaches u 0 (reading m) then some p else r

-- u is attached from its AUcf until it leaves: the connection
unfoldable pub home : History → ℕ → Option ℕ
home (begins s) u = s.homes u
home (e ▹ h) u = let at = home h u in arrives e.sent u (if leaves e at u then none else at)

-- An offer to r opens with TVin and closes with a TVrs from r that is answered 0, or when r leaves
unfoldable pub open_offer : History → ℕ → ℕ → Bool
open_offer (begins s) k r = s.offered k r
open_offer (e ▹ h) k r =
    let before = open_offer h k r in
    if told e offers r k then true
    else if said e (home h r) accepts r k || said e (home h r) declines r k || leaves e (home h r) r then false
    else before

-- u gains k by a successful TGcf or TIcf to u, or by a TVrs of success from u while an offer to u is open. u loses it by a successful TRcf or TVcf
-- to u, or by leaving. In one event losses come first
unfoldable pub gain : History → ℕ → ℕ → Gain
gain (begins s) k u = s.gains k u
gain (e ▹ h) k u =
    let before = gain h k u in
    if told e grabs u k then by_grab
    else if told e inhibits u k then by_inhibit
    else if said e (home h u) accepts u k && open_offer h k u then by_offer
    else if told e yields u k || leaves e (home h u) u then nothing
    else before

unfoldable pub held : Gain → Bool
held nothing = false
held by_grab = true
held by_inhibit = true
held by_offer = true

-- u alone is to hold it
unfoldable pub alone : Gain → Bool
alone nothing = false
alone by_grab = true
alone by_inhibit = false
alone by_offer = true

-- token k has a holder or an open offer; how many tokens have
abbrev pub every_id : ℕ
every_id = 65536

unfoldable pub busy : History → ℕ → Bool
busy h k = any (λ u. held (gain h k u) || open_offer h k u) (below every_id)

unfoldable pub count : History → ℕ
count h = length (keep (busy h) (below every_id))
