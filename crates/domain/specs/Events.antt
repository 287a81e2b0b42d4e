-- One event on the domain: the reply, the tables after it, and the records sent.
use Rattle.std.specs.Prelude.{ℕ, Bool, not, ◌||◌, List, [], ◌∷◌, eqb, ltb, take, if◌then◌else◌}
use Rattle.cols_spec.specs.Sets.{has, with, connections}
use Rattle.codec_table.specs.Named.{Message, EDrq, DPum, RJum, AUrq, AUcf, DUrq, DUin, CJrq, CJcf, CLrq, CCrq, CCcf, CDrq, CDin, CArq, CAin, CErq, CEin}
use Rattle.codec_table.specs.Named.{TGrq, TGcf, TIrq, TIcf, TVrq, TVin, TVrs, TVcf, TPrq, TPin, TRrq, TRcf, TTrq, TTcf, forbidden_PDU_upward, invalid_PER_encoding}
use Rattle.out_records.specs.Records.{Sent, to, records}
use Rattle.domain.specs.Tables.{Domain, put_links, put_channels, put_tokens, put_both, at_limit, grant}
use Rattle.domain.specs.Effects.{Effect, ignored, done, within, exceeds}
use Rattle.domain.specs.Channels.{attach, join, leave_channels, convene, disband, admit, expel}
use Rattle.domain.specs.Leaving.{detach, close}
use Rattle.domain.specs.Passing.{take_token, share_token, drop_token, offer, answer, please, test}

-- the limits are reached
unfoldable pub users_full : Domain → Bool
users_full d = at_limit d.limits.users d.users.ids

unfoldable pub channels_full : Domain → Bool
channels_full d = at_limit d.limits.channels d.channels.ids

unfoldable pub tokens_full : Domain → Bool
tokens_full d = at_limit d.limits.tokens d.tokens.ids

-- the request of a message on an open connection p; `new` is the id that a new user, assigned or private channel gets
unfoldable pub act : (new : ℕ) (d : Domain) (p : ℕ) (m : Message) → Effect Domain
act new d p (EDrq h i) = done d []
act new d p (DPum n) = close d p
act new d p (RJum n octets) = close d p
act new d p AUrq = within (put_both d) (attach new (users_full d) (channels_full d) d.users d.channels p)
act new d p (DUrq n ids) = detach d p n ids
act new d p (CJrq u c) = within (put_channels d) (join new (channels_full d) d.users d.channels p u c)
act new d p (CLrq cs) = within (put_channels d) (leave_channels d.channels p cs)
act new d p (CCrq u) = within (put_channels d) (convene new (channels_full d) d.users d.channels p u)
act new d p (CDrq u c) = within (put_channels d) (disband d.users d.channels p u c)
act new d p (CArq u c ids) = within (put_channels d) (admit d.users d.channels p u c ids)
act new d p (CErq u c ids) = within (put_channels d) (expel d.users d.channels p u c ids)
act new d p (TGrq u k) = within (put_tokens d) (take_token (tokens_full d) d.users d.tokens p u k)
act new d p (TIrq u k) = within (put_tokens d) (share_token (tokens_full d) d.users d.tokens p u k)
act new d p (TVrq u k r) = within (put_tokens d) (offer d.users d.tokens p u k r)
act new d p (TVrs n r k) = within (put_tokens d) (answer d.users d.tokens p n r k)
act new d p (TPrq u k) = within (put_tokens d) (please d.users d.tokens p u k)
act new d p (TRrq u k) = within (put_tokens d) (drop_token d.users d.tokens p u k)
act new d p (TTrq u k) = within (put_tokens d) (test d.users d.tokens p u k)
-- these never come here: what may not go up is refused before, by reply 6
act new d p (AUcf n u) = ignored
act new d p (DUin n ids) = ignored
act new d p (CJcf n u c e) = ignored
act new d p (CCcf n u c) = ignored
act new d p (CDin c) = ignored
act new d p (CAin u c ids) = ignored
act new d p (CEin c ids) = ignored
act new d p (TGcf n u k s) = ignored
act new d p (TIcf n u k s) = ignored
act new d p (TVcf n u k s) = ignored
act new d p (TRcf n u k s) = ignored
act new d p (TVin g k r) = ignored
act new d p (TPin u k) = ignored
act new d p (TTcf u k s) = ignored

-- what the provider makes of a message's octets: the message, or one of the replies 4 to 8
pub data Reading : Type 0 where
  reads : Message → Reading
  refuses : ℕ → List ℕ → Reading

pub data Event : Type 0 where
  opens loses : ℕ → Event
  hears : ℕ → Reading → Event

pub record Outcome : Type 0 where
  pub reply : ℕ
  pub domain : Domain
  pub sent : List Sent

-- replies 1 to 9 leave the tables unchanged
abbrev pub stays : Domain → ℕ → Outcome
stays d n = record { reply = n; domain = d; sent = [] }

-- 9 takes the place of the reply where the records exceed the room
unfoldable pub sends : (d : Domain) (room n : ℕ) (e : Domain) (rs : List Sent) → Outcome
sends d room n e rs = if exceeds (records rs) room then stays d 9 else record { reply = n; domain = e; sent = rs }

unfoldable pub ends : (d : Domain) (room : ℕ) (x : Effect Domain) → Outcome
ends d room ignored = stays d 1
ends d room (done e rs) = sends d room 0 e rs

-- bad encoding: RJum, diagnostic 4, to p; a message that may not go up: diagnostic 2; with the first 16 octets, or all if fewer
unfoldable pub complaint : (n p : ℕ) (octets : List ℕ) → List Sent
complaint n p octets =
    if eqb n 5 then to p (RJum invalid_PER_encoding (take 16 octets)) ∷ []
    else if eqb n 6 then to p (RJum forbidden_PDU_upward (take 16 octets)) ∷ []
    else []

unfoldable pub answers : (new : ℕ) (d : Domain) (p : ℕ) (m : Reading) (room : ℕ) → Outcome
answers new d p (reads m) room = ends d room (act new d p m)
answers new d p (refuses n octets) room = sends d room n d (complaint n p octets)

-- one event, where a new user or channel gets the id `new`
unfoldable pub step_with : (new : ℕ) (d : Domain) (e : Event) (room : ℕ) → Outcome
step_with new d (opens p) room =
    if ltb 15 p then stays d 2
    else if has d.links p then stays d 3
    else record { reply = 0; domain = put_links d (with connections d.links p); sent = [] }
step_with new d (loses p) room =
    if ltb 15 p || not (has d.links p) then stays d 2
    else ends d room (close d p)
step_with new d (hears p m) room =
    if ltb 15 p || not (has d.links p) then stays d 2
    else answers new d p m room

-- our own choice: the lowest free id from 1001
unfoldable pub step : (d : Domain) (e : Event) (room : ℕ) → Outcome
step d e room = step_with (grant d.channels) d e room
