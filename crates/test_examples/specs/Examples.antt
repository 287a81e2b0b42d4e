-- The examples of document 01 in one table. An example is some octets and what they mean; or a message on a domain, what it sends, and the state
-- of a token then.
use Rattle.std.specs.Prelude.{◌≡◌, List, [], ◌∷◌, map, ℕ}
use Rattle.codec_table.specs.Codec.{Msg, Outcome, ok, refuse, decode}
use Rattle.codec_table.specs.Named.{Message, AUrq, DUrq, DUin, TGrq, TGcf, TIrq, TIcf, TVrq, TVrs, TVcf, TRrq, TRcf}
use Rattle.codec_table.specs.Named.{successful, no_such_user, too_many_tokens, user_rejected, user_requested, not_in_use, self_grabbed, self_inhibited, other_giving}
use Rattle.out_records.specs.Records.{Sent, to}
use Rattle.domain.specs.declared.token.Holding.{Holding}
use Rattle.domain.specs.declared.token.Holding.TheVariants.{Free, Grabbed, Inhibited, Given}
use Rattle.domain.specs.Tables.{Domain, fresh, state}
use Rattle.domain.specs.Events.{Event, opens, hears, reads, step, Outcome as Stepped}

pub data Example : Type 0 where
  octets : List ℕ → Outcome Msg → Example
  passes : (limit : ℕ) (before : List Message) (last : Message) (sent : List Sent) (token : ℕ) (state : Holding) → Example

abbrev pub message : ℕ → List ℕ → Outcome Msg
message n vs = ok (record { number = n; values = vs; items = [] })

-- messages on connection 0, with room for every answer
unfoldable pub goes : Domain → List Event → Domain
goes d [] = d
goes d (e ∷ es) = goes (step d e 17200).domain es

unfoldable pub on_0 : List Message → List Event
on_0 ms = map (λ m. hears 0 (reads m)) ms

-- a fresh domain with a token limit; users 1001 and 1002, at places 0 and 1, attach on connection 0; then the messages come
unfoldable pub heard : (limit : ℕ) (before : List Message) (last : Message) → Stepped
heard limit before last =
    step (goes (fresh (record { channels = 128; users = 64; tokens = limit })) (opens 0 ∷ on_0 (AUrq ∷ AUrq ∷ before))) (hears 0 (reads last)) 17200

-- the reply, the records and the state of a token
unfoldable pub seen : Stepped → ℕ → ℕ × List Sent × Holding
seen o k = (o.reply, o.sent, state o.domain.tokens k)

abbrev pub Holds : Example → Type 0
Holds (octets os o) = decode os ≡ o
Holds (passes limit before last sent k h) = seen (heard limit before last) k ≡ (0, sent, h)

abbrev pub All : List Example → Type 0
All [] = Unit {0}
All (e ∷ es) = Holds e × All es

abbrev pub examples : List Example
examples =
    octets (0x28 ∷ []) (message 10 []) ∷  -- P1 AUrq
    octets (0x29 ∷ []) (refuse 5) ∷
    octets (0x2E ∷ 0x00 ∷ 0x00 ∷ 0x06 ∷ []) (message 11 (0 ∷ 1007 ∷ [])) ∷  -- P2 AUcf successful, 1007
    octets (0x2D ∷ 0xA0 ∷ []) (message 11 (13 ∷ [])) ∷  -- P3 AUcf too-many-users
    octets (0x38 ∷ 0x00 ∷ 0x06 ∷ 0x03 ∷ 0xEB ∷ []) (message 14 (1007 ∷ 1003 ∷ [])) ∷  -- P4 CJrq 1007 for 1003
    octets (0x38 ∷ 0xFC ∷ 0x16 ∷ 0x03 ∷ 0xEB ∷ []) (message 14 (65535 ∷ 1003 ∷ [])) ∷  -- P5 CJrq 65535 for 1003
    octets (0x38 ∷ 0xFC ∷ 0x17 ∷ 0x03 ∷ 0xEB ∷ []) (refuse 5) ∷
    octets (0x7A ∷ 0x40 ∷ 0x00 ∷ 0x06 ∷ 0x00 ∷ 0x00 ∷ 0x40 ∷ []) (message 30 (9 ∷ 1007 ∷ 1 ∷ 2 ∷ [])) ∷  -- P6 TGcf token-not-available, 1007, token 1, otherGrabbed
    -- P7 Grabbed by 1001, TIrq by 1001: selfInhibited
    passes 64 (TGrq 1001 1 ∷ []) (TIrq 1001 1) (to 0 (TIcf successful 1001 1 self_inhibited) ∷ []) 1 (Inhibited 1) ∷
    -- P8 Giving 1001 to 1002, 1002 leaves: grabbed 1001, one TVcf
    passes 64 (TGrq 1001 1 ∷ TVrq 1001 1 1002 ∷ []) (DUrq user_requested (1002 ∷ []))
    (to 0 (DUin user_requested (1002 ∷ [])) ∷ to 0 (TVcf no_such_user 1001 1 self_grabbed) ∷ []) 1 (Grabbed 0) ∷
    -- P9 both leave in one DUrq: free, no TVcf
    passes 64 (TGrq 1001 1 ∷ TVrq 1001 1 1002 ∷ []) (DUrq user_requested (1001 ∷ 1002 ∷ []))
    (to 0 (DUin user_requested (1001 ∷ 1002 ∷ [])) ∷ []) 1 Free ∷
    -- P10 Giving, TRrq by 1001: otherGiving; then 1002 rejects: free, no TVcf
    passes 64 (TGrq 1001 1 ∷ TVrq 1001 1 1002 ∷ []) (TRrq 1001 1) (to 0 (TRcf successful 1001 1 other_giving) ∷ []) 1 (Given 1) ∷
    passes 64 (TGrq 1001 1 ∷ TVrq 1001 1 1002 ∷ TRrq 1001 1 ∷ []) (TVrs user_rejected 1002 1) [] 1 Free ∷
    -- P11 Limit 1, token 5 grabbed: asking for 6 says too-many-tokens, notInUse
    passes 1 (TGrq 1001 5 ∷ []) (TGrq 1001 6) (to 0 (TGcf too_many_tokens 1001 6 not_in_use) ∷ []) 6 Free ∷
    []
