-- The covered messages by name, with their fields in the order of clause 7 of T.125, and what each is to the table of messages.
use Rattle.std.specs.Prelude.{Bool, List, [], ◌∷◌, ℕ, zero, suc, get_or}
use Rattle.std.proofs.Math.Option.{Option, none, some}
use Rattle.codec_octets.specs.Octets.{nothing, list}
use Rattle.codec_table.specs.Messages.{Field, Way, down, Row, plain, optional, uncovered, unknown, table, entry, row}
use Rattle.codec_table.specs.Codec.{Msg, fits_row, Outcome, ok, refuse, decode, encode}

-- document 01: "The codec covers 32 of the 43 domain messages"
pub data Message : Type 0 where
  -- height, interval
  EDrq : ℕ → ℕ → Message
  -- reason
  DPum : ℕ → Message
  -- diagnostic, first octets
  RJum : ℕ → List ℕ → Message
  AUrq : Message
  -- result, user
  AUcf : ℕ → Option ℕ → Message
  -- reason, users
  DUrq DUin : ℕ → List ℕ → Message
  -- user, channel
  CJrq : ℕ → ℕ → Message
  -- result, user, channel asked for, channel
  CJcf : ℕ → ℕ → ℕ → Option ℕ → Message
  -- channels
  CLrq : List ℕ → Message
  -- user
  CCrq : ℕ → Message
  -- result, user, channel
  CCcf : ℕ → ℕ → Option ℕ → Message
  -- user, channel
  CDrq : ℕ → ℕ → Message
  -- channel
  CDin : ℕ → Message
  -- manager, channel, users
  CArq CAin CErq : ℕ → ℕ → List ℕ → Message
  -- channel, users
  CEin : ℕ → List ℕ → Message
  -- user, token
  TGrq TIrq TPrq TPin TRrq TTrq : ℕ → ℕ → Message
  -- result, user, token, status
  TGcf TIcf TVcf TRcf : ℕ → ℕ → ℕ → ℕ → Message
  -- giver, token, recipient
  TVrq TVin : ℕ → ℕ → ℕ → Message
  -- result, recipient, token
  TVrs : ℕ → ℕ → ℕ → Message
  -- user, token, status
  TTcf : ℕ → ℕ → ℕ → Message

-- results (the last three are diagnostics too, by the same numbers)
abbrev pub successful : ℕ
successful = 0

abbrev pub domain_merging : ℕ
domain_merging = 1

abbrev pub domain_not_hierarchical : ℕ
domain_not_hierarchical = 2

abbrev pub no_such_channel : ℕ
no_such_channel = 3

abbrev pub no_such_domain : ℕ
no_such_domain = 4

abbrev pub no_such_user : ℕ
no_such_user = 5

abbrev pub not_admitted : ℕ
not_admitted = 6

abbrev pub other_user_id : ℕ
other_user_id = 7

abbrev pub parameters_unacceptable : ℕ
parameters_unacceptable = 8

abbrev pub token_not_available : ℕ
token_not_available = 9

abbrev pub token_not_possessed : ℕ
token_not_possessed = 10

abbrev pub too_many_channels : ℕ
too_many_channels = 11

abbrev pub too_many_tokens : ℕ
too_many_tokens = 12

abbrev pub too_many_users : ℕ
too_many_users = 13

abbrev pub unspecified_failure : ℕ
unspecified_failure = 14

abbrev pub user_rejected : ℕ
user_rejected = 15

-- reasons
abbrev pub domain_disconnected : ℕ
domain_disconnected = 0

abbrev pub provider_initiated : ℕ
provider_initiated = 1

abbrev pub token_purged : ℕ
token_purged = 2

abbrev pub user_requested : ℕ
user_requested = 3

abbrev pub channel_purged : ℕ
channel_purged = 4

-- diagnostics, up to 10 (11 to 13 are named as results)
abbrev pub inconsistent_merge : ℕ
inconsistent_merge = 0

abbrev pub forbidden_PDU_downward : ℕ
forbidden_PDU_downward = 1

abbrev pub forbidden_PDU_upward : ℕ
forbidden_PDU_upward = 2

abbrev pub invalid_BER_encoding : ℕ
invalid_BER_encoding = 3

abbrev pub invalid_PER_encoding : ℕ
invalid_PER_encoding = 4

abbrev pub misrouted_user : ℕ
misrouted_user = 5

abbrev pub unrequested_confirm : ℕ
unrequested_confirm = 6

abbrev pub wrong_transport_priority : ℕ
wrong_transport_priority = 7

abbrev pub channel_id_conflict : ℕ
channel_id_conflict = 8

abbrev pub token_id_conflict : ℕ
token_id_conflict = 9

abbrev pub not_user_id_channel : ℕ
not_user_id_channel = 10

-- token statuses
abbrev pub not_in_use : ℕ
not_in_use = 0

abbrev pub self_grabbed : ℕ
self_grabbed = 1

abbrev pub other_grabbed : ℕ
other_grabbed = 2

abbrev pub self_inhibited : ℕ
self_inhibited = 3

abbrev pub other_inhibited : ℕ
other_inhibited = 4

abbrev pub self_recipient : ℕ
self_recipient = 5

abbrev pub self_giving : ℕ
self_giving = 6

abbrev pub other_giving : ℕ
other_giving = 7

-- a message's number, the values of its fields, and its list
abbrev pub msg : ℕ → List ℕ → List ℕ → Msg
msg n vs items = record { number = n; values = vs; items = items }

-- document 01: "An OPTIONAL id is read with any result"
abbrev pub maybe : Option ℕ → List ℕ
maybe none = []
maybe (some v) = v ∷ []

-- clause 7: the message's number, APPLICATION 0 to 42, and its fields in their order
unfoldable pub fields : Message → Msg
fields (EDrq height interval) = msg 1 (height ∷ interval ∷ []) []
fields (DPum reason) = msg 8 (reason ∷ []) []
fields (RJum diagnostic octets) = msg 9 (diagnostic ∷ []) octets
fields AUrq = msg 10 [] []
fields (AUcf result user) = msg 11 (result ∷ maybe user) []
fields (DUrq reason users) = msg 12 (reason ∷ []) users
fields (DUin reason users) = msg 13 (reason ∷ []) users
fields (CJrq user channel) = msg 14 (user ∷ channel ∷ []) []
fields (CJcf result user asked channel) = msg 15 (result ∷ user ∷ asked ∷ maybe channel) []
fields (CLrq channels) = msg 16 [] channels
fields (CCrq user) = msg 17 (user ∷ []) []
fields (CCcf result user channel) = msg 18 (result ∷ user ∷ maybe channel) []
fields (CDrq user channel) = msg 19 (user ∷ channel ∷ []) []
fields (CDin channel) = msg 20 (channel ∷ []) []
fields (CArq manager channel users) = msg 21 (manager ∷ channel ∷ []) users
fields (CAin manager channel users) = msg 22 (manager ∷ channel ∷ []) users
fields (CErq manager channel users) = msg 23 (manager ∷ channel ∷ []) users
fields (CEin channel users) = msg 24 (channel ∷ []) users
fields (TGrq user token) = msg 29 (user ∷ token ∷ []) []
fields (TGcf result user token status) = msg 30 (result ∷ user ∷ token ∷ status ∷ []) []
fields (TIrq user token) = msg 31 (user ∷ token ∷ []) []
fields (TIcf result user token status) = msg 32 (result ∷ user ∷ token ∷ status ∷ []) []
fields (TVrq giver token recipient) = msg 33 (giver ∷ token ∷ recipient ∷ []) []
fields (TVin giver token recipient) = msg 34 (giver ∷ token ∷ recipient ∷ []) []
fields (TVrs result recipient token) = msg 35 (result ∷ recipient ∷ token ∷ []) []
fields (TVcf result user token status) = msg 36 (result ∷ user ∷ token ∷ status ∷ []) []
fields (TPrq user token) = msg 37 (user ∷ token ∷ []) []
fields (TPin user token) = msg 38 (user ∷ token ∷ []) []
fields (TRrq user token) = msg 39 (user ∷ token ∷ []) []
fields (TRcf result user token status) = msg 40 (result ∷ user ∷ token ∷ status ∷ []) []
fields (TTrq user token) = msg 41 (user ∷ token ∷ []) []
fields (TTcf user token status) = msg 42 (user ∷ token ∷ status ∷ []) []

-- the name of a row of the table: it takes a value for each field, then the list or the OPTIONAL value, where the row has one
abbrev pub Taking : List Field → Type 0 → Type 0
Taking [] A = A
Taking (f ∷ fs) A = ℕ → Taking fs A

abbrev pub Name : Row → Type 0
Name (plain fs nothing) = Taking fs Message
Name (plain fs (list i limit)) = Taking fs (List ℕ → Message)
Name (optional fs f) = Taking fs (Option ℕ → Message)
Name uncovered = Unit {0}
Name unknown = Unit {0}

-- the names of a table's entries, in its order; an uncovered one has none, which is tt
infixr 30 ◌&◌
pub data Names : List (Way × Row) → Type 0 where
  end : Names []
  ◌&◌ : {E : Way × Row} {Es : List (Way × Row)} → Name E.1 → Names Es → Names (E ∷ Es)

abbrev pub names : Names table
names =
    tt & EDrq & tt & tt & tt & tt & tt & tt &  -- 0 to 7
    DPum & RJum & AUrq & AUcf & DUrq & DUin & CJrq & CJcf & CLrq & CCrq & CCcf & CDrq & CDin & CArq & CAin & CErq & CEin &  -- 8 to 24
    tt & tt & tt & tt &  -- 25 to 28
    TGrq & TGcf & TIrq & TIcf & TVrq & TVin & TVrs & TVcf & TPrq & TPin & TRrq & TRcf & TTrq & TTcf &  -- 29 to 42
    end

abbrev pub name_at : {Es : List (Way × Row)} → Names Es → (n : ℕ) → Name (get_or Es n (down, unknown)).1
name_at end n = tt
name_at (c & cs) zero = c
name_at (c & cs) (suc n) = name_at cs n

-- a name with the values that it takes, then what is made of it and of the values behind them
abbrev pub taking : {A : Type 0} (fs : List Field) → Taking fs A → List ℕ → (A → List ℕ → Option Message) → Option Message
taking [] a vs k = k a vs
taking (f ∷ fs) c [] k = none
taking (f ∷ fs) c (v ∷ vs) k = taking fs (c v) vs k

-- a message, if nothing is left over
abbrev pub whole : Message → List ℕ → List ℕ → Option Message
whole m [] [] = some m
whole m [] (i ∷ items) = none
whole m (v ∷ vs) items = none

-- the OPTIONAL value, if one more is there
abbrev pub last : (Option ℕ → Message) → List ℕ → List ℕ → Option Message
last c [] items = whole (c none) [] items
last c (v ∷ vs) items = whole (c (some v)) vs items

abbrev pub made : (R : Row) → Name R → List ℕ → List ℕ → Option Message
made (plain fs nothing) c vs items = taking fs c vs (λ m rest. whole m rest items)
made (plain fs (list i limit)) c vs items = taking fs c vs (λ m rest. whole (m items) rest [])
made (optional fs f) c vs items = taking fs c vs (λ m rest. last m rest items)
made uncovered c vs items = none
made unknown c vs items = none

-- the message of a number, values and list that have its shape
unfoldable pub named : Msg → Option Message
unfolding row entry
named x = made (row x.number) (name_at names x.number) x.values x.items

-- fields in range, and what follows them within its limit: what is refused for "a field out of range or a list above 64" is not formed
unfoldable pub formed : Message → Bool
formed m = fits_row (row (fields m).number) (fields m).values (fields m).items

-- the octets of a message, or why it is not sent
unfoldable pub octets : Message → Outcome (List ℕ)
octets m = encode (fields m)

-- the message of octets, or why they are not read; what has no name would not be covered, and what is read has one
abbrev pub called : Option Message → Outcome Message
called none = refuse 7
called (some m) = ok m

abbrev pub heard_as : Outcome Msg → Outcome Message
heard_as (ok x) = called (named x)
heard_as (refuse n) = refuse n

unfoldable pub heard : List ℕ → Outcome Message
heard os = heard_as (decode os)
