-- The 43 messages of T.125, clause 7, by number: whether each may go up and is served, and for the covered ones what stands in each, in
-- its order.
use Rattle.std.specs.Prelude.{Bool, true, false, List, [], ◌∷◌, ℕ, get_or}
use Rattle.codec_table.specs.Limits.{list_limit, string_limit}
use Rattle.codec_octets.specs.Octets.{Item, an_octet, an_id, a_number, Tail, nothing, list}

-- a field: a code of a width in bits and a largest value, anywhere; or an item, on an octet
pub data Field : Type 0 where
  code : ℕ → ℕ → Field
  item : Item → Field

-- a message: its fields and what follows them; or its fields with a last one that is OPTIONAL. Or not covered; or no message at all
pub data Row : Type 0 where
  plain : List Field → Tail → Row
  optional : List Field → Field → Row
  uncovered : Row
  unknown : Row

-- a message may not go up; may go up, and is not served; or may go up and is served
pub data Way : Type 0 where
  down : Way
  up : Way
  served : Way

-- "Result 4 bits, diagnostic 4 (0 to 13), reason 3 (0 to 4), token status 3"; before them the number, and whether an OPTIONAL field is there
abbrev pub kind : Field
kind = code 6 63

abbrev pub presence : Field
presence = code 1 1

abbrev pub result : Field
result = code 4 15

abbrev pub diagnostic : Field
diagnostic = code 4 13

abbrev pub reason : Field
reason = code 3 4

abbrev pub status : Field
status = code 3 7

abbrev pub channel : Field
channel = item (an_id 0)

abbrev pub user : Field
user = item (an_id 1001)

abbrev pub private_channel : Field
private_channel = item (an_id 1001)

abbrev pub token : Field
token = item (an_id 1)

abbrev pub height : Field
height = item a_number

abbrev pub channels : Tail
channels = list (an_id 0) list_limit

abbrev pub users : Tail
users = list (an_id 1001) list_limit

abbrev pub string : Tail
string = list an_octet string_limit

abbrev pub table : List (Way × Row)
table =
    (down, uncovered) ∷  -- 0 PDin
    (served, plain (height ∷ height ∷ []) nothing) ∷  -- 1 EDrq
    (up, uncovered) ∷  -- 2 MCrq
    (down, uncovered) ∷  -- 3 MCcf
    (down, uncovered) ∷  -- 4 PCin
    (up, uncovered) ∷  -- 5 MTrq
    (down, uncovered) ∷  -- 6 MTcf
    (down, uncovered) ∷  -- 7 PTin
    (served, plain (reason ∷ []) nothing) ∷  -- 8 DPum
    (served, plain (diagnostic ∷ []) string) ∷  -- 9 RJum
    (served, plain [] nothing) ∷  -- 10 AUrq
    (down, optional (result ∷ []) user) ∷  -- 11 AUcf
    (served, plain (reason ∷ []) users) ∷  -- 12 DUrq
    (down, plain (reason ∷ []) users) ∷  -- 13 DUin
    (served, plain (user ∷ channel ∷ []) nothing) ∷  -- 14 CJrq
    (down, optional (result ∷ user ∷ channel ∷ []) channel) ∷  -- 15 CJcf
    (served, plain [] channels) ∷  -- 16 CLrq
    (served, plain (user ∷ []) nothing) ∷  -- 17 CCrq
    (down, optional (result ∷ user ∷ []) private_channel) ∷  -- 18 CCcf
    (served, plain (user ∷ private_channel ∷ []) nothing) ∷  -- 19 CDrq
    (down, plain (private_channel ∷ []) nothing) ∷  -- 20 CDin
    (served, plain (user ∷ private_channel ∷ []) users) ∷  -- 21 CArq
    (down, plain (user ∷ private_channel ∷ []) users) ∷  -- 22 CAin
    (served, plain (user ∷ private_channel ∷ []) users) ∷  -- 23 CErq
    (down, plain (private_channel ∷ []) users) ∷  -- 24 CEin
    (up, uncovered) ∷  -- 25 SDrq
    (down, uncovered) ∷  -- 26 SDin
    (up, uncovered) ∷  -- 27 USrq
    (down, uncovered) ∷  -- 28 USin
    (served, plain (user ∷ token ∷ []) nothing) ∷  -- 29 TGrq
    (down, plain (result ∷ user ∷ token ∷ status ∷ []) nothing) ∷  -- 30 TGcf
    (served, plain (user ∷ token ∷ []) nothing) ∷  -- 31 TIrq
    (down, plain (result ∷ user ∷ token ∷ status ∷ []) nothing) ∷  -- 32 TIcf
    (served, plain (user ∷ token ∷ user ∷ []) nothing) ∷  -- 33 TVrq
    (down, plain (user ∷ token ∷ user ∷ []) nothing) ∷  -- 34 TVin
    (served, plain (result ∷ user ∷ token ∷ []) nothing) ∷  -- 35 TVrs
    (down, plain (result ∷ user ∷ token ∷ status ∷ []) nothing) ∷  -- 36 TVcf
    (served, plain (user ∷ token ∷ []) nothing) ∷  -- 37 TPrq
    (down, plain (user ∷ token ∷ []) nothing) ∷  -- 38 TPin
    (served, plain (user ∷ token ∷ []) nothing) ∷  -- 39 TRrq
    (down, plain (result ∷ user ∷ token ∷ status ∷ []) nothing) ∷  -- 40 TRcf
    (served, plain (user ∷ token ∷ []) nothing) ∷  -- 41 TTrq
    (down, plain (user ∷ token ∷ status ∷ []) nothing) ∷  -- 42 TTcf
    []

-- numbers 43 to 63 name no message
unfoldable pub entry : ℕ → Way × Row
entry n = get_or table n (down, unknown)

unfoldable pub row : ℕ → Row
row n = (entry n).1

abbrev pub goes_up : Way → Bool
goes_up down = false
goes_up up = true
goes_up served = true

abbrev pub way_served : Way → Bool
way_served down = false
way_served up = false
way_served served = true

abbrev pub covers : Row → Bool
covers (plain fs t) = true
covers (optional fs f) = true
covers uncovered = false
covers unknown = false

-- whether a message may go up, is served, is covered by the codec
unfoldable pub may_go_up : ℕ → Bool
may_go_up n = goes_up (entry n).0

unfoldable pub is_served : ℕ → Bool
is_served n = way_served (entry n).0

unfoldable pub is_covered : ℕ → Bool
is_covered n = covers (row n)
