-- What the code makes of octets: a refusal by its number, or a request.
use Rattle.std.specs.Prelude.{◌≡◌, ℕ, ◌%◌, List, eqb, take, get_or, if◌then◌else◌, Result, Ok, Err}
use Rattle.codec_table.specs.Named.{Message}
use Rattle.codec_read.specs.declared.Head.{Head}
use Rattle.codec_read.specs.Held.{count_of}
use Rattle.codec_read_fast.specs.declared.lists.Listing.{Listing}
use Rattle.domain.specs.declared.numbers.Reply.{Reply}
use Rattle.domain.specs.Numbers.{reply_number}
use Rattle.domain.specs.Tables.{Domain}
use Rattle.domain.specs.Events.{Outcome, act, answers, ends, sends, complaint}
use Rattle.serve_read.specs.Requests.{listed_request}
use Rattle.serve_read.specs.declared.Request.{Request}
use Rattle.serve_read.specs.Understood.{understood}

-- the reply of a codec's refusal
unfoldable pub reply_for : ℕ → ℕ
reply_for n = if eqb n 4 then 4 else if eqb n 5 then 5 else if eqb n 7 then 7 else 8

-- what a request asks for, with the ids that were listed
unfoldable pub requested : Request → List ℕ → Message
requested q listed = listed_request q.number q.first q.second (take q.count listed)

-- what the code understood: a request is made, a reply refuses
unfoldable pub asks : (new : ℕ) (d : Domain) (p room : ℕ) (os : List ℕ) (r : Result Request Reply) (listed : List ℕ) → Outcome
asks new d p room os (Ok q) listed = ends d room (act new d p (requested q listed))
asks new d p room os (Err r) listed = sends d room (reply_number r) d (complaint (reply_number r) p os)

abbrev pub Understands : (os : List ℕ) (r : Result Request Reply) (listed : List ℕ) → Type 0
Understands os r listed = (new : ℕ) (d : Domain) (p room : ℕ) → answers new d p (understood os) room ≡ asks new d p room os r listed

-- the request of a message with a list; and of one that was read: nothing is lost below 65,536
abbrev pub listed_as : Listing → Request
listed_as l = record { number = l.number; first = l.first; second = l.second; count = l.count }

abbrev pub request_of : Head → Request
request_of h = record { number = h.number; first = get_or h.values 0 0 % 65536; second = get_or h.values 1 0 % 65536; count = count_of h.items }
