use Rattle.codec_roundtrip.proofs.RoundTripLaws.{written_within, round_trip, no_trip}
use lib.Seq.{length-take-le}
use mathlib.Core.Path.{sym}
use borrow.Author.Rules.{rules}
use Rattle.codec_roundtrip.proofs.encode_decode.Goals as goal

pub slice_bounds-decode-end : goal.slice_bounds-decode-end
slice_bounds-decode-end c = written_within _ _ _ _ c.in_ok-n.ensures

pub slice_bounds-decode-end-2 : goal.slice_bounds-decode-end-2
slice_bounds-decode-end-2 c = sym (length-take-le _ _ (written_within _ _ _ _ c.in_ok-n.ensures))

pub returns-in_err-n : goal.returns-in_err-n
returns-in_err-n c = search (rules, no_trip)

pub returns : goal.returns
returns c = round_trip _ _ _ _ c.in_ok-n.ensures _ c.decode.ensures
