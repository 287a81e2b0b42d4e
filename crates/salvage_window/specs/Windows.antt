-- A torn trace, salvaged window by window: what the octets of a window decide, and what a turn over it does.
use Rattle.std.specs.Prelude.{ℕ, zero, suc, ◌+◌, ◌*◌, Bool, true, false, ◌&&◌, ◌||◌, not, cond, List, [], ◌∷◌, leb, ltb, eqb, length, drop}
use Rattle.trace_frames.specs.Good.{good_size, longest}
use Rattle.salvage.specs.Spans.{resumes}
use Rattle.salvage_window.specs.declared.Turn.{Turn}

-- nothing follows the window, or it has as many octets as are needed: what follows does not count
abbrev pub decided : (ended : Bool) (need have : ℕ) → Bool
decided ended need have = ended || leb need have

-- the size of the good frame at the front of w, 0 where none begins or w is too short to tell
unfoldable pub sure : Bool → List ℕ → ℕ
sure ended w = cond (decided ended longest (length w)) (good_size w) 0

-- the octets of such frames that stand one behind the other, at most so many
unfoldable pub keeps_in : ℕ → Bool → List ℕ → ℕ
keeps_in zero ended w = 0
keeps_in (suc k) ended w = cond (ltb 0 (sure ended w)) (sure ended w + keeps_in k ended (drop (sure ended w) w)) 0

-- each has an octet at least, so that there are no more of them than octets
unfoldable pub keeps : Bool → List ℕ → ℕ
keeps ended w = keeps_in (length w) ended w

-- reading resumes at the front of w, which two frames decide, or w is too short to tell
unfoldable pub stops : Bool → List ℕ → Bool
stops ended w = cond (decided ended (2 * longest) (length w)) (resumes w) true

-- how many octets stand before the first such place; all of them where there is none
unfoldable pub skips : Bool → List ℕ → ℕ
skips ended [] = 0
skips ended (o ∷ w) = cond (stops ended (o ∷ w)) 0 (suc (skips ended w))

-- a cut opens where there is an octet and it is sure that no good frame begins
abbrev pub opens : Bool → List ℕ → Bool
opens ended w = eqb (keeps ended w) 0 && (ltb 0 (length w) && decided ended longest (length w))

-- a turn where a frame is expected: the frames are kept, or a cut opens
unfoldable pub expected : Bool → List ℕ → Turn
expected ended w = record { octets = keeps ended w; kept = ltb 0 (keeps ended w); cutting = opens ended w }

-- a turn in a cut: octets are passed over, and the cut ends where it is sure that reading resumes, or that nothing is left
unfoldable pub passed : Bool → List ℕ → Turn
passed ended w =
    record {
      octets = skips ended w;
      kept = false;
      cutting = not (decided ended (2 * longest) (length (drop (skips ended w) w)));
    }

-- a turn over the window w
unfoldable pub turn_of : Bool → List ℕ → Bool → Turn
turn_of ended w true = passed ended w
turn_of ended w false = expected ended w
