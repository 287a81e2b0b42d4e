-- What is salvaged: specs/Claims, V3 to V5, and the list of the cuts. Assumes nothing.
use Prim.Native.Nat.{ℕ, suc, ◌+◌, ◌*◌, ◌^◌, ◌≤◌}
use mathlib.Core.Path.{◌≡◌, refl, sym, ap, ◌∙◌}
use mathlib.Core.List.{List, [], ◌∷◌, ◌++◌, append_assoc}
use native.Mathlib.Nat.{add_assoc, zero-add, add-zero}
use native.Mathlib.Omega.{arith}
use borrow.Author.Tests.{lt-ltb}
use lib.ListN.{length, length-append}
use Rattle.codec_octets.specs.Octets.{octets_of, number, give, follow}
use Rattle.codec_octets.proofs.OctetLaws.{number_exact}
use Rattle.salvage.specs.Spans.{Span, kept, cut, spans, all_octets}
use Rattle.salvage.specs.Answer.{kept_in, entry, cuts_from, output, cut_list}
use Rattle.salvage.specs.Claims.{Trace, none, next, Right, Starts, EntryRead, SalvagedAgain, ResultTrace, UncutExactly, UncutWhole, Never9}
use Rattle.salvage.proofs.SpanLaws.{spans_none}
use Rattle.salvage.proofs.Laying.{entry_length}
use Rattle.salvage.proofs.RoomLaws.{salvaged_done}
use Rattle.salvage.proofs.RightLaws.{frame_least, spans_frame, there, right, cut_cut, cut_frame_cut, only}

-- ---- the frames alone
frames : List Span → List Span
frames [] = []
frames (kept f ∷ xs) = kept f ∷ frames xs
frames (cut os ∷ xs) = frames xs

frames_right : (xs : List Span) → Right xs → Right (frames xs)
unfolding frames
frames_right [] r = tt
frames_right (kept f ∷ xs) r = (r.0, frames_right xs r.1)
frames_right (cut os ∷ xs) r = frames_right xs r.1

frames_joined : (xs : List Span) → all_octets (frames xs) ≡ kept_in xs
unfolding frames all_octets kept_in
frames_joined [] = refl
frames_joined (kept f ∷ xs) = ap (λ l. f ++ l) (frames_joined xs)
frames_joined (cut os ∷ xs) = frames_joined xs

frames_kept : (xs : List Span) → kept_in (frames xs) ≡ kept_in xs
unfolding frames kept_in
frames_kept [] = refl
frames_kept (kept f ∷ xs) = ap (λ l. f ++ l) (frames_kept xs)
frames_kept (cut os ∷ xs) = frames_kept xs

frames_uncut : (at : ℕ) (xs : List Span) → cuts_from at (frames xs) ≡ []
unfolding frames cuts_from
frames_uncut at [] = refl
frames_uncut at (kept f ∷ xs) = frames_uncut (at + length f) xs
frames_uncut at (cut os ∷ xs) = frames_uncut at xs

-- V3
result_spans : (s : List ℕ) → spans (output s) ≡ frames (spans s)
unfolding output
result_spans s = ap spans (sym (frames_joined (spans s))) ∙ only (frames (spans s)) (frames_right (spans s) (right s))

pub again : SalvagedAgain
unfolding output cut_list
again s = (ap kept_in (result_spans s) ∙ frames_kept (spans s), ap (cuts_from 0) (result_spans s) ∙ frames_uncut 0 (spans s))

kept_trace : (xs : List Span) → Right xs → Trace (kept_in xs)
unfolding kept_in
kept_trace [] r = none
kept_trace (kept f ∷ xs) r = next f (kept_in xs) r.0 (kept_trace xs r.1)
kept_trace (cut os ∷ xs) r = kept_trace xs r.1

pub result : ResultTrace
unfolding output
result s = kept_trace (spans s) (right s)

-- V4
uncut_trace : (at : ℕ) (xs : List Span) → Right xs → cuts_from at xs ≡ [] → Trace (all_octets xs)
unfolding all_octets cuts_from
uncut_trace at [] r e = none
uncut_trace at (kept f ∷ xs) r e = next f (all_octets xs) r.0 (uncut_trace (at + length f) xs r.1 e)
uncut_trace at (cut os ∷ xs) r e =
    absurd (omega (arith, ap length e, length-append (entry at (length os)) (cuts_from (at + length os) xs), entry_length at (length os)))

trace_uncut : {s : List ℕ} → Trace s → (at : ℕ) → cuts_from at (spans s) ≡ []
unfolding cuts_from
trace_uncut none at = ap (cuts_from at) (spans_none [] refl)
trace_uncut (next f s i t) at = ap (cuts_from at) (spans_frame i s) ∙ trace_uncut t (at + length f)

pub uncut : UncutExactly
unfolding cut_list
uncut s = (λ e. rw (there s) at (uncut_trace 0 (spans s) (right s) e), λ t. trace_uncut t 0)

trace_kept : {s : List ℕ} → Trace s → kept_in (spans s) ≡ s
unfolding kept_in
trace_kept none = ap kept_in (spans_none [] refl)
trace_kept (next f s i t) = ap kept_in (spans_frame i s) ∙ ap (λ l. f ++ l) (trace_kept t)

pub whole : UncutWhole
unfolding output
whole s t = trace_kept t

-- V5: each cut but the first has two frames of 5 octets before it, and an octet of its own
count : List Span → ℕ
count [] = 0
count (kept f ∷ xs) = count xs
count (cut os ∷ xs) = suc (count xs)

cuts_length : (at : ℕ) (xs : List Span) → length (cuts_from at xs) ≡ 16 * count xs
unfolding cuts_from count
cuts_length at [] = refl
cuts_length at (kept f ∷ xs) = cuts_length (at + length f) xs
cuts_length at (cut os ∷ xs) =
    omega (arith, length-append (entry at (length os)) (cuts_from (at + length os) xs), entry_length at (length os), cuts_length (at + length os) xs)

kept_length : (xs : List Span) → length (kept_in xs) ≤ length (all_octets xs)
unfolding kept_in all_octets
kept_length [] = omega arith
kept_length (kept f ∷ xs) = omega (arith, length-append f (kept_in xs), length-append f (all_octets xs), kept_length xs)
kept_length (cut os ∷ xs) = omega (arith, length-append os (all_octets xs), kept_length xs)

count_most : (xs : List Span) → Right xs → 11 * count xs ≤ length (all_octets xs) + 10
unfolding count all_octets
count_most [] r = omega arith
count_most (kept f ∷ xs) r = omega (arith, length-append f (all_octets xs), count_most xs r.1)
count_most (cut a ∷ []) r = omega (arith, length-append a [], r.0.some)
count_most (cut a ∷ cut b ∷ xs) r = absurd (cut_cut a b xs r)
count_most (cut a ∷ kept f ∷ []) r = omega (arith, length-append a (f ++ []), r.0.some)
count_most (cut a ∷ kept f ∷ cut b ∷ xs) r = absurd (cut_frame_cut a f b xs r)
count_most (cut a ∷ kept f ∷ kept g ∷ xs) r =
    omega (
      arith,
      length-append a (f ++ (g ++ all_octets xs)),
      length-append f (g ++ all_octets xs),
      length-append g (all_octets xs),
      r.0.some,
      frame_least r.1.0,
      frame_least r.1.1.0,
      count_most xs r.1.1.1,
    )

pub never : Never9
unfolding output cut_list
never s out list h l =
    let n = ap length (there s) in
    ap (λ x. x.0.reply)
    (salvaged_done s out list
    (omega (arith, kept_length (spans s)))
    (omega (arith, cuts_length 0 (spans s), count_most (spans s) (right s))))

-- ---- the list of the cuts
cuts_behind : (at : ℕ) (before after : List Span) → cuts_from at (before ++ after) ≡ cuts_from at before ++ cuts_from (at + length (all_octets before)) after
unfolding cuts_from all_octets
cuts_behind at [] after = ap (λ n. cuts_from n after) (sym (add-zero at))
cuts_behind at (kept f ∷ xs) after =
    cuts_behind (at + length f) xs after
    ∙ ap (λ n. cuts_from (at + length f) xs ++ cuts_from n after) (add_assoc at (length f) (length (all_octets xs)) ∙ ap (λ n. at + n) (sym (length-append f (all_octets xs))))
cuts_behind at (cut os ∷ xs) after =
    ap (λ l. entry at (length os) ++ l)
    (cuts_behind (at + length os) xs after
    ∙ ap (λ n. cuts_from (at + length os) xs ++ cuts_from n after) (add_assoc at (length os) (length (all_octets xs)) ∙ ap (λ n. at + n) (sym (length-append os (all_octets xs)))))
    ∙ sym (append_assoc (entry at (length os)) (cuts_from (at + length os) xs) (cuts_from (at + length (os ++ all_octets xs)) after))

pub start : Starts
unfolding cuts_from
start before after os = cuts_behind 0 before (cut os ∷ after) ∙ ap (λ n. cuts_from 0 before ++ cuts_from n (cut os ∷ after)) (zero-add (length (all_octets before)))

pub entries : EntryRead
unfolding entry
entries start size rest h l =
    ap (λ os. follow (number 8 os) (λ a. λ r. follow (number 8 r) (λ b. give (a, b)))) (append_assoc (octets_of 8 start) (octets_of 8 size) rest)
    ∙ ap (λ r. follow r (λ a. λ r. follow (number 8 r) (λ b. give (a, b)))) ((number_exact 8).back start (lt-ltb start (2 ^ 64) h) (octets_of 8 size ++ rest))
    ∙ ap (λ r. follow r (λ b. give (start, b))) ((number_exact 8).back size (lt-ltb size (2 ^ 64) l) rest)
