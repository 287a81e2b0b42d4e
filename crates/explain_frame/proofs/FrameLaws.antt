-- The texts of a frame, by the cases that the code tells apart. Assumes nothing.
use Prim.Native.Nat.{ℕ, ◌-◌, ◌≤◌, ◌<◌}
use mathlib.Core.Path.{◌≡◌, refl, sym, ap, ◌∙◌}
use mathlib.Core.Bool.{or-true}
use mathlib.Core.List.{List, [], ◌∷◌, ◌++◌, append-nil}
use native.Mathlib.Omega.{arith}
use borrow.Author.Tests.{eq-eqb, ne_eqb, lt-ltb, le-ltb}
use lib.ListN.{length, take, drop}
use lib.Seq.{take-length, take_all}
use Rattle.trace_frames.specs.Frames.{Front, over, frame, refused, front, size_of, kind_number}
use Rattle.trace_frames.specs.declared.Kind.{Kind}
use Rattle.trace_frames.specs.declared.Kind.TheVariants.{Open, Loss, Message}
use Rattle.codec_read.specs.Reading.{decode_of}
use Rattle.std.specs.Prelude.{Option, Some, None}
use Rattle.codec_octets.specs.declared.refusal.Refusal.{Refusal}
use Rattle.codec_octets.specs.declared.refusal.Refusal.TheVariants.{WrongLength, BadEncoding, NotServed, TooLong, NoRoom}
use Rattle.codec_octets.specs.Refusals.{refusal_number}
use Rattle.codec_stop.specs.Stops.{refusal_of, told}
use Rattle.codec_stop.proofs.StopLaws.{some_refusal}
use Rattle.codec_stop.specs.declared.Stop.{Stop}
use Rattle.codec_stop.specs.declared.Part.TheVariants.{End}
use Rattle.codec_stop.specs.declared.Why.TheVariants.{Read}
use Rattle.explain_stop.specs.StopLine.{stop_texts, Tells}
use Rattle.trace_io.specs.Waiting.{SaysTo}
use Rattle.trace_io.specs.declared.lines.Lines.{Lines}
use Rattle.trace_io.proofs.Saying.{says_then, says_as}
use Rattle.explain_words.specs.Letters.{ascii}
use Rattle.explain_frame.specs.Frames.{event_texts, octets_line, refused_texts, stray_texts, wrong_texts, bad_texts, good_texts, kind_by, message_in, front_texts}

-- texts that do not depend on the stop
pub tells_plain : (os : List ℕ) (texts : Stop → List (List ℕ)) {n : ℕ} {o x : Lines n} {ts : List (List ℕ)} → SaysTo o ts x → ((s : Stop) → ts ≡ texts s) → Tells os texts o x
tells_plain os texts h e =
    let r = some_refusal os in
    let s : Stop = record { refusal = r.0; bit = 0; part = End; why = Read } in
    record { stop = s; refusal = r.1; says = says_as h (e s) }

-- the same texts, told otherwise; behind others; and with others behind them
pub tells_as : {os : List ℕ} {a b : Stop → List (List ℕ)} {n : ℕ} {o x : Lines n} → Tells os a o x → ((s : Stop) → a s ≡ b s) → Tells os b o x
tells_as t e = record { stop = t.stop; refusal = t.refusal; says = says_as t.says (e t.stop) }

pub tells_then : {os : List ℕ} {a : Stop → List (List ℕ)} {n : ℕ} {o x y : Lines n} {ts : List (List ℕ)} → SaysTo o ts x → Tells os a x y → Tells os (λ s. ts ++ a s) o y
tells_then h t = record { stop = t.stop; refusal = t.refusal; says = says_then h t.says }

pub tells_more : {os : List ℕ} {a : Stop → List (List ℕ)} {n : ℕ} {o x y : Lines n} {us : List (List ℕ)} → Tells os a o x → SaysTo x us y → Tells os (λ s. a s ++ us) o y
tells_more t h = record { stop = t.stop; refusal = t.refusal; says = says_then t.says h }

-- the event of a kind
pub event_is : (k j : Kind) (connection : ℕ) (os : List ℕ) → k ≡ j → event_texts j connection os ≡ event_texts k connection os
event_is k j connection os e = ap (λ x. event_texts x connection os) (sym e)

-- what was wrong with a message, by the reply
module _ (reply : ℕ) (os : List ℕ) where
  pub refused_low : reply < 4 → (s : Stop) → [] ≡ refused_texts reply os s
  unfolding refused_texts
  refused_low h s = rw (lt-ltb reply 4 h) refl

  pub refused_high : 8 < reply → (s : Stop) → [] ≡ refused_texts reply os s
  unfolding refused_texts
  refused_high h s = rw (lt-ltb 8 reply h, or-true) refl

  module _ (low : 4 ≤ reply) (high : reply ≤ 8) where
    pub refused_five : reply ≡ 5 → (s : Stop) → octets_line os ++ stop_texts os s ≡ refused_texts reply os s
    unfolding refused_texts
    refused_five e s = rw (le-ltb reply 4 low, le-ltb 8 reply high, eq-eqb reply 5 e) refl

    pub refused_eight : reply ≡ 8 → (s : Stop) → octets_line os ++ stop_texts os s ≡ refused_texts reply os s
    unfolding refused_texts
    refused_eight e s = rw (le-ltb reply 4 low, le-ltb 8 reply high, eq-eqb reply 8 e, or-true) refl

    pub refused_other : (reply ≡ 5 → ⊥) → (reply ≡ 8 → ⊥) → (s : Stop) → octets_line os ≡ refused_texts reply os s
    unfolding refused_texts
    refused_other m n s = rw (le-ltb reply 4 low, le-ltb 8 reply high, ne_eqb reply 5 m, ne_eqb reply 8 n) (sym (append-nil (octets_line os)))

  pub wrong_open : (reply ≡ 2 → ⊥) → (k : Kind) (s : Stop) → refused_texts reply os s ≡ wrong_texts reply k os s
  unfolding wrong_texts
  wrong_open n k s = rw (ne_eqb reply 2 n) refl

  pub wrong_stray : reply ≡ 2 → (k j : Kind) → k ≡ j → (s : Stop) → stray_texts j os ≡ wrong_texts reply k os s
  unfolding wrong_texts
  wrong_stray e k j h s = rw (eq-eqb reply 2 e, h) refl

pub stray_read : (os : List ℕ) (r : Option Refusal) → told r ≡ refusal_of (decode_of os) → r ≡ None → [] ≡ stray_texts Message os
unfolding stray_texts
stray_read os r e h = rw (eq-eqb (refusal_of (decode_of os)) 0 (sym e ∙ ap told h)) refl

some_number : (x : Refusal) → refusal_number x ≡ 0 → ⊥
some_number WrongLength e = omega arith
some_number BadEncoding e = omega arith
some_number NotServed e = omega arith
some_number TooLong e = omega arith
some_number NoRoom e = omega arith

pub stray_unread : (os : List ℕ) (r : Option Refusal) (x : Refusal) → told r ≡ refusal_of (decode_of os) → r ≡ Some x → octets_line os ≡ stray_texts Message os
unfolding stray_texts
stray_unread os r x e h = rw (ne_eqb (refusal_of (decode_of os)) 0 (λ z. some_number x (sym (ap told h) ∙ e ∙ z))) refl

-- what stands at the front
kind_by_lem : (k : Kind) → kind_by (kind_number k) ≡ k
unfolding kind_by
kind_by_lem Open = refl
kind_by_lem Loss = refl
kind_by_lem Message = refl

module _ (reply : ℕ) (s : List ℕ) where
  fronts : (a : Front) {n : ℕ} {o x : Lines n} → a ≡ front s → Tells (message_in s a) (front_texts reply s a) o x → Tells (message_in s (front s)) (front_texts reply s (front s)) o x
  fronts a e t = rw (← e) t

  pub front_over : {n : ℕ} {o x : Lines n} → over ≡ front s → SaysTo o (ascii ": end\n" ∷ []) x → Tells (message_in s (front s)) (front_texts reply s (front s)) o x
  unfolding front_texts
  front_over e h = fronts over e (tells_plain (message_in s over) (front_texts reply s over) h (λ _. refl))

  pub front_bad : {n : ℕ} {o x : Lines n} → refused 11 ≡ front s → SaysTo o (bad_texts s) x → Tells (message_in s (front s)) (front_texts reply s (front s)) o x
  unfolding front_texts
  front_bad e h = fronts (refused 11) e (tells_plain (message_in s (refused 11)) (front_texts reply s (refused 11)) h (λ _. refl))

  pub front_good : (k : Kind) (connection start size : ℕ) {n : ℕ} {o x : Lines n} → frame (kind_number k) connection start size ≡ front s
      → Tells (take (size - start) (drop start s)) (good_texts reply k connection (take (size - start) (drop start s))) o x
      → Tells (message_in s (front s)) (front_texts reply s (front s)) o x
  unfolding front_texts message_in
  front_good k connection start size e t =
      fronts (frame (kind_number k) connection start size) e (tells_as t (λ stop. ap (λ j. good_texts reply j connection (take (size - start) (drop start s)) stop) (sym (kind_by_lem k))))

-- the octets of a bad frame
pub bad_all : (s : List ℕ) → length s ≤ size_of s → (length s ≤ length s) × (take (length s) s ≡ take (size_of s) s)
bad_all s h = (omega arith, take-length s ∙ sym (take_all (size_of s) s h))

pub bad_part : (s : List ℕ) (n : ℕ) → n ≡ size_of s → n ≤ length s → (n ≤ length s) × (take n s ≡ take (size_of s) s)
bad_part s n e h = (h, ap (λ k. take k s) e)
