-- Octets moved to the front of a buffer, and spans of it. Assumes nothing.
use Prim.Native.Nat.{ℕ, suc, ◌+◌, ◌-◌, ◌<◌, ◌≤◌}
use mathlib.Core.Path.{◌≡◌, refl, sym, ap, ◌∙◌}
use mathlib.Core.Bool.{Bool, true, false, ◌||◌, cond, and-false}
use mathlib.Core.List.{List, [], ◌∷◌, ◌++◌}
use native.Mathlib.Nat.{add_comm}
use native.Mathlib.Numerals.{add-one}
use native.Mathlib.Omega.{arith}
use borrow.Author.Tests.{le-leb, lt-leb, eqb-false}
use lib.Dec.{leb, eqb}
use Rattle.trace_frames.specs.Frames.{size_of}
use lib.ListN.{length, take, drop, get_or, set, length-append, length-drop}
use lib.Seq.{length-take-le, drop-cons, set_at, get_or-append-add, get_or-drop, take-suc, append_snoc, take_at, take-take}
use Rattle.trace_io.specs.declared.input.Span.{Span}
use Rattle.trace_io.specs.Input.{Within, clip, unread, Refills, Ready}

pub clip_in : (room : ℕ) (h : Span) → h.from ≤ h.to → h.to ≤ room → (h ≡ clip room h) × Within room h
clip_in room h a b = (simp (le-leb h.from h.to a, le-leb h.to room b), record { ordered = a; inside = b })

abbrev none : Span → Span
none h = record { from = 0; to = 0; ended = h.ended }

pub none_in : (room : ℕ) (h : Span) → Within room (none h)
none_in room h = record { ordered = omega arith; inside = omega arith }

pub clip_behind : (room : ℕ) (h : Span) → room < h.to → none h ≡ clip room h
clip_behind room h a = simp (lt-leb h.to room a, and-false)

pub clip_turned : (room : ℕ) (h : Span) → h.to < h.from → none h ≡ clip room h
clip_turned room h a = simp (lt-leb h.from h.to a)

-- the first i octets behind `from` are moved, and nothing else has changed
abbrev pub moved : List ℕ → ℕ → ℕ → List ℕ
moved s from i = take i (drop from s) ++ drop i s

front_length : (s : List ℕ) (from i : ℕ) → from + i ≤ length s → length (take i (drop from s)) ≡ i
front_length s from i h = length-take-le i (drop from s) (omega (arith, length-drop from s))

pub moved_length : (s : List ℕ) (from i : ℕ) → from + i ≤ length s → length (moved s from i) ≡ length s
moved_length s from i h =
    length-append (take i (drop from s)) (drop i s) ∙ omega (arith, front_length s from i h, length-drop i s)

-- what is read for the next octet is what stood there at first
moved_reads : (s : List ℕ) (from i : ℕ) → from + i < length s → get_or (moved s from i) (from + i) 0 ≡ get_or s (from + i) 0
moved_reads s from i h =
    let a = take i (drop from s) in
    let n : length a ≡ i = front_length s from i (omega arith) in
    let place : from + i ≡ length a + from = omega arith in
    ap (λ k. get_or (moved s from i) k 0) place
    ∙ get_or-append-add a (drop i s) from 0
    ∙ get_or-drop i s from 0
    ∙ ap (λ k. get_or s k 0) (add_comm i from)

pub moved_on : (s : List ℕ) (from i : ℕ) → from + i < length s
    → set (moved s from i) i (get_or (moved s from i) (from + i) 0) ≡ moved s from (i + 1)
moved_on s from i h =
    let a = take i (drop from s) in
    let n : length a ≡ i = front_length s from i (omega arith) in
    let v = get_or s (from + i) 0 in
    ap (λ x. set (moved s from i) i x) (moved_reads s from i h)
    ∙ ap (λ l. set (a ++ l) i v) (drop-cons s i 0 (omega arith))
    ∙ set_at a (get_or s i 0) (drop (suc i) s) v i n
    ∙ sym (append_snoc a v (drop (suc i) s))
    ∙ ap (λ x. a ++ (x ∷ []) ++ drop (suc i) s) (sym (get_or-drop from s i 0))
    ∙ ap (λ l. l ++ drop (suc i) s) (sym (take-suc (drop from s) i 0 (omega (arith, length-drop from s))))
    ∙ ap (λ k. moved s from k) (sym (add-one i))

pub moved_front : (s : List ℕ) (from i : ℕ) → from + i ≤ length s → take i (moved s from i) ≡ take i (drop from s)
moved_front s from i h = take_at (take i (drop from s)) (drop i s) i (front_length s from i h)

-- what a run of refills keeps: the octets that were not taken at first stand in front
pub record Since (s : List ℕ) (h : Span) (s' : List ℕ) (h' : Span) : Type 0 where
  pub within : Within (length s') h'
  pub kept : take (h.to - h.from) (unread s' h') ≡ unread s h
  pub least : h.to - h.from ≤ h'.to - h'.from

pub since_start : (s : List ℕ) (h : Span) → Within (length s) h → Since s h s h
since_start s h w = record { within = w; kept = take-take (h.to - h.from) (h.to - h.from) (drop h.from s) (omega arith); least = omega arith }

pub since_on : {s : List ℕ} {h : Span} {t : List ℕ} {g : Span} {u : List ℕ} {k : Span} → Since s h t g → Refills t g u k → Since s h u k
since_on {s} {h} {t} {g} {u} {k} a b =
    record {
      within = b.within;
      kept =
          sym (take-take (h.to - h.from) (g.to - g.from) (unread u k) a.least)
          ∙ ap (λ l. take (h.to - h.from) l) b.kept
          ∙ a.kept;
      least = omega arith;
    }

-- how many octets may come before the buffer is full, and one turn more
abbrev pub to_come : ℕ → Span → ℕ
to_come room h = cond h.ended 0 (suc room - (h.to - h.from))

pub less : (s : List ℕ) (h : Span) (s' : List ℕ) (h' : Span) → length s' ≡ length s → Within (length s) h → h.ended ≡ false → Refills s h s' h' → to_come (length s') h' < to_come (length s) h
less s h s' h' l w e r = rw e (go h'.ended refl)
  where
    go : (t : Bool) → h'.ended ≡ t → cond t 0 (suc (length s') - (h'.to - h'.from)) < suc (length s) - (h.to - h.from)
    go true f = omega arith
    go false f = let m = r.more f in omega arith

-- a read behind the first n octets, which were moved there
pub refilled : (s : List ℕ) (h : Span) (t p rest : List ℕ) (n more : ℕ) → n ≡ h.to - h.from → take n t ≡ unread s h → n ≤ length t → more ≤ length p
    → Refills s h (take n t ++ (p ++ rest)) (record { from = 0; to = n + more; ended = eqb more 0 })
refilled s h t p rest n more e k l m =
    let a : length (take n t) ≡ n = length-take-le n t l in
    let b : length (take n t ++ (p ++ rest)) ≡ length (take n t) + length (p ++ rest) = length-append (take n t) (p ++ rest) in
    record {
      within = record { ordered = omega arith; inside = omega (arith, length-append p rest) };
      kept =
          take-take (h.to - h.from) (n + more - 0) (take n t ++ (p ++ rest)) (omega arith)
          ∙ take_at (take n t) (p ++ rest) (h.to - h.from) (omega arith)
          ∙ k;
      more = λ f. let z = eqb-false more 0 f in omega arith;
      least = omega arith;
    }

-- the loop is left where nothing more is waited for
pub ready_is : {s : List ℕ} {h g : Span} {s' : List ℕ} {h' : Span} → h ≡ g → Since s h s' h'
    → (h'.ended || leb (size_of (unread s' h')) (length (unread s' h'))) ≡ true → Ready s g s' h'
ready_is e a t = rw (← e) (record { within = a.within; kept = a.kept; settled = t })

pub or_left : (a b : Bool) → (a || b) ≡ false → a ≡ false
or_left true b e = e
or_left false b e = refl
