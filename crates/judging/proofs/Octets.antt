-- The judge of octets says of their frames what the judge of frames says. Assumes nothing.
use Rattle.std.specs.Prelude.{if◌then◌else◌}
use mathlib.Core.Path.{◌≡◌, refl, sym, ap, ◌∙◌}
use mathlib.Core.Logic.{◌↔◌}
use mathlib.Core.Bool.{Bool, true, false, true≢false, false≢true}
use mathlib.Core.List.{List, [], ◌∷◌}
use mathlib.Core.Option.{Option, none, some}
use Prim.Native.Nat.{ℕ, zero, suc, ◌-◌, ◌≤◌, ◌<◌}
use native.Mathlib.Omega.{arith}
use lib.Dec.{eqb}
use lib.ListN.{length, take, drop, length-drop}
use Rattle.cols_spec.proofs.Bools.{none≢some}
use Rattle.codec_octets.specs.Octets.{Bytes}
use Rattle.trace_frames.specs.Frames.{Front, over, frame, refused}
use Rattle.domain.specs.declared.Limits.{Limits}
use Rattle.domain.specs.Tables.{in_range}
use Rattle.domain.specs.Outcomes.{limited}
use Rattle.history.specs.Recorded.{opening, losing, message}
use Rattle.judging.specs.Traces.{on, Frame, came, went, EventsBytewise}
use Rattle.judging.specs.Judge.{Verdict, in_front, judge}
use Rattle.judging.specs.Whole.{frame_of, frames_by, some_frames, all_frames, refuses, says, judged_by, judgement, OctetsExactly, RefusalsExactly}
use Rattle.judging.proofs.Judged.{exactly}
use Rattle.judging.proofs.Named.{frame_exactly}

-- ---- octets are below 256 in every part
bytes_take : (n : ℕ) (s : List ℕ) → Bytes s → Bytes (take n s)
bytes_take zero s y = tt
bytes_take (suc n) [] y = tt
bytes_take (suc n) (x ∷ s) y = (y.0, bytes_take n s y.1)

bytes_drop : (n : ℕ) (s : List ℕ) → Bytes s → Bytes (drop n s)
bytes_drop zero s y = y
bytes_drop (suc n) [] y = tt
bytes_drop (suc n) (x ∷ s) y = bytes_drop n s y.1

frame_bytes : (kind q : ℕ) (os : List ℕ) (fs : List Frame) → Bytes os → EventsBytewise fs → EventsBytewise (frame_of kind q os ∷ fs)
unfolding frame_of
frame_bytes kind q os fs y h = go (eqb kind 0) (eqb kind 1) (eqb kind 2)
  where
    go : (a b c : Bool) → EventsBytewise ((if a then came (opening q) else if b then came (losing q) else if c then came (message q os) else went (on q os)) ∷ fs)
    go true b c = (tt, h)
    go false true c = (tt, h)
    go false false true = (y, h)
    go false false false = h

module _ (front : (List ℕ → Front)) where
  -- so are those of every event
  frames_bytes : (n : ℕ) (s : List ℕ) (fs : List Frame) → Bytes s → some_frames front n s ≡ some fs → EventsBytewise fs
  unfolding some_frames
  frames_bytes zero s fs y e = let q : fs ≡ [] = cc in rw q tt
  frames_bytes (suc n) s fs y e = go (front s) e (λ size gs. frames_bytes n (drop size s) gs (bytes_drop size s y))
    where
      rest : (kind q start size : ℕ) (x : Option (List Frame)) → ((gs : List Frame) → x ≡ some gs → EventsBytewise gs)
          → in_front (frame_of kind q (take (size - start) (drop start s))) x ≡ some fs → EventsBytewise fs
      rest kind q start size none f e = absurd (none≢some e)
      rest kind q start size (some gs) f e =
          let is : fs ≡ frame_of kind q (take (size - start) (drop start s)) ∷ gs = cc in
          rw is (frame_bytes kind q (take (size - start) (drop start s)) gs (bytes_take (size - start) (drop start s) (bytes_drop start s y)) (f gs refl))

      go : (x : Front) → frames_by x s (some_frames front n) ≡ some fs → ((size : ℕ) (gs : List Frame) → some_frames front n (drop size s) ≡ some gs → EventsBytewise gs) → EventsBytewise fs
      go over e f = let q : fs ≡ [] = cc in rw q tt
      go (frame kind q start size) e f = rest kind q start size (some_frames front n (drop size s)) (f size) e
      go (refused r) e f = absurd (none≢some e)

  -- one verdict is said of the frames
  says_same : (v w : Verdict) → says v ≡ says w → v ≡ w
  says_same v w e = cc

  -- J1 and J3
  pub of_octets : OctetsExactly front
  unfolding judgement all_frames
  of_octets channels users tokens s fs y i e =
      let l = limited channels users tokens in
      let b : EventsBytewise fs = frames_bytes (length s) s fs y e in
      let is : judgement front channels users tokens s ≡ says (judge l fs) = rw (i, e) refl in
      let one = exactly l fs i b in (
        (λ v. one.0 (says_same _ _ (sym is ∙ v)), λ x. is ∙ ap says (one.1 x)),
        λ n. let two = frame_exactly l fs n i b in (λ v. two.0 (says_same _ _ (sym is ∙ v)), λ x. is ∙ ap says (two.1 x)),
      )

  -- the refusals
  pub refused_octets : RefusalsExactly front
  unfolding judgement
  refused_octets channels users tokens s = go (in_range l) refl (all_frames front s) refl
    where
      l : Limits
      l = limited channels users tokens

      10≢11 : refuses 10 ≡ refuses 11 → ⊥
      10≢11 e = let z : ◌≡◌ {A = ℕ} 10 11 = cc in omega (arith, z)

      not_said : (v : Verdict) (n : ℕ) → says v ≡ refuses n → ⊥
      not_said v n e = let z : ◌≡◌ {A = ℕ} 0 1 = cc in omega (arith, z)

      go : (b : Bool) → in_range l ≡ b → (x : Option (List Frame)) → all_frames front s ≡ x
          → (((if b then judged_by l x else refuses 10) ≡ refuses 10) ↔ (b ≡ false)) × (((if b then judged_by l x else refuses 10) ≡ refuses 11) ↔ ((b ≡ true) × (x ≡ none)))
      go false i x e = ((λ q. refl, λ q. refl), (λ q. absurd (10≢11 q), λ q. absurd (false≢true q.0)))
      go true i none e = ((λ q. absurd (10≢11 (sym q)), λ q. absurd (true≢false q)), (λ q. (refl, refl), λ q. refl))
      go true i (some fs) e = ((λ q. absurd (not_said (judge l fs) 10 q), λ q. absurd (true≢false q)), (λ q. absurd (not_said (judge l fs) 11 q), λ q. absurd (none≢some (sym q.1))))

-- ---- one frame after another, for a reader that takes an octet at least, and finds the end of no octets
module _ (front : (List ℕ → Front)) (grows : ((s : List ℕ) (kind q start size : ℕ) → front s ≡ frame kind q start size → 0 < size)) (ends : front [] ≡ over) where
  -- more turns than octets change nothing
  turns : (n m : ℕ) (s : List ℕ) → length s ≤ n → length s ≤ m → some_frames front n s ≡ some_frames front m s
  unfolding some_frames
  turns zero zero s h k = refl
  turns zero (suc m) [] h k = rw ends refl
  turns zero (suc m) (x ∷ s) h k = absurd (omega arith)
  turns (suc n) zero [] h k = rw ends refl
  turns (suc n) zero (x ∷ s) h k = absurd (omega arith)
  turns (suc n) (suc m) s h k = go (front s) refl (turns n m)
    where
      go : (x : Front) → front s ≡ x → ((t : List ℕ) → length t ≤ n → length t ≤ m → some_frames front n t ≡ some_frames front m t)
          → frames_by x s (some_frames front n) ≡ frames_by x s (some_frames front m)
      go over e f = refl
      go (frame kind q start size) e f =
          let g = grows s kind q start size e in
          ap (in_front (frame_of kind q (take (size - start) (drop start s)))) (f (drop size s) (omega (arith, length-drop size s)) (omega (arith, length-drop size s)))
      go (refused r) e f = refl

  -- so all frames are the one in front and those behind it
  pub next_frames : (s : List ℕ) → all_frames front s ≡ frames_by (front s) s (all_frames front)
  unfolding all_frames some_frames
  next_frames [] = rw ends refl
  next_frames (x ∷ s) = go (front (x ∷ s)) refl
    where
      go : (y : Front) → front (x ∷ s) ≡ y → frames_by y (x ∷ s) (some_frames front (length s)) ≡ frames_by y (x ∷ s) (λ t. some_frames front (length t) t)
      go over e = refl
      go (frame kind q start size) e =
          let g = grows (x ∷ s) kind q start size e in
          ap (in_front (frame_of kind q (take (size - start) (drop start (x ∷ s)))))
          (turns (length s) (length (drop size (x ∷ s))) (drop size (x ∷ s)) (omega (arith, length-drop size (x ∷ s))) (omega arith))
      go (refused r) e = refl
