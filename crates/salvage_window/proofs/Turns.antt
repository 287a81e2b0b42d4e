-- The run of frames that a turn keeps, and the octets that it passes over. Assumes nothing.
use Prim.Native.Nat.{ℕ, zero, suc, ◌+◌, ◌-◌, ◌*◌, ◌≤◌, ◌<◌}
use mathlib.Core.Path.{◌≡◌, refl, sym, ap, ◌∙◌}
use mathlib.Core.Logic.{◌⊎◌, inl, inr, ⊎_elim}
use mathlib.Core.Bool.{Bool, true, false, cond}
use mathlib.Core.List.{List, [], ◌∷◌, ◌++◌, append_assoc}
use native.Mathlib.Nat.{add_assoc, add-zero}
use native.Mathlib.Numerals.{add-one}
use native.Mathlib.Omega.{arith}
use borrow.Author.Tests.{ltb-true, lt-ltb, le-ltb}
use lib.Dec.{ltb}
use lib.ListN.{length, take, drop, length-drop, drop_of_length-le}
use lib.Seq.{length-take-le, take-append-le, drop-append-le, take-add, drop-drop, drop-cons}
use Rattle.trace_frames.specs.Claims.{OctetsBelow256}
use Rattle.trace_frames.specs.Good.{good_size, longest}
use Rattle.trace_frames.proofs.Good.{within}
use Rattle.salvage.specs.Spans.{resumes, until, kept, spans}
use Rattle.salvage.specs.Answer.{kept_in, cuts_from}
use Rattle.salvage.proofs.SpanLaws.{none_or_some, part_is, until_past, spans_kept}
use Rattle.salvage_window.specs.Windows.{decided, sure, keeps_in, keeps, stops, skips}
use Rattle.salvage_window.proofs.Stays.{low_drop, size_decided, resumes_decided}

-- ---- a frame that is sure
module _ (ended : Bool) (w : List ℕ) where
  pub sure_is : decided ended longest (length w) ≡ true → sure ended w ≡ good_size w
  unfolding sure
  sure_is d = simp d

  pub sure_not : decided ended longest (length w) ≡ false → sure ended w ≡ 0
  unfolding sure
  sure_not d = simp d

  pub sure_decided : 0 < sure ended w → decided ended longest (length w) ≡ true
  sure_decided h = go (decided ended longest (length w)) refl
    where
      go : (t : Bool) → decided ended longest (length w) ≡ t → t ≡ true
      go true e = refl
      go false e = absurd (omega (arith, sure_not e))

  pub sure_within : sure ended w ≤ length w
  sure_within = go (decided ended longest (length w)) refl
    where
      go : (t : Bool) → decided ended longest (length w) ≡ t → sure ended w ≤ length w
      go true e = omega (arith, sure_is e, within w)
      go false e = omega (arith, sure_not e)

  keeps_in_on : (k : ℕ) → 0 < sure ended w → keeps_in (suc k) ended w ≡ sure ended w + keeps_in k ended (drop (sure ended w) w)
  unfolding keeps_in
  keeps_in_on k h = simp (lt-ltb 0 (sure ended w) h)

  keeps_in_stop : (k : ℕ) → sure ended w ≡ 0 → keeps_in (suc k) ended w ≡ 0
  unfolding keeps_in
  keeps_in_stop k h = simp (le-ltb 0 (sure ended w) (omega arith))

-- what the code finds from a place of w on
module _ (ended : Bool) (w : List ℕ) (n g : ℕ) (h : n ≤ length w) (e : g ≡ sure ended (take (length w - n) (drop n w))) where
  pub sure_here : g ≡ sure ended (drop n w)
  sure_here = e ∙ ap (sure ended) (part_is w n)

  pub sure_inside : n + g ≤ length w
  sure_inside = omega (arith, sure_here, sure_within ended (drop n w), length-drop n w)

-- with as many turns as there are octets, or more, all frames are there
agree : (j k : ℕ) (ended : Bool) (w : List ℕ) → length w ≤ j → length w ≤ k → keeps_in j ended w ≡ keeps_in k ended w
unfolding keeps_in
agree zero zero ended w a b = refl
agree zero (suc k) ended w a b = sym (keeps_in_stop ended w k (omega (arith, sure_within ended w)))
agree (suc j) zero ended w a b = keeps_in_stop ended w j (omega (arith, sure_within ended w))
agree (suc j) (suc k) ended w a b =
    ⊎_elim
    (λ z. keeps_in_stop ended w j z ∙ sym (keeps_in_stop ended w k z))
    (λ h. keeps_in_on ended w j h
    ∙ ap (λ n. sure ended w + n)
    (agree j k ended (drop (sure ended w) w)
    (omega (arith, length-drop (sure ended w) w, sure_within ended w))
    (omega (arith, length-drop (sure ended w) w, sure_within ended w)))
    ∙ sym (keeps_in_on ended w k h))
    (none_or_some (sure ended w))

keeps_in_most : (k : ℕ) (ended : Bool) (w : List ℕ) → keeps_in k ended w ≤ length w
unfolding keeps_in
keeps_in_most zero ended w = omega arith
keeps_in_most (suc k) ended w =
    let g = sure ended w in
    ⊎_elim
    (λ z. omega (arith, keeps_in_stop ended w k z))
    (λ h. omega (arith, keeps_in_on ended w k h, keeps_in_most k ended (drop g w), length-drop g w, sure_within ended w))
    (none_or_some g)

pub keeps_most : (ended : Bool) (w : List ℕ) → keeps ended w ≤ length w
unfolding keeps
keeps_most ended w = keeps_in_most (length w) ended w

pub keeps_stop : (ended : Bool) (w : List ℕ) → sure ended w ≡ 0 → keeps ended w ≡ 0
unfolding keeps keeps_in
keeps_stop ended [] z = refl
keeps_stop ended (o ∷ w) z = keeps_in_stop ended (o ∷ w) (length w) z

pub keeps_on : (ended : Bool) (w : List ℕ) → 0 < sure ended w → keeps ended w ≡ sure ended w + keeps ended (drop (sure ended w) w)
unfolding keeps
keeps_on ended [] h = absurd (omega (arith, sure_within ended []))
keeps_on ended (o ∷ w) h =
    let g = sure ended (o ∷ w) in
    keeps_in_on ended (o ∷ w) (length w) h
    ∙ ap (λ n. g + n)
    (agree (length w) (length (drop g (o ∷ w))) ended (drop g (o ∷ w)) (omega (arith, length-drop g (o ∷ w))) (omega arith))

pub keeps_end : (ended : Bool) (w : List ℕ) (n : ℕ) → length w ≤ n → keeps ended (drop n w) ≡ 0
unfolding keeps keeps_in
keeps_end ended w n h = rw (drop_of_length-le w h)

-- ---- the run of frames
-- the first n octets of w are good frames one behind the other, whatever follows w
pub record Run (w more : List ℕ) (n : ℕ) : Type 0 where
  pub inside : n ≤ length w
  pub out : kept_in (spans (w ++ more)) ≡ take n w ++ kept_in (spans (drop n w ++ more))
  pub list : (at : ℕ) → cuts_from at (spans (w ++ more)) ≡ cuts_from (at + n) (spans (drop n w ++ more))

run_none : (w more : List ℕ) → Run w more 0
run_none w more =
    record {
      inside = omega arith;
      out = refl;
      list = λ at. ap (λ n. cuts_from n (spans (w ++ more))) (sym (add-zero at));
    }

run_frame : (w more : List ℕ) (g n : ℕ) → good_size (w ++ more) ≡ g → 0 < g → g ≤ length w → Run (drop g w) more n → Run w more (g + n)
unfolding kept_in cuts_from
run_frame w more g n e h l r =
    let x = w ++ more in
    let all : spans x ≡ kept (take g w) ∷ spans (drop g w ++ more) =
    spans_kept x (omega arith)
    ∙ ap (λ k. kept (take k x) ∷ spans (drop k x)) e
    ∙ ap (λ l. kept l ∷ spans (drop g x)) (take-append-le g w more l)
    ∙ ap (λ l. kept (take g w) ∷ spans l) (drop-append-le g w more l) in
    record {
      inside = omega (arith, r.inside, length-drop g w);
      out =
          ap kept_in all
          ∙ ap (λ l. take g w ++ l) r.out
          ∙ sym (append_assoc (take g w) (take n (drop g w)) (kept_in (spans (drop n (drop g w) ++ more))))
          ∙ ap (λ l. l ++ kept_in (spans (drop n (drop g w) ++ more))) (sym (take-add g n w))
          ∙ ap (λ l. take (g + n) w ++ kept_in (spans (l ++ more))) (drop-drop n g w);
      list =
          λ at.
          ap (cuts_from at) all
          ∙ ap (λ k. cuts_from (at + k) (spans (drop g w ++ more))) (length-take-le g w l)
          ∙ r.list (at + g)
          ∙ ap (λ k. cuts_from k (spans (drop n (drop g w) ++ more))) (add_assoc at g n)
          ∙ ap (λ l. cuts_from (at + (g + n)) (spans (l ++ more))) (drop-drop n g w);
    }

module _ (more : List ℕ) (ended : Bool) (last : ended ≡ true → more ≡ []) where
  run_all : (k : ℕ) (w : List ℕ) → OctetsBelow256 w → Run w more (keeps_in k ended w)
  unfolding keeps_in
  run_all zero w low = run_none w more
  run_all (suc k) w low = go (ltb 0 (sure ended w)) refl (run_all k (drop (sure ended w) w) (low_drop (sure ended w) w low))
    where
      go : (t : Bool) → ltb 0 (sure ended w) ≡ t → Run (drop (sure ended w) w) more (keeps_in k ended (drop (sure ended w) w))
          → Run w more (cond t (sure ended w + keeps_in k ended (drop (sure ended w) w)) 0)
      go false e r = run_none w more
      go true e r =
          let h : 0 < sure ended w = ltb-true 0 (sure ended w) e in
          let d = sure_decided ended w h in
          run_frame w more (sure ended w) (keeps_in k ended (drop (sure ended w) w)) (size_decided w more low ended last d ∙ sym (sure_is ended w d)) h (sure_within ended w) r

  pub run : (w : List ℕ) → OctetsBelow256 w → Run w more (keeps ended w)
  unfolding keeps
  run w low = run_all (length w) w low

-- where nothing is kept and it is sure, no good frame begins
pub none_kept : (ended : Bool) (w : List ℕ) → keeps ended w ≡ 0 → decided ended longest (length w) ≡ true → good_size w ≡ 0
none_kept ended w z d =
    ⊎_elim (λ e. sym (sure_is ended w d) ∙ e) (λ h. absurd (omega (arith, keeps_on ended w h))) (none_or_some (sure ended w))

-- ---- the octets that are passed over
module _ (ended : Bool) (w : List ℕ) where
  pub stops_is : decided ended (2 * longest) (length w) ≡ true → stops ended w ≡ resumes w
  unfolding stops
  stops_is d = simp d

  pub stops_short : decided ended (2 * longest) (length w) ≡ false → stops ended w ≡ true
  unfolding stops
  stops_short d = simp d

  stops_decided : stops ended w ≡ false → decided ended (2 * longest) (length w) ≡ true
  stops_decided s = go (decided ended (2 * longest) (length w)) refl
    where
      go : (t : Bool) → decided ended (2 * longest) (length w) ≡ t → t ≡ true
      go true e = refl
      go false e = sym s ∙ stops_short e

pub skips_here : (ended : Bool) (w : List ℕ) → stops ended w ≡ true → skips ended w ≡ 0
unfolding skips
skips_here ended [] e = refl
skips_here ended (o ∷ w) e = simp e

pub skips_past : (ended : Bool) (o : ℕ) (w : List ℕ) → stops ended (o ∷ w) ≡ false → skips ended (o ∷ w) ≡ suc (skips ended w)
unfolding skips
skips_past ended o w e = simp e

pub skips_on : (ended : Bool) (w : List ℕ) (i : ℕ) → i < length w → stops ended (drop i w) ≡ false → skips ended (drop i w) ≡ suc (skips ended (drop (i + 1) w))
skips_on ended w i h e =
    ap (skips ended) (drop-cons w i 0 h)
    ∙ skips_past ended _ _ (ap (stops ended) (sym (drop-cons w i 0 h)) ∙ e)
    ∙ ap (λ n. suc (skips ended (drop n w))) (sym (add-one i))

pub skips_end : (ended : Bool) (w : List ℕ) (n : ℕ) → length w ≤ n → skips ended (drop n w) ≡ 0
unfolding skips
skips_end ended w n h = rw (drop_of_length-le w h)

-- the first n octets of w are passed over, whatever follows w
pub record Skip (w more : List ℕ) (n : ℕ) : Type 0 where
  pub inside : n ≤ length w
  pub left : until (w ++ more) ≡ n + until (drop n w ++ more)

module _ (more : List ℕ) (ended : Bool) (last : ended ≡ true → more ≡ []) where
  pub skip : (w : List ℕ) → OctetsBelow256 w → Skip w more (skips ended w)
  unfolding skips
  skip [] low = record { inside = omega arith; left = omega arith }
  skip (o ∷ w) low = go (stops ended (o ∷ w)) refl (skip w (λ i. low (suc i)))
    where
      go : (t : Bool) → stops ended (o ∷ w) ≡ t → Skip w more (skips ended w) → Skip (o ∷ w) more (cond t 0 (suc (skips ended w)))
      go true e r = record { inside = omega arith; left = omega arith }
      go false e r =
          let d = stops_decided ended (o ∷ w) e in
          let f : resumes (o ∷ w ++ more) ≡ false = resumes_decided (o ∷ w) more low ended last d ∙ sym (stops_is ended (o ∷ w) d) ∙ e in
          record { inside = omega (arith, r.inside); left = omega (arith, until_past o (w ++ more) f, r.left) }

-- where octets enough are left behind them, or nothing follows, reading resumes there or nothing is left
pub skips_to : (ended : Bool) (w : List ℕ) → decided ended (2 * longest) (length (drop (skips ended w) w)) ≡ true
    → (length (drop (skips ended w) w) ≡ 0) ⊎ (resumes (drop (skips ended w) w) ≡ true)
unfolding skips
skips_to ended [] d = inl refl
skips_to ended (o ∷ w) d = go (stops ended (o ∷ w)) refl d (skips_to ended w)
  where
    go : (t : Bool) → stops ended (o ∷ w) ≡ t → decided ended (2 * longest) (length (drop (cond t 0 (suc (skips ended w))) (o ∷ w))) ≡ true
        → (decided ended (2 * longest) (length (drop (skips ended w) w)) ≡ true → (length (drop (skips ended w) w) ≡ 0) ⊎ (resumes (drop (skips ended w) w) ≡ true))
        → (length (drop (cond t 0 (suc (skips ended w))) (o ∷ w)) ≡ 0) ⊎ (resumes (drop (cond t 0 (suc (skips ended w))) (o ∷ w)) ≡ true)
    go true e d i = inr (sym (stops_is ended (o ∷ w) d) ∙ e)
    go false e d i = i d
