-- The claims of specs/Claims: what holds of every place that a sweep comes to. Assumes nothing.
use Prim.Native.Nat.{ℕ, zero, suc, ◌+◌, ◌-◌, ◌*◌, ◌≤◌, ◌<◌}
use mathlib.Core.Path.{◌≡◌, refl, sym, ap, ◌∙◌}
use mathlib.Core.Logic.{◌⊎◌, inl, inr, ⊎_elim}
use mathlib.Core.Bool.{Bool, true, false, ◌&&◌, ◌||◌, not, cond}
use mathlib.Core.List.{List, [], ◌∷◌, ◌++◌, append_assoc, append-nil}
use native.Mathlib.Omega.{arith}
use borrow.Author.Tests.{ltb-true, leb-true, eqb-true, lt-ltb, le-ltb, le-leb, eq-eqb}
use lib.Dec.{leb, ltb, eqb}
use lib.ListN.{length, take, drop, length-drop, length-append}
use lib.Seq.{length-take-le, drop-append-le, drop-drop}
use Rattle.trace_frames.specs.Claims.{OctetsBelow256}
use Rattle.trace_frames.specs.Good.{good_size, longest}
use Rattle.trace_frames.specs.Fault.{fault_of}
use Rattle.trace_frames.proofs.Faults.{nothing}
use Rattle.salvage.specs.Spans.{until, cut, spans}
use Rattle.salvage.specs.Answer.{kept_in, entry, cuts_from, output, cut_list}
use Rattle.salvage.proofs.SpanLaws.{none_or_some, until_here, until_most, until_some, spans_none, spans_cut}
use Rattle.salvage_window.specs.Windows.{decided, keeps, skips, opens, expected, passed, turn_of}
use Rattle.salvage_window.specs.Claims.{Place, after, Sweeps, start, next, Enough, left}
use Rattle.salvage_window.specs.Claims.{SweepSalvages, NoIdle, SweepEnds, FaultTold}
use Rattle.salvage_window.proofs.Stays.{low_drop, low_front, size_decided, fault_decided, resumes_decided}
use Rattle.salvage_window.proofs.Answers.{skips_most}
use Rattle.salvage_window.proofs.Turns.{run, none_kept, skip, skips_to}

both : (a b : Bool) → (a && b) ≡ true → (a ≡ true) × (b ≡ true)
both true b e = (refl, e)
both false b e = absurd (let z : ◌≡◌ {A = ℕ} 0 1 = cc in omega arith)

-- what is known where a cut opens
opens_says : (ended : Bool) (w : List ℕ) → opens ended w ≡ true → (keeps ended w ≡ 0) × (0 < length w) × (decided ended longest (length w) ≡ true)
opens_says ended w e =
    let a = both (eqb (keeps ended w) 0) (ltb 0 (length w) && decided ended longest (length w)) e in
    let b = both (ltb 0 (length w)) (decided ended longest (length w)) a.1 in
    (eqb-true (keeps ended w) 0 a.0, ltb-true 0 (length w) b.0, b.1)

-- what is kept and listed so far, and what the spans from a place on keep and list, are all
pub record From (s : List ℕ) (at : ℕ) (out list : List ℕ) : Type 0 where
  pub kept : kept_in (spans s) ≡ out ++ kept_in (spans (drop at s))
  pub cuts : cuts_from 0 (spans s) ≡ list ++ cuts_from at (spans (drop at s))

-- a cut that is open: none resumes before the place that is reached
pub record Open (s : List ℕ) (from at : ℕ) : Type 0 where
  pub none : good_size (drop from s) ≡ 0
  pub some : 0 < length (drop from s)
  pub ordered : from ≤ at
  pub left : until (drop from s) ≡ (at - from) + until (drop at s)

abbrev Opened : Bool → List ℕ → ℕ → ℕ → Type 0
Opened true s from at = Open s from at
Opened false s from at = Unit {0}

abbrev Holds : List ℕ → Place → Type 0
Holds s p = From s (cond p.cutting p.from p.at) p.out p.list × Opened p.cutting s p.from p.at

-- ---- a turn over a window of s that begins at a place
module _ (s : List ℕ) (low : OctetsBelow256 s) (at : ℕ) (w more : List ℕ) (ended : Bool) (stands : drop at s ≡ w ++ more) (last : ended ≡ true → more ≡ []) where
  low_window : OctetsBelow256 w
  low_window = low_front w more (rw stands at (low_drop at s low))

  -- what stands behind octets of the window
  behind : (n : ℕ) → n ≤ length w → drop (at + n) s ≡ drop n w ++ more
  behind n h = sym (drop-drop n at s) ∙ ap (drop n) stands ∙ drop-append-le n w more h

  -- frames are kept
  kept_on : (out list : List ℕ) → From s at out list → From s (at + keeps ended w) (out ++ take (keeps ended w) w) list
  kept_on out list f =
      let n = keeps ended w in
      let r = run more ended last w low_window in
      let b = sym (behind n r.inside) in
      record {
        kept =
            f.kept
            ∙ ap (λ l. out ++ kept_in (spans l)) stands
            ∙ ap (λ l. out ++ l) r.out
            ∙ sym (append_assoc out (take n w) (kept_in (spans (drop n w ++ more))))
            ∙ ap (λ l. out ++ take n w ++ kept_in (spans l)) b;
        cuts =
            f.cuts
            ∙ ap (λ l. list ++ cuts_from at (spans l)) stands
            ∙ ap (λ l. list ++ l) (r.list at)
            ∙ ap (λ l. list ++ cuts_from (at + n) (spans l)) b;
      }

  -- a cut opens
  opened : opens ended w ≡ true → (keeps ended w ≡ 0) × Open s at (at + keeps ended w)
  opened e =
      let o = opens_says ended w e in
      let here : at + keeps ended w ≡ at = omega (arith, o.0) in (
        o.0,
        record {
          none = ap good_size stands ∙ size_decided w more low_window ended last o.2 ∙ none_kept ended w o.0 o.2;
          some = omega (arith, ap length stands, length-append w more, o.1);
          ordered = omega arith;
          left = rw here (omega arith);
        },
      )

  -- octets are passed over
  passed_on : (from : ℕ) → Open s from at → Open s from (at + skips ended w)
  passed_on from o =
      let n = skips ended w in
      let r = skip more ended last w low_window in
      let u : until (drop at s) ≡ n + until (drop (at + n) s) = ap until stands ∙ r.left ∙ ap (λ l. n + until l) (sym (behind n r.inside)) in
      record { none = o.none; some = o.some; ordered = omega (arith, o.ordered); left = omega (arith, o.left, o.ordered) }

  -- reading resumes, or nothing is left
  resumed : decided ended (2 * longest) (length (drop (skips ended w) w)) ≡ true → until (drop (at + skips ended w) s) ≡ 0
  resumed d =
      let n = skips ended w in
      let v = drop n w in
      ap until (behind n (skip more ended last w low_window).inside)
      ∙ ⊎_elim
      (λ z. nothing_left ended refl d z)
      (λ e. until_here (v ++ more) (resumes_decided v more (low_drop n w low_window) ended last d ∙ e))
      (skips_to ended w d)
    where
      nothing_left : (t : Bool) → ended ≡ t → (t || leb (2 * longest) (length (drop (skips ended w) w))) ≡ true → length (drop (skips ended w) w) ≡ 0
          → until (drop (skips ended w) w ++ more) ≡ 0
      nothing_left false e d z = absurd (omega (arith, leb-true (2 * longest) (length (drop (skips ended w) w)) d))
      nothing_left true e d z =
          omega (arith, until_most (drop (skips ended w) w ++ more), length-append (drop (skips ended w) w) more, ap length (last e))

-- a cut ends: it is listed
closed : (s : List ℕ) (from at : ℕ) (out list : List ℕ) → From s from out list → Open s from at → until (drop at s) ≡ 0
    → From s at out (list ++ entry from (at - from))
unfolding kept_in cuts_from
closed s from at out list f o z =
    let d = drop from s in
    let u : until d ≡ at - from = omega (arith, o.left) in
    let l : length (take (at - from) d) ≡ at - from = length-take-le (at - from) d (omega (arith, until_most d)) in
    let to : from + (at - from) ≡ at = omega (arith, o.ordered) in
    let all : spans d ≡ cut (take (at - from) d) ∷ spans (drop at s) =
    spans_cut d o.some o.none
    ∙ ap (λ n. cut (take n d) ∷ spans (drop n d)) u
    ∙ ap (λ r. cut (take (at - from) d) ∷ spans r) (drop-drop (at - from) from s ∙ ap (λ n. drop n s) to) in
    record {
      kept = f.kept ∙ ap (λ xs. out ++ kept_in xs) all;
      cuts =
          f.cuts
          ∙ ap (λ xs. list ++ cuts_from from xs) all
          ∙ ap (λ n. list ++ (entry from n ++ cuts_from (from + n) (spans (drop at s)))) l
          ∙ ap (λ n. list ++ (entry from (at - from) ++ cuts_from n (spans (drop at s)))) to
          ∙ sym (append_assoc list (entry from (at - from)) (cuts_from at (spans (drop at s))));
    }

kept_out : (n : ℕ) (out w : List ℕ) → cond (ltb 0 n) (out ++ take n w) out ≡ out ++ take n w
kept_out zero out w = sym (append-nil out)
kept_out (suc n) out w = simp (lt-ltb 0 (suc n) (omega arith))

-- ---- a turn from any place
module _ (s : List ℕ) (low : OctetsBelow256 s) (w more : List ℕ) (ended : Bool) (last : ended ≡ true → more ≡ []) where
  step : (at : ℕ) (cutting : Bool) (from : ℕ) (out list : List ℕ) → drop at s ≡ w ++ more
      → Holds s (record { at = at; cutting = cutting; from = from; out = out; list = list })
      → Holds s (after (record { at = at; cutting = cutting; from = from; out = out; list = list }) w (turn_of ended w cutting))
  unfolding turn_of expected passed
  step at false from out list stands h = go (opens ended w) refl
    where
      f : From s (at + keeps ended w) (cond (ltb 0 (keeps ended w)) (out ++ take (keeps ended w) w) out) list
      f = rw (kept_out (keeps ended w) out w) (kept_on s low at w more ended stands last out list h.0)

      go : (t : Bool) → opens ended w ≡ t
          → Holds s (record { at = at + keeps ended w; cutting = t; from = at; out = cond (ltb 0 (keeps ended w)) (out ++ take (keeps ended w) w) out; list = list })
      go false e = (f, tt)
      go true e =
          let o = opened s low at w more ended stands last e in
          let here : at + keeps ended w ≡ at = omega (arith, o.0) in
          (rw here at f, o.1)
  step at true from out list stands h = go (decided ended (2 * longest) (length (drop (skips ended w) w))) refl
    where
      o : Open s from (at + skips ended w)
      o = passed_on s low at w more ended stands last from h.1

      go : (d : Bool) → decided ended (2 * longest) (length (drop (skips ended w) w)) ≡ d
          → Holds s (record { at = at + skips ended w; cutting = not d; from = from; out = out; list = cond (not (not d)) (list ++ entry from (at + skips ended w - from)) list })
      go true e = (closed s from (at + skips ended w) out list h.0 o (resumed s low at w more ended stands last e), tt)
      go false e = (h.0, o)

holds : (s : List ℕ) → OctetsBelow256 s → {p : Place} → Sweeps s p → Holds s p
holds s low start = (record { kept = refl; cuts = refl }, tt)
holds s low (next p w more ended sw win) =
    step s low w more ended win.last p.at p.cutting p.from p.out p.list win.stands (holds s low sw)

pub salvages : SweepSalvages
unfolding output cut_list kept_in cuts_from
salvages s p low sw h c =
    let f : From s p.at p.out p.list = rw c at (holds s low sw).0 in
    let n : spans (drop p.at s) ≡ [] = spans_none (drop p.at s) (omega (arith, length-drop p.at s)) in (
      sym (append-nil p.out) ∙ ap (λ xs. p.out ++ kept_in xs) (sym n) ∙ sym f.kept,
      sym (append-nil p.list) ∙ ap (λ xs. p.list ++ cuts_from p.at xs) (sym n) ∙ sym f.cuts,
    )

-- ---- no turn is idle
one_of_two : (ended : Bool) (n : ℕ) → decided ended (2 * longest) n ≡ true → decided ended longest n ≡ true
one_of_two true n d = refl
one_of_two false n d = le-leb longest n (omega (arith, leb-true (2 * longest) n d))

must_open : (ended : Bool) (w : List ℕ) → Enough ended w → 0 < length w → keeps ended w ≡ 0 → opens ended w ≡ true
must_open ended w d h z = simp (eq-eqb (keeps ended w) 0 z, lt-ltb 0 (length w) h, one_of_two ended (length w) d)

pub idle : NoIdle
unfolding turn_of expected passed
idle ended w true d h = ⊎_elim (λ z. inr (rw z (ap not d))) inl (none_or_some (skips ended w))
idle ended w false d h =
    ⊎_elim
    (λ z. inr (must_open ended w d (⊎_elim (λ l. l) (λ e. absurd (let x : ◌≡◌ {A = ℕ} 0 1 = cc in omega arith)) h) z))
    inl
    (none_or_some (keeps ended w))

-- ---- and every turn leaves less
mark_most : (a b : Bool) → cond a (cond b 2 0) 1 ≤ 2
mark_most true true = omega arith
mark_most true false = omega arith
mark_most false b = omega arith

-- what is left behind a turn in a cut, which ends it or not
abbrev cut_left : (size from at : ℕ) → Bool → ℕ
cut_left size from at ends = 3 * (size - at) + cond (not ends) (cond (ltb from at) 2 0) 1

module _ (s : List ℕ) (low : OctetsBelow256 s) (w more : List ℕ) (ended : Bool) (last : ended ≡ true → more ≡ []) (d : Enough ended w) where
  less : (at : ℕ) (cutting : Bool) (from : ℕ) (out list : List ℕ) → drop at s ≡ w ++ more
      → Holds s (record { at = at; cutting = cutting; from = from; out = out; list = list })
      → (at < length s) ⊎ (cutting ≡ true)
      → left s (after (record { at = at; cutting = cutting; from = from; out = out; list = list }) w (turn_of ended w cutting)) < left s (record { at = at; cutting = cutting; from = from; out = out; list = list })
  unfolding turn_of expected passed
  less at false from out list stands h m = ⊎_elim none some (none_or_some (keeps ended w))
    where
      more_left : at < length s
      more_left = ⊎_elim (λ l. l) (λ e. absurd (let x : ◌≡◌ {A = ℕ} 0 1 = cc in omega arith)) m

      all : length s - at ≡ length w + length more
      all = sym (length-drop at s) ∙ ap length stands ∙ length-append w more

      some : 0 < keeps ended w → 3 * (length s - (at + keeps ended w)) + cond (opens ended w) (cond (ltb at (at + keeps ended w)) 2 0) 1 < 3 * (length s - at) + 1
      some k =
          omega (
            arith,
            all,
            (run more ended last w (low_window s low at w more ended stands last)).inside,
            mark_most (opens ended w) (ltb at (at + keeps ended w)),
          )

      window_some : (t : Bool) → ended ≡ t → (t || leb (2 * longest) (length w)) ≡ true → 0 < length w
      window_some true e d = omega (arith, all, more_left, ap length (last e))
      window_some false e d = omega (arith, leb-true (2 * longest) (length w) d)

      none : keeps ended w ≡ 0 → 3 * (length s - (at + keeps ended w)) + cond (opens ended w) (cond (ltb at (at + keeps ended w)) 2 0) 1 < 3 * (length s - at) + 1
      none z =
          let o : opens ended w ≡ true = must_open ended w d (window_some ended refl d) z in
          rw (o, le-ltb at (at + keeps ended w) (omega arith)) (omega arith)
  less at true from out list stands h m = ⊎_elim none some (none_or_some (skips ended w))
    where
      all : length s - at ≡ length w + length more
      all = sym (length-drop at s) ∙ ap length stands ∙ length-append w more

      some : 0 < skips ended w → cut_left (length s) from (at + skips ended w) (decided ended (2 * longest) (length (drop (skips ended w) w))) < 3 * (length s - at) + cond (ltb from at) 2 0
      some k =
          omega (
            arith,
            all,
            skips_most ended w,
            mark_most (not (decided ended (2 * longest) (length (drop (skips ended w) w)))) (ltb from (at + skips ended w)),
          )

      none : skips ended w ≡ 0 → cut_left (length s) from (at + skips ended w) (decided ended (2 * longest) (length (drop (skips ended w) w))) < 3 * (length s - at) + cond (ltb from at) 2 0
      none z =
          let e : decided ended (2 * longest) (length (drop (skips ended w) w)) ≡ true = rw z d in
          let o = passed_on s low at w more ended stands last from h.1 in
          let u = resumed s low at w more ended stands last e in
          let l : from < at = omega (arith, o.left, u, z, until_some (drop from s) o.none o.some) in
          rw (e, lt-ltb from at l) (omega arith)

pub ends : SweepEnds
ends s p w more ended low sw win d m =
    less s low w more ended win.last d p.at p.cutting p.from p.out p.list win.stands (holds s low sw) m

-- ---- the fault that is told
pub told : FaultTold
unfolding turn_of expected
told s p w more ended low win c e =
    let o = opens_says ended w (rw c at e) in
    let g : good_size w ≡ 0 = none_kept ended w o.0 o.2 in
    let l = low_window s low p.at w more ended win.stands win.last in
    (sym (ap fault_of win.stands ∙ fault_decided w more l ended win.last o.2), λ q. omega (arith, (nothing w).0 q))
