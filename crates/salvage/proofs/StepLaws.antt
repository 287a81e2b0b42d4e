-- A span a step: what is laid and counted, one span after the other. Assumes nothing.
use Prim.Native.Nat.{ℕ, ◌+◌, ◌-◌, ◌*◌, ◌≤◌, ◌<◌}
use mathlib.Core.Path.{◌≡◌, refl, sym, ap, ◌∙◌}
use mathlib.Core.List.{List, [], ◌∷◌, ◌++◌, append-nil}
use native.Mathlib.Omega.{arith}
use lib.ListN.{length, take, drop, length-drop}
use lib.Seq.{length-take-le, drop-drop}
use Rattle.trace_frames.specs.Good.{good_size}
use Rattle.trace_frames.proofs.Good.{within}
use Rattle.salvage.specs.declared.Place.{Place}
use Rattle.salvage.specs.Spans.{until, Span, kept, cut, octets_in, first, spans}
use Rattle.salvage.specs.Answer.{kept_in, entry, cuts_from, output, cut_list}
use Rattle.salvage.specs.Steps.{Lays, Inside, Before, Takes, Passes}
use Rattle.salvage.proofs.SpanLaws.{part_is, until_most, until_some, first_kept, first_cut, spans_first, spans_none}
use Rattle.salvage.proofs.Laying.{lays_nothing, entry_length, Onward, onward_start, onward_step, onward_laid, onward_count}

-- ---- what the code finds at a place
module _ (trace : List ℕ) (at : ℕ) (h : at < length trace) where
  rest_length : length (drop at trace) ≡ length trace - at
  rest_length = length-drop at trace

  pub size_is : (g : ℕ) → g ≡ good_size (take (length trace - at) (drop at trace)) → g ≡ good_size (drop at trace)
  size_is g e = e ∙ ap good_size (part_is trace at)

  pub size_inside : (g : ℕ) → g ≡ good_size (take (length trace - at) (drop at trace)) → at + g ≤ length trace
  size_inside g e = omega (arith, size_is g e, within (drop at trace), rest_length)

  pub gap_is : (n : ℕ) → n ≡ until (take (length trace - at) (drop at trace)) → n ≡ until (drop at trace)
  gap_is n e = e ∙ ap until (part_is trace at)

  pub gap_inside : (n : ℕ) → n ≡ until (take (length trace - at) (drop at trace)) → at + n ≤ length trace
  gap_inside n e = omega (arith, gap_is n e, until_most (drop at trace), rest_length)

-- ---- one span
pub kept_kept : (os : List ℕ) → kept_in (kept os ∷ []) ≡ os
unfolding kept_in
kept_kept os = append-nil os

pub kept_cut : (os : List ℕ) → kept_in (cut os ∷ []) ≡ []
unfolding kept_in
kept_cut os = refl

pub cuts_kept : (at : ℕ) (os : List ℕ) → cuts_from at (kept os ∷ []) ≡ []
unfolding cuts_from
cuts_kept at os = refl

pub cuts_cut : (at : ℕ) (os : List ℕ) → cuts_from at (cut os ∷ []) ≡ entry at (length os)
unfolding cuts_from
cuts_cut at os = append-nil (entry at (length os))

module _ (trace : List ℕ) (p : Place) (b : Before trace p) (out list : List ℕ) where
  -- a span that is cut out
  cut_taken : (x : Span) (g : ℕ) (os : List ℕ) {list' : List ℕ} → x ≡ cut os → length os ≡ g → 0 < g → p.at + g ≤ length trace
      → Lays list (p.cuts * 16) (entry p.at g) list'
      → Takes trace x p out list (record { at = p.at + g; kept = p.kept; cuts = p.cuts + 1 }) out list'
  cut_taken x g os e n h m l =
      rw e
      (record {
        on = omega arith;
        inside = record { passed = m; kept = omega (arith, b.inside.kept); cuts = omega (arith, b.inside.cuts) };
        passed = rw n;
        kept = rw (kept_cut os) (omega arith);
        cuts = rw (cuts_cut p.at os) (omega (arith, entry_length p.at (length os)));
        laid = rw (kept_cut os) (lays_nothing out p.kept);
        listed = rw (cuts_cut p.at os, n) l;
      })

  pub takes_cut : (g : ℕ) {list' : List ℕ} → good_size (drop p.at trace) ≡ 0 → g ≡ until (drop p.at trace)
      → Lays list (p.cuts * 16) (entry p.at g) list'
      → Takes trace (first (drop p.at trace)) p out list (record { at = p.at + g; kept = p.kept; cuts = p.cuts + 1 }) out list'
  takes_cut g z e l =
      let s = drop p.at trace in
      let n : length s ≡ length trace - p.at = length-drop p.at trace in
      cut_taken (first s) g (take (until s) s) (first_cut s z) (length-take-le (until s) s (until_most s) ∙ sym e)
      (omega (arith, until_some s z (omega (arith, b.more))))
      (omega (arith, until_most s, b.more))
      l

  -- a frame that is kept
  kept_taken : (x : Span) (g : ℕ) (os : List ℕ) {out' : List ℕ} → x ≡ kept os → length os ≡ g → 0 < g → p.at + g ≤ length trace
      → Lays out p.kept os out'
      → Takes trace x p out list (record { at = p.at + g; kept = p.kept + g; cuts = p.cuts }) out' list
  kept_taken x g os e n h m l =
      rw e
      (record {
        on = omega arith;
        inside = record { passed = m; kept = omega (arith, b.inside.kept); cuts = omega (arith, b.inside.cuts) };
        passed = rw n;
        kept = rw (kept_kept os, n);
        cuts = rw (cuts_kept p.at os) (omega arith);
        laid = rw (kept_kept os) l;
        listed = rw (cuts_kept p.at os) (lays_nothing list (p.cuts * 16));
      })

  pub takes_kept : (g : ℕ) {out' : List ℕ} → g ≡ good_size (drop p.at trace) → 0 < g
      → Lays out p.kept (take (p.at + g - p.at) (drop p.at trace)) out'
      → Takes trace (first (drop p.at trace)) p out list (record { at = p.at + g; kept = p.kept + g; cuts = p.cuts }) out' list
  takes_kept g e h l =
      let s = drop p.at trace in
      let n : length s ≡ length trace - p.at = length-drop p.at trace in
      let z : p.at + g - p.at ≡ g = omega arith in
      kept_taken (first s) g (take g s) (first_kept s (omega arith) ∙ ap (λ k. kept (take k s)) (sym e)) (length-take-le g s (omega (arith, within s)))
      h
      (omega (arith, within s, b.more))
      (rw z at l)

-- ---- one span behind another
kept_on : (x : Span) (xs : List Span) → kept_in (x ∷ xs) ≡ kept_in (x ∷ []) ++ kept_in xs
unfolding kept_in
kept_on (kept os) xs = rw append-nil
kept_on (cut os) xs = refl

cuts_on : (at : ℕ) (x : Span) (xs : List Span) → cuts_from at (x ∷ xs) ≡ cuts_from at (x ∷ []) ++ cuts_from (at + length (octets_in x)) xs
unfolding cuts_from
cuts_on at (kept os) xs = refl
cuts_on at (cut os) xs = rw append-nil

-- all spans from a place on
abbrev left : List ℕ → ℕ → List Span
left trace at = spans (drop at trace)

left_on : (trace : List ℕ) (at next : ℕ) → at < length trace → next ≡ at + length (octets_in (first (drop at trace)))
    → left trace at ≡ first (drop at trace) ∷ left trace next
left_on trace at next h e =
    let s = drop at trace in
    spans_first s (omega (arith, length-drop at trace))
    ∙ ap (λ r. first s ∷ spans r) (drop-drop (length (octets_in (first s))) at trace ∙ ap (λ n. drop n trace) (sym e))

left_none : (trace : List ℕ) (at : ℕ) → length trace ≤ at → left trace at ≡ []
left_none trace at h = spans_none (drop at trace) (omega (arith, length-drop at trace))

-- what the loop keeps: laying what is left from here on is laying all of it from the start
pub record Sofar (trace out₀ list₀ out list : List ℕ) (p : Place) : Type 0 where
  pub inside : Inside trace p
  pub laid : Onward out₀ (output trace) out p.kept (kept_in (left trace p.at))
  pub listed : Onward list₀ (cut_list trace) list (p.cuts * 16) (cuts_from p.at (left trace p.at))

pub sofar_start : (trace out list : List ℕ) → Sofar trace out list out list (record { at = 0; kept = 0; cuts = 0 })
unfolding output cut_list
sofar_start trace out list =
    record {
      inside = record { passed = omega arith; kept = omega arith; cuts = omega arith };
      laid = onward_start out (kept_in (spans trace));
      listed = onward_start list (cuts_from 0 (spans trace));
    }

pub sofar_on : {trace out₀ list₀ out list : List ℕ} {p q : Place} {out' list' : List ℕ} → p.at < length trace → Sofar trace out₀ list₀ out list p
    → Takes trace (first (drop p.at trace)) p out list q out' list' → length out' ≡ length out → length list' ≡ length list
    → Sofar trace out₀ list₀ out' list' q
sofar_on {trace} {p = p} {q = q} h s t m n =
    let x = first (drop p.at trace) in
    let e : left trace p.at ≡ x ∷ left trace q.at = left_on trace p.at q.at h t.passed in
    record {
      inside = t.inside;
      laid = onward_step (kept_in (x ∷ [])) (kept_in (left trace q.at)) s.laid (ap kept_in e ∙ kept_on x (left trace q.at)) t.laid m t.kept;
      listed =
          onward_step (cuts_from p.at (x ∷ [])) (cuts_from q.at (left trace q.at)) s.listed
          (ap (cuts_from p.at) e ∙ cuts_on p.at x (left trace q.at) ∙ ap (λ k. cuts_from p.at (x ∷ []) ++ cuts_from k (left trace q.at)) (sym t.passed))
          t.listed
          n
          t.cuts;
    }

pub sofar_end : {trace out₀ list₀ out list : List ℕ} {p : Place} → length trace ≤ p.at → Sofar trace out₀ list₀ out list p → Passes trace out₀ list₀ p out list
unfolding kept_in cuts_from
sofar_end {trace} {p = p} h s =
    let e = left_none trace p.at h in
    record {
      sizes = record { kept = onward_count s.laid (ap kept_in e); cuts = onward_count s.listed (ap (cuts_from p.at) e) };
      laid = onward_laid s.laid (ap kept_in e);
      listed = onward_laid s.listed (ap (cuts_from p.at) e);
    }
