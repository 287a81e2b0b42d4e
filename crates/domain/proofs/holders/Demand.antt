-- Demand 3: the four claims of every run from a fresh domain. Assumes nothing.
use mathlib.Core.Path.{◌≡◌, refl, ap, ◌∙◌}
use mathlib.Core.Bool.{not, ◌&&◌, ◌||◌, So}
use mathlib.Core.List.{List}
use Prim.Native.Nat.{ℕ, zero, suc}
use native.Mathlib.Omega.{arith}
use lib.Dec.{leb, ltb}
use lib.ListN.{replicate}
use borrow.Author.Tests.{ne_eqb}
use Rattle.cols_spec.specs.Places.{Nowhere, first, find}
use Rattle.cols_spec.specs.Sets.{has, all}
use Rattle.codec_table.specs.Named.{TGrq, TGcf, TIrq, TIcf}
use Rattle.domain.specs.declared.Limits.{Limits}
use Rattle.domain.specs.Tables.{Domain, fresh, state, grant, in_range}
use Rattle.domain.specs.Events.{tokens_full, hears, reads, act, answers, step, step_with}
use Rattle.domain.specs.Tokens.{grab, inhibit}
use Rattle.domain.specs.Passing.{take_token, share_token}
use Rattle.domain.specs.Good.{Good}
use Rattle.domain.specs.History.{History, nothing_yet, begins, grabs, inhibits, code, same, reading, home, gain, open_offer, busy, count}
use Rattle.domain.specs.Claims.{Turn, Run, run, now, past, next_run, goes, from_fresh, formed, Claims, Demand3}
use Rattle.domain.proofs.invariant.Fresh.{fresh_good}
use Rattle.domain.proofs.invariant.Sound.{Sound}
use Rattle.domain.proofs.invariant.GoodIsSound.{good_sound}
use Rattle.domain.proofs.invariant.Invariant.{grant_free, good_next, goes_by}
use Rattle.domain.proofs.holders.Heard.{mark, flat}
use Rattle.domain.proofs.holders.Agrees.{Agrees}
use Rattle.domain.proofs.holders.Following.{agrees_step}
use Rattle.domain.proofs.holders.Claimed.{holders_same, holder_alone, tokens_counted}
use Rattle.domain.proofs.holders.TooMany.{grab_full, inhibit_full, asked_told}

-- ---- runs

-- good tables that agree with the history, and the limits of the start
pub record Faithful (l : Limits) (r : Run) : Type 0 where
  pub good : Good (now r)
  pub agrees : Agrees (past r) (now r).users (now r).tokens
  pub limits : (now r).limits ≡ l

empty_first : (u j n : ℕ) → (u ≡ 0 → ⊥) → first j u (replicate n 0) ≡ Nowhere
unfolding first
empty_first u j zero nz = refl
empty_first u j (suc n) nz = rw (ne_eqb u 0 nz) (empty_first u (suc j) n nz)

empty_find : (u : ℕ) → find (replicate 64 0) u ≡ Nowhere
unfolding find
empty_find zero = refl
empty_find (suc u) = rw (ne_eqb (suc u) 0 (λ e. omega arith)) (empty_first (suc u) 0 64 (λ e. omega arith))

pub faithful_fresh : (l : Limits) → So (in_range l) → Faithful l (run (fresh l) (begins nothing_yet))
unfolding now past fresh home mark flat gain open_offer nothing_yet
faithful_fresh l r = record {
  good = fresh_good l r;
  agrees = record { homes = λ u. rw (empty_find u); marks = λ k u. rw (empty_find u) };
  limits = refl;
}

-- ---- the claims

-- one turn
pub faithful_turned : (l : Limits) (r : Run) (t : Turn) → So (formed t.0) → Faithful l r → Faithful l (next_run r t)
unfolding next_run now past step
faithful_turned l r t f s =
    let w = agrees_step (past r) (now r) s.good s.agrees (grant (now r).channels) (grant_free (now r) s.good) t.0 t.1 f in
    record {
      good = good_next (now r) s.good t.0 t.1 f;
      agrees = w.agrees;
      limits = w.limits ∙ s.limits;
    }

-- from any run that is faithful
pub faithful_goes : (l : Limits) (ts : List Turn) (r : Run) → So (all (λ t. formed t.0) ts) → Faithful l r → Faithful l (goes r ts)
faithful_goes l ts r f s = goes_by (Faithful l) (faithful_turned l) ts r f s

-- from a fresh domain
pub faithful_run : (l : Limits) (ts : List Turn) → So (in_range l) → So (all (λ t. formed t.0) ts) → Faithful l (from_fresh l ts)
unfolding from_fresh
faithful_run l ts i f = faithful_goes l ts (run (fresh l) (begins nothing_yet)) f (faithful_fresh l i)

-- the four claims, of every faithful run
pub claimed : (l : Limits) (r : Run) → Faithful l r → Claims r l.tokens
unfolding step step_with answers act take_token share_token reading same code
claimed l r s = (
  holders_same h d g a,
  holder_alone h d g a,
  (tokens_counted h d g a, omega (arith, tokens_counted h d g a, g.tokens_are.counted, ap (λ (x : Limits). x.tokens) s.limits)),
  (λ p u k room on r.
      asked_told h d g a (hears p (reads (TGrq u k))) p u k room grabs refl TGcf (λ n s. refl)
      (grab (tokens_full d) (state d.tokens k)) (grab_full (tokens_full d) (state d.tokens k)) on (ltb 15 p || not (has d.links p)) r ∙ first_limit k),
  (λ p u k room on r.
      asked_told h d g a (hears p (reads (TIrq u k))) p u k room inhibits refl TIcf (λ n s. refl)
      (inhibit (tokens_full d) (state d.tokens k)) (inhibit_full (tokens_full d) (state d.tokens k)) on (ltb 15 p || not (has d.links p)) r ∙ first_limit k),
)
  where
    d : Domain
    d = now r

    h : History
    h = past r

    g : Sound d
    g = good_sound d s.good

    a : Agrees h d.users d.tokens
    a = s.agrees

    -- the limit is still that of the start
    first_limit : (k : ℕ) → (not (busy h k) && leb d.limits.tokens (count h)) ≡ (not (busy h k) && leb l.tokens (count h))
    first_limit k = ap (λ (x : Limits). not (busy h k) && leb x.tokens (count h)) s.limits

-- of every run of formed events from a fresh domain
pub demand : Demand3
demand l ts i f = claimed l (from_fresh l ts) (faithful_run l ts i f)
