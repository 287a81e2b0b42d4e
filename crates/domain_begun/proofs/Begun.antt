-- Demand 3 from an image: what the image says agrees with the tables that say the same, and so the four claims hold of every run from there. A fresh domain is the
-- case of an image that says nothing. Assumes nothing.
use Rattle.std.specs.Prelude.{if◌then◌else◌}
use mathlib.Core.Path.{◌≡◌, refl, sym, ap, ap₂, ◌∙◌}
use mathlib.Core.Bool.{Bool, true, false}
use Prim.Native.Nat.{ℕ}
use lib.Dec.{eqb}
use borrow.Author.Tests.{ne_eqb}
use Rattle.cols_spec.specs.Places.{Place, At, Nowhere, find}
use Rattle.cols_spec.specs.Sets.{has, member}
use Rattle.cols_spec.proofs.Rows.{At≢Nowhere, same_place}
use Rattle.domain.specs.declared.Limits.{Limits}
use Rattle.domain.specs.declared.token.Holding.{Holding}
use Rattle.domain.specs.declared.token.Holding.TheVariants.{Free, Grabbed, Inhibited, Giving, Given}
use Rattle.domain.specs.Tables.{Domain, name, state, fresh, seen}
use Rattle.domain.specs.History.{nothing_yet, begins, home, gain, open_offer, Gain, nothing, by_grab, by_inhibit}
use Rattle.domain.specs.Claims.{run, now, past, goes}
use Rattle.domain_laws.specs.Same.{home_of, among, ids_of, Standing, standing, token_at}
use Rattle.domain_laws.specs.View.{view, pick, or_nobody}
use Rattle.domain_laws.specs.Built.{built}
use Rattle.domain_begun.specs.Begun.{gained, awaits, chaired, invited, listens, begun_by, from_image, Demand3FromImage, Demand3FromTables}
use Rattle.domain.proofs.Opened.{opened}
use Rattle.domain.proofs.invariant.Sound.{Seated, Held, Sound}
use Rattle.domain.proofs.invariant.GoodIsSound.{good_sound}
use Rattle.domain.proofs.invariant.Held.{state_held}
use Rattle.domain.proofs.holders.Known.{seated_at}
use Rattle.domain.proofs.holders.Heard.{Mark, mark, flat}
use Rattle.domain.proofs.holders.Agrees.{Agrees, nobody, stand}
use Rattle.domain.proofs.holders.Demand.{faithful_goes, claimed}
use Rattle.domain_laws.proofs.same.Twins.{ids_has}
use Rattle.domain_laws.proofs.same.Views.{users_picked, tokens_picked}
use Rattle.domain_laws.proofs.restored.Taken.{taken}

-- no gain that an image counts is by an offer
flat_if : (b : Bool) (g : Gain) → flat g ≡ g → flat (if b then g else nothing) ≡ (if b then g else nothing)
unfolding flat
flat_if true g e = e
flat_if false g e = refl

-- the same of every place, and of no place
by_place : {A : Type 0} {z : A} {f : ℕ → A} (w : Place) → ((i : ℕ) → z ≡ f i) → z ≡ seen w z f
by_place (At i) h = h i
by_place Nowhere h = refl

-- the mark of one who holds as g says where `a` says so, and is offered where `b` says so
marked : (g : Gain) → flat g ≡ g → (w : Place) (a b : ℕ → Bool) → ◌≡◌ {A = Mark} (flat (if seen w false a then g else nothing), seen w false b) (seen w nobody (λ i. (if a i then g else nothing, b i)))
unfolding flat
marked g e (At i) a b = ap (λ (x : Gain). (x, b i)) (flat_if (a i) g e)
marked g e Nowhere a b = refl

module _ (d : Domain) (s : Sound d) where
  -- whether a user is the one at a place
  by_name : (g u : ℕ) → Seated d.users g → (w : Place) → find d.users.ids u ≡ w → eqb u (name d.users g) ≡ seen w false (eqb g)
  by_name g u h (At i) e = sym (same_place d.users.ids (name d.users g) u g i (seated_at d s g h) e)
  by_name g u h Nowhere e = ne_eqb u (name d.users g) (λ q. At≢Nowhere (sym e ∙ ap (find d.users.ids) q ∙ seated_at d s g h))

  by_mask : (m u : ℕ) (w : Place) → find d.users.ids u ≡ w → member u (ids_of d.users m) ≡ seen w false (has m)
  unfolding among
  by_mask m u w e = ids_has d.users m u ∙ ap (λ (x : Place). seen x false (has m)) e

  -- how a user stands, by ids and by places
  stands : (h : Holding) → Held d.users h → (u : ℕ) (w : Place) → find d.users.ids u ≡ w
      → ◌≡◌ {A = Mark} (flat (gained (standing d.users h) u), awaits (standing d.users h) u) (seen w nobody (stand h))
  unfolding standing gained awaits stand flat
  stands Free x u w e = by_place w (λ i. refl)
  stands (Grabbed g) x u w e = rw (by_name g u x w e) (ap (λ (b : Bool). (flat (if seen w false (eqb g) then by_grab else nothing), b)) (by_place w (λ i. refl)) ∙ marked by_grab refl w (eqb g) (λ i. false))
  stands (Inhibited m) x u w e = rw (by_mask m u w e) (ap (λ (b : Bool). (flat (if seen w false (has m) then by_inhibit else nothing), b)) (by_place w (λ i. refl)) ∙ marked by_inhibit refl w (has m) (λ i. false))
  stands (Giving g r) x u w e = ap₂ (λ (a b : Bool). (flat (if a then by_grab else nothing), b)) (by_name g u x.0 w e) (by_name r u x.1 w e) ∙ marked by_grab refl w (eqb g) (eqb r)
  stands (Given r) x u w e = ap (λ (b : Bool). (nothing, b)) (by_name r u x w e) ∙ go w
    where
      go : (w : Place) → ◌≡◌ {A = Mark} (nothing, seen w false (eqb r)) (seen w nobody (stand (Given r)))
      go (At i) = refl
      go Nowhere = refl

  -- what the image says is what the tables say
  pub begun_agrees : Agrees (begins (begun_by (view d))) d.users d.tokens
  unfolding begun_by view home gain open_offer mark home_of token_at
  begun_agrees = record {
    homes = users_picked d;
    marks = λ k u. ap (λ (x : Standing). (flat (gained x u), awaits x u)) (tokens_picked d k)
        ∙ stands (state d.tokens k) (state_held d s k) u (find d.users.ids u) refl;
  }

-- the four claims, from any good tables that say what the image says
pub tables_claims : Demand3FromTables
unfolding now past view
tables_claims d v ts g q f =
    rw (← q) (claimed d.limits (goes (run d (begins (begun_by (view d)))) ts)
    (faithful_goes d.limits ts (run d (begins (begun_by (view d)))) f (record { good = g; agrees = begun_agrees d (good_sound d g); limits = refl })))

-- from every image that is taken
pub image_claims : Demand3FromImage
unfolding from_image
image_claims v ts t f = let r = taken.0 v t in tables_claims (built v) v ts r.0 r.1 f

-- the image of a fresh domain says nothing, so that a history with no image is the case of that one
pub fresh_begins : (l : Limits) → begun_by (view (fresh l)) ≡ nothing_yet
unfolding opened begun_by view nothing_yet pick or_nobody gained awaits chaired invited listens
fresh_begins l = refl
