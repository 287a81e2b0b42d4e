-- Where an id is found and what it holds, in any table: after one has come, after one has changed or gone, after a sweep.
use Rattle.std.specs.Prelude.{if◌then◌else◌}
use mathlib.Core.Path.{◌≡◌, refl, sym, ap, ◌∙◌}
use mathlib.Core.Bool.{Bool, true, false}
use mathlib.Core.List.{List, map}
use mathlib.Core.Option.{Option, none, some}
use Prim.Native.Nat.{ℕ, ◌≤◌, ◌<◌}
use native.Mathlib.Omega.{arith}
use lib.Dec.{eqb}
use lib.ListN.{length, get_or, set}
use borrow.Author.Tests.{eq-eqb, ne_eqb, eqb-true, eqb-false}
use Rattle.cols_spec.specs.Places.{Place, At, Nowhere, find, spare, used, store, load, turns_to, sweep}
use Rattle.cols_spec.proofs.Digits.{eqb_sym}
use Rattle.cols_spec.proofs.Rows.{At≢Nowhere, same_place, find_holds, find_none, find_is, find_gone, at_set}
use Rattle.cols_spec.proofs.Table.{Table, new_place, add_keeps, table_add, table_clear, swept_same, sweep_used, table_sweep}

module _ {A : Type 0} {n lim : ℕ} {blank : A} {P : ℕ → ℕ → A → Type 0} {ids : List ℕ} {cells : List A} (t : Table n lim blank P ids cells) where
  abbrev NoRule : ℕ → ℕ → A → Type 0
  NoRule i x c = Unit {0}

  -- one comes
  module _ (few : used ids < lim) (fits : lim ≤ n) (k : ℕ) (c : A) (kz : 0 < k) (away : (i : ℕ) → get_or ids i 0 ≡ k → ⊥) where
    pub find_added : (x : ℕ) → find (store ids (spare ids) k) x ≡ (if eqb x k then spare ids else find ids x)
    unfolding store
    find_added x = go (eqb x k) refl (find ids x) refl
      where
        new : List ℕ
        new = store ids (spare ids) k

        after : Table n lim blank NoRule new (store cells (spare ids) c)
        after = table_add t NoRule few fits k c kz away (λ j. tt) (λ i h r. tt)

        j : ℕ
        j = (new_place t NoRule few fits k c kz).0

        spot : spare ids ≡ At j
        spot = (new_place t NoRule few fits k c kz).1

        at : (i : ℕ) → get_or new i 0 ≡ (if eqb i j then k else get_or ids i 0)
        at i = rw spot (at_set ids j i k 0 (new_place t NoRule few fits k c kz).3)

        other : (i : ℕ) → 0 < x → find ids x ≡ Nowhere → eqb x k ≡ false → (b : Bool) → (if b then k else get_or ids i 0) ≡ x → ⊥
        other i xz e q true g = eqb-false x k q (sym g)
        other i xz e q false g = find_none ids x e xz i g

        go : (b : Bool) → eqb x k ≡ b → (w : Place) → find ids x ≡ w → find new x ≡ (if b then spare ids else find ids x)
        go true q w e = find_is new after.apart x j (rw (eqb-true x k q) kz) (at j ∙ rw (eq-eqb j j refl) (sym (eqb-true x k q))) ∙ sym spot
        go false q (At i) e =
            let r = find_holds ids x i e in
            find_is new after.apart x i r.2 ((add_keeps t NoRule few fits k c kz i (rw r.0 r.2)).0 ∙ r.0) ∙ sym e
        go false q Nowhere e = find_gone new x (λ xz i g. other i xz e q (eqb i j) (sym (at i) ∙ g)) ∙ sym e

    pub load_added : (x : ℕ) → load (store cells (spare ids) c) (find (store ids (spare ids) k) x) blank ≡ (if eqb x k then c else load cells (find ids x) blank)
    unfolding store load
    load_added x = rw (find_added x) (go (eqb x k) (find ids x) refl)
      where
        r : (j : ℕ) × (spare ids ≡ At j) × (get_or ids j 0 ≡ 0) × (j < length ids) × (j < length cells)
        r = new_place t NoRule few fits k c kz

        go : (b : Bool) (w : Place) → find ids x ≡ w → load (store cells (spare ids) c) (if b then spare ids else find ids x) blank ≡ (if b then c else load cells (find ids x) blank)
        go true w e = rw r.1 (at_set cells r.0 r.0 c blank r.4 ∙ rw (eq-eqb r.0 r.0 refl))
        go false (At i) e = let f = find_holds ids x i e in rw e (add_keeps t NoRule few fits k c kz i (rw f.0 f.2)).1
        go false Nowhere e = rw e

  -- one changes, or goes
  module _ (k i : ℕ) (here : find ids k ≡ At i) where
    used_here : 0 < get_or ids i 0
    used_here = let r = find_holds ids k i here in rw r.0 r.2

    room : i < length cells
    room = omega (arith, (find_holds ids k i here).1, t.ids_size, t.cells_size)

    pub load_put : (c : A) (x : ℕ) → load (set cells i c) (find ids x) blank ≡ (if eqb x k then c else load cells (find ids x) blank)
    unfolding load
    load_put c x = go (find ids x) refl
      where
        go : (w : Place) → find ids x ≡ w → load (set cells i c) (find ids x) blank ≡ (if eqb x k then c else load cells (find ids x) blank)
        go (At j) e = rw e (at_set cells i j c blank room ∙ rw (eqb_sym j i ∙ same_place ids k x i j here e))
        go Nowhere e = rw (e, ne_eqb x k (λ q. At≢Nowhere (sym e ∙ ap (find ids) q ∙ here)))

    pub find_cleared : (x : ℕ) → find (set ids i 0) x ≡ (if eqb x k then Nowhere else find ids x)
    find_cleared x = go (eqb x k) refl (find ids x) refl
      where
        at : (m : ℕ) → get_or (set ids i 0) m 0 ≡ (if eqb m i then 0 else get_or ids m 0)
        at m = at_set ids i m 0 0 (find_holds ids k i here).1

        gone : 0 < x → ((m : ℕ) → (m ≡ i → ⊥) → get_or ids m 0 ≡ x → ⊥) → (m : ℕ) (b : Bool) → eqb m i ≡ b → (if b then 0 else get_or ids m 0) ≡ x → ⊥
        gone xz f m true q g = omega (arith, xz, g)
        gone xz f m false q g = f m (eqb-false m i q) g

        go : (b : Bool) → eqb x k ≡ b → (w : Place) → find ids x ≡ w → find (set ids i 0) x ≡ (if b then Nowhere else find ids x)
        go true q w e = find_gone (set ids i 0) x (λ xz m g.
            gone xz (λ n ne s. ne (sym (t.apart i n used_here ((find_holds ids k i here).0 ∙ sym (eqb-true x k q) ∙ sym s)))) m (eqb m i) refl (sym (at m) ∙ g))
        go false q (At j) e =
            let r = find_holds ids x j e in
            let ne : eqb j i ≡ false = eqb_sym j i ∙ same_place ids k x i j here e ∙ q in
            find_is (set ids i 0) (table_clear t NoRule i used_here (λ m n h p. tt)).apart x j r.2 (at j ∙ rw ne r.0) ∙ sym e
        go false q Nowhere e = find_gone (set ids i 0) x (λ xz m g. gone xz (λ n ne s. find_none ids x e xz n s) m (eqb m i) refl (sym (at m) ∙ g)) ∙ sym e

    pub load_cleared : (x : ℕ) → load (set cells i blank) (find (set ids i 0) x) blank ≡ (if eqb x k then blank else load cells (find ids x) blank)
    unfolding load
    load_cleared x = rw (find_cleared x) (go (eqb x k) refl)
      where
        go : (b : Bool) → eqb x k ≡ b → load (set cells i blank) (if b then Nowhere else find ids x) blank ≡ (if b then blank else load cells (find ids x) blank)
        go true q = refl
        go false q = load_put blank x ∙ rw q

  -- every place by its fate
  module _ (fate : ℕ → ℕ → A → Option A) (x : ℕ) where
    abbrev swept : List ℕ
    swept = map (λ r. r.0) (sweep blank fate 0 ids cells)

    pub find_still : find ids x ≡ Nowhere → find swept x ≡ Nowhere
    find_still e = find_gone swept x (λ xz j g. find_none ids x e xz j (sym (swept_same t NoRule fate j (rw g xz)) ∙ g))

    module _ (i : ℕ) (e : find ids x ≡ At i) where
      pub find_kept : (c : A) → fate i (get_or ids i 0) (get_or cells i blank) ≡ some c → find swept x ≡ At i
      unfolding turns_to
      find_kept c f =
          let r = find_holds ids x i e in
          find_is swept (table_sweep t NoRule fate (λ j h p y q. tt)).apart x i r.2 ((sweep_used t NoRule fate i (rw r.0 r.2) (some c) f).0 ∙ r.0)

      pub find_freed : fate i (get_or ids i 0) (get_or cells i blank) ≡ none → find swept x ≡ Nowhere
      unfolding turns_to
      find_freed f = find_gone swept x (λ xz j g.
          let r = find_holds ids x i e in
          let here : 0 < get_or ids i 0 = rw r.0 r.2 in
          let same : i ≡ j = t.apart i j here (r.0 ∙ sym g ∙ swept_same t NoRule fate j (rw g xz)) in
          let z : get_or swept i 0 ≡ 0 = (sweep_used t NoRule fate i here none f).0 in
          omega (arith, xz, g, z, ap (λ (m : ℕ). get_or swept m 0) same))

      pub load_swept : load (map (λ r. r.1) (sweep blank fate 0 ids cells)) (find swept x) blank ≡ (turns_to blank (get_or ids i 0) (fate i (get_or ids i 0) (get_or cells i blank))).1
      unfolding load turns_to
      load_swept = go (fate i (get_or ids i 0) (get_or cells i blank)) refl
        where
          r : (get_or ids i 0 ≡ x) × (i < length ids) × (0 < x)
          r = find_holds ids x i e

          go : (o : Option A) → fate i (get_or ids i 0) (get_or cells i blank) ≡ o
              → load (map (λ r. r.1) (sweep blank fate 0 ids cells)) (find swept x) blank ≡ (turns_to blank (get_or ids i 0) o).1
          go none f = rw (find_freed f)
          go (some c) f = rw (find_kept c f) (sweep_used t NoRule fate i (rw r.0 r.2) (some c) f).1
