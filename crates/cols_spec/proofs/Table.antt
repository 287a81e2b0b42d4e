-- A table that is in order, place by place, and the changes that keep it so: any table, any rule of its rows.
use Rattle.std.specs.Prelude.{if◌then◌else◌}
use mathlib.Core.Path.{◌≡◌, refl, sym, ◌∙◌, subst}
use mathlib.Core.Bool.{Bool, true, false}
use mathlib.Core.List.{List, map}
use mathlib.Core.Option.{Option, none, some}
use Prim.Native.Nat.{ℕ, suc, ◌≤◌, ◌<◌}
use native.Mathlib.Nat.{zero-add}
use native.Mathlib.Omega.{arith}
use lib.Dec.{eqb}
use lib.ListN.{length, get_or, set, length-set}
use lib.Seq.{set-get_or}
use borrow.Author.Tests.{eq-eqb, ne_eqb, eqb-true, eqb-false}
use Rattle.cols_spec.specs.Places.{At, spare, used, store, becomes, turns_to, sweep}
use Rattle.cols_spec.proofs.Rows.{first_holds, in_list, Apart, used_le, used_set, spare_there, at_set, swept_at, sweep_sizes}

module _ {A : Type 0} where
  -- n places, at most lim in use, no id twice, a free place blank, and each place in use by the rule P of its place, id and cell
  pub record Table (n lim : ℕ) (blank : A) (P : ℕ → ℕ → A → Type 0) (ids : List ℕ) (cells : List A) : Type 0 where
    pub ids_size : length ids ≡ n
    pub cells_size : length cells ≡ n
    pub apart : Apart ids
    pub counted : used ids ≤ lim
    pub free : (i : ℕ) → get_or ids i 0 ≡ 0 → get_or cells i blank ≡ blank
    pub rows : (i : ℕ) → 0 < get_or ids i 0 → P i (get_or ids i 0) (get_or cells i blank)

  module _ {n lim : ℕ} {blank : A} {P : ℕ → ℕ → A → Type 0} {ids : List ℕ} {cells : List A} (t : Table n lim blank P ids cells) (Q : ℕ → ℕ → A → Type 0) where
    -- the same table by another rule
    pub table_by : ((i : ℕ) → 0 < get_or ids i 0 → P i (get_or ids i 0) (get_or cells i blank) → Q i (get_or ids i 0) (get_or cells i blank)) → Table n lim blank Q ids cells
    table_by f = record { ids_size = t.ids_size; cells_size = t.cells_size; apart = t.apart; counted = t.counted; free = t.free; rows = λ i h. f i h (t.rows i h) }

    -- places changed or freed, and no new id
    pub table_less : (ids' : List ℕ) (cells' : List A) → length ids' ≡ n → length cells' ≡ n → ((i : ℕ) → 0 < get_or ids' i 0 → get_or ids' i 0 ≡ get_or ids i 0)
        → ((i : ℕ) → get_or ids' i 0 ≡ 0 → get_or cells' i blank ≡ blank) → ((i : ℕ) → 0 < get_or ids' i 0 → Q i (get_or ids i 0) (get_or cells' i blank))
        → Table n lim blank Q ids' cells'
    table_less ids' cells' s r same f q = record {
      ids_size = s;
      cells_size = r;
      apart = λ i j h e. t.apart i j (rw (same i h) at h) (sym (same i h) ∙ e ∙ same j (rw e at h));
      counted = let l : used ids' ≤ used ids = used_le ids' ids (s ∙ sym t.ids_size) (λ i h. rw (same i h) at h) in omega (arith, t.counted);
      free = f;
      rows = λ i h. rw (same i h) (q i h);
    }

    -- place j in use is written: it keeps its id, or is freed and blank
    module _ (j : ℕ) (h : 0 < get_or ids j 0)
        (others : (i : ℕ) → (i ≡ j → ⊥) → 0 < get_or ids i 0 → P i (get_or ids i 0) (get_or cells i blank) → Q i (get_or ids i 0) (get_or cells i blank)) where
      pub table_put : (x : ℕ) (c : A) → (0 < x → (x ≡ get_or ids j 0) × Q j (get_or ids j 0) c) → (x ≡ 0 → c ≡ blank) → Table n lim blank Q (set ids j x) (set cells j c)
      table_put x c q b = table_less (set ids j x) (set cells j c) (length-set ids j x ∙ t.ids_size) (length-set cells j c ∙ t.cells_size)
          (λ i. rw (at_set ids j i x 0 room) (same i (eqb i j) refl))
          (λ i. rw (at_set ids j i x 0 room, at_set cells j i c blank room') (still i (eqb i j)))
          (λ i. rw (at_set ids j i x 0 room, at_set cells j i c blank room') (each i (eqb i j) refl))
        where
          room : j < length ids
          room = in_list ids j h

          room' : j < length cells
          room' = rw (t.ids_size ∙ sym t.cells_size) at room

          same : (i : ℕ) (z : Bool) → eqb i j ≡ z → 0 < (if z then x else get_or ids i 0) → (if z then x else get_or ids i 0) ≡ get_or ids i 0
          same i true p k = rw (eqb-true i j p) (q k).0
          same i false p k = refl

          still : (i : ℕ) (z : Bool) → (if z then x else get_or ids i 0) ≡ 0 → (if z then c else get_or cells i blank) ≡ blank
          still i true e = b e
          still i false e = t.free i e

          each : (i : ℕ) (z : Bool) → eqb i j ≡ z → 0 < (if z then x else get_or ids i 0) → Q i (get_or ids i 0) (if z then c else get_or cells i blank)
          each i true p k = rw (eqb-true i j p) (q k).1
          each i false p k = others i (eqb-false i j p) k (t.rows i k)

      pub table_clear : Table n lim blank Q (set ids j 0) (set cells j blank)
      table_clear = table_put 0 blank (λ k. absurd (omega arith)) (λ e. refl)

      pub table_set : (c : A) → Q j (get_or ids j 0) c → Table n lim blank Q ids (set cells j c)
      table_set c q = subst (λ (l : List ℕ). Table n lim blank Q l (set cells j c)) (set-get_or ids j 0) (table_put (get_or ids j 0) c (λ k. (refl, q)) (λ e. absurd (omega arith)))

    -- a new id at the spare place
    module _ (few : used ids < lim) (fits : lim ≤ n) (k : ℕ) (c : A) (kz : 0 < k) where
      pub new_place : (j : ℕ) × (spare ids ≡ At j) × (get_or ids j 0 ≡ 0) × (j < length ids) × (j < length cells)
      unfolding spare
      new_place =
          let r = spare_there ids (let l : length ids ≡ n = t.ids_size in omega arith) in
          let b = first_holds ids 0 r.0 r.1 in
          (r.0, r.1, b.0, b.1, omega (arith, b.1, t.ids_size, t.cells_size))

      -- the other places stay
      pub add_keeps : (i : ℕ) → 0 < get_or ids i 0
          → (get_or (store ids (spare ids) k) i 0 ≡ get_or ids i 0) × (get_or (store cells (spare ids) c) i blank ≡ get_or cells i blank)
      unfolding store
      add_keeps i h = let r = new_place in
          let o : eqb i r.0 ≡ false = ne_eqb i r.0 (λ e. let g : get_or ids i 0 ≡ 0 = rw (sym e) at r.2 in omega arith) in
          rw r.1 (at_set ids r.0 i k 0 r.3 ∙ rw o, at_set cells r.0 i c blank r.4 ∙ rw o)

      -- the new one is there
      pub add_there : (j : ℕ) × (get_or (store ids (spare ids) k) j 0 ≡ k) × (get_or (store cells (spare ids) c) j blank ≡ c)
      unfolding store
      add_there = let r = new_place in
          (r.0, rw r.1 (at_set ids r.0 r.0 k 0 r.3 ∙ rw (eq-eqb r.0 r.0 refl)), rw r.1 (at_set cells r.0 r.0 c blank r.4 ∙ rw (eq-eqb r.0 r.0 refl)))

      pub table_add : ((i : ℕ) → get_or ids i 0 ≡ k → ⊥) → ((j : ℕ) → Q j k c)
          → ((i : ℕ) → 0 < get_or ids i 0 → P i (get_or ids i 0) (get_or cells i blank) → Q i (get_or ids i 0) (get_or cells i blank))
          → Table n lim blank Q (store ids (spare ids) k) (store cells (spare ids) c)
      unfolding store
      table_add away q f = rw new_place.1 (record {
        ids_size = length-set ids j k ∙ t.ids_size;
        cells_size = length-set cells j c ∙ t.cells_size;
        apart = λ i i'. rw (at_set ids j i k 0 room, at_set ids j i' k 0 room) (one i i' (eqb i j) refl (eqb i' j) refl);
        counted = let l : used (set ids j k) ≤ suc (used ids) = used_set ids j k in omega arith;
        free = λ i. rw (at_set ids j i k 0 room, at_set cells j i c blank room') (still i (eqb i j));
        rows = λ i. rw (at_set ids j i k 0 room, at_set cells j i c blank room') (each i (eqb i j));
      })
        where
          j : ℕ
          j = new_place.0

          room : j < length ids
          room = new_place.3

          room' : j < length cells
          room' = new_place.4

          one : (i i' : ℕ) (b : Bool) → eqb i j ≡ b → (b' : Bool) → eqb i' j ≡ b'
              → 0 < (if b then k else get_or ids i 0) → (if b then k else get_or ids i 0) ≡ (if b' then k else get_or ids i' 0) → i ≡ i'
          one i i' true p true p' h e = eqb-true i j p ∙ sym (eqb-true i' j p')
          one i i' true p false p' h e = absurd (away i' (sym e))
          one i i' false p true p' h e = absurd (away i e)
          one i i' false p false p' h e = t.apart i i' h e

          still : (i : ℕ) (b : Bool) → (if b then k else get_or ids i 0) ≡ 0 → (if b then c else get_or cells i blank) ≡ blank
          still i true e = absurd (omega arith)
          still i false e = t.free i e

          each : (i : ℕ) (b : Bool) → 0 < (if b then k else get_or ids i 0) → Q i (if b then k else get_or ids i 0) (if b then c else get_or cells i blank)
          each i true h = q i
          each i false h = f i h (t.rows i h)

    -- every place by its fate
    module _ (fate : ℕ → ℕ → A → Option A) where
      abbrev swept_ids : List ℕ
      swept_ids = map (λ r. r.0) (sweep blank fate 0 ids cells)

      abbrev swept_cells : List A
      swept_cells = map (λ r. r.1) (sweep blank fate 0 ids cells)

      pub sized : length ids ≡ length cells
      sized = t.ids_size ∙ sym t.cells_size

      pub sweep_free : (i : ℕ) → get_or ids i 0 ≡ 0 → (get_or swept_ids i 0 ≡ 0) × (get_or swept_cells i blank ≡ blank)
      unfolding becomes
      sweep_free i e = let r = swept_at blank fate 0 i ids cells sized in
          (r.0 ∙ rw e, r.1 ∙ rw e (t.free i e))

      pub sweep_used : (i : ℕ) → 0 < get_or ids i 0 → (o : Option A) → fate i (get_or ids i 0) (get_or cells i blank) ≡ o
          → (get_or swept_ids i 0 ≡ (turns_to blank (get_or ids i 0) o).0) × (get_or swept_cells i blank ≡ (turns_to blank (get_or ids i 0) o).1)
      unfolding becomes
      sweep_used i h o e = let r = swept_at blank fate 0 i ids cells sized in
          let z : eqb (get_or ids i 0) 0 ≡ false = ne_eqb (get_or ids i 0) 0 (λ q. omega arith) in
          (r.0 ∙ rw (z, zero-add i, e), r.1 ∙ rw (z, zero-add i, e))

      up : {x : ℕ} → eqb x 0 ≡ false → 0 < x
      up {x} p = let q : x ≡ 0 → ⊥ = eqb-false x 0 p in omega arith

      -- a place in use has the id that it had
      pub swept_same : (i : ℕ) → 0 < get_or swept_ids i 0 → get_or swept_ids i 0 ≡ get_or ids i 0
      unfolding turns_to
      swept_same i = same (eqb (get_or ids i 0) 0) refl (fate i (get_or ids i 0) (get_or cells i blank)) refl
        where
          same : (b : Bool) → eqb (get_or ids i 0) 0 ≡ b → (o : Option A) → fate i (get_or ids i 0) (get_or cells i blank) ≡ o
              → 0 < get_or swept_ids i 0 → get_or swept_ids i 0 ≡ get_or ids i 0
          same true p o e h = absurd (let g : get_or swept_ids i 0 ≡ 0 = (sweep_free i (eqb-true (get_or ids i 0) 0 p)).0 in omega arith)
          same false p none e h = absurd (let g : get_or swept_ids i 0 ≡ 0 = (sweep_used i (up p) none e).0 in omega arith)
          same false p (some c) e h = (sweep_used i (up p) (some c) e).0

      pub table_sweep : ((i : ℕ) → 0 < get_or ids i 0 → P i (get_or ids i 0) (get_or cells i blank)
          → (c : A) → fate i (get_or ids i 0) (get_or cells i blank) ≡ some c → Q i (get_or ids i 0) c)
          → Table n lim blank Q swept_ids swept_cells
      unfolding turns_to
      table_sweep f = table_less swept_ids swept_cells ((sweep_sizes blank fate 0 ids cells sized).0 ∙ t.ids_size) ((sweep_sizes blank fate 0 ids cells sized).1 ∙ t.ids_size)
          swept_same
          (λ i. still i (eqb (get_or ids i 0) 0) refl (fate i (get_or ids i 0) (get_or cells i blank)) refl)
          (λ i. each i (eqb (get_or ids i 0) 0) refl (fate i (get_or ids i 0) (get_or cells i blank)) refl)
        where
          still : (i : ℕ) (b : Bool) → eqb (get_or ids i 0) 0 ≡ b → (o : Option A) → fate i (get_or ids i 0) (get_or cells i blank) ≡ o
              → get_or swept_ids i 0 ≡ 0 → get_or swept_cells i blank ≡ blank
          still i true p o e h = (sweep_free i (eqb-true (get_or ids i 0) 0 p)).1
          still i false p none e h = (sweep_used i (up p) none e).1
          still i false p (some c) e h = absurd (let g : get_or swept_ids i 0 ≡ get_or ids i 0 = (sweep_used i (up p) (some c) e).0 in let k : 0 < get_or ids i 0 = up p in omega arith)

          each : (i : ℕ) (b : Bool) → eqb (get_or ids i 0) 0 ≡ b → (o : Option A) → fate i (get_or ids i 0) (get_or cells i blank) ≡ o
              → 0 < get_or swept_ids i 0 → Q i (get_or ids i 0) (get_or swept_cells i blank)
          each i true p o e h = absurd (let g : get_or swept_ids i 0 ≡ 0 = (sweep_free i (eqb-true (get_or ids i 0) 0 p)).0 in omega arith)
          each i false p none e h = absurd (let g : get_or swept_ids i 0 ≡ 0 = (sweep_used i (up p) none e).0 in omega arith)
          each i false p (some c) e h = rw (sweep_used i (up p) (some c) e).1 (f i (up p) (t.rows i (up p)) c e)
