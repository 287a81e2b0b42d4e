-- The named view and the table say the same: a message is its number, values and list, both ways; what is read has a name; what is sent is
-- heard, and the reverse; the ranges of a message's values; its size in octets. Assumes nothing.
use mathlib.Core.Path.{◌≡◌, refl, sym, ap, ◌∙◌, subst}
use mathlib.Core.Bool.{Bool, true, false, ◌&&◌}
use mathlib.Core.List.{List, [], ◌∷◌, ◌++◌, append-nil}
use mathlib.Core.Option.{Option, none, some}
use Prim.Native.Nat.{ℕ, zero, suc, ◌+◌, ◌*◌, ◌%◌, ◌^◌, ◌<◌, ◌≤◌}
use native.Mathlib.Omega.{arith}
use lib.ListN.{length, get_or, length-append}
use lib.Dec.{leb, ltb}
use borrow.Author.Tests.{ltb-true, leb-true, eqb-true, lt-ltb, le-leb}
use Rattle.codec_octets.specs.Octets.{Bytes, Item, an_octet, an_id, a_number, fits_item, fits_items, Tail, nothing, list, fits_tail, octets_of, length_octets, size, write_item, write_items, write_tail}
use Rattle.codec_table.specs.Limits.{list_limit, string_limit, message_limit}
use Rattle.codec_table.specs.Messages.{Field, code, item, Way, down, Row, plain, optional, uncovered, unknown, entry, row}
use Rattle.codec_table.specs.Codec.{fits_field, fits_fields, Msg, chosen, fits_row, octets_of_msg, Outcome, ok, refuse, sized, decode}
use Rattle.codec_table.specs.Named.{Message, EDrq, DPum, RJum, AUrq, AUcf, DUrq, DUin, CJrq, CJcf, CLrq, CCrq, CCcf, CDrq, CDin, CArq, CAin, CErq, CEin}
use Rattle.codec_table.specs.Named.{TGrq, TGcf, TIrq, TIcf, TVrq, TVin, TVrs, TVcf, TPrq, TPin, TRrq, TRcf, TTrq, TTcf}
use Rattle.codec_table.specs.Named.{msg, maybe, fields, Taking, Name, Names, end, ◌&◌, names, name_at, taking, whole, last, made, named, formed, octets, called, heard_as, heard}
use Rattle.codec_octets.proofs.OctetLaws.{size_holds, both, both_left, both_right}
use Rattle.codec_table.proofs.CodecLaws.{wrong, octets_only, ok_within, within_ok}
use Rattle.codec_table.proofs.Theorems.{written_is_read, read_is_written}

-- a message's number, values and list name it
pub named_fields : (m : Message) → named (fields m) ≡ some m
unfolding named fields row entry
named_fields (EDrq h i) = refl
named_fields (DPum r) = refl
named_fields (RJum d os) = refl
named_fields AUrq = refl
named_fields (AUcf r none) = refl
named_fields (AUcf r (some u)) = refl
named_fields (DUrq r us) = refl
named_fields (DUin r us) = refl
named_fields (CJrq u c) = refl
named_fields (CJcf r u a none) = refl
named_fields (CJcf r u a (some c)) = refl
named_fields (CLrq cs) = refl
named_fields (CCrq u) = refl
named_fields (CCcf r u none) = refl
named_fields (CCcf r u (some c)) = refl
named_fields (CDrq u c) = refl
named_fields (CDin c) = refl
named_fields (CArq u c us) = refl
named_fields (CAin u c us) = refl
named_fields (CErq u c us) = refl
named_fields (CEin c us) = refl
named_fields (TGrq u k) = refl
named_fields (TGcf r u k s) = refl
named_fields (TIrq u k) = refl
named_fields (TIcf r u k s) = refl
named_fields (TVrq u k v) = refl
named_fields (TVin u k v) = refl
named_fields (TVrs r v k) = refl
named_fields (TVcf r u k s) = refl
named_fields (TPrq u k) = refl
named_fields (TPin u k) = refl
named_fields (TRrq u k) = refl
named_fields (TRcf r u k s) = refl
named_fields (TTrq u k) = refl
named_fields (TTcf u k s) = refl

-- of every value that a name takes: what it makes is P of the values
abbrev Makes : {A : Type 0} (fs : List Field) → Taking fs A → (List ℕ → A → Type 0) → Type 0
Makes [] a P = P [] a
Makes (f ∷ fs) c P = (v : ℕ) → Makes fs (c v) (λ vs. P (v ∷ vs))

-- a row's name has the row's number, and the values and the list that it takes
abbrev Back : ℕ → (R : Row) → Name R → Type 0
Back n (plain fs nothing) c = Makes fs c (λ vs m. fields m ≡ msg n vs [])
Back n (plain fs (list i limit)) c = Makes fs c (λ vs m. (items : List ℕ) → fields (m items) ≡ msg n vs items)
Back n (optional fs f) c = Makes fs c (λ vs m. (v : Option ℕ) → fields (m v) ≡ msg n (vs ++ maybe v) [])
Back n uncovered c = Unit {0}
Back n unknown c = Unit {0}

abbrev Backs : ℕ → {Es : List (Way × Row)} → Names Es → Type 0
Backs n end = Unit {0}
Backs n (◌&◌ {E = E} c cs) = Back n E.1 c × Backs (suc n) cs

infixr 30 ◌and◌
abbrev ◌and◌ : {A B : Type 0} → A → B → A × B
◌and◌ a b = (a, b)

backs : Backs 0 names
unfolding fields
backs =
    tt and (λ h i. refl) and tt and tt and tt and tt and tt and tt and  -- 0 to 7
    (λ r. refl) and (λ d os. refl) and refl and (λ r u. refl) and (λ r us. refl) and (λ r us. refl) and  -- 8 to 13
    (λ u c. refl) and (λ r u a c. refl) and (λ cs. refl) and (λ u. refl) and (λ r u c. refl) and (λ u c. refl) and (λ c. refl) and  -- 14 to 20
    (λ u c us. refl) and (λ u c us. refl) and (λ u c us. refl) and (λ c us. refl) and tt and tt and tt and tt and  -- 21 to 28
    (λ u k. refl) and (λ r u k s. refl) and (λ u k. refl) and (λ r u k s. refl) and (λ u k v. refl) and (λ u k v. refl) and  -- 29 to 34
    (λ r v k. refl) and (λ r u k s. refl) and (λ u k. refl) and (λ u k. refl) and (λ u k. refl) and (λ r u k s. refl) and  -- 35 to 40
    (λ u k. refl) and (λ u k s. refl) and tt  -- 41, 42

back_at : (n : ℕ) {Es : List (Way × Row)} (cs : Names Es) → Backs n cs → (k : ℕ) → Back (n + k) (get_or Es k (down, unknown)).1 (name_at cs k)
back_at n end bs k = tt
back_at n (◌&◌ {E = E} c cs) bs zero = subst (λ k. Back k E.1 c) (omega arith) bs.0
back_at n (◌&◌ {Es = Es} c cs) bs (suc k) = subst (λ j. Back j (get_or Es k (down, unknown)).1 (name_at cs k)) (omega arith) (back_at (suc n) cs bs.1 k)

none_some : {A : Type 0} {a : A} → none ≡ some a → ⊥
none_some e = let z : ◌≡◌ {A = ℕ} 0 1 = cc in omega arith

-- a name that made a message took its values from the front
took : {A G : Type 0} (fs : List Field) (c : Taking fs A) (P : List ℕ → A → Type 0) → Makes fs c P → (vs : List ℕ) (k : A → List ℕ → Option Message) {m : Message}
    → taking fs c vs k ≡ some m → ((us rest : List ℕ) (a : A) → vs ≡ us ++ rest → P us a → k a rest ≡ some m → G) → G
took [] a P p vs k e g = g [] vs a refl p e
took (f ∷ fs) c P p [] k e g = absurd (none_some e)
took (f ∷ fs) c P p (v ∷ vs) k e g =
    took fs (c v) (λ us. P (v ∷ us)) (p v) vs k e λ us rest a same q then. g (v ∷ us) rest a (ap (λ l. v ∷ l) same) q then

module _ {G : Type 0} (a : Message) (rest items : List ℕ) {m : Message} where
  wholly : whole a rest items ≡ some m → (a ≡ m → rest ≡ [] → items ≡ [] → G) → G
  wholly e g = go rest items e g
    where
      go : (vs is : List ℕ) → whole a vs is ≡ some m → (a ≡ m → vs ≡ [] → is ≡ [] → G) → G
      go [] [] e g = g (cc) refl refl
      go [] (i ∷ is) e g = absurd (none_some e)
      go (v ∷ vs) is e g = absurd (none_some e)

made_back : (n : ℕ) (R : Row) (c : Name R) → Back n R c → (vs items : List ℕ) (m : Message) → made R c vs items ≡ some m → fields m ≡ msg n vs items
made_back n (plain fs nothing) c b vs items m e =
    took fs c (λ us a. fields a ≡ msg n us []) b vs (λ a rest. whole a rest items) e λ us rest a same p then.
    wholly a rest items then λ q r t. rw (← q, same, r, t, append-nil) p
made_back n (plain fs (list i limit)) c b vs items m e =
    took fs c (λ us a. (is : List ℕ) → fields (a is) ≡ msg n us is) b vs (λ a rest. whole (a items) rest []) e λ us rest a same p then.
    wholly (a items) rest [] then λ q r t. rw (← q, same, r, append-nil) (p items)
made_back n (optional fs f) c b vs items m e =
    took fs c (λ us a. (v : Option ℕ) → fields (a v) ≡ msg n (us ++ maybe v) []) b vs (λ a rest. last a rest items) e λ us rest a same p then. go a us p rest same then
  where
    go : (a : Option ℕ → Message) (us : List ℕ) → ((v : Option ℕ) → fields (a v) ≡ msg n (us ++ maybe v) [])
        → (rest : List ℕ) → vs ≡ us ++ rest → last a rest items ≡ some m → fields m ≡ msg n vs items
    go a us p [] same then = wholly (a none) [] items then λ q r t. rw (← q, same, t) (p none)
    go a us p (v ∷ rest) same then = wholly (a (some v)) rest items then λ q r t. rw (← q, same, r, t) (p (some v))
made_back n uncovered c b vs items m e = absurd (none_some e)
made_back n unknown c b vs items m e = absurd (none_some e)

-- a name is of its own number, values and list alone
pub fields_named : (x : Msg) (m : Message) → named x ≡ some m → fields m ≡ x
unfolding named row entry
fields_named x m e =
    let n : ℕ = x.number in
    let b : Back n (row n) (name_at names n) = subst (λ k. Back k (row n) (name_at names n)) (omega arith) (back_at 0 names backs n) in
    made_back n (row n) (name_at names n) b x.values x.items m e

-- values that fit the fields of a row are as many as its name takes
full : {A G : Type 0} (fs gs : List Field) (c : Taking fs A) (vs : List ℕ) (k : A → List ℕ → Option Message) → fits_fields (fs ++ gs) vs ≡ true
    → ((a : A) (rest : List ℕ) → fits_fields gs rest ≡ true → taking fs c vs k ≡ k a rest → G) → G
full [] gs c vs k h g = g c vs h refl
full (f ∷ fs) gs c [] k h g = absurd (let z : ◌≡◌ {A = ℕ} 0 1 = cc in omega arith)
full (f ∷ fs) gs c (v ∷ vs) k h g = full fs gs (c v) vs k (both_right (fits_field f v) (fits_fields (fs ++ gs) vs) h) g

whole_is : (m : Message) (vs items : List ℕ) → fits_fields [] vs ≡ true → fits_tail nothing items ≡ true → whole m vs items ≡ some m
whole_is m [] [] h t = refl
whole_is m [] (i ∷ is) h t = absurd (let z = eqb-true (suc (length is)) 0 t in omega arith)
whole_is m (v ∷ vs) items h t = absurd (let z : ◌≡◌ {A = ℕ} 0 1 = cc in omega arith)

chosen_last : (p : Bool) (fs : List Field) (f : Field) → chosen p fs f ≡ fs ++ chosen p [] f
chosen_last true fs f = refl
chosen_last false fs f = sym (append-nil fs)

last_is : {G : Type 0} (p : Bool) (f : Field) (c : Option ℕ → Message) (vs items : List ℕ) → fits_fields (chosen p [] f) vs ≡ true → fits_tail nothing items ≡ true
    → ((m : Message) → last c vs items ≡ some m → G) → G
last_is true f c [] items h t g = absurd (let z : ◌≡◌ {A = ℕ} 0 1 = cc in omega arith)
last_is true f c (v ∷ vs) items h t g = g (c (some v)) (whole_is (c (some v)) vs items (both_right (fits_field f v) (fits_fields [] vs) h) t)
last_is false f c [] items h t g = g (c none) (whole_is (c none) [] items h t)
last_is false f c (v ∷ vs) items h t g = absurd (let z : ◌≡◌ {A = ℕ} 0 1 = cc in omega arith)

fits_made : {G : Type 0} (R : Row) (c : Name R) (vs items : List ℕ) → fits_row R vs items ≡ true → ((m : Message) → made R c vs items ≡ some m → G) → G
fits_made (plain fs nothing) c vs items h g =
    full fs [] c vs (λ a rest. whole a rest items) (rw append-nil (both_left (fits_fields fs vs) (fits_tail nothing items) h)) λ a rest fits same.
    g a (same ∙ whole_is a rest items fits (both_right (fits_fields fs vs) (fits_tail nothing items) h))
fits_made (plain fs (list i limit)) c vs items h g =
    full fs [] c vs (λ a rest. whole (a items) rest []) (rw append-nil (both_left (fits_fields fs vs) (fits_tail (list i limit) items) h)) λ a rest fits same.
    g (a items) (same ∙ whole_is (a items) rest [] fits refl)
fits_made (optional fs f) c vs items h g =
    let p : Bool = ltb (length fs) (length vs) in
    let t = both_right (fits_fields (chosen p fs f) vs) (fits_tail nothing items) h in
    full fs (chosen p [] f) c vs (λ a rest. last a rest items)
    (subst (λ l. fits_fields l vs ≡ true) (chosen_last p fs f) (both_left (fits_fields (chosen p fs f) vs) (fits_tail nothing items) h)) λ a rest fits same.
    last_is p f a rest items fits t λ m is. g m (same ∙ is)
fits_made uncovered c vs items h g = absurd (let z : ◌≡◌ {A = ℕ} 0 1 = cc in omega arith)
fits_made unknown c vs items h g = absurd (let z : ◌≡◌ {A = ℕ} 0 1 = cc in omega arith)

-- what fits the table has a name
pub fits_named : {G : Type 0} (x : Msg) → fits_row (row x.number) x.values x.items ≡ true → ((m : Message) → named x ≡ some m → fields m ≡ x → G) → G
unfolding named row entry
fits_named x h g =
    fits_made (row x.number) (name_at names x.number) x.values x.items h λ m is. g m is (fields_named x m is)

-- reading by number and reading by name
called_as : (x : Msg) (o : Option Message) (m : Message) → named x ≡ o → called o ≡ ok m → x ≡ fields m
called_as x none m n e = absurd (wrong e)
called_as x (some a) m n e = let z : a ≡ m = cc in sym (fields_named x m (rw z at n))

heard_as_lem : (o : Outcome Msg) (m : Message) → heard_as o ≡ ok m → o ≡ ok (fields m)
heard_as_lem (ok x) m e = ap ok (called_as x (named x) m refl e)
heard_as_lem (refuse n) m e = absurd (wrong e)

pub heard_read : (os : List ℕ) (m : Message) → heard os ≡ ok m → decode os ≡ ok (fields m)
unfolding heard
heard_read os m e = heard_as_lem (decode os) m e

pub read_heard : (os : List ℕ) (m : Message) → decode os ≡ ok (fields m) → heard os ≡ ok m
unfolding heard
read_heard os m e = ap heard_as e ∙ ap called (named_fields m)

pub refused_heard : (os : List ℕ) (n : ℕ) → decode os ≡ refuse n → heard os ≡ refuse n
unfolding heard
refused_heard os n e = ap heard_as e

module _ (os : List ℕ) (y : Bytes os) where
  pub read_fits : (x : Msg) → decode os ≡ ok x → fits_row (row x.number) x.values x.items ≡ true
  read_fits x e = both_left (fits_row (row x.number) x.values x.items) (sized (octets_of_msg x)) (octets_only os x y e).0

  -- what is read is heard by its name
  pub read_named : {G : Type 0} (x : Msg) → decode os ≡ ok x → ((m : Message) → heard os ≡ ok m → fields m ≡ x → G) → G
  read_named x e g = fits_named x (read_fits x e) λ m is same. g m (read_heard os m (e ∙ ap ok (sym same))) same

  pub heard_formed : (m : Message) → heard os ≡ ok m → formed m ≡ true
  unfolding formed
  heard_formed m e = read_fits (fields m) (heard_read os m e)

  -- (B) what is heard is sent with just the octets that were read
  pub heard_sent : (m : Message) → heard os ≡ ok m → octets m ≡ ok os
  unfolding octets
  heard_sent m e = read_is_written (fields m) os y (heard_read os m e)

-- (A) what is sent is heard
pub sent_heard : (m : Message) (os : List ℕ) → octets m ≡ ok os → heard os ≡ ok m
unfolding octets
sent_heard m os e = read_heard os m (written_is_read (fields m) os e)

-- both: a message is sent as these octets exactly when they are heard as it
pub exactly_heard : (m : Message) (os : List ℕ) → Bytes os → (octets m ≡ ok os → heard os ≡ ok m) × (heard os ≡ ok m → octets m ≡ ok os)
exactly_heard m os y = (sent_heard m os, heard_sent os y m)

pub sent_is : {G : Type 0} (m : Message) (os : List ℕ) → octets m ≡ ok os → (formed m ≡ true → octets_of_msg (fields m) ≡ os → G) → G
unfolding octets formed
sent_is m os e g =
    let w = ok_within (fields m) os e in
    g (both_left (fits_row (row (fields m).number) (fields m).values (fields m).items) (sized (octets_of_msg (fields m))) w.0) w.1

-- the ranges of a message's values, by the row of the table
pub record Between (low high v : ℕ) : Type 0 where
  pub least : low ≤ v
  pub most : v ≤ high

abbrev pub InItem : Item → ℕ → Type 0
InItem an_octet v = Between 0 255 v
InItem (an_id low) v = Between low 65535 v
InItem a_number v = Between 0 4294967295 v

abbrev pub InField : Field → ℕ → Type 0
InField (code width most) v = Between 0 most v
InField (item i) v = InItem i v

abbrev pub Each : Item → List ℕ → Type 0
Each i [] = Unit {0}
Each i (v ∷ vs) = InItem i v × Each i vs

pub record Listed (i : Item) (limit : ℕ) (vs : List ℕ) : Type 0 where
  pub few : length vs ≤ limit
  pub each : Each i vs

abbrev InTail : Tail → List ℕ → Type 0
InTail nothing [] = Unit {0}
InTail nothing (v ∷ vs) = ⊥
InTail (list i limit) vs = Listed i limit vs

-- each value in the range of its field, and T of what follows
abbrev InFields : List Field → List ℕ → Type 0 → Type 0
InFields [] [] T = T
InFields [] (v ∷ vs) T = ⊥
InFields (f ∷ fs) [] T = ⊥
InFields (f ∷ fs) (v ∷ vs) T = InField f v × InFields fs vs T

abbrev InRow : Row → List ℕ → List ℕ → Type 0
InRow (plain fs t) vs items = InFields fs vs (InTail t items)
InRow (optional fs f) vs items = InFields (chosen (ltb (length fs) (length vs)) fs f) vs (InTail nothing items)
InRow uncovered vs items = ⊥
InRow unknown vs items = ⊥

-- two ways to say the same; of a test, that it holds
record Same (A B : Type 0) : Type 0 where
  to : A → B
  from : B → A

itself : {A : Type 0} → Same A A
itself = record { to = λ a. a; from = λ a. a }

holds : Same (◌≡◌ {A = Bool} true true) (Unit {0})
holds = record { to = λ e. tt; from = λ u. refl }

never : Same (◌≡◌ {A = Bool} false true) ⊥
never = record { to = λ e. absurd (let z : ◌≡◌ {A = ℕ} 0 1 = cc in omega arith); from = λ e. absurd e }

same_both : (s t : Bool) {P Q : Type 0} → Same (s ≡ true) P → Same (t ≡ true) Q → Same (s && t ≡ true) (P × Q)
same_both s t p q = record { to = λ e. (p.to (both_left s t e), q.to (both_right s t e)); from = λ r. both (p.from r.0) (q.from r.1) }

same_more : (s t u : Bool) {P Q : Type 0} → Same (s ≡ true) P → Same (t && u ≡ true) Q → Same ((s && t) && u ≡ true) (P × Q)
same_more true t u p q = same_both true (t && u) p q
same_more false t u p q = same_both false (t && u) p q

same_most : (most v : ℕ) → Same (leb v most ≡ true) (Between 0 most v)
same_most most v = record { to = λ e. record { least = omega arith; most = leb-true v most e }; from = λ r. le-leb v most r.most }

same_below : (most v : ℕ) → Same (ltb v (suc most) ≡ true) (Between 0 most v)
same_below most v =
    record {
      to = λ e. record { least = omega arith; most = omega (arith, ltb-true v (suc most) e) };
      from = λ r. lt-ltb v (suc most) (omega arith);
    }

same_item : (i : Item) (v : ℕ) → Same (fits_item i v ≡ true) (InItem i v)
same_item an_octet v = same_below 255 v
same_item (an_id low) v =
    record {
      to = λ e. record { least = leb-true low v (both_left (leb low v) (leb v 65535) e); most = leb-true v 65535 (both_right (leb low v) (leb v 65535) e) };
      from = λ r. both (le-leb low v r.least) (le-leb v 65535 r.most);
    }
same_item a_number v = same_below 4294967295 v

same_field : (f : Field) (v : ℕ) → Same (fits_field f v ≡ true) (InField f v)
same_field (code width most) v = same_most most v
same_field (item i) v = same_item i v

same_each : (i : Item) (vs : List ℕ) → Same (fits_items i vs ≡ true) (Each i vs)
same_each i [] = holds
same_each i (v ∷ vs) = same_both (fits_item i v) (fits_items i vs) (same_item i v) (same_each i vs)

same_tail : (t : Tail) (vs : List ℕ) → Same (fits_tail t vs ≡ true) (InTail t vs)
same_tail nothing [] = holds
same_tail nothing (v ∷ vs) = record { to = λ e. absurd (let z = eqb-true (suc (length vs)) 0 e in omega arith); from = λ e. absurd e }
same_tail (list i limit) vs =
    record {
      to = λ e. record {
        few = leb-true (length vs) limit (both_left (leb (length vs) limit) (fits_items i vs) e);
        each = (same_each i vs).to (both_right (leb (length vs) limit) (fits_items i vs) e);
      };
      from = λ r. both (le-leb (length vs) limit r.few) ((same_each i vs).from r.each);
    }

same_fields : (fs : List Field) (vs : List ℕ) (t : Bool) {T : Type 0} → Same (t ≡ true) T → Same (fits_fields fs vs && t ≡ true) (InFields fs vs T)
same_fields [] [] t s = s
same_fields [] (v ∷ vs) t s = never
same_fields (f ∷ fs) [] t s = never
same_fields (f ∷ fs) (v ∷ vs) t s = same_more (fits_field f v) (fits_fields fs vs) t (same_field f v) (same_fields fs vs t s)

same_row : (R : Row) (vs items : List ℕ) → Same (fits_row R vs items ≡ true) (InRow R vs items)
same_row (plain fs t) vs items = same_fields fs vs (fits_tail t items) (same_tail t items)
same_row (optional fs f) vs items = same_fields (chosen (ltb (length fs) (length vs)) fs f) vs (fits_tail nothing items) (same_tail nothing items)
same_row uncovered vs items = never
same_row unknown vs items = never

-- the same, read off by name
abbrev pub User : ℕ → Type 0
User u = Between 1001 65535 u

abbrev pub Channel : ℕ → Type 0
Channel c = Between 0 65535 c

abbrev pub Token : ℕ → Type 0
Token k = Between 1 65535 k

abbrev pub Users : List ℕ → Type 0
Users us = Listed (an_id 1001) list_limit us

abbrev pub Channels : List ℕ → Type 0
Channels cs = Listed (an_id 0) list_limit cs

abbrev pub Present : (ℕ → Type 0) → Option ℕ → Type 0
Present P none = Unit {0}
Present P (some v) = P v

abbrev pub Ranges : Message → Type 0
Ranges (EDrq height interval) = Between 0 4294967295 height × Between 0 4294967295 interval
Ranges (DPum reason) = Between 0 4 reason
Ranges (RJum diagnostic octets) = Between 0 13 diagnostic × Listed an_octet string_limit octets
Ranges AUrq = Unit {0}
Ranges (AUcf result user) = Between 0 15 result × Present User user
Ranges (DUrq reason users) = Between 0 4 reason × Users users
Ranges (DUin reason users) = Between 0 4 reason × Users users
Ranges (CJrq user channel) = User user × Channel channel
Ranges (CJcf result user asked channel) = Between 0 15 result × User user × Channel asked × Present Channel channel
Ranges (CLrq channels) = Channels channels
Ranges (CCrq user) = User user
Ranges (CCcf result user channel) = Between 0 15 result × User user × Present User channel
Ranges (CDrq user channel) = User user × User channel
Ranges (CDin channel) = User channel
Ranges (CArq manager channel users) = User manager × User channel × Users users
Ranges (CAin manager channel users) = User manager × User channel × Users users
Ranges (CErq manager channel users) = User manager × User channel × Users users
Ranges (CEin channel users) = User channel × Users users
Ranges (TGrq user token) = User user × Token token
Ranges (TGcf result user token status) = Between 0 15 result × User user × Token token × Between 0 7 status
Ranges (TIrq user token) = User user × Token token
Ranges (TIcf result user token status) = Between 0 15 result × User user × Token token × Between 0 7 status
Ranges (TVrq giver token recipient) = User giver × Token token × User recipient
Ranges (TVin giver token recipient) = User giver × Token token × User recipient
Ranges (TVrs result recipient token) = Between 0 15 result × User recipient × Token token
Ranges (TVcf result user token status) = Between 0 15 result × User user × Token token × Between 0 7 status
Ranges (TPrq user token) = User user × Token token
Ranges (TPin user token) = User user × Token token
Ranges (TRrq user token) = User user × Token token
Ranges (TRcf result user token status) = Between 0 15 result × User user × Token token × Between 0 7 status
Ranges (TTrq user token) = User user × Token token
Ranges (TTcf user token status) = User user × Token token × Between 0 7 status

-- nested pairs, laid flat
one : {A : Type 0} → Same (A × Unit {0}) A
one = record { to = λ r. r.0; from = λ a. (a, tt) }

two : {A B : Type 0} → Same (A × (B × Unit {0})) (A × B)
two = record { to = λ r. (r.0, r.1.0); from = λ r. (r.0, (r.1, tt)) }

three : {A B C : Type 0} → Same (A × (B × C)) (A × B × C)
three = record { to = λ r. (r.0, r.1.0, r.1.1); from = λ r. (r.0, (r.1, r.2)) }

three_end : {A B C : Type 0} → Same (A × (B × (C × Unit {0}))) (A × B × C)
three_end = record { to = λ r. (r.0, r.1.0, r.1.1.0); from = λ r. (r.0, (r.1, (r.2, tt))) }

four : {A B C D : Type 0} → Same (A × (B × (C × D))) (A × B × C × D)
four = record { to = λ r. (r.0, r.1.0, r.1.1.0, r.1.1.1); from = λ r. (r.0, (r.1, (r.2, r.3))) }

four_end : {A B C D : Type 0} → Same (A × (B × (C × (D × Unit {0})))) (A × B × C × D)
four_end = record { to = λ r. (r.0, r.1.0, r.1.1.0, r.1.1.1.0); from = λ r. (r.0, (r.1, (r.2, (r.3, tt)))) }

same_ranges : (m : Message) → Same (InRow (row (fields m).number) (fields m).values (fields m).items) (Ranges m)
unfolding fields row entry
same_ranges (EDrq h i) = two
same_ranges (DPum r) = one
same_ranges (RJum d os) = itself
same_ranges AUrq = itself
same_ranges (AUcf r none) = itself
same_ranges (AUcf r (some u)) = two
same_ranges (DUrq r us) = itself
same_ranges (DUin r us) = itself
same_ranges (CJrq u c) = two
same_ranges (CJcf r u a none) = four
same_ranges (CJcf r u a (some c)) = four_end
same_ranges (CLrq cs) = itself
same_ranges (CCrq u) = one
same_ranges (CCcf r u none) = three
same_ranges (CCcf r u (some c)) = three_end
same_ranges (CDrq u c) = two
same_ranges (CDin c) = one
same_ranges (CArq u c us) = three
same_ranges (CAin u c us) = three
same_ranges (CErq u c us) = three
same_ranges (CEin c us) = itself
same_ranges (TGrq u k) = two
same_ranges (TGcf r u k s) = four_end
same_ranges (TIrq u k) = two
same_ranges (TIcf r u k s) = four_end
same_ranges (TVrq u k v) = three_end
same_ranges (TVin u k v) = three_end
same_ranges (TVrs r v k) = three_end
same_ranges (TVcf r u k s) = four_end
same_ranges (TPrq u k) = two
same_ranges (TPin u k) = two
same_ranges (TRrq u k) = two
same_ranges (TRcf r u k s) = four_end
same_ranges (TTrq u k) = two
same_ranges (TTcf u k s) = three_end

pub ranges : (m : Message) → formed m ≡ true → Ranges m
unfolding formed
ranges m h = (same_ranges m).to ((same_row (row (fields m).number) (fields m).values (fields m).items).to h)

pub in_ranges : (m : Message) → Ranges m → formed m ≡ true
unfolding formed
in_ranges m r = (same_row (row (fields m).number) (fields m).values (fields m).items).from ((same_ranges m).from r)

-- the octets that a message takes: 6 bits of number, then its fields; ids, lengths and lists start on an octet
abbrev pub size_of_ids : List ℕ → ℕ
size_of_ids vs = length (length_octets (length vs)) + 2 * length vs

unfoldable pub size_of : Message → ℕ
size_of (EDrq height interval) = 3 + size height + size interval
size_of (DPum reason) = 2
size_of (RJum diagnostic octets) = 2 + length (length_octets (length octets)) + length octets
size_of AUrq = 1
size_of (AUcf result user) = 2 + 2 * length (maybe user)
size_of (DUrq reason users) = 2 + size_of_ids users
size_of (DUin reason users) = 2 + size_of_ids users
size_of (CJrq user channel) = 5
size_of (CJcf result user asked channel) = 6 + 2 * length (maybe channel)
size_of (CLrq channels) = 1 + size_of_ids channels
size_of (CCrq user) = 3
size_of (CCcf result user channel) = 4 + 2 * length (maybe channel)
size_of (CDrq user channel) = 5
size_of (CDin channel) = 3
size_of (CArq manager channel users) = 5 + size_of_ids users
size_of (CAin manager channel users) = 5 + size_of_ids users
size_of (CErq manager channel users) = 5 + size_of_ids users
size_of (CEin channel users) = 3 + size_of_ids users
size_of (TGrq user token) = 5
size_of (TGcf result user token status) = 7
size_of (TIrq user token) = 5
size_of (TIcf result user token status) = 7
size_of (TVrq giver token recipient) = 7
size_of (TVin giver token recipient) = 7
size_of (TVrs result recipient token) = 6
size_of (TVcf result user token status) = 7
size_of (TPrq user token) = 5
size_of (TPin user token) = 5
size_of (TRrq user token) = 5
size_of (TRcf result user token status) = 7
size_of (TTrq user token) = 5
size_of (TTcf user token status) = 6

ids_size : (low : ℕ) (vs : List ℕ) → length (write_items (an_id low) vs) ≡ 2 * length vs
ids_size low [] = refl
ids_size low (v ∷ vs) = omega (arith, ids_size low vs)

octets_size : (vs : List ℕ) → length (write_items an_octet vs) ≡ length vs
octets_size [] = refl
octets_size (v ∷ vs) = ap suc (octets_size vs)

list_size : (low limit : ℕ) (vs : List ℕ) → length (write_tail (list (an_id low) limit) vs) ≡ size_of_ids vs
list_size low limit vs = length-append (length_octets (length vs)) (write_items (an_id low) vs) ∙ ap (λ n. length (length_octets (length vs)) + n) (ids_size low vs)

pub short_length : (n : ℕ) → n < 128 → length (length_octets n) ≡ 1
short_length n h = rw (lt-ltb n 128 h)

digits_size : (k v : ℕ) → length (octets_of k v) ≡ k
digits_size zero v = refl
digits_size (suc k) v = ap suc (digits_size k (v % 256 ^ k))

number_size : (v : ℕ) → Between 0 4294967295 v → length (write_item a_number v) ≡ 1 + size v
number_size v b =
    let few : size v ≤ 4 = (size_holds v (omega arith)).2 in
    length-append (length_octets (size v)) (octets_of (size v) v) ∙ omega (arith, short_length (size v) (omega arith), digits_size (size v) v)

sizes : (m : Message) → formed m ≡ true → length (octets_of_msg (fields m)) ≡ size_of m
unfolding octets_of_msg row entry fields size_of
sizes (EDrq h i) f =
    let r = ranges (EDrq h i) f in
    ap suc (length-append (write_item a_number h) (write_item a_number i ++ []))
    ∙ rw (append-nil, number_size h r.0, number_size i r.1) (omega arith)
sizes (DPum r) f = refl
sizes (RJum d os) f = simp (length-append, octets_size) (omega arith)
sizes AUrq f = refl
sizes (AUcf r none) f = refl
sizes (AUcf r (some u)) f = refl
sizes (DUrq r us) f = omega (arith, list_size 1001 list_limit us)
sizes (DUin r us) f = omega (arith, list_size 1001 list_limit us)
sizes (CJrq u c) f = refl
sizes (CJcf r u a none) f = refl
sizes (CJcf r u a (some c)) f = refl
sizes (CLrq cs) f = omega (arith, list_size 0 list_limit cs)
sizes (CCrq u) f = refl
sizes (CCcf r u none) f = refl
sizes (CCcf r u (some c)) f = refl
sizes (CDrq u c) f = refl
sizes (CDin c) f = refl
sizes (CArq u c us) f = omega (arith, list_size 1001 list_limit us)
sizes (CAin u c us) f = omega (arith, list_size 1001 list_limit us)
sizes (CErq u c us) f = omega (arith, list_size 1001 list_limit us)
sizes (CEin c us) f = omega (arith, list_size 1001 list_limit us)
sizes (TGrq u k) f = refl
sizes (TGcf r u k s) f = refl
sizes (TIrq u k) f = refl
sizes (TIcf r u k s) f = refl
sizes (TVrq u k v) f = refl
sizes (TVin u k v) f = refl
sizes (TVrs r v k) f = refl
sizes (TVcf r u k s) f = refl
sizes (TPrq u k) f = refl
sizes (TPin u k) f = refl
sizes (TRrq u k) f = refl
sizes (TRcf r u k s) f = refl
sizes (TTrq u k) f = refl
sizes (TTcf u k s) f = refl

begun : (x : Msg) → 0 < length (octets_of_msg x)
unfolding octets_of_msg
begun x = omega arith

-- what is formed and takes no more octets than a message may is sent
pub formed_sent : (m : Message) → formed m ≡ true → size_of m ≤ message_limit → octets m ≡ ok (octets_of_msg (fields m))
unfolding octets formed
formed_sent m f few =
    let n : ℕ = length (octets_of_msg (fields m)) in
    within_ok (fields m) (both f (both (lt-ltb 0 n (begun (fields m))) (le-leb n message_limit (omega (arith, sizes m f)))))
