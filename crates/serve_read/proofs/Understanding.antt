-- What is understood of octets, test by test, and that a request as the code holds it asks for what the message does. Assumes nothing.
use Rattle.std.specs.Prelude.{if◌then◌else◌, Ok, Err}
use mathlib.Core.Path.{◌≡◌, refl, sym, ap, ap₂, ◌∙◌, subst}
use mathlib.Core.Bool.{Bool, true, false, not, cond, ◌||◌, false≢true}
use mathlib.Core.List.{List, [], ◌∷◌}
use Prim.Native.Nat.{ℕ, ◌-◌, ◌%◌, ◌≤◌, ◌<◌}
use native.Mathlib.Omega.{arith}
use borrow.Author.Tests.{lt-ltb, le-ltb, le-leb, lt-leb, ltb-true, ltb-false, leb-true, eqb-true, ne_eqb}
use lib.Dec.{eqb, leb, ltb}
use lib.ListN.{length, get_or, take, replicate, get_or-eq_default}
use lib.Seq.{take_at}
use Rattle.codec_octets.specs.Octets.{Bytes}
use Rattle.codec_octets.proofs.OctetLaws.{both_left, both_right}
use Rattle.codec_table.specs.Messages.{Way, down, up, served, goes_up, way_served, unknown, table, entry, may_go_up, is_served}
use Rattle.codec_table.specs.Columns.{packed, packed_at, tail_at}
use Rattle.codec_table.specs.Codec.{Msg, Outcome, ok, refuse, ending, read_msg, sized, decode}
use Rattle.codec_table.specs.Named.{Message, EDrq, DPum, RJum, AUrq, AUcf, DUrq, DUin, CJrq, CJcf, CLrq, CCrq, CCcf, CDrq, CDin, CArq, CAin, CErq, CEin}
use Rattle.codec_table.specs.Named.{TGrq, TGcf, TIrq, TIcf, TVrq, TVin, TVrs, TVcf, TPrq, TPin, TRrq, TRcf, TTrq, TTcf}
use Rattle.codec_table.specs.Named.{fields, formed, heard}
use Rattle.codec_table.proofs.CodecLaws.{taken}
use Rattle.codec_table.proofs.NamedLaws.{ranges, heard_read as heard_decoded, read_named, heard_formed, refused_heard}
use Rattle.codec_table.proofs.Refusals.{refusal, refusals, number_read}
use Rattle.codec_octets.specs.declared.refusal.Refusal.{Refusal}
use Rattle.codec_octets.specs.Refusals.{refusal_number}
use Rattle.codec_read.specs.Held.{padded, is_string, items_held, count_of, held, decoded, head_of, has_ids, kept, Reads}
use Rattle.codec_read.specs.declared.Decoded.{Decoded}
use Rattle.codec_read.specs.declared.Head.{Head}
use Rattle.codec_read_fast.specs.declared.Short.{Short}
use Rattle.codec_read_fast.specs.declared.tokens.Wish.{Wish}
use Rattle.codec_read_fast.specs.Shortly.{of_values, in_full, in_words, token_number, short_number, few_ids, NoneRead, Shortly, Wishes}
use Rattle.codec_read_fast.specs.declared.lists.Listing.{Listing}
use Rattle.codec_read_fast.specs.Listed.{in_list, Listed}
use Rattle.domain.specs.declared.numbers.Reply.{Reply}
use Rattle.domain.specs.Numbers.{reply_number}
use Rattle.domain.specs.Tables.{Domain}
use Rattle.domain.specs.Effects.{Effect}
use Rattle.domain.specs.Events.{reads, refuses, act, answers, ends, sends, complaint}
use Rattle.serve_read.specs.declared.Request.{Request}
use Rattle.serve_read.specs.Understood.{number_in, read_as, understood}
use Rattle.serve_read.specs.Requests.{pass_request, token_request, brief_request, listed_request}
use Rattle.serve_read.specs.Readings.{reply_for, requested, asks, Understands, listed_as, request_of}

-- ---- the tests, in their order
module _ (os : List ℕ) where
  pub none_understood : length os ≡ 0 → understood os ≡ refuses 4 os
  unfolding understood
  none_understood h = rw h refl

  pub long_understood : 1024 < length os → understood os ≡ refuses 4 os
  unfolding understood
  long_understood h = rw (lt-ltb 0 (length os) (omega arith), lt-leb (length os) 1024 h) refl

  module _ (some : 0 < length os) (few : length os ≤ 1024) where
    pub unknown_understood : 42 < number_in os → understood os ≡ refuses 5 os
    unfolding understood
    unknown_understood h = rw (lt-ltb 0 (length os) some, le-leb (length os) 1024 few, lt-ltb 42 (number_in os) h) refl

    module _ (known : number_in os ≤ 42) where
      pub down_understood : may_go_up (number_in os) ≡ false → understood os ≡ refuses 6 os
      unfolding understood
      down_understood h = rw (lt-ltb 0 (length os) some, le-leb (length os) 1024 few, le-ltb 42 (number_in os) known, h) refl

      module _ (up : may_go_up (number_in os) ≡ true) where
        pub unserved_understood : is_served (number_in os) ≡ false → understood os ≡ refuses 7 os
        unfolding understood
        unserved_understood h = rw (lt-ltb 0 (length os) some, le-leb (length os) 1024 few, le-ltb 42 (number_in os) known, up, h) refl

        pub read_understood : is_served (number_in os) ≡ true → understood os ≡ read_as os (heard os)
        unfolding understood
        read_understood h = rw (lt-ltb 0 (length os) some, le-leb (length os) 1024 few, le-ltb 42 (number_in os) known, up, h) refl

-- ---- a refusal
pub refuses_asks : (os : List ℕ) (r : Reply) (listed : List ℕ) → understood os ≡ refuses (reply_number r) os → Understands os (Err r) listed
unfolding answers asks
refuses_asks os r listed e new d p room = rw e refl

pub reply_for_is : (n : ℕ) → refusal n ≡ true → reply_for n ≡ n
unfolding refusal reply_for
reply_for_is n h = four (eqb n 4) refl
  where
    seven : (b : Bool) → eqb n 7 ≡ b → b || eqb n 8 ≡ true → (if b then 7 else 8) ≡ n
    seven true e h = sym (eqb-true n 7 e)
    seven false e h = sym (eqb-true n 8 h)

    five : (b : Bool) → eqb n 5 ≡ b → b || eqb n 7 || eqb n 8 ≡ true → (if b then 5 else if eqb n 7 then 7 else 8) ≡ n
    five true e h = sym (eqb-true n 5 e)
    five false e h = seven (eqb n 7) refl h

    four : (b : Bool) → eqb n 4 ≡ b → (if b then 4 else if eqb n 5 then 5 else if eqb n 7 then 7 else 8) ≡ n
    four true e = sym (eqb-true n 4 e)
    four false e = five (eqb n 5) refl (rw e at h)

-- ---- a request: nothing of a message is lost
small : (v : ℕ) → v ≤ 65535 → v % 65536 ≡ v
small v h = omega arith

module _ (u k : ℕ) (h : u ≤ 65535) (l : k ≤ 65535) where
  two : (c : ℕ → ℕ → Message) → c (u % 65536) (k % 65536) ≡ c u k
  two c = ap₂ c (small u h) (small k l)

  three : (c : ℕ → ℕ → ℕ → Message) (r : ℕ) → r ≤ 65535 → c (u % 65536) (k % 65536) (r % 65536) ≡ c u k r
  three c r g = ap (c (u % 65536) (k % 65536)) (small r g) ∙ two (λ a b. c a b r)

  two_list : (c : ℕ → ℕ → List ℕ → Message) (xs ys : List ℕ) → xs ≡ ys → c (u % 65536) (k % 65536) xs ≡ c u k ys
  two_list c xs ys e = ap (c (u % 65536) (k % 65536)) e ∙ two (λ a b. c a b ys)

first_listed : (xs : List ℕ) → take (length xs) (padded 64 xs) ≡ xs
first_listed xs = take_at xs (replicate (64 - length xs) 0) (length xs) refl

-- a request by its number, its values and its list, by the way that reads it
few_request : (n : ℕ) → (ℕ → ℕ) → Message
few_request n v =
    if token_number n then if eqb n 35 then token_request n (v 1) (v 2) (v 0) else token_request n (v 0) (v 1) (v 2)
    else brief_request n (v 0) (v 1)

asked_for : (n : ℕ) → (ℕ → ℕ) → List ℕ → Message
asked_for n v ids = if few_ids n then few_request n v else listed_request n (v 0) (v 1) ids

-- a value as the code holds it
value_in : List ℕ → ℕ → ℕ
value_in values i = get_or values i 0 % 65536

-- the ids are those of the message, where it has some
ItsIds : Msg → List ℕ → Type 0
ItsIds m ids = has_ids (tail_at m.number) ≡ true → ids ≡ m.items

request_act : (new : ℕ) (d : Domain) (p : ℕ) (ids : List ℕ) (m : Message) → ItsIds (fields m) ids → formed m ≡ true → is_served (fields m).number ≡ true
    → act new d p (asked_for (fields m).number (value_in (padded 4 (fields m).values)) ids) ≡ act new d p m
unfolding asked_for few_request ItsIds value_in few_ids token_number short_number listed_request brief_request token_request pass_request fields is_served entry tail_at packed_at packed act
request_act new d p ids (EDrq h i) l f s = refl
request_act new d p ids (DPum n) l f s = refl
request_act new d p ids (RJum n os) l f s = refl
request_act new d p ids AUrq l f s = refl
request_act new d p ids (AUcf n u) l f s = absurd (false≢true s)
request_act new d p ids (DUrq n us) l f s =
    let r = ranges (DUrq n us) f in
    let z : n % 65536 % 8 ≡ n = omega (arith, r.0.most) in
    ap₂ (λ (a : ℕ) (l : List ℕ). act new d p (DUrq a l)) z (l refl)
request_act new d p ids (DUin n us) l f s = absurd (false≢true s)
request_act new d p ids (CJrq u c) l f s = let r = ranges (CJrq u c) f in ap (act new d p) (two u c r.0.most r.1.most CJrq)
request_act new d p ids (CJcf n u a c) l f s = absurd (false≢true s)
request_act new d p ids (CLrq cs) l f s = ap (λ (l : List ℕ). act new d p (CLrq l)) (l refl)
request_act new d p ids (CCrq u) l f s = let r = ranges (CCrq u) f in ap (λ (a : ℕ). act new d p (CCrq a)) (small u r.most)
request_act new d p ids (CCcf n u c) l f s = absurd (false≢true s)
request_act new d p ids (CDrq u c) l f s = let r = ranges (CDrq u c) f in ap (act new d p) (two u c r.0.most r.1.most CDrq)
request_act new d p ids (CDin c) l f s = absurd (false≢true s)
request_act new d p ids (CArq u c us) l f s =
    let r = ranges (CArq u c us) f in
    ap (act new d p) (two_list u c r.0.most r.1.most CArq ids us (l refl))
request_act new d p ids (CAin u c us) l f s = absurd (false≢true s)
request_act new d p ids (CErq u c us) l f s =
    let r = ranges (CErq u c us) f in
    ap (act new d p) (two_list u c r.0.most r.1.most CErq ids us (l refl))
request_act new d p ids (CEin c us) l f s = absurd (false≢true s)
request_act new d p ids (TGrq u k) l f s = let r = ranges (TGrq u k) f in ap (act new d p) (two u k r.0.most r.1.most TGrq)
request_act new d p ids (TGcf n u k t) l f s = absurd (false≢true s)
request_act new d p ids (TIrq u k) l f s = let r = ranges (TIrq u k) f in ap (act new d p) (two u k r.0.most r.1.most TIrq)
request_act new d p ids (TIcf n u k t) l f s = absurd (false≢true s)
request_act new d p ids (TVrq u k v) l f s = let r = ranges (TVrq u k v) f in ap (act new d p) (three u k r.0.most r.1.most TVrq v r.2.most)
request_act new d p ids (TVin u k v) l f s = absurd (false≢true s)
request_act new d p ids (TVrs n v k) l f s =
    let r = ranges (TVrs n v k) f in
    let z : n % 65536 % 16 ≡ n = omega (arith, r.0.most) in
    ap (act new d p) (ap (λ (a : ℕ). TVrs a (v % 65536) (k % 65536)) z ∙ two v k r.1.most r.2.most (TVrs n))
request_act new d p ids (TVcf n u k t) l f s = absurd (false≢true s)
request_act new d p ids (TPrq u k) l f s = let r = ranges (TPrq u k) f in ap (act new d p) (two u k r.0.most r.1.most TPrq)
request_act new d p ids (TPin u k) l f s = absurd (false≢true s)
request_act new d p ids (TRrq u k) l f s = let r = ranges (TRrq u k) f in ap (act new d p) (two u k r.0.most r.1.most TRrq)
request_act new d p ids (TRcf n u k t) l f s = absurd (false≢true s)
request_act new d p ids (TTrq u k) l f s = let r = ranges (TTrq u k) f in ap (act new d p) (two u k r.0.most r.1.most TTrq)
request_act new d p ids (TTcf u k t) l f s = absurd (false≢true s)

-- ---- what is read
number_is : (os : List ℕ) (x : Msg) → decode os ≡ ok x → x.number ≡ number_in os
unfolding number_in decode
number_is [] x e = absurd (let z : ◌≡◌ {A = ℕ} 0 1 = cc in omega arith)
number_is (o ∷ os) x e = number_read o os x e

-- the ids that the code lists are those of the message read, where it has some
Lists : Decoded → List ℕ → Type 0
Lists dec listed = has_ids (tail_at dec.head.number) ≡ true → take (count_of dec.head.items) listed ≡ take (count_of dec.head.items) dec.ids

no_string : (kind : ℕ) → has_ids kind ≡ true → eqb kind 3 ≡ false
no_string kind h = go (eqb kind 0) (eqb kind 3) h
  where
    go : (a b : Bool) → cond a false (not b) ≡ true → b ≡ false
    go a false e = refl
    go true true e = absurd (false≢true e)
    go false true e = absurd (false≢true e)

count_held : (octets : Bool) (end : ℕ) (items : List ℕ) → count_of (items_held octets end items) ≡ length items
count_held true end items = refl
count_held false end items = refl

module _ (os : List ℕ) (x : Msg) (listed : List ℕ) where
  decoded_ids : has_ids (tail_at x.number) ≡ true → (held os x).ids ≡ padded 64 x.items
  unfolding held
  decoded_ids h = ap (λ (b : Bool). padded 64 (cond b [] x.items)) (no_string (tail_at x.number) h)

  its_ids : Lists (held os x) listed → ItsIds x (take (count_of (held os x).head.items) listed)
  unfolding Lists ItsIds held
  its_ids l h =
      l h ∙ ap (take (count_of (items_held (is_string x.number) (length os) x.items))) (decoded_ids h)
      ∙ ap (λ n. take n (padded 64 x.items)) (count_held (is_string x.number) (length os) x.items)
      ∙ first_listed x.items

  kept_lists : (before : List ℕ) → listed ≡ kept x before → Lists (held os x) listed
  unfolding Lists held kept
  kept_lists before e h = ap (take (count_of (items_held (is_string x.number) (length os) x.items))) (e ∙ rw h (sym (decoded_ids h)))

-- ---- what is read is served
served_way : (w : Way) → way_served w ≡ true → goes_up w ≡ true
served_way down h = h
served_way up h = refl
served_way served h = refl

served_known : (n : ℕ) → is_served n ≡ true → n ≤ 42
unfolding is_served entry
served_known n h = go (ltb 42 n) refl
  where
    go : (b : Bool) → ltb 42 n ≡ b → n ≤ 42
    go true e = absurd (false≢true (rw (get_or-eq_default table (down, unknown) {n = n} (omega (arith, ltb-true 42 n e))) at h))
    go false e = omega (arith, ltb-false 42 n e)

served_understood : (os : List ℕ) (x : Msg) → decode os ≡ ok x → is_served (number_in os) ≡ true → understood os ≡ read_as os (heard os)
unfolding decode is_served may_go_up
served_understood os x e s =
    taken (sized os) (ending (read_msg os)) 4 e λ size some.
    read_understood os (ltb-true 0 (length os) (both_left (ltb 0 (length os)) (leb (length os) 1024) size))
    (leb-true (length os) 1024 (both_right (ltb 0 (length os)) (leb (length os) 1024) size)) (served_known (number_in os) s) (served_way (entry (number_in os)).0 s) s

-- a message that is heard and served is what is understood
pub heard_understood : (os : List ℕ) (m : Message) → heard os ≡ ok m → is_served (fields m).number ≡ true → understood os ≡ reads m
unfolding read_as
heard_understood os m h s =
    let e : decode os ≡ ok (fields m) = heard_decoded os m h in
    served_understood os (fields m) e (ap is_served (sym (number_is os (fields m) e)) ∙ s) ∙ ap (read_as os) h

-- the octets ask for what a request does
abbrev pub Asks : (os : List ℕ) (r : Message) → Type 0
Asks os r = (new : ℕ) (d : Domain) (p room : ℕ) → answers new d p (understood os) room ≡ ends d room (act new d p r)

module _ (os : List ℕ) (y : Bytes os) (dec : Decoded) (e : ok dec ≡ decoded os (decode os)) (s : is_served dec.head.number ≡ true) where
  message_read : {G : Type 0} → ((x : Msg) → decode os ≡ ok x → dec ≡ held os x → G) → G
  unfolding decoded
  message_read {G} g = go (decode os) refl
    where
      go : (o : Outcome Msg) → decode os ≡ o → G
      go (ok x) f = g x f (cc (e ∙ ap (decoded os) f))
      go (refuse n) f = absurd (cc (e ∙ ap (decoded os) f))

  module _ (x : Msg) (f : decode os ≡ ok x) (is : dec ≡ held os x) where
    served_number : is_served x.number ≡ true
    unfolding held
    served_number = ap (λ (z : Decoded). is_served z.head.number) (sym is) ∙ s

    heard_read : understood os ≡ read_as os (heard os)
    heard_read = served_understood os x f (ap is_served (sym (number_is os x f)) ∙ served_number)

  read_asks : (listed : List ℕ) → Lists dec listed → Asks os (asked_for dec.head.number (value_in dec.head.values) (take (count_of dec.head.items) listed))
  unfolding answers read_as held
  read_asks listed l new d p room =
      message_read λ x f is.
      read_named os y x f λ m hears same.
      let whole : dec ≡ held os (fields m) = is ∙ ap (held os) (sym same) in
      let ids = its_ids os (fields m) listed (subst (λ (z : Decoded). Lists z listed) whole l) in
      rw (heard_read x f is, hears, whole)
      (ap (λ (z : Effect Domain). ends d room z)
      (sym (request_act new d p _ m ids (heard_formed os y m hears) (ap (λ (z : Msg). is_served z.number) same ∙ served_number x f is))))

  not_few : NoneRead few_ids os → few_ids dec.head.number ≡ false
  unfolding held
  not_few none = message_read λ x f is.
      let number : dec.head.number ≡ x.number = ap (λ (z : Decoded). z.head.number) is in
      rw number (go x f (served_number x f is) (few_ids x.number) refl)
    where
      go : (x : Msg) → decode os ≡ ok x → is_served x.number ≡ true → (b : Bool) → few_ids x.number ≡ b → b ≡ false
      go x f n true h = absurd (none x f n h)
      go x f n false h = refl

  -- what is read before is none of these
  list_understood : NoneRead few_ids os → (listed : List ℕ) → Lists dec listed → Understands os (Ok (request_of dec.head)) listed
  unfolding asks requested asked_for value_in
  list_understood none listed l new d p room = read_asks listed l new d p room ∙ rw (not_few none) refl

-- the long way
module _ (os before listed : List ℕ) where
  pub head_asks : (h : Head) → Reads os (decode os) before listed (Ok h) → NoneRead few_ids os → Bytes os → is_served (number_in os) ≡ true → Understands os (Ok (request_of h)) listed
  unfolding decoded held
  head_asks h w none y s = go (decode os) refl
    where
      go : (o : Outcome Msg) → decode os ≡ o → Understands os (Ok (request_of h)) listed
      go (ok x) f =
          let same : h ≡ (held os x).head = cc (w.head ∙ ap (λ (o : Outcome Msg). head_of (decoded os o)) f) in
          subst (λ (z : Head). Understands os (Ok (request_of z)) listed) (sym same)
          (list_understood os y (held os x) (ap (decoded os) (sym f)) (ap is_served (number_is os x f) ∙ s) none listed (kept_lists os x listed before (w.list x f)))
      go (refuse n) f = absurd (cc (w.head ∙ ap (λ (o : Outcome Msg). head_of (decoded os o)) f))

  pub codec_asks : (refusal : Refusal) → Reads os (decode os) before listed (Err refusal) → understood os ≡ read_as os (heard os) → (r : Reply) → reply_number r ≡ reply_for (refusal_number refusal) → Understands os (Err r) listed
  unfolding decoded read_as
  codec_asks refusal w i r e = go (decode os) refl
    where
      go : (o : Outcome Msg) → decode os ≡ o → Understands os (Err r) listed
      go (ok x) f = absurd (cc (w.head ∙ ap (λ (o : Outcome Msg). head_of (decoded os o)) f))
      go (refuse n) f =
          let z : refusal_number refusal ≡ n = cc (w.head ∙ ap (λ (o : Outcome Msg). head_of (decoded os o)) f) in
          let same : reply_number r ≡ n = e ∙ ap reply_for z ∙ reply_for_is n (refusals os n f) in
          refuses_asks os r listed (i ∙ ap (read_as os) (refused_heard os n f) ∙ ap (λ k. refuses k os) (sym same))

-- a message with a list
pub list_asks : (os : List ℕ) → Bytes os → NoneRead few_ids os → (listed : List ℕ) (l : Listing) → Listed os l listed → l.first < 65536 → l.second < 65536
    → Understands os (Ok (listed_as l)) listed
unfolding in_list Lists
list_asks os y none listed l h a b =
    rw (← small l.first (omega arith), ← small l.second (omega arith))
    (list_understood os y (in_list l listed) h.same h.served none listed
    (λ k. sym (ap (λ n. take n (padded 64 (take l.count listed))) (sym h.stored) ∙ first_listed (take l.count listed))))

-- ---- what is asked: a refusal, and a request
module _ (new : ℕ) (d : Domain) (p room : ℕ) (os listed : List ℕ) where
  pub refused_asks : (r : Reply) → asks new d p room os (Err r) listed ≡ sends d room (reply_number r) d (complaint (reply_number r) p os)
  unfolding asks
  refused_asks r = refl

  pub listed_asks : (q : Request) → asks new d p room os (Ok q) listed ≡ ends d room (act new d p (listed_request q.number q.first q.second (take q.count listed)))
  unfolding asks requested
  listed_asks q = refl

-- ---- a message of a few ids, which has no list
few_lists : (dec : Decoded) → count_of dec.head.items ≡ 0 → Lists dec []
unfolding Lists
few_lists dec e h = rw e refl

module _ (os : List ℕ) (y : Bytes os) (w : Wish) (h : Wishes os w) (a : w.user < 65536) (b : w.token < 65536) (c : w.more < 65536) where
  -- whether the result comes first or not
  in_order : (b : Bool) → let v = value_in (cond b (w.more ∷ w.user ∷ w.token ∷ 0 ∷ []) (w.user ∷ w.token ∷ w.more ∷ 0 ∷ [])) in
      (if b then token_request w.number (v 1) (v 2) (v 0) else token_request w.number (v 0) (v 1) (v 2)) ≡ token_request w.number w.user w.token w.more
  unfolding value_in
  in_order true = three w.user w.token (omega arith) (omega arith) (token_request w.number) w.more (omega arith)
  in_order false = three w.user w.token (omega arith) (omega arith) (token_request w.number) w.more (omega arith)

  pub token_asks : Asks os (token_request w.number w.user w.token w.more)
  unfolding in_words of_values asked_for few_request few_ids
  token_asks new d p room =
      read_asks os y (in_words w) h.same h.served [] (few_lists (in_words w) refl) new d p room
      ∙ rw h.few (ap (λ m. ends d room (act new d p m)) (in_order (eqb w.number 35)))

module _ (os : List ℕ) (y : Bytes os) (q : Short) (h : Shortly os q) (a : q.first < 65536) (b : q.second < 65536) where
  -- none of these is above 28
  no_token : token_number q.number ≡ false
  unfolding token_number short_number
  no_token = go (ltb 28 q.number) refl
    where
      go : (b : Bool) → ltb 28 q.number ≡ b → b ≡ false
      go false e = refl
      go true e =
          let n = q.number in
          let l : 28 < n = ltb-true 28 n e in
          sym (rw (ne_eqb n 10 (omega arith), ne_eqb n 14 (omega arith), ne_eqb n 17 (omega arith), ne_eqb n 19 (omega arith)) at h.few)

  pub short_asks : Asks os (brief_request q.number q.first q.second)
  unfolding in_full of_values asked_for few_request few_ids value_in
  short_asks new d p room =
      read_asks os y (in_full q) h.same h.served [] (few_lists (in_full q) refl) new d p room
      ∙ rw (no_token, h.few, small q.first (omega arith), small q.second (omega arith)) refl
