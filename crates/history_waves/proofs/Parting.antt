-- What is told of parts of time, and of all of them.
use Rattle.std.proofs.Common.{◌≡◌, ◌∙◌, ℕ, suc, ◌+◌, ◌<◌, ◌≤◌, ◌⊎◌, inl, inr, Bool, true, false, cond, ◌&&◌, Option, Some, None, IfSome, Result, Ok, Err, IfOk, List, [], ◌∷◌, map, length, get_or, refl, ap, sym, subst, arith, nat_lt, nat_le}
use Rattle.std.specs.Prelude.{slice_get}
use Rattle.net_waves.specs.declared.timeline.Stop.{Stop}
use Rattle.net_waves.specs.declared.by_time.ByTime.{ByTime}
use Rattle.net_waves.specs.ByTime.{stops_in}
use Rattle.net_waves.specs.Timeline.{is_same, one, count}
use Rattle.net_waves.proofs.Counting.{is_same-is}
use Rattle.warp_stores.specs.Words.{Move}
use Rattle.warp_stores.specs.Dated.{Dated, since, before_end}
use Rattle.warp_stores.proofs.Telling.{lt_true, lt_false, le_true, le_false}
use Rattle.std.proofs.lemmas.Bool.{cases_lt}
use Rattle.history_waves.specs.Histories.{own_stops}
use Rattle.history_waves.specs.Stories.{Telling, count_in, AreAll}
use Rattle.history_waves.specs.Inner.Parts.{is_within, part_of, stops_within, ArePart}
use Rattle.history_waves.specs.Inner.Begins.{AreBegins, end_of, AreAllTold, count_told}
use Rattle.history_waves.proofs.Pending.{own_count}

-- ---- what a part has of one more

-- one is counted where it is of the part, and then others; it is none, or is of the part where what is counted is
counted : (here there : Bool) (more some all : ℕ) → ((more ≡ 0) ⊎ (here ≡ there)) → some ≡ cond there all 0 → cond here more 0 + some ≡ cond there (more + all) 0
counted true true more some all which e = omega (arith, e)
counted false false more some all which e = omega (arith, e)
counted true false more some all (inl none) e = omega (arith, none, e)
counted false true more some all (inl none) e = omega (arith, none, e)
counted true false more some all (inr same) e = cc
counted false true more some all (inr same) e = cc

one_more : (s x : Stop) (b : Bool) (xs : List Stop) → count s (cond b (x ∷ xs) xs) ≡ cond b (one s x) 0 + count s xs
one_more s x true xs = refl
one_more s x false xs = omega arith

-- a change is another, or of its time
of_time : (s x : Stop) → (one s x ≡ 0) ⊎ (x.time ≡ s.time)
of_time s x = go (is_same s x) refl
  where
    go : (b : Bool) → is_same s x ≡ b → (one s x ≡ 0) ⊎ (x.time ≡ s.time)
    go true e = inr (sym (ap (λ (y : Stop). y.time) (is_same-is s x e)))
    go false e = inl (rw e refl)

either_time : (from : ℕ) (until : Option ℕ) (n t u : ℕ) → ((n ≡ 0) ⊎ (t ≡ u)) → (n ≡ 0) ⊎ (is_within from until t ≡ is_within from until u)
either_time from until n t u (inl none) = inl none
either_time from until n t u (inr same) = inr (ap (is_within from until) same)

-- of changes
count_within : (from : ℕ) (until : Option ℕ) (s : Stop) (xs : List Stop) → count s (stops_within from until xs) ≡ cond (is_within from until s.time) (count s xs) 0
count_within from until s [] = nothing (is_within from until s.time)
  where
    nothing : (b : Bool) → ◌≡◌ {A = ℕ} 0 (cond b 0 0)
    nothing true = refl
    nothing false = refl
count_within from until s (x ∷ xs) =
    one_more s x (is_within from until x.time) (stops_within from until xs)
    ∙ counted (is_within from until x.time) (is_within from until s.time) (one s x) (count s (stops_within from until xs)) (count s xs) (either_time from until (one s x) x.time s.time (of_time s x)) (count_within from until s xs)

-- of the words of a history
part_more : (from : ℕ) (until : Option ℕ) (d : Dated Move) (ds : List (Dated Move)) → before_end until (since from (d ∷ ds)) ≡ cond (is_within from until d.0) (d ∷ before_end until (since from ds)) (before_end until (since from ds))
part_more from None d ds = go (nat_le from d.0)
  where
    go : (b : Bool) → cond b (d ∷ since from ds) (since from ds) ≡ cond (b && true) (d ∷ since from ds) (since from ds)
    go true = refl
    go false = refl
part_more from (Some until) d ds = go (nat_le from d.0)
  where
    go : (b : Bool) → before_end (Some until) (cond b (d ∷ since from ds) (since from ds)) ≡ cond (b && nat_lt d.0 until) (d ∷ before_end (Some until) (since from ds)) (before_end (Some until) (since from ds))
    go true = refl
    go false = refl

own_more : (own : List (Option ℕ)) (s : Stop) (d : Dated Move) (b : Bool) (ds : List (Dated Move)) → count s (own_stops own (cond b (d ∷ ds) ds)) ≡ cond b (count s (own_stops own (d ∷ []))) 0 + count s (own_stops own ds)
own_more own s d true ds = own_count own s (d ∷ []) ds
own_more own s d false ds = omega arith

own_time : (own : List (Option ℕ)) (s : Stop) (d : Dated Move) → (count s (own_stops own (d ∷ [])) ≡ 0) ⊎ (d.0 ≡ s.time)
own_time own s d = go (get_or own d.1.place None) refl
  where
    told : (net : ℕ) → get_or own d.1.place None ≡ Some net → (one s (record { time = d.0; net = net; value = d.1.after }) ≡ 0) ⊎ (d.0 ≡ s.time) → (count s (own_stops own (d ∷ [])) ≡ 0) ⊎ (d.0 ≡ s.time)
    told net e (inl none) = inl (rw e (omega (arith, none)))
    told net e (inr same) = inr same

    go : (o : Option ℕ) → get_or own d.1.place None ≡ o → (count s (own_stops own (d ∷ [])) ≡ 0) ⊎ (d.0 ≡ s.time)
    go None e = inl (rw e refl)
    go (Some net) e = told net e (of_time s (record { time = d.0; net = net; value = d.1.after }))

own_within : (from : ℕ) (until : Option ℕ) (own : List (Option ℕ)) (s : Stop) (ds : List (Dated Move)) → count s (own_stops own (before_end until (since from ds))) ≡ cond (is_within from until s.time) (count s (own_stops own ds)) 0
own_within from None own s [] = nothing (is_within from None s.time)
  where
    nothing : (b : Bool) → ◌≡◌ {A = ℕ} 0 (cond b 0 0)
    nothing true = refl
    nothing false = refl
own_within from (Some until) own s [] = nothing (is_within from (Some until) s.time)
  where
    nothing : (b : Bool) → ◌≡◌ {A = ℕ} 0 (cond b 0 0)
    nothing true = refl
    nothing false = refl
own_within from until own s (d ∷ ds) =
    let some = before_end until (since from ds) in
    let first : count s (own_stops own (d ∷ ds)) ≡ count s (own_stops own (d ∷ [])) + count s (own_stops own ds) = own_count own s (d ∷ []) ds in
    ap (λ (ws : List (Dated Move)). count s (own_stops own ws)) (part_more from until d ds)
    ∙ own_more own s d (is_within from until d.0) some
    ∙ counted (is_within from until d.0) (is_within from until s.time) (count s (own_stops own (d ∷ []))) (count s (own_stops own some)) (count s (own_stops own ds)) (either_time from until (count s (own_stops own (d ∷ []))) d.0 s.time (own_time own s d)) (own_within from until own s ds)
    ∙ ap (λ (n : ℕ). cond (is_within from until s.time) n 0) (sym first)

two : (b : Bool) (x y : ℕ) → cond b x 0 + cond b y 0 ≡ cond b (x + y) 0
two true x y = refl
two false x y = refl

-- of several histories
count_in_within : (from : ℕ) (until : Option ℕ) (s : Stop) (ts : List Telling) → count_in s (map (part_of from until) ts) ≡ cond (is_within from until s.time) (count_in s ts) 0
count_in_within from until s [] = nothing (is_within from until s.time)
  where
    nothing : (b : Bool) → ◌≡◌ {A = ℕ} 0 (cond b 0 0)
    nothing true = refl
    nothing false = refl
count_in_within from until s (t ∷ ts) =
    omega (arith, own_within from until t.own s t.words, count_in_within from until s ts, two (is_within from until s.time) (count s (own_stops t.own t.words)) (count_in s ts))

-- all that is told of a part of given changes and of histories is that part of all
pub part_all : (from : ℕ) (until : Option ℕ) (given : List Stop) (ts : List Telling) (all : List Stop) → AreAll (stops_within from until given) (map (part_of from until) ts) all → ArePart from until given ts all
part_all from until given ts all are s =
    omega (arith, are s, count_within from until s given, count_in_within from until s ts, two (is_within from until s.time) (count s given) (count_in s ts))

-- ---- all parts

-- of a time the part that it is in, and none of the others
last_part : (b all : ℕ) (t : ℕ) → cond (nat_le b t && true) all 0 ≡ cond (nat_le b t) all 0
last_part b all t = go (nat_le b t)
  where
    go : (c : Bool) → cond (c && true) all 0 ≡ cond c all 0
    go true = refl
    go false = refl

part_then : (b next all t : ℕ) → b ≤ next → cond (nat_le b t && nat_lt t next) all 0 + cond (nat_le next t) all 0 ≡ cond (nat_le b t) all 0
part_then b next all t h =
    elim (cases_lt t b) [
      | inl early ↦ rw (le_false b t early, le_false next t (omega (arith, early, h))) refl
      | inr since ↦ (elim (cases_lt t next) [
        | inl before ↦ rw (le_true b t since, lt_true t next before, le_false next t before) (omega arith)
        | inr after ↦ rw (le_true b t since, lt_false t next after, le_true next t after) (omega arith)
      ])
    ]

abbrev pub EachPart : {E : Type 0} → List ℕ → List Stop → List Telling → List (Result (Option ByTime) E) → Type 0
EachPart {E} begins given ts parts = (k : ℕ) (d : Result (Option ByTime) E) → k < length parts → IfOk (get_or parts k d) (λ told. IfSome told (λ by_time. ArePart (get_or begins k 0) (end_of begins k) given ts (stops_in by_time)))

-- the same, where the part after a place is at its successor
abbrev AreEach : {E : Type 0} → List ℕ → List Stop → List Telling → List (Result (Option ByTime) E) → Type 0
AreEach {E} begins given ts parts = (k : ℕ) (d : Result (Option ByTime) E) → k < length parts → IfOk (get_or parts k d) (λ told. IfSome told (λ by_time. ArePart (get_or begins k 0) (slice_get begins (suc k)) given ts (stops_in by_time)))

add_up : {E : Type 0} (s : Stop) (given : List Stop) (ts : List Telling) (begins : List ℕ) (parts : List (Result (Option ByTime) E)) → length parts ≡ length begins → 0 < length begins
    → ((k : ℕ) → suc k < length begins → get_or begins k 0 ≤ get_or begins (suc k) 0) → AreEach begins given ts parts → AreAllTold parts
    → count_told s parts ≡ cond (nat_le (get_or begins 0 0) s.time) (count s given + count_in s ts) 0
add_up s given ts [] parts same some rising each told = absurd (omega (arith, some))
add_up s given ts (b ∷ bs) [] same some rising each told = absurd (omega (arith, same))
add_up s given ts (b ∷ []) (Ok (Some x) ∷ []) same some rising each told =
    let here = each 0 (Ok None) (omega arith) s in
    omega (arith, here, last_part b (count s given + count_in s ts) s.time)
add_up s given ts (b ∷ []) (Ok (Some x) ∷ p ∷ ps) same some rising each told = absurd (omega (arith, same))
add_up s given ts (b ∷ next ∷ bs) (Ok (Some x) ∷ ps) same some rising each told =
    let here = each 0 (Ok None) (omega arith) s in
    let rest = add_up s given ts (next ∷ bs) ps (omega (arith, same)) (omega arith) (λ k h. rising (suc k) (omega (arith, h))) (λ k d h. each (suc k) d (omega (arith, h))) told in
    omega (arith, here, rest, part_then b next (count s given + count_in s ts) s.time (rising 0 (omega arith)))
add_up s given ts (b ∷ bs) (Ok None ∷ ps) same some rising each told = absurd told
add_up s given ts (b ∷ bs) (Err e ∷ ps) same some rising each told = absurd told

pub all_parts : {E : Type 0} (given : List Stop) (ts : List Telling) (begins : List ℕ) (parts : List (Result (Option ByTime) E)) → AreBegins begins → length parts ≡ length begins → EachPart begins given ts parts → AreAllTold parts
    → (all : List Stop) → ((s : Stop) → count s all ≡ count_told s parts) → AreAll given ts all
all_parts given ts begins parts are same each told all is s =
    let rising : (k : ℕ) → suc k < length begins → get_or begins k 0 ≤ get_or begins (suc k) 0 = λ k h. subst (λ (j : ℕ). get_or begins k 0 ≤ get_or begins j 0) (after k) (are.rising k (omega (arith, h))) in
    let ends : AreEach begins given ts parts = λ k d h. subst (λ (j : ℕ). IfOk (get_or parts k d) (λ told. IfSome told (λ by_time. ArePart (get_or begins k 0) (slice_get begins j) given ts (stops_in by_time)))) (after k) (each k d h) in
    let sum = add_up s given ts begins parts same are.some rising ends told in
    let whole : nat_le (get_or begins 0 0) s.time ≡ true = le_true (get_or begins 0 0) s.time (omega (arith, are.first)) in
    is s ∙ sum ∙ ap (λ (b : Bool). cond b (count s given + count_in s ts) 0) whole
  where
    after : (k : ℕ) → k + 1 ≡ suc k
    after k = omega arith

-- a part of all times is the whole
within_whole : (time : ℕ) → is_within 0 None time ≡ true
within_whole time = le_and 0 time (omega arith)
  where
    le_and : (a b : ℕ) → a ≤ b → (nat_le a b && true) ≡ true
    le_and a b h = rw (le_true a b h) refl

pub own_whole : (own : List (Option ℕ)) (s : Stop) (ds : List (Dated Move)) → count s (own_stops own (before_end None (since 0 ds))) ≡ count s (own_stops own ds)
own_whole own s ds = own_within 0 None own s ds ∙ ap (λ (b : Bool). cond b (count s (own_stops own ds)) 0) (within_whole s.time)

-- what is told of all time is all
pub part_whole : (given : List Stop) (ts : List Telling) (all : List Stop) → AreAll given (map (part_of 0 None) ts) all → AreAll given ts all
part_whole given ts all are s =
    omega (arith, are s, count_in_within 0 None s ts ∙ ap (λ (b : Bool). cond b (count_in s ts) 0) (within_whole s.time))

-- what holds where there is an answer, and what holds of the answer
pub with_answer : {E : Type 0} (r : Result (Option ByTime) E) (A : Type 0) (P Q : ByTime → Type 0) → IfOk r (λ all. IfSome all (λ by_time. A)) → IfOk r (λ all. IfSome all P) → (A → (x : ByTime) → P x → Q x) → IfOk r (λ all. IfSome all Q)
with_answer (Ok (Some x)) A P Q holds of_it then = then holds x of_it
with_answer (Ok None) A P Q holds of_it then = tt
with_answer (Err e) A P Q holds of_it then = tt

pub some_weaker : (o : Option ByTime) (P Q : ByTime → Type 0) → ((x : ByTime) → P x → Q x) → IfSome o P → IfSome o Q
some_weaker (Some x) P Q more holds = more x holds
some_weaker None P Q more holds = tt
