-- Logs that are shortened by what stood behind them.
use Rattle.std.proofs.Common.{◌≡◌, ◌∙◌, ℕ, suc, ◌+◌, ◌-◌, ◌<◌, ◌==◌, Bool, true, false, cond, List, [], ◌∷◌, ◌++◌, map, take, length, get_or, refl, ap, sym, arith}
use Rattle.std.specs.List.{All, filter}
use Rattle.std.proofs.lemmas.List.Elements.{All-nil, All-cons, All-head, All-tail}
use Rattle.std.proofs.lemmas.List.{get_or_default, length-append, same_lists}
use Rattle.gate_values.specs.declared.logic.Change.{Change}
use Rattle.warp_stores.specs.Words.{Move}
use Rattle.warp_stores.specs.Dated.{Dated, undated}
use Rattle.warp_stores.specs.Lists.{words_at, changes_at, AreLonger, AreShorter}

-- what stands in front
pub front : {X : Type 0} (xs ys : List X) → take (length xs) (xs ++ ys) ≡ xs
front {X = X} [] ys = refl
front {X = X} (x ∷ xs) ys = ap (λ (zs : List X). x ∷ zs) (front xs ys)

-- as many changes of a place as words
pub as_many : (place : ℕ) (ds : List (Dated Move)) → length (changes_at place ds) ≡ length (words_at place (undated ds))
as_many place [] = refl
as_many place (d ∷ ds) = go (d.1.place == place) (as_many place ds)
  where
    go : (b : Bool) → length (changes_at place ds) ≡ length (words_at place (undated ds))
        → length {A = Change} (map (λ (e : Dated Move). record { time = e.0; value = e.1.after }) (cond b (d ∷ filter (λ (e : Dated Move). e.1.place == place) ds) (filter (λ (e : Dated Move). e.1.place == place) ds)))
        ≡ length (cond b (d.1 ∷ words_at place (undated ds)) (words_at place (undated ds)))
    go true e = ap suc e
    go false e = e

-- what is left are the logs from before
pub logs_left : (ds : List (Dated Move)) (old new lists : List (List Change)) → AreLonger ds old new → AreShorter (undated ds) new lists → lists ≡ old
logs_left ds old new lists longer shorter =
    same_lists lists old (shorter.same ∙ longer.same)
    (λ i d l. let here : i < length old = (let e = shorter.same in let f = longer.same in omega (arith, l, e, f)) in
    let grown : get_or new i [] ≡ get_or old i [] ++ changes_at i ds = longer.each i here in
    let long : length (get_or new i []) ≡ length (get_or old i []) + length (changes_at i ds) = ap length grown ∙ length-append (get_or old i []) (changes_at i ds) in
    let words : length (changes_at i ds) ≡ length (words_at i (undated ds)) = as_many i ds in
    let count : length (get_or new i []) - length (words_at i (undated ds)) ≡ length (get_or old i []) = omega (arith, long, words) in
    get_or_default lists i d [] l
    ∙ shorter.each i (let f = longer.same in omega (arith, here, f))
    ∙ ap (λ (k : ℕ). take k (get_or new i [])) count
    ∙ ap (take (length (get_or old i []))) grown
    ∙ front (get_or old i []) (changes_at i ds)
    ∙ sym (get_or_default old i d [] here))

-- longer by the same words
pub same_longer : (ds : List (Dated Move)) (old new other : List (List Change)) → AreLonger ds old new → AreLonger ds old other → new ≡ other
same_longer ds old new other longer too =
    same_lists new other (longer.same ∙ sym too.same)
    (λ i d l. let here : i < length old = (let e = longer.same in omega (arith, l, e)) in
    get_or_default new i d [] l ∙ longer.each i here ∙ sym (get_or_default other i d [] (let e = too.same in omega (arith, here, e)) ∙ too.each i here))

-- words of places that there are
pub all_undated : (n : ℕ) (ds : List (Dated Move)) → All (λ (d : Dated Move). d.1.place < n) ds → All (λ (w : Move). w.place < n) (undated ds)
all_undated n [] all = All-nil (λ (w : Move). w.place < n)
all_undated n (d ∷ ds) all = (let P : Dated Move → Type 0 = λ e. e.1.place < n in All-cons (λ (w : Move). w.place < n) d.1 (undated ds) (All-head P d ds all) (all_undated n ds (All-tail P d ds all)))
