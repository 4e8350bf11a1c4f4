use Rattle.std.proofs.Common.{◌≡◌, ◌∙◌, ℕ, ◌+◌, ◌<◌, List, [], ◌∷◌, ◌++◌, length, map, take, get_or, ap, sym, arith, append_assoc}
use Rattle.std.specs.List.{flat_map}
use Rattle.std.proofs.lemmas.Grind.{flat_map-append}
use Rattle.std.proofs.lemmas.List.{append-nil, map-append, take_all, take_more}
use Rattle.std.proofs.lemmas.List.Elements.{All-get_or}
use Rattle.warp_stores.specs.Words.{Move}
use Rattle.warp_stores.specs.Dated.{Dated}
use Rattle.warp_process.specs.declared.message.Message.{Message}
use Rattle.warp_process.specs.Inner.Step.{Extends}
use Rattle.warp_sends.specs.Told.{told_of}
use Rattle.warp_sends.specs.declared.telling.Telling.{Telling}
use Rattle.warp_sends.specs.Inner.Tellings.{word_of}
use Rattle.warp_sends.proofs.words.send_each.Goals as goal

-- the messages on a word more
sent_more : (f : Dated Move → List Message) (ts : List Telling) (i : ℕ) (t : Telling) (before out more : List Message) → i < length ts → t ≡ get_or ts i t → out ≡ before ++ flat_map f (map word_of (take i ts)) → more ≡ out ++ f (word_of t)
    → more ≡ before ++ flat_map f (map word_of (take (i + 1) ts))
sent_more f ts i t before out more l is was e =
    let words : map word_of (take (i + 1) ts) ≡ map word_of (take i ts) ++ word_of t ∷ [] =
    ap (map word_of) (take_more ts i t l ∙ ap (λ (u : Telling). take i ts ++ u ∷ []) (sym is)) ∙ map-append word_of (take i ts) (t ∷ []) in
    let all : flat_map f (map word_of (take (i + 1) ts)) ≡ flat_map f (map word_of (take i ts)) ++ f (word_of t) =
    ap (flat_map f) words ∙ flat_map-append f (map word_of (take i ts)) (word_of t ∷ []) ∙ ap (λ (ms : List Message). flat_map f (map word_of (take i ts)) ++ ms) (append-nil (f (word_of t))) in
    e ∙ ap (λ (ms : List Message). ms ++ f (word_of t)) was ∙ append_assoc before (flat_map f (map word_of (take i ts))) (f (word_of t)) ∙ ap (λ (ms : List Message). before ++ ms) (sym all)

pub send_word-requires : goal.send_word-requires
send_word-requires c =
    let here = ap (λ (t : Telling). t.word.place) c.telling-item.is in
    omega (arith, here, All-get_or (λ (t : Telling). t.word.place < length c.args.part.now.nets) c.args.told.now c.loop-telling.telling-index c.telling-item.result c.loop-telling-test.true c.requires)

pub loop-telling-init : goal.loop-telling-init
loop-telling-init c = sym (append-nil c.args.out.now.items)

pub loop-telling-preserved : goal.loop-telling-preserved
loop-telling-preserved c =
    sent_more (told_of c.args.sign c.args.part.now) c.args.told.now c.loop-telling.telling-index c.telling-item.result c.args.out.now.items c.loop-telling.out.items c.send_word.new.out.items
    c.loop-telling-test.true c.telling-item.is c.loop-telling.invariant c.in_ok-send_word.ensures.ok

pub returns-in_err-send_word-clause-extends : goal.returns-in_err-send_word-clause-extends
returns-in_err-send_word-clause-extends c =
    let before = c.args.out.now.items in
    let told = flat_map (told_of c.args.sign c.args.part.now) (map word_of (take c.loop-telling.telling-index c.args.told.now)) in
    let some : Extends c.loop-telling.out.items c.send_word.new.out.items = c.in_err-send_word.ensures.extends in
    (told ++ some.0, some.1 ∙ ap (λ (ms : List Message). ms ++ some.0) c.loop-telling.invariant ∙ append_assoc before told some.0)

pub returns-clause-ok : goal.returns-clause-ok
returns-clause-ok c =
    c.loop-telling.invariant
    ∙ ap (λ (ts : List Telling). c.args.out.now.items ++ flat_map (told_of c.args.sign c.args.part.now) (map word_of ts)) (take_all c.loop-telling.telling-index c.args.told.now c.loop-telling-test.false)

pub returns-clause-extends : goal.returns-clause-extends
returns-clause-extends c = (flat_map (told_of c.args.sign c.args.part.now) (map word_of (take c.loop-telling.telling-index c.args.told.now)), c.loop-telling.invariant)
