use Rattle.std.proofs.Common.{◌≡◌, ◌++◌, [], ◌+◌, ◌∷◌, get_or, drop, drop-cons, ap, ◌∙◌, add-one, string_bytes}
use Rattle.std.proofs.lemmas.List.{drop_all}
use Rattle.finding_words.specs.declared.sentences.Piece.TheVariants.{Text}
use Rattle.finding_words.proofs.Answering.{goes_on, ends}
use Rattle.finding_words.proofs.sentences.sentence.Goals as goal

pub loop-piece-preserved : goal.loop-piece-preserved
loop-piece-preserved c =
    let pieces = c.args.pieces.now in
    let i = c.loop-piece.piece-index in
    let first : drop i pieces ≡ get_or pieces i (Text (record { ref_ptr = (0, 0); now = [] })) ∷ drop (i + 1) pieces = rw add-one (drop-cons pieces i (Text (record { ref_ptr = (0, 0); now = [] })) c.loop-piece-test.true) in
    let longer : string_bytes c.push_str.new.self ≡ string_bytes c.loop-piece.text ++ string_bytes c.in_ok-written.written =
    c.in_ok-push_str.ensures.bytes ∙ ap (λ more. string_bytes c.loop-piece.text ++ more) c.as_str.ensures.value in
    goes_on pieces (drop i pieces) (drop (i + 1) pieces) (get_or pieces i (Text (record { ref_ptr = (0, 0); now = [] }))) (string_bytes c.loop-piece.text) (string_bytes c.in_ok-written.written) (string_bytes c.push_str.new.self)
    first c.in_ok-written.ensures longer c.loop-piece.invariant

pub returns : goal.returns
returns c =
    let none : drop c.loop-piece.piece-index c.args.pieces.now ≡ [] = drop_all c.loop-piece.piece-index c.args.pieces.now c.loop-piece-test.false in
    ends c.args.pieces.now (drop c.loop-piece.piece-index c.args.pieces.now) (string_bytes c.loop-piece.text) none c.loop-piece.invariant
