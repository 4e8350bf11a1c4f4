use Rattle.std.proofs.Common.{◌≡◌, ◌∙◌, ◌++◌, ◌+◌, ◌<◌, ℕ, List, length, refl, ap, sym, subst, arith}
use Rattle.std.specs.List.{All}
use Rattle.warp_stores.specs.Words.{Move}
use Rattle.warp_stores.specs.Dated.{at}
use Rattle.warp_gates.specs.Cells as cells
use Rattle.warp_gates.specs.Cells.{Gates, ArePut, put_of, puts_at, value_at}
use Rattle.warp_gates.specs.declared.put.Put.{Put}
use Rattle.place_moves.specs.Journals.{step_words, IsStep}
use Rattle.warp_journal.specs.Books.{Book, Parts, MayPlay, HasPlayed, HasStayed, all_of, journal_of}
use Rattle.warp_journal.specs.Inner.Parts.{AreStepped, words_of, AreTakenBack}
use Rattle.warp_journal.proofs.Parting.{many_all, read-within, read-up_to_all, back-many, back_each, on_ok, on_err}
use Rattle.warp_journal.proofs.Stepped.{asks_apart, asks_read, asks_words, asks_history, asks_queues, puts_queue, puts_within, step_is, stayed, taken_is, sent_all}
use Rattle.warp_journal.proofs.journal.Journal.step.Goals as goal

pub take_words-requires-clause-apart : goal.take_words-requires-clause-apart
take_words-requires-clause-apart c =
    let b : Book = record { mark = c.self.inside.mark; gates = c.self.inside.gates; queues = c.self.inside.queues; history = c.self.inside.history } in
    asks_apart c.args.outside.now b (subst (λ (b : Book). MayPlay b.mark c.args.outside.now b) (sym c.self.view_is) c.requires.may)

pub take_words-requires-clause-read : goal.take_words-requires-clause-read
take_words-requires-clause-read c =
    let b : Book = record { mark = c.self.inside.mark; gates = c.self.inside.gates; queues = c.self.inside.queues; history = c.self.inside.history } in
    asks_read c.args.outside.now b (subst (λ (b : Book). MayPlay b.mark c.args.outside.now b) (sym c.self.view_is) c.requires.may)

pub step-requires-clause-words : goal.step-requires-clause-words
step-requires-clause-words c =
    let b : Book = record { mark = c.self.inside.mark; gates = c.self.inside.gates; queues = c.self.inside.queues; history = c.self.inside.history } in
    let asked : cells.AreApart (step_words (journal_of b) c.args.outside.now) × All (λ (w : Move). w.place < length b.gates.cells) (step_words (journal_of b) c.args.outside.now) =
    asks_words c.args.outside.now b (subst (λ (b : Book). MayPlay b.mark c.args.outside.now b) (sym c.self.view_is) c.requires.may) in
    subst (All (λ (w : Move). w.place < length c.self.inside.gates.cells)) (sym (c.as_slice.ensures.value ∙ c.in_ok-take_words.ensures.words)) asked.1

pub step-requires-clause-apart : goal.step-requires-clause-apart
step-requires-clause-apart c =
    let b : Book = record { mark = c.self.inside.mark; gates = c.self.inside.gates; queues = c.self.inside.queues; history = c.self.inside.history } in
    let asked : cells.AreApart (step_words (journal_of b) c.args.outside.now) × All (λ (w : Move). w.place < length b.gates.cells) (step_words (journal_of b) c.args.outside.now) =
    asks_words c.args.outside.now b (subst (λ (b : Book). MayPlay b.mark c.args.outside.now b) (sym c.self.view_is) c.requires.may) in
    subst cells.AreApart (sym (c.as_slice.ensures.value ∙ c.in_ok-take_words.ensures.words)) asked.0

pub book_step-answer-requires-clause-queue : goal.book_step-answer-requires-clause-queue
book_step-answer-requires-clause-queue c =
    let b : Book = record { mark = c.self.inside.mark; gates = c.self.inside.gates; queues = c.self.inside.queues; history = c.self.inside.history } in
    subst (λ (n : ℕ). All (λ (p : Put). p.queue < n) c.as_slice-3.result.now) (sym (read-within b.mark b.queues c.take_words.new.queues c.in_ok-take_words.ensures.read))
    (subst (All (λ (p : Put). p.queue < length (all_of b.queues))) (sym c.as_slice-3.ensures.value)
    (puts_queue c.args.outside.now b (subst (λ (b : Book). MayPlay b.mark c.args.outside.now b) (sym c.self.view_is) c.requires.may) c.step.new.self c.step.new.puts.items c.law-2.ensures.gates c.in-Ok.ensures.cells c.in-Ok.ensures.outputs
    (sent_all c.self.inside.gates c.step.new.self c.clear.new.self.items c.step.new.puts.items c.clear.ensures.items c.in-Ok.ensures.puts)))

pub book_step-answer-requires-clause-order : goal.book_step-answer-requires-clause-order
book_step-answer-requires-clause-order c =
    let b : Book = record { mark = c.self.inside.mark; gates = c.self.inside.gates; queues = c.self.inside.queues; history = c.self.inside.history } in
    read-up_to_all b.mark b.queues c.take_words.new.queues c.in_ok-take_words.ensures.read
    (asks_queues c.args.outside.now b (subst (λ (b : Book). MayPlay b.mark c.args.outside.now b) (sym c.self.view_is) c.requires.may))

pub book_step-answer-requires-clause-came : goal.book_step-answer-requires-clause-came
book_step-answer-requires-clause-came c =
    let b : Book = record { mark = c.self.inside.mark; gates = c.self.inside.gates; queues = c.self.inside.queues; history = c.self.inside.history } in
    asks_history c.args.outside.now b (subst (λ (b : Book). MayPlay b.mark c.args.outside.now b) (sym c.self.view_is) c.requires.may)

pub take_back-requires-clause-words : goal.take_back-requires-clause-words
take_back-requires-clause-words c =
    let b : Book = record { mark = c.self.inside.mark; gates = c.self.inside.gates; queues = c.self.inside.queues; history = c.self.inside.history } in
    let asked : cells.AreApart (step_words (journal_of b) c.args.outside.now) × All (λ (w : Move). w.place < length b.gates.cells) (step_words (journal_of b) c.args.outside.now) =
    asks_words c.args.outside.now b (subst (λ (b : Book). MayPlay b.mark c.args.outside.now b) (sym c.self.view_is) c.requires.may) in
    subst (λ (cs : List cells.Cell). All (λ (w : Move). w.place < length cs) c.as_slice-in-Err-answer.result.now) (sym c.in-Ok.ensures.cells)
    (subst (All (λ (w : Move). w.place < length c.self.inside.gates.cells)) (sym (c.as_slice-in-Err-answer.ensures.value ∙ c.in_ok-take_words.ensures.words)) asked.1)

pub take_back-requires-clause-puts : goal.take_back-requires-clause-puts
take_back-requires-clause-puts c =
    let b : Book = record { mark = c.self.inside.mark; gates = c.self.inside.gates; queues = c.self.inside.queues; history = c.self.inside.history } in
    subst (λ (cs : List cells.Cell). All (λ (w : Move). w.place < length cs) (words_of c.as_slice-in-Err-answer-2.result.now)) (sym c.in-Ok.ensures.cells)
    (subst (λ (ps : List Put). All (λ (w : Move). w.place < length c.self.inside.gates.cells) (words_of ps)) (sym c.as_slice-in-Err-answer-2.ensures.value)
    (puts_within c.args.outside.now b (subst (λ (b : Book). MayPlay b.mark c.args.outside.now b) (sym c.self.view_is) c.requires.may) c.step.new.self c.step.new.puts.items c.law-2.ensures.gates c.in-Ok.ensures.cells c.in-Ok.ensures.outputs
    (sent_all c.self.inside.gates c.step.new.self c.clear.new.self.items c.step.new.puts.items c.clear.ensures.items c.in-Ok.ensures.puts)))

pub returns-in-Ok-answer-clause-ok : goal.returns-in-Ok-answer-clause-ok
returns-in-Ok-answer-clause-ok c =
    let b : Book = record { mark = c.self.inside.mark; gates = c.self.inside.gates; queues = c.self.inside.queues; history = c.self.inside.history } in
    let new : Book = record { mark = c.self.inside.mark + 1; gates = c.step.new.self; queues = c.book_step-answer.new.queues; history = c.book_step-answer.new.history } in
    let puts : c.as_slice-3.result.now ≡ c.step.new.puts.items = c.as_slice-3.ensures.value in
    let words : c.as_slice-2.result.now ≡ step_words (journal_of b) c.args.outside.now = c.as_slice-2.ensures.value ∙ c.in_ok-take_words.ensures.words in
    let stepped : AreStepped b.mark c.step.new.puts.items b.queues new.queues = subst (λ (ps : List Put). AreStepped b.mark ps b.queues new.queues) puts (c.in-Ok-answer.ensures.queues b.queues c.in_ok-take_words.ensures.read) in
    let is : IsStep (journal_of b) (journal_of new) (step_words (journal_of b) c.args.outside.now) c.step.new.puts.items =
    record {
      mark = omega arith;
      history = c.in-Ok-answer.ensures.history ∙ ap (λ (ws : List Move). b.history ++ at b.mark ws) words;
      law = c.law-2.ensures.gates;
      cells = c.in-Ok.ensures.cells;
      numbers = c.in-Ok.ensures.queues;
      values = c.in-Ok.ensures.values ∙ ap (λ (ws : List Move). cells.moved ws b.gates.values) (c.as_slice.ensures.value ∙ c.in_ok-take_words.ensures.words);
      outputs = c.in-Ok.ensures.outputs;
      each = sent_all c.self.inside.gates c.step.new.self c.clear.new.self.items c.step.new.puts.items c.clear.ensures.items c.in-Ok.ensures.puts;
      same = many_all b.queues new.queues stepped.many;
      queues = stepped.each;
    } in
    let played : HasPlayed b.mark c.args.outside.now b new =
    step_is c.args.outside.now b new c.step.new.puts.items is (record { cells = c.in-Ok.ensures.cells; numbers = c.in-Ok.ensures.queues; read = stepped.many.read; unread = stepped.many.unread }) in
    on_ok c.book_step-answer.result (subst (λ (o : Book). HasPlayed o.mark c.args.outside.now o new) c.self.view_is played)

pub returns-in-Err-answer-clause-err : goal.returns-in-Err-answer-clause-err
returns-in-Err-answer-clause-err c =
    let b : Book = record { mark = c.self.inside.mark; gates = c.self.inside.gates; queues = c.self.inside.queues; history = c.self.inside.history } in
    let new : Book = record { mark = c.self.inside.mark; gates = c.take_back.new.gates; queues = c.go_back.new.self; history = c.book_step-answer.new.history } in
    let half : Parts = c.book_step-answer.new.queues in
    let words : c.as_slice-in-Err-answer.result.now ≡ step_words (journal_of b) c.args.outside.now = c.as_slice-in-Err-answer.ensures.value ∙ c.in_ok-take_words.ensures.words in
    let stayed : HasStayed b.mark c.args.outside.now b new =
    taken_is c.args.outside.now b new
    (record {
      next = c.step.new.self;
      sent = c.step.new.puts.items;
      half = half;
      law = c.law-2.ensures.gates;
      cells = c.in-Ok.ensures.cells;
      numbers = c.in-Ok.ensures.queues;
      values = c.in-Ok.ensures.values ∙ ap (λ (ws : List Move). cells.moved ws b.gates.values) (c.as_slice.ensures.value ∙ c.in_ok-take_words.ensures.words);
      follow = c.in-Ok.ensures.outputs;
      each = sent_all c.self.inside.gates c.step.new.self c.clear.new.self.items c.step.new.puts.items c.clear.ensures.items c.in-Ok.ensures.puts;
      there =
          puts_queue c.args.outside.now b (subst (λ (b : Book). MayPlay b.mark c.args.outside.now b) (sym c.self.view_is) c.requires.may) c.step.new.self c.step.new.puts.items c.law-2.ensures.gates c.in-Ok.ensures.cells c.in-Ok.ensures.outputs
          (sent_all c.self.inside.gates c.step.new.self c.clear.new.self.items c.step.new.puts.items c.clear.ensures.items c.in-Ok.ensures.puts);
      stepped = c.in-Err-answer.ensures.half b.queues c.in_ok-take_words.ensures.read;
      mark = refl;
      history = c.in-Err-answer.ensures.err;
      law_back = c.law-in-Err-answer.ensures.gates;
      gates =
          subst (λ (ws : List Move). AreTakenBack ws (words_of c.step.new.puts.items) c.step.new.self c.take_back.new.gates) words
          (subst (λ (ps : List Put). AreTakenBack c.as_slice-in-Err-answer.result.now (words_of ps) c.step.new.self c.take_back.new.gates) c.as_slice-in-Err-answer-2.ensures.value c.take_back.ensures);
      many = back-many b.mark half c.go_back.new.self c.go_back.ensures.read c.go_back.ensures.unread;
      queues = back_each b.mark half c.go_back.new.self c.go_back.ensures.read c.go_back.ensures.unread;
    }) in
    on_err c.book_step-answer.result (subst (λ (o : Book). HasStayed o.mark c.args.outside.now o new) c.self.view_is stayed)

pub returns-in-Err-clause-err : goal.returns-in-Err-clause-err
returns-in-Err-clause-err c =
    let b : Book = record { mark = c.self.inside.mark; gates = c.self.inside.gates; queues = c.self.inside.queues; history = c.self.inside.history } in
    let back : c.put_back.new.self ≡ b.queues = c.put_back.ensures b.queues (asks_read c.args.outside.now b (subst (λ (b : Book). MayPlay b.mark c.args.outside.now b) (sym c.self.view_is) c.requires.may)) c.in_ok-take_words.ensures.read in
    let gates : c.step.new.self ≡ b.gates = c.in-Err.ensures.err in
    let new : Book = record { mark = c.self.inside.mark; gates = c.step.new.self; queues = c.put_back.new.self; history = c.self.inside.history } in
    let same : new ≡ b =
    ap (λ (g : Gates). record { mark = b.mark; gates = g; queues = c.put_back.new.self; history = b.history }) gates ∙ ap (λ (q : Parts). record { mark = b.mark; gates = b.gates; queues = q; history = b.history }) back in
    subst (λ (o : Book). HasStayed o.mark c.args.outside.now o new) c.self.view_is (stayed b.mark c.args.outside.now b new same)
