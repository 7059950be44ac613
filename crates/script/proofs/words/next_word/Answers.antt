-- `script::words::next_word` meets its contract: where the word starts, and where it ends.
use Rattle.script.proofs.WordPlaces.{word_is, word_inside}
use Rattle.script.proofs.words.next_word.Goals as goal

pub returns-clause-word : goal.returns-clause-word
returns-clause-word c = word_is c.args.line.now c.args.at c.word_start-start.ensures c.place_of-end.ensures

pub returns-clause-in_line : goal.returns-clause-in_line
returns-clause-in_line c = let a = c.args in
    rw (word_is a.line.now a.at c.word_start-start.ensures c.place_of-end.ensures) (word_inside a.line.now a.at)
