use Rattle.logic_terms.specs.View.{formula}
use Rattle.logic_text.proofs.Formulas.{line_word_bad, line_part_bad, line_end_bad, line_on, line_text}
use Rattle.logic_text.proofs.goal_reader.read_line.Goals as goal

pub returns-in-Err-clause-fault : goal.returns-in-Err-clause-fault
returns-in-Err-clause-fault c = line_word_bad c.args.word.now c.args.bytes.now c.args.at c.in-Err.to c.in-Err.ensures.place c.in-Err.ensures.fault

pub returns-in-Err-read_formula-clause-fault : goal.returns-in-Err-read_formula-clause-fault
returns-in-Err-read_formula-clause-fault c =
    line_part_bad c.args.word.now c.args.bytes.now c.args.at c.in-Ok.to c.in-Err-read_formula.fault c.in-Ok.ensures.text c.in-Err-read_formula.ensures.fault

pub returns-in-Err-read_word-clause-fault : goal.returns-in-Err-read_word-clause-fault
returns-in-Err-read_word-clause-fault c =
    line_end_bad c.args.word.now (formula c.in-Ok-read_formula.read.formula) c.args.bytes.now c.args.at c.in-Ok.to c.in-Ok-read_formula.read.to c.in-Err-read_word.to
    c.in-Ok.ensures.text c.in-Ok-read_formula.ensures.ok c.in-Err-read_word.ensures.place c.in-Err-read_word.ensures.fault

pub returns-in-Ok-read_word-clause-text : goal.returns-in-Ok-read_word-clause-text
returns-in-Ok-read_word-clause-text c =
    line_text c.args.word.now (formula c.in-Ok-read_formula.read.formula) c.args.bytes.now c.args.at c.in-Ok.to c.in-Ok-read_formula.read.to c.in-Ok-read_word.to
    c.in-Ok.ensures.text c.in-Ok-read_formula.ensures.ok c.in-Ok-read_word.ensures.text

pub returns-in-Ok-read_word-clause-on : goal.returns-in-Ok-read_word-clause-on
returns-in-Ok-read_word-clause-on c =
    line_on c.args.word.now (formula c.in-Ok-read_formula.read.formula) c.args.bytes.now c.args.at c.in-Ok.to c.in-Ok-read_formula.read.to c.in-Ok-read_word.to
    c.in-Ok.ensures.text c.in-Ok-read_formula.ensures.ok c.in-Ok-read_word.ensures.text
