use Rattle.rugxeni.proofs.CallLaws.{load-short, load_done}
use Rattle.rugxeni.proofs.loading.rugxeni_load.Goals as goal

pub returns-then-numbers-lt22 : goal.returns-then-numbers-lt22
returns-then-numbers-lt22 c = load-short c.if-numbers-lt22.true c.say_short.ensures

pub returns : goal.returns
returns c = load_done c.if-numbers-lt22.false c.ledger_in.result c.load_sheet-loaded.result c.ledger_in.ensures c.load_sheet-loaded.ensures c.is_taken.ensures c.keep_ledger.ensures c.say_taken.ensures
