use Rattle.rugxeni.proofs.NumberLaws.{said_of_and}
use Rattle.rugxeni.proofs.reading.say_reading.Goals as goal

pub returns : goal.returns
returns c = said_of_and c.args.answer c.and.ensures c.say_number.ensures
