use Rattle.linecard.proofs.AnswerLaws.{answer_ok, answer_no}
use Rattle.linecard.proofs.ladlestorm_raw_message_number.Goals as goal

pub returns-in-Ok : goal.returns-in-Ok
returns-in-Ok c = answer_ok _ _ _ c.in-Ok.ensures

pub returns-in-Err : goal.returns-in-Err
returns-in-Err c = rw c.from.ensures (answer_no _ _ _ c.in-Err.ensures)
