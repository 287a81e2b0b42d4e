-- `explain_message::message::put_value` meets its contract, by the kind of the field. Assumes nothing.
use Rattle.explain_message.proofs.PhraseLaws.{value_at, value_other}
use Rattle.explain_message.specs.Messages.{value_text}
use Rattle.trace_io.proofs.Saying.{says_as}
use Rattle.explain_message.proofs.message.put_value.Goals as goal

pub returns-in-0 : goal.returns-in-0
unfolding value_text
returns-in-0 g c = says_as c.say_named.ensures (value_at 0 c.args.kind c.args.value c.in-0.is)

pub returns-in-1 : goal.returns-in-1
unfolding value_text
returns-in-1 g c = says_as c.say_named-in-1.ensures (value_at 1 c.args.kind c.args.value c.in-1.is)

pub returns-in-2 : goal.returns-in-2
unfolding value_text
returns-in-2 g c = says_as c.say_named-in-2.ensures (value_at 2 c.args.kind c.args.value c.in-2.is)

pub returns-in-3 : goal.returns-in-3
unfolding value_text
returns-in-3 g c = says_as c.say_named-in-3.ensures (value_at 3 c.args.kind c.args.value c.in-3.is)

pub returns-in_default : goal.returns-in_default
returns-in_default g c = let r = c.in_default.in_default-own.rest in says_as c.say_number.ensures (value_other c.args.kind c.args.value r.0.0.0.1 r.0.0.1 r.0.1 r.1)
