-- `explain_message::message::put_unread` meets its contract. Assumes nothing.
use Rattle.explain_message.proofs.PhraseLaws.{unread_none, unread_named, unread_number}
use Rattle.explain_words.specs.Letters.{ascii}
use Rattle.trace_io.proofs.Saying.{says_then, says_as}
use Rattle.explain_message.proofs.message.put_unread.Goals as goal

pub returns-then-octets-eq0 : goal.returns-then-octets-eq0
unfolding ascii
returns-then-octets-eq0 g c = says_as c.say.ensures (unread_none c.args.octets.now c.if-octets-eq0.true)

pub returns-then-number-lt43 : goal.returns-then-number-lt43
returns-then-number-lt43 g c = says_as c.say_named.ensures (unread_named c.args.octets.now c.wide-number.result c.if-octets-eq0.false c.wide-number.ensures.0 c.if-number-lt43.true)

pub returns : goal.returns
unfolding ascii
returns g c = says_as (says_then c.say-2.ensures c.say_number.ensures) (unread_number c.args.octets.now c.wide-number.result c.if-octets-eq0.false c.wide-number.ensures.0 c.if-number-lt43.false)
