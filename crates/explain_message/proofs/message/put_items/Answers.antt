-- `explain_message::message::put_items` meets its contract, by what the items are. Assumes nothing.
use Rattle.explain_message.specs.Messages.{items_texts}
use Rattle.explain_message.proofs.PhraseLaws.{all_behind}
use Rattle.explain_message.proofs.message.put_items.Goals as goal

pub returns-in-Octets : goal.returns-in-Octets
unfolding items_texts
returns-in-Octets g c = rw (c.in-Octets.is, ← c.min-from.ensures) (rw all_behind at c.put_octets.ensures)

pub returns-in-Ids : goal.returns-in-Ids
unfolding items_texts
returns-in-Ids g c = rw (c.in-Ids.is, ← c.min-end.ensures) c.put_list.ensures
