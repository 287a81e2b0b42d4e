use borrow.Author.Rules.{rules}
use Rattle.codec_read.proofs.ListLaws.{list_octets, list_channels, list_users}
use Rattle.codec_read.proofs.read_list.Goals as goal
use Rattle.codec_read.proofs.read_list.Goals.{then-kind-eq1, else-kind-eq1}

pub returns-then-kind-eq3 : goal.returns-then-kind-eq3
returns-then-kind-eq3 c = list_octets _ c.args.from _ _ _ _ _ c.if-kind-eq3.true (search rules) (c.read_octets.ensures _)

pub returns : goal.returns
returns c =
    elim c.if-kind-eq1.branch [
      | then-kind-eq1 w ↦ list_channels _ c.args.from _ _ _ _ _ w.if-kind-eq1.true c.if-are_many.false (rw w.low-is at c.read_ids.ensures)
      | else-kind-eq1 w ↦ list_users _ c.args.from _ _ _ _ _ c.requires.2 c.if-kind-eq3.false w.if-kind-eq1.false c.if-are_many.false (rw w.low-is at c.read_ids.ensures)
    ]
