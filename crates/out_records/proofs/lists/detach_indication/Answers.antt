use Rattle.out_records.proofs.Laying.{put_then}
use Rattle.out_records.proofs.Wire.{wire_DUin, put_listing, put_unlisted}
use borrow.Author.Rules.{rules}
use Rattle.out_records.proofs.lists.detach_indication.Goals as goal

pub returns-then-ids-le-LIST_LIMIT : goal.returns-then-ids-le-LIST_LIMIT
returns-then-ids-le-LIST_LIMIT c = let a = c.args in
    put_listing _ _ (search rules) (rw (wire_DUin a.ids.now (search rules) a.reason (search rules)) (put_then c.lay-at.ensures c.lay_ids.ensures))

pub returns : goal.returns
returns c = put_unlisted _ _ (search rules)
