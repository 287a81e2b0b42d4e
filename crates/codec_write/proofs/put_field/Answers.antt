use Rattle.codec_table.proofs.ColumnLaws.{kind_rest, none_of}
use Rattle.codec_table.specs.Columns.{field_of}
use Rattle.codec_write.proofs.FieldLaws.{item_field}
use mathlib.Core.Path.{ap}
use Rattle.codec_write.proofs.put_field.Goals as goal

pub returns-in-4 : goal.returns-in-4
unfolding field_of
returns-in-4 c = item_field c.requires _ (ap field_of c.in-4.is) c.put_id.ensures

pub returns-in-5 : goal.returns-in-5
unfolding field_of
returns-in-5 c = item_field c.requires _ (ap field_of c.in-5.is) c.put_id-in-5.ensures

pub returns-in-6 : goal.returns-in-6
unfolding field_of
returns-in-6 c = item_field c.requires _ (ap field_of c.in-6.is) c.put_id-in-6.ensures

pub returns-in_default : goal.returns-in_default
returns-in_default c = item_field c.requires _ (kind_rest c.args.kind (none_of 7 c.in_default.in_default-own.rest)) c.put_number.ensures
