-- `forms::dot_rows_to` meets its contract, by its test.
use Rattle.std.proofs.Common.{sym}
use Rattle.forms.specs.Tables.{row_of}
use Rattle.forms.specs.RowsTo.{dot_past}
use Rattle.forms.proofs.dot_rows_to.Goals as goal

pub returns-else-t-n : goal.returns-else-t-n
returns-else-t-n c = sym (dot_past c.args.n (row_of c.args.u.now c.args.s) c.args.v.now c.requires.6 c.args.t c.if-t-n.false)
