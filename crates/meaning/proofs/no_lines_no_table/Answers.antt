use Rattle.meaning.proofs.Plain.{no_lines_no_table}
use Rattle.meaning.proofs.no_lines_no_table.Goals as goal

pub returns : goal.returns
returns c = no_lines_no_table
