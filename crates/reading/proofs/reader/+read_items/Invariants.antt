use Rattle.reading.proofs.reader.+read_items.Given as goal

abbrev pub decreases-read_items : goal.decreases-read_items
decreases-read_items l = l.room
