use Rattle.journal.proofs.writing.Cursor.+number.Given as goal

abbrev pub decreases-number : goal.decreases-number
decreases-number l = l.n
