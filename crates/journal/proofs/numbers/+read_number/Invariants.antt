use Rattle.journal.proofs.numbers.+read_number.Given as goal

abbrev pub decreases-read-number : goal.decreases-read-number
decreases-read-number l = l.bits
