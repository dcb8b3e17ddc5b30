-- The code goes by the kind byte as the definition does.
use Rattle.std.proofs.Common.{sym, ◌∙◌, arith, rules}
use Rattle.journal.proofs.Fronts.{kind_at, kind_unknown, entry_none}
use Rattle.journal.proofs.reading.read_kind.Goals as goal
use Rattle.journal.proofs.reading.read_kind.Goals.{in_default-via-then-bytes-lt1, in_default-via-else-bytes-lt1+in_default-1}

pub returns-in-1 : goal.returns-in-1
returns-in-1 c = c.read_request.ensures ∙ sym (kind_at 1 c.args.bytes.now (search rules) (search rules))

pub returns-in-2 : goal.returns-in-2
returns-in-2 c = sym (kind_at 2 c.args.bytes.now (search rules) (search rules))

pub returns-in-3 : goal.returns-in-3
returns-in-3 c = sym (kind_at 3 c.args.bytes.now (search rules) (search rules))

pub returns-in-4 : goal.returns-in-4
returns-in-4 c = sym (kind_at 4 c.args.bytes.now (search rules) (search rules))

pub returns-in-5 : goal.returns-in-5
returns-in-5 c = sym (kind_at 5 c.args.bytes.now (search rules) (search rules))

pub returns-in-6 : goal.returns-in-6
returns-in-6 c = sym (kind_at 6 c.args.bytes.now (search rules) (search rules))

pub returns-in-7 : goal.returns-in-7
returns-in-7 c = c.read_bus_note.ensures ∙ sym (kind_at 7 c.args.bytes.now (search rules) (search rules))

pub returns-in-8 : goal.returns-in-8
returns-in-8 c = c.read_pair_note.ensures ∙ sym (kind_at 8 c.args.bytes.now (search rules) (search rules))

pub returns-in-9 : goal.returns-in-9
returns-in-9 c = c.read_stop_note.ensures ∙ sym (kind_at 9 c.args.bytes.now (search rules) (search rules))

pub returns-in_default : goal.returns-in_default
returns-in_default c =
    elim c.in_default.branch [
      | in_default-via-then-bytes-lt1 w ↦ sym (entry_none c.args.bytes.now (search rules))
      | in_default-via-else-bytes-lt1+in_default-1 w ↦ sym (kind_unknown c.args.bytes.now (search rules) (λ j a b e. omega arith))
    ]
