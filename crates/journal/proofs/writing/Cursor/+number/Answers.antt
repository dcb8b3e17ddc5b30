-- The lowest group first, then the code of what is above it.
use Rattle.std.proofs.Common.{◌/◌, ◌%◌, ◌+◌, [], ◌∷◌, sym, subst, arith}
use Rattle.journal.specs.Areas.{Room, Wrote}
use Rattle.journal.specs.Numbers.{code}
use Rattle.journal.proofs.Codes.{code_last, code_more}
use Rattle.journal.proofs.Writes.{room_first, room_then, wrote_then}
use Rattle.journal.proofs.writing.Cursor.+number.Goals as goal

pub byte-requires : goal.byte-requires
byte-requires t c = subst (Room c.args.self.now) (code_last c.args.n c.if-n-lt128.true) c.requires

pub returns-then-n-lt128 : goal.returns-then-n-lt128
returns-then-n-lt128 t c = subst (Wrote c.args.self.now c.byte.new.self) (sym (code_last c.args.n c.if-n-lt128.true)) c.byte.ensures

pub byte-requires-2 : goal.byte-requires-2
byte-requires-2 t c =
    let n = c.args.n in
    room_first c.args.self.now ((n % 128 + 128) ∷ []) (code (n / 128)) (subst (Room c.args.self.now) (code_more n c.if-n-lt128.false) c.requires)

pub number-requires : goal.number-requires
number-requires t c =
    let n = c.args.n in
    (omega arith, room_then c.args.self.now ((n % 128 + 128) ∷ []) (code (n / 128)) (subst (Room c.args.self.now) (code_more n c.if-n-lt128.false) c.requires) c.byte-2.new.self c.byte-2.ensures)

pub returns : goal.returns
returns t c =
    let n = c.args.n in
    let more = code_more n c.if-n-lt128.false in
    subst (Wrote c.args.self.now c.number.new.self) (sym more) (
    wrote_then c.args.self.now ((n % 128 + 128) ∷ []) (code (n / 128)) (subst (Room c.args.self.now) more c.requires) c.byte-2.new.self c.byte-2.ensures c.number.new.self c.number.ensures
    )
