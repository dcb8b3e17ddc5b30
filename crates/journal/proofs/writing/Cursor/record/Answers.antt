-- The kind byte and the fields, each behind the one before.
use Rattle.std.proofs.Common.{◌≡◌, ℕ, Bool, true, false, List, [], ◌∷◌, sym, refl, ap, ◌∙◌, subst}
use mir.Val.{bool_byte}
use Rattle.journal.specs.Areas.{Room, Wrote}
use Rattle.journal.specs.Entries.{entry, entry_code, mark}
use Rattle.journal.specs.Numbers.{code}
use Rattle.journal.specs.declared.record.Record.{Record}
use Rattle.journal.proofs.Writes.{wrote_three, wrote_four}
use Rattle.journal.proofs.writing.Cursor.record.Goals as goal

bytes_of : Record → List ℕ
bytes_of r = entry_code (entry r)

mark_byte : (b : Bool) → bool_byte b ≡ mark b
mark_byte true = refl
mark_byte false = refl

pub returns-in-Request : goal.returns-in-Request
unfolding bytes_of
returns-in-Request c =
    let is = ap bytes_of c.in-Request.is in
    subst (Wrote c.args.self.now c.orb.new.self) (sym is) (
    wrote_four c.args.self.now c.byte.new.self c.number.new.self c.number-in-Request.new.self c.orb.new.self (1 ∷ []) (code c.in-Request.source.0) (code c.in-Request.orb_address) c.in-Request.orb.now (subst (Room c.args.self.now) is c.requires)
    c.byte.ensures
    (subst (Wrote c.byte.new.self c.number.new.self) (ap code c.from.ensures) c.number.ensures)
    c.number-in-Request.ensures
    c.orb.ensures
    )

pub returns-in-BusNote : goal.returns-in-BusNote
unfolding bytes_of
returns-in-BusNote c =
    let is = ap bytes_of c.in-BusNote.is in
    subst (Wrote c.args.self.now c.number-in-BusNote-2.new.self) (sym is) (
    wrote_three c.args.self.now c.byte-in-BusNote.new.self c.number-in-BusNote.new.self c.number-in-BusNote-2.new.self (7 ∷ []) (code c.in-BusNote.node.0) (code c.in-BusNote.eui_64.0) (subst (Room c.args.self.now) is c.requires)
    c.byte-in-BusNote.ensures
    (subst (Wrote c.byte-in-BusNote.new.self c.number-in-BusNote.new.self) (ap code c.from-in-BusNote.ensures) c.number-in-BusNote.ensures)
    c.number-in-BusNote-2.ensures
    )

pub returns-in-PairNote : goal.returns-in-PairNote
unfolding bytes_of
returns-in-PairNote c =
    let is = ap bytes_of c.in-PairNote.is in
    subst (Wrote c.args.self.now c.number-in-PairNote-3.new.self) (sym is) (
    wrote_four c.args.self.now c.byte-in-PairNote.new.self c.number-in-PairNote.new.self c.number-in-PairNote-2.new.self c.number-in-PairNote-3.new.self (8 ∷ []) (code c.in-PairNote.eui_64.0) (code c.in-PairNote.unit) (code (mark c.in-PairNote.admitted)) (subst (Room c.args.self.now) is c.requires)
    c.byte-in-PairNote.ensures
    c.number-in-PairNote.ensures
    (subst (Wrote c.number-in-PairNote.new.self c.number-in-PairNote-2.new.self) (ap code c.from-in-PairNote.ensures) c.number-in-PairNote-2.ensures)
    (subst (Wrote c.number-in-PairNote-2.new.self c.number-in-PairNote-3.new.self) (ap code (c.from-in-PairNote-2.ensures ∙ mark_byte c.in-PairNote.admitted)) c.number-in-PairNote-3.ensures)
    )

pub returns-in-StopNote : goal.returns-in-StopNote
unfolding bytes_of
returns-in-StopNote c =
    let is = ap bytes_of c.in-StopNote.is in
    subst (Wrote c.args.self.now c.number-in-StopNote-2.new.self) (sym is) (
    wrote_three c.args.self.now c.byte-in-StopNote.new.self c.number-in-StopNote.new.self c.number-in-StopNote-2.new.self (9 ∷ []) (code c.in-StopNote.eui_64.0) (code (mark c.in-StopNote.stopped)) (subst (Room c.args.self.now) is c.requires)
    c.byte-in-StopNote.ensures
    c.number-in-StopNote.ensures
    (subst (Wrote c.number-in-StopNote.new.self c.number-in-StopNote-2.new.self) (ap code (c.from-in-StopNote.ensures ∙ mark_byte c.in-StopNote.stopped)) c.number-in-StopNote-2.ensures)
    )
