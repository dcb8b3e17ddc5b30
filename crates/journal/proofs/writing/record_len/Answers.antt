-- Each field adds its own bytes.
use Rattle.std.proofs.Common.{◌≡◌, ℕ, Bool, true, false, List, ◌++◌, length, ap, arith}
use Rattle.std.proofs.lemmas.List.{length-append}
use Rattle.journal.specs.Entries.{entry, entry_code, mark}
use Rattle.journal.specs.Numbers.{code}
use Rattle.journal.specs.declared.record.Record.{Record}
use Rattle.journal.proofs.Codes.{code_last}
use Rattle.journal.proofs.writing.record_len.Goals as goal

bytes_of : Record → ℕ
bytes_of r = length (entry_code (entry r))

one_bit : (b : Bool) → length (code (mark b)) ≡ 1
one_bit true = ap length (code_last 1 (omega arith))
one_bit false = ap length (code_last 0 (omega arith))

pub returns-in-Request : goal.returns-in-Request
unfolding bytes_of
returns-in-Request c =
    let a : List ℕ = code c.in-Request.source.0 in
    let b : List ℕ = code c.in-Request.orb_address in
    let z : List ℕ = c.in-Request.orb.now in
    let is = ap bytes_of c.in-Request.is in
    record {
      value = omega (arith, is, length-append a (b ++ z), length-append b z);
      bound = omega arith;
      within = rw c.in-Request.is (c.half_len.ensures.fits, c.number_len.ensures.fits, omega arith);
    }

pub returns-in-BusNote : goal.returns-in-BusNote
unfolding bytes_of
returns-in-BusNote c =
    let a : List ℕ = code c.in-BusNote.node.0 in
    let b : List ℕ = code c.in-BusNote.eui_64.0 in
    let is = ap bytes_of c.in-BusNote.is in
    record {
      value = omega (arith, is, length-append a b);
      bound = omega arith;
      within = rw c.in-BusNote.is (c.half_len-in-BusNote.ensures.fits, c.number_len-in-BusNote.ensures.fits);
    }

pub returns-in-PairNote : goal.returns-in-PairNote
unfolding bytes_of
returns-in-PairNote c =
    let a : List ℕ = code c.in-PairNote.eui_64.0 in
    let b : List ℕ = code c.in-PairNote.unit in
    let z : List ℕ = code (mark c.in-PairNote.admitted) in
    let is = ap bytes_of c.in-PairNote.is in
    record {
      value = omega (arith, is, length-append a (b ++ z), length-append b z, one_bit c.in-PairNote.admitted);
      bound = omega arith;
      within = rw c.in-PairNote.is (c.number_len-in-PairNote.ensures.fits, c.half_len-in-PairNote.ensures.fits);
    }

pub returns-in-StopNote : goal.returns-in-StopNote
unfolding bytes_of
returns-in-StopNote c =
    let a : List ℕ = code c.in-StopNote.eui_64.0 in
    let z : List ℕ = code (mark c.in-StopNote.stopped) in
    let is = ap bytes_of c.in-StopNote.is in
    record {
      value = omega (arith, is, length-append a z, one_bit c.in-StopNote.stopped);
      bound = omega arith;
      within = rw c.in-StopNote.is c.number_len-in-StopNote.ensures.fits;
    }
