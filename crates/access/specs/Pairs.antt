-- A pair table: what it holds, and what an access change and a note make of that. Assumes nothing.
use Rattle.std.specs.Prelude.{◌≡◌, ℕ, Bool, cond, ◌&&◌, is_some, Err, ◌==◌, nat_le}
use Rattle.reader.specs.declared.ids.Eui64.{Eui64}
use Rattle.reader.specs.declared.refusal.Refusal.TheVariants.{OutOfRange}
use Rattle.reader.specs.Ids.{none_eui}
use Rattle.notes.specs.Answers.{Answer, granted}
use Rattle.notes.specs.Held.{noting}
use Rattle.access.specs.declared.pairs.Pair.{Pair}
use Rattle.access.specs.declared.pairs.PairNote.{PairNote}
use Rattle.access.specs.declared.pairs.PairTable.{PairTable}
use Rattle.access.specs.Meaning.{AccessModel}
use Rattle.access.specs.Tables.{Noting, listed, new_tables, settled, note_answer, noted_in}

-- how many pairs there may be
abbrev pub pair_places : ℕ
pair_places = 64

abbrev pub same_pair : Pair → Pair → Bool
same_pair p q = p.eui.0 == q.eui.0 && p.unit == q.unit

-- a pair is of somebody and of a unit up to 3
abbrev pub pair_range : Pair → Answer
pair_range p = cond (none_eui p.eui) (Err (OutOfRange p.eui.0)) (cond (nat_le p.unit 3) granted (Err (OutOfRange p.unit)))

-- the pair that a note puts in or takes out
abbrev pub noted_pair : PairNote → Pair
noted_pair n = record { eui = n.eui_64; unit = n.unit }

abbrev pub pair_tables : PairTable → Noting Pair
pair_tables a = noting a.admitted

-- a new one admits nobody, and has no pair noted
abbrev pub new_pairs : Noting Pair
new_pairs = new_tables

abbrev pub pair_settled : Noting Pair → Noting Pair
pair_settled t = settled t

abbrev pub pair_answer : Noting Pair → PairNote → Answer
pair_answer t n = note_answer same_pair pair_places (pair_range (noted_pair n)) t (noted_pair n) n.admitted

abbrev pub pair_noted : Noting Pair → PairNote → Noting Pair
pair_noted t n = noted_in same_pair pair_places (pair_range (noted_pair n)) t (noted_pair n) (noted_pair n) n.admitted

-- it admits the pairs that hold now
abbrev pub pair_admits : Noting Pair → Eui64 → ℕ → Bool
pair_admits t e u = is_some (listed same_pair t.current (record { eui = e; unit = u }))

abbrev pub pair_model : AccessModel PairTable PairNote
pair_model = record {
  admits = λ a. pair_admits (pair_tables a);
  Changes = λ a b. pair_tables b ≡ pair_settled (pair_tables a);
  Notes = λ a n r b. (r ≡ pair_answer (pair_tables a) n) × (pair_tables b ≡ pair_noted (pair_tables a) n);
}
