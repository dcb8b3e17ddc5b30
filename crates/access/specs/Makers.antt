-- A maker list: what it holds, and what an access change and a note make of that. Assumes nothing.
use Rattle.std.specs.Prelude.{◌≡◌, ℕ, ◌/◌, ◌%◌, ◌^◌, Bool, cond, not, ◌&&◌, Some, None, Err, Option, ◌==◌, nat_le}
use Rattle.reader.specs.declared.ids.Eui64.{Eui64}
use Rattle.reader.specs.declared.refusal.Refusal.TheVariants.{OutOfRange}
use Rattle.reader.specs.Ids.{none_eui}
use Rattle.notes.specs.Answers.{Answer, granted}
use Rattle.notes.specs.Held.{noting}
use Rattle.access.specs.declared.makers.MakerNote.{MakerNote}
use Rattle.access.specs.declared.makers.MakerList.{MakerList}
use Rattle.access.specs.Meaning.{AccessModel}
use Rattle.access.specs.Tables.{Noting, listed, new_tables, settled, note_answer, noted_in}

-- how many makers there may be
abbrev pub maker_places : ℕ
maker_places = 16

-- whether an entry is of a maker
abbrev pub is_of : MakerNote → ℕ → Bool
is_of n maker = n.maker == maker

-- a maker has 24 bits, and a mask of units 4
abbrev pub maker_range : MakerNote → Answer
maker_range n = cond (nat_le n.maker 0xFF_FFFF) (cond (nat_le n.units 15) granted (Err (OutOfRange n.units))) (Err (OutOfRange n.maker))

-- a mask of no unit takes the maker out
abbrev pub puts_in : MakerNote → Bool
puts_in n = not (n.units == 0)

-- the maker is the top 24 bits of an EUI-64
abbrev pub maker_of : Eui64 → ℕ
maker_of e = e.0 / 2 ^ 40

-- the units that an entry gives, and none where there is no entry
abbrev pub units_of : Option MakerNote → ℕ
units_of (Some n) = n.units
units_of None = 0

-- bit u of a mask is for unit u, and there are four units
abbrev pub in_mask : ℕ → ℕ → Bool
in_mask mask u = nat_le u 3 && mask / 2 ^ u % 2 == 1

abbrev pub maker_tables : MakerList → Noting MakerNote
maker_tables a = noting a.admitted

-- a new one admits nobody, and has no maker noted
abbrev pub new_makers : Noting MakerNote
new_makers = new_tables

abbrev pub maker_settled : Noting MakerNote → Noting MakerNote
maker_settled t = settled t

abbrev pub maker_answer : Noting MakerNote → MakerNote → Answer
maker_answer t n = note_answer is_of maker_places (maker_range n) t n.maker (puts_in n)

abbrev pub maker_noted : Noting MakerNote → MakerNote → Noting MakerNote
maker_noted t n = noted_in is_of maker_places (maker_range n) t n.maker n (puts_in n)

-- it admits whom its maker's entry that holds now gives the unit; all ones is nobody, of whatever maker
abbrev pub maker_admits : Noting MakerNote → Eui64 → ℕ → Bool
maker_admits t e u = not (none_eui e) && in_mask (units_of (listed is_of t.current (maker_of e))) u

abbrev pub maker_model : AccessModel MakerList MakerNote
maker_model = record {
  admits = λ a. maker_admits (maker_tables a);
  Changes = λ a b. maker_tables b ≡ maker_settled (maker_tables a);
  Notes = λ a n r b. (r ≡ maker_answer (maker_tables a) n) × (maker_tables b ≡ maker_noted (maker_tables a) n);
}
