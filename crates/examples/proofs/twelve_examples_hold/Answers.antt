-- The rules compute.
use Rattle.std.proofs.Common.{refl}
use Rattle.bus.specs.Finding.{first_from}
use Rattle.journal.specs.Numbers.{code}
use Rattle.journal.specs.Reading.{number_at, entry_at}
use Rattle.journal.proofs.Entries.{entry_absent}
use Rattle.tables.specs.Searches.{next_free}
use Rattle.examples.proofs.twelve_examples_hold.Goals as goal

pub returns : goal.returns
unfolding first_from next_free code number_at entry_at
returns c =
    record {
      granted_bytes = refl;
      granted_block = refl;
      second_refused = refl;
      second_block = refl;
      held_refused = refl;
      waits_for_the_gap = refl;
      stands_through_four = refl;
      ends_at_the_fifth = refl;
      next_slot = refl;
      hold_of_7 = refl;
      hold_of_8 = refl;
      hold_of_9 = refl;
      short_granted = refl;
      short_hold = refl;
      too_short = refl;
      not_admitted = refl;
      no_such_unit = refl;
      nobody_there = refl;
      code_of_300 = refl;
      code_of_FFC2h = refl;
      not_shortest = entry_absent _ refl;
    }
