-- Numbers of records from the answers to those that are calls: how the listing is written, once the calls are answered. Assumes nothing.
use Rattle.std.specs.Prelude.{ℕ, List, [], ◌∷◌, drop, Ok, Err, Result, slice_index_or}
use Rattle.reader.specs.Refusals.{number}
use Rattle.reader.specs.declared.refusal.Refusal.{Refusal}
use Rattle.bus.specs.Meaning.{Answer, granted}
use Rattle.agent.specs.Exchanges.{status_of}
use Rattle.journal.specs.Entries.{Entry}
use Rattle.replay.specs.Cabinets.{CabinetCall}
use Rattle.replay.specs.Calls.{call_of}

-- a call takes the next answer; one that is no call has its own number
abbrev pub next_number : Result CabinetCall Refusal → List Answer → ℕ
next_number (Ok call) given = status_of (slice_index_or given 0 granted)
next_number (Err refusal) given = number refusal

abbrev pub answers_left : Result CabinetCall Refusal → List Answer → List Answer
answers_left (Ok call) given = drop 1 given
answers_left (Err refusal) given = given

abbrev pub numbers_from : List Answer → List Entry → List ℕ
numbers_from given [] = []
numbers_from given (e ∷ es) = next_number (call_of e) given ∷ numbers_from (answers_left (call_of e) given) es
