-- What a note is answered, and what there is after it. Assumes nothing.
use Rattle.std.specs.Prelude.{ℕ, Bool, cond, Ok, Err, Result}
use Rattle.reader.specs.declared.refusal.Refusal.{Refusal}
use Rattle.reader.specs.declared.refusal.Refusal.TheVariants.{OutOfRange}

-- what a note is answered
abbrev pub Answer : Type 0
Answer = Result (Unit {0}) Refusal

abbrev pub granted : Answer
granted = Ok tt

-- what there is after a note: a refused one changes nothing
abbrev pub if_granted : {X : Type 0} → Answer → X → X → X
if_granted (Ok done) new old = new
if_granted (Err refusal) new old = old

-- of two tests, in their order, the first that refuses
abbrev pub first_refusal : Answer → Answer → Answer
first_refusal (Ok done) b = b
first_refusal (Err refusal) b = Err refusal

-- a value that does not fit is refused
abbrev pub in_range : Bool → ℕ → Answer
in_range fits value = cond fits granted (Err (OutOfRange value))
