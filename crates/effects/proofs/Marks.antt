-- A mark is told as a number. Assumes nothing.
use Rattle.std.proofs.Common.{◌≡◌, ℕ, Bool, true, false, decimal, ap, ◌∙◌, arith}
use mir.Val.{bool_byte}
use Rattle.std.proofs.lemmas.Fmt.{decimal_digit}
use Rattle.effects.specs.Trace.{mark_text}

told : (b : Bool) → decimal (bool_byte b) ≡ mark_text b
told true = decimal_digit 1 (omega arith)
told false = decimal_digit 0 (omega arith)

pub mark_told : (n : ℕ) (b : Bool) → n ≡ bool_byte b → decimal n ≡ mark_text b
mark_told n b e = ap decimal e ∙ told b
