-- The digits so far, and then those of the bytes that are left.
use Rattle.std.proofs.Common.{◌≡◌, ◌++◌, drop, string_bytes}
use Rattle.effects.specs.Trace.{hex_bytes}
use Rattle.effects.proofs.trace.hex_words.Given as goal

abbrev pub invariant-loop-byte : goal.invariant-loop-byte
invariant-loop-byte l = string_bytes l.text ++ hex_bytes (drop l.byte-index l.bytes) ≡ hex_bytes l.bytes
