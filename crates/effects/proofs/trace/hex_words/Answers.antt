use Rattle.std.proofs.Common.{ℕ, ◌<◌, true, List, ◌++◌, get_or, string_bytes, refl, ap, ◌∙◌, arith, rules}
use Rattle.std.proofs.lemmas.Fmt.{hex_byte}
use Rattle.std.proofs.lemmas.List.{append-nil}
use Rattle.reader.specs.Texts.{hex2}
use Rattle.effects.specs.Trace.{hex_bytes}
use Rattle.words.proofs.Growing.{grown, whole}
use Rattle.effects.proofs.trace.hex_words.Goals as goal

pub loop-byte-preserved : goal.loop-byte-preserved
unfolding hex2
loop-byte-preserved c =
    let byte = get_or c.args.bytes.now c.loop-byte.byte-index 0 in
    let fits : byte < 256 = omega (arith, c.type_inv.bytes c.loop-byte.byte-index) in
    let written = rw (c.in_radix.ensures, c.laid_out.ensures) at c.in_ok-write.ensures.bytes in
    grown hex_bytes hex_bytes c.args.bytes.now c.loop-byte.byte-index (string_bytes c.loop-byte.text) _ c.loop-byte.invariant 0 (hex2 byte) (string_bytes c.write.new.self) (search rules) refl
    (written ∙ ap (λ (z : List ℕ). string_bytes c.loop-byte.text ++ z) (hex_byte true byte fits))

pub returns : goal.returns
returns c = search (rules, append-nil, whole hex_bytes hex_bytes c.args.bytes.now c.loop-byte.byte-index (string_bytes c.loop-byte.text) _ c.loop-byte.invariant (search rules))
