use Rattle.std.proofs.Common.{true, [], codes, refl, string_bytes, rules}
use Rattle.std.proofs.lemmas.Result.{IfOk-weaker}
use Rattle.logins.specs.Logins.{free_row, holder}
use Rattle.tables.specs.Books.{book_of}
use Rattle.effects.specs.Holders.{no_holder, holder_line}
use Rattle.effects.proofs.Joining.{listed_so, no_separator}
use Rattle.effects.proofs.holders.holder_rows.Goals as goal

pub returns : goal.returns
returns c =
    IfOk-weaker c.joined.result _ _ (λ s e. listed_so holder holder_line no_holder [] (codes "    no holder\n") free_row (λ first k r. no_separator first (holder_line true k r)) (λ first. refl) _ _ (book_of c.args.tables.now).logins _ (string_bytes s) (search rules) (λ k o h p. search rules) e) c.joined.ensures
