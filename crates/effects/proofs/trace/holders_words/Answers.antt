use Rattle.std.proofs.Common.{◌≡◌, ℕ, Bool, true, false, [], ◌++◌, cond, codes, refl, string_bytes, rules}
use Rattle.std.proofs.lemmas.Result.{IfOk-weaker}
use Rattle.logins.specs.Logins.{free_row, holder}
use Rattle.logins.specs.declared.rows.LoginRow.{LoginRow}
use Rattle.tables.specs.Books.{book_of}
use Rattle.effects.specs.Trace.{hyphen, holder_text}
use Rattle.effects.proofs.Joining.{listed_so}
use Rattle.effects.proofs.trace.holders_words.Goals as goal

behind_comma : (first : Bool) (k : ℕ) (r : LoginRow) → cond first [] (codes ",") ++ holder_text true k r ≡ holder_text first k r
behind_comma true k r = refl
behind_comma false k r = refl

pub returns : goal.returns
returns c =
    IfOk-weaker c.joined.result _ _ (λ s e. listed_so holder holder_text hyphen (codes ",") (codes "-") free_row behind_comma (λ first. refl) _ _ (book_of c.args.tables.now).logins _ (string_bytes s) (search rules) (λ k o h p. search rules) e) c.joined.ensures
