use Rattle.std.proofs.Common.{◌≡◌, ℕ, Bool, true, false, [], ◌++◌, cond, codes, refl, string_bytes, rules}
use Rattle.std.proofs.lemmas.Result.{IfOk-weaker}
use Rattle.logins.specs.Rows.{free_handle, in_use}
use Rattle.logins.specs.declared.rows.Handle.{Handle}
use Rattle.tables.specs.Books.{book_of}
use Rattle.effects.specs.Trace.{hyphen, node_handle_text}
use Rattle.effects.proofs.Joining.{listed_so}
use Rattle.effects.proofs.trace.handles_words.Goals as goal

behind_comma : (first : Bool) (k : ℕ) (h : Handle) → cond first [] (codes ",") ++ node_handle_text true k h ≡ node_handle_text first k h
behind_comma true k h = refl
behind_comma false k h = refl

pub returns : goal.returns
returns c =
    IfOk-weaker c.joined.result _ _ (λ s e. listed_so in_use node_handle_text hyphen (codes ",") (codes "-") free_handle behind_comma (λ first. refl) _ _ (book_of c.args.tables.now).handles _ (string_bytes s) (search rules) (λ k o h p. search rules) e) c.joined.ensures
