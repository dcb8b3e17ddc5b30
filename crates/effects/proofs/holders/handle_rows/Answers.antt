use Rattle.std.proofs.Common.{◌≡◌, ℕ, ◌+◌, Bool, true, false, List, [], ◌∷◌, ◌++◌, cond, refl, ap, ◌∙◌, string_bytes, rules}
use Rattle.std.proofs.lemmas.Result.{IfOk-weaker}
use Rattle.logins.specs.Rows.{free_handle, in_use}
use Rattle.logins.specs.declared.rows.Handle.{Handle}
use Rattle.tables.specs.Books.{book_of}
use Rattle.effects.specs.Holders.{handle_line, handle_lines}
use Rattle.effects.specs.Lists.{listed}
use Rattle.effects.proofs.Joining.{listed_so, no_separator}
use Rattle.effects.proofs.holders.handle_rows.Goals as goal

line : Bool → ℕ → Handle → List ℕ
line first k h = handle_line k h

nothing : Bool → List ℕ
nothing first = []

no_end : (first : Bool) → cond first [] [] ≡ nothing first
unfolding nothing
no_end true = refl
no_end false = refl

same_lines : (first : Bool) (k : ℕ) (hs : List Handle) → listed in_use line nothing first k hs ≡ handle_lines k hs
unfolding line nothing
same_lines first k [] = refl
same_lines first k (h ∷ hs) = go (in_use h) (λ f. same_lines f (k + 1) hs) where
  go : (b : Bool) → ((f : Bool) → listed in_use line nothing f (k + 1) hs ≡ handle_lines (k + 1) hs)
      → cond b (handle_line k h ++ listed in_use line nothing false (k + 1) hs) (listed in_use line nothing first (k + 1) hs) ≡ cond b (handle_line k h ++ handle_lines (k + 1) hs) (handle_lines (k + 1) hs)
  go true same = ap (λ (z : List ℕ). handle_line k h ++ z) (same false)
  go false same = same first

pub returns : goal.returns
unfolding line
returns c =
    IfOk-weaker c.joined.result _ _ (λ s e. listed_so in_use line nothing [] [] free_handle (λ first k h. no_separator first (handle_line k h)) no_end _ _ (book_of c.args.tables.now).handles _ (string_bytes s) (search rules) (λ k o h p. search rules) e ∙ same_lines true 0 (book_of c.args.tables.now).handles) c.joined.ensures
