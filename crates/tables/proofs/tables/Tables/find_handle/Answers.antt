use Rattle.std.proofs.Common.{◌∙◌, rules}
use Rattle.std.proofs.lemmas.Iterator.{YieldsList-from_slice}
use Rattle.std.proofs.lemmas.Iterator.Search.{position_from_yields_List}
use Rattle.logins.specs.Tests.{meant}
use Rattle.tables.proofs.Counts.{found_first}
use Rattle.tables.proofs.tables.Tables.find_handle.Goals as goal
use borrow.Author.Tests.{tests}

pub returns-clause-value : goal.returns-clause-value
returns-clause-value c =
    position_from_yields_List (meant c.args.login c.args.which) _ _ _ c.position.ensures.ran (YieldsList-from_slice c.args.self.now.handles.entries (cc)) (λ x b q k. search (rules, tests))
    ∙ found_first (meant c.args.login c.args.which) c.args.self.now.handles.entries
