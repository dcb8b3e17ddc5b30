use Rattle.std.proofs.Common.{◌∙◌, rules}
use Rattle.std.proofs.lemmas.Iterator.{YieldsList-from_slice}
use Rattle.std.proofs.lemmas.Iterator.Consumers.{YieldsList-at, YieldsList-from_filter, count_from_yields_List}
use Rattle.logins.specs.Rows.{in_use}
use Rattle.tables.proofs.Counts.{counted}
use Rattle.tables.proofs.tables.Tables.count_handles.Goals as goal
use borrow.Author.Tests.{tests}

pub returns : goal.returns
returns c =
    count_from_yields_List c.filter.result _ c.count.ensures.ran (YieldsList-from_filter _ in_use (YieldsList-at c.filter.ensures.source (YieldsList-from_slice c.args.self.now.handles.entries (cc))) c.filter.ensures.closure (λ x b q k. search (rules, tests)))
    ∙ counted in_use c.args.self.now.handles.entries
