use Rattle.std.proofs.Common.{◌∙◌, rules}
use Rattle.std.proofs.lemmas.Iterator.{YieldsList-from_slice}
use Rattle.std.proofs.lemmas.Iterator.Consumers.{YieldsList-at, YieldsList-from_filter, count_from_yields_List}
use Rattle.logins.specs.Tests.{among}
use Rattle.tables.specs.Records.{mended}
use Rattle.tables.proofs.Counts.{counted_sound}
use Rattle.tables.proofs.tables.Tables.count_holders.Goals as goal
use borrow.Author.Tests.{tests}

pub returns : goal.returns
returns c =
    count_from_yields_List c.filter.result _ c.count.ensures.ran (YieldsList-from_filter _ (λ r. among c.args.holders (mended r)) (YieldsList-at c.filter.ensures.source (YieldsList-from_slice c.args.self.now.logins.entries (cc))) c.filter.ensures.closure (λ x b q k. search (rules, tests)))
    ∙ counted_sound (among c.args.holders) c.args.self.now.logins.entries c.args.self.now.sound
