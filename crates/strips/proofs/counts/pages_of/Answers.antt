use Rattle.std.proofs.Common.{arith}
use Rattle.std.proofs.lemmas.Grind.{common_steps}
use Rattle.std.proofs.lemmas.Option.{gets}
use Rattle.state.specs.Pages.{strip_count}
use Rattle.strips.proofs.counts.pages_of.Goals as goal

pub returns-clause-pages : goal.returns-clause-pages
returns-clause-pages c = grind (arith, common_steps, gets, strip_count)
