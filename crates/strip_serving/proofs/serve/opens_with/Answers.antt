-- The part that is named, or document 01's.
use Rattle.std.proofs.Common.{ap, ◌∙◌}
use Rattle.state.specs.Meaning.{packets_of}
use Rattle.strip_serving.specs.First.{starts_named}
use Rattle.strip_serving.proofs.serve.opens_with.Goals as goal

pub returns : goal.returns
returns c e q = ap packets_of c.unwrap_or.ensures ∙ starts_named _ e q
