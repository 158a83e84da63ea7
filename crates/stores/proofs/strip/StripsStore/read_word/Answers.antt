use Rattle.std.proofs.Common.{ap, ◌∙◌, arith}
use Rattle.rules.specs.Data.{value_of}
use Rattle.strip_bytes.specs.Strip.{first_get}
use Rattle.stores.proofs.InStrips.{in_count, in_strip}
use Rattle.stores.proofs.strip.StripsStore.read_word.Goals as goal

pub read_word-requires : goal.read_word-requires
read_word-requires c = let a = c.args in in_strip a.home.packet.0 a.home.pages _ c.requires.1 (omega arith) c.requires.0

pub returns : goal.returns
returns c =
    let a = c.args in
    c.read_word.ensures ∙ ap value_of (first_get a.home.packet.0 a.home.pages c.requires.0.few 2 a.at.0 a.memory.now (in_count a.home.packet.0 a.home.pages _ c.requires.1))
