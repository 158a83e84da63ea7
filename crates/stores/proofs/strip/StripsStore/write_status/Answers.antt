use Rattle.std.specs.Prelude.{[], ◌∷◌}
use Rattle.std.proofs.Common.{◌∙◌, arith}
use Rattle.rules.specs.Bits.{low_byte, high_byte}
use Rattle.strip_bytes.specs.Strip.{first_put}
use Rattle.stores.proofs.InStrips.{in_count, in_strip}
use Rattle.stores.proofs.strip.StripsStore.write_status.Goals as goal

pub write_word-requires : goal.write_word-requires
write_word-requires c = let a = c.args in in_strip a.home.packet.0 a.home.pages 2 c.requires.1 (omega arith) c.requires.0

pub returns : goal.returns
returns c =
    let a = c.args in
    c.write_word.ensures ∙ first_put a.home.packet.0 a.home.pages c.requires.0.few (low_byte a.status ∷ high_byte a.status ∷ []) 0 a.memory.now (in_count a.home.packet.0 a.home.pages 2 c.requires.1)
