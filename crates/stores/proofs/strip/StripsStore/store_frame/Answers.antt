use Rattle.std.proofs.Common.{◌∙◌}
use Rattle.rules.specs.Receive.{count_of}
use Rattle.strip_bytes.specs.Strip.{first_image}
use Rattle.stores.proofs.InStrips.{in_count, in_strip, some_count}
use Rattle.stores.proofs.strip.StripsStore.store_frame.Goals as goal

pub store_frame-requires : goal.store_frame-requires
store_frame-requires c = let a = c.args in (c.requires.0, in_strip a.home.packet.0 a.home.pages (count_of a.n) c.requires.2 (some_count a.n) c.requires.1)

pub returns : goal.returns
returns c =
    let a = c.args in
    c.store_frame.ensures ∙ first_image a.home.packet.0 a.home.pages c.requires.1.few a.status a.count a.n a.frame.now a.memory.now (in_count a.home.packet.0 a.home.pages (count_of a.n) c.requires.2)
