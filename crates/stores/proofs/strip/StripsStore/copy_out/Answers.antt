use Rattle.std.specs.Prelude.{List, ℕ}
use Rattle.std.proofs.Common.{ap, ◌∙◌, arith}
use Rattle.rules.specs.Answers.{over}
use Rattle.strip_bytes.specs.Strip.{first_get}
use Rattle.stores.proofs.InStrips.{in_count, in_strip}
use Rattle.stores.proofs.strip.StripsStore.copy_out.Goals as goal

pub copy_out-requires : goal.copy_out-requires
copy_out-requires c = let a = c.args in (c.requires.0, in_strip a.home.packet.0 a.home.pages _ c.requires.2 (omega arith) c.requires.1)

pub returns : goal.returns
returns c =
    let a = c.args in
    c.copy_out.ensures
    ∙ ap (λ (l : List ℕ). over l a.out.now) (first_get a.home.packet.0 a.home.pages c.requires.1.few a.len 4 a.memory.now (omega (arith, in_count a.home.packet.0 a.home.pages _ c.requires.2)))
