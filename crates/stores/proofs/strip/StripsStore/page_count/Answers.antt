use Rattle.std.specs.Prelude.{◌*◌}
use Rattle.std.proofs.Common.{sym}
use Rattle.lists.specs.UpFrom.{length_up}
use Rattle.stores.proofs.strip.StripsStore.page_count.Goals as goal

pub returns : goal.returns
returns c = sym (length_up (8 * c.args.home.packet.0) c.args.home.pages)
