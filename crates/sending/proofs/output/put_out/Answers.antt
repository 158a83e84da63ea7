-- The data goes out first, and what ends it behind it.
use Rattle.on_wire.specs.Data.{puts_data}
use Rattle.sending.proofs.output.put_out.Goals as goal

pub returns : goal.returns
returns g c =
    let a = c.args in
    puts_data a.tcr a.count (g.L.Store.pages_in a.home) a.memory.now c.read_byte-control.result c.send_length-len.result a.out.now c.read_byte-control.ensures c.send_length-len.ensures.0 c.copy_out.ensures c.end_out.ensures
