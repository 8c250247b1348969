use Rattle.std.proofs.Common.{arith}
use Rattle.triple_buffer.specs.Views.{reader_in}
use Rattle.triple_buffer.proofs.ReaderSteps.{checks}
use Rattle.triple_buffer.proofs.triple.Triple.check.Goals as goal

pub load-requires : goal.load-requires
load-requires g c =
    let wide = c.args.self.now.wide in
    let words = wide.words in
    (c.requires.table, omega arith, checks _ _ _ _ (reader_in c.args.seat.now.me.0) c.requires.reader)
