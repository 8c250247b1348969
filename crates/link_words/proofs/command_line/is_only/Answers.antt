use Rattle.std.proofs.Common.{◌≡◌, length, arith}
use Rattle.link_words.proofs.CommandLemmas.{one_word}
use Rattle.link_words.proofs.command_line.is_only.Goals as goal

pub returns : goal.returns
returns c =
    let e : length c.args.words.now ≡ 1 = omega arith in
    one_word c.args.words.now c.word-item.result _ c.eq.result e c.word-item.is (rw c.word.ensures at rw c.as_str.ensures.value at c.eq.ensures)
