use Rattle.link_words.proofs.CommandLemmas.{first_word}
use Rattle.link_words.proofs.command_line.begins_with.Goals as goal

pub returns : goal.returns
returns c =
    first_word c.args.words.now c.first-item.result _ c.eq.result c.in-len1-up.len_at_least c.first-item.is (rw c.word.ensures at rw c.as_str.ensures.value at c.eq.ensures)
