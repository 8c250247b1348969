use Rattle.std.proofs.Common.{◌<◌, ◌^◌, rules, ap, sym, ◌∙◌}
use Rattle.client_state.specs.Words.{id_of_word, state_of_words, words_of_state}
use Rattle.client_state.proofs.WordLemmas.{state-again}
use Rattle.client_state.proofs.state.State.row.Goals as goal

pub returns-clause-words : goal.returns-clause-words
unfolding words_of_state
returns-clause-words c = search rules

pub returns-clause-reads_back : goal.returns-clause-reads_back
returns-clause-reads_back c = λ tidy.
    let few : c.args.self.now.peers < 2 ^ 32 = search rules in
    let session = ap id_of_word (sym c.word_of_id.ensures.value) ∙ c.word_of_id.ensures.reads_back in
    ap state_of_words (returns-clause-words c) ∙ state-again c.args.self.now tidy few session
