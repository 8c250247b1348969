use Rattle.std.proofs.Common.{rules, ap, ◌∙◌}
use Rattle.client_state.specs.Words.{commit_of_words, words_of_commit}
use Rattle.client_state.proofs.WordLemmas.{commit-back}
use Rattle.client_state.proofs.commit.Commit.row.Goals as goal

pub returns-clause-words : goal.returns-clause-words
unfolding words_of_commit
returns-clause-words c = search rules

pub returns-clause-reads_back : goal.returns-clause-reads_back
returns-clause-reads_back c = λ tidy.
    ap commit_of_words (returns-clause-words c) ∙ commit-back c.args.self.now tidy
