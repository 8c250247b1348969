use Rattle.link_text.proofs.FitLemmas.{says_fit, says_few}
use Rattle.link_text.proofs.laws.scripts_fit_nodes.Goals as goal

pub returns-clause-fit : goal.returns-clause-fit
returns-clause-fit c = says_fit

pub returns-clause-few : goal.returns-clause-few
returns-clause-few c = says_few
