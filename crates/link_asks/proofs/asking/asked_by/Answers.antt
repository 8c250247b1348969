use Rattle.std.proofs.Common.{◌≡◌, refl, inl, inr, subst, rules, codes, ℕ, ℤ, List, FitsSigned, w64, to_z, of_z}
use Rattle.link_asks.specs.Asks.{IsAsk}
use Rattle.link_asks.specs.TempoText.{IsBeatsPerMinute}
use Rattle.link_asks.specs.Commands.{command_text_of}
use Rattle.link_asks.specs.declared.ask.Ask.TheVariants as ask
use Rattle.link_asks.specs.declared.command.Command.TheVariants as command
use Rattle.link_lines.specs.LineWords.{words_left}
use Rattle.link_asks.proofs.AskLemmas.{alone_none, alone_some, no_ask, says_by, stored}
use Rattle.link_asks.proofs.asking.asked_by.Goals as goal

pub returns-in-Status-clause-some : goal.returns-in-Status-clause-some
unfolding command_text_of
returns-in-Status-clause-some c =
    alone_some c.args.command command.Status ask.Status (words_left c.args.left.now) c.alone.result c.in-Status.is tt refl c.alone.ensures.some

pub returns-in-Status-clause-none : goal.returns-in-Status-clause-none
returns-in-Status-clause-none c =
    alone_none c.args.command command.Status (words_left c.args.left.now) c.alone.result c.in-Status.is (λ asked takes. takes.1) c.alone.ensures.none

pub returns-in-Now-clause-some : goal.returns-in-Now-clause-some
unfolding command_text_of
returns-in-Now-clause-some c =
    alone_some c.args.command command.Now ask.Now (words_left c.args.left.now) c.alone-in-Now.result c.in-Now.is tt refl c.alone-in-Now.ensures.some

pub returns-in-Now-clause-none : goal.returns-in-Now-clause-none
returns-in-Now-clause-none c =
    alone_none c.args.command command.Now (words_left c.args.left.now) c.alone-in-Now.result c.in-Now.is (λ asked takes. takes.1) c.alone-in-Now.ensures.none

pub returns-in-Watch-clause-some : goal.returns-in-Watch-clause-some
unfolding command_text_of
returns-in-Watch-clause-some c =
    alone_some c.args.command command.Watch ask.Watch (words_left c.args.left.now) c.alone-in-Watch.result c.in-Watch.is tt refl c.alone-in-Watch.ensures.some

pub returns-in-Watch-clause-none : goal.returns-in-Watch-clause-none
returns-in-Watch-clause-none c =
    alone_none c.args.command command.Watch (words_left c.args.left.now) c.alone-in-Watch.result c.in-Watch.is (λ asked takes. takes.1) c.alone-in-Watch.ensures.none

pub returns-in-Unwatch-clause-some : goal.returns-in-Unwatch-clause-some
unfolding command_text_of
returns-in-Unwatch-clause-some c =
    alone_some c.args.command command.Unwatch ask.Unwatch (words_left c.args.left.now) c.alone-in-Unwatch.result c.in-Unwatch.is tt refl c.alone-in-Unwatch.ensures.some

pub returns-in-Unwatch-clause-none : goal.returns-in-Unwatch-clause-none
returns-in-Unwatch-clause-none c =
    alone_none c.args.command command.Unwatch (words_left c.args.left.now) c.alone-in-Unwatch.result c.in-Unwatch.is (λ asked takes. takes.1) c.alone-in-Unwatch.ensures.none

pub returns-in-Clients-clause-some : goal.returns-in-Clients-clause-some
unfolding command_text_of
returns-in-Clients-clause-some c =
    alone_some c.args.command command.Clients ask.Clients (words_left c.args.left.now) c.alone-in-Clients.result c.in-Clients.is tt refl c.alone-in-Clients.ensures.some

pub returns-in-Clients-clause-none : goal.returns-in-Clients-clause-none
returns-in-Clients-clause-none c =
    alone_none c.args.command command.Clients (words_left c.args.left.now) c.alone-in-Clients.result c.in-Clients.is (λ asked takes. takes.1) c.alone-in-Clients.ensures.none

pub returns-in-Gates-clause-some : goal.returns-in-Gates-clause-some
unfolding command_text_of
returns-in-Gates-clause-some c =
    alone_some c.args.command command.Gates ask.Gates (words_left c.args.left.now) c.alone-in-Gates.result c.in-Gates.is tt refl c.alone-in-Gates.ensures.some

pub returns-in-Gates-clause-none : goal.returns-in-Gates-clause-none
returns-in-Gates-clause-none c =
    alone_none c.args.command command.Gates (words_left c.args.left.now) c.alone-in-Gates.result c.in-Gates.is (λ asked takes. takes.1) c.alone-in-Gates.ensures.none

pub returns-in-End-clause-some : goal.returns-in-End-clause-some
unfolding command_text_of
returns-in-End-clause-some c =
    alone_some c.args.command command.End ask.End (words_left c.args.left.now) c.alone-in-End.result c.in-End.is tt refl c.alone-in-End.ensures.some

pub returns-in-End-clause-none : goal.returns-in-End-clause-none
returns-in-End-clause-none c =
    alone_none c.args.command command.End (words_left c.args.left.now) c.alone-in-End.result c.in-End.is (λ asked takes. takes.1) c.alone-in-End.ensures.none

pub returns-in_ok-signed_left-in-Beat-clause-some : goal.returns-in_ok-signed_left-in-Beat-clause-some
unfolding command_text_of
returns-in_ok-signed_left-in-Beat-clause-some c =
    let found = c.in_ok-signed_left-in-Beat.ensures.some in
    let fits : FitsSigned w64 c.in_ok-signed_left-in-Beat.field-0 = search rules in
    stored _ (λ (n : ℤ). ask.Beat n) _ fits found.0 (says_by c.args.command command.Beat (codes "beat") _ _ c.in-Beat.is refl found.1)

pub returns-in_err-signed_left-in-Beat-clause-none : goal.returns-in_err-signed_left-in-Beat-clause-none
returns-in_err-signed_left-in-Beat-clause-none c =
    no_ask c.args.command command.Beat (words_left c.args.left.now) c.from_residual.result c.in-Beat.is
    (λ asked range takes. c.in_err-signed_left-in-Beat.ensures.none takes.0 (subst IsAsk takes.1 range) takes.2)

pub returns-in_ok-signed_left-in-Phase-clause-some : goal.returns-in_ok-signed_left-in-Phase-clause-some
unfolding command_text_of
returns-in_ok-signed_left-in-Phase-clause-some c =
    let found = c.in_ok-signed_left-in-Phase.ensures.some in
    let fits : FitsSigned w64 c.in_ok-signed_left-in-Phase.field-0 = search rules in
    stored _ (λ (n : ℤ). ask.Phase n) _ fits found.0 (says_by c.args.command command.Phase (codes "phase") _ _ c.in-Phase.is refl found.1)

pub returns-in_err-signed_left-in-Phase-clause-none : goal.returns-in_err-signed_left-in-Phase-clause-none
returns-in_err-signed_left-in-Phase-clause-none c =
    no_ask c.args.command command.Phase (words_left c.args.left.now) c.from_residual-in_err-signed_left-in-Phase.result c.in-Phase.is
    (λ asked range takes. c.in_err-signed_left-in-Phase.ensures.none takes.0 (subst IsAsk takes.1 range) takes.2)

pub returns-in_ok-signed_left-in-Time-clause-some : goal.returns-in_ok-signed_left-in-Time-clause-some
unfolding command_text_of
returns-in_ok-signed_left-in-Time-clause-some c =
    let found = c.in_ok-signed_left-in-Time.ensures.some in
    let fits : FitsSigned w64 c.in_ok-signed_left-in-Time.field-0 = search rules in
    stored _ (λ (n : ℤ). ask.Time n) _ fits found.0 (says_by c.args.command command.Time (codes "time") _ _ c.in-Time.is refl found.1)

pub returns-in_err-signed_left-in-Time-clause-none : goal.returns-in_err-signed_left-in-Time-clause-none
returns-in_err-signed_left-in-Time-clause-none c =
    no_ask c.args.command command.Time (words_left c.args.left.now) c.from_residual-in_err-signed_left-in-Time.result c.in-Time.is
    (λ asked range takes. c.in_err-signed_left-in-Time.ensures.none takes.0 (subst IsAsk takes.1 range) takes.2)

pub returns-in_ok-tempo_left-in-Tempo-clause-some : goal.returns-in_ok-tempo_left-in-Tempo-clause-some
unfolding command_text_of
returns-in_ok-tempo_left-in-Tempo-clause-some c =
    let found = c.in_ok-tempo_left-in-Tempo.ensures.some in
    let fits : FitsSigned w64 c.in_ok-tempo_left-in-Tempo.field-0 = search rules in
    stored _ (λ (n : ℤ). ask.Tempo n) _ fits found.0 (inl (says_by c.args.command command.Tempo (codes "tempo") _ _ c.in-Tempo.is refl found.1))

pub returns-in_err-tempo_left-in-Tempo-clause-none : goal.returns-in_err-tempo_left-in-Tempo-clause-none
returns-in_err-tempo_left-in-Tempo-clause-none c =
    no_ask c.args.command command.Tempo (words_left c.args.left.now) c.from_residual-in_err-tempo_left-in-Tempo.result c.in-Tempo.is
    (λ asked range takes. c.in_err-tempo_left-in-Tempo.ensures.none takes.0 (subst IsAsk takes.1 range) takes.2)

pub returns-in_ok-time_left-in-Play-clause-some : goal.returns-in_ok-time_left-in-Play-clause-some
unfolding command_text_of
returns-in_ok-time_left-in-Play-clause-some c =
    let found = c.in_ok-time_left-in-Play.ensures.some in
    (found.0, says_by c.args.command command.Play (codes "play") _ _ c.in-Play.is refl found.1)

pub returns-in_err-time_left-in-Play-clause-none : goal.returns-in_err-time_left-in-Play-clause-none
returns-in_err-time_left-in-Play-clause-none c =
    no_ask c.args.command command.Play (words_left c.args.left.now) c.from_residual-in_err-time_left-in-Play.result c.in-Play.is
    (λ asked range takes. c.in_err-time_left-in-Play.ensures.none takes.0 (subst IsAsk takes.1 range) takes.2)

pub returns-in_ok-time_left-in-Stop-clause-some : goal.returns-in_ok-time_left-in-Stop-clause-some
unfolding command_text_of
returns-in_ok-time_left-in-Stop-clause-some c =
    let found = c.in_ok-time_left-in-Stop.ensures.some in
    (found.0, says_by c.args.command command.Stop (codes "stop") _ _ c.in-Stop.is refl found.1)

pub returns-in_err-time_left-in-Stop-clause-none : goal.returns-in_err-time_left-in-Stop-clause-none
returns-in_err-time_left-in-Stop-clause-none c =
    no_ask c.args.command command.Stop (words_left c.args.left.now) c.from_residual-in_err-time_left-in-Stop.result c.in-Stop.is
    (λ asked range takes. c.in_err-time_left-in-Stop.ensures.none takes.0 (subst IsAsk takes.1 range) takes.2)

pub returns-in_ok-quantum_left-in-Quantum-clause-some : goal.returns-in_ok-quantum_left-in-Quantum-clause-some
unfolding command_text_of
returns-in_ok-quantum_left-in-Quantum-clause-some c =
    let found = c.in_ok-quantum_left-in-Quantum.ensures.some in
    let fits : FitsSigned w64 c.in_ok-quantum_left-in-Quantum.field-0 = search rules in
    stored _ (λ (n : ℤ). ask.Quantum n) _ fits found.0 (says_by c.args.command command.Quantum (codes "quantum") _ _ c.in-Quantum.is refl found.1)

pub returns-in_err-quantum_left-in-Quantum-clause-none : goal.returns-in_err-quantum_left-in-Quantum-clause-none
returns-in_err-quantum_left-in-Quantum-clause-none c =
    no_ask c.args.command command.Quantum (words_left c.args.left.now) c.from_residual-in_err-quantum_left-in-Quantum.result c.in-Quantum.is
    (λ asked range takes. c.in_err-quantum_left-in-Quantum.ensures.none takes.0 (subst IsAsk takes.1 range) takes.2)

pub returns-in_ok-beat-in-Force-clause-some : goal.returns-in_ok-beat-in-Force-clause-some
unfolding command_text_of
returns-in_ok-beat-in-Force-clause-some c =
    let found = c.in_ok-beat-in-Force.ensures.some in
    let beat : FitsSigned w64 c.in_ok-beat-in-Force.beat = search rules in
    let at : FitsSigned w64 c.in_ok-beat-in-Force.at = search rules in
    let first = stored _ (λ (n : ℤ). ask.Force n c.in_ok-beat-in-Force.at) _ beat found.0 (says_by c.args.command command.Force (codes "force") _ _ c.in-Force.is refl found.1) in
    stored _ (λ (n : ℤ). ask.Force (to_z w64 (of_z w64 c.in_ok-beat-in-Force.beat)) n) _ at first.0 first.1

pub returns-in_err-beat-in-Force-clause-none : goal.returns-in_err-beat-in-Force-clause-none
returns-in_err-beat-in-Force-clause-none c =
    no_ask c.args.command command.Force (words_left c.args.left.now) c.from_residual-in_err-beat-in-Force.result c.in-Force.is
    (λ asked range takes.
    let within = subst IsAsk takes.2 range in
    c.in_err-beat-in-Force.ensures.none takes.0 takes.1 within.0 within.1 takes.3)

pub returns-in_ok-beat-in-Request-clause-some : goal.returns-in_ok-beat-in-Request-clause-some
unfolding command_text_of
returns-in_ok-beat-in-Request-clause-some c =
    let found = c.in_ok-beat-in-Request.ensures.some in
    let beat : FitsSigned w64 c.in_ok-beat-in-Request.beat = search rules in
    let at : FitsSigned w64 c.in_ok-beat-in-Request.at = search rules in
    let first = stored _ (λ (n : ℤ). ask.Request n c.in_ok-beat-in-Request.at) _ beat found.0 (says_by c.args.command command.Request (codes "request") _ _ c.in-Request.is refl found.1) in
    stored _ (λ (n : ℤ). ask.Request (to_z w64 (of_z w64 c.in_ok-beat-in-Request.beat)) n) _ at first.0 first.1

pub returns-in_err-beat-in-Request-clause-none : goal.returns-in_err-beat-in-Request-clause-none
returns-in_err-beat-in-Request-clause-none c =
    no_ask c.args.command command.Request (words_left c.args.left.now) c.from_residual-in_err-beat-in-Request.result c.in-Request.is
    (λ asked range takes.
    let within = subst IsAsk takes.2 range in
    c.in_err-beat-in-Request.ensures.none takes.0 takes.1 within.0 within.1 takes.3)

pub returns-in_ok-tempo_of-in-Bpm-clause-some : goal.returns-in_ok-tempo_of-in-Bpm-clause-some
unfolding command_text_of
returns-in_ok-tempo_of-in-Bpm-clause-some c =
    let word = c.in_ok-word_left-in-Bpm.ensures.some in
    let found = c.in_ok-tempo_of-in-Bpm.ensures.some in
    let fits : FitsSigned w64 c.in_ok-tempo_of-in-Bpm.field-0 = search rules in
    stored _ (λ (n : ℤ). ask.Tempo n) _ fits found.0
    (inr (c.in_ok-word_left-in-Bpm.field-0.now, says_by c.args.command command.Bpm (codes "bpm") _ _ c.in-Bpm.is refl word, found.1))

pub returns-in_err-word_left-in-Bpm-clause-none : goal.returns-in_err-word_left-in-Bpm-clause-none
returns-in_err-word_left-in-Bpm-clause-none c =
    no_ask c.args.command command.Bpm (words_left c.args.left.now) c.from_residual-in_err-word_left-in-Bpm.result c.in-Bpm.is
    (λ asked range takes. c.in_err-word_left-in-Bpm.ensures.none takes.2.0 takes.2.1)

pub returns-in_err-tempo_of-in-Bpm-clause-none : goal.returns-in_err-tempo_of-in-Bpm-clause-none
returns-in_err-tempo_of-in-Bpm-clause-none c =
    no_ask c.args.command command.Bpm (words_left c.args.left.now) c.from_residual-in_err-tempo_of-in-Bpm.result c.in-Bpm.is
    (λ asked range takes.
    let word = c.in_ok-word_left-in-Bpm.ensures.some in
    let text : takes.2.0 ≡ c.in_ok-word_left-in-Bpm.field-0.now = cc (word, takes.2.1) in
    c.in_err-tempo_of-in-Bpm.ensures.none takes.0 (subst IsAsk takes.1 range)
    (subst (λ (l : List ℕ). IsBeatsPerMinute l takes.0) text takes.2.2))
