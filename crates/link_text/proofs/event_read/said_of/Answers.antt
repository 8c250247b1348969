use Rattle.std.proofs.Common.{arith, codes, ℕ}
use Rattle.link_node.specs.Event.{EventValue}
use Rattle.link_text.specs.EventDetails.{SaysDetails}
use Rattle.link_lines.specs.LineWords.{words_left}
use Rattle.link_text.specs.SaidEvent.{said_value}
use Rattle.link_text.specs.declared.said_event.SaidEvent.{SaidEvent}
use Rattle.link_text.proofs.EventLemmas.{no_moment, some_line, none_line, of_line, to_line, no_more_words, no_kind, only_tick, only_end, moment_stored, some_at, none_at}
use Rattle.link_text.proofs.event_read.said_of.Goals as goal

pub returns-in_default-clause-none : goal.returns-in_default-clause-none
returns-in_default-clause-none c = λ e says.
    no_moment c.args.gates c.args.audio c.args.line.now _ _ e (omega (arith, c.requires.few_gates)) c.first_word.ensures c.in_default.ensures.none says

pub returns-then-is_word-clause-some : goal.returns-then-is_word-clause-some
returns-then-is_word-clause-some c =
    some_line c.args.gates c.args.audio c.args.line.now _ (codes "rx") c.in-Some.now _ _ c.arrival_of.result c.first_word.ensures c.in-Some.ensures.some.1 c.in-Some.ensures.some.0
    (c.is_word.ensures.0 c.if-is_word.true)
    (some_at (λ (x : ℕ) (said : SaidEvent). SaysDetails c.args.gates x (codes "rx") c.in-Some.now (words_left c.in-Some.left.now) (said_value said)) c.args.audio c.arrival_of.result (rw (moment_stored c.in-Some.now c.in-Some.ensures.some.0) at c.arrival_of.ensures.some))

pub returns-then-is_word-clause-none : goal.returns-then-is_word-clause-none
returns-then-is_word-clause-none c =
    none_line c.args.gates c.args.audio c.args.line.now _ (codes "rx") c.in-Some.now _ _ c.arrival_of.result (omega (arith, c.requires.few_gates)) c.first_word.ensures c.in-Some.ensures.some.1 c.in-Some.ensures.some.0
    (c.is_word.ensures.0 c.if-is_word.true)
    (none_at (λ (x : ℕ). (e : EventValue) → SaysDetails c.args.gates x (codes "rx") c.in-Some.now (words_left c.in-Some.left.now) e → ⊥) c.args.audio c.arrival_of.result (rw (moment_stored c.in-Some.now c.in-Some.ensures.some.0) at c.arrival_of.ensures.none))

pub returns-then-is_word-2-clause-some : goal.returns-then-is_word-2-clause-some
returns-then-is_word-2-clause-some c =
    some_line c.args.gates c.args.audio c.args.line.now _ (codes "app") c.in-Some.now _ _ c.app_of.result c.first_word.ensures c.in-Some.ensures.some.1 c.in-Some.ensures.some.0
    (c.is_word-2.ensures.0 c.if-is_word-2.true)
    (some_at (λ (x : ℕ) (said : SaidEvent). SaysDetails c.args.gates x (codes "app") c.in-Some.now (words_left c.in-Some.left.now) (said_value said)) c.args.audio c.app_of.result (some_at (λ (y : ℕ) (said : SaidEvent). (x : ℕ) → SaysDetails y x (codes "app") c.in-Some.now (words_left c.in-Some.left.now) (said_value said)) c.args.gates c.app_of.result (rw (moment_stored c.in-Some.now c.in-Some.ensures.some.0) at c.app_of.ensures.some)))

pub returns-then-is_word-2-clause-none : goal.returns-then-is_word-2-clause-none
returns-then-is_word-2-clause-none c =
    none_line c.args.gates c.args.audio c.args.line.now _ (codes "app") c.in-Some.now _ _ c.app_of.result (omega (arith, c.requires.few_gates)) c.first_word.ensures c.in-Some.ensures.some.1 c.in-Some.ensures.some.0
    (c.is_word-2.ensures.0 c.if-is_word-2.true)
    (none_at (λ (x : ℕ). (e : EventValue) → SaysDetails c.args.gates x (codes "app") c.in-Some.now (words_left c.in-Some.left.now) e → ⊥) c.args.audio c.app_of.result (none_at (λ (y : ℕ). (x : ℕ) (e : EventValue) → SaysDetails y x (codes "app") c.in-Some.now (words_left c.in-Some.left.now) e → ⊥) c.args.gates c.app_of.result (rw (moment_stored c.in-Some.now c.in-Some.ensures.some.0) at c.app_of.ensures.none)))

pub returns-then-is_word-3-clause-some : goal.returns-then-is_word-3-clause-some
returns-then-is_word-3-clause-some c =
    some_line c.args.gates c.args.audio c.args.line.now _ (codes "audio") c.in-Some.now _ _ c.audio_of.result c.first_word.ensures c.in-Some.ensures.some.1 c.in-Some.ensures.some.0
    (c.is_word-3.ensures.0 c.if-is_word-3.true)
    (some_at (λ (x : ℕ) (said : SaidEvent). SaysDetails x c.args.audio (codes "audio") c.in-Some.now (words_left c.in-Some.left.now) (said_value said)) c.args.gates c.audio_of.result (rw (moment_stored c.in-Some.now c.in-Some.ensures.some.0) at c.audio_of.ensures.some))

pub returns-then-is_word-3-clause-none : goal.returns-then-is_word-3-clause-none
returns-then-is_word-3-clause-none c =
    none_line c.args.gates c.args.audio c.args.line.now _ (codes "audio") c.in-Some.now _ _ c.audio_of.result (omega (arith, c.requires.few_gates)) c.first_word.ensures c.in-Some.ensures.some.1 c.in-Some.ensures.some.0
    (c.is_word-3.ensures.0 c.if-is_word-3.true)
    (none_at (λ (x : ℕ). (e : EventValue) → SaysDetails x c.args.audio (codes "audio") c.in-Some.now (words_left c.in-Some.left.now) e → ⊥) c.args.gates c.audio_of.result (rw (moment_stored c.in-Some.now c.in-Some.ensures.some.0) at c.audio_of.ensures.none))

pub returns-then-not-is_end-clause-none : goal.returns-then-not-is_end-clause-none
returns-then-not-is_end-clause-none c = λ e says.
    no_more_words c.args.gates c.args.audio c.first_word.result.0.now c.in-Some.now (words_left c.in-Some.left.now) e
    (λ h. cc (c.is_word.ensures.1 h)) (λ h. cc (c.is_word-2.ensures.1 h)) (λ h. cc (c.is_word-3.ensures.1 h)) (λ h. cc (c.is_end.ensures.1 h))
    (of_line c.args.gates c.args.audio c.args.line.now c.first_word.result.0.now c.in-Some.now (words_left c.in-Some.left.now) e (omega (arith, c.requires.few_gates)) (cc (c.first_word.ensures, c.in-Some.ensures.some.1)) c.in-Some.ensures.some.0 says)

pub returns-clause-none : goal.returns-clause-none
returns-clause-none c = λ e says.
    no_kind c.args.gates c.args.audio c.first_word.result.0.now c.in-Some.now (words_left c.in-Some.left.now) e
    (λ h. cc (c.is_word.ensures.1 h)) (λ h. cc (c.is_word-2.ensures.1 h)) (λ h. cc (c.is_word-3.ensures.1 h)) (λ h. cc (c.is_word-4.ensures.1 h)) (λ h. cc (c.is_word-5.ensures.1 h))
    (of_line c.args.gates c.args.audio c.args.line.now c.first_word.result.0.now c.in-Some.now (words_left c.in-Some.left.now) e (omega (arith, c.requires.few_gates)) (cc (c.first_word.ensures, c.in-Some.ensures.some.1)) c.in-Some.ensures.some.0 says)

pub returns-then-is_word-4-clause-some : goal.returns-then-is_word-4-clause-some
returns-then-is_word-4-clause-some c =
    rw (moment_stored c.in-Some.now c.in-Some.ensures.some.0)
    (to_line c.args.gates c.args.audio c.args.line.now c.first_word.result.0.now c.in-Some.now (words_left c.in-Some.left.now) _ (cc (c.first_word.ensures, c.in-Some.ensures.some.1)) c.in-Some.ensures.some.0
    (only_tick c.args.gates c.args.audio c.first_word.result.0.now c.in-Some.now (words_left c.in-Some.left.now) (c.is_word-4.ensures.0 c.if-is_word-4.true) (c.is_end.ensures.0 c.if-not-is_end.false)))

pub returns-then-is_word-5-clause-some : goal.returns-then-is_word-5-clause-some
returns-then-is_word-5-clause-some c =
    rw (moment_stored c.in-Some.now c.in-Some.ensures.some.0)
    (to_line c.args.gates c.args.audio c.args.line.now c.first_word.result.0.now c.in-Some.now (words_left c.in-Some.left.now) _ (cc (c.first_word.ensures, c.in-Some.ensures.some.1)) c.in-Some.ensures.some.0
    (only_end c.args.gates c.args.audio c.first_word.result.0.now c.in-Some.now (words_left c.in-Some.left.now) (c.is_word-5.ensures.0 c.if-is_word-5.true) (c.is_end.ensures.0 c.if-not-is_end.false)))
