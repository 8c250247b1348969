-- What the keeper knows after one event more.
use Rattle.std.proofs.Common.{◌≡◌, ℕ, ℤ, ◌<◌, ◌^◌, false, List, [], ◌∷◌, ◌++◌, length, map, All, sym, ap, subst, ◌∙◌, append-nil, rules}
use Rattle.std.proofs.Props.{props}
use Rattle.std.proofs.lemmas.List.{map_push}
use Rattle.std.proofs.lemmas.List.Elements.{All-append}
use mathlib.Core.Logic.{∥∥₁_elim, ∥∥₁_map}
use mathlib.Core.List.{map-append}
use Rattle.client_state.specs.State.{IsId, IsTidyState}
use Rattle.client_state.specs.Words.{words_of_state}
use Rattle.client_state.specs.declared.state.State.{State}
use Rattle.link_node.specs.Config.{ConfigValue, config_value}
use Rattle.link_node.specs.Event.{EventValue, SendingValue, event_value, Fits, audio_after}
use Rattle.link_node.specs.Machine.{Machine}
use Rattle.link_node.specs.Opening.{opened}
use Rattle.link_node.specs.Runs.{machine_after, published_by, shown_by, replayed, AreFitting}
use Rattle.link_node.specs.Standing.{StandsFor}
use Rattle.link_node.specs.Step.{step_of, sends_of, change_of}
use Rattle.link_node.specs.declared.event.Change.{Change}
use Rattle.link_node.specs.declared.event.Change.TheVariants.{Same, Published}
use Rattle.link_node.specs.declared.event.Event.{Event}
use Rattle.link_node.specs.declared.node.Node.{Node}
use Rattle.link_node.proofs.RunLemmas.{machine_after-append, published_by-append}
use Rattle.link_shared.specs.Journal.{IsOffered, last_audio_in}
use Rattle.link_shared.specs.Keeper.{IsShown}
use Rattle.link_shared.proofs.JournalLemmas.{last_audio_in-append, fitting_more, offered_taken}

-- ---- equations are propositions

configs_equal : (a b : ConfigValue) → IsProp (a ≡ b)
configs_equal a b = hlevel props

sends_equal : (a b : List SendingValue) → IsProp (a ≡ b)
sends_equal a b = hlevel props

states_equal : (a b : List State) → IsProp (a ≡ b)
states_equal a b = hlevel props

pub journal_grows : (items : List Event) (event : Event) (grown : List Event) → grown ≡ items ++ event ∷ [] → map event_value grown ≡ map event_value items ++ event_value event ∷ []
journal_grows items event grown grows = ap (λ (l : List Event). map event_value l) grows ∙ map_push event_value items event

-- ---- what a step tells for each machine, at the one for which the node stands

abbrev pub StepsTo : Node → Node → EventValue → Type 0
StepsTo before after e = (m : Machine) → StandsFor before m → StandsFor after (step_of m e)

pub config_stays : (before after : Node) (m : Machine) (e : EventValue) → ∥ StandsFor before m ∥₁ → StepsTo before after e
    → ((m : Machine) (e : EventValue) → (step_of m e).config ≡ m.config) → config_value after.config ≡ config_value before.config
config_stays before after m e stands steps law =
    ∥∥₁_elim stands (configs_equal (config_value after.config) (config_value before.config)) (λ s. (steps m s).parts.config ∙ law m e ∙ sym s.parts.config)

pub sends_are : (node : Node) (m : Machine) (e : EventValue) (unsent sent : List SendingValue) → ∥ StandsFor node m ∥₁
    → ((m : Machine) → StandsFor node m → sent ≡ unsent ++ sends_of m e) → sent ≡ unsent ++ sends_of m e
sends_are node m e unsent sent stands known = ∥∥₁_elim stands (sends_equal sent (unsent ++ sends_of m e)) (λ s. known m s)

pub offered_as : (opening : Machine) (most : ℕ) (e : EventValue) (before after : List EventValue) (unsent sent : List SendingValue) → length before < most
    → after ≡ before ++ e ∷ [] → sent ≡ unsent ++ sends_of (machine_after opening before) e → IsOffered opening most (e ∷ []) before after unsent sent false
offered_as opening most e before after unsent sent room grows sends =
    subst (λ (l : List EventValue). IsOffered opening most (e ∷ []) before l unsent sent false) (sym grows)
    (subst (λ (l : List SendingValue). IsOffered opening most (e ∷ []) before (before ++ e ∷ []) unsent l false) (sym sends) (offered_taken opening most e before unsent room))

pub after_one : (opening : Machine) (journal : List EventValue) (e : EventValue) → machine_after opening (journal ++ e ∷ []) ≡ step_of (machine_after opening journal) e
unfolding machine_after
after_one opening journal e = machine_after-append opening journal (e ∷ [])

pub stands_more : (config after_config : ConfigValue) (opened_at : ℤ) (journal : List EventValue) (e : EventValue) (before after : Node) → after_config ≡ config
    → ∥ StandsFor before (replayed config opened_at journal) ∥₁ → StepsTo before after e
    → ∥ StandsFor after (replayed after_config opened_at (journal ++ e ∷ [])) ∥₁
stands_more config after_config opened_at journal e before after same stands steps =
    ∥∥₁_map stands (λ s.
    subst (λ (c : ConfigValue). StandsFor after (replayed c opened_at (journal ++ e ∷ []))) (sym same)
    (subst (λ (m : Machine). StandsFor after m) (sym (after_one (opened config opened_at) journal e)) (steps (replayed config opened_at journal) s)))

published_one : (opening : Machine) (journal : List EventValue) (e : EventValue)
    → published_by opening (journal ++ e ∷ []) ≡ published_by opening journal ++ shown_by (change_of (machine_after opening journal) e) (step_of (machine_after opening journal) e).published
unfolding published_by
published_one opening journal e =
    let m : Machine = machine_after opening journal in
    published_by-append opening journal (e ∷ []) ∙ ap (λ l. published_by opening journal ++ l) (append-nil (shown_by (change_of m e) (step_of m e).published))

each_shown : (P : State → Type 0) (change : Change) (state : State) → P state → All P (shown_by change state)
each_shown P Same state is = search rules
each_shown P Published state is = search rules

-- what holds of each state published holds of one more
each_more : (P : State → Type 0) (published published' : List State) (change : Change) (state : State) → published' ≡ published ++ shown_by change state
    → All P published → P state → All P published'
each_more P published published' change state more each is =
    subst (λ (l : List State). All P l) (sym more) (All-append P published (shown_by change state) each (each_shown P change state is))

-- what is shown after a step is what the machine published
pub shown_more : (opening : Machine) (journal : List EventValue) (e : EventValue) (before after : Node) (change : Change) (state : State)
    (published published' : List State) (app_made app_made' audio_made audio_made' : List (List ℕ))
    → ∥ StandsFor before (machine_after opening journal) ∥₁ → StepsTo before after e
    → ((m : Machine) → StandsFor before m → change ≡ change_of m e) → ((m : Machine) → StandsFor after m → state ≡ m.published) → IsTidyState state → state.peers < 2 ^ 32 → IsId state.session
    → published' ≡ published ++ shown_by change state
    → app_made' ≡ app_made ++ map words_of_state (shown_by change state) → audio_made' ≡ audio_made ++ map words_of_state (shown_by change state)
    → IsShown opening journal published app_made audio_made → IsShown opening (journal ++ e ∷ []) published' app_made' audio_made'
shown_more opening journal e before after change state published published' app_made app_made' audio_made audio_made' stands steps changes shows tidy peers session more app_more audio_more shown = record {
  published_are = ∥∥₁_elim stands (states_equal published' (opening.published ∷ published_by opening (journal ++ e ∷ [])))
      (λ s. let m : Machine = machine_after opening journal in
      more ∙ ap (λ (l : List State). l ++ shown_by change state) shown.published_are
      ∙ ap (λ (c : Change). opening.published ∷ (published_by opening journal ++ shown_by c state)) (changes m s)
      ∙ ap (λ (t : State). opening.published ∷ (published_by opening journal ++ shown_by (change_of m e) t)) (shows (step_of m e) (steps m s))
      ∙ ap (λ (l : List State). opening.published ∷ l) (sym (published_one opening journal e)));
  app_rows = rows published published' app_made app_made' more app_more shown.app_rows;
  audio_rows = rows published published' audio_made audio_made' more audio_more shown.audio_rows;
  tidy = each_more IsTidyState published published' change state more shown.tidy tidy;
  peers_fit = each_more (λ s. s.peers < 2 ^ 32) published published' change state more shown.peers_fit peers;
  sessions_fit = each_more (λ s. IsId s.session) published published' change state more shown.sessions_fit session;
}
  where
    rows : (old new : List State) (made made' : List (List ℕ)) → new ≡ old ++ shown_by change state → made' ≡ made ++ map words_of_state (shown_by change state)
        → made ≡ map words_of_state old → made' ≡ map words_of_state new
    rows old new made made' grows made_grows are =
        made_grows ∙ ap (λ (l : List (List ℕ)). l ++ map words_of_state (shown_by change state)) are
        ∙ sym (map-append words_of_state old (shown_by change state)) ∙ ap (λ (l : List State). map words_of_state l) (sym grows)

pub shown_as : (config after_config : ConfigValue) (opened_at : ℤ) (journal after : List EventValue) (e : EventValue) (published : List State) (app_made audio_made : List (List ℕ))
    → after_config ≡ config → after ≡ journal ++ e ∷ [] → IsShown (opened config opened_at) (journal ++ e ∷ []) published app_made audio_made
    → IsShown (opened after_config opened_at) after published app_made audio_made
shown_as config after_config opened_at journal after e published app_made audio_made same grows shown =
    subst (λ (c : ConfigValue). IsShown (opened c opened_at) after published app_made audio_made) (sym same)
    (subst (λ (l : List EventValue). IsShown (opened config opened_at) l published app_made audio_made) (sym grows) shown)

-- ---- the counts

pub numbered_more : (journal : List EventValue) (e : EventValue) (audio audio' : ℕ) → audio ≡ last_audio_in 0 journal → audio' ≡ audio_after audio e → audio' ≡ last_audio_in 0 (journal ++ e ∷ [])
numbered_more journal e audio audio' is after = after ∙ ap (λ (n : ℕ). audio_after n e) is ∙ sym (last_audio_in-append 0 journal (e ∷ []))

pub fitting_more_events : (gates app audio : ℕ) (journal : List EventValue) (e : EventValue) → length journal < 2 ^ 60 → audio ≡ last_audio_in 0 journal
    → ∥ AreFitting gates 0 0 journal ∥₁ → Fits gates app audio e → ∥ AreFitting gates 0 0 (journal ++ e ∷ []) ∥₁
fitting_more_events gates app audio journal e short last fitting fits =
    ∥∥₁_map fitting (λ f. fitting_more gates app audio journal e short last f fits)

pub fitting_as : (gates after_gates : ℕ) (journal after : List EventValue) → after_gates ≡ gates → after ≡ journal
    → ∥ AreFitting gates 0 0 journal ∥₁ → ∥ AreFitting after_gates 0 0 after ∥₁
fitting_as gates after_gates journal after same grows fitting =
    subst (λ (n : ℕ). ∥ AreFitting n 0 0 after ∥₁) (sym same) (subst (λ (l : List EventValue). ∥ AreFitting gates 0 0 l ∥₁) (sym grows) fitting)
