-- What a link begins with.
use Rattle.std.proofs.Common.{◌≡◌, ℕ, ℤ, ◌<◌, ◌≤◌, ◌^◌, List, [], ◌∷◌, length, map, drop, All, Option, None, refl, sym, ap, subst, ◌∙◌, arith, rules}
use Rattle.std.proofs.Math.ListN.{drop_of_length-le}
use Rattle.std.proofs.lemmas.List.Elements.{All-push}
use Rattle.audio_handoff.specs.Cell.{Pair, ReaderView}
use Rattle.client_state.specs.State.{IsId, IsTidyState}
use Rattle.client_state.specs.Words.{words_of_state, commit_of_words}
use Rattle.client_state.specs.declared.commit.Commit.{Commit}
use Rattle.client_state.specs.declared.state.State.{State}
use Rattle.link_node.specs.Config.{ConfigValue}
use Rattle.link_node.specs.Event.{event_value}
use Rattle.link_node.specs.Machine.{Machine}
use Rattle.link_node.specs.Opening.{opened}
use Rattle.link_node.specs.Runs.{machine_after, published_by, replayed, AreFitting}
use Rattle.link_node.specs.Standing.{StandsFor}
use Rattle.link_node.specs.declared.event.Event.{Event}
use Rattle.link_node.specs.declared.node.Node.{Node}
use Rattle.link_shared.specs.Audio.{AudioView, last_of}
use Rattle.link_shared.specs.Desk.{RestsAsReader}
use Rattle.link_shared.specs.Hub.{HubView, new_hub}
use Rattle.link_shared.specs.Journal.{app_commits_in, last_audio_in}
use Rattle.link_shared.specs.Keeper.{IsShown, HasRoom, AreFirstOf, WereRead}

-- a reader that has read nothing
none_seen : (reader : ReaderView) → reader.seen ≡ [] → RestsAsReader record reader { seen = [] }
none_seen reader e = (λ j k first second le at. cc, λ k pair at. cc)

pub rests_unread : (reader : ReaderView) → reader.seen ≡ [] → RestsAsReader reader
rests_unread reader e = subst (λ (seen : List Pair). RestsAsReader record reader { seen = seen }) (sym e) (none_seen reader e)

-- ---- with an empty journal

pub stands_unmoved : (node : Node) (config : ConfigValue) (held opened_at : ℤ) (journal : List Event) → held ≡ opened_at → journal ≡ [] → StandsFor node (opened config opened_at)
    → StandsFor node (replayed config held (map event_value journal))
unfolding machine_after
stands_unmoved node config held opened_at journal same none stands =
    subst (λ (j : List Event). StandsFor node (replayed config held (map event_value j))) (sym none)
    (subst (λ (z : ℤ). StandsFor node (opened config z)) (sym same) stands)

no_peers : (config : ConfigValue) (opened_at : ℤ) → (opened config opened_at).published.peers ≡ 0
unfolding opened
no_peers config opened_at = refl

shown_first : (opening : Machine) (rows : List (List ℕ)) (other : List (List ℕ)) → IsTidyState opening.published → opening.published.peers < 2 ^ 32 → IsId opening.published.session
    → rows ≡ map words_of_state (opening.published ∷ []) → other ≡ map words_of_state (opening.published ∷ [])
    → IsShown opening [] (opening.published ∷ []) rows other
unfolding published_by
shown_first opening rows other tidy peers session rows_are other_are = record {
  published_are = refl;
  app_rows = rows_are;
  audio_rows = other_are;
  tidy = All-push IsTidyState [] opening.published (search rules) tidy;
  peers_fit = All-push (λ (state : State). state.peers < 2 ^ 32) [] opening.published (search rules) peers;
  sessions_fit = All-push (λ (state : State). IsId state.session) [] opening.published (search rules) session;
}

shown_unmoved : (opening : Machine) (journal : List Event) (published : List State) (rows other : List (List ℕ)) → journal ≡ [] → published ≡ opening.published ∷ []
    → IsTidyState opening.published → opening.published.peers < 2 ^ 32 → IsId opening.published.session → rows ≡ map words_of_state published → other ≡ map words_of_state published
    → IsShown opening (map event_value journal) published rows other
shown_unmoved opening journal published rows other none one tidy peers session rows_are other_are =
    subst (λ (j : List Event). IsShown opening (map event_value j) published rows other) (sym none)
    (subst (λ (ps : List State). IsShown opening [] ps rows other) (sym one)
    (shown_first opening rows other tidy peers session (rows_are ∙ ap (map words_of_state) one) (other_are ∙ ap (map words_of_state) one)))

pub shown_at_opening : (config : ConfigValue) (held opened_at : ℤ) (journal : List Event) (published : List State) (rows other : List (List ℕ)) → held ≡ opened_at → journal ≡ []
    → published ≡ (opened config opened_at).published ∷ [] → IsTidyState (opened config opened_at).published → IsId (opened config opened_at).published.session
    → rows ≡ map words_of_state published → other ≡ map words_of_state published
    → IsShown (opened config held) (map event_value journal) published rows other
shown_at_opening config held opened_at journal published rows other same none one tidy session rows_are other_are =
    let peers = no_peers config opened_at in
    let few_peers : (opened config opened_at).published.peers < 2 ^ 32 = omega arith in
    subst (λ (z : ℤ). IsShown (opened config z) (map event_value journal) published rows other) (sym same)
    (shown_unmoved (opened config opened_at) journal published rows other none one tidy few_peers session rows_are other_are)

pub room_at_opening : (most event_places state_places : ℕ) (journal : List Event) (published : List State) (state : State) → journal ≡ [] → published ≡ state ∷ []
    → HasRoom most 0 1 event_places state_places → HasRoom most (length journal) (length published) event_places state_places
room_at_opening most event_places state_places journal published state none one room =
    subst (λ (j : List Event). HasRoom most (length j) (length published) event_places state_places) (sym none)
    (subst (λ (ps : List State). HasRoom most 0 (length ps) event_places state_places) (sym one) room)

pub none_counted : (count events : ℕ) → count ≡ 0 → count ≤ events
none_counted count events none = omega (arith, none)

pub one_is_made : (rows : ℕ) → rows ≡ 1 → 0 < rows
one_is_made rows one = omega (arith, one)

pub fitting_at_opening : (gates : ℕ) (journal : List Event) → journal ≡ [] → AreFitting gates 0 0 (map event_value journal)
fitting_at_opening gates journal none = subst (λ (j : List Event). AreFitting gates 0 0 (map event_value j)) (sym none) tt

pub numbered_at_opening : (journal : List Event) → journal ≡ [] → 0 ≡ last_audio_in 0 (map event_value journal)
numbered_at_opening journal none = ap (λ (j : List Event). last_audio_in 0 (map event_value j)) (sym none)

pub none_popped : (most : ℕ) (journal : List Event) (popped : List Commit) → journal ≡ [] → popped ≡ []
    → AreFirstOf most (length journal) (app_commits_in (map event_value journal)) popped
none_popped most journal popped none nothing =
    subst (λ (j : List Event). AreFirstOf most (length j) (app_commits_in (map event_value j)) popped) (sym none)
    (record { first = refl; all = λ _. sym nothing })

pub none_were_read : (reads : List Pair) (journal : List Event) → journal ≡ [] → WereRead reads (map event_value journal)
none_were_read reads journal none = subst (λ (j : List Event). WereRead reads (map event_value j)) (sym none) (λ k number commit now at. cc)

-- ---- what the parts of a new link stand for

pub is_new_hub : (hub : HubView) (config : ConfigValue) (opened_at : ℤ) (most : ℕ) → hub.config ≡ config → hub.opened_at ≡ opened_at → hub.most ≡ most → hub.journal ≡ []
    → hub.reads ≡ [] → hub.popped ≡ [] → hub.quits ≡ 0 → hub.handed ≡ [] → hub ≡ new_hub config opened_at most
is_new_hub hub config opened_at most config_is at_is most_is journal_is reads_are popped_is quits_are handed_are = λ i. record {
  config = config_is i;
  opened_at = at_is i;
  most = most_is i;
  journal = journal_is i;
  reads = reads_are i;
  popped = popped_is i;
  quits = quits_are i;
  handed = handed_are i;
}

at_most : (made : List (List ℕ)) → length made ≡ 1 → length made ≤ 1
at_most made one = omega arith

-- the one row of a new cell of commits is no commit
pub none_made : (made : List (List ℕ)) → length made ≡ 1 → map commit_of_words (drop 1 made) ≡ []
none_made made one = ap (map commit_of_words) (drop_of_length-le made (at_most made one))

pub none_is_last : (made : List (List ℕ)) → length made ≡ 1 → None ≡ last_of (map commit_of_words (drop 1 made))
none_is_last made one = ap last_of (sym (none_made made one))

pub is_new_audio : (audio : AudioView) → audio.seen ≡ [] → audio.looks ≡ [] → audio.made ≡ [] → audio ≡ record { seen = []; looks = []; made = [] }
is_new_audio audio seen looks made = λ i. record { seen = seen i; looks = looks i; made = made i }
