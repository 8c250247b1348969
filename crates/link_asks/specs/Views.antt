-- What clients are shown of a state.
use Rattle.std.specs.Prelude.{ℕ, List, [], ◌∷◌}
use Rattle.std.specs.Fmt.{decimal, signed_decimal}
use Rattle.hex.specs.Hex.{encode_lower}
use Rattle.client_state.specs.declared.state.State.{State}
use Rattle.link_lines.specs.Words.{truth_text_of}
use Rattle.link_asks.specs.declared.view.View.{View}

unfoldable pub shown_view_of : State → View
shown_view_of shown = record {
  mpb = shown.timeline.mpb;
  beat = shown.timeline.beat;
  time = shown.timeline.time;
  playing = shown.start.playing;
  start_time = shown.start.time;
  peers = shown.peers;
  quantum = shown.quantum;
  session = shown.session;
}

-- Rule: A state is shown to clients as tempo, beat origin, time origin, playing as `1` or `0`, since when, the number of peers, the
-- quantum, the session in sixteen hex digits, and the number of the published state.
unfoldable pub view_words : View → ℕ → List (List ℕ)
view_words view published =
    signed_decimal view.mpb ∷ signed_decimal view.beat ∷ signed_decimal view.time ∷ truth_text_of view.playing
    ∷ signed_decimal view.start_time ∷ decimal view.peers ∷ signed_decimal view.quantum ∷ encode_lower view.session.0 ∷ decimal published ∷ []
