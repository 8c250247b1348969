-- How a session is set up, by numbers as they are passed.
use Rattle.std.proofs.Common.{◌≡◌, ℕ, ◌-◌, ◌^◌, ℤ, pos, ◌+ℤ◌, ◌≤ℤ◌, Bool, Option, Some, None, FitsSigned, of_z, to_z, w64, ap, ◌∙◌, arith}
use Rattle.std.proofs.lemmas.Int.{ints, to_z-of_z}
use Rattle.lk_base.specs.Ranges.{IsMoment}
use Rattle.lk_base.specs.declared.endpoint.Endpoint.{Endpoint}
use Rattle.link_node.specs.Config.{ConfigValue}
use Rattle.link_clients.specs.ServeRun.{ServeSetup}
use Rattle.session_server.specs.Session.{ends_at_of}
use Rattle.session_server.specs.Spans.{IsSpan}

-- a session with this config, these moments, and what else there is
abbrev pub setup_with : ConfigValue → (opened_at ends_at : ℤ) → ℕ → Endpoint → Bool → ServeSetup
setup_with config opened_at ends_at events at may_end = record {
  config = config;
  opened_at = opened_at;
  events = events;
  at = at;
  terms = record { may_end = may_end; ends_at = ends_at };
}

pub same_setup : (config other : ConfigValue) (opened_at moment ends_at last : ℤ) (events : ℕ) (at : Endpoint) (may_end : Bool)
    → config ≡ other → opened_at ≡ moment → ends_at ≡ last
    → setup_with config opened_at ends_at events at may_end ≡ setup_with other moment last events at may_end
same_setup config other opened_at moment ends_at last events at may_end c o e =
    ap (λ (x : ConfigValue). setup_with x opened_at ends_at events at may_end) c
    ∙ ap (λ (x : ℤ). setup_with other x ends_at events at may_end) o
    ∙ ap (λ (x : ℤ). setup_with other moment x events at may_end) e

-- ---- moments as they are passed

fits : (z : ℤ) → pos 0 ≤ℤ z → z ≤ℤ pos (2 ^ 63 - 1) → FitsSigned w64 z
fits z first last = grind (arith, ints)

pub moment_passed : (z : ℤ) → IsMoment z → to_z w64 (of_z w64 z) ≡ z
moment_passed z moment = to_z-of_z w64 z (fits z moment.0 (omega (arith, ints, moment.1)))

pub end_passed : (opened_at : ℤ) (lasts : Option ℤ) (z : ℤ) → IsMoment opened_at → IsSpan lasts
    → z ≡ ends_at_of (to_z w64 (of_z w64 opened_at)) lasts → to_z w64 (of_z w64 z) ≡ ends_at_of opened_at lasts
end_passed opened_at None z moment span is =
    ap (λ (x : ℤ). to_z w64 (of_z w64 x)) is ∙ to_z-of_z w64 (pos (2 ^ 63 - 1)) (fits _ (omega (arith, ints)) (omega (arith, ints)))
end_passed opened_at (Some lasts) z moment span is =
    ap (λ (x : ℤ). to_z w64 (of_z w64 x)) (is ∙ ap (λ (t : ℤ). t +ℤ lasts) (moment_passed opened_at moment))
    ∙ to_z-of_z w64 (opened_at +ℤ lasts) (fits _ (omega (arith, ints, moment.0, span.0)) (omega (arith, ints, moment.1, span.1)))
