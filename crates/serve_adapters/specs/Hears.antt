-- Of whom a wait has heard.
use Rattle.std.specs.Prelude.{ℕ, Bool, true, List, nat_lt, if◌then◌else◌, slice_set}
use Rattle.serve_adapters.specs.declared.hall.hears.Hears.{Hears}
use Rattle.serve_adapters.specs.declared.hall.places.Place.{Place}
use Rattle.serve_adapters.specs.declared.hall.places.Place.TheVariants as place

-- a place below 15 is one that was heard of
abbrev pub with_place : ℕ → List Bool → List Bool
with_place at places = if nat_lt at 15 then slice_set places at true else places

abbrev pub hears_after : Place → Hears → Hears
hears_after (place.Seat at) hears = record hears { seats = with_place at hears.seats }
hears_after (place.Newcomer at) hears = record hears { newcomers = with_place at hears.newcomers }
hears_after place.Listener hears = record hears { listener = true }
hears_after place.Input hears = record hears { input = true }
hears_after place.Nowhere hears = hears
