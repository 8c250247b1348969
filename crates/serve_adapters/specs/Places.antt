-- The tokens under which the poll hears of everyone.
use Rattle.std.specs.Prelude.{ℕ, ◌-◌, ◌==◌, nat_lt, if◌then◌else◌}
use Rattle.serve_adapters.specs.declared.hall.places.Place.{Place}
use Rattle.serve_adapters.specs.declared.hall.places.Place.TheVariants as place

-- whom the event of a token is of: 15 seats, 15 newcomers, the listener, standard input
abbrev pub place_at : ℕ → Place
place_at token =
    if nat_lt token 15 then place.Seat token
    else (if nat_lt token 30 then place.Newcomer (token - 15)
    else (if token == 30 then place.Listener
    else (if token == 31 then place.Input
    else place.Nowhere)))
