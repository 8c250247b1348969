-- Only for proofs: what the calls keep: room for 64 others, no more of them, and no id twice.
use Rattle.std.specs.Prelude.{◌≡◌, ◌≤◌, length}
use Rattle.std.specs.Vec.{vec_capacity}
use Rattle.session_choice.specs.Table.{Table, HasDistinctIds}
use Rattle.session_choice.specs.declared.sessions.Sessions.TheInside.{Inside}

abbrev pub table_of : Inside → Table
table_of sessions = record { current = sessions.current; offset = sessions.xform.offset; others = sessions.others.items }

pub record IsKept (sessions : Inside) : Type 0 where
  pub room : vec_capacity sessions.others ≡ 64
  pub few : length sessions.others.items ≤ 64
  pub distinct : HasDistinctIds (table_of sessions)
