-- What callers see of a pace in memory.
use Rattle.std.specs.Prelude.{ℤ, Option, Some}
use Rattle.lk_outside.specs.declared.list_pace.ListPace.{ListPace}

-- how late it answers, as a pace that always tells
abbrev pub late_of : ListPace → Option ℤ
late_of pace = Some pace.late
