-- When two readings are the same.
use Rattle.std.specs.Prelude.{Bool, ◌==◌, ◌&&◌}
use Rattle.std.specs.Ordering.{int_eq}
use Rattle.loopview.specs.declared.readings.Reading.{Reading}

-- Whether each field is the same.
abbrev pub is_same : Reading → Reading → Bool
is_same a b = (a.address == b.address) && (a.value == b.value) && int_eq a.tick b.tick
