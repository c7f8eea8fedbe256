-- The new copy of a logical block, told by its parts, and filled in a call that has come somewhere.
use Rattle.std.specs.Prelude.{ℕ, List}
use Rattle.chip_array.specs.Device.{Setting}
use Rattle.state.specs.declared.State.{State}
use Rattle.progress.specs.Progress.{Progress, status_on}
use Rattle.fill_tables.specs.Tables.{Tabled, after_status}
use Rattle.write_changes.specs.Changes.{Update, change_run}

abbrev pub update : ℕ → ℕ → ℕ → ℕ → List ℕ → Update
update logical old first count bytes =
    record { logical = logical; old = old; first = first; count = count; bytes = bytes }

-- the status is read, then its fills come
abbrev pub change_from : Setting → State → Update → Progress → Tabled
change_from s st u p = after_status st (status_on s p) (change_run s st u (status_on s p))
