-- What a mounted state knows of the array.
use Rattle.std.specs.Prelude.{ℕ, ◌<◌, List, ◌≡◌}
use Rattle.geometry.specs.declared.Geometry.{Geometry}
use Rattle.copies.specs.Pick.{at}
use Rattle.copies.specs.Current.{current_table}
use Rattle.scan_found.specs.Contents.{map_in, kinds_of}
use Rattle.scan_found.specs.Found.{bits_at, marks_to}
use Rattle.state.specs.State.{next_number}
use Rattle.state.specs.declared.State.{State}
use Rattle.recovery_stored.specs.After.{Below}

-- table, marks, invalid blocks, map and kinds are those of the array, and every complete block bears a number below the next one
pub record Knows (g : Geometry) (array : List ℕ) (st : State) : Type 0 where
  pub status_one : st.status ≡ 1
  pub table_is : current_table g array ≡ at st.table
  pub marked_is : st.marked ≡ marks_to g array g.blocks
  pub invalid_is : st.invalid ≡ bits_at g array st.table
  pub map_is : st.map ≡ map_in g array st.table
  pub kinds_is : st.kinds ≡ kinds_of g array st.table
  pub last_below : st.last < g.blocks
  pub numbers : Below g array (next_number st)
