-- The answer and the state of a mount, from what a scan found.
use Rattle.std.specs.Prelude.{ℕ, cond, eqb, replicate}
use Rattle.geometry.specs.declared.Geometry.{Geometry}
use Rattle.bitmaps.specs.Bitmap.{bit_at, never_both}
use Rattle.copies.specs.Pick.{some_below}
use Rattle.state.specs.State.{mounted_with}
use Rattle.state.specs.declared.State.{State}
use Rattle.scan_found.specs.Contents.{Contents, clashing, map_to, kinds_to}
use Rattle.scan_found.specs.declared.Found.{Found}

-- the answer: 4 no table, 5 wrong table, 6 clash, or 0
unfoldable pub judged_by : Geometry → Found → Contents → ℕ
judged_by g f c =
    cond f.tables
    (cond (eqb f.right 1)
    (cond (never_both f.marked f.bits g.blocks)
    (cond (bit_at f.bits f.table) 5 (cond (some_below (clashing c f.bits g.logical) g.blocks) 6 0))
    5)
    5)
    4

-- the state that a mount answered 0 gives
abbrev pub state_of : Geometry → Found → Contents → State
state_of g f c =
    mounted_with f.greatest f.table f.last f.marked f.bits
    (map_to c f.bits g.blocks g.logical (replicate 4096 65535) g.blocks)
    (kinds_to c (map_to c f.bits g.blocks g.logical (replicate 4096 65535) g.blocks) (replicate 4096 0) g.logical)
