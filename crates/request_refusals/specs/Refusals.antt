-- The refusals of a request on a mounted state, in the order of the paper's table.
use Rattle.std.specs.Prelude.{ℕ, Bool, cond, List, eqb, ltb, length}
use Rattle.geometry.specs.declared.Geometry.{Geometry}
use Rattle.chip_array.specs.Device.{Device, Setting}
use Rattle.state.specs.State.{mounted}
use Rattle.state.specs.declared.State.{State}
use Rattle.request.specs.Call.{sized_for}

-- the refusal of a request for one page, tested in this order, 0 where there is none: 1 geometry, 7 mount first, 2
-- address, 3 length
unfoldable pub refusal : Geometry → Bool → State → ℕ → ℕ → ℕ → ℕ
refusal g fits state logical page long =
    cond fits
    (cond (mounted state g.blocks g.logical)
    (cond (ltb logical g.logical) (cond (ltb page g.pages) (cond (eqb long g.main) 0 3) 2) 2)
    7)
    1

-- the same, of what is handed in
abbrev pub refusal_of : Setting → Device → State → ℕ → ℕ → List ℕ → ℕ
refusal_of s d state logical page buffer =
    refusal s.geometry (sized_for s d) state logical page (length buffer)
