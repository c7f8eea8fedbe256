-- The limits of a geometry, as a test and as facts.
use Rattle.std.specs.Prelude.{ℕ, ◌*◌, ◌-◌, ◌≤◌, Bool, true, false, cond, ◌≡◌, leb, eqb}
use Rattle.geometry.specs.declared.Geometry.{Geometry}

-- 4, 8, 16, 32 or 64
abbrev pub page_count : ℕ → Bool
page_count n = cond (eqb n 4) true (cond (eqb n 8) true (cond (eqb n 16) true (cond (eqb n 32) true (eqb n 64))))

-- spare bytes 16 to 256, and the pages of a block
abbrev pub block_shape : ℕ → ℕ → Bool
block_shape spare pages = cond (leb 16 spare) (cond (leb spare 256) (page_count pages) false) false

-- every limit of the geometry holds
abbrev pub valid : Geometry → Bool
valid g =
    cond (leb 32 g.main)
    (cond (leb g.main 4096)
    (cond (block_shape g.spare g.pages)
    (cond (leb 4 g.blocks)
    (cond (leb g.blocks 4096)
    (cond (leb g.blocks (8 * (g.main - 8))) (cond (leb 1 g.logical) (leb g.logical (g.blocks - 2)) false) false)
    false)
    false)
    false)
    false)
    false

-- the same as facts, for arithmetic
pub record Valid (g : Geometry) : Type 0 where
  pub main_least : 32 ≤ g.main
  pub main_most : g.main ≤ 4096
  pub spare_least : 16 ≤ g.spare
  pub spare_most : g.spare ≤ 256
  pub pages_one : page_count g.pages ≡ true
  pub pages_least : 4 ≤ g.pages
  pub pages_most : g.pages ≤ 64
  pub blocks_least : 4 ≤ g.blocks
  pub blocks_most : g.blocks ≤ 4096
  pub blocks_room : g.blocks ≤ 8 * (g.main - 8)
  pub logical_least : 1 ≤ g.logical
  pub logical_most : g.logical ≤ g.blocks - 2
