-- What is due, by the tests that the code makes, and that its page can be labelled. Assumes nothing.
use Prim.Native.Nat.{ℕ, ◌*◌, ◌<◌}
use mathlib.Core.List.{List}
use mathlib.Core.Path.{◌≡◌, sym, subst}
use native.Mathlib.Omega.{arith}
use borrow.Author.Tests.{eq-eqb, ne_eqb}
use Rattle.geometry.specs.declared.Geometry.{Geometry}
use Rattle.geometry.specs.Limits.{Valid}
use Rattle.geometry.specs.Sizes.{page_size}
use Rattle.chip_array.specs.Device.{Setting}
use Rattle.bus.specs.Line.{Line}
use Rattle.bus_polling.specs.declared.Outcome.{Outcome}
use Rattle.pages.specs.Layout.{data_kind, table_kind}
use Rattle.pages.proofs.LayoutLaws.{data_width, table_width}
use Rattle.progress.specs.Progress.{Progress}
use Rattle.progress.specs.Steps.{erase_on, ComesTo}
use Rattle.progress.proofs.ComesLaws.{comes_as}
use Rattle.fill.specs.Fill.{copy, Fillable, page_filled, data_source, table_copy, table_source}
use Rattle.fill.specs.declared.Content.{Content}
use Rattle.fill_cursor.specs.declared.Cursor.{Cursor}
use Rattle.fill_driver.specs.Driver.{copy_of, source_of, content_of, performed}

module _ (s : Setting) (c : Cursor) (form : ℕ) (invalid bytes : List ℕ) (p : Progress) where
  pub erase_due : c.step ≡ 1 → erase_on s c.block p ≡ performed s c form invalid bytes p
  unfolding performed
  erase_due e = rw (eq-eqb c.step 1 e)

  pub table_due : (c.step ≡ 1 → ⊥) → (c.phase ≡ 0 → ⊥) → page_filled s c.block (table_copy c.number) c.page (table_source s.geometry invalid c.page) p ≡ performed s c form invalid bytes p
  unfolding performed copy_of source_of
  table_due n m = rw (ne_eqb c.step 1 n, ne_eqb c.phase 0 m)

  copy_due : (c.step ≡ 1 → ⊥) → c.phase ≡ 0 → page_filled s c.block (copy data_kind c.logical c.number) c.page (data_source s.geometry c.old form c.first c.count bytes c.page) p ≡ performed s c form invalid bytes p
  unfolding performed copy_of source_of
  copy_due n e = rw (ne_eqb c.step 1 n, eq-eqb c.phase 0 e)

-- a page of a data copy, told by what the copy holds
module _ (c : Cursor) (form : ℕ) (k : Content) (is : k ≡ content_of c form) where
  pub copy_comes : {s : Setting} {l m : Line} {o : Outcome} (invalid bytes : List ℕ) → (c.step ≡ 1 → ⊥) → c.phase ≡ 0
      → ComesTo s (page_filled s c.block (copy k.kind k.logical k.number) c.page (data_source s.geometry k.old k.form k.first k.count bytes c.page)) l m o → ComesTo s (performed s c form invalid bytes) l m o
  copy_comes {s} {l} {m} {o} invalid bytes n e r =
      comes_as (λ p. copy_due s c form invalid bytes p n e)
      (subst (λ (x : Content). ComesTo s (page_filled s c.block (copy x.kind x.logical x.number) c.page (data_source s.geometry x.old x.form x.first x.count bytes c.page)) l m o) is r)

  pub content_fillable : (g : Geometry) (size : ℕ) → Fillable g c.block c.page data_kind c.logical size → Fillable g c.block c.page k.kind k.logical size
  content_fillable g size f = subst (λ (x : Content). Fillable g c.block c.page x.kind x.logical size) (sym is) f

  pub content_count : (n main : ℕ) → n ≡ c.count * main → n ≡ k.count * main
  content_count n main e = subst (λ (x : Content). n ≡ x.count * main) (sym is) e

-- a page of a copy and one of a table can be labelled so
module _ (g : Geometry) (v : Valid g) (block place size : ℕ) (b : block < g.blocks) (p : place < g.pages) (e : size ≡ page_size g) where
  pub copy_fillable : (logical : ℕ) → logical < g.logical → Fillable g block place data_kind logical size
  copy_fillable logical h =
      record { is_valid = v; block_below = b; place_below = p; width_is = data_width; logical_fits = omega (arith, h, v.logical_most, v.blocks_most); page-long = e }

  pub table_fillable : Fillable g block place table_kind 0 size
  table_fillable =
      record { is_valid = v; block_below = b; place_below = p; width_is = table_width; logical_fits = omega arith; page-long = e }
