-- The numbers of a state fit a table's pages. Assumes nothing.
use Prim.Native.Nat.{ℕ, ◌<◌, ◌^◌}
use mathlib.Core.Path.{◌≡◌, sym, ap, subst}
use Rattle.pages.specs.Layout.{number_width, table_kind}
use Rattle.pages.proofs.LayoutLaws.{table_width}
use Rattle.state.specs.State.{number_end}

-- the numbers of a state are those that fit a table's pages
pub number_end_lem : 256 ^ number_width table_kind ≡ number_end
number_end_lem = ap (λ (w : ℕ). 256 ^ w) table_width

pub table_fits : (n : ℕ) → n < number_end → n < 256 ^ number_width table_kind
table_fits n h = subst (λ (k : ℕ). n < k) (sym number_end_lem) h
