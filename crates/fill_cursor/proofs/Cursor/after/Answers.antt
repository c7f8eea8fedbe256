-- `fill_cursor::Cursor::after` meets its contract. Assumes nothing.
use Prim.Native.Nat.{ℕ, ◌≤◌, ◌<◌}
use mathlib.Core.Path.{ap, subst, ◌∙◌}
use Rattle.bus_polling.proofs.OutcomeLaws.{passed_by_is, other_by_not}
use Rattle.fill_cursor.specs.Cursor.{on_page}
use Rattle.fill_cursor.proofs.NextLaws.{after_unfilled, after_page, after_whole}
use Rattle.fill_cursor.proofs.Cursor.after.Goals as goal

pub returns-in_default : goal.returns-in_default
returns-in_default c =
    c.replace.ensures ∙ after_unfilled c.args.pages c.args.self c.args.outcome (other_by_not _ c.in_default.not-Passed)

pub returns-then-page-pages : goal.returns-then-page-pages
returns-then-page-pages c =
    c.at_page.ensures ∙ ap (λ (n : ℕ). on_page n c.args.self) c.page_after-page.ensures ∙ after_page c.args.pages c.args.self c.args.outcome (passed_by_is _ c.in-Passed.is) (subst (λ (n : ℕ). n < c.args.pages) c.page_after-page.ensures c.if-page-pages.true)

pub returns-else-page-pages : goal.returns-else-page-pages
returns-else-page-pages c =
    c.finish.ensures ∙ after_whole c.args.pages c.args.self c.args.outcome (passed_by_is _ c.in-Passed.is) (subst (λ (n : ℕ). c.args.pages ≤ n) c.page_after-page.ensures c.if-page-pages.false)
