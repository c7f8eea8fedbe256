-- `pages::number_of` meets its contract: the number has as many bytes as the kind says. Assumes nothing.
use Prim.Native.Nat.{◌+◌, ◌-◌}
use mathlib.Core.Path.{◌≡◌, sym, ap, ◌∙◌}
use native.Mathlib.Omega.{arith}
use Rattle.pages.specs.Layout.{number_width, kind_of}
use Rattle.pages.proofs.ByteLaws.{width_eight, number_none, number_is}
use Rattle.pages.proofs.number_of.Goals as goal

pub returns-in-0 : goal.returns-in-0
returns-in-0 c =
    let width : number_width (kind_of c.args.main c.args.page.now) ≡ c.number_width.result = ap number_width (sym c.kind_of.ensures) ∙ sym c.number_width.ensures in
    number_none _ _ (width ∙ c.in-0.is)

pub returns-in-4 : goal.returns-in-4
returns-in-4 c =
    let width : number_width (kind_of c.args.main c.args.page.now) ≡ c.number_width.result = ap number_width (sym c.kind_of.ensures) ∙ sym c.number_width.ensures in
    let k : c.args.main + 5 + 4 - (c.args.main + 5) ≡ 4 = omega arith in
    rw (c.number_in.ensures, k) (number_is c.args.main 4 c.args.page.now (width ∙ c.in-4.is))

pub returns-in_default : goal.returns-in_default
returns-in_default c =
    let width : number_width (kind_of c.args.main c.args.page.now) ≡ c.number_width.result = ap number_width (sym c.kind_of.ensures) ∙ sym c.number_width.ensures in
    let eight = width_eight _ (λ e. omega (arith, e, width)) (λ e. omega (arith, e, width)) in
    rw c.number_at.ensures (number_is c.args.main 8 c.args.page.now eight)
