-- `request_refusals::refusal` meets its contract. Assumes nothing.
use mathlib.Core.Path.{sym, ◌∙◌}
use native.Mathlib.Omega.{arith}
use Rattle.request.proofs.CallLaws.{sizes}
use Rattle.request_refusals.proofs.RefusalLaws.{refused_geometry, refused_unmounted, refused_logical, refused_page, refused_length, accepted}
use Rattle.request_refusals.proofs.refusal.Goals as goal

pub returns-then-not-is_sized : goal.returns-then-not-is_sized
returns-then-not-is_sized c = sym (refused_geometry c.args.g _ c.args.state c.args.logical c.args.page c.args.buffer (sym c.is_sized.ensures ∙ c.if-not-is_sized.true))

pub is_mounted-requires : goal.is_mounted-requires
is_mounted-requires c = let v = (sizes _ _ _ _ _ (sym c.is_sized.ensures ∙ c.if-not-is_sized.false)).chip_fits.is_valid in (omega (arith, v.blocks_most), omega (arith, v.blocks_most, v.logical_most))

pub returns-then-not-is_mounted : goal.returns-then-not-is_mounted
returns-then-not-is_mounted c = sym (refused_unmounted c.args.g _ c.args.state c.args.logical c.args.page c.args.buffer (sym c.is_sized.ensures ∙ c.if-not-is_sized.false) (sym c.is_mounted.ensures ∙ c.if-not-is_mounted.true))

pub returns-then-g-logical : goal.returns-then-g-logical
returns-then-g-logical c = sym (refused_logical c.args.g _ c.args.state c.args.logical c.args.page c.args.buffer (sym c.is_sized.ensures ∙ c.if-not-is_sized.false) (sym c.is_mounted.ensures ∙ c.if-not-is_mounted.false) c.if-g-logical.true)

pub returns-then-g-page : goal.returns-then-g-page
returns-then-g-page c = sym (refused_page c.args.g _ c.args.state c.args.logical c.args.page c.args.buffer (sym c.is_sized.ensures ∙ c.if-not-is_sized.false) (sym c.is_mounted.ensures ∙ c.if-not-is_mounted.false) c.if-g-logical.false c.if-g-page.true)

pub returns-then-buffer-g : goal.returns-then-buffer-g
returns-then-buffer-g c =
    sym (refused_length c.args.g _ c.args.state c.args.logical c.args.page c.args.buffer (sym c.is_sized.ensures ∙ c.if-not-is_sized.false) (sym c.is_mounted.ensures ∙ c.if-not-is_mounted.false) c.if-g-logical.false c.if-g-page.false c.if-buffer-g.true)

pub returns : goal.returns
returns c =
    sym (accepted c.args.g _ c.args.state c.args.logical c.args.page c.args.buffer (record { sizes_fit = sym c.is_sized.ensures ∙ c.if-not-is_sized.false; is_mounted = sym c.is_mounted.ensures ∙ c.if-not-is_mounted.false; logical_below = c.if-g-logical.false; page_below = c.if-g-page.false; buffer_long = c.if-buffer-g.false }))
